-- The journal as a certificate: the line of each commit, and that a certificate has room for it.
use Rattle.world.proofs.Common.{◌<◌, ◌∷◌, ◌≡◌, Config, IsReached, List, Option, Reply, Some, World, [], ap, arith, length, none-some, opening_world, same_Some, slice_get, subst, suc, take, zero, ℕ}
use Rattle.std.proofs.Common.{map}
use Rattle.std.specs.List.{AllByRecursion}
use Rattle.std.proofs.Math.Logic.{∥∥₁_elim}
use Rattle.std.proofs.Props.{props}
use Rattle.std.proofs.lemmas.List.{length-map, length-take-le}
use Rattle.rmm_spec.specs.declared.line.Line.{Line}
use Rattle.rmm_spec.specs.declared.line.Line.TheVariants.{Keep, Unfinished}
use Rattle.rmm_spec.specs.declared.reply.Reply.TheVariants as reply
use Rattle.rmm_spec.specs.CommandText.{IsReply}
use Rattle.rmm_spec.specs.HistoryText.{IsConfig}
use Rattle.rmm_spec.specs.CertificateText.{IsLine, IsCertificate}
use Rattle.rmm_spec.specs.Linearization.{IsKnown}
use Rattle.rmm_spec.specs.World.{Commitment, line_for, certificate_of}
use Rattle.world_laws.proofs.Turned.{moves_of_turns}
use Rattle.world_laws.proofs.Recorded.{IsAccounted-HappenAll, IsAccounted-opening}
use Rattle.world.proofs.Reached.{written-reached}
use Rattle.lemmas.proofs.Elements.{slice_get-map_to}

-- what holds of all elements holds of the one at a place
at_place : {X : Type 0} (P : X → Type 0) (xs : List X) (place : ℕ) (x : X) → AllByRecursion P xs → slice_get xs place ≡ Some x → P x
at_place P [] place x all is = absurd (none-some x is)
at_place P (first ∷ xs) zero x all is = subst P (same_Some first x is) all.0
at_place P (first ∷ xs) (suc place) x all is = at_place P xs place x all.1 is

pub IsReply-single : (reply : Reply) → IsProp (IsReply reply)
IsReply-single (reply.Ok words) = hlevel props
IsReply-single (reply.Err status index) = hlevel props
IsReply-single reply.Misplaced = hlevel props

IsLine-single : (line : Line) → IsProp (IsLine line)
IsLine-single (Keep cpu number) = hlevel props
IsLine-single (Unfinished cpu number given) = hlevel (props, IsReply-single)

module _ (config : Config) (w : World) (waits : ℕ → Option ℕ) (reached : ∥ IsReached config w waits ∥₁) where
  -- a commit is of a known call
  pub known-reached : (place : ℕ) (c : Commitment) → slice_get w.journal place ≡ Some c → ¬ ¬ IsKnown w.events c.cpu c.number
  known-reached place c at unknown = ∥∥₁_elim reached (λ x y. absurd x) (λ (r : IsReached config w waits).
      let moves = moves_of_turns (opening_world config r.programs) r.turns w r.run in
      let accounted = IsAccounted-HappenAll (opening_world config r.programs) moves.0 w (IsAccounted-opening config r.programs) moves.1 in
      let called = accounted.recorded.commits.called place c at in unknown (called.0, c.command, called.1))

  -- its certificate is in the grammar
  certificate-reached : IsConfig config → IsCertificate (certificate_of w)
  certificate-reached is_config =
      ∥∥₁_elim reached (hlevel (props, IsLine-single)) (λ (r : IsReached config w waits). (written-reached config w waits is_config r).1)

  -- so each commit's line may stand there
  pub line-reached : (place : ℕ) (c : Commitment) → IsConfig config → slice_get w.journal place ≡ Some c → IsLine (line_for w.events c)
  line-reached place c is_config at =
      at_place IsLine (certificate_of w) place (line_for w.events c) (certificate-reached is_config).each
      (slice_get-map_to (line_for w.events) w.journal place c at)

  -- and the lines of the commits before it leave room for it
  pub room-reached : (place : ℕ) (lines : List Line)
      → IsConfig config → place < length w.journal → lines ≡ map (line_for w.events) (take place w.journal)
      → length lines < 1000000
  room-reached place lines is_config within are =
      omega (
        arith,
        within,
        (certificate-reached is_config).count,
        length-map w.journal (line_for w.events),
        ap length are,
        length-map (take place w.journal) (line_for w.events),
        length-take-le place w.journal (omega (arith, within)),
      )
