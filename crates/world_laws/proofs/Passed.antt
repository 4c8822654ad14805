-- A certified world's texts are judged Yes, and it is isolated.
use Rattle.std.proofs.Common.{◌≡◌, ℕ, ◌<◌, List, [], ◌∷◌, length, refl, sym, ap, ◌∙◌, subst}
use Rattle.std.proofs.lemmas.List.{length-map}
use Rattle.rmm_spec.specs.declared.command.Command.{Command}
use Rattle.rmm_spec.specs.declared.verdict.Verdict.TheVariants as verdict
use Rattle.rmm_spec.specs.HistoryText.{Config, IsConfig, IsHistoryText, history_text}
use Rattle.rmm_spec.specs.CertificateText.{IsCertificateText, certificate_text}
use Rattle.rmm_spec.specs.State.{State}
use Rattle.rmm_spec.specs.Flat.{flat_state}
use Rattle.rmm_spec.specs.Ownership.{IsIsolated}
use Rattle.rmm_spec.specs.Judgement.{Judges, IsIsolatedThroughout}
use Rattle.rmm_spec.specs.World as world
use Rattle.rmm_spec.specs.World.{World, Move, Moves, opening_world, HappenAll, IsCertified, history_of, certificate_of, line_for}
use Rattle.rmm_laws.proofs.Isolation.{run-isolated, isolated_throughout}
use Rattle.world_laws.proofs.Recorded.{IsAccounted, IsAccounted-HappenAll, IsAccounted-opening}
use Rattle.world_laws.proofs.Certified.{IsCertified-accounted}
use Rattle.world_laws.specs.Programs.{HaveTexts}
use Rattle.world_laws.proofs.Written.{IsWritten-run}
use Rattle.world_laws.proofs.Lines.{IsHistory-written, IsCertificate-written}

IsAccounted-run : (config : Config) (programs : ℕ → List Command) (moves : List Move) (w : World)
    → HappenAll (opening_world config programs) moves w → IsAccounted w
IsAccounted-run config programs moves w happen =
    IsAccounted-HappenAll (opening_world config programs) moves w (IsAccounted-opening config programs) happen

-- no move changes the configuration
pub config-Moves : (old : World) (move : Move) (new : World) → Moves old move new → new.config ≡ old.config
config-Moves old (world.Call cpu) new moves = ap (λ (w : World). w.config) moves.is_new
config-Moves old _ new moves = ap (λ (w : World). w.config) moves.is_new

config-HappenAll : (old : World) (moves : List Move) (last : World) → HappenAll old moves last → last.config ≡ old.config
config-HappenAll old [] last happen = ap (λ (w : World). w.config) happen
config-HappenAll old (move ∷ moves) last happen =
    config-HappenAll happen.0 moves last happen.2 ∙ config-Moves old move happen.0 happen.1.moves

config-run : (config : Config) (programs : ℕ → List Command) (moves : List Move) (w : World) → HappenAll (opening_world config programs) moves w
    → w.config ≡ config
unfolding opening_world
config-run config programs moves w happen = config-HappenAll (opening_world config programs) moves w happen

-- the texts of a run are in their grammars
pub texts-run : (config : Config) (programs : ℕ → List Command) (moves : List Move) (w : World) → IsConfig config → HaveTexts config programs
    → HappenAll (opening_world config programs) moves w → length w.events < 1000000
    → IsHistoryText (history_text (history_of w)) (history_of w) × IsCertificateText (certificate_text (certificate_of w)) (certificate_of w)
texts-run config programs moves w is_config have happen room =
    let written = IsWritten-run config programs moves w have happen in
    let same = subst (λ (c : Config). IsConfig c) (sym (config-run config programs moves w happen)) is_config in
    let is_history = IsHistory-written w same written room in (
      record { is_history = is_history; is_text = refl },
      record { is_certificate = IsCertificate-written w (IsAccounted-run config programs moves w happen) written is_history; is_text = refl },
    )

-- and Yes is true of them
pub judged-run : (config : Config) (programs : ℕ → List Command) (moves : List Move) (w : World) → IsConfig config → HaveTexts config programs
    → HappenAll (opening_world config programs) moves w → length w.events < 1000000
    → Judges (verdict.Yes (length w.journal)) (history_text (history_of w)) (certificate_text (certificate_of w))
judged-run config programs moves w is_config have happen room =
    let texts = texts-run config programs moves w is_config have happen room in
    let certified = IsCertified-accounted w (IsAccounted-run config programs moves w happen) in
    record {
      history = history_of w;
      lines = certificate_of w;
      is_history = texts.0;
      is_certificate = texts.1;
      order = record {
        linearization = certified.linearization;
        counted = sym (length-map w.journal (line_for w.events));
        isolated = isolated_throughout (history_of w) certified.linearization.entries;
      };
    }

-- each granule of a certified world is at most one realm's
pub isolated-certified : (w : World) (certified : IsCertified w) → IsIsolated certified.linearization.entries (flat_state w.config w.cells)
isolated-certified w certified =
    let of = certified.linearization in
    subst (λ (s : State). IsIsolated of.entries s) certified.is_flat (run-isolated w.config of.entries of.last of.run.run)

pub throughout-certified : (w : World) (certified : IsCertified w) → IsIsolatedThroughout (history_of w) certified.linearization.entries
throughout-certified w certified = isolated_throughout (history_of w) certified.linearization.entries
