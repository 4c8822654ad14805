-- Turns one after another: one more, and where no CPU of a whole ring moved.
use Rattle.std.proofs.Common.{◌≡◌, ℕ, ◌+◌, ◌<◌, ◌%◌, inr, List, [], ◌∷◌, ◌++◌, Bool, true, false, ◌==◌, refl, sym, ap, ◌∙◌, subst, arith}
use Rattle.std.proofs.Math.Nat.{suc-mod, mod_self, mod-eq_of_lt}
use Rattle.std.proofs.Math.Numerals.{suc-eq-add-one}
use Rattle.std.proofs.lemmas.Bool.{eqb-true, eqb-false}
use Rattle.std.proofs.lemmas.List.{map-append}
use Rattle.rmm_spec.specs.HistoryText.{Config}
use Rattle.rmm_spec.specs.World.{World}
use Rattle.rmm_spec.specs.World as move
use Rattle.rmm_spec.specs.declared.turn.Due.{Due}
use Rattle.rmm_spec.specs.declared.turn.Will.{Will}
use Rattle.rmm_spec.specs.declared.turn.Will.TheVariants as told
use Rattle.rmm_spec.specs.Waits.{Report, Turns, Turn, TurnAll}
use Rattle.rmm_spec.specs.Waits as turn
use Rattle.world.specs.Next.{go_report, IsNoMove}
use Rattle.world_runs.specs.Played.{IsExact, ExactAll, Plays, Goes, GoesRound, due_of}
use Rattle.world_runs.specs.Schedule.{ring}
use Rattle.world_laws.proofs.Passed.{config-Moves}

-- ---- what is played

ExactAll-append : (old : World) (turns : List Turn) (mid : World) (more : List Turn) (new : World) → ExactAll old turns mid → ExactAll mid more new
    → ExactAll old (turns ++ more) new
ExactAll-append old [] mid more new run then = subst (λ w. ExactAll w more new) run then
ExactAll-append old (first ∷ turns) mid more new run then = (run.0, run.1, ExactAll-append run.0 turns mid more new run.2 then)

-- exact turns are turns
pub TurnAll-exact : (old : World) (turns : List Turn) (new : World) → ExactAll old turns new → TurnAll old turns new
TurnAll-exact old [] new run = run
TurnAll-exact old (first ∷ turns) new run = (run.0, run.1.turned, TurnAll-exact run.0 turns new run.2)

-- no turn
pub Plays-nil : (w : World) → Plays w [] w
Plays-nil w = record { turns = []; run = refl; in_order = refl }

-- what is played first and what is played then
pub Plays-append : (old : World) (dues : List Due) (mid : World) (others : List Due) (new : World) → Plays old dues mid → Plays mid others new
    → Plays old (dues ++ others) new
Plays-append old dues mid others new first then = record {
  turns = first.turns ++ then.turns;
  run = ExactAll-append old first.turns mid then.turns new first.run then.run;
  in_order = map-append due_of first.turns then.turns ∙ (λ i. first.in_order i ++ then.in_order i);
}

-- a turn more
pub Plays-push : (old : World) (dues : List Due) (mid : World) (last : Turn) (new : World) → Plays old dues mid → IsExact mid last new
    → Plays old (dues ++ due_of last ∷ []) new
Plays-push old dues mid last new first exact =
    Plays-append old dues mid (due_of last ∷ []) new first (record {
      turns = last ∷ [];
      run = (new, exact, refl);
      in_order = refl;
    })

-- ---- what a turn leaves

-- no turn changes the machine's size
pub config-Turns : (old : World) (cpu : ℕ) (will : Will) (report : Report) (new : World) → Turns old cpu will report new → new.config ≡ old.config
config-Turns old cpu will (turn.Did kind) new turned = config-Moves old turned.move new turned.happens.moves
config-Turns old cpu will turn.Idle new turned = ap (λ (w : World). w.config) turned.1
config-Turns old cpu told.Go (turn.Blocked granule) new turned = ap (λ (w : World). w.config) turned.1
config-Turns old cpu told.GiveUp (turn.Blocked granule) new turned = absurd turned
config-Turns old cpu told.Stop (turn.Blocked granule) new turned = absurd turned

-- a turn that made no move left the world as it was
pub same-Turns : (old : World) (cpu : ℕ) (will : Will) (report : Report) (new : World) → IsNoMove report → Turns old cpu will report new → new ≡ old
same-Turns old cpu will (turn.Did kind) new none turned = absurd none
same-Turns old cpu will turn.Idle new none turned = turned.1
same-Turns old cpu told.Go (turn.Blocked granule) new none turned = turned.1
same-Turns old cpu told.GiveUp (turn.Blocked granule) new none turned = absurd turned
same-Turns old cpu told.Stop (turn.Blocked granule) new none turned = absurd turned

-- ---- the ring

-- no CPU of the first so many would move
abbrev pub AreStill : World → ℕ → Type 0
AreStill w count = (cpu : ℕ) → cpu < count → IsNoMove (go_report w cpu)

-- one CPU more that made no move
pub AreStill-turned : (old : World) (cpu : ℕ) (report : Report) (new : World) → AreStill old cpu → IsNoMove report → report ≡ go_report old cpu
    → Turns old cpu told.Go report new → AreStill new (cpu + 1)
AreStill-turned old cpu report new still none exact turned =
    subst (λ w. AreStill w (cpu + 1)) (sym (same-Turns old cpu told.Go report new none turned)) (λ other below. by other below (other == cpu) refl)
  where
    by : (other : ℕ) → other < cpu + 1 → (b : Bool) → (other == cpu) ≡ b → IsNoMove (go_report old other)
    by other below true same = subst (λ x. IsNoMove (go_report old x)) (sym (eqb-true other cpu same)) (subst IsNoMove exact none)
    by other below false apart = still other (omega (arith, below, eqb-false other cpu apart))

-- so many turns of the ring and one more
pub ring-more : (cpus count : ℕ) → ring cpus (count + 1) ≡ ring cpus count ++ record { cpu = count % cpus; will = told.Go } ∷ []
unfolding ring
ring-more cpus count = ap (ring cpus) (sym (suc-eq-add-one count))

next_mod : (cpus count : ℕ) → (count + 1) % cpus ≡ (count % cpus + 1) % cpus
next_mod cpus count =
    ap (λ x. x % cpus) (sym (suc-eq-add-one count)) ∙ suc-mod count cpus ∙ ap (λ x. x % cpus) (suc-eq-add-one (count % cpus))

-- So many turns of the ring lead there, and next comes this CPU. In its ring no CPU before it has moved, unless that is told.
pub record IsRound (old : World) (count cpu : ℕ) (has_moved : Bool) (w : World) : Type 0 where
  pub plays : Plays old (ring old.config.cpus count) w
  pub same_config : w.config ≡ old.config
  pub is_next : cpu ≡ count % old.config.cpus
  pub within : cpu < old.config.cpus
  pub still : has_moved ≡ false → AreStill w cpu

-- before the first turn
pub round-first : (old : World) → 0 < old.config.cpus → IsRound old 0 0 false old
unfolding ring
round-first old some = record {
  plays = Plays-nil old;
  same_config = refl;
  is_next = sym (mod-eq_of_lt some);
  within = some;
  still = λ _ cpu below. absurd (omega (arith, below));
}

module _ (old mid new : World) (count cpu : ℕ) (had_moved has_moved : Bool) (round : IsRound old count cpu had_moved mid)
    (goes : Goes mid cpu had_moved has_moved new) where
  plays-more : Plays old (ring old.config.cpus (count + 1)) new
  plays-more =
      let next : Plays old (ring old.config.cpus count ++ record { cpu = count % old.config.cpus; will = told.Go } ∷ []) new =
      subst (λ c. Plays old (ring old.config.cpus count ++ record { cpu = c; will = told.Go } ∷ []) new) round.is_next
      (Plays-push old (ring old.config.cpus count) mid (record { cpu = cpu; will = told.Go; report = goes.report }) new round.plays goes.exact) in
      subst (λ dues. Plays old dues new) (sym (ring-more old.config.cpus count)) next

  same-more : new.config ≡ old.config
  same-more = config-Turns mid cpu told.Go goes.report new goes.exact.turned ∙ round.same_config

  still-more : has_moved ≡ false → AreStill new (cpu + 1)
  still-more none =
      let unmoved = goes.unmoved none in
      AreStill-turned mid cpu goes.report new (round.still unmoved.0) unmoved.1 (goes.exact.exact refl) goes.exact.turned

  next_is : (count + 1) % old.config.cpus ≡ (cpu + 1) % old.config.cpus
  next_is = next_mod old.config.cpus count ∙ ap (λ x. (x + 1) % old.config.cpus) (sym round.is_next)

  -- the next CPU's turn
  pub round-next : cpu + 1 < old.config.cpus → IsRound old (count + 1) (cpu + 1) has_moved new
  round-next more = record {
    plays = plays-more;
    same_config = same-more;
    is_next = sym (next_is ∙ mod-eq_of_lt more);
    within = more;
    still = still-more;
  }

  -- the ring begins again
  pub round-again : cpu + 1 ≡ old.config.cpus → IsRound old (count + 1) 0 false new
  round-again last = record {
    plays = plays-more;
    same_config = same-more;
    is_next = sym (next_is ∙ ap (λ x. x % old.config.cpus) last ∙ mod_self old.config.cpus);
    within = omega (arith, round.within);
    still = λ _ other below. absurd (omega (arith, below));
  }

  -- no CPU of the ring has moved
  pub GoesRound-still : (limit : ℕ) → count < limit → cpu + 1 ≡ old.config.cpus → has_moved ≡ false → GoesRound old limit new
  GoesRound-still limit within last none = record {
    gone = count + 1;
    plays = plays-more;
    within = omega (arith, within);
    ends = inr (λ other below. still-more none other (omega (arith, below, last, ap (λ (c : Config). c.cpus) same-more)));
  }
