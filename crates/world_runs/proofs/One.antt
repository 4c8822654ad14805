-- A scenario leads to one world, and what is printed of it is one text.
use Rattle.std.proofs.Common.{◌≡◌, ℕ, zero, suc, ◌+◌, ◌-◌, ◌<◌, ◌%◌, inl, inr, List, [], ◌∷◌, ◌++◌, map, length, take, sym, ap, ◌∙◌, subst, arith}
use Rattle.std.proofs.lemmas.List.Sums.{fold-append}
use Rattle.std.proofs.Math.Nat.{mod-lt}
use Rattle.rmm_spec.specs.declared.turn.Due.{Due}
use Rattle.rmm_spec.specs.declared.turn.Will.TheVariants as told
use Rattle.rmm_spec.specs.declared.verdict.Verdict.{Verdict}
use Rattle.rmm_spec.specs.HistoryText.{Config}
use Rattle.rmm_spec.specs.Scenario.{Scenario}
use Rattle.rmm_spec.specs.Waits.{Turn}
use Rattle.rmm_spec.specs.World.{World, opening_world, history_of, certificate_of}
use Rattle.world_runs.specs.RunText.{run_text}
use Rattle.world.specs.Next.{StandsStill}
use Rattle.world.specs.TurnedWorld.{turned_world}
use Rattle.world.proofs.TurnedWorld.{still-gone}
use Rattle.world_runs.specs.Played.{ExactAll, Plays, IsPlayed, IsPrinted, due_of, program_of, turned_all, played_world}
use Rattle.world_runs.specs.Schedule.{ring}
use Rattle.world_runs.proofs.Printed.{config-opening}
use Rattle.world_runs.proofs.Turning.{ring-more, config-Turns}

-- ---- what is played

-- exact turns lead to one world
all-exact : (old : World) (turns : List Turn) (new : World) → ExactAll old turns new → new ≡ turned_all old (map due_of turns)
all-exact old [] new run = run
all-exact old (first ∷ turns) new run =
    all-exact run.0 turns new run.2 ∙ ap (λ w. turned_all w (map due_of turns)) run.1.is_new

pub played-all : (old : World) (dues : List Due) (new : World) → Plays old dues new → new ≡ turned_all old dues
played-all old dues new plays = all-exact old plays.turns new plays.run ∙ ap (turned_all old) plays.in_order

-- and the machine's size stays
config-exact : (old : World) (turns : List Turn) (new : World) → ExactAll old turns new → new.config ≡ old.config
config-exact old [] new run = ap (λ (w : World). w.config) run
config-exact old (first ∷ turns) new run =
    config-exact run.0 turns new run.2 ∙ config-Turns old first.cpu first.will first.report run.0 run.1.turned

-- ---- no move

-- once no go would make a move, more turns of the ring change nothing
still-ring : (start w : World) (cpus gone more : ℕ) → turned_all start (ring cpus gone) ≡ w → StandsStill w → w.config.cpus ≡ cpus → 0 < cpus
    → turned_all start (ring cpus (gone + more)) ≡ w
still-ring start w cpus gone zero there still size some = ap (λ n. turned_all start (ring cpus n)) (omega arith) ∙ there
still-ring start w cpus gone (suc more) there still size some =
    let count = gone + more in
    let cpu = count % cpus in
    let step : ring cpus (gone + suc more) ≡ ring cpus count ++ record { cpu = cpu; will = told.Go } ∷ [] =
    ap (ring cpus) (omega arith) ∙ ring-more cpus count in
    ap (turned_all start) step ∙ fold-append _ start (ring cpus count) (record { cpu = cpu; will = told.Go } ∷ [])
    ∙ ap (λ v. turned_world v cpu told.Go) (still-ring start w cpus gone more there still size some)
    ∙ still-gone w cpu (still cpu (subst (λ n. cpu < n) (sym size) (mod-lt count some)))

-- ---- one run

pub one-world : (scenario : Scenario) (w : World) → 0 < scenario.config.cpus → IsPlayed scenario w → w ≡ played_world scenario
unfolding played_world
one-world scenario w some played =
    let opening = opening_world scenario.config (program_of scenario) in
    let listed = take scenario.limit scenario.turns in
    let cpus = scenario.config.cpus in
    let rest = scenario.limit - length listed in
    let start = turned_all opening listed in
    let there : w ≡ turned_all start (ring cpus played.gone) =
    played-all opening (listed ++ ring cpus played.gone) w played.plays ∙ fold-append _ opening listed (ring cpus played.gone) in
    let size : w.config.cpus ≡ cpus =
    ap (λ (c : Config). c.cpus) (config-exact opening played.plays.turns w played.plays.run ∙ config-opening scenario.config (program_of scenario)) in
    elim played.ends [
      | inl all ↦ there ∙ ap (λ n. turned_all start (ring cpus n)) (omega (arith, all))
      | inr still ↦ sym (still-ring start w cpus played.gone (rest - played.gone) (sym there) still size some)
          ∙ ap (λ n. turned_all start (ring cpus n)) (omega (arith, played.within))
    ]

pub one-text : (scenario : Scenario) (judged other : Verdict) (text second : List ℕ)
    → IsPrinted scenario judged text → IsPrinted scenario other second
    → (judged ≡ other) × (text ≡ second)
one-text scenario judged other text second first again =
    let same = first.is_yes ∙ sym again.is_yes in
    let w = played_world scenario in (
      same,
      first.is_text ∙ ap (run_text (history_of w) (certificate_of w)) same ∙ sym again.is_text,
    )
