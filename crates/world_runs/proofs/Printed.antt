-- What is played from the opening, and what is printed of it.
use Rattle.std.proofs.Common.{◌≡◌, ℕ, ◌+◌, ◌-◌, ◌≤◌, ◌⊎◌, inl, inr, List, ◌++◌, length, take, refl, sym, ap, ◌∙◌, subst, arith}
use Rattle.std.specs.Prelude.{Result, Ok, Err, IfOk, ◌↔◌}
use Rattle.std.specs.declared.alloc.AllocError.{AllocError}
use Rattle.std.proofs.lemmas.List.{length-map}
use Rattle.rmm_spec.specs.declared.command.Command.{Command}
use Rattle.rmm_spec.specs.declared.line.Line.{Line}
use Rattle.rmm_spec.specs.declared.turn.Due.{Due}
use Rattle.rmm_spec.specs.declared.verdict.Verdict.{Verdict}
use Rattle.rmm_spec.specs.declared.verdict.Verdict.TheVariants.{Yes}
use Rattle.rmm_spec.specs.HistoryText.{Config, History}
use Rattle.rmm_spec.specs.Linearization.{IsLinearization}
use Rattle.rmm_spec.specs.Scenario.{Scenario}
use Rattle.rmm_spec.specs.World.{World, opening_world, history_of, certificate_of, line_for}
use Rattle.world_runs.specs.RunText.{run_text}
use Rattle.world.specs.Next.{StandsStill}
use Rattle.world_runs.specs.Played.{program_of, Plays, GoesRound, IsPlayed, IsPrinted, played_world}
use Rattle.world_runs.specs.Schedule.{ring}
use Rattle.world_runs.proofs.Turning.{Plays-append}

pub config-opening : (config : Config) (programs : ℕ → List Command) → (opening_world config programs).config ≡ config
unfolding opening_world
config-opening config programs = refl

-- the listed turns and then the ring
pub IsPlayed-from : (scenario : Scenario) (listed : List Due) (opened first w : World) → opened ≡ opening_world scenario.config (program_of scenario)
    → listed ≡ take scenario.limit scenario.turns → length listed ≤ scenario.limit → Plays opened listed first
    → first.config ≡ opened.config → GoesRound first (scenario.limit - length listed) w → IsPlayed scenario w
IsPlayed-from scenario listed opened first w is_opened is_listed few plays same round =
    let opening = opening_world scenario.config (program_of scenario) in
    let turns = take scenario.limit scenario.turns in
    let size : first.config ≡ scenario.config =
    same ∙ ap (λ (v : World). v.config) is_opened ∙ config-opening scenario.config (program_of scenario) in
    let count : length listed ≡ length turns = ap length is_listed in
    let then : Plays first (ring scenario.config.cpus round.gone) w =
    subst (λ (c : Config). Plays first (ring c.cpus round.gone) w) size round.plays in
    let start : Plays opening turns first =
    subst (λ (v : World). Plays v turns first) is_opened (subst (λ ts. Plays opened ts first) is_listed plays) in
    record {
      gone = round.gone;
      plays = Plays-append opening turns first (ring scenario.config.cpus round.gone) w start then;
      within = omega (arith, few, count, round.within);
      ends = ends count round.ends;
    }
  where
    ends : length listed ≡ length (take scenario.limit scenario.turns) → (round.gone ≡ scenario.limit - length listed) ⊎ StandsStill w
        → (length (take scenario.limit scenario.turns) + round.gone ≡ scenario.limit) ⊎ StandsStill w
    ends count (inl all) = inl (omega (arith, few, count, all))
    ends count (inr still) = inr still

-- the texts of what is played, and their verdict
pub IsPrinted-from : (scenario : Scenario) (w : World) (history : History) (lines : List Line) (old new : List ℕ) (answer : Result Verdict AllocError)
    → w ≡ played_world scenario → IsPlayed scenario w → IsLinearization (history_of w) (certificate_of w)
    → history ≡ history_of w → lines ≡ certificate_of w
    → IfOk answer (λ judged. new ≡ old ++ run_text history lines judged)
    → IfOk answer (λ judged. (judged ≡ Yes (length lines)) ↔ IsLinearization history lines)
    → IfOk answer (λ judged. (text : List ℕ) × (new ≡ old ++ text) × IsPrinted scenario judged text)
IsPrinted-from scenario w history lines old new (Ok judged) one played order is_history is_lines text valid =
    let same : IsLinearization history lines =
    subst (λ h. IsLinearization h lines) (sym is_history) (subst (λ ls. IsLinearization (history_of w) ls) (sym is_lines) order) in (
      run_text history lines judged,
      text,
      record {
        is_played = subst (IsPlayed scenario) one played;
        is_yes = valid.1 same ∙ ap (λ ls. Yes (length ls)) is_lines ∙ ap Yes (length-map w.journal (line_for w.events))
            ∙ ap (λ (v : World). Yes (length v.journal)) one;
        is_text = (λ i. run_text (is_history i) (is_lines i) judged)
            ∙ ap (λ v. run_text (history_of v) (certificate_of v) judged) one;
      },
    )
IsPrinted-from scenario w history lines old new (Err refused) one played order is_history is_lines text valid = tt
