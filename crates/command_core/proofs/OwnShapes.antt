-- What a command makes has the shape that its type keeps: its rows say so.
use Rattle.command_core.proofs.Common.{◌&&◌, ◌==◌, ◌≡◌, arith, Accepted, Bool, Call, Config, Err, HeldCell, Inside, List, Ok, Option, Outside, Refusal, Result, State, [], and_parts, class_of, false, if◌then◌else◌, is_none, named, not, not-true, outside_answer, realm_at, rec_at, refl, seen_state, subst, sym, true, words_of, ℕ}
use Rattle.std.proofs.lemmas.Bool.{leb-true, ltb-true}
use Rattle.rmm_spec.specs.declared.accepted.Stretch.{Stretch}
use Rattle.rmm_spec.specs.declared.accepted.StretchUse.{StretchUse}
use Rattle.rmm_spec.specs.declared.accepted.StretchUse.TheVariants.{Init, Requested}
use Rattle.rmm_spec.specs.declared.call.Call.TheVariants as call
use Rattle.rmm_spec.specs.declared.change.Change.TheVariants.{RealmMade, RealmDestroyed}
use Rattle.rmm_spec.specs.declared.condition.Condition.TheVariants.{OwnPending}
use Rattle.rmm_spec.specs.declared.refusal.Refusal.TheVariants.{Misplaced}
use Rattle.rmm_spec.specs.Call.{Class, ByHost, ByRealm, ByExit}
use Rattle.rmm_spec.specs.Rows.{Row, decided, done}
use Rattle.rmm_spec.specs.Shape.{Side, CpuPlace}
use Rattle.rmm_spec.specs.Step.{commands}
use Rattle.rmm_spec.specs.Step.Front.{with_front}
use Rattle.rmm_spec.specs.Step.RealmCall.{answer_to_realm, rec_exit}
use Rattle.rmm_spec.specs.Step.Ripas.{reached_change, stretch_change}
use Rattle.rmm_spec.specs.Walk.{entry_number}
use Rattle.spec_lemmas.proofs.Behind.{behind}
use Rattle.rmm_laws.proofs.ByRows.{AllHold, decided-accepted}
use Rattle.command_rows.specs.Answers.{host_answer, class_answer, inside_answer}
use Rattle.command_core.specs.Changed.{HasOwnShape, AcceptsOwnShape, AnswersOwnShape}
use Rattle.command_core.specs.Decided.{rows_answer}
use Rattle.command_core.specs.Sides.{are_vmids_told, are_recs_told}

-- what rows lead to has the shape, where what is done has it once all hold
by_rows : (rows : List Row) (accepted : Accepted) → (AllHold rows → AcceptsOwnShape accepted) → AnswersOwnShape (decided rows accepted)
by_rows rows accepted shaped = by (decided rows accepted) refl
  where
    by : (found : Result Accepted Refusal) → decided rows accepted ≡ found → AnswersOwnShape found
    by (Err refusal) is = tt
    by (Ok found) is = let all = decided-accepted rows accepted found is in subst AcceptsOwnShape all.1 (shaped all.0)

-- ---- outside of RECs

host-shaped : (s : State) (cpu : ℕ) (c : Call) → AllHold (with_front s c (behind s cpu c).0) → AcceptsOwnShape (behind s cpu c).1
unfolding behind words_of named
host-shaped s cpu (call.RttCreate rd rtt ipa level) (last, (aligned, (has_rd, (has_rtt, (above, others))))) =
    let below = ltb-true (realm_at s rd).start_level level above in (omega (arith, below), leb-true level 3 last)
host-shaped s cpu (call.RecCreate rd rec mpidr flags aux0 aux1) (apart, others) =
    not-true (aux0 == aux1) (and_parts (not (rec == aux0) && not (rec == aux1)) (not (aux0 == aux1)) apart).1
host-shaped s cpu _ rows = tt

answer-shaped : (s : State) (cpu : ℕ) (c : Call) (k : Class) → class_of c ≡ k → AnswersOwnShape (host_answer k s cpu c)
answer-shaped s cpu c ByHost is =
    let rest = behind s cpu c in
    subst AnswersOwnShape (sym rest.2) (by_rows (with_front s c rest.0) rest.1 (host-shaped s cpu c))
answer-shaped s cpu c _ is = tt

outside-shaped : (vmids recs : ℕ → Bool) (s : State) (cpu : ℕ) (c : Call) → AnswersOwnShape (outside_answer vmids recs s cpu c)
unfolding outside_answer
outside-shaped vmids recs s cpu (call.RealmCreate rd root width level vmid algo) =
    by_rows (with_front s (call.RealmCreate rd root width level vmid algo) _) (done [] (RealmMade rd root width level vmid algo)) (λ rows. tt)
outside-shaped vmids recs s cpu (call.RealmDestroy rd) =
    by_rows (with_front s (call.RealmDestroy rd) _) (done [] (RealmDestroyed rd _)) (λ rows. tt)
outside-shaped vmids recs s cpu c = answer-shaped s cpu c (class_of c) refl

-- ---- inside of one

call-shaped : (s : State) (rec : ℕ) (c : Call) → AnswersOwnShape (answer_to_realm s rec c)
unfolding answer_to_realm commands
call-shaped s rec (call.MeasurementRead index) = by_rows (with_front s (call.MeasurementRead index) _) _ (λ rows. tt)
call-shaped s rec (call.MeasurementExtend index size values) =
    by_rows (with_front s (call.MeasurementExtend index size values) _) _ (λ rows. tt)
call-shaped s rec call.RealmConfig = by_rows (with_front s call.RealmConfig _) _ (λ rows. tt)
call-shaped s rec (call.IpaStateSet base top ripas) = by_rows (with_front s (call.IpaStateSet base top ripas) _) _ (λ rows. tt)
call-shaped s rec (call.IpaStateGet ipa) = by_rows (with_front s (call.IpaStateGet ipa) _) _ (λ rows. tt)
call-shaped s rec (call.HostCall imm) = by_rows (with_front s (call.HostCall imm) _) _ (λ rows. tt)
call-shaped s rec call.CpuOff = by_rows (with_front s call.CpuOff _) _ (λ rows. tt)
call-shaped s rec call.SystemOff = by_rows (with_front s call.SystemOff _) _ (λ rows. tt)
call-shaped s rec _ = tt

class-shaped : (s : State) (rec : ℕ) (c : Call) (k : Class) → AnswersOwnShape (class_answer k s rec c)
unfolding rec_exit
class-shaped s rec c ByHost = tt
class-shaped s rec c ByExit = by_rows (with_front s call.Exit _) _ (λ rows. tt)
class-shaped s rec c ByRealm = by (is_none (rec_at s rec).pending)
  where
    by : (b : Bool) → AnswersOwnShape (if b then answer_to_realm s rec c else Err (Misplaced OwnPending))
    by true = call-shaped s rec c
    by false = tt

-- ---- any command

pub rows-shaped : (config : Config) (cpu : ℕ) (c : Call) (held : List HeldCell) (side : Option Side) (place : CpuPlace)
    → AnswersOwnShape (rows_answer config cpu c held side place)
unfolding inside_answer
rows-shaped config cpu c held side Outside = outside-shaped (are_vmids_told side) (are_recs_told side) (seen_state config held) cpu c
rows-shaped config cpu c held side (Inside rec rd) = class-shaped (seen_state config held) rec c (class_of c)

-- a stretch's change makes nothing
use_shaped : (purpose : StretchUse) (rd level base first last top : ℕ) → HasOwnShape (stretch_change purpose rd level base first last top)
use_shaped Init rd level base first last top = tt
use_shaped (Requested rec ripas) rd level base first last top = tt

pub reached-shaped : (stretch : Stretch) (top : ℕ) → HasOwnShape (reached_change stretch top)
unfolding reached_change
reached-shaped stretch top =
    use_shaped stretch.purpose stretch.rd stretch.level stretch.base (entry_number stretch.level stretch.base) (entry_number stretch.level top) top
