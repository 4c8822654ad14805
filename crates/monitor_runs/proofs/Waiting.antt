-- CPUs that wait for their threads, what their threads promise, and what is left when they have ended.
use Rattle.std.proofs.Common.{◌≡◌, ℕ, zero, suc, ◌+◌, ◌-◌, ◌<◌, ◌≤◌, ◌⊎◌, inl, inr, List, [], ◌∷◌, ◌++◌, length, map, Some, refl, sym, ap, ◌∙◌, subst, arith}
use Rattle.std.specs.Prelude.{slice_get, get_or, sum, option_map, All, Vec}
use Rattle.std.specs.declared.alloc.Global.{Global}
use Rattle.std.specs.List.{AllByRecursion}
use Rattle.std.proofs.lemmas.List.{length_push, length-map, same_from_push}
use Rattle.std.proofs.lemmas.List.Elements.{All-pop}
use Rattle.std.proofs.lemmas.List.Sums.{sum_by-cons}
use Rattle.std.proofs.lemmas.Option.{none-some, same_Some, slice_get_within, slice_get-map, get_or_from_slice_get}
use Rattle.rmm_spec.specs.declared.command.Command.{Command}
use Rattle.rmm_spec.specs.CommandText.{IsCommand}
use Rattle.rmm_spec.specs.HistoryText.{Config}
use Rattle.rmm_spec.specs.Scenario.{Scenario, IsScenario}
use Rattle.scenario.specs.SeenPrograms.{seen_programs}
use Rattle.commit_tickets.specs.View.{TokenView, before_commits, first_tokens}
use Rattle.event_queue.specs.View.{CpuView, before_calls, count_recorded}
use Rattle.monitor.specs.Cpus.{AreCpus}
use Rattle.monitor.specs.View.{MonitorView}
use Rattle.monitor.proofs.CpuLists.{pairs-popped}
use Rattle.monitor_runs.specs.Worked.{HasWorked, AreWaiting, IsLast, HaveWorked, promised}
use Rattle.lemmas.proofs.Elements.{slice_get-append, slice_get-push, slice_get-push_cases, map-push, element_at}
use Rattle.spec_lemmas.proofs.Texts.{commands_at}

-- ---- what a scenario says of its programs

abbrev count_all : List (List Command) → ℕ
count_all programs = sum (map length programs)

count_all-cons : (program : List Command) (programs : List (List Command)) → count_all (program ∷ programs) ≡ length program + count_all programs
count_all-cons program programs = sum_by-cons (λ (n : ℕ). n) (length program) (map length programs)

-- none has more commands than all together
fewer : (programs : List (List Command)) (cpu : ℕ) → length (get_or programs cpu []) ≤ count_all programs
fewer [] cpu = omega arith
fewer (program ∷ programs) zero = omega (arith, count_all-cons program programs)
fewer (program ∷ programs) (suc cpu) = omega (arith, count_all-cons program programs, fewer programs cpu)

-- ---- before their threads

-- all CPUs, as they are made
pub waiting-all : (monitor : MonitorView) (scenario : Scenario) (given : List (Vec Command Global)) (tokens : List TokenView) (passes : List CpuView)
    → IsScenario scenario → monitor.config ≡ scenario.config → seen_programs given ≡ scenario.programs → AreCpus monitor tokens passes
    → tokens ≡ first_tokens monitor.config.cpus → length passes ≡ monitor.config.cpus
    → ((cpu : ℕ) → cpu < monitor.config.cpus → slice_get passes cpu ≡ Some (before_calls monitor.queue monitor.config.cpus cpu))
    → AreWaiting monitor scenario.programs tokens passes given
waiting-all monitor scenario given tokens passes limits same_config same cpus fresh pass_count before = record {
  pairs = cpus.pairs;
  program_count = sym (length-map given (λ (program : Vec Command Global). program.items)) ∙ ap length same ∙ limits.programs
      ∙ ap (λ (c : Config). c.cpus) (sym same_config) ∙ sym cpus.count;
  fresh = fresh ∙ ap first_tokens (sym cpus.count);
  numbered = cpus.numbered;
  before = λ cpu pass at.
      same_Some pass _ (sym at ∙ before cpu (omega (arith, slice_get_within passes cpu pass at, pass_count)));
  each = λ cpu program at.
      let seen =
      ap (λ (programs : List (List Command)). slice_get programs cpu) (sym same) ∙ slice_get-map (λ (p : Vec Command Global). p.items) given cpu
      ∙ ap (option_map (λ (p : Vec Command Global). p.items)) at in
      sym (get_or_from_slice_get scenario.programs cpu program.items [] seen);
}

-- the last of those that wait
pub waiting-last : (monitor : MonitorView) (scenario : Scenario) (tokens : List TokenView) (passes : List CpuView) (given : List (Vec Command Global))
    (token : TokenView) (pass : CpuView) (program : Vec Command Global) → IsScenario scenario
    → AreWaiting monitor scenario.programs (tokens ++ token ∷ []) (passes ++ pass ∷ []) (given ++ program ∷ [])
    → IsLast monitor scenario.programs tokens passes given token pass program.items
waiting-last monitor scenario tokens passes given token pass program limits waiting =
    let count = length tokens in
    let pass_count : length passes ≡ count =
    omega (arith, waiting.pairs.same_count, length_push tokens token, length_push passes pass) in
    let program_count : length given ≡ count =
    omega (arith, waiting.program_count, length_push tokens token, length_push given program) in
    let same_cpu = waiting.numbered count token (slice_get-push tokens token) in
    let same_program =
    waiting.each count program (subst (λ k. slice_get (given ++ program ∷ []) k ≡ Some program) program_count (slice_get-push given program)) in
    let before = waiting.before count pass (subst (λ k. slice_get (passes ++ pass ∷ []) k ≡ Some pass) pass_count (slice_get-push passes pass)) in
    let pairs = pairs-popped monitor tokens passes token pass waiting.pairs in
    let more : length tokens + 1 ≡ suc count = omega arith in
    let fresh = same_from_push tokens (first_tokens count) token (before_commits count)
    (waiting.fresh ∙ ap first_tokens (length_push tokens token ∙ more)) in record {
      can = record {
        paired = pairs.0;
        fresh = fresh.1 ∙ ap before_commits (sym same_cpu);
        before = before ∙ ap (λ k. before_calls monitor.queue monitor.config.cpus k) (sym same_cpu);
        have_texts = subst (AllByRecursion IsCommand) (sym same_program) (commands_at scenario.programs count limits.commands);
        few = omega (arith, ap length same_program, fewer scenario.programs count, limits.few);
      };
      same_cpu = same_cpu;
      same_program = same_program;
      others = record {
        pairs = pairs.1;
        program_count = program_count;
        fresh = fresh.0;
        numbered = λ cpu t at. waiting.numbered cpu t (slice_get-append tokens (token ∷ []) cpu t at);
        before = λ cpu p at. waiting.before cpu p (slice_get-append passes (pass ∷ []) cpu p at);
        each = λ cpu p at. waiting.each cpu p (slice_get-append given (program ∷ []) cpu p at);
      };
    }

-- ---- what their threads promise

pub length-promised : (programs : List (List Command)) (cpus count : ℕ) → length (promised programs cpus count) ≡ count
length-promised programs cpus zero = refl
length-promised programs cpus (suc count) =
    omega (
      arith,
      length_push (promised programs cpus count) (cpus - suc count, get_or programs (cpus - suc count) []),
      length-promised programs cpus count,
    )

-- none is joined
pub promised-all : (programs : List (List Command)) (cpus : ℕ) (promises : List (ℕ × List Command)) → promises ≡ promised programs cpus cpus
    → promises ≡ promised programs cpus (cpus - 0)
promised-all programs cpus promises are =
    let all : cpus ≡ cpus - 0 = omega arith in
    are ∙ ap (promised programs cpus) all

-- a thread more, of the last CPU that waits
pub promised-push : {X : Type 0} (view : X → ℕ × List Command) (programs : List (List Command)) (cpus count left : ℕ) (workers : List X) (worker : X)
    → map view workers ≡ promised programs cpus count → left ≡ cpus - (count + 1) → (view worker).0 ≡ left → (view worker).1 ≡ get_or programs left []
    → map view (workers ++ worker ∷ []) ≡ promised programs cpus (count + 1)
promised-push view programs cpus count left workers worker are is_left is_cpu is_program =
    let more : suc count ≡ count + 1 = omega arith in
    let last : cpus - suc count ≡ left = ap (λ n. cpus - n) more ∙ sym is_left in
    map-push view workers worker
    ∙ (λ i. are i ++ ((is_cpu ∙ sym last) i, (is_program ∙ ap (λ k. get_or programs k []) (sym last)) i) ∷ [])
    ∙ ap (promised programs cpus) more

-- the last that was started is the first of those that were not joined
pub promised-pop : (programs : List (List Command)) (cpus joined : ℕ) (promises : List (ℕ × List Command)) (last : ℕ × List Command) → joined < cpus
    → promises ++ last ∷ [] ≡ promised programs cpus (cpus - joined)
    → (promises ≡ promised programs cpus (cpus - (joined + 1))) × (last ≡ (joined, get_or programs joined []))
promised-pop programs cpus joined promises last within are =
    let left = cpus - (joined + 1) in
    let more : cpus - joined ≡ suc left = omega (arith, within) in
    let first : cpus - suc left ≡ joined = omega (arith, within) in
    let cut = same_from_push promises (promised programs cpus left) last
    (cpus - suc left, get_or programs (cpus - suc left) []) (are ∙ ap (promised programs cpus) more) in
    (cut.0, cut.1 ∙ ap (λ k. (k, get_or programs k [])) first)

-- the threads that are left, when some were joined, with what is known of each
module _ {X : Type 0} (view : X → ℕ × List Command) (programs : List (List Command)) (cpus joined : ℕ) (old : List X) (within : joined < cpus)
    (are : map view old ≡ promised programs cpus (cpus - joined)) where
  pub joined-some : 0 < length old
  joined-some = omega (arith, within, length-map old view, ap length are, length-promised programs cpus (cpus - joined))

  pub joined-next : (P : X → Type 0) (workers : List X) (worker : X) → old ≡ workers ++ worker ∷ [] → All P old
      → P worker × All P workers × (map view workers ≡ promised programs cpus (cpus - (joined + 1)))
      × (view worker ≡ (joined, get_or programs joined []))
  joined-next P workers worker is all =
      let popped = All-pop P old workers (Some worker) is all in
      let next =
      promised-pop programs cpus joined (map view workers) (view worker) within (sym (map-push view workers worker) ∙ ap (map view) (sym is) ∙ are) in
      (popped.1, popped.0, next.0, next.1)

-- a promise that was kept
pub worked-promised : (monitor other : MonitorView) (programs : List (List Command))
    (joined : ℕ) (promise : ℕ × List Command) (token : TokenView) (pass : CpuView)
    → other ≡ monitor → promise ≡ (joined, get_or programs joined []) → HasWorked other promise.0 promise.1 token pass
    → HasWorked monitor joined (get_or programs joined []) token pass
worked-promised monitor other programs joined promise token pass same is worked =
    subst (λ (p : ℕ × List Command). HasWorked monitor p.0 p.1 token pass) is (subst (λ m. HasWorked m promise.0 promise.1 token pass) same worked)

-- ---- after their threads

-- none yet
pub worked-none : (monitor : MonitorView) (programs : List (List Command)) (tokens : List TokenView) (passes : List CpuView)
    → tokens ≡ [] → passes ≡ [] → HaveWorked monitor programs 0 tokens passes
worked-none monitor programs tokens passes no_tokens no_passes = record {
  token_count = ap length no_tokens;
  pass_count = ap length no_passes;
  each = λ cpu token pass at pass_at. absurd (none-some token (ap (λ (ts : List TokenView). slice_get ts cpu) (sym no_tokens) ∙ at));
}

-- one CPU more
pub worked-push : (monitor : MonitorView) (programs : List (List Command)) (count : ℕ) (tokens : List TokenView) (passes : List CpuView)
    (token : TokenView) (pass : CpuView)
    → HaveWorked monitor programs count tokens passes → HasWorked monitor count (get_or programs count []) token pass
    → HaveWorked monitor programs (count + 1) (tokens ++ token ∷ []) (passes ++ pass ∷ [])
worked-push monitor programs count tokens passes token pass worked more = record {
  token_count = length_push tokens token ∙ ap (λ n. n + 1) worked.token_count;
  pass_count = length_push passes pass ∙ ap (λ n. n + 1) worked.pass_count;
  each = λ cpu t p at pass_at. by cpu t p (slice_get-push_cases tokens token cpu t at) (slice_get-push_cases passes pass cpu p pass_at);
}
  where
    by : (cpu : ℕ) (t : TokenView) (p : CpuView) → (slice_get tokens cpu ≡ Some t) ⊎ ((cpu ≡ length tokens) × (token ≡ t))
        → (slice_get passes cpu ≡ Some p) ⊎ ((cpu ≡ length passes) × (pass ≡ p)) → HasWorked monitor cpu (get_or programs cpu []) t p
    by cpu t p (inl at) (inl pass_at) = worked.each cpu t p at pass_at
    by cpu t p (inl at) (inr last) = absurd (omega (arith, slice_get_within tokens cpu t at, last.0, worked.token_count, worked.pass_count))
    by cpu t p (inr last) (inl pass_at) = absurd (omega (arith, slice_get_within passes cpu p pass_at, last.0, worked.token_count, worked.pass_count))
    by cpu t p (inr last) (inr pass_last) =
        subst (λ k. HasWorked monitor k (get_or programs k []) t p) (sym (last.0 ∙ worked.token_count))
        (subst (λ x. HasWorked monitor count (get_or programs count []) x p) last.1
        (subst (λ x. HasWorked monitor count (get_or programs count []) token x) pass_last.1 more))

-- they are the CPUs that a close asks for
pub worked-cpus : (monitor : MonitorView) (programs : List (List Command)) (tokens : List TokenView) (passes : List CpuView)
    → HaveWorked monitor programs monitor.config.cpus tokens passes → AreCpus monitor tokens passes
worked-cpus monitor programs tokens passes worked = record {
  pairs = record {
    same_count = worked.pass_count ∙ sym worked.token_count;
    each = λ cpu token pass at pass_at. (worked.each cpu token pass at pass_at).paired;
  };
  count = worked.token_count;
  numbered = λ cpu token at.
      let pass = element_at passes cpu (omega (arith, slice_get_within tokens cpu token at, worked.token_count, worked.pass_count)) in
      (worked.each cpu token pass.0 at pass.1).same_cpu;
}

-- two events a command at most
recorded-le : (passes : List CpuView) (programs : List (List Command))
    → ((cpu : ℕ) (pass : CpuView) → slice_get passes cpu ≡ Some pass
    → length pass.events ≤ length (get_or programs cpu []) + length (get_or programs cpu []))
    → count_recorded passes ≤ count_all programs + count_all programs
recorded-le [] programs few = omega arith
recorded-le (pass ∷ passes) [] few =
    omega (arith, sum_by-cons (λ (p : CpuView). length p.events) pass passes, few 0 pass refl, recorded-le passes [] (λ cpu. few (suc cpu)))
recorded-le (pass ∷ passes) (program ∷ programs) few =
    omega (
      arith,
      sum_by-cons (λ (p : CpuView). length p.events) pass passes,
      few 0 pass refl,
      recorded-le passes programs (λ cpu. few (suc cpu)),
      count_all-cons program programs,
    )

-- so a history has room for all
pub worked-room : (monitor : MonitorView) (scenario : Scenario) (tokens : List TokenView) (passes : List CpuView) → IsScenario scenario
    → HaveWorked monitor scenario.programs monitor.config.cpus tokens passes → count_recorded passes < 1000000
worked-room monitor scenario tokens passes limits worked =
    omega (arith, limits.few, recorded-le passes scenario.programs (λ cpu pass at. by cpu pass at))
  where
    by : (cpu : ℕ) (pass : CpuView) → slice_get passes cpu ≡ Some pass → length pass.events
        ≤ length (get_or scenario.programs cpu []) + length (get_or scenario.programs cpu [])
    by cpu pass at =
        let token = element_at tokens cpu (omega (arith, slice_get_within passes cpu pass at, worked.token_count, worked.pass_count)) in
        let has = worked.each cpu token.0 pass token.1 at in
        omega (arith, has.few, has.begun.within.2)
