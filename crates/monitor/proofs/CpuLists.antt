-- The tokens and passes of all CPUs: as they are made, and with those of one CPU changed.
use Rattle.monitor.proofs.Common.{◌≡◌, ℕ, suc, ◌<◌, ◌≤◌, List, [], ◌∷◌, ◌++◌, length, take, Some, refl, sym, ap, ◌∙◌, subst, arith, inl, inr, ⊎_elim, Result, Ok, Err, slice_get, length_push, sum_by, same_Some, slice_get_within, Command, Done, TokenView, CpuView, before_calls, MonitorView, Refused, Unrecorded, ArePaired}
use Rattle.std.proofs.Common.{◌⊎◌, zero, get_or, set, drop}
use Rattle.std.proofs.lemmas.Option.{none-some, slice_get-get_or}
use Rattle.std.proofs.lemmas.List.{length-set, take_at}
use Rattle.std.proofs.lemmas.List.Sums.{sum_by-cons}
use Rattle.commit_tickets.specs.View.{before_commits, first_tokens}
use Rattle.event_queue.specs.View.{AreSeats, count_recorded}
use Rattle.monitor.specs.declared.refused.Refused.TheVariants.{Full, NoMemory, Stopped, Disagrees}
use Rattle.monitor.specs.Executed.{Leaves}
use Rattle.monitor.specs.Cpus.{ArePairs, AreCpus}
use Rattle.lemmas.proofs.Elements.{slice_get-append, slice_get-push, slice_get-push_cases}

-- ---- as they are made

length-first_tokens : (cpus : ℕ) → length (first_tokens cpus) ≡ cpus
length-first_tokens zero = refl
length-first_tokens (suc cpu) = omega (arith, length_push (first_tokens cpu) (before_commits cpu), length-first_tokens cpu)

first_tokens-at : (cpus cpu : ℕ) (token : TokenView) → slice_get (first_tokens cpus) cpu ≡ Some token → token ≡ before_commits cpu
first_tokens-at zero cpu token at = absurd (none-some token at)
first_tokens-at (suc last) cpu token at =
    ⊎_elim (λ (earlier : slice_get (first_tokens last) cpu ≡ Some token). first_tokens-at last cpu token earlier)
    (λ (here : (cpu ≡ length (first_tokens last)) × (before_commits last ≡ token)).
    sym here.1 ∙ ap before_commits (sym (here.0 ∙ length-first_tokens last)))
    (slice_get-push_cases (first_tokens last) (before_commits last) cpu token at)

paired-first : (monitor : MonitorView) (cpu : ℕ) → ArePaired monitor (before_commits cpu) (before_calls monitor.queue monitor.config.cpus cpu)
paired-first monitor cpu = record {
  same_queue = refl;
  same_cpus = refl;
  same_cpu = refl;
  closed = λ _. refl;
  running = λ _. refl;
  counted = λ _. refl;
  faultless = λ _. refl;
  few = omega arith;
}

pub cpus-first : (monitor : MonitorView) (tokens : List TokenView) (passes : List CpuView) → tokens ≡ first_tokens monitor.config.cpus
    → length passes ≡ monitor.config.cpus
    → ((cpu : ℕ) → cpu < monitor.config.cpus → slice_get passes cpu ≡ Some (before_calls monitor.queue monitor.config.cpus cpu))
    → AreCpus monitor tokens passes
cpus-first monitor tokens passes are count each =
    let token_at : (cpu : ℕ) (token : TokenView) → slice_get tokens cpu ≡ Some token → token ≡ before_commits cpu = λ cpu token at.
    first_tokens-at monitor.config.cpus cpu token (ap (λ (ts : List TokenView). slice_get ts cpu) (sym are) ∙ at) in
    let token_count = ap length are ∙ length-first_tokens monitor.config.cpus in record {
      count = token_count;
      numbered = λ cpu token at. ap (λ (t : TokenView). t.cpu) (token_at cpu token at);
      pairs = record {
        same_count = count ∙ sym token_count;
        each = λ cpu token pass at pass_at.
            let within : cpu < monitor.config.cpus = omega (arith, slice_get_within passes cpu pass pass_at, count) in
            let pass_is : before_calls monitor.queue monitor.config.cpus cpu ≡ pass = same_Some _ pass (sym (each cpu within) ∙ pass_at) in
            subst (λ t. ArePaired monitor t pass) (sym (token_at cpu token at))
            (subst (λ p. ArePaired monitor (before_commits cpu) p) pass_is (paired-first monitor cpu));
      };
    }

-- ---- at the close

-- each pass is of the monitor's queue, and of the CPU of its place
pub cpus-seats : (monitor : MonitorView) (tokens : List TokenView) (passes : List CpuView) → AreCpus monitor tokens passes
    → AreSeats monitor.queue passes
cpus-seats monitor tokens passes cpus cpu pass at =
    let token = get_or tokens cpu (before_commits cpu) in
    let token_at = slice_get-get_or tokens cpu (before_commits cpu) (omega (arith, slice_get_within passes cpu pass at, cpus.pairs.same_count)) in
    let pair = cpus.pairs.each cpu token pass token_at at in
    (pair.same_queue, pair.same_cpu ∙ cpus.numbered cpu token token_at)

-- the tokens together list no more commits than the passes have events
pub commits-le : (tokens : List TokenView) (passes : List CpuView) → length passes ≡ length tokens
    → ((k : ℕ) (t : TokenView) (p : CpuView) → slice_get tokens k ≡ Some t → slice_get passes k ≡ Some p → length t.mine ≤ length p.events)
    → sum_by (λ (t : TokenView). length t.mine) tokens ≤ count_recorded passes
commits-le [] passes same few = omega arith
commits-le (t ∷ tokens) [] same few = absurd (omega (arith, same))
commits-le (t ∷ tokens) (p ∷ passes) same few =
    omega (
      arith,
      sum_by-cons (λ (x : TokenView). length x.mine) t tokens,
      sum_by-cons (λ (x : CpuView). length x.events) p passes,
      few 0 t p refl refl,
      commits-le tokens passes (omega (arith, same)) (λ k. few (suc k)),
    )

-- tokens and passes of two CPUs are those of all
pub cpus-of_two : (monitor : MonitorView) (first second : TokenView) (first_pass second_pass : CpuView) → monitor.config.cpus ≡ 2
    → ArePaired monitor first first_pass → ArePaired monitor second second_pass → first.cpu ≡ 0 → second.cpu ≡ 1
    → AreCpus monitor (first ∷ second ∷ []) (first_pass ∷ second_pass ∷ [])
cpus-of_two monitor first second first_pass second_pass two pair second_pair is_first is_second = record {
  pairs = record { same_count = refl; each = paired_at };
  count = sym two;
  numbered = numbered_at;
}
  where
    paired_at : (cpu : ℕ) (token : TokenView) (pass : CpuView) → slice_get (first ∷ second ∷ []) cpu ≡ Some token
        → slice_get (first_pass ∷ second_pass ∷ []) cpu ≡ Some pass → ArePaired monitor token pass
    paired_at zero token pass at pass_at =
        subst (λ (p : TokenView × CpuView). ArePaired monitor p.0 p.1) (λ i. (same_Some first token at i, same_Some first_pass pass pass_at i)) pair
    paired_at (suc zero) token pass at pass_at =
        subst (λ (p : TokenView × CpuView). ArePaired monitor p.0 p.1)
        (λ i. (same_Some second token at i, same_Some second_pass pass pass_at i)) second_pair
    paired_at (suc (suc cpu)) token pass at pass_at = absurd (none-some token at)

    numbered_at : (cpu : ℕ) (token : TokenView) → slice_get (first ∷ second ∷ []) cpu ≡ Some token → token.cpu ≡ cpu
    numbered_at zero token at = ap (λ (t : TokenView). t.cpu) (sym (same_Some _ _ at)) ∙ is_first
    numbered_at (suc zero) token at = ap (λ (t : TokenView). t.cpu) (sym (same_Some _ _ at)) ∙ is_second
    numbered_at (suc (suc cpu)) token at = absurd (none-some token at)

-- ---- with one changed

-- a token stays its CPU's
pub cpu-left : (command : Command) (token new : TokenView) (pass new_pass : CpuView) (answer : Result Done Refused)
    → Leaves command token pass answer new new_pass → new.cpu ≡ token.cpu
cpu-left command token new pass new_pass (Ok done) left = ap (λ (t : TokenView). t.cpu) left.0
cpu-left command token new pass new_pass (Err (Unrecorded done)) left = ap (λ (t : TokenView). t.cpu) left.0
cpu-left command token new pass new_pass (Err NoMemory) left = ap (λ (t : TokenView). t.cpu) left.0
cpu-left command token new pass new_pass (Err Disagrees) left = ap (λ (t : TokenView). t.cpu) left.0
cpu-left command token new pass new_pass (Err Full) left = ap (λ (t : TokenView). t.cpu) left.0
cpu-left command token new pass new_pass (Err Stopped) left = ap (λ (t : TokenView). t.cpu) left.0

set_cases : {X : Type 0} (xs : List X) (i k : ℕ) (x y : X) → slice_get (set xs i x) k ≡ Some y
    → ((k ≡ i) × (y ≡ x)) ⊎ ((k ≡ i → ⊥) × (slice_get xs k ≡ Some y))
set_cases [] i k x y at = absurd (none-some y at)
set_cases (first ∷ xs) zero zero x y at = inl (refl, sym (same_Some x y at))
set_cases (first ∷ xs) zero (suc k) x y at = inr (λ same. omega (arith, same), at)
set_cases (first ∷ xs) (suc i) zero x y at = inr (λ same. omega (arith, same), at)
set_cases (first ∷ xs) (suc i) (suc k) x y at =
    ⊎_elim (λ (here : (k ≡ i) × (y ≡ x)). inl (ap suc here.0, here.1))
    (λ (there : (k ≡ i → ⊥) × (slice_get xs k ≡ Some y)). inr (λ same. there.0 (omega (arith, same)), there.1))
    (set_cases xs i k x y at)

module _ (monitor : MonitorView) (tokens : List TokenView) (passes : List CpuView) (cpu : ℕ) (token : TokenView) (pass : CpuView)
    (old : AreCpus monitor tokens passes) (same_cpu : token.cpu ≡ cpu) (pair : ArePaired monitor token pass) where
  paired-both : (k : ℕ) (t : TokenView) (p : CpuView) → ((k ≡ cpu) × (t ≡ token)) ⊎ ((k ≡ cpu → ⊥) × (slice_get tokens k ≡ Some t))
      → ((k ≡ cpu) × (p ≡ pass)) ⊎ ((k ≡ cpu → ⊥) × (slice_get passes k ≡ Some p)) → ArePaired monitor t p
  paired-both k t p (inl here) (inl pass_here) =
      subst (λ x. ArePaired monitor x p) (sym here.1) (subst (λ x. ArePaired monitor token x) (sym pass_here.1) pair)
  paired-both k t p (inl here) (inr pass_there) = absurd (pass_there.0 here.0)
  paired-both k t p (inr there) (inl pass_here) = absurd (there.0 pass_here.0)
  paired-both k t p (inr there) (inr pass_there) = old.pairs.each k t p there.1 pass_there.1

  pub cpus-set : AreCpus monitor (set tokens cpu token) (set passes cpu pass)
  cpus-set = record {
    pairs = record {
      same_count = length-set passes cpu pass ∙ old.pairs.same_count ∙ sym (length-set tokens cpu token);
      each = λ k t p at pass_at. paired-both k t p (set_cases tokens cpu k token t at) (set_cases passes cpu k pass p pass_at);
    };
    count = length-set tokens cpu token ∙ old.count;
    numbered = λ k t at. ⊎_elim (λ (here : (k ≡ cpu) × (t ≡ token)). ap (λ (x : TokenView). x.cpu) here.1 ∙ same_cpu ∙ sym here.0)
        (λ (there : (k ≡ cpu → ⊥) × (slice_get tokens k ≡ Some t)). old.numbered k t there.1) (set_cases tokens cpu k token t at);
  }

-- lent as slices and given back
pub cpus-refilled : (monitor : MonitorView) (tokens old_tokens : List TokenView) (passes old_passes : List CpuView) (token_count pass_count : ℕ)
    → AreCpus monitor tokens passes → token_count ≡ monitor.config.cpus → pass_count ≡ monitor.config.cpus
    → AreCpus monitor (take token_count (tokens ++ drop (length tokens) old_tokens)) (take pass_count (passes ++ drop (length passes) old_passes))
cpus-refilled monitor tokens old_tokens passes old_passes token_count pass_count cpus all_tokens all_passes =
    let same_tokens = take_at tokens (drop (length tokens) old_tokens) token_count (cpus.count ∙ sym all_tokens) in
    let same_passes = take_at passes (drop (length passes) old_passes) pass_count (cpus.pairs.same_count ∙ cpus.count ∙ sym all_passes) in
    subst (λ (p : List TokenView × List CpuView). AreCpus monitor p.0 p.1) (λ i. (sym same_tokens i, sym same_passes i)) cpus

-- ---- without the last

pub pairs-popped : (monitor : MonitorView) (tokens : List TokenView) (passes : List CpuView) (token : TokenView) (pass : CpuView)
    → ArePairs monitor (tokens ++ token ∷ []) (passes ++ pass ∷ []) → ArePaired monitor token pass × ArePairs monitor tokens passes
pairs-popped monitor tokens passes token pass old =
    let same : length passes ≡ length tokens = omega (arith, old.same_count, length_push tokens token, length_push passes pass) in (
      old.each (length tokens) token pass (slice_get-push tokens token)
          (subst (λ k. slice_get (passes ++ pass ∷ []) k ≡ Some pass) same (slice_get-push passes pass)),
      record {
        same_count = same;
        each = λ k t p at pass_at. old.each k t p (slice_get-append tokens (token ∷ []) k t at) (slice_get-append passes (pass ∷ []) k p pass_at);
      },
    )
