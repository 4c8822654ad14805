-- Where a CPU stands after its next event.
use Rattle.event_queue.proofs.Common.{◌≡◌, ℕ, ◌+◌, ◌≤◌, Bool, true, false, if◌then◌else◌, List, [], ◌∷◌, ◌++◌, length, Some, None, refl, arith, sym, ap, ◌∙◌, subst, eq-eqb, false≢true, Command, Reply, Event, Called, Returned, IsRecord, Page, recorded, Stage, Idle, Open, Committed}
use Rattle.std.proofs.Common.{◌-◌, ◌*◌}
use Rattle.std.specs.Prelude.{is_some}
use mir.Val.{bool_byte}
use Rattle.rmm_spec.specs.HistoryText.{Stand, start, stand_from}
use Rattle.spec_lemmas.proofs.Places.{length-stand_from, open_count}
use Rattle.spec_lemmas.proofs.Records.{stand_from-push_at}
use Rattle.event_queue.specs.Pages.{IsSeated, IsStage}
use Rattle.event_queue.proofs.Orders.{IsNextEvent}

-- a CPU that has called so often, with an open call or without
abbrev standing : List Event → ℕ → Bool → Type 0
standing events next is_open = stand_from start events ≡ Some (record { next = next; is_open = is_open })

-- after its next call
stand-called : (events : List Event) (cpu next : ℕ) (command : Command)
    → standing events next false → standing (events ++ Called cpu next command ∷ []) (next + 1) true
stand-called events cpu next command leads =
    stand_from-push_at events (Called cpu next command) (record { next = next; is_open = false }) leads
    ∙ ap (λ b. if b then Some (record { next = next + 1; is_open = true }) else None) (eq-eqb next next refl)

-- a CPU with an open call has called
some_called : (events : List Event) (next : ℕ) → standing events next true → 1 ≤ next
some_called events next leads = omega (arith, length-stand_from start events (record { next = next; is_open = true }) leads)

-- after the open call returned
stand-returned : (events : List Event) (cpu next : ℕ) (given : Reply) → standing events next true
    → standing (events ++ Returned cpu (next - 1) given ∷ []) next false
stand-returned events cpu next given leads =
    let same : next - 1 + 1 ≡ next = omega (arith, some_called events next leads) in
    stand_from-push_at events (Returned cpu (next - 1) given) (record { next = next; is_open = true }) leads
    ∙ ap (λ b. if b then Some (record { next = next; is_open = false }) else None) (eq-eqb (next - 1 + 1) next same)

-- an open call as a number
open_byte : (is_open : Bool) → bool_byte is_open ≡ open_count is_open
open_byte true = refl
open_byte false = refl

-- how many events lead to where a CPU stands
pub count_from_stand : (events : List Event) (stand : Stand) (next opened : ℕ) (is_open : Bool) → stand_from start events ≡ Some stand
    → next ≡ stand.next → opened ≡ bool_byte is_open → is_open ≡ stand.is_open → 2 * next ≡ length events + opened
count_from_stand events stand next opened is_open leads is_next is_opened is_stand =
    let same = is_opened ∙ open_byte is_open ∙ ap open_count is_stand in
    omega (arith, length-stand_from start events stand leads, same)

-- ---- the page of a CPU

-- The event is the next of the CPU with this page, which stands so after it.
pub record CanRecord (page : Page) (event : Event) (cpu next : ℕ) (is_open : Bool) : Type 0 where
  pub goes_on : IsRecord (page.events ++ event ∷ [])
  pub is_next : IsNextEvent page.stage page.commits event
  pub seated : (new : Page) → new ≡ recorded page event → IsSeated new cpu next is_open

-- a CPU that is closed has committed each call
closed_commits : (stage : Stage) (commits next : ℕ) → IsStage stage commits next false → commits ≡ next
closed_commits Idle commits next is = is.0
closed_commits (Open command) commits next is = absurd (false≢true is.1)
closed_commits (Committed given) commits next is = is.0

-- and it can call
pub can_call : (page : Page) (cpu next : ℕ) (is_open : Bool) (command : Command) → IsSeated page cpu next is_open → is_open ≡ false
    → CanRecord page (Called cpu next command) cpu (next + 1) true
can_call page cpu next is_open command seated closed =
    let old : IsSeated page cpu next false = subst (IsSeated page cpu next) closed seated in
    let commits = closed_commits page.stage page.commits next old.stage in
    let leads = stand-called page.events cpu next command old.stand in record {
      goes_on = ap is_some leads;
      is_next = sym commits;
      seated = λ new is_new. subst (λ (p : Page). IsSeated p cpu (next + 1) true) (sym is_new)
          (record { holder = old.holder; within = old.within; stand = leads; stage = (omega (arith, commits), refl) });
    }

-- a CPU that is open has called
pub open_has_called : (page : Page) (cpu next : ℕ) (is_open : Bool) → IsSeated page cpu next is_open → is_open ≡ true → 1 ≤ next
open_has_called page cpu next is_open old opened = some_called page.events next (subst (standing page.events next) opened old.stand)

-- and once it has committed, it can return
pub can_return : (page : Page) (cpu next : ℕ) (is_open : Bool) (given : Reply) → IsSeated page cpu next is_open → is_open ≡ true
    → page.stage ≡ Committed given → CanRecord page (Returned cpu (next - 1) given) cpu next false
can_return page cpu next is_open given seated opened decided =
    let old : IsSeated page cpu next true = subst (IsSeated page cpu next) opened seated in
    let is = subst (λ s. IsStage s page.commits next true) decided old.stage in
    let leads = stand-returned page.events cpu next given old.stand in record {
      goes_on = ap is_some leads;
      is_next = (decided, omega (arith, is.0, some_called page.events next old.stand));
      seated = λ new is_new. subst (λ (p : Page). IsSeated p cpu next false) (sym is_new)
          (record { holder = old.holder; within = old.within; stand = leads; stage = (is.0, refl) });
    }
