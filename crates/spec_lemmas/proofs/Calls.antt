-- Calls and their places: each call has one place and one return, so what is said of a call is determined.
use Rattle.std.proofs.Common.{◌≡◌, ℕ, List, Some, sym, ◌∙◌, ap, [], ◌∷◌, ◌++◌, ◌⊎◌, inl, inr}
use Rattle.std.specs.List.{slice_get}
use Rattle.rmm_spec.specs.declared.command.Command.{Command}
use Rattle.rmm_spec.specs.declared.event.Event.{Event}
use Rattle.rmm_spec.specs.declared.event.Event.TheVariants.{Called, Returned}
use Rattle.rmm_spec.specs.declared.line.Line.{Line}
use Rattle.rmm_spec.specs.declared.line.Line.TheVariants.{Keep, Unfinished}
use Rattle.rmm_spec.specs.declared.reply.Reply.{Reply}
use Rattle.rmm_spec.specs.Run.{JournalEntry}
use Rattle.rmm_spec.specs.Linearization.{IsCalled, IsReturned, IsKnown, IsFinished, IsReplyOf, IsEntryOf, cpu_named, number_named, IsNamed}
use Rattle.rmm_spec.specs.HistoryText.{History, IsHistory}
use Rattle.spec_lemmas.proofs.Places.{one_call_place, one_return_place, finished_is_known}
use Rattle.lemmas.proofs.Elements.{slice_get_push_cases}

-- each call has one place and at most one return, and no return is of a call that nobody made
pub record HasOnePlaces (events : List Event) : Type 0 where
  pub one_call : (place other cpu number : ℕ) (command made : Command) → IsCalled events place cpu number command
      → IsCalled events other cpu number made → place ≡ other
  pub one_return : (place other cpu number : ℕ) (given told : Reply) → IsReturned events place cpu number given
      → IsReturned events other cpu number told → place ≡ other
  pub is_known : (cpu number : ℕ) → IsFinished events cpu number → IsKnown events cpu number

-- what is told of the place of a call or of a return is that call's
pub told_at_call : (events : List Event) (place cpu number : ℕ) (command : Command) → (made : Command) × IsCalled events place cpu number made
    → (c : ℕ) × (n : ℕ) × IsCalled events place c n command → IsCalled events place cpu number command
told_at_call events place cpu number command here there =
    let both : Some (Called cpu number here.0) ≡ Some (Called there.0 there.1 command) = sym here.1 ∙ there.2 in
    let same : here.0 ≡ command = cc in
    here.1 ∙ ap (λ (m : Command). Some (Called cpu number m)) same

pub told_at_return : (events : List Event) (place cpu number : ℕ) (given : Reply) → (told : Reply) × IsReturned events place cpu number told
    → (c : ℕ) × (n : ℕ) × IsReturned events place c n given → IsReturned events place cpu number given
told_at_return events place cpu number given here there =
    let both : Some (Returned cpu number here.0) ≡ Some (Returned there.0 there.1 given) = sym here.1 ∙ there.2 in
    let same : here.0 ≡ given = cc in
    here.1 ∙ ap (λ (g : Reply). Some (Returned cpu number g)) same

-- the commands of a call's places are one
pub same_command : (events : List Event) → HasOnePlaces events → (place other cpu number : ℕ) (command made : Command)
    → IsCalled events place cpu number command → IsCalled events other cpu number made → command ≡ made
same_command events one place other cpu number command made here there =
    let at = one.one_call place other cpu number command made here there in
    let both : Some (Called cpu number command) ≡ Some (Called cpu number made) =
    sym here ∙ ap (λ (p : ℕ). slice_get events p) at ∙ there in cc

-- the replies of a call's returns are one
pub same_given : (events : List Event) → HasOnePlaces events → (place other cpu number : ℕ) (given told : Reply)
    → IsReturned events place cpu number given → IsReturned events other cpu number told → given ≡ told
same_given events one place other cpu number given told here there =
    let at = one.one_return place other cpu number given told here there in
    let both : Some (Returned cpu number given) ≡ Some (Returned cpu number told) =
    sym here ∙ ap (λ (p : ℕ). slice_get events p) at ∙ there in cc

-- a line claims one reply
pub same_reply : (events : List Event) → HasOnePlaces events → (line : Line) (given told : Reply)
    → IsReplyOf events line given → IsReplyOf events line told → given ≡ told
same_reply events one (Keep cpu number) given told here there =
    same_given events one here.0 there.0 cpu number given told here.1 there.1
same_reply events one (Unfinished cpu number claimed) given told here there = here ∙ sym there

-- a line claims one commit
pub record SameEntries (entry other : JournalEntry) : Type 0 where
  pub cpu : entry.cpu ≡ other.cpu
  pub command : entry.command ≡ other.command
  pub given : entry.given ≡ other.given

pub same_entry : (events : List Event) → HasOnePlaces events → (line : Line) (entry other : JournalEntry)
    → IsEntryOf events line entry → IsEntryOf events line other → SameEntries entry other
same_entry events one line entry other here there = record {
  cpu = here.cpu ∙ sym there.cpu;
  command = same_command events one here.called there.called (cpu_named line)
      (number_named line) entry.command other.command here.is_called there.is_called;
  given = same_reply events one line entry.given other.given here.given there.given;
}

-- a history has one place for each call and each return
pub HasOnePlaces-from_history : (history : History) → IsHistory history → HasOnePlaces history.events
HasOnePlaces-from_history history is_history = record {
  one_call = λ place other cpu number command made. one_call_place cpu number history.events place other command made (is_history.records cpu);
  one_return = λ place other cpu number given told. one_return_place cpu number history.events place other given told (is_history.records cpu);
  is_known = λ cpu number. finished_is_known cpu number history.events (is_history.records cpu);
}

-- there is no other
pub IsNamed-push_cases : (lines : List Line) (line : Line) (cpu number : ℕ) → IsNamed (lines ++ line ∷ []) cpu number
    → IsNamed lines cpu number ⊎ ((cpu_named line ≡ cpu) × (number_named line ≡ number))
IsNamed-push_cases lines line cpu number named = elim (slice_get_push_cases lines line named.0 named.1 named.2) [
  | inl old ↦ inl (named.0, named.1, old, named.3, named.4)
  | inr new ↦ inr (sym (ap cpu_named new.1) ∙ named.3, sym (ap number_named new.1) ∙ named.4)
]
