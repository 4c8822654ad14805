-- A world whose journal and events agree is certified.
use Rattle.std.proofs.Common.{◌≡◌, ℕ, zero, suc, ◌<◌, Bool, true, false, ◌||◌, ◌==◌, if◌then◌else◌, List, [], ◌∷◌, map, Some, slice_get, refl, sym, ap, ◌∙◌, subst, ⊎_elim}
use Rattle.std.specs.List.{list_any}
use Rattle.std.proofs.lemmas.Bool.{and_parts, eqb-true, cases_order, false≢true}
use Rattle.std.proofs.lemmas.Option.{none-some, same_Some}
use Rattle.rmm_spec.specs.declared.event.Event.{Event}
use Rattle.rmm_spec.specs.declared.event.Event.TheVariants.{Called, Returned}
use Rattle.rmm_spec.specs.declared.line.Line.{Line}
use Rattle.rmm_spec.specs.declared.line.Line.TheVariants.{Keep, Unfinished}
use Rattle.rmm_spec.specs.declared.reply.Reply.{Reply}
use Rattle.rmm_spec.specs.Linearization.{IsReturned, IsFinished, IsOfItsKind, IsReplyOf, IsEntryOf, AreEntriesOf, IsOrderOf, cpu_named, number_named, IsNamed}
use Rattle.rmm_spec.specs.Flat.{flat_state}
use Rattle.rmm_spec.specs.World.{World, Commitment, is_return_of, line_for, IsCertified}
use Rattle.world_laws.proofs.Recorded.{AreCommitsOf, entry_of, IsAccounted}
use Rattle.lemmas.proofs.Elements.{slice_get-map_from, slice_get-map_to}
use Rattle.spec_lemmas.proofs.LineOf.{is_return_of-returned}

-- ---- whether a return is recorded

-- both tests say that it is the call's return
is_return_of-true : (cpu number : ℕ) (event : Event) → is_return_of cpu number event ≡ true → (given : Reply) × (event ≡ Returned cpu number given)
is_return_of-true cpu number (Called other count command) is = absurd (false≢true is)
is_return_of-true cpu number (Returned other count given) is =
    let parts = and_parts (other == cpu) (count == number) is in
    (given, ap₂' (eqb-true other cpu parts.0) (eqb-true count number parts.1))
  where
    ap₂' : other ≡ cpu → count ≡ number → Returned other count given ≡ Returned cpu number given
    ap₂' same_cpu same_number = λ i. Returned (same_cpu i) (same_number i) given

-- a recorded return is found, and what is found is one
IsFinished-from_any : (events : List Event) (cpu number : ℕ) → list_any (is_return_of cpu number) events ≡ true → IsFinished events cpu number
IsFinished-from_any [] cpu number any = absurd (false≢true any)
IsFinished-from_any (event ∷ events) cpu number any = by (is_return_of cpu number event) refl (IsFinished-from_any events cpu number) any
  where
    by : (b : Bool) → is_return_of cpu number event ≡ b → (list_any (is_return_of cpu number) events ≡ true → IsFinished events cpu number)
        → (b || list_any (is_return_of cpu number) events) ≡ true → IsFinished (event ∷ events) cpu number
    by true is later found = let here = is_return_of-true cpu number event is in (0, here.0, ap Some here.1)
    by false is later found = let there = later found in (suc there.0, there.1, there.2)

any-from_IsReturned : (events : List Event) (place cpu number : ℕ) (given : Reply) → IsReturned events place cpu number given
    → list_any (is_return_of cpu number) events ≡ true
any-from_IsReturned [] place cpu number given is = absurd (none-some (Returned cpu number given) is)
any-from_IsReturned (event ∷ events) zero cpu number given is =
    let here : is_return_of cpu number event ≡ true =
    ap (is_return_of cpu number) (same_Some event (Returned cpu number given) is) ∙ is_return_of-returned cpu number given in
    rw here refl
any-from_IsReturned (event ∷ events) (suc place) cpu number given is =
    by (is_return_of cpu number event) (any-from_IsReturned events place cpu number given is)
  where
    by : (b : Bool) → list_any (is_return_of cpu number) events ≡ true → (b || list_any (is_return_of cpu number) events) ≡ true
    by true later = refl
    by false later = later

-- ---- lines

-- a commit's line names its call
pub cpu_named-line_for : (events : List Event) (c : Commitment) → cpu_named (line_for events c) ≡ c.cpu
cpu_named-line_for events c = by (list_any (is_return_of c.cpu c.number) events)
  where
    by : (b : Bool) → cpu_named (if b then Keep c.cpu c.number else Unfinished c.cpu c.number c.given) ≡ c.cpu
    by true = refl
    by false = refl

pub number_named-line_for : (events : List Event) (c : Commitment) → number_named (line_for events c) ≡ c.number
number_named-line_for events c = by (list_any (is_return_of c.cpu c.number) events)
  where
    by : (b : Bool) → number_named (if b then Keep c.cpu c.number else Unfinished c.cpu c.number c.given) ≡ c.number
    by true = refl
    by false = refl

-- a commit's line is of its kind
IsOfItsKind-line_for : (events : List Event) (c : Commitment) → IsOfItsKind events (line_for events c)
IsOfItsKind-line_for events c = by (list_any (is_return_of c.cpu c.number) events) refl
  where
    by : (b : Bool) → list_any (is_return_of c.cpu c.number) events ≡ b
        → IsOfItsKind events (if b then Keep c.cpu c.number else Unfinished c.cpu c.number c.given)
    by true is = IsFinished-from_any events c.cpu c.number is
    by false is = λ finished. false≢true (sym is ∙ any-from_IsReturned events finished.0 c.cpu c.number finished.1 finished.2)

-- a commit, and its line
pub record IsLineOf (journal : List Commitment) (events : List Event) (i : ℕ) (line : Line) : Type 0 where
  pub it : Commitment
  pub is_it : slice_get journal i ≡ Some it
  pub is_line : line_for events it ≡ line
  pub is_cpu : cpu_named line ≡ it.cpu
  pub is_number : number_named line ≡ it.number

pub commit_of : (journal : List Commitment) (events : List Event) (i : ℕ) (line : Line) → slice_get (map (line_for events) journal) i ≡ Some line
    → IsLineOf journal events i line
commit_of journal events i line is =
    let from = slice_get-map_from (line_for events) journal i line is in
    record {
      it = from.0;
      is_it = from.1;
      is_line = from.2;
      is_cpu = sym (ap cpu_named from.2) ∙ cpu_named-line_for events from.0;
      is_number = sym (ap number_named from.2) ∙ number_named-line_for events from.0;
    }

-- two commits of one call are one
same_commit : (journal : List Commitment) (events : List Event) → AreCommitsOf journal events → (i j : ℕ) (c d : Commitment)
    → slice_get journal i ≡ Some c → slice_get journal j ≡ Some d → c.cpu ≡ d.cpu → c.number ≡ d.number → c ≡ d
same_commit journal events commits i j c d is_c is_d same_cpu same_number =
    ⊎_elim (λ (same : i ≡ j). same_Some c d (sym is_c ∙ (ap (slice_get journal) same ∙ is_d)))
    (⊎_elim
    (λ (before : i < j). absurd (commits.once i j c d before is_c is_d same_cpu same_number))
    (λ (before : j < i). absurd (commits.once j i d c before is_d is_c (sym same_cpu) (sym same_number))))
    (cases_order i j)

-- a commit's reply is that of its line
IsReplyOf-line_for : (journal : List Commitment) (events : List Event) → AreCommitsOf journal events → (i : ℕ) (c : Commitment)
    → slice_get journal i ≡ Some c → IsReplyOf events (line_for events c) c.given
IsReplyOf-line_for journal events commits i c is = by (list_any (is_return_of c.cpu c.number) events) refl
  where
    by : (b : Bool) → list_any (is_return_of c.cpu c.number) events ≡ b
        → IsReplyOf events (if b then Keep c.cpu c.number else Unfinished c.cpu c.number c.given) c.given
    by true any =
        let finished = IsFinished-from_any events c.cpu c.number any in
        let of_return = commits.returned finished.0 c.cpu c.number finished.1 finished.2 in
        let same : c ≡ of_return.1 =
        same_commit journal events commits i of_return.0 c of_return.1 is of_return.2 (sym of_return.3) (sym of_return.4) in
        let given : c.given ≡ finished.1 = ap (λ (e : Commitment). e.given) same ∙ of_return.5 in
        (finished.0, subst (λ r. IsReturned events finished.0 c.cpu c.number r) (sym given) finished.2)
    by false any = refl

-- the commits are those that the lines claim
AreEntriesOf-line_for : (events : List Event) (commits : List Commitment)
    → ((i : ℕ) (c : Commitment) → slice_get commits i ≡ Some c → IsEntryOf events (line_for events c) (entry_of c))
    → AreEntriesOf events (map (line_for events) commits) (map entry_of commits)
AreEntriesOf-line_for events [] each = tt
AreEntriesOf-line_for events (c ∷ commits) each = (each 0 c refl, AreEntriesOf-line_for events commits (λ i d is. each (suc i) d is))

IsEntryOf-line_for : (journal : List Commitment) (events : List Event) → AreCommitsOf journal events → (i : ℕ) (c : Commitment)
    → slice_get journal i ≡ Some c → IsEntryOf events (line_for events c) (entry_of c)
IsEntryOf-line_for journal events commits i c is =
    let call = commits.called i c is in
    record {
      cpu = sym (cpu_named-line_for events c);
      called = call.0;
      is_called = rw (cpu_named-line_for events c, number_named-line_for events c) call.1;
      given = IsReplyOf-line_for journal events commits i c is;
    }

-- a commit of a call is a line that names it
IsNamed-commit : (journal : List Commitment) (events : List Event) (i : ℕ) (c : Commitment) (cpu number : ℕ) → slice_get journal i ≡ Some c
    → c.cpu ≡ cpu → c.number ≡ number → IsNamed (map (line_for events) journal) cpu number
IsNamed-commit journal events i c cpu number is same_cpu same_number = (
  i,
  line_for events c,
  slice_get-map_to (line_for events) journal i c is,
  cpu_named-line_for events c ∙ same_cpu,
  number_named-line_for events c ∙ same_number,
)

-- commits of the events, written as lines, are an order of them
pub IsOrderOf-line_for : (journal : List Commitment) (events : List Event)
    → AreCommitsOf journal events → IsOrderOf events (map (line_for events) journal)
IsOrderOf-line_for journal events commits = record {
  names = record {
    known = λ i line is.
        let of = commit_of journal events i line is in
        let call = commits.called i of.it of.is_it in
        (call.0, of.it.command, rw (of.is_cpu, of.is_number) call.1);
    kinds = λ i line is.
        let of = commit_of journal events i line is in subst (IsOfItsKind events) of.is_line (IsOfItsKind-line_for events of.it);
    once = λ i j line other before is is_other same.
        let of = commit_of journal events i line is in
        let of_other = commit_of journal events j other is_other in
        commits.once i j of.it of_other.it before of.is_it of_other.is_it
        (sym of.is_cpu ∙ (same.0 ∙ of_other.is_cpu)) (sym of.is_number ∙ (same.1 ∙ of_other.is_number));
  };
  complete = λ cpu number finished.
      let of = commits.returned finished.0 cpu number finished.1 finished.2 in
      IsNamed-commit journal events of.0 of.1 cpu number of.2 of.3 of.4;
}

-- and they are what those lines claim
pub AreEntriesOf-commits : (journal : List Commitment) (events : List Event) → AreCommitsOf journal events
    → AreEntriesOf events (map (line_for events) journal) (map entry_of journal)
AreEntriesOf-commits journal events commits = AreEntriesOf-line_for events journal (IsEntryOf-line_for journal events commits)

-- ---- worlds

pub IsCertified-accounted : (w : World) → IsAccounted w → IsCertified w
IsCertified-accounted w accounted = record {
  linearization = record {
    order = IsOrderOf-line_for w.journal w.events accounted.recorded.commits;
    real_time = λ i j line later before is is_later returns.
        let of = commit_of w.journal w.events i line is in
        let of_later = commit_of w.journal w.events j later is_later in
        accounted.recorded.in_time i j of.it of_later.it before of.is_it of_later.is_it
        (rw (← of.is_cpu, ← of.is_number, ← of_later.is_cpu, ← of_later.is_number) returns);
    entries = map entry_of w.journal;
    last = flat_state w.config w.cells;
    run = record {
      claimed = AreEntriesOf-commits w.journal w.events accounted.recorded.commits;
      run = accounted.run;
    };
  };
  is_flat = refl;
}
