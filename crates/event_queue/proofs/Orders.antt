-- The journal's commits beside the events, with one more of either, and as a certificate.
use Rattle.event_queue.proofs.Common.{◌≡◌, ℕ, zero, suc, ◌+◌, ◌<◌, List, [], ◌∷◌, ◌++◌, length, map, take, Some, None, refl, sym, ap, ◌∙◌, subst, arith, append-nil, length-append, ⊎_elim, slice_get, ◌==◌, eq-eqb, ne_eqb, cases_eq, nil_from_length, filter-append, none-some, same_Some, Event, Called, Returned, cpu_of, JournalEntry, AreRecorded, IsAt, count_of, numbered, Stage, Idle, Open, Committed}
use Rattle.std.proofs.Common.{Option}
use Rattle.std.specs.Prelude.{MatchOption, IfNone}
use Rattle.crossbeam_queue.specs.Fifo.{Held}
use Rattle.rmm_spec.specs.Cell.{put}
use Rattle.rmm_spec.specs.Linearization.{AreEntriesOf, IsCalled}
use Rattle.rmm_spec.specs.World.{Commitment}
use Rattle.world_laws.proofs.Recorded.{AreBelow, HasCommitted, entry_of, AreRecorded-called, AreRecorded-returned, AreRecorded-committed}
use Rattle.world_laws.proofs.Certified.{commit_of, IsOrderOf-line_for, AreEntriesOf-commits}
use Rattle.event_queue.specs.Numbered.{AreInOrder, lines_for, numbered_from}
use Rattle.event_queue.specs.Stages.{stage_after}
use Rattle.lemmas.proofs.Elements.{slice_get-append, slice_get-push}

-- ---- numbers

-- an entry as its CPU's commit of this number
abbrev pub commitment : JournalEntry → ℕ → Commitment
commitment entry number = record { cpu = entry.cpu; number = number; command = entry.command; given = entry.given }

abbrev next : (ℕ → ℕ) → JournalEntry → ℕ → ℕ
next number entry = put number entry.cpu (number entry.cpu + 1)

-- an entry counts for its own CPU
counted-first : (number : ℕ → ℕ) (entry : JournalEntry) (entries : List JournalEntry) (cpu : ℕ)
    → next number entry cpu + count_of cpu entries ≡ number cpu + count_of cpu (entry ∷ entries)
counted-first number entry entries cpu = ⊎_elim
    (λ (own : entry.cpu ≡ cpu). rw (eq-eqb cpu entry.cpu (sym own), eq-eqb entry.cpu cpu own) (omega (arith, ap number own)))
    (λ (other : entry.cpu ≡ cpu → ⊥). rw (ne_eqb cpu entry.cpu (λ own. other (sym own)), ne_eqb entry.cpu cpu other) refl)
    (cases_eq entry.cpu cpu)

-- the entry at a place has the number that its CPU has come to there
pub numbered-at : (number : ℕ → ℕ) (entries : List JournalEntry) (place : ℕ) (entry : JournalEntry) → slice_get entries place ≡ Some entry
    → slice_get (numbered_from number entries) place ≡ Some (commitment entry (number entry.cpu + count_of entry.cpu (take place entries)))
numbered-at number [] place entry at = absurd (none-some entry at)
numbered-at number (first ∷ entries) zero entry at =
    let none : number entry.cpu ≡ number entry.cpu + 0 = omega arith in
    ap (λ (e : JournalEntry). Some (commitment e (number e.cpu))) (same_Some first entry at) ∙ ap (λ n. Some (commitment entry n)) none
numbered-at number (first ∷ entries) (suc place) entry at =
    numbered-at (next number first) entries place entry at
    ∙ ap (λ n. Some (commitment entry n)) (counted-first number first (take place entries) entry.cpu)

-- one entry more has the number that its CPU has come to
numbered_from-push : (number : ℕ → ℕ) (entries : List JournalEntry) (entry : JournalEntry)
    → numbered_from number (entries ++ entry ∷ [])
    ≡ numbered_from number entries ++ commitment entry (number entry.cpu + count_of entry.cpu entries) ∷ []
numbered_from-push number [] entry = let same : number entry.cpu ≡ number entry.cpu + 0 = omega arith in ap (λ n. commitment entry n ∷ []) same
numbered_from-push number (first ∷ entries) entry =
    ap (λ cs. commitment first (number first.cpu) ∷ cs)
    (numbered_from-push (next number first) entries entry
    ∙ ap (λ n. numbered_from (next number first) entries ++ commitment entry n ∷ []) (counted-first number first entries entry.cpu))

numbered-below : (number : ℕ → ℕ) (entries : List JournalEntry) (i : ℕ) (c : Commitment) → slice_get (numbered_from number entries) i ≡ Some c
    → c.number < number c.cpu + count_of c.cpu entries
numbered-below number [] i c at = absurd (none-some c at)
numbered-below number (entry ∷ entries) zero c at =
    subst (λ (x : Commitment). x.number < number x.cpu + count_of x.cpu (entry ∷ entries)) (same_Some (commitment entry (number entry.cpu)) c at)
    (rw (eq-eqb entry.cpu entry.cpu refl) (omega arith))
numbered-below number (entry ∷ entries) (suc i) c at =
    omega (arith, numbered-below (next number entry) entries i c at, counted-first number entry entries c.cpu)

count-push : (cpu : ℕ) (entries : List JournalEntry) (entry : JournalEntry)
    → count_of cpu (entries ++ entry ∷ []) ≡ count_of cpu entries + count_of cpu (entry ∷ [])
count-push cpu entries entry =
    ap length (filter-append (λ (e : JournalEntry). e.cpu == cpu) entries (entry ∷ [])) ∙ length-append _ _

-- whoever counts one entry more
pub counted-push : (number : ℕ → ℕ) (entries : List JournalEntry) (entry : JournalEntry) → ((cpu : ℕ) → number cpu ≡ count_of cpu entries)
    → (cpu : ℕ) → put number entry.cpu (number entry.cpu + 1) cpu ≡ count_of cpu (entries ++ entry ∷ [])
counted-push number entries entry counted cpu = omega (arith, counted-first number entry [] cpu, count-push cpu entries entry, counted cpu)

pub count-push_own : (entries : List JournalEntry) (entry : JournalEntry)
    → count_of entry.cpu (entries ++ entry ∷ []) ≡ count_of entry.cpu entries + 1
count-push_own entries entry = count-push entry.cpu entries entry ∙ (rw (eq-eqb entry.cpu entry.cpu refl) refl)

pub count-push_other : (cpu : ℕ) (entries : List JournalEntry) (entry : JournalEntry)
    → (entry.cpu ≡ cpu → ⊥) → count_of cpu (entries ++ entry ∷ []) ≡ count_of cpu entries
count-push_other cpu entries entry other = count-push cpu entries entry ∙ (rw (ne_eqb entry.cpu cpu other) (omega arith))

-- ---- before anything

pub ordered-none : AreRecorded [] []
ordered-none = record {
  commits = record {
    called = λ i c is. absurd (none-some c is);
    once = λ i j c d before is. absurd (none-some c is);
    returned = λ place cpu number given is. absurd (none-some (Returned cpu number given) is);
  };
  in_time = λ i j c d before is. absurd (none-some c is);
}

-- ---- one event more

-- the next event of a CPU that is so far
abbrev pub IsNextEvent : Stage → ℕ → Event → Type 0
IsNextEvent stage commits (Called cpu number command) = number ≡ commits
IsNextEvent stage commits (Returned cpu number given) = (stage ≡ Committed given) × (suc number ≡ commits)

-- a CPU's calls have no commit with its count or a higher number
fresh : (entries : List JournalEntry) (cpu bound : ℕ) → count_of cpu entries ≡ bound → AreBelow (numbered entries) cpu bound
fresh entries cpu bound counted = record {
  below = λ i c at own. omega (arith, numbered-below (λ _. 0) entries i c at, counted, ap (λ k. count_of k entries) own);
}

pub ordered-recorded : (entries : List JournalEntry) (all : List Event) (event : Event) (stage : Stage) (commits : ℕ)
    → AreRecorded (numbered entries) all
    → count_of (cpu_of event) entries ≡ commits → IsAt stage (cpu_of event) commits entries all → IsNextEvent stage commits event
    → AreRecorded (numbered entries) (all ++ event ∷ []) × IsAt (stage_after event) (cpu_of event) commits entries (all ++ event ∷ [])
ordered-recorded entries all (Called cpu number command) stage commits old counted at is_next = (
  AreRecorded-called (numbered entries) all cpu number command old (fresh entries cpu number (counted ∙ sym is_next)),
  (
    length all,
    subst (λ n. IsCalled (all ++ Called cpu number command ∷ []) (length all) cpu n command) is_next (slice_get-push all (Called cpu number command)),
  ),
)
ordered-recorded entries all (Returned cpu number given) stage commits old counted at is_next =
    let made = subst (λ s. IsAt s cpu commits entries all) is_next.0 at in
    let same : made.0 ≡ number = omega (arith, made.1, is_next.1) in
    (AreRecorded-returned (numbered entries) all cpu number given old (subst (λ n. HasCommitted (numbered entries) cpu n given) same made.2), tt)

pub IsAt-recorded : (stage : Stage) (cpu commits : ℕ) (entries : List JournalEntry) (all : List Event) (event : Event)
    → IsAt stage cpu commits entries all → IsAt stage cpu commits entries (all ++ event ∷ [])
IsAt-recorded Idle cpu commits entries all event at = tt
IsAt-recorded (Open command) cpu commits entries all event at = (at.0, slice_get-append all (event ∷ []) at.0 (Called cpu commits command) at.1)
IsAt-recorded (Committed given) cpu commits entries all event at = at

-- ---- one commit more

module _ (entries : List JournalEntry) (all : List Event) (entry : JournalEntry) where
  longer : numbered (entries ++ entry ∷ []) ≡ numbered entries ++ commitment entry (count_of entry.cpu entries) ∷ []
  longer =
      let own : 0 + count_of entry.cpu entries ≡ count_of entry.cpu entries = omega arith in
      numbered_from-push (λ _. 0) entries entry ∙ ap (λ n. numbered entries ++ commitment entry n ∷ []) own

  pub ordered-committed : AreRecorded (numbered entries) all → IsAt (Open entry.command) entry.cpu (count_of entry.cpu entries) entries all
      → AreRecorded (numbered (entries ++ entry ∷ [])) all
  ordered-committed old called =
      subst (λ cs. AreRecorded cs all) (sym longer)
      (AreRecorded-committed (numbered entries) all (commitment entry (count_of entry.cpu entries)) called.0 old
      (fresh entries entry.cpu (count_of entry.cpu entries) refl) called.1)

  pub IsAt-own : IsAt (Committed entry.given) entry.cpu (count_of entry.cpu entries + 1) (entries ++ entry ∷ []) all
  IsAt-own =
      let commit = commitment entry (count_of entry.cpu entries) in
      let there = ap (λ cs. slice_get cs (length (numbered entries))) longer ∙ slice_get-push (numbered entries) commit in (
        count_of entry.cpu entries,
        omega arith,
        record { index = length (numbered entries); it = commit; is_it = there; is_cpu = refl; is_number = refl; is_given = refl },
      )

  pub IsAt-committed : (stage : Stage) (cpu commits : ℕ) → IsAt stage cpu commits entries all → IsAt stage cpu commits (entries ++ entry ∷ []) all
  IsAt-committed Idle cpu commits at = tt
  IsAt-committed (Open command) cpu commits at = at
  IsAt-committed (Committed given) cpu commits (number, is_last, has) =
      let there = slice_get-append (numbered entries) (commitment entry (count_of entry.cpu entries) ∷ []) has.index has.it has.is_it in
      let is_it = ap (λ cs. slice_get cs has.index) longer ∙ there in (
        number,
        is_last,
        record { index = has.index; it = has.it; is_it = is_it; is_cpu = has.is_cpu; is_number = has.is_number; is_given = has.is_given },
      )

-- ---- as a certificate

pub entries-numbered_from : (number : ℕ → ℕ) (entries : List JournalEntry) → map entry_of (numbered_from number entries) ≡ entries
entries-numbered_from number [] = refl
entries-numbered_from number (entry ∷ entries) = ap (λ es. entry ∷ es) (entries-numbered_from (next number entry) entries)

pub in_order : (entries : List JournalEntry) (events : List Event) → AreRecorded (numbered entries) events → AreInOrder events entries
in_order entries events recorded = record {
  order = IsOrderOf-line_for (numbered entries) events recorded.commits;
  real_time = λ i j line later before at later_at returns.
      let of = commit_of (numbered entries) events i line at in
      let of_later = commit_of (numbered entries) events j later later_at in
      recorded.in_time i j of.it of_later.it before of.is_it of_later.is_it
      (rw (← of.is_cpu, ← of.is_number, ← of_later.is_cpu, ← of_later.is_number) returns);
  claimed = subst (AreEntriesOf events (lines_for events entries)) (entries-numbered_from (λ _. 0) entries)
      (AreEntriesOf-commits (numbered entries) events recorded.commits);
}

-- and where nothing is queued
pub in_order-empty : (P : Event → Type 0) (Same : Type 0) (taken : Option Event) (entries journal : List JournalEntry) (drained events : List Event)
    → entries ≡ journal → drained ≡ events → MatchOption taken (Same × Held 0 (λ queued. AreRecorded (numbered entries) (drained ++ queued))) P
    → IfNone taken (AreInOrder events journal)
in_order-empty P Same (Some event) entries journal drained events same_entries same_events found = tt
in_order-empty P Same None entries journal drained events same_entries same_events found =
    let empty : drained ++ found.1.0 ≡ events =
    ap (λ (es : List Event). drained ++ es) (nil_from_length found.1.0 found.1.1) ∙ append-nil drained ∙ same_events in
    in_order journal events
    (subst (λ (y : List JournalEntry × List Event). AreRecorded (numbered y.0) y.1) (λ i. (same_entries i, empty i)) found.1.2)
