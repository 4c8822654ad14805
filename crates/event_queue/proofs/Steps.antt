-- Each step of a pass keeps the rule of the queue.
use Rattle.event_queue.proofs.Common.{◌≡◌, ◌≢◌, ℕ, zero, suc, ◌+◌, ◌==◌, true, false, eqb, if◌then◌else◌, List, [], ◌∷◌, ◌++◌, length, refl, arith, sym, ap, ◌∙◌, subst, ⊎_elim, append-nil, eq-eqb, ne_eqb, AllByRecursion, false≢true, filter-append, IsPrefix, Command, Event, Called, Returned, Reply, IsEvent, IsRecord, cpu_of, subhistory_of, JournalEntry, subhistory_of-push_same, AreRecorded, count_of, numbered, Stage, Open, Committed, Page, recorded, IsAt, ◌≤◌}
use Rattle.std.proofs.Common.{set, ◌⊎◌, inl, inr, append_assoc}
use Rattle.std.proofs.lemmas.Bool.{eqb-true, cases_Bool}
use mathlib.Core.Option.{some, some-injective, some-ne-none}
use lib.ListN.{get_elem?}
use Rattle.crossbeam_queue.specs.Fifo.{Pushes, Pops, Forks, Merges, Learns}
use Rattle.crossbeam_queue.proofs.Lists.{at_set}
use Rattle.spec_lemmas.proofs.Records.{subhistory_of-push_other, IsRecord-front, AllByRecursion-push}
use Rattle.event_queue.specs.Records.{AreRecords}
use Rattle.event_queue.specs.Stages.{entry_at}
use Rattle.event_queue.specs.Pages.{Cpu, Scribe, Nobody, opening_page, nobody_page, cpu_page, journal_page, note_of, committed, entered, with_journal, without_journal, MayFindQueued, BeginsWithDrained, IsDrained}
use Rattle.event_queue.specs.Book.{Ledger, Shelf, IsCpuPage, IsScribePage, IsPage, IsKept, IsRecorded}
use Rattle.event_queue.proofs.Orders.{IsNextEvent, ordered-none, ordered-recorded, ordered-committed, IsAt-recorded, IsAt-committed, IsAt-own, count-push_own, count-push_other}

-- ---- records

-- one event more keeps what is recorded of all CPUs
are_records-push : (cpus : ℕ) (all : List Event) (event : Event)
    → AreRecords cpus all → IsEvent cpus event → IsRecord (subhistory_of (cpu_of event) (all ++ event ∷ []))
    → AreRecords cpus (all ++ event ∷ [])
are_records-push cpus all event old is_event goes_on = record {
  each = AllByRecursion-push (IsEvent cpus) all event old.each is_event;
  records = λ cpu. ⊎_elim
      (λ (same : eqb (cpu_of event) cpu ≡ true).
      subst (λ c. IsRecord (subhistory_of c (all ++ event ∷ []))) (eqb-true (cpu_of event) cpu same) goes_on)
      (λ (other : eqb (cpu_of event) cpu ≡ false). subst IsRecord (sym (subhistory_of-push_other cpu all event other)) (old.records cpu))
      (cases_Bool (eqb (cpu_of event) cpu));
}

-- with another CPU that has recorded nothing
are_records-more : (cpus : ℕ) (all : List Event) → AreRecords cpus all → AreRecords (cpus + 1) all
are_records-more cpus all old = record { each = more all old.each; records = old.records }
  where
    event_more : (event : Event) → IsEvent cpus event → IsEvent (cpus + 1) event
    event_more (Called cpu number command) is_event = (omega (arith, is_event.0), is_event.1)
    event_more (Returned cpu number given) is_event = (omega (arith, is_event.0), is_event.1)

    more : (events : List Event) → AllByRecursion (IsEvent cpus) events → AllByRecursion (IsEvent (cpus + 1)) events
    more [] each = tt
    more (event ∷ events) each = (event_more event each.0, more events each.1)

-- what stands between others
all-middle : {X : Type 0} (P : X → Type 0) (xs : List X) (x : X) (ys : List X) → AllByRecursion P (xs ++ x ∷ ys) → P x
all-middle P [] x ys each = each.0
all-middle P (first ∷ xs) x ys each = all-middle P xs x ys each.1

-- the beginning of a record is one
IsRecord-beginning : (events more : List Event) → IsRecord (events ++ more) → IsRecord events
IsRecord-beginning events [] is_record = subst IsRecord (append-nil events) is_record
IsRecord-beginning events (event ∷ more) is_record =
    IsRecord-front events event
    (IsRecord-beginning (events ++ event ∷ []) more (subst IsRecord (sym (append_assoc events (event ∷ []) more)) is_record))

-- ---- beginnings

begins_with_none : (events : List Event) → IsPrefix [] events
begins_with_none events = (events, refl)

begins_with_all : (events : List Event) → IsPrefix events events
begins_with_all events = ([], append-nil events)

begins_more : (beginning events more : List Event) → IsPrefix beginning events → IsPrefix beginning (events ++ more)
begins_more beginning events more is = (is.0 ++ more, sym (append_assoc beginning is.0 more) ∙ ap (λ (es : List Event). es ++ more) is.1)

-- a CPU's part of a beginning begins the CPU's part
begins_part : (cpu : ℕ) (beginning events : List Event)
    → IsPrefix beginning events → IsPrefix (subhistory_of cpu beginning) (subhistory_of cpu events)
begins_part cpu beginning events is =
    (subhistory_of cpu is.0, sym (filter-append (λ e. eqb (cpu_of e) cpu) beginning is.0) ∙ ap (subhistory_of cpu) is.1)

-- ---- pages

-- what is said of each page, after the page at a place was replaced
each_set : (F : ℕ → Page → Type 0) (pages : List Page) (place : ℕ) (new : Page) → F place new
    → ((other : ℕ) (page : Page) → other ≢ place → get_elem? pages other ≡ some page → F other page)
    → (other : ℕ) (page : Page) → get_elem? (set pages place new) other ≡ some page → F other page
each_set F pages place new mine others other page is = ⊎_elim
    (λ (here : (other ≡ place) × (new ≡ page)). subst (λ (y : ℕ × Page). F y.0 y.1) (λ i. (sym here.0 i, here.1 i)) mine)
    (λ (there : (other ≢ place) × (get_elem? pages other ≡ some page)). others other page there.0 there.1)
    (at_set pages place other new page is)

-- what stands where, with one page more at the end
at_push : (pages : List Page) (new page : Page) (place : ℕ) → get_elem? (pages ++ new ∷ []) place ≡ some page
    → (get_elem? pages place ≡ some page) ⊎ ((place ≡ length pages) × (new ≡ page))
at_push [] new page zero is = inr (refl, some-injective new page is)
at_push [] new page (suc place) is = absurd (some-ne-none page (sym is))
at_push (first ∷ pages) new page zero is = inl is
at_push (first ∷ pages) new page (suc place) is =
    ⊎_elim (λ before. inl before) (λ last. inr (ap suc last.0, last.1)) (at_push pages new page place is)

-- what is said of each page, with one page more at the end
each_push : (F : ℕ → Page → Type 0) (pages : List Page) (new : Page) → F (length pages) new
    → ((place : ℕ) (page : Page) → get_elem? pages place ≡ some page → F place page)
    → (place : ℕ) (page : Page) → get_elem? (pages ++ new ∷ []) place ≡ some page → F place page
each_push F pages new last before place page is = ⊎_elim
    (λ old. before place page old)
    (λ (at_end : (place ≡ length pages) × (new ≡ page)). subst (λ (y : ℕ × Page). F y.0 y.1) (λ i. (sym at_end.0 i, at_end.1 i)) last)
    (at_push pages new page place is)

scribe_no_cpu : (page : Page) (cpu : ℕ) → page.holder ≡ Scribe → page.holder ≡ Cpu cpu → ⊥
scribe_no_cpu page cpu scribe is_cpu = let same : Scribe ≡ Cpu cpu = sym scribe ∙ is_cpu in absurd (cc)

same_cpu : (page : Page) (cpu other : ℕ) → page.holder ≡ Cpu cpu → page.holder ≡ Cpu other → cpu ≡ other
same_cpu page cpu other is is_other = let same : Cpu cpu ≡ Cpu other = sym is ∙ is_other in cc

-- A page of a CPU, of the scribe or of nobody: it may keep the journal, and what it has seen begins what was drained.
module _ (ledger : Ledger) (shelf : Shelf) (all : List Event) (place : ℕ) (page : Page)
    (shelved : page.keeps ≡ true → (shelf.place ≡ place) × (page.entries ≡ shelf.entries)) (seen : IsPrefix page.seen ledger.drained) where
  of_cpu : (cpu : ℕ) → page.holder ≡ Cpu cpu → IsCpuPage ledger shelf.entries all cpu place page → IsPage ledger shelf all place page
  of_cpu cpu holder mine = (
    λ other is_other. subst (λ c. IsCpuPage ledger shelf.entries all c place page) (same_cpu page cpu other holder is_other) mine,
    λ scribe. absurd (scribe_no_cpu page cpu scribe holder),
    shelved,
    seen,
  )

  of_scribe : page.holder ≡ Scribe → IsScribePage ledger place page → IsPage ledger shelf all place page
  of_scribe holder mine = (λ cpu is_cpu. absurd (scribe_no_cpu page cpu holder is_cpu), λ _. mine, shelved, seen)

  of_nobody : page.holder ≡ Nobody → IsPage ledger shelf all place page
  of_nobody holder = (
    λ cpu is_cpu. let same : Nobody ≡ Cpu cpu = sym holder ∙ is_cpu in absurd (cc),
    λ scribe. let same : Nobody ≡ Scribe = sym holder ∙ scribe in absurd (cc),
    shelved,
    seen,
  )

unshelved : {A : Type 0} → false ≡ true → A
unshelved keeps = absurd (false≢true keeps)

-- what one page knows goes to two, of which the second stands at the end
forked : (ledger after : Ledger) (shelf kept_on : Shelf) (all : List Event)
    (pages : List Page) (place : ℕ) (left right : Page) → IsKept ledger shelf all pages
    → AreRecords after.cpus all → ((cpu : ℕ) → after.seated ≤ cpu → subhistory_of cpu all ≡ []) → AreRecorded (numbered kept_on.entries) all
    → IsPage after kept_on all place left → IsPage after kept_on all (length (set pages place left)) right
    → ((other : ℕ) (p : Page) → other ≢ place → IsPage ledger shelf all other p → IsPage after kept_on all other p)
    → IsKept after kept_on all (set pages place left ++ right ∷ [])
forked ledger after shelf kept_on all pages place left right kept are_records unseated ordered mine last others = record {
  are_records = are_records;
  unseated = unseated;
  ordered = ordered;
  each = each_push (IsPage after kept_on all) (set pages place left) right last
      (each_set (IsPage after kept_on all) pages place left mine (λ other p off is. others other p off (kept.each other p is)));
}

-- ---- the steps of the queue

pub begins : IsRecorded [] (opening_page ∷ [])
begins = (
  ledger,
  shelf,
  record {
    are_records = record { each = tt; records = λ cpu. refl };
    unseated = λ cpu none. refl;
    ordered = ordered-none;
    each = first;
  },
)
  where
    ledger : Ledger
    ledger = record { cpus = 0; seated = 0; seat = λ cpu. 0; desk = 0; drained = [] }

    shelf : Shelf
    shelf = record { place = 0; entries = [] }

    first : (place : ℕ) (page : Page) → get_elem? (opening_page ∷ []) place ≡ some page → IsPage ledger shelf [] place page
    first zero page is = subst (IsPage ledger shelf [] 0) (some-injective opening_page page is)
        (of_scribe ledger shelf [] 0 opening_page (λ _. (refl, refl)) (begins_with_none []) refl (refl, refl, refl, refl))
    first (suc place) page is = absurd (some-ne-none page (sym is))

-- a CPU records an event
pub records : (n place : ℕ) (page : Page) (event : Event)
    → page.holder ≡ Cpu (cpu_of event) → IsEvent page.cpus event → IsRecord (page.events ++ event ∷ [])
    → IsNextEvent page.stage page.commits event → Pushes IsRecorded n place page event (λ new. new ≡ recorded page event)
records n place page event holder is_event goes_on is_next queued pages room (ledger, shelf, kept) at =
    let all : List Event = ledger.drained ++ queued in
    let after : List Event = all ++ event ∷ [] in
    let old = kept.each place page at in
    let mine = old.0 (cpu_of event) holder in
    let new : Page = recorded page event in
    let own : page.events ++ event ∷ [] ≡ subhistory_of (cpu_of event) after =
    ap (λ (es : List Event). es ++ event ∷ []) mine.3 ∙ sym (subhistory_of-push_same (cpu_of event) all event refl) in
    let apart : (cpu : ℕ) → (cpu ≡ cpu_of event → ⊥) → subhistory_of cpu after ≡ subhistory_of cpu all =
    λ cpu other. subhistory_of-push_other cpu all event (ne_eqb (cpu_of event) cpu (λ same. other (sym same))) in
    let goes = ordered-recorded shelf.entries all event page.stage page.commits kept.ordered mine.4 mine.5 is_next in
    let more : after ≡ ledger.drained ++ (queued ++ event ∷ []) = append_assoc ledger.drained queued (event ∷ []) in (
      new,
      (
        ledger,
        shelf,
        subst (λ es. IsKept ledger shelf es (set pages place new)) more (record {
          are_records = are_records-push ledger.cpus all event kept.are_records
              (subst (λ cpus. IsEvent cpus event) mine.2 is_event) (subst IsRecord own goes_on);
          unseated = λ cpu none. apart cpu (λ same. let is_seated = mine.0 in omega (arith, same)) ∙ kept.unseated cpu none;
          ordered = goes.0;
          each = each_set (IsPage ledger shelf after) pages place new
              (of_cpu ledger shelf after place new old.2 old.3 (cpu_of event) holder (mine.0, mine.1, mine.2, own, mine.4, goes.1))
              (λ other p off is. let was = kept.each other p is in (
                λ cpu is_cpu.
                    let its = was.0 cpu is_cpu in (
                      its.0,
                      its.1,
                      its.2,
                      its.3 ∙ sym (apart cpu (λ same. off (sym its.1 ∙ ap ledger.seat same ∙ mine.1))),
                      its.4,
                      IsAt-recorded p.stage cpu p.commits shelf.entries all event its.5,
                    ),
                was.1,
                was.2,
                was.3,
              ));
        }),
      ),
      refl,
    )

-- what a CPU finds
pub finds : (place : ℕ) (page : Page) → Learns IsRecorded place page (MayFindQueued page)
finds place page queued pages (ledger, shelf, kept) at cpu holder =
    let old = kept.each place page at in
    let mine = old.0 cpu holder in
    record {
      drained = ledger.drained;
      is_heard = old.3;
      are_records = subst (λ cpus. AreRecords cpus (ledger.drained ++ queued)) (sym mine.2) kept.are_records;
      is_own = sym mine.3;
    }

-- the scribe takes the oldest event
pub drains : (place : ℕ) (page : Page) → page.holder ≡ Scribe → Pops IsRecorded place page (IsDrained page)
drains place page holder event queued pages (ledger, shelf, kept) at =
    let all : List Event = ledger.drained ++ event ∷ queued in
    let old = kept.each place page at in
    let mine = old.1 holder in
    let drained : List Event = ledger.drained ++ event ∷ [] in
    let after : Ledger = record ledger { drained = drained } in
    let new : Page = record page { events = page.events ++ event ∷ [] } in
    let same : all ≡ drained ++ queued = sym (append_assoc ledger.drained (event ∷ []) queued) in
    let cpu = cpu_of event in
    let beginning : IsRecord (subhistory_of cpu drained) =
    IsRecord-beginning (subhistory_of cpu drained) (subhistory_of cpu queued)
    (subst IsRecord (ap (subhistory_of cpu) same ∙ filter-append (λ e. eqb (cpu_of e) cpu) drained queued) (kept.are_records.records cpu)) in (
      new,
      (
        after,
        shelf,
        subst (λ es. IsKept after shelf es (set pages place new)) same (record {
          are_records = kept.are_records;
          unseated = kept.unseated;
          ordered = kept.ordered;
          each = each_set (IsPage after shelf all) pages place new
              (of_scribe after shelf all place new old.2 (begins_more page.seen ledger.drained (event ∷ []) old.3) holder
              (mine.0, mine.1, mine.2, ap (λ (es : List Event). es ++ event ∷ []) mine.3))
              (λ other p off is. let was = kept.each other p is in (
                was.0,
                λ scribe. absurd (off (sym (was.1 scribe).0 ∙ mine.0)),
                was.2,
                begins_more p.seen ledger.drained (event ∷ []) was.3,
              ));
        }),
      ),
      record {
        drained = refl;
        is_event = subst (λ cpus. IsEvent cpus event) (sym mine.1)
            (all-middle (IsEvent ledger.cpus) ledger.drained event queued kept.are_records.each);
        record_goes_on = subst (λ (es : List Event). IsRecord (subhistory_of cpu (es ++ event ∷ []))) (sym mine.3) beginning;
      },
    )

-- one more CPU is counted
pub counts : (place : ℕ) (page : Page) → page.holder ≡ Scribe → page.seated ≡ 0
    → Forks IsRecorded place page (record page { cpus = page.cpus + 1 }) nobody_page
counts place page holder none queued pages (ledger, shelf, kept) at =
    let all : List Event = ledger.drained ++ queued in
    let old = kept.each place page at in
    let mine = old.1 holder in
    let after : Ledger = record ledger { cpus = ledger.cpus + 1 } in
    let new : Page = record page { cpus = page.cpus + 1 } in (
      after,
      shelf,
      forked ledger after shelf shelf all pages place new nobody_page kept
          (are_records-more ledger.cpus all kept.are_records) kept.unseated kept.ordered
          (of_scribe after shelf all place new old.2 old.3 holder (mine.0, ap (λ n. n + 1) mine.1, mine.2, mine.3))
          (of_nobody after shelf all (length (set pages place new)) nobody_page unshelved (begins_with_none ledger.drained) refl)
          (λ other p off was. (
            λ cpu is_cpu. let is_seated = (was.0 cpu is_cpu).0 in absurd (omega (arith, is_seated, sym mine.2 ∙ none)),
            λ scribe. absurd (off (sym (was.1 scribe).0 ∙ mine.0)),
            was.2,
            was.3,
          )),
    )

-- the seats with one CPU's more
seats_with : (ℕ → ℕ) → ℕ → ℕ → ℕ → ℕ
seats_with seat cpu place other = if other == cpu then place else seat other

seats_with-same : (seat : ℕ → ℕ) (cpu place : ℕ) → seats_with seat cpu place cpu ≡ place
unfolding seats_with
seats_with-same seat cpu place = rw (eq-eqb cpu cpu refl) refl

seats_with-other : (seat : ℕ → ℕ) (cpu place other : ℕ) → other ≢ cpu → seats_with seat cpu place other ≡ seat other
unfolding seats_with
seats_with-other seat cpu place other apart = rw (ne_eqb other cpu apart) refl

-- the next CPU gets its page, before anything is committed
pub seats : (place : ℕ) (page : Page) → page.holder ≡ Scribe → page.keeps ≡ true → page.entries ≡ []
    → Forks IsRecorded place page (record page { seated = page.seated + 1 }) (cpu_page page.cpus page.seated)
seats place page holder keeps none queued pages (ledger, shelf, kept) at =
    let all : List Event = ledger.drained ++ queued in
    let old = kept.each place page at in
    let mine = old.1 holder in
    let new : Page = record page { seated = page.seated + 1 } in
    let last : ℕ = length (set pages place new) in
    let seat : ℕ → ℕ = seats_with ledger.seat ledger.seated last in
    let after : Ledger = record ledger { seated = ledger.seated + 1; seat = seat } in
    let right : Page = cpu_page page.cpus page.seated in (
      after,
      shelf,
      forked ledger after shelf shelf all pages place new right kept kept.are_records
          (λ cpu past. kept.unseated cpu (omega (arith, past))) kept.ordered
          (of_scribe after shelf all place new old.2 old.3 holder (mine.0, mine.1, ap (λ n. n + 1) mine.2, mine.3))
          (subst (λ cpu. IsPage after shelf all last (cpu_page page.cpus cpu)) (sym mine.2)
          (of_cpu after shelf all last (cpu_page page.cpus ledger.seated) unshelved (begins_with_none ledger.drained) ledger.seated refl (
            omega arith,
            seats_with-same ledger.seat ledger.seated last,
            mine.1,
            sym (kept.unseated ledger.seated (omega arith)),
            ap (λ (es : List JournalEntry). count_of ledger.seated es) (sym (old.2 keeps).1 ∙ none),
            tt,
          )))
          (λ other p off was. (
            λ cpu is_cpu.
                let its = was.0 cpu is_cpu in
                let is_seated = its.0 in (
                  omega (arith, is_seated),
                  seats_with-other ledger.seat ledger.seated last cpu (λ same. omega (arith, same, is_seated)) ∙ its.1,
                  its.2,
                  its.3,
                  its.4,
                  its.5,
                ),
            λ scribe. absurd (off (sym (was.1 scribe).0 ∙ mine.0)),
            was.2,
            was.3,
          )),
    )

-- the scribe writes down what was drained
pub tells : (place : ℕ) (page : Page) → page.holder ≡ Scribe → Forks IsRecorded place page page (note_of page)
tells place page holder queued pages (ledger, shelf, kept) at =
    let all : List Event = ledger.drained ++ queued in
    let old = kept.each place page at in
    let told : IsPrefix page.events ledger.drained =
    subst (λ (es : List Event). IsPrefix es ledger.drained) (sym (old.1 holder).3) (begins_with_all ledger.drained) in (
      ledger,
      shelf,
      forked ledger ledger shelf shelf all pages place page (note_of page) kept kept.are_records kept.unseated kept.ordered old
          (of_nobody ledger shelf all (length (set pages place page)) (note_of page) unshelved told refl) (λ other p off was. was),
    )

-- what two passes know comes to one of them
joined : (ledger : Ledger) (shelf after : Shelf) (all : List Event) (pages : List Page) (place : ℕ) (new : Page) (other : ℕ) (told : Page)
    → IsKept ledger shelf all pages
    → AreRecorded (numbered after.entries) all → get_elem? (set pages place new) other ≡ some told → other ≢ place
    → (IsPage ledger shelf all other told → IsPage ledger after all place new)
    → ((k : ℕ) (p : Page) → k ≢ other → get_elem? pages k ≡ some p → IsPage ledger shelf all other told → IsPage ledger after all k p)
    → IsKept ledger after all (set (set pages place new) other nobody_page)
joined ledger shelf after all pages place new other told kept ordered there apart mine others =
    let was : get_elem? pages other ≡ some told =
    ⊎_elim (λ (here : (other ≡ place) × (new ≡ told)). absurd (apart here.0))
    (λ (elsewhere : (other ≢ place) × (get_elem? pages other ≡ some told)). elsewhere.1) (at_set pages place other new told there) in
    let its = kept.each other told was in
    record {
      are_records = kept.are_records;
      unseated = kept.unseated;
      ordered = ordered;
      each = each_set (IsPage ledger after all) (set pages place new) other nobody_page
          (of_nobody ledger after all other nobody_page unshelved (begins_with_none ledger.drained) refl)
          (λ k q away at_k. each_set (λ n p. n ≢ other → IsPage ledger after all n p) pages place new (λ _. mine its)
          (λ n p off is other_than. others n p other_than is its) k q at_k away);
    }

-- a CPU takes in what the scribe wrote down
pub hears : (place : ℕ) (page : Page) (other : ℕ) (note : Page)
    → Merges IsRecorded place page other note (record page { seen = note.seen }) nobody_page
hears place page other note queued pages (ledger, shelf, kept) at apart there =
    let old = kept.each place page at in (
      ledger,
      shelf,
      joined ledger shelf shelf (ledger.drained ++ queued) pages place (record page { seen = note.seen }) other note kept kept.ordered there apart
          (λ its. (old.0, old.1, old.2, its.3)) (λ k p away is its. kept.each k p is),
    )

-- and compares it with its own list
pub compares : (place : ℕ) (page : Page) → Learns IsRecorded place page (BeginsWithDrained page)
compares place page queued pages (ledger, shelf, kept) at cpu holder =
    let old = kept.each place page at in
    subst (IsPrefix (subhistory_of cpu page.seen)) (sym (old.0 cpu holder).3)
    (begins_part cpu page.seen (ledger.drained ++ queued) (begins_more page.seen ledger.drained queued old.3))

-- ---- the steps of the journal's commits

-- they leave a page
pub lends : (place : ℕ) (page : Page) → page.keeps ≡ true → Forks IsRecorded place page (without_journal page) (journal_page page.entries)
lends place page keeps queued pages (ledger, shelf, kept) at =
    let all : List Event = ledger.drained ++ queued in
    let old = kept.each place page at in
    let left : Page = without_journal page in
    let last : ℕ = length (set pages place left) in
    let after : Shelf = record shelf { place = last } in (
      ledger,
      after,
      forked ledger ledger shelf after all pages place left (journal_page page.entries) kept kept.are_records kept.unseated kept.ordered
          (old.0, old.1, unshelved, old.3)
          (of_nobody ledger after all last (journal_page page.entries) (λ _. (refl, (old.2 keeps).1)) (begins_with_none ledger.drained) refl)
          (λ other p off was. (was.0, was.1, λ too. absurd (off (sym (was.2 too).0 ∙ (old.2 keeps).0)), was.3)),
    )

-- they come to one
pub takes : (place : ℕ) (page : Page) (other : ℕ) (journal : Page) → journal.keeps ≡ true
    → Merges IsRecorded place page other journal (with_journal page journal) nobody_page
takes place page other journal keeps queued pages (ledger, shelf, kept) at apart there =
    let old = kept.each place page at in
    let after : Shelf = record shelf { place = place } in (
      ledger,
      after,
      joined ledger shelf after (ledger.drained ++ queued) pages place (with_journal page journal) other journal kept kept.ordered there apart
          (λ its. (old.0, old.1, λ _. (refl, (its.2 keeps).1), old.3))
          (λ k p away is its. let was = kept.each k p is in
          (was.0, was.1, λ too. absurd (away (sym (was.2 too).0 ∙ (its.2 keeps).0)), was.3)),
    )

-- a CPU that has them commits its open call, and gives them away
commits-entry : (place : ℕ) (page : Page) (entry : JournalEntry) → page.holder ≡ Cpu entry.cpu → page.keeps ≡ true → page.stage ≡ Open entry.command
    → Forks IsRecorded place page (committed entry.given page) (journal_page (page.entries ++ entry ∷ []))
commits-entry place page entry holder keeps deciding queued pages (ledger, shelf, kept) at =
    let all : List Event = ledger.drained ++ queued in
    let old = kept.each place page at in
    let mine = old.0 entry.cpu holder in
    let left : Page = committed entry.given page in
    let right : Page = journal_page (page.entries ++ entry ∷ []) in
    let last : ℕ = length (set pages place left) in
    let entries : List JournalEntry = shelf.entries ++ entry ∷ [] in
    let after : Shelf = record { place = last; entries = entries } in
    let called : IsAt (Open entry.command) entry.cpu (count_of entry.cpu shelf.entries) shelf.entries all =
    subst (λ (y : Stage × ℕ). IsAt y.0 entry.cpu y.1 shelf.entries all) (λ i. (deciding i, sym mine.4 i)) mine.5 in
    let count : count_of entry.cpu shelf.entries + 1 ≡ page.commits + 1 = ap (λ n. n + 1) mine.4 in (
      ledger,
      after,
      forked ledger ledger shelf after all pages place left right kept kept.are_records kept.unseated
          (ordered-committed shelf.entries all entry kept.ordered called)
          (of_cpu ledger after all place left unshelved old.3 entry.cpu holder (
            mine.0,
            mine.1,
            mine.2,
            mine.3,
            count-push_own shelf.entries entry ∙ count,
            subst (λ n. IsAt (Committed entry.given) entry.cpu n entries all) count (IsAt-own shelf.entries all entry),
          ))
          (of_nobody ledger after all last right (λ _. (refl, ap (λ (es : List JournalEntry). es ++ entry ∷ []) (old.2 keeps).1))
          (begins_with_none ledger.drained) refl)
          (λ other p off was. (
            λ cpu is_cpu.
                let its = was.0 cpu is_cpu in (
                  its.0,
                  its.1,
                  its.2,
                  its.3,
                  count-push_other cpu shelf.entries entry (λ same. off (sym its.1 ∙ ap ledger.seat (sym same) ∙ mine.1)) ∙ its.4,
                  IsAt-committed shelf.entries all entry p.stage cpu p.commits its.5,
                ),
            was.1,
            λ too. absurd (off (sym (was.2 too).0 ∙ (old.2 keeps).0)),
            was.3,
          )),
    )

pub commits : (place : ℕ) (page : Page) (said_cpu cpu : ℕ) (said given : Reply) (command : Command)
    → said_cpu ≡ cpu → said ≡ given → page.holder ≡ Cpu cpu
    → page.keeps ≡ true → page.stage ≡ Open command → Forks IsRecorded place page (committed said page) (entered said_cpu said page)
commits place page said_cpu cpu said given command same_holder same_reply holder keeps deciding =
    subst (λ (es : List JournalEntry). Forks IsRecorded place page (committed said page) (journal_page (page.entries ++ es)))
    (ap (λ (s : Stage). entry_at s said_cpu said) (sym deciding))
    (commits-entry place page (record { cpu = said_cpu; command = command; given = said }) (holder ∙ ap Cpu (sym same_holder)) keeps deciding)

-- the scribe, who has them, finds the queue empty
pub closes : (place : ℕ) (page : Page) → page.holder ≡ Scribe → page.keeps ≡ true
    → Learns IsRecorded place page (λ queued. AreRecorded (numbered page.entries) (page.events ++ queued))
closes place page holder keeps queued pages (ledger, shelf, kept) at =
    let old = kept.each place page at in
    subst (λ (y : List JournalEntry × List Event). AreRecorded (numbered y.0) (y.1 ++ queued))
    (λ i. (sym (old.2 keeps).1 i, sym (old.1 holder).3 i)) kept.ordered
