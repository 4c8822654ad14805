-- Lines pass each other whose calls have nothing to do with each other.
use Rattle.verdict_laws.proofs.Common.{◌≡◌, ℕ, ◌+◌, true, false, List, [], ◌∷◌, ◌++◌, inr, refl, sym, ◌∙◌, ap, subst, arith, Command, Event, Line, call_of, History, State, opening, IsSound, is_named, named, Step, JournalEntry, IsRun, AreEntriesOf, IsCalled, IsEntryOf, cpu_named, number_named, count_of, is_part}
use Rattle.lemmas.proofs.Tests.{keys_apart}
use Rattle.rmm_laws.proofs.RunLaws.{run-append}
use Rattle.rmm_laws.proofs.Runs.{opened_run_sound, step_sound}
use Rattle.verdict_laws.specs.Apart.{Lends, IsApart, IsCarriedOut, LetsLend, NamesOthers}
use Rattle.verdict_laws.specs.Beside.{AreBesideLines}
use Rattle.verdict_laws.specs.Ending.{EndsApartLines, EndsLaterLines, IsLeftAlone}
use Rattle.verdict_laws.specs.Forward.{AreOpen, Gives, IsKept, Passes}
use Rattle.verdict_laws.specs.Making.{AreMadeApartLines}
use Rattle.verdict_laws.specs.Separate.{AreSeparateLines}
use Rattle.verdict_laws.proofs.Counted.{count_of-append, count_of-none}
use Rattle.verdict_laws.proofs.EndedPairs.{ended_turned}
use Rattle.verdict_laws.proofs.EndingCalls.{ending_turned}
use Rattle.verdict_laws.proofs.Entries.{entry_turned, work_turned}
use Rattle.verdict_laws.proofs.Lending.{done_lending_turned, lending_turned}
use Rattle.verdict_laws.proofs.LentBack.{lent_turned}
use Rattle.verdict_laws.proofs.MakingCalls.{made_turned}
use Rattle.verdict_laws.proofs.SeparateCalls.{separate_turned}
use Rattle.verdict_laws.proofs.SparedCalls.{step_leaves}

-- open calls are of CPUs of their own
open_apart : (events : List Event) (place : ℕ) (lines before : List Line) (line other : Line)
    → AreOpen events place lines (before ++ line ∷ other ∷ []) → ¬ (cpu_named line ≡ cpu_named other)
open_apart events place lines [] line other are_open same =
    keys_apart (cpu_named other) (cpu_named line) (count_of-none (cpu_named line) other [] are_open.1).0 (sym same)
open_apart events place lines (x ∷ before) line other are_open same = open_apart events place lines before line other are_open.2 same

-- where open calls lead behind a kept order is sound
given_sound : (history : History) (place : ℕ) (lines before : List Line) (state old : State) → IsKept history place lines state
    → Gives history.events state before old → IsSound old
given_sound history place lines before state old kept given =
    let passes = kept.reached.passes in
    opened_run_sound history.config (passes.entries ++ given.entries) old
    (run-append passes.entries given.entries (opening history.config) state old passes.run.run given.run)

-- two commits come the other way round where their steps do
gives_turned : (events : List Event) (line other : Line) (old new : State)
    → ((e f : JournalEntry) (middle : State) → IsEntryOf events line e → IsEntryOf events other f
    → Step old e.cpu e.command e.given middle → Step middle f.cpu f.command f.given new
    → (between : State) × Step old f.cpu f.command f.given between × Step between e.cpu e.command e.given new)
    → Gives events old (line ∷ other ∷ []) new → Gives events old (other ∷ line ∷ []) new
gives_turned events line other old new exchange given = turned given.entries given.claimed given.run
  where
    turned : (entries : List JournalEntry) → AreEntriesOf events (line ∷ other ∷ []) entries → IsRun old entries new
        → Gives events old (other ∷ line ∷ []) new
    turned [] claimed run = absurd claimed
    turned (e ∷ []) claimed run = absurd claimed.1
    turned (e ∷ f ∷ g ∷ more) claimed run = absurd claimed.1.1
    turned (e ∷ f ∷ []) claimed run =
        let second : Step run.0 f.cpu f.command f.given new =
        subst (λ (s : State). Step run.0 f.cpu f.command f.given s) (sym run.2.2) run.2.1 in
        let parts = exchange e f run.0 claimed.0 claimed.1.0 run.1 second in
        record {
          entries = f ∷ e ∷ [];
          claimed = (claimed.1.0, (claimed.0, tt));
          run = (parts.0, parts.1, (new, parts.2, refl));
        }

-- a line passes another where their steps on two CPUs, from a sound state, come the other way round
Passes-from_exchange : (history : History) (place : ℕ) (lines : List Line) (state : State) (line other : Line)
    → IsKept history place lines state
    → ((e f : JournalEntry) (old middle new : State) → IsEntryOf history.events line e → IsEntryOf history.events other f
    → IsSound old → ¬ (e.cpu ≡ f.cpu) → Step old e.cpu e.command e.given middle → Step middle f.cpu f.command f.given new
    → (between : State) × Step old f.cpu f.command f.given between × Step between e.cpu e.command e.given new)
    → Passes history place lines state line other
Passes-from_exchange history place lines state line other kept exchange before old new are_open earlier given =
    gives_turned history.events line other old new
    (λ e f middle one two. exchange e f old middle new one two (given_sound history place lines before state old kept earlier)
    (λ same. open_apart history.events place lines before line other are_open (sym one.cpu ∙ same ∙ two.cpu)))
    given

-- a line whose call lends a granule or takes it back passes one whose call is apart from the granule
pub Passes-from_lending : (history : History) (place : ℕ) (lines : List Line) (state : State) (line other : Line) (granule : ℕ)
    → IsKept history place lines state → Lends history.events line granule → IsApart history.events other granule
    → Passes history place lines state line other
Passes-from_lending history place lines state line other granule kept lends apart =
    Passes-from_exchange history place lines state line other kept
    (λ e f old middle new one two sound differ. lending_turned old middle new e.cpu f.cpu e.command f.command e.given f.given granule
    sound differ (lends one.called e.command one.is_called) (apart two.called f.command two.is_called))

-- where it is carried out, it passes one whose call doesn't name the granule
pub Passes-from_done_lending : (history : History) (place : ℕ) (lines : List Line) (state : State) (line other : Line) (granule : ℕ)
    → IsKept history place lines state → Lends history.events line granule → IsCarriedOut history.events line
    → NamesOthers history.events other granule → Passes history place lines state line other
Passes-from_done_lending history place lines state line other granule kept lends done others =
    Passes-from_exchange history place lines state line other kept
    (λ e f old middle new one two sound differ. done_lending_turned old middle new e.cpu f.cpu e.command f.command e.given f.given granule
    sound differ (lends one.called e.command one.is_called) (done e.given one.given) (others two.called f.command two.is_called))

-- a line whose call may as well come behind a lending passes the line of that lending, where it is carried out
pub Passes-from_lent : (history : History) (place : ℕ) (lines : List Line) (state : State) (line other : Line) (granule : ℕ)
    → IsKept history place lines state → Lends history.events other granule → IsCarriedOut history.events other
    → LetsLend history.events line other granule → Passes history place lines state line other
Passes-from_lent history place lines state line other granule kept lends done lets =
    Passes-from_exchange history place lines state line other kept
    (λ e f old middle new one two sound differ. lent_turned old middle new e.cpu f.cpu e.command f.command e.given f.given granule
    sound differ (lends two.called f.command two.is_called) (done f.given two.given)
    (lets one.called two.called e.command f.command one.is_called two.is_called))

-- so does one whose call is separate from the other's
pub Passes-from_separate : (history : History) (place : ℕ) (lines : List Line) (state : State) (line other : Line)
    → AreSeparateLines history.events line other → Passes history place lines state line other
Passes-from_separate history place lines state line other separate before old new are_open earlier given =
    gives_turned history.events line other old new
    (λ e f middle one two first second. separate_turned old middle new e.cpu f.cpu e.command f.command e.given f.given
    (separate one.called two.called e.command f.command e.given f.given one.is_called one.given two.is_called two.given) first second)
    given

-- a line whose call changes a REC alone passes one whose call works beside it
pub Passes-from_entry : (history : History) (place : ℕ) (lines : List Line) (state : State) (line other : Line)
    → IsKept history place lines state → AreBesideLines history.events line other → Passes history place lines state line other
Passes-from_entry history place lines state line other kept beside =
    Passes-from_exchange history place lines state line other kept
    (λ e f old middle new one two sound differ. entry_turned old middle new e.cpu f.cpu e.command f.command e.given f.given
    sound differ (beside one.called two.called e.command f.command f.given one.is_called two.is_called two.given))

-- and is passed by it
pub Passes-from_work : (history : History) (place : ℕ) (lines : List Line) (state : State) (line other : Line)
    → IsKept history place lines state → AreBesideLines history.events other line → Passes history place lines state line other
Passes-from_work history place lines state line other kept beside =
    Passes-from_exchange history place lines state line other kept
    (λ e f old middle new one two sound differ. work_turned old middle new e.cpu f.cpu e.command f.command e.given f.given
    sound differ (beside two.called one.called f.command e.command e.given two.is_called one.is_called one.given))

-- where both are carried out, a line whose call makes something or is local passes one whose call ends what the first doesn't name
pub Passes-from_ending : (history : History) (place : ℕ) (lines : List Line) (state : State) (line other : Line)
    → IsKept history place lines state → EndsApartLines history.events line other → IsCarriedOut history.events line
    → IsCarriedOut history.events other → Passes history place lines state line other
Passes-from_ending history place lines state line other kept apart done done_too =
    Passes-from_exchange history place lines state line other kept
    (λ e f old middle new one two sound differ. ending_turned old middle new e.cpu f.cpu e.command f.command e.given f.given
    sound (apart one.called two.called e.command f.command one.is_called two.is_called) (done e.given one.given) (done_too f.given two.given))

-- so does one whose call makes a realm or a REC, or is local, apart from the other's
pub Passes-from_made_apart : (history : History) (place : ℕ) (lines : List Line) (state : State) (line other : Line)
    → IsKept history place lines state → AreMadeApartLines history.events line other → Passes history place lines state line other
Passes-from_made_apart history place lines state line other kept apart =
    Passes-from_exchange history place lines state line other kept
    (λ e f old middle new one two sound differ. made_turned old middle new e.cpu f.cpu e.command f.command e.given f.given sound
    (apart one.called two.called e.command f.command e.given f.given one.is_called one.given two.is_called two.given))

-- ---- behind the end of a REC or a realm

-- lines of which none is of the CPU end in one of another
last_elsewhere : (cpu : ℕ) (before : List Line) (line other : Line) → count_of cpu (before ++ line ∷ other ∷ []) ≡ 0 → ¬ (cpu ≡ cpu_named other)
last_elsewhere cpu before line other none same =
    let both : count_of cpu (line ∷ other ∷ []) ≡ 0 =
    let sum = count_of-append cpu before (line ∷ other ∷ []) in omega (arith, sum, none) in
    keys_apart (cpu_named other) cpu (count_of-none cpu other [] (count_of-none cpu line (other ∷ []) both).1).0 (sym same)

module _ (events : List Event) (place : ℕ) (lines : List Line) (state : State) (line other : Line)
    (alone : IsLeftAlone events place lines state other) (called : ℕ) (command : Command)
    (is_called : IsCalled events called (cpu_named other) (number_named other) command)
    (granule : ℕ) (is : is_named (named (call_of command)) granule ≡ true) where
  -- open calls of other CPUs leave the tag of what the call names
  tag_stays : (before : List Line) (entries : List JournalEntry) (old new : State) → IsSound old
      → AreOpen events place lines (before ++ line ∷ other ∷ []) → AreEntriesOf events before entries → IsRun old entries new
      → is_part (old.tag granule) ≡ false → new.tag granule ≡ old.tag granule
  tag_stays [] [] old new sound are_open claimed run whole = ap (λ (s : State). s.tag granule) run
  tag_stays [] (e ∷ entries) old new sound are_open claimed run whole = absurd claimed
  tag_stays (x ∷ before) [] old new sound are_open claimed run whole = absurd claimed
  tag_stays (x ∷ before) (e ∷ entries) old new sound are_open claimed run whole =
      let entry = claimed.0 in
      let unnamed =
      alone.others called entry.called command e.command x are_open.0 (last_elsewhere (cpu_named x) before line other are_open.1)
      is_called entry.is_called granule is in
      let left = step_leaves old granule (e.cpu + 1) e.cpu sound (λ same. omega (arith, same)) e.command e.given run.0 unnamed (inr whole) run.1 in
      tag_stays before entries run.0 new (step_sound old e.cpu e.command e.given run.0 sound run.1) are_open.2 claimed.1 run.2
      (ap is_part left.tag ∙ whole)
      ∙ left.tag

-- where both are carried out, a line whose call ends something passes one whose call doesn't name it, and names what is left alone
pub Passes-from_ended : (history : History) (place : ℕ) (lines : List Line) (state : State) (line other : Line)
    → IsKept history place lines state → EndsLaterLines history.events line other → IsLeftAlone history.events place lines state other
    → IsCarriedOut history.events line → IsCarriedOut history.events other → Passes history place lines state line other
Passes-from_ended history place lines state line other kept later alone done done_too before old new are_open earlier given =
    gives_turned history.events line other old new
    (λ e f middle one two first second. ended_turned old middle new e.cpu f.cpu e.command f.command e.given f.given
    (given_sound history place lines before state old kept earlier)
    (later one.called two.called e.command f.command one.is_called two.is_called)
    (λ granule is.
    let whole = alone.whole two.called f.command two.is_called granule is in
    ap is_part (tag_stays history.events place lines state line other alone two.called f.command two.is_called granule is before earlier.entries state
    old (opened_run_sound history.config kept.reached.passes.entries state kept.reached.passes.run.run) are_open earlier.claimed earlier.run whole)
    ∙ whole)
    (done e.given one.given) (done_too f.given two.given) first second)
    given
