-- Where a slice of a history has no order, the history has none.
use Rattle.verdict_laws.proofs.Common.{◌≡◌, ℕ, suc, ◌+◌, Bool, true, false, if◌then◌else◌, List, [], ◌∷◌, ◌++◌, length, map, inl, inr, Option, Some, None, refl, sym, ◌∙◌, ap, subst, arith, slice_get, false≢true, slice_get_within, Event, Line, Keep, Unfinished, Reply, Config, History, IsHistory, is_accepted, opening, JournalEntry, IsRun, IsCalled, IsReturned, IsFinished, IsNamed, IsOfItsKind, NamesCall, IsEntryOf, AreEntriesOf, IsLinearization, cpu_named, number_named, slice_get-append, LeadsNowhere, HasOnePlaces-from_history}
use Rattle.std.specs.Option.{IsSome}
use Rattle.lemmas.proofs.Elements.{slice_get-map_from, slice_get-map_to}
use Rattle.verdict_laws.specs.Slices.{IsCut, IsSlice, lending_events}
use Rattle.verdict_laws.proofs.Moves.{Each, Pairs, Each-append, Each-at, Each-from_places, Pairs-append, Pairs-at, Pairs-from_places}
use Rattle.verdict_laws.proofs.Settled.{Apart, behind, claimed-append}
use Rattle.verdict_laws.proofs.SliceEvents.{before_back, call_there, kept_return, lending_there, one_place, place_of, return_back, return_there, start}
use Rattle.verdict_laws.proofs.SliceFits.{AllFit-from_order}
use Rattle.verdict_laws.proofs.SliceLendings.{IsMadeFrom, StandBefore, lending_lines, lending_named, lendings-apart, lendings-claimed, lendings-finished, lendings-made, made-apart}
use Rattle.verdict_laws.proofs.SliceLines.{Claim, Each-map, Names, OneOf, OneOf-from_place, commit_of, is_staying, number_of, of_named, stays, stays-finished}
use Rattle.verdict_laws.proofs.SliceRuns.{run-sliced}
use Rattle.verdict_laws.proofs.SliceUnused.{same_call}
use Rattle.verdict_laws.proofs.SliceTerms.{entry_of, kept_before, lending, sliced}

-- ---- lines

-- the line of a claim
abbrev line_of : {events : List Event} → Claim events → Line
line_of c = c.line

-- what the lines of an order claim
record Claims (history : History) (numbers : ℕ → Option ℕ) (lines : List Line) (entries : List JournalEntry) : Type 0 where
  claims : List (Claim history.events)
  are_lines : map line_of claims ≡ lines
  are_entries : map entry_of (map (commit_of numbers) claims) ≡ entries

-- they claim it
Claims-from_order : (history : History) (numbers : ℕ → Option ℕ) (lines : List Line) (entries : List JournalEntry)
    → Each (IsOfItsKind history.events) lines → AreEntriesOf history.events lines entries → Claims history numbers lines entries
Claims-from_order history numbers [] [] kinds claimed = record { claims = []; are_lines = refl; are_entries = refl }
Claims-from_order history numbers [] (entry ∷ entries) kinds claimed = absurd claimed
Claims-from_order history numbers (line ∷ lines) [] kinds claimed = absurd claimed
Claims-from_order history numbers (line ∷ lines) (entry ∷ entries) kinds claimed =
    let rest = Claims-from_order history numbers lines entries kinds.1 claimed.1 in
    record {
      claims = record { line = line; entry = entry; kind = kinds.0; is_entry = claimed.0 } ∷ rest.claims;
      are_lines = ap (λ ls. line ∷ ls) rest.are_lines;
      are_entries = ap (λ es. entry ∷ es) rest.are_entries;
    }

-- the line with another number
abbrev renamed : ℕ → Line → Line
renamed new (Keep cpu number) = Keep cpu new
renamed new (Unfinished cpu number claimed) = Unfinished cpu new claimed

-- what is said of the call that it names
of_renamed : (P : ℕ → ℕ → Type 0) (new : ℕ) (line : Line) → P (cpu_named (renamed new line)) (number_named (renamed new line))
    → P (cpu_named line) new
of_renamed P new (Keep cpu number) holds = holds
of_renamed P new (Unfinished cpu number claimed) holds = holds

-- and the other way
to_renamed : (P : ℕ → ℕ → Type 0) (new : ℕ) (line : Line) → P (cpu_named line) new
    → P (cpu_named (renamed new line)) (number_named (renamed new line))
to_renamed P new (Keep cpu number) holds = holds
to_renamed P new (Unfinished cpu number claimed) holds = holds

-- the number, if there is one
abbrev number_in : Option ℕ → ℕ
number_in None = 0
number_in (Some number) = number

-- there is one where the line stays
stays-number : (line : Line) (o : Option ℕ) (accepted : Bool) → stays line o accepted ≡ true → o ≡ Some (number_in o)
stays-number line None accepted staying = absurd (false≢true staying)
stays-number line (Some new) accepted staying = refl

-- what is said of lines, with one before them where it stays, and without it
either_way : (P : List Line → Type 0) (staying : Bool) (line : Line) (ls : List Line) → (staying ≡ true → P (line ∷ ls)) → P ls
    → P (if staying then line ∷ ls else ls)
either_way P true line ls with_it without = with_it refl
either_way P false line ls with_it without = without

-- a call that lines name is named by them behind others
named-behind : (xs ys : List Line) (cpu number : ℕ) → IsNamed ys cpu number → IsNamed (xs ++ ys) cpu number
named-behind xs ys cpu number named = (length xs + named.0, named.1, behind xs ys named.0 named.1 named.2, named.3, named.4)

-- and before others
named-before : (xs ys : List Line) (cpu number : ℕ) → IsNamed xs cpu number → IsNamed (xs ++ ys) cpu number
named-before xs ys cpu number named = (named.0, named.1, slice_get-append xs ys named.0 named.1 named.2, named.3, named.4)

-- lines of commits name calls
claimed-known : (events : List Event) (lines : List Line) (entries : List JournalEntry) → AreEntriesOf events lines entries
    → Each (NamesCall events) lines
claimed-known events [] entries claimed = tt
claimed-known events (line ∷ lines) [] claimed = absurd claimed
claimed-known events (line ∷ lines) (entry ∷ entries) claimed =
    ((claimed.0.called, entry.command, claimed.0.is_called), claimed-known events lines entries claimed.1)

module _ (history slice : History) (numbers : ℕ → Option ℕ) (lent : List ℕ) (entered : ℕ → Bool) (is_history : IsHistory history)
    (is_history_too : IsHistory slice) (is_slice : IsSlice history slice numbers lent) (is_cut : IsCut history numbers lent entered) where
  -- the claim's line in the slice, if it stays
  abbrev kept_line : Claim history.events → Line
  kept_line c = renamed (number_in (number_of numbers c)) c.line

  -- the slice's lines behind the lendings: those that stay
  abbrev slice_lines : List (Claim history.events) → List Line
  slice_lines [] = []
  slice_lines (c ∷ cs) = if is_staying numbers c then kept_line c ∷ slice_lines cs else slice_lines cs

  -- what is said of each that stays
  Each-slice : (P : Line → Type 0) (cs : List (Claim history.events)) → Each (λ c. is_staying numbers c ≡ true → P (kept_line c)) cs
      → Each P (slice_lines cs)
  Each-slice P [] each = tt
  Each-slice P (c ∷ cs) each =
      let rest = Each-slice P cs each.1 in
      either_way (Each P) (is_staying numbers c) (kept_line c) (slice_lines cs) (λ staying. (each.0 staying, rest)) rest

  -- and of each two
  Pairs-slice : (Q : Claim history.events → Claim history.events → Type 0) (R : Line → Line → Type 0)
      → ((c later : Claim history.events) → Q c later → is_staying numbers c ≡ true → is_staying numbers later ≡ true
      → R (kept_line c) (kept_line later)) → (cs : List (Claim history.events)) → Pairs Q cs → Pairs R (slice_lines cs)
  Pairs-slice Q R goes [] pairs = tt
  Pairs-slice Q R goes (c ∷ cs) pairs =
      let rest = Pairs-slice Q R goes cs pairs.1 in
      either_way (Pairs R) (is_staying numbers c) (kept_line c) (slice_lines cs) (λ staying.
      (Each-slice (R (kept_line c)) cs (Each-map _ _ (λ later holds. goes c later holds staying) cs pairs.0), rest)) rest

  -- the number of a line that stays
  kept_number : (c : Claim history.events) → is_staying numbers c ≡ true → number_of numbers c ≡ Some (number_in (number_of numbers c))
  kept_number c staying = stays-number c.line (number_of numbers c) (is_accepted c.entry.given) staying

  -- its call in the slice
  kept_call : (c : Claim history.events) → is_staying numbers c ≡ true
      → IsCalled slice.events (place_of numbers lent c.is_entry.called) (cpu_named c.line) (number_in (number_of numbers c)) c.entry.command
  kept_call c staying = call_there history slice numbers lent is_slice c.is_entry.called (cpu_named c.line) (number_in (number_of numbers c))
      (number_named c.line) c.entry.command c.is_entry.is_called (kept_number c staying)

  -- its return
  kept_back : (c : Claim history.events) → is_staying numbers c ≡ true → (place : ℕ) (given : Reply)
      → IsReturned slice.events place (cpu_named c.line) (number_in (number_of numbers c)) given
      → (from : ℕ) × IsReturned history.events from (cpu_named c.line) (number_named c.line) given × (place_of numbers lent from ≡ place)
  kept_back c staying place given is_returned = kept_return history slice numbers lent is_slice is_history is_history_too entered is_cut
      c.is_entry.called place (cpu_named c.line) (number_in (number_of numbers c)) (number_named c.line) c.entry.command given c.is_entry.is_called
      (kept_number c staying) is_returned

  -- a return in the history is one there
  back_there : (line : Line) (entry : JournalEntry) (is_entry : IsEntryOf history.events line entry) (new place : ℕ) (given : Reply)
      → numbers is_entry.called ≡ Some new → IsReturned history.events place (cpu_named line) (number_named line) given
      → IsReturned slice.events (place_of numbers lent place) (cpu_named line) new given
  back_there line entry is_entry new place given is is_returned =
      return_there history slice numbers lent is_slice place (cpu_named line) new (number_named line) given is_returned
      (is_cut.pairs is_entry.called place (cpu_named line) (number_named line) entry.command given is_entry.is_called is_returned ∙ is)

  -- so the line claims its commit there
  entry_there : (line : Line) (entry : JournalEntry) (is_entry : IsEntryOf history.events line entry) (new : ℕ) → numbers is_entry.called ≡ Some new
      → IsEntryOf slice.events (renamed new line) entry
  entry_there (Keep cpu number) entry is_entry new is = record {
    cpu = is_entry.cpu;
    called = place_of numbers lent is_entry.called;
    is_called = call_there history slice numbers lent is_slice is_entry.called cpu new number entry.command is_entry.is_called is;
    given =
        (place_of numbers lent is_entry.given.0, back_there (Keep cpu number) entry is_entry new is_entry.given.0 entry.given is is_entry.given.1);
  }
  entry_there (Unfinished cpu number claimed) entry is_entry new is = record {
    cpu = is_entry.cpu;
    called = place_of numbers lent is_entry.called;
    is_called = call_there history slice numbers lent is_slice is_entry.called cpu new number entry.command is_entry.is_called is;
    given = is_entry.given;
  }

  -- and is of its kind
  kind_there : (line : Line) (entry : JournalEntry) (is_entry : IsEntryOf history.events line entry) (new : ℕ) → numbers is_entry.called ≡ Some new
      → IsOfItsKind history.events line → IsOfItsKind slice.events (renamed new line)
  kind_there (Keep cpu number) entry is_entry new is kind =
      (place_of numbers lent kind.0, kind.1, back_there (Keep cpu number) entry is_entry new kind.0 kind.1 is kind.2)
  kind_there (Unfinished cpu number claimed) entry is_entry new is kind = λ finished.
      let back = kept_return history slice numbers lent is_slice is_history is_history_too entered is_cut is_entry.called finished.0 cpu new number
      entry.command finished.1 is_entry.is_called is finished.2 in
      kind (back.0, finished.1, back.1)

  -- the slice's lines claim its commits
  entries_there : (cs : List (Claim history.events)) → AreEntriesOf slice.events (slice_lines cs) (sliced (map (commit_of numbers) cs))
  entries_there [] = tt
  entries_there (c ∷ cs) =
      by (is_staying numbers c) (λ staying. entry_there c.line c.entry c.is_entry (number_in (number_of numbers c)) (kept_number c staying))
      (entries_there cs)
    where
      by : (staying : Bool) → (staying ≡ true → IsEntryOf slice.events (kept_line c) c.entry)
          → AreEntriesOf slice.events (slice_lines cs) (sliced (map (commit_of numbers) cs))
          → AreEntriesOf slice.events (if staying then kept_line c ∷ slice_lines cs else slice_lines cs)
          (kept_before staying c.entry (sliced (map (commit_of numbers) cs)))
      by true entry rest = (entry refl, rest)
      by false entry rest = rest

  -- its call is made behind the lendings
  made_there : (c : Claim history.events) → is_staying numbers c ≡ true → IsMadeFrom slice.events (start lent) (kept_line c)
  made_there c staying = (
    place_of numbers lent c.is_entry.called,
    c.entry.command,
    to_renamed (λ cpu number. IsCalled slice.events (place_of numbers lent c.is_entry.called) cpu number c.entry.command)
        (number_in (number_of numbers c)) c.line (kept_call c staying),
    omega arith,
  )

  -- two lines that stay are apart
  apart_there : (c later : Claim history.events) → Apart history.events c.line later.line → is_staying numbers c ≡ true
      → is_staying numbers later ≡ true → Apart slice.events (kept_line c) (kept_line later)
  apart_there c later apart staying staying_too = (
    λ same.
        let new = number_in (number_of numbers c) in
        let also = number_in (number_of numbers later) in
        let one : (cpu_named c.line ≡ cpu_named later.line) × (new ≡ also) =
        of_renamed (λ x y. (cpu_named c.line ≡ x) × (new ≡ y)) also later.line
        (of_renamed (λ x y. (x ≡ cpu_named (kept_line later)) × (y ≡ number_named (kept_line later))) new c.line same) in
        apart.0 (same_call c later (one_place history slice numbers lent is_slice is_history is_history_too entered is_cut
        c.is_entry.called later.is_entry.called (cpu_named later.line) also (number_named c.line) (number_named later.line)
        c.entry.command later.entry.command
        (subst (λ (cpu : ℕ). IsCalled history.events c.is_entry.called cpu (number_named c.line) c.entry.command) one.0 c.is_entry.is_called)
        later.is_entry.is_called (kept_number c staying ∙ ap Some one.1) (kept_number later staying_too))),
    λ returns.
        let told = of_renamed (λ x y. IsReturned slice.events returns.returned x y returns.given) (number_in (number_of numbers later)) later.line
        returns.is_returned in
        let made = of_renamed (λ x y. IsCalled slice.events returns.called x y returns.command) (number_in (number_of numbers c)) c.line
        returns.is_called in
        let back = kept_back later staying_too returns.returned returns.given told in
        let at = (HasOnePlaces-from_history slice is_history_too).one_call returns.called (place_of numbers lent c.is_entry.called) (cpu_named c.line)
        (number_in (number_of numbers c)) returns.command c.entry.command made (kept_call c staying) in
        let same = back.2 in
        apart.1 (record {
          returned = back.0;
          given = returns.given;
          is_returned = back.1;
          called = c.is_entry.called;
          command = c.entry.command;
          is_called = c.is_entry.is_called;
          before = before_back numbers lent back.0 c.is_entry.called (omega (arith, returns.before, at, same));
        }),
  )

  -- the line of a finished call whose return has a number is among them, with that number
  named_there : (returned cpu number new : ℕ) (given : Reply) → IsReturned history.events returned cpu number given → numbers returned ≡ Some new
      → (cs : List (Claim history.events)) → OneOf (Names cpu number) cs → IsNamed (slice_lines cs) cpu new
  named_there returned cpu number new given is_returned is [] any = absurd any
  named_there returned cpu number new given is_returned is (c ∷ cs) (inl this) =
      let told = of_named (λ x y. IsReturned history.events returned x y given) cpu number c this is_returned in
      let pair = is_cut.pairs c.is_entry.called returned (cpu_named c.line) (number_named c.line) c.entry.command given c.is_entry.is_called told in
      let numbered : number_of numbers c ≡ Some new = sym pair ∙ is in
      let staying = stays-finished history.events c.line (number_of numbers c) (is_accepted c.entry.given) (subst IsSome (sym numbered) refl) c.kind
      (returned, given, told) in
      let named : (cpu_named (kept_line c) ≡ cpu) × (number_named (kept_line c) ≡ new) =
      to_renamed (λ x y. (x ≡ cpu) × (y ≡ new)) (number_in (number_of numbers c)) c.line (this.0, ap number_in numbered) in
      (0, kept_line c, ap (λ (b : Bool). slice_get (if b then kept_line c ∷ slice_lines cs else slice_lines cs) 0) staying, named.0, named.1)
  named_there returned cpu number new given is_returned is (c ∷ cs) (inr there) =
      let rest = named_there returned cpu number new given is_returned is cs there in
      either_way (λ ls. IsNamed ls cpu new) (is_staying numbers c) (kept_line c) (slice_lines cs)
      (λ staying. (suc rest.0, rest.1, rest.2, rest.3, rest.4)) rest

  module _ (lines : List Line) (valid : IsLinearization history lines) where
    -- what the order's lines claim
    of_order : Claims history numbers lines valid.entries
    of_order = Claims-from_order history numbers lines valid.entries
        (Each-from_places (IsOfItsKind history.events) lines valid.order.names.kinds) valid.run.claimed

    -- each two are of different calls, and in time
    pairs : Pairs (λ c later. Apart history.events c.line later.line) of_order.claims
    pairs = Pairs-from_places _ of_order.claims (λ i j c later below is there.
        let here = subst (λ (ls : List Line). slice_get ls i ≡ Some c.line) of_order.are_lines (slice_get-map_to line_of of_order.claims i c is) in
        let behind = subst (λ (ls : List Line). slice_get ls j ≡ Some later.line) of_order.are_lines
        (slice_get-map_to line_of of_order.claims j later there) in
        (valid.order.names.once i j c.line later.line below here behind, valid.real_time i j c.line later.line below here behind))

    -- one is of each finished call
    complete : (cpu number : ℕ) → IsFinished history.events cpu number → OneOf (Names cpu number) of_order.claims
    complete cpu number finished =
        let at = valid.order.complete cpu number finished in
        let of = slice_get-map_from line_of of_order.claims at.0 at.1
        (subst (λ (ls : List Line). slice_get ls at.0 ≡ Some at.1) (sym of_order.are_lines) at.2) in
        OneOf-from_place (Names cpu number) of_order.claims at.0 of.0 of.1 (ap cpu_named of.2 ∙ at.3, ap number_named of.2 ∙ at.4)

    -- the lines of the slice: those of the lendings, and those that stay
    abbrev all_lines : List Line
    all_lines = lending_lines 0 lent ++ slice_lines of_order.claims

    -- the lendings' events stand in front
    stand : StandBefore slice.events (start lent) (lending_events 0 lent)
    stand i event is =
        (i, lending_there history slice numbers lent is_slice i event is, slice_get_within (lending_events 0 lent) i event is)

    -- the lines claim the lendings and what is kept
    claimed : AreEntriesOf slice.events all_lines (map lending lent ++ sliced (map (commit_of numbers) of_order.claims))
    claimed = claimed-append slice.events (lending_lines 0 lent) (slice_lines of_order.claims) (map lending lent)
        (sliced (map (commit_of numbers) of_order.claims)) (lendings-claimed slice.events (start lent) 0 lent stand) (entries_there of_order.claims)

    -- each is of its kind
    kinds : Each (IsOfItsKind slice.events) all_lines
    kinds = Each-append (IsOfItsKind slice.events) (lending_lines 0 lent) (slice_lines of_order.claims)
        (lendings-finished slice.events (start lent) 0 lent stand)
        (Each-slice (IsOfItsKind slice.events) of_order.claims (Each-from_places _ of_order.claims (λ i c is staying.
        kind_there c.line c.entry c.is_entry (number_in (number_of numbers c)) (kept_number c staying) c.kind)))

    -- and each two are apart
    apart : Pairs (Apart slice.events) all_lines
    apart = Pairs-append (Apart slice.events) (lending_lines 0 lent) (slice_lines of_order.claims) (lendings-apart slice is_history_too 0 lent)
        (Pairs-slice _ (Apart slice.events) apart_there of_order.claims pairs)
        (Each-map _ _ (λ line first. Each-map _ _ (λ later. made-apart slice is_history_too (start lent) line later first)
        (slice_lines of_order.claims) (Each-slice (IsMadeFrom slice.events (start lent)) of_order.claims
        (Each-from_places _ of_order.claims (λ i c is. made_there c)))) (lending_lines 0 lent)
        (lendings-made slice.events (start lent) 0 lent stand))

    -- they are an order of the slice
    slice_order : IsLinearization slice all_lines
    slice_order =
        let claims = of_order.claims in
        let commits = map (commit_of numbers) claims in
        let fits = AllFit-from_order history numbers is_history lent entered is_cut [] claims (record {
          back = tt;
          across = Each-from_places _ claims (λ i c is. tt);
          pairs = pairs;
          complete = λ cpu number finished. inr (complete cpu number finished);
        }) in
        let run = run-sliced history.config lent commits valid.last is_cut.granules
        (subst (λ (es : List JournalEntry). IsRun (opening history.config) es valid.last) (sym of_order.are_entries) valid.run.run) fits in
        record {
          order = record {
            names = record {
              known = λ i line. Each-at (NamesCall slice.events) all_lines i line (claimed-known slice.events all_lines _ claimed);
              kinds = λ i line. Each-at (IsOfItsKind slice.events) all_lines i line kinds;
              once = λ i j line other below is there. (Pairs-at (Apart slice.events) all_lines i j line other apart below is there).0;
            };
            complete = λ cpu number finished.
                elim (return_back history slice numbers lent is_slice finished.0 cpu number finished.1 finished.2) [
                  | inl lends ↦
                      named-before (lending_lines 0 lent) (slice_lines claims) cpu number
                      (lending_named 0 lent finished.0 cpu number finished.1 lends)
                  | inr back ↦
                      named-behind (lending_lines 0 lent) (slice_lines claims) cpu number
                      (named_there back.0 cpu back.1 number finished.1 back.2 back.3 claims (complete cpu back.1 (back.0, finished.1, back.2)))
                ];
          };
          real_time = λ i j line later below is there. (Pairs-at (Apart slice.events) all_lines i j line later apart below is there).1;
          entries = map lending lent ++ sliced commits;
          last = run.0;
          run = record {
            claimed = claimed;
            run = subst (λ (c : Config). IsRun (opening c) (map lending lent ++ sliced commits) run.0) (sym is_slice.config) run.1;
          };
        }

-- where a slice has no order, the history has none
pub nowhere-from_slice : (history slice : History) (numbers : ℕ → Option ℕ) (lent : List ℕ) (entered : ℕ → Bool) → IsHistory history → IsHistory slice
    → IsSlice history slice numbers lent → IsCut history numbers lent entered → LeadsNowhere slice [] → LeadsNowhere history []
nowhere-from_slice history slice numbers lent entered is_history is_history_too is_slice is_cut nowhere = record {
  none = λ lines valid.
      nowhere.none _ (slice_order history slice numbers lent entered is_history is_history_too is_slice is_cut lines valid);
}
