-- A history with a linearization has one of each first part of its events.
use Rattle.verdict_laws.proofs.Common.{◌≡◌, ℕ, zero, suc, List, [], ◌∷◌, ◌++◌, inl, inr, Some, refl, sym, ◌∙◌, ap, subst, slice_get, none-some, same_Some, slice_get-append, Command, Called, Returned, Line, Keep, Unfinished, Reply, History, IsHistory, opening, JournalEntry, IsCalled, IsReturned, IsFinished, IsNamed, IsOfItsKind, NamesCall, ReturnsBefore, IsEntryOf, AreEntriesOf, IsLinearization, cpu_named, number_named, HasOnePlaces-from_history}
use Rattle.lemmas.proofs.Elements.{slice_get-take}
use Rattle.rmm_spec.specs.Linearization.{NamesSame, IsReplyOf}
use Rattle.spec_lemmas.proofs.Calls.{same_command, same_given}
use Rattle.verdict_laws.proofs.Moves.{Each, Pairs, Each-from_places, Pairs-from_places, Each-at, Pairs-at}
use Rattle.verdict_laws.proofs.Settled.{Apart, Split, in_either, split_run}
use Rattle.verdict_laws.specs.Parts.{first_part}
use Rattle.verdict_laws.proofs.Beginnings.{begun, finished_or}

-- lines that name the same calls
abbrev pub NameAlike : List Line → List Line → Type 0
NameAlike [] [] = Unit {0}
NameAlike (x ∷ xs) (y ∷ ys) = NamesSame x y × NameAlike xs ys
NameAlike [] (y ∷ ys) = ⊥
NameAlike (x ∷ xs) [] = ⊥

-- what is said of each line by its name is said of the others
Each-alike : (P Q : Line → Type 0) → ((x y : Line) → NamesSame x y → P x → Q y) → (xs ys : List Line) → NameAlike xs ys → Each P xs → Each Q ys
Each-alike P Q goes [] [] alike each = tt
Each-alike P Q goes [] (y ∷ ys) alike each = absurd alike
Each-alike P Q goes (x ∷ xs) [] alike each = absurd alike
Each-alike P Q goes (x ∷ xs) (y ∷ ys) alike each = (goes x y alike.0 each.0, Each-alike P Q goes xs ys alike.1 each.1)

-- and of each two
Pairs-alike : (P Q : Line → Line → Type 0) → ((x y z w : Line) → NamesSame x y → NamesSame z w → P x z → Q y w) → (xs ys : List Line)
    → NameAlike xs ys → Pairs P xs → Pairs Q ys
Pairs-alike P Q goes [] [] alike pairs = tt
Pairs-alike P Q goes [] (y ∷ ys) alike pairs = absurd alike
Pairs-alike P Q goes (x ∷ xs) [] alike pairs = absurd alike
Pairs-alike P Q goes (x ∷ xs) (y ∷ ys) alike pairs =
    (Each-alike (P x) (Q y) (λ z w same. goes x y z w alike.0 same) xs ys alike.1 pairs.0, Pairs-alike P Q goes xs ys alike.1 pairs.1)

-- a name among the lines is one among the others
IsNamed-alike : (xs ys : List Line) → NameAlike xs ys → (i : ℕ) (x : Line) → slice_get xs i ≡ Some x → IsNamed ys (cpu_named x) (number_named x)
IsNamed-alike [] ys alike i x is = absurd (none-some x is)
IsNamed-alike (z ∷ xs) [] alike i x is = absurd alike
IsNamed-alike (z ∷ xs) (y ∷ ys) alike zero x is =
    let same = same_Some z x is in
    (0, y, refl, sym alike.0.0 ∙ ap cpu_named same, sym alike.0.1 ∙ ap number_named same)
IsNamed-alike (z ∷ xs) (y ∷ ys) alike (suc i) x is =
    let rest = IsNamed-alike xs ys alike.1 i x is in (suc rest.0, rest.1, rest.2, rest.3, rest.4)

module _ (history : History) (is_history : IsHistory history) (count : ℕ) where
  -- the lines that claim the same commits of a first part
  record Recast (xs : List Line) (entries : List JournalEntry) : Type 0 where
    lines : List Line
    alike : NameAlike xs lines
    kinds : Each (IsOfItsKind (first_part count history).events) lines
    claimed : AreEntriesOf (first_part count history).events lines entries

  -- the command of a line's commit is that of its call in the first part
  called_there : (line : Line) (entry : JournalEntry) → IsEntryOf history.events line entry
      → (known : NamesCall (first_part count history).events line)
      → IsCalled (first_part count history).events known.0 (cpu_named line) (number_named line) entry.command
  called_there line entry is_entry known =
      let within = slice_get-take count history.events known.0 (Called (cpu_named line) (number_named line) known.1) known.2 in
      let places = HasOnePlaces-from_history history is_history in
      let same = same_command history.events places known.0 is_entry.called (cpu_named line) (number_named line)
      known.1 entry.command within.1 is_entry.is_called in
      subst (λ (c : Command). IsCalled (first_part count history).events known.0 (cpu_named line) (number_named line) c) same known.2

  -- a call that returned in the first part has the reply that its line claims
  replied_there : (line : Line) (entry : JournalEntry) → IsOfItsKind history.events line → IsReplyOf history.events line entry.given
      → (finished : IsFinished (first_part count history).events (cpu_named line) (number_named line))
      → IsReturned (first_part count history).events finished.0 (cpu_named line) (number_named line) entry.given
  replied_there (Keep cpu number) entry kind given finished =
      let within = slice_get-take count history.events finished.0 (Returned cpu number finished.1) finished.2 in
      let places = HasOnePlaces-from_history history is_history in
      let same = same_given history.events places finished.0 given.0 cpu number finished.1 entry.given within.1 given.1 in
      subst (λ (g : Reply). IsReturned (first_part count history).events finished.0 cpu number g) same finished.2
  replied_there (Unfinished cpu number claimed) entry kind given finished =
      let within = slice_get-take count history.events finished.0 (Returned cpu number finished.1) finished.2 in
      absurd (kind (finished.0, finished.1, within.1))

  -- one line: it keeps a call that returned in the first part, and tells the reply of another
  recast_line : (x : Line) (xs : List Line) (entry : JournalEntry) (entries : List JournalEntry) → IsEntryOf history.events x entry
      → IsOfItsKind history.events x → NamesCall (first_part count history).events x → Recast xs entries → Recast (x ∷ xs) (entry ∷ entries)
  recast_line x xs entry entries is_entry kind known rest =
      elim (finished_or (first_part count history).events (cpu_named x) (number_named x)) [
        | inl finished ↦ record {
          lines = Keep (cpu_named x) (number_named x) ∷ rest.lines;
          alike = ((refl, refl), rest.alike);
          kinds = (finished, rest.kinds);
          claimed = (
            record {
              cpu = is_entry.cpu;
              called = known.0;
              is_called = called_there x entry is_entry known;
              given = (finished.0, replied_there x entry kind is_entry.given finished);
            },
            rest.claimed,
          );
        }
        | inr pending ↦ record {
          lines = Unfinished (cpu_named x) (number_named x) entry.given ∷ rest.lines;
          alike = ((refl, refl), rest.alike);
          kinds = (pending, rest.kinds);
          claimed = (
            record { cpu = is_entry.cpu; called = known.0; is_called = called_there x entry is_entry known; given = refl },
            rest.claimed,
          );
        }
      ]

  recast : (xs : List Line) (entries : List JournalEntry) → AreEntriesOf history.events xs entries → Each (IsOfItsKind history.events) xs
      → Each (NamesCall (first_part count history).events) xs → Recast xs entries
  recast [] [] claimed kinds known = record { lines = []; alike = tt; kinds = tt; claimed = tt }
  recast [] (e ∷ entries) claimed kinds known = absurd claimed
  recast (x ∷ xs) [] claimed kinds known = absurd claimed
  recast (x ∷ xs) (e ∷ entries) claimed kinds known =
      recast_line x xs e entries claimed.0 kinds.0 known.0 (recast xs entries claimed.1 kinds.1 known.1)

  -- what is asked of two lines, asked of their calls in the first part
  apart_there : (x y z w : Line) → NamesSame x y → NamesSame z w → Apart history.events x z → Apart (first_part count history).events y w
  apart_there x y z w same also apart = (
    λ (names : NamesSame y w). apart.0 (same.0 ∙ names.0 ∙ sym also.0, same.1 ∙ names.1 ∙ sym also.1),
    λ returns. apart.1 (before returns),
  )
    where
      before : ReturnsBefore (first_part count history).events (cpu_named w) (number_named w) (cpu_named y) (number_named y)
          → ReturnsBefore history.events (cpu_named z) (number_named z) (cpu_named x) (number_named x)
      before returns =
          let back = Returned (cpu_named w) (number_named w) returns.given in
          let returned = slice_get-take count history.events returns.returned back returns.is_returned in
          let called = slice_get-take count history.events returns.called (Called (cpu_named y) (number_named y) returns.command) returns.is_called in
          record {
            returned = returns.returned;
            given = returns.given;
            is_returned = subst (λ (n : ℕ). IsReturned history.events returns.returned (cpu_named z) n returns.given) (sym also.1)
                (subst (λ (c : ℕ). IsReturned history.events returns.returned c (number_named w) returns.given) (sym also.0) returned.1);
            called = returns.called;
            command = returns.command;
            is_called = subst (λ (n : ℕ). IsCalled history.events returns.called (cpu_named x) n returns.command) (sym same.1)
                (subst (λ (c : ℕ). IsCalled history.events returns.called c (number_named y) returns.command) (sym same.0) called.1);
            before = returns.before;
          }

  module _ (front back : List Line) (valid : IsLinearization history (front ++ back))
      (known : Each (NamesCall (first_part count history).events) front)
      (pending : Each (λ line. ¬ IsFinished (first_part count history).events (cpu_named line) (number_named line)) back) where
    -- the commits of the beginning
    parts : Split history.events front back (opening history.config) valid.last
    parts = split_run history.events front back valid.entries (opening history.config) valid.last valid.run.claimed valid.run.run

    cast : Recast front parts.first
    cast =
        recast front parts.first parts.claimed
        (Each-from_places (IsOfItsKind history.events) front (λ i line is.
        valid.order.names.kinds i line (slice_get-append front back i line is))) known

    pairs : Pairs (Apart (first_part count history).events) cast.lines
    pairs =
        Pairs-alike (Apart history.events) (Apart (first_part count history).events) apart_there front cast.lines cast.alike
        (Pairs-from_places (Apart history.events) front (λ i j x y below is there.
        let here = slice_get-append front back i x is in
        let beside = slice_get-append front back j y there in
        (valid.order.names.once i j x y below here beside, valid.real_time i j x y below here beside)))

    complete : (cpu number : ℕ) → IsFinished (first_part count history).events cpu number → IsNamed cast.lines cpu number
    complete cpu number finished =
        let within = slice_get-take count history.events finished.0 (Returned cpu number finished.1) finished.2 in
        let at = valid.order.complete cpu number (finished.0, finished.1, within.1) in
        elim (in_either front back at.0 at.1 at.2) [
          | inl among ↦
              let named = IsNamed-alike front cast.lines cast.alike at.0 at.1 among in
              (named.0, named.1, named.2, named.3 ∙ at.3, named.4 ∙ at.4)
          | inr later ↦
              absurd (Each-at (λ line. ¬ IsFinished (first_part count history).events (cpu_named line) (number_named line))
              back later.0 at.1 pending later.1 (subst (λ (n : ℕ). IsFinished (first_part count history).events (cpu_named at.1) n) (sym at.4)
              (subst (λ (c : ℕ). IsFinished (first_part count history).events c number) (sym at.3) finished)))
        ]

    -- they are a linearization of the first part
    beginning_is_order : IsLinearization (first_part count history) cast.lines
    beginning_is_order =
        let events = (first_part count history).events in
        let named = Each-alike (NamesCall events) (NamesCall events) (λ x y same known. (
          known.0,
          known.1,
          subst (λ (n : ℕ). IsCalled events known.0 (cpu_named y) n known.1) same.1
              (subst (λ (c : ℕ). IsCalled events known.0 c (number_named x) known.1) same.0 known.2),
        )) front cast.lines cast.alike known in
        record {
          order = record {
            names = record {
              known = λ i line is. Each-at (NamesCall events) cast.lines i line named is;
              kinds = λ i line is. Each-at (IsOfItsKind events) cast.lines i line cast.kinds is;
              once = λ i j line other below is there. (Pairs-at (Apart events) cast.lines i j line other pairs below is there).0;
            };
            complete = complete;
          };
          real_time = λ i j line later below is there. (Pairs-at (Apart events) cast.lines i j line later pairs below is there).1;
          entries = parts.first;
          last = parts.middle;
          run = record { claimed = cast.claimed; run = parts.run };
        }

  pub first_part_order : (lines : List Line) → IsLinearization history lines → (some : List Line) × IsLinearization (first_part count history) some
  first_part_order lines valid =
      elim (begun history is_history count lines
      (Each-from_places (NamesCall history.events) lines valid.order.names.known)
      (Pairs-from_places (Apart history.events) lines (λ i j x y below is there.
      (valid.order.names.once i j x y below is there, valid.real_time i j x y below is there)))) [
        | inl none ↦ ((cast [] lines valid tt none).lines, beginning_is_order [] lines valid tt none)
        | inr beginning ↦
            let whole = subst (λ (ls : List Line). IsLinearization history ls) beginning.whole valid in (
              (cast beginning.front beginning.back whole beginning.made beginning.pending).lines,
              beginning_is_order beginning.front beginning.back whole beginning.made beginning.pending,
            )
      ]
