-- A host's command that its words refuse, or a tag of what is held, is refused by what is held as by every whole that agrees.
use Rattle.command_core.proofs.Common.{◌&&◌, ◌==◌, ◌||◌, ◌∙◌, ◌∷◌, ◌≡◌, Bool, ByHost, Call, Command, Config, HeldCell, Hold, IsTrue, List, Needed, None, Option, Outside, Some, State, Undelegated, [], and_parts, ap, call_of, cell_in, class_of, eqb-true, false, false≢true, granules_held, has_tag, has_wrong, held_at, if◌then◌else◌, is_granule, is_held, is_some, list_all, list_any, named, not, not-true, outside_answer, refl, seen_state, subst, sym, tag_number, tag_of, true, words_fit, words_of, ℕ}
use Rattle.std.specs.Prelude.{Contains}
use Rattle.rmm_spec.specs.declared.call.Call.TheVariants as call
use Rattle.rmm_spec.specs.Rows.{input_error, all_allowed}
use Rattle.rmm_spec.specs.Cell.{Cell}
use Rattle.rmm_spec.specs.Local.{LocalStep}
use Rattle.spec_lemmas.proofs.Members.{slice_get-from_Contains}
use Rattle.world_laws.proofs.Refusals.{IsInputError, IsRefusedInFront, by_words, by_tag, decided-front, answer_of-front, words-are_local, addresses-are_local, tags-are_local}
use Rattle.command_rows.specs.Answers.{host_answer}
use Rattle.command_core.specs.Named.{is_wrong_for, is_wrong}
use Rattle.world_laws.specs.SeenState.{realm_behind, cell_or}
use Rattle.command_core.proofs.Rising.{none_at, found-contains, right_tag}
use Rattle.lemmas.proofs.Members.{Contains-head, Contains-tail}

-- ---- tests on lists

pub record Passes {X : Type 0} (p : X → Bool) (b : Bool) (xs : List X) : Type 0 where
  pub it : X
  pub has : Contains xs it
  pub is : p it ≡ b

later : {X : Type 0} (p : X → Bool) (b : Bool) (x : X) (xs : List X) → Passes p b xs → Passes p b (x ∷ xs)
later p b x xs found = record { it = found.it; has = Contains-tail x xs found.it found.has; is = found.is }

some-passes : {X : Type 0} (p : X → Bool) (xs : List X) → list_any p xs ≡ true → Passes p true xs
some-passes p [] any = absurd (false≢true any)
some-passes p (x ∷ xs) any = by (p x) refl (some-passes p xs) any
  where
    by : (b : Bool) → p x ≡ b → (list_any p xs ≡ true → Passes p true xs) → (b || list_any p xs) ≡ true → Passes p true (x ∷ xs)
    by true is rest found = record { it = x; has = Contains-head x xs; is = is }
    by false is rest found = later p true x xs (rest found)

some-fails : {X : Type 0} (p : X → Bool) (xs : List X) → list_all p xs ≡ false → Passes p false xs
some-fails p [] all = absurd (false≢true (sym all))
some-fails p (x ∷ xs) all = by (p x) refl (some-fails p xs) all
  where
    by : (b : Bool) → p x ≡ b → (list_all p xs ≡ false → Passes p false xs) → (b && list_all p xs) ≡ false → Passes p false (x ∷ xs)
    by false is rest found = record { it = x; has = Contains-head x xs; is = is }
    by true is rest found = later p false x xs (rest found)

-- ---- a wrong tag

-- what is held, and a name of it with another tag
pub record WrongTag (names : List Needed) (held : List HeldCell) : Type 0 where
  pub h : HeldCell
  pub n : Needed
  pub has_h : Contains held h
  pub found : cell_in h.granule held ≡ Some h.cell
  pub has_n : Contains names n
  pub same : n.granule ≡ h.granule
  pub wrong : (tag_number (tag_of h.cell) == tag_number n.tag) ≡ false

wrong_name : (names : List Needed) (held : List HeldCell) (g : ℕ) (o : Option Cell)
    → cell_in g held ≡ o → is_wrong o g names ≡ true → WrongTag names held
wrong_name names held g None found is = absurd (false≢true is)
wrong_name names held g (Some c) found is =
    let name = some-passes (λ (n : Needed). n.granule == g && not (tag_number (tag_of c) == tag_number n.tag)) names is in
    let parts = and_parts (name.it.granule == g) (not (tag_number (tag_of c) == tag_number name.it.tag)) name.is in
    record {
      h = held_at g c;
      n = name.it;
      has_h = found-contains held g c found;
      found = found;
      has_n = name.has;
      same = eqb-true name.it.granule g parts.0;
      wrong = not-true (tag_number (tag_of c) == tag_number name.it.tag) parts.1;
    }

pub wrong_tag : (names : List Needed) (held : List HeldCell) → has_wrong names held ≡ true → WrongTag names held
unfolding has_wrong
wrong_tag names held is =
    let granule = some-passes (λ g. is_wrong (cell_in g held) g names) (granules_held held) is in
    wrong_name names held granule.it (cell_in granule.it held) refl granule.is

-- what is held at a name, with the tag that is needed there
pub record NamedCell (held : List HeldCell) (n : Needed) : Type 0 where
  pub cell : Cell
  pub found : cell_in n.granule held ≡ Some cell
  pub tagged : tag_of cell ≡ n.tag

pub named-cell : (names : List Needed) (held : List HeldCell) → has_wrong names held ≡ false → (n : Needed) → Contains names n
    → IsTrue (is_held n.granule held) → NamedCell held n
unfolding has_wrong
named-cell names held right n has holds = by (cell_in n.granule held) refl holds
  where
    by : (o : Option Cell) → cell_in n.granule held ≡ o → IsTrue (is_some o) → NamedCell held n
    by None found is = absurd (false≢true is)
    by (Some c) found is =
        let here = none_at (λ g. is_wrong (cell_in g held) g names) held right (held_at n.granule c) (found-contains held n.granule c found) in
        let fits : is_wrong_for c n.granule names ≡ false = subst (λ o. is_wrong o n.granule names ≡ false) found here in
        record { cell = c; found = found; tagged = right_tag names n.granule c fits n has refl }

-- ---- refusals

-- an address that is no granule has no tag
tag-no_granule : (config : Config) (held : List HeldCell) (n : Needed) → is_granule config.granules n.granule ≡ false
    → has_tag (seen_state config held) n.granule n.tag ≡ false
unfolding has_tag seen_state
tag-no_granule config held n none = rw none refl

tag-wrong : (config : Config) (held : List HeldCell) (n : Needed) (c : Cell) → cell_in n.granule held ≡ Some c
    → (tag_number (tag_of c) == tag_number n.tag) ≡ false → has_tag (seen_state config held) n.granule n.tag ≡ false
unfolding has_tag seen_state
tag-wrong config held n c found wrong = by (is_granule config.granules n.granule)
  where
    by : (b : Bool) → (b && tag_number (tag_of (if b then cell_or (cell_in n.granule held) (realm_behind held n.granule) else Undelegated))
        == tag_number n.tag) ≡ false
    by true = ap (λ (o : Option Cell). tag_number (tag_of (cell_or o (realm_behind held n.granule))) == tag_number n.tag) found ∙ wrong
    by false = refl

-- what the words refuse, or a tag of what is held, is refused in front by the state that the cells tell of
pub front-refused : (config : Config) (held : List HeldCell) (c : Call) → (not (words_fit config c) || has_wrong (named c) held) ≡ true
    → IsRefusedInFront (seen_state config held) c
unfolding words_fit
front-refused config held c is =
    by (all_allowed (words_of c)) (list_all (λ (n : Needed). is_granule config.granules n.granule) (named c)) refl refl is
  where
    by : (b d : Bool) → all_allowed (words_of c) ≡ b → list_all (λ (n : Needed). is_granule config.granules n.granule) (named c) ≡ d
        → (not (b && d) || has_wrong (named c) held) ≡ true → IsRefusedInFront (seen_state config held) c
    by false d words names is = by_words words
    by true false words names is =
        let name = some-fails (λ (n : Needed). is_granule config.granules n.granule) (named c) names in
        let at = slice_get-from_Contains (named c) name.it name.has in
        by_tag at.0 name.it at.1 (tag-no_granule config held name.it name.is)
    by true true words names is =
        let w = wrong_tag (named c) held is in
        let at = slice_get-from_Contains (named c) w.n w.has_n in
        by_tag at.0 w.n at.1 (tag-wrong config held w.n w.h.cell (ap (λ g. cell_in g held) w.same ∙ w.found) w.wrong)

outside-front : (vmids recs : ℕ → Bool) (s : State) (cpu : ℕ) (c : Call) → class_of c ≡ ByHost → IsRefusedInFront s c
    → IsInputError (outside_answer vmids recs s cpu c)
unfolding outside_answer
outside-front vmids recs s cpu (call.RealmCreate rd root width level vmid algo) host refused =
    decided-front s (call.RealmCreate rd root width level vmid algo) _ _ refused
outside-front vmids recs s cpu (call.RealmDestroy rd) host refused = decided-front s (call.RealmDestroy rd) _ _ refused
outside-front vmids recs s cpu c host refused = subst IsInputError (ap (λ k. host_answer k s cpu c) (sym host)) (answer_of-front s cpu c refused)

-- and so it is by every whole that agrees
pub refused-answer : (config : Config) (cpu : ℕ) (command : Command) (hold : Hold) (vmids recs : ℕ → Bool)
    → class_of (call_of command) ≡ ByHost → hold.place ≡ Outside
    → (not (words_fit config (call_of command)) || has_wrong (named (call_of command)) hold.cells) ≡ true
    → IsInputError (outside_answer vmids recs (seen_state config hold.cells) cpu (call_of command))
    × LocalStep config cpu command input_error hold hold
unfolding words_fit
refused-answer config cpu command hold vmids recs host place is = (
  outside-front vmids recs (seen_state config hold.cells) cpu (call_of command) host (front-refused config hold.cells (call_of command) is),
  by (all_allowed (words_of (call_of command)))
      (list_all (λ (n : Needed). is_granule config.granules n.granule) (named (call_of command))) refl refl is,
)
  where
    by : (b d : Bool) → all_allowed (words_of (call_of command)) ≡ b
        → list_all (λ (n : Needed). is_granule config.granules n.granule) (named (call_of command)) ≡ d
        → (not (b && d) || has_wrong (named (call_of command)) hold.cells) ≡ true → LocalStep config cpu command input_error hold hold
    by false d words names is = words-are_local config cpu command hold host place words
    by true false words names is =
        let name = some-fails (λ (n : Needed). is_granule config.granules n.granule) (named (call_of command)) names in
        addresses-are_local config cpu command hold name.it host place name.has name.is
    by true true words names is =
        let w = wrong_tag (named (call_of command)) hold.cells is in
        tags-are_local config cpu command hold w.h w.n host place w.has_h w.has_n w.same w.wrong
