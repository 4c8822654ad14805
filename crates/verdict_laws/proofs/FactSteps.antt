-- What holds behind a step, by the change that its call makes, and what a step isn't replied, by the rows of its call.
use Rattle.verdict_laws.proofs.Common.{◌≡◌, ℕ, ◌&&◌, Bool, true, false, not, if◌then◌else◌, List, [], ◌∷◌, refl, sym, ◌∙◌, ap, subst, Result, Ok, Err, and_from, and_parts, false_from_ne_true, or_parts, Accepted, Done, Reaches, Call, Change, Command, Refusal, Misplaced, Reply, call_of, class_of, changed, has_tag, is_inside, is_accepted, Needed, decided, State, CarriesOut, Step, answer_of, is_placed, misplacement, outcome, with_front, reached_change, named, words_of, both_ways, behind, outcome-leads}
use Rattle.std.specs.List.{list_all, list_any}
use Rattle.std.proofs.Math.Bool.{and-false}
use Rattle.rmm_spec.specs.declared.refusal.Refusal.TheVariants.{Input}
use Rattle.rmm_spec.specs.declared.reply.Reply.TheVariants as reply
use Rattle.rmm_spec.specs.Rows.{Row, Word, all_allowed, input_error, inputs, reply_of, tagged}
use Rattle.rmm_laws.proofs.RowLaws.{Leads}

-- ---- what holds behind a step

-- what is done is such a change, whatever end a reply gives
abbrev pub IsDoneSo : (Change → Type 0) → Accepted → Type 0
IsDoneSo Is (Done words change) = Is change
IsDoneSo Is (Reaches stretch) = (top : ℕ) → Is (reached_change stretch top)

module _ (Has : State → Type 0) (Is : Change → Type 0) (s new : State) (cpu : ℕ) (command : Command) (given : Reply)
    (behind_it : (change : Change) → Is change → Has (changed s change)) (refused_has : is_accepted given ≡ false → Has s)
    (done : IsDoneSo Is (behind s cpu (call_of command)).1) where
  -- by what the call leads to
  carried-has : (found : Result Accepted Refusal) → Leads s cpu (call_of command) found → CarriesOut found s given new → Has new
  carried-has (Err refused) leads carried = subst Has (sym carried.1) (refused_has (ap is_accepted carried.0 ∙ leads))
  carried-has (Ok (Done words change)) leads carried = subst Has (sym carried.1) (behind_it change (subst (IsDoneSo Is) leads.1 done))
  carried-has (Ok (Reaches stretch)) leads (top, (reached, is_ok, is_next)) =
      subst Has (sym is_next) (behind_it (reached_change stretch top) (subst (IsDoneSo Is) leads.1 done top))

  -- it holds behind a step whose call makes such a change, if it does where the call is refused
  pub step-has : Step s cpu command given new → Has new
  step-has = carried-has (outcome s cpu (call_of command)) (outcome-leads s cpu (call_of command) _ refl)

-- ---- what a step isn't replied

-- whether a row is refused with such a reply
abbrev pub is_told : (Reply → Bool) → Row → Bool
is_told says row = says (reply_of row.otherwise) && not row.holds

-- whether one of the rows is
abbrev pub are_told : (Reply → Bool) → List Row → Bool
are_told says rows = list_any (is_told says) rows

-- whether each granule that is named has its tag
abbrev pub are_tagged : State → List Needed → Bool
are_tagged s names = list_all (λ (n : Needed). has_tag s n.granule n.tag) names

-- rows on words that are allowed refuse nothing
are_told-allowed : (says : Reply → Bool) (words : List Word) (rows : List Row) → all_allowed words ≡ true
    → are_told says (inputs words rows) ≡ are_told says rows
are_told-allowed says [] rows allowed = refl
are_told-allowed says (word ∷ words) rows allowed =
    let parts = and_parts word.allowed (all_allowed words) allowed in
    rw (parts.0, and-false (says input_error)) (are_told-allowed says words rows parts.1)

-- nor do those on tags that are there
are_told-there : (says : Reply → Bool) (s : State) (names : List Needed) (rows : List Row) → are_tagged s names ≡ true
    → are_told says (tagged s names rows) ≡ are_told says rows
are_told-there says s [] rows there = refl
are_told-there says s (name ∷ names) rows there =
    let parts = and_parts (has_tag s name.granule name.tag) (are_tagged s names) there in
    rw (parts.0, and-false (says input_error)) (are_told-there says s names rows parts.1)

module _ (says : Reply → Bool) (of_accepted : (words : _) → says (reply.Ok words) ≡ false) (of_misplaced : says reply.Misplaced ≡ false) where
  -- what a call leads to is refused with no such reply
  abbrev pub IsUntold : Result Accepted Refusal → Type 0
  IsUntold (Ok found) = Unit {0}
  IsUntold (Err refused) = says (reply_of refused) ≡ false

  -- so it is with what rows lead to of which none is refused so
  pub IsUntold-decided : (rows : List Row) (found : Accepted) → are_told says rows ≡ false → IsUntold (decided rows found)
  IsUntold-decided [] found none = tt
  IsUntold-decided (row ∷ rows) found none =
      let parts = or_parts (is_told says row) (are_told says rows) none in by row.holds parts.0 (IsUntold-decided rows found parts.1)
    where
      by : (b : Bool) → (says (reply_of row.otherwise) && not b) ≡ false → IsUntold (decided rows found)
          → IsUntold (if b then decided rows found else Err row.otherwise)
      by true here later = later
      by false here later = false_from_ne_true _ (λ is. both_ways (and_from _ _ is refl) here)

  -- so it is with a call, placed or not, if what it leads to where it is placed is so
  IsUntold-outcome : (s : State) (cpu : ℕ) (c : Call) → IsUntold (decided (with_front s c (behind s cpu c).0) (behind s cpu c).1)
      → IsUntold (outcome s cpu c)
  unfolding outcome
  IsUntold-outcome s cpu c untold = by (is_placed s cpu (class_of c))
    where
      by : (placed : Bool) → IsUntold (if placed then answer_of s cpu c else Err (Misplaced (misplacement (is_inside s cpu) (class_of c))))
      by true = subst IsUntold (sym (behind s cpu c).2) untold
      by false = of_misplaced

  -- then what is carried out has another reply
  carried-untold : (found : Result Accepted Refusal) (s new : State) (given : Reply) → IsUntold found → CarriesOut found s given new
      → says given ≡ false
  carried-untold (Err refused) s new given untold carried = ap says carried.0 ∙ untold
  carried-untold (Ok (Done words change)) s new given untold carried = ap says carried.0 ∙ of_accepted words
  carried-untold (Ok (Reaches stretch)) s new given untold carried = ap says carried.1.1 ∙ of_accepted _

  -- and so has a step
  answer-untold : (s new : State) (cpu : ℕ) (command : Command) (given : Reply)
      → IsUntold (decided (with_front s (call_of command) (behind s cpu (call_of command)).0) (behind s cpu (call_of command)).1)
      → Step s cpu command given new → says given ≡ false
  answer-untold s new cpu command given untold =
      carried-untold (outcome s cpu (call_of command)) s new given (IsUntold-outcome s cpu (call_of command) untold)

  -- one whose call has no row that is refused so
  front-untold : (s new : State) (cpu : ℕ) (command : Command) (given : Reply)
      → are_told says (with_front s (call_of command) (behind s cpu (call_of command)).0) ≡ false → Step s cpu command given new
      → says given ≡ false
  front-untold s new cpu command given none = answer-untold s new cpu command given (IsUntold-decided _ (behind s cpu (call_of command)).1 none)

  -- rows on words that are allowed lead to what those behind them do
  IsUntold-allowed : (words : List Word) (rows : List Row) (found : Accepted) → all_allowed words ≡ true → IsUntold (decided rows found)
      → IsUntold (decided (inputs words rows) found)
  IsUntold-allowed [] rows found allowed untold = untold
  IsUntold-allowed (word ∷ words) rows found allowed untold =
      let parts = and_parts word.allowed (all_allowed words) allowed in rw parts.0 (IsUntold-allowed words rows found parts.1 untold)

  -- and so do those on tags that are there
  IsUntold-there : (s : State) (names : List Needed) (rows : List Row) (found : Accepted) → are_tagged s names ≡ true
      → IsUntold (decided rows found) → IsUntold (decided (tagged s names rows) found)
  IsUntold-there s [] rows found there untold = untold
  IsUntold-there s (name ∷ names) rows found there untold =
      let parts = and_parts (has_tag s name.granule name.tag) (are_tagged s names) there in
      rw parts.0 (IsUntold-there s names rows found parts.1 untold)

  -- so where its words are allowed and what it names has its tags, a call isn't answered so if what is behind those leads to no such reply
  pub step-untold_behind : (s new : State) (cpu : ℕ) (command : Command) (given : Reply) → all_allowed (words_of (call_of command)) ≡ true
      → are_tagged s (named (call_of command)) ≡ true
      → IsUntold (decided (behind s cpu (call_of command)).0 (behind s cpu (call_of command)).1) → Step s cpu command given new
      → says given ≡ false
  step-untold_behind s new cpu command given allowed there untold =
      let c = call_of command in
      let rows = (behind s cpu c).0 in
      let found = (behind s cpu c).1 in
      answer-untold s new cpu command given
      (IsUntold-allowed (words_of c) (tagged s (named c) rows) found allowed (IsUntold-there s (named c) rows found there untold))

  -- or, where its words are allowed and what it names has its tags, none behind those
  pub step-untold_there : (s new : State) (cpu : ℕ) (command : Command) (given : Reply) → all_allowed (words_of (call_of command)) ≡ true
      → are_tagged s (named (call_of command)) ≡ true → are_told says (behind s cpu (call_of command)).0 ≡ false → Step s cpu command given new
      → says given ≡ false
  step-untold_there s new cpu command given allowed there none =
      let c = call_of command in
      let rows = (behind s cpu c).0 in
      front-untold s new cpu command given
      (are_told-allowed says (words_of c) (tagged s (named c) rows) allowed ∙ are_told-there says s (named c) rows there ∙ none)

  module _ (of_input : says input_error ≡ false) where
    -- the rows on words add none
    are_told-inputs : (words : List Word) (rows : List Row) → are_told says (inputs words rows) ≡ are_told says rows
    are_told-inputs [] rows = refl
    are_told-inputs (word ∷ words) rows = rw of_input (are_told-inputs words rows)

    -- nor do those on tags
    are_told-tagged : (s : State) (names : List Needed) (rows : List Row) → are_told says (tagged s names rows) ≡ are_told says rows
    are_told-tagged s [] rows = refl
    are_told-tagged s (name ∷ names) rows = rw of_input (are_told-tagged s names rows)

    -- where a word isn't allowed, it is the words' reply that is given
    IsUntold-inputs : (words : List Word) (rows : List Row) (found : Accepted) → all_allowed words ≡ false
        → IsUntold (decided (inputs words rows) found)
    IsUntold-inputs [] rows found bad = both_ways refl bad
    IsUntold-inputs (first ∷ others) rows found bad = by first.allowed bad (IsUntold-inputs others rows found)
      where
        by : (b : Bool) → (b && all_allowed others) ≡ false → (all_allowed others ≡ false → IsUntold (decided (inputs others rows) found))
            → IsUntold (if b then decided (inputs others rows) found else Err (Input first.condition))
        by true bad later = later bad
        by false bad later = of_input

    -- so of a reply that those in front don't give, the rows behind them are enough, and these where the words are allowed
    pub step-untold_allowed : (s new : State) (cpu : ℕ) (command : Command) (given : Reply)
        → (all_allowed (words_of (call_of command)) ≡ true → are_told says (behind s cpu (call_of command)).0 ≡ false)
        → Step s cpu command given new → says given ≡ false
    step-untold_allowed s new cpu command given none step = by (all_allowed (words_of (call_of command))) refl
      where
        by : (b : Bool) → all_allowed (words_of (call_of command)) ≡ b → says given ≡ false
        by true fit =
            let c = call_of command in
            let rows = (behind s cpu c).0 in
            front-untold s new cpu command given
            (are_told-inputs (words_of c) (tagged s (named c) rows) ∙ are_told-tagged s (named c) rows ∙ none fit) step
        by false bad = answer-untold s new cpu command given (IsUntold-inputs (words_of (call_of command)) _ _ bad) step

    -- whatever the words are
    pub step-untold : (s new : State) (cpu : ℕ) (command : Command) (given : Reply) → are_told says (behind s cpu (call_of command)).0 ≡ false
        → Step s cpu command given new → says given ≡ false
    step-untold s new cpu command given none = step-untold_allowed s new cpu command given (λ _. none)
