-- What words or a named granule's tag refuse is refused in every whole that agrees with what is held.
use Rattle.std.proofs.Common.{◌≡◌, ℕ, zero, suc, Bool, true, false, ◌==◌, if◌then◌else◌, List, [], ◌∷◌, Some, slice_get, ◌&&◌, Result, Err, ◌⊎◌, inl, inr, refl, sym, ap, ◌∙◌, subst}
use Rattle.std.specs.Prelude.{Contains, not}
use Rattle.std.specs.List.{list_all}
use Rattle.std.proofs.lemmas.Bool.{false≢true, and_right, and_left}
use Rattle.std.proofs.lemmas.Option.{none-some}
use Rattle.rmm_spec.specs.HistoryText.{Config}
use Rattle.rmm_spec.specs.declared.accepted.Accepted.{Accepted}
use Rattle.rmm_spec.specs.declared.call.Call.{Call}
use Rattle.rmm_spec.specs.declared.command.Command.{Command}
use Rattle.rmm_spec.specs.declared.condition.Condition.{Condition}
use Rattle.rmm_spec.specs.declared.condition.Condition.TheVariants.{GranState}
use Rattle.rmm_spec.specs.declared.refusal.Refusal.{Refusal}
use Rattle.rmm_spec.specs.declared.refusal.Refusal.TheVariants as of
use Rattle.rmm_spec.specs.declared.reply.Reply.TheVariants as reply
use Rattle.rmm_spec.specs.Call.{ByHost, ByRealm, ByExit, call_of, class_of}
use Rattle.rmm_spec.specs.State.{State}
use Rattle.rmm_spec.specs.Lookup.{has_tag, tag_number, is_granule, is_inside}
use Rattle.rmm_spec.specs.Rows.{Row, Needed, Word, decided, inputs, reply_of, tagged, input_error, all_allowed}
use Rattle.rmm_spec.specs.Step.Front.{with_front}
use Rattle.rmm_spec.specs.Step.Terms.{words_of, named}
use Rattle.rmm_spec.specs.Step.{Step, CarriesOut, answer_of, outcome, is_placed, misplacement}
use Rattle.spec_lemmas.proofs.Behind.{behind}
use Rattle.rmm_spec.specs.Cell.{Cell, tag_of}
use Rattle.rmm_spec.specs.Flat.{flat_state}
use Rattle.rmm_spec.specs.Shape.{Side, CpuPlace, Outside, Inside, IsWellShaped}
use Rattle.rmm_spec.specs.Local.{HeldCell, Hold, Agrees, LocalStep}
use Rattle.world_laws.proofs.Locals.{unchanged-is_local, agrees-at}
use Rattle.spec_lemmas.proofs.Members.{slice_get-from_Contains}
use Rattle.spec_lemmas.proofs.Placed.{is_inside-outside, is_inside-inside}

-- ---- rows

-- it is refused as input
abbrev pub IsInputError : Result Accepted Refusal → Type 0
IsInputError found = (condition : Condition) × (found ≡ Err (of.Input condition))

-- a word that is refused decides, whatever the rows behind say
decided-words : (words : List Word) (rows : List Row) (accepted : Accepted) → list_all (λ (w : Word). w.allowed) words ≡ false
    → IsInputError (decided (inputs words rows) accepted)
decided-words [] rows accepted wrong = absurd (false≢true (sym wrong))
decided-words (word ∷ words) rows accepted wrong = by word.allowed wrong (decided-words words rows accepted)
  where
    by : (b : Bool) → (b && list_all (λ (w : Word). w.allowed) words) ≡ false
        → (list_all (λ (w : Word). w.allowed) words ≡ false → IsInputError (decided (inputs words rows) accepted))
        → IsInputError (if b then decided (inputs words rows) accepted else Err (of.Input word.condition))
    by true others later = later others
    by false others later = (word.condition, refl)

-- what the rows behind refuse as input is refused as input, whatever the words say
decided-inputs : (words : List Word) (rows : List Row) (accepted : Accepted)
    → IsInputError (decided rows accepted) → IsInputError (decided (inputs words rows) accepted)
decided-inputs [] rows accepted refused = refused
decided-inputs (word ∷ words) rows accepted refused = by word.allowed (decided-inputs words rows accepted refused)
  where
    by : (b : Bool) → IsInputError (decided (inputs words rows) accepted)
        → IsInputError (if b then decided (inputs words rows) accepted else Err (of.Input word.condition))
    by true later = later
    by false later = (word.condition, refl)

-- a named granule without the tag that is needed there decides
decided-tags : (s : State) (names : List Needed) (rows : List Row) (accepted : Accepted) (i : ℕ) (n : Needed) → slice_get names i ≡ Some n
    → has_tag s n.granule n.tag ≡ false → IsInputError (decided (tagged s names rows) accepted)
decided-tags s [] rows accepted i n is wrong = absurd (none-some n is)
decided-tags s (first ∷ names) rows accepted zero n is wrong =
    let same : has_tag s first.granule first.tag ≡ false =
    subst (λ (m : Needed). has_tag s m.granule m.tag ≡ false) (let e : n ≡ first = cc in e) wrong in
    (GranState, rw same refl)
decided-tags s (first ∷ names) rows accepted (suc i) n is wrong =
    by (has_tag s first.granule first.tag) (decided-tags s names rows accepted i n is wrong)
  where
    by : (b : Bool) → IsInputError (decided (tagged s names rows) accepted)
        → IsInputError (if b then decided (tagged s names rows) accepted else Err (of.Input GranState))
    by true later = later
    by false later = (GranState, refl)

-- the words refuse, or a named granule hasn't the tag that is needed there
pub data IsRefusedInFront (s : State) (c : Call) : Type 0 where
  by_words : all_allowed (words_of c) ≡ false → IsRefusedInFront s c
  by_tag : (i : ℕ) (n : Needed) → slice_get (named c) i ≡ Some n → has_tag s n.granule n.tag ≡ false → IsRefusedInFront s c

pub decided-front : (s : State) (c : Call) (rows : List Row) (accepted : Accepted)
    → IsRefusedInFront s c → IsInputError (decided (with_front s c rows) accepted)
decided-front s c rows accepted (by_words wrong) = decided-words (words_of c) (tagged s (named c) rows) accepted wrong
decided-front s c rows accepted (by_tag i n is wrong) =
    decided-inputs (words_of c) (tagged s (named c) rows) accepted (decided-tags s (named c) rows accepted i n is wrong)

-- each command begins with those rows
pub answer_of-front : (s : State) (cpu : ℕ) (c : Call) → IsRefusedInFront s c → IsInputError (answer_of s cpu c)
answer_of-front s cpu c refused = let rest = behind s cpu c in subst IsInputError (sym rest.2) (decided-front s c rest.0 rest.1 refused)

-- ---- local steps

-- what refuses gives that reply and changes nothing
pub Step-refused : (s : State) (cpu : ℕ) (command : Command) (refusal : Refusal)
    → outcome s cpu (call_of command) ≡ Err refusal → Step s cpu command (reply_of refusal) s
Step-refused s cpu command refusal is = subst (λ o. CarriesOut o s (reply_of refusal) s) (sym is) (refl, refl)

-- a host's command on a CPU that is outside is answered by its rows
pub outcome-host : (config : Config) (side : Side) (places : ℕ → CpuPlace) (cells : ℕ → Cell) → IsWellShaped config side places cells
    → (cpu : ℕ) (c : Call) → class_of c ≡ ByHost → places cpu ≡ Outside
    → outcome (flat_state config cells) cpu c ≡ answer_of (flat_state config cells) cpu c
unfolding outcome
outcome-host config side places cells shaped cpu c by_host place =
    let placed : is_placed (flat_state config cells) cpu (class_of c) ≡ true =
    ap (is_placed (flat_state config cells) cpu) by_host ∙ ap not (is_inside-outside config side places cells shaped cpu place) in
    rw placed refl

pub outcome-misplaced : (s : State) (cpu : ℕ) (c : Call)
    → is_placed s cpu (class_of c) ≡ false → outcome s cpu c ≡ Err (of.Misplaced (misplacement (is_inside s cpu) (class_of c)))
unfolding outcome
outcome-misplaced s cpu c misplaced = rw misplaced refl

refused_in_front-is_local : (config : Config) (cpu : ℕ) (command : Command) (hold : Hold) → class_of (call_of command) ≡ ByHost → hold.place ≡ Outside
    → ((cells : ℕ → Cell) → Agrees cells hold.cells → IsRefusedInFront (flat_state config cells) (call_of command))
    → LocalStep config cpu command input_error hold hold
refused_in_front-is_local config cpu command hold by_host outside refused =
    unchanged-is_local config cpu command input_error hold (λ cells places shaped agrees place.
    let front = answer_of-front (flat_state config cells) cpu (call_of command) (refused cells agrees) in
    Step-refused (flat_state config cells) cpu command (of.Input front.0)
    (outcome-host config hold.side places cells shaped cpu (call_of command) by_host (place ∙ outside) ∙ front.1))

pub words-are_local : (config : Config) (cpu : ℕ) (command : Command) (hold : Hold) → class_of (call_of command) ≡ ByHost → hold.place ≡ Outside
    → all_allowed (words_of (call_of command)) ≡ false → LocalStep config cpu command input_error hold hold
words-are_local config cpu command hold by_host outside wrong =
    refused_in_front-is_local config cpu command hold by_host outside (λ cells agrees. by_words wrong)

-- what is no granule has no tag
has_tag-no_granule : (config : Config) (cells : ℕ → Cell) (n : Needed) → is_granule config.granules n.granule ≡ false
    → has_tag (flat_state config cells) n.granule n.tag ≡ false
unfolding has_tag flat_state
has_tag-no_granule config cells n wrong =
    and_left (is_granule config.granules n.granule) (tag_number (tag_of (cells n.granule)) == tag_number n.tag) wrong

-- nor has a granule a tag that its cell hasn't
has_tag-other : (config : Config) (cells : ℕ → Cell) (n : Needed) (cell : Cell) → cells n.granule ≡ cell
    → (tag_number (tag_of cell) == tag_number n.tag) ≡ false → has_tag (flat_state config cells) n.granule n.tag ≡ false
unfolding has_tag flat_state
has_tag-other config cells n cell there wrong =
    and_right (is_granule config.granules n.granule) (tag_number (tag_of (cells n.granule)) == tag_number n.tag)
    (ap (λ (c : Cell). tag_number (tag_of c) == tag_number n.tag) there ∙ wrong)

pub addresses-are_local : (config : Config) (cpu : ℕ) (command : Command) (hold : Hold) (n : Needed)
    → class_of (call_of command) ≡ ByHost → hold.place ≡ Outside
    → Contains (named (call_of command)) n → is_granule config.granules n.granule ≡ false → LocalStep config cpu command input_error hold hold
addresses-are_local config cpu command hold n by_host outside has wrong =
    let found = slice_get-from_Contains (named (call_of command)) n has in
    refused_in_front-is_local config cpu command hold by_host outside
    (λ cells agrees. by_tag found.0 n found.1 (has_tag-no_granule config cells n wrong))

pub tags-are_local : (config : Config) (cpu : ℕ) (command : Command) (hold : Hold) (h : HeldCell) (n : Needed) → class_of (call_of command) ≡ ByHost
    → hold.place ≡ Outside → Contains hold.cells h → Contains (named (call_of command)) n → n.granule ≡ h.granule
    → (tag_number (tag_of h.cell) == tag_number n.tag) ≡ false → LocalStep config cpu command input_error hold hold
tags-are_local config cpu command hold h n by_host outside has_h has_n same wrong =
    let found = slice_get-from_Contains (named (call_of command)) n has_n in
    refused_in_front-is_local config cpu command hold by_host outside (λ cells agrees. by_tag found.0 n found.1
    (has_tag-other config cells n h.cell (ap cells same ∙ agrees-at cells hold.cells h agrees has_h) wrong))

-- a host's command inside of a REC
pub inside-is_local : (config : Config) (cpu : ℕ) (command : Command) (hold : Hold) (rec rd : ℕ) → class_of (call_of command) ≡ ByHost
    → hold.place ≡ Inside rec rd → LocalStep config cpu command reply.Misplaced hold hold
inside-is_local config cpu command hold rec rd by_host inside =
    unchanged-is_local config cpu command reply.Misplaced hold (λ cells places shaped agrees place.
    let s = flat_state config cells in
    Step-refused s cpu command (of.Misplaced _) (outcome-misplaced s cpu (call_of command)
    (ap (is_placed s cpu) by_host ∙ ap not (is_inside-inside config hold.side places cells shaped cpu rec rd (place ∙ inside)))))

-- a realm's call, and an exit, outside of RECs
pub outside-is_local : (config : Config) (cpu : ℕ) (command : Command) (hold : Hold)
    → (class_of (call_of command) ≡ ByRealm) ⊎ (class_of (call_of command) ≡ ByExit)
    → hold.place ≡ Outside → LocalStep config cpu command reply.Misplaced hold hold
outside-is_local config cpu command hold not_host outside =
    unchanged-is_local config cpu command reply.Misplaced hold (λ cells places shaped agrees place.
    let s = flat_state config cells in
    Step-refused s cpu command (of.Misplaced _) (outcome-misplaced s cpu (call_of command)
    (misplaced s (is_inside-outside config hold.side places cells shaped cpu (place ∙ outside)) not_host)))
  where
    misplaced : (s : State) → is_inside s cpu ≡ false → (class_of (call_of command) ≡ ByRealm) ⊎ (class_of (call_of command) ≡ ByExit)
        → is_placed s cpu (class_of (call_of command)) ≡ false
    misplaced s not_inside (inl by_realm) = rw (by_realm, not_inside) refl
    misplaced s not_inside (inr by_exit) = rw (by_exit, not_inside) refl
