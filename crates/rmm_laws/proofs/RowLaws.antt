-- Rows: what a command accepts is what stands behind its rows, and then each of them holds; what it refuses is no acceptance.
use Rattle.rmm_laws.proofs.Common.{◌∙◌, ◌∷◌, ◌≡◌, Accepted, Bool, Err, IsTrue, List, Ok, Refusal, Result, State, [], false, has_tag, if◌then◌else◌, is_accepted, outcome, refl, subst, sym, true, ℕ}
use Rattle.std.specs.List.{AllByRecursion}
use Rattle.rmm_spec.specs.declared.call.Call.{Call}
use Rattle.rmm_spec.specs.declared.refusal.Refusal.TheVariants as of
use Rattle.rmm_spec.specs.Call.{class_of}
use Rattle.rmm_spec.specs.Rows.{Row, Needed, Word, inputs, reply_of, tagged}
use Rattle.rmm_spec.specs.Lookup.{is_inside}
use Rattle.rmm_spec.specs.Step.{is_placed, misplacement, answer_of}
use Rattle.rmm_spec.specs.Step.Front.{with_front}
use Rattle.rmm_spec.specs.Step.Terms.{named, words_of}
use Rattle.rmm_laws.proofs.ByRows.{AllHold, decided-accepted}
use Rattle.spec_lemmas.proofs.Behind.{behind}

-- no refusal accepts
pub refusal-refuses : (refusal : Refusal) → is_accepted (reply_of refusal) ≡ false
refusal-refuses (of.Misplaced condition) = refl
refusal-refuses _ = refl

-- ---- the rows that every command begins with

inputs-rest : (tests : List Word) (rows : List Row)
    → AllHold (inputs tests rows) → AllByRecursion (λ (w : Word). IsTrue w.allowed) tests × AllHold rows
inputs-rest [] rows hold = (tt, hold)
inputs-rest (test ∷ tests) rows (here, later) = let rest = inputs-rest tests rows later in ((here, rest.0), rest.1)

tagged-rest : (s : State) (needs : List Needed) (rows : List Row) → AllHold (tagged s needs rows)
    → AllByRecursion (λ (n : Needed). IsTrue (has_tag s n.granule n.tag)) needs × AllHold rows
tagged-rest s [] rows hold = (tt, hold)
tagged-rest s (need ∷ needs) rows (here, later) = let rest = tagged-rest s needs rows later in ((here, rest.0), rest.1)

-- where they hold the words are allowed, each granule has its tag, and the rows behind them hold
pub front-rest : (s : State) (c : Call) (rows : List Row) → AllHold (with_front s c rows)
    → AllByRecursion (λ (w : Word). IsTrue w.allowed) (words_of c)
    × AllByRecursion (λ (n : Needed). IsTrue (has_tag s n.granule n.tag)) (named c) × AllHold rows
front-rest s c rows hold =
    let words = inputs-rest (words_of c) (tagged s (named c) rows) hold in
    let tags = tagged-rest s (named c) rows words.1 in
    (words.0, tags.0, tags.1)

-- what a command leads to: what stands behind its rows, which all hold, or a refusal
abbrev pub Leads : State → ℕ → Call → Result Accepted Refusal → Type 0
Leads s cpu c (Ok found) = AllHold (with_front s c (behind s cpu c).0) × ((behind s cpu c).1 ≡ found)
Leads s cpu c (Err refusal) = is_accepted (reply_of refusal) ≡ false

leads_by : (s : State) (cpu : ℕ) (c : Call) (placed : Bool) (found : Result Accepted Refusal)
    → (if placed then answer_of s cpu c else Err (of.Misplaced (misplacement (is_inside s cpu) (class_of c)))) ≡ found → Leads s cpu c found
leads_by s cpu c true (Ok found) is =
    let rest = behind s cpu c in decided-accepted (with_front s c rest.0) rest.1 found (sym rest.2 ∙ is)
leads_by s cpu c true (Err refusal) is = refusal-refuses refusal
leads_by s cpu c false found is = subst (Leads s cpu c) is refl

pub outcome-leads : (s : State) (cpu : ℕ) (c : Call) (found : Result Accepted Refusal) → outcome s cpu c ≡ found → Leads s cpu c found
unfolding outcome
outcome-leads s cpu c found is = leads_by s cpu c (is_placed s cpu (class_of c)) found is
