-- What is decided without the side table, and borne out by it, is decided with it.
use Rattle.command_core.proofs.Common.{◌&&◌, ◌∙◌, ◌∷◌, ◌≡◌, ◌≤◌, Accepted, Bool, Call, Change, Command, Config, Done, Err, HeldCell, Hold, Inside, IsAnswer, List, None, Ok, Option, Outside, Reaches, Refusal, Result, Some, State, [], and_parts, ap, are_recs_counted, call_of, can_make, false, false≢true, hold_of, if◌then◌else◌, is_granule, is_none, is_settled, is_some, is_unshaped, is_vmid_listed, misshaped, nat_le, not, outside_answer, refl, seen_state, subst, sym, true, ℕ}
use Rattle.std.proofs.Math.Dec.{leb-zero}
use Rattle.rmm_spec.specs.HistoryText.{granule_limit}
use Rattle.rmm_spec.specs.declared.version.Version.TheVariants.{Large}
use Rattle.rmm_spec.specs.declared.call.Call.TheVariants.{RealmCreate, RealmDestroy}
use Rattle.rmm_spec.specs.declared.change.Change.TheVariants.{RecMade}
use Rattle.rmm_spec.specs.Rows.{done}
use Rattle.rmm_spec.specs.Step.Realm.{realm_create_told, realm_destroy_told}
use Rattle.rmm_spec.specs.Step.Ripas.{reached_change}
use Rattle.rmm_spec.specs.Shape.{Side, CpuPlace}
use Rattle.command_core.specs.Changed.{fits_cells, can_count, CanMakeAnswer, given_of}
use Rattle.command_core.specs.Decided.{rows_answer, made_answer, settled_answer}
use Rattle.command_core.specs.Foreseen.{unlisted, change_of, IsDecision, lists_none, has_count, bears_out}
use Rattle.command_core.specs.Furthest.{furthest}
use Rattle.command_core.proofs.Ready.{decision, answer-makes}

-- ---- the answer

settled_answer-makes : (config : Config) (cpu : ℕ) (c : Call) (hold : Hold) → config.granules ≤ granule_limit Large
    → CanMakeAnswer hold (settled_answer config cpu c hold.cells hold.side hold.place)
unfolding settled_answer
settled_answer-makes config cpu c hold few = by (is_unshaped config c hold.place hold.cells)
  where
    by : (b : Bool) → CanMakeAnswer hold (if b then Err misshaped
        else made_answer config hold.cells hold.side (rows_answer config cpu c hold.cells (Some hold.side) hold.place))
    by true = tt
    by false = answer-makes config hold (rows_answer config cpu c hold.cells (Some hold.side) hold.place) few

-- an answer as a decision
answer-decision : (config : Config) (cpu : ℕ) (command : Command) (hold : Hold) (answer : Result Accepted Refusal)
    → IsAnswer config cpu command hold answer → CanMakeAnswer hold answer → IsDecision config cpu command hold (given_of answer) (change_of answer)
answer-decision config cpu command hold (Err refusal) answered makes = record {
  decides = answered.is_local;
  furthest = answered.is_furthest;
  can = record { held = tt; tables = tt; here = tt };
  makes = record { fits = refl; counts = refl };
}
answer-decision config cpu command hold (Ok (Done words made)) answered makes = record {
  decides = answered.is_local;
  furthest = answered.is_furthest;
  can = answered.can;
  makes = makes;
}
answer-decision config cpu command hold (Ok (Reaches stretch)) answered makes = absurd answered.can

pub settled-decision : (config : Config) (cpu : ℕ) (command : Command) (hold : Hold) (c : Call) (answer : Result Accepted Refusal)
    → c ≡ call_of command → is_settled config (call_of command) hold.place hold.cells ≡ true
    → answer ≡ settled_answer config cpu c hold.cells hold.side hold.place → CanMakeAnswer hold answer
    → IsDecision config cpu command hold (given_of answer) (change_of answer)
settled-decision config cpu command hold c answer is settled same makes =
    answer-decision config cpu command hold answer (decision config cpu command hold c answer answer is settled same refl) makes

-- ---- what bears it out

vmid-free : (fits : Bool) (o : Option ℕ) → (fits && is_none o) ≡ true → is_some o ≡ false
vmid-free fits None none = refl
vmid-free true (Some rd) none = absurd (false≢true none)
vmid-free false (Some rd) none = absurd (false≢true none)

outside-borne_out : (s : State) (cpu : ℕ) (c : Call) (side : Side) → lists_none side c ≡ true
    → outside_answer (is_vmid_listed side) (are_recs_counted side) s cpu c
    ≡ outside_answer (is_vmid_listed unlisted) (are_recs_counted unlisted) s cpu c
unfolding outside_answer
outside-borne_out s cpu (RealmCreate rd root width level vmid algo) side none =
    ap (λ used. realm_create_told used s rd root width level vmid algo) (vmid-free (nat_le vmid 0xff) (side.vmids vmid) none)
outside-borne_out s cpu (RealmDestroy rd) side none = ap (λ is_zero. realm_destroy_told (not is_zero) s rd) none
outside-borne_out s cpu _ side none = refl

rows-borne_out : (config : Config) (cpu : ℕ) (c : Call) (held : List HeldCell) (side : Side) (place : CpuPlace) → lists_none side c ≡ true
    → rows_answer config cpu c held (Some side) place ≡ rows_answer config cpu c held (Some unlisted) place
rows-borne_out config cpu c held side Outside none = outside-borne_out (seen_state config held) cpu c side none
rows-borne_out config cpu c held side (Inside rec rd) none = refl

-- the side table counts what one that lists nothing counts
can_count-borne_out : (granules : ℕ) (side : Side) (change : Change) → has_count granules side change ≡ true
    → can_count granules side change ≡ can_count granules unlisted change
can_count-borne_out granules side (RecMade rd rec mpidr flags aux0 aux1) counts =
    ap (λ b. is_granule granules rd && b) (counts ∙ sym (leb-zero granules))
can_count-borne_out granules side _ counts = refl

none-counted : (granules : ℕ) (side : Side) (change : Change) → can_count granules unlisted change ≡ false → can_count granules side change ≡ false
none-counted granules side (RecMade rd rec mpidr flags aux0 aux1) none =
    by (is_granule granules rd) (ap (λ b. is_granule granules rd && b) (sym (leb-zero granules)) ∙ none)
  where
    by : (b : Bool) → (b && true) ≡ false → (b && nat_le (side.rec_counts rd) granules) ≡ false
    by true no_count = absurd (false≢true (sym no_count))
    by false no_count = refl
none-counted granules side _ none = absurd (false≢true (sym none))

-- what is picked by one test is picked by another that agrees where it is picked
picked : (fits counts other : Bool) (made refused : Result Accepted Refusal) (P : Result Accepted Refusal → Type 0)
    → P (if fits && counts then made else refused)
    → (P made → other ≡ counts) → (counts ≡ false → other ≡ false)
    → (if fits && other then made else refused) ≡ (if fits && counts then made else refused)
picked false counts other made refused P is same none = refl
picked true true other made refused P is same none = ap (λ b. if b then made else refused) (same is)
picked true false other made refused P is same none = ap (λ b. if b then made else refused) (none refl)

made_answer-borne_out : (config : Config) (held : List HeldCell) (side : Side) (rows : Result Accepted Refusal)
    → has_count config.granules side (change_of (made_answer config held unlisted rows)) ≡ true
    → made_answer config held side rows ≡ made_answer config held unlisted rows
unfolding can_make
made_answer-borne_out config held side (Err refusal) counts = refl
made_answer-borne_out config held side (Ok (Done words made)) counts =
    picked (fits_cells held made) (can_count config.granules unlisted made)
    (can_count config.granules side made) (Ok (Done words made)) (Err misshaped)
    (λ answer. has_count config.granules side (change_of answer) ≡ true) counts
    (can_count-borne_out config.granules side made) (none-counted config.granules side made)
made_answer-borne_out config held side (Ok (Reaches stretch)) counts =
    let top = furthest (seen_state config held) stretch in
    let made = reached_change stretch top in
    picked (fits_cells held made) (can_count config.granules unlisted made)
    (can_count config.granules side made) (Ok (done (top ∷ []) made)) (Err misshaped)
    (λ answer. has_count config.granules side (change_of answer) ≡ true) counts
    (can_count-borne_out config.granules side made) (none-counted config.granules side made)

settled-borne_out : (config : Config) (cpu : ℕ) (c : Call) (held : List HeldCell) (side : Side) (place : CpuPlace)
    → bears_out config.granules side c (change_of (settled_answer config cpu c held unlisted place)) ≡ true
    → settled_answer config cpu c held side place ≡ settled_answer config cpu c held unlisted place
unfolding settled_answer
settled-borne_out config cpu c held side place told = by (is_unshaped config c place held) told
  where
    rows : Side → Result Accepted Refusal
    rows x = rows_answer config cpu c held (Some x) place

    by : (b : Bool)
        → bears_out config.granules side c (change_of (if b then Err misshaped else made_answer config held unlisted (rows unlisted))) ≡ true
        → (if b then Err misshaped else made_answer config held side (rows side))
        ≡ (if b then Err misshaped else made_answer config held unlisted (rows unlisted))
    by true borne_out = refl
    by false borne_out =
        let both = and_parts _ _ borne_out in
        ap (made_answer config held side) (rows-borne_out config cpu c held side place both.0)
        ∙ made_answer-borne_out config held side (rows unlisted) both.1

pub foreseen-decision : (config : Config) (cpu : ℕ) (command : Command)
    (held : List HeldCell) (side : Side) (place : CpuPlace) (answer : Result Accepted Refusal)
    → config.granules ≤ granule_limit Large → is_settled config (call_of command) place held ≡ true
    → answer ≡ settled_answer config cpu (call_of command) held unlisted place
    → bears_out config.granules side (call_of command) (change_of answer) ≡ true
    → IsDecision config cpu command (hold_of held side place) (given_of answer) (change_of answer)
foreseen-decision config cpu command held side place answer few settled foreseen told =
    let hold = hold_of held side place in
    let same : answer ≡ settled_answer config cpu (call_of command) held side place =
    foreseen ∙ sym (settled-borne_out config cpu (call_of command) held side place
    (subst (λ a. bears_out config.granules side (call_of command) (change_of a) ≡ true) foreseen told)) in
    settled-decision config cpu command hold (call_of command) answer refl settled same
    (subst (CanMakeAnswer hold) (sym same) (settled_answer-makes config cpu (call_of command) hold few))
