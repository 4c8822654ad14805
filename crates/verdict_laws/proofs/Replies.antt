-- What a placed call is replied is what it may be in some state: a refusal for its words, or that of another row or the words of what it does.
use Rattle.verdict_laws.proofs.Common.{◌≡◌, ℕ, ◌+◌, ◌-◌, ◌*◌, ◌≤◌, ◌==◌, nat_le, nat_lt, Bool, true, false, if◌then◌else◌, List, [], ◌∷◌, ◌⊎◌, inl, inr, Option, Some, IsTrue, refl, sym, ◌∙◌, ap, subst, arith, eq-eqb, Result, Err, unwrap_or, and_from, and_parts, cases_Bool, or_cases, or_left, or_right, Accepted, Done, Reaches, Call, Entry, Measurement, Refusal, Reply, Tag, Undelegated, Delegated, class_of, changed, is_inside, no_rec, realm_at, rec_at, rec_inside, request_of, decided, IsSound, RealmRecord, RecRecord, State, CarriesOut, answer_of, is_placed, IsReached, named, words_of, reach, both_ways, realm_there, behind}
use Rattle.std.proofs.Common.{◌%◌, ◌^◌}
use Rattle.std.specs.Prelude.{◌&&◌, ◌||◌, None}
use Rattle.std.specs.List.{list_all}
use Rattle.std.proofs.lemmas.Bool.{le-leb, leb-false, lt-ltb, ltb-false, not_from_false, true_from_ne_false}
use Rattle.std.proofs.lemmas.Bool.Decides.{nat_tests}
use Rattle.std.proofs.Math.Nat.{mul-le-mul_left}
use Rattle.std.proofs.lemmas.Nat.{pow-add}
use Rattle.rmm_spec.specs.declared.accepted.Stretch.{Stretch}
use Rattle.rmm_spec.specs.declared.call.Call.TheVariants as call
use Rattle.rmm_spec.specs.declared.condition.Condition.{Condition}
use Rattle.rmm_spec.specs.declared.condition.Condition.TheVariants.{IpaBound, RgnBound}
use Rattle.rmm_spec.specs.declared.entry.Entry.TheVariants.{Assigned, AssignedNs, Table, Unassigned, UnassignedNs}
use Rattle.rmm_spec.specs.declared.measurement.Measurement.TheVariants.{Sha256, Sha512}
use Rattle.rmm_spec.specs.declared.refusal.Refusal.TheVariants.{Input}
use Rattle.rmm_spec.specs.declared.tag.Ripas.{Ripas}
use Rattle.rmm_spec.specs.declared.tag.Ripas.TheVariants.{Destroyed, Empty, Ram}
use Rattle.rmm_spec.specs.Call.{ByRealm}
use Rattle.rmm_spec.specs.Lookup.{is_granule, no_request, ripas_number}
use Rattle.rmm_spec.specs.Measure.{first_words, measurement_words}
use Rattle.rmm_spec.specs.Rows.{Row, Word, all_allowed, input, input_error, inputs, reply_of, tagged}
use Rattle.rmm_spec.specs.State.{HostCall, Pending, Psci, Request, RipasChange}
use Rattle.rmm_spec.specs.Step.RealmCall.{exit_words}
use Rattle.rmm_spec.specs.Step.Terms.{is_page, is_space}
use Rattle.rmm_spec.specs.Walk.{entry_address, entry_ripas, entry_size, entry_state, half, walk}
use Rattle.rmm_laws.proofs.Applies.{inside_running}
use Rattle.rmm_laws.proofs.Cases.{at_itself}
use Rattle.rmm_laws.proofs.Spaces.{entry_size-pos, space_cases}
use Rattle.spec_lemmas.proofs.WalkLaws.{reach-le}
use Rattle.verdict_laws.specs.Replying.{gives, has_input_row, has_rec_row, has_row_at_level, is_ripas, is_stretch, may_answer, may_end, realm_indices, reports_entry}

-- ---- refusals

-- a call whose own words aren't all allowed may be refused for them
may_answer-input_error : (c : Call) → all_allowed (words_of c) ≡ false → may_answer c input_error ≡ true
may_answer-input_error c wrong = or_left _ _ (or_right (has_input_row c) _ (not_from_false _ wrong))

-- whether each of the rows refuses with what the call may be replied, or holds
abbrev refuse : Call → List Row → Bool
refuse c rows = list_all (λ (r : Row). may_answer c (reply_of r.otherwise) || r.holds) rows

-- so does a row that refuses as words do, if it holds where the call has none such
refuse-input : (c : Call) (condition : Condition) (holds : Bool) → (has_input_row c ≡ false → holds ≡ true)
    → refuse c (input condition holds ∷ []) ≡ true
refuse-input c condition holds near = elim (cases_Bool (has_input_row c)) [
  | inl has ↦ rw has refl
  | inr none ↦ and_from _ true (or_right _ holds (near none)) refl
]

-- a realm's protected half is of 2 ^ 38 addresses at least
pub half-least : (r : RealmRecord) → IsTrue (is_space r.width r.start_level) → 2 ^ 38 ≤ half r
half-least r space = elim (space_cases r.width r.start_level space) [
  | inl small ↦ rw small.0 (omega arith)
  | inr large ↦ rw large.0 (omega arith)
]

-- so it is with the realm whose call is placed
inside_half : (s : State) (cpu : ℕ) → IsSound s → is_placed s cpu ByRealm ≡ true → 2 ^ 38 ≤ half (realm_at s (rec_at s (rec_inside s cpu)).owner)
inside_half s cpu sound placed =
    let rd = (rec_at s (rec_inside s cpu)).owner in
    let rec = inside_running s cpu sound (and_parts (is_inside s cpu) _ placed).0 in
    half-least (realm_at s rd) (sound.realms.spaces rd (realm_at s rd) (realm_there s rd sound rec.owner))

-- a walk up to a level ends by each that isn't above it
walk_within : (s : State) (rd ipa max level : ℕ) → max ≤ level → nat_le (reach s rd ipa max) level ≡ true
walk_within s rd ipa max level within = le-leb _ _ (omega (arith, reach-le s rd ipa max))

-- a stretch of pages that begins before its end has a page
pub one_page : (base top : ℕ) → is_page base ≡ true → is_page top ≡ true → nat_lt base top ≡ true → nat_le (base + 4096) top ≡ true
one_page base top first last ordered = grind (arith, nat_tests, first, last, ordered)

-- a level is the last, or above it
last_or_above : (level : ℕ) → level ≤ 3 → (nat_le level 2 ≡ true) ⊎ (level ≡ 3)
last_or_above level within = elim (cases_Bool (nat_le level 2)) [
  | inl above ↦ inl above
  | inr below ↦ inr (omega (arith, leb-false level 2 below, within))
]

-- where a placed call's words are allowed each of the rows behind them does
refuse-behind : (s : State) (cpu : ℕ) (c : Call) → IsSound s → is_placed s cpu (class_of c) ≡ true → all_allowed (words_of c) ≡ true
    → refuse c (tagged s (named c) (behind s cpu c).0) ≡ true
unfolding behind class_of named has_input_row realm_indices has_rec_row has_row_at_level entry_size
refuse-behind s cpu (call.DataCreate rd granule ipa source flags digest) sound placed allowed =
    rw (allowed, walk_within s rd ipa 3 3 (omega arith)) refl
refuse-behind s cpu (call.DataCreateUnknown rd granule ipa) sound placed allowed = rw (allowed, walk_within s rd ipa 3 3 (omega arith)) refl
refuse-behind s cpu (call.DataDestroy rd ipa) sound placed allowed = rw (allowed, walk_within s rd ipa 3 3 (omega arith)) refl
refuse-behind s cpu (call.RttCreate rd rtt ipa level) sound placed allowed =
    rw (allowed, walk_within s rd ipa (level - 1) (level - 1) (omega arith), le-leb (level - 1) (level - 1) (omega arith)) refl
refuse-behind s cpu (call.RttRemove removal rd ipa level) sound placed allowed =
    rw (allowed, walk_within s rd ipa (level - 1) level (omega arith), le-leb level level (omega arith)) refl
refuse-behind s cpu (call.RttMapUnprotected rd ipa page) sound placed allowed = rw (allowed, walk_within s rd ipa 3 3 (omega arith)) refl
refuse-behind s cpu (call.RttUnmapUnprotected rd ipa) sound placed allowed = rw (allowed, walk_within s rd ipa 3 3 (omega arith)) refl
refuse-behind s cpu (call.RttInitRipas rd base top) sound placed allowed = rw (allowed, walk_within s rd base 3 3 (omega arith)) refl
refuse-behind s cpu (call.RttSetRipas rd rec base top) sound placed allowed = by (is_stretch base top) refl
  where
    c : Call
    c = call.RttSetRipas rd rec base top

    by : (b : Bool) → is_stretch base top ≡ b → refuse c (tagged s (named c) (behind s cpu c).0) ≡ true
    by false none = rw (allowed, none, walk_within s rd base 3 3 (omega arith)) refl
    by true some = elim (last_or_above (reach s rd base 3) (reach-le s rd base 3)) [
      | inl above ↦ rw (allowed, some, above) refl
      | inr last ↦
          (let pages = and_parts (is_page base && is_page top) (nat_lt base top) some in
          let ends = and_parts (is_page base) (is_page top) pages.0 in
          rw (allowed, some, last, ends.0, one_page base top ends.0 ends.1 pages.1) refl)
    ]
refuse-behind s cpu (call.RealmActivate rd) sound placed allowed = rw allowed refl
refuse-behind s cpu (call.RealmDestroy rd) sound placed allowed = rw allowed refl
refuse-behind s cpu (call.RecCreate rd rec mpidr flags aux0 aux1) sound placed allowed = rw allowed refl
refuse-behind s cpu (call.RecDestroy rec) sound placed allowed = rw allowed refl
refuse-behind s cpu (call.RecEnter rec) sound placed allowed = rw allowed refl
refuse-behind s cpu (call.IpaStateSet base top ripas) sound placed allowed =
    refuse-input (call.IpaStateSet base top ripas) RgnBound _
    (λ near. le-leb _ _ (omega (arith, ltb-false (2 ^ 38) top near, inside_half s cpu sound placed)))
refuse-behind s cpu (call.IpaStateGet ipa) sound placed allowed =
    refuse-input (call.IpaStateGet ipa) IpaBound _
    (λ near. lt-ltb _ _ (omega (arith, leb-false (2 ^ 38) ipa near, inside_half s cpu sound placed)))
refuse-behind s cpu _ sound placed allowed = refl

-- ---- words

-- what is accepted gives such words, once the next state is sound
abbrev Gives : State → Call → Accepted → Type 0
Gives s c (Done words change) = IsSound (changed s change) → gives c words.items ≡ true
Gives s c (Reaches stretch) = (top : ℕ) → IsReached s stretch top → gives c (top ∷ []) ≡ true

-- what is delegated is a page
page_delegated : (s : State) (g : ℕ) (old : ℕ → Tag) → IsSound s → s.tag ≡ (λ a. if a == g then Delegated else old a) → is_page g ≡ true
unfolding is_granule
page_delegated s g old sound put =
    (and_parts (is_page g) _ (true_from_ne_false (is_granule s.config.granules g)
    (λ out. let bad : Undelegated ≡ Delegated = sym (sound.outside g out) ∙ ap (λ tags. tags g) put ∙ at_itself g Delegated (old g) in cc))).0

-- entries are whole pages
whole_pages : (level count : ℕ) → (count * entry_size level) % 4096 ≡ 0
unfolding entry_size
whole_pages level count =
    let size : 2 ^ (12 + 9 * (3 - level)) ≡ 4096 * 2 ^ (9 * (3 - level)) = pow-add 2 12 (9 * (3 - level)) in
    rw size (omega arith)

-- a stretch may end where one ends that is reached
may_end-reached : (s : State) (stretch : Stretch) (top : ℕ) → IsReached s stretch top → may_end stretch.base stretch.top top ≡ true
may_end-reached s stretch top reached =
    let size : ℕ = entry_size stretch.level in
    let some : 1 ≤ size = entry_size-pos stretch.level in
    let more : size * 1 ≤ size * reached.count = mul-le-mul_left size reached.some in
    let far : top - stretch.base ≡ reached.count * size = omega (arith, reached.is_end) in
    and_from _ _ (and_from _ _ (lt-ltb stretch.base top (omega (arith, reached.is_end))) (le-leb top stretch.top reached.within))
    (eq-eqb ((top - stretch.base) % 4096) 0 (ap (λ n. n % 4096) far ∙ whole_pages stretch.level reached.count))

-- measurements are of four words or eight
measured : (index : ℕ) (measurement : Measurement) → gives (call.MeasurementRead index) (measurement_words measurement) ≡ true
unfolding gives measurement_words first_words
measured index (Sha256 bytes) = refl
measured index (Sha512 bytes) = refl

-- each RIPAS has a number
is_ripas-number : (ripas : Ripas) → is_ripas (ripas_number ripas) ≡ true
is_ripas-number Empty = refl
is_ripas-number Ram = refl
is_ripas-number Destroyed = refl

-- each entry has a state
state_known : (e : Entry) → nat_le (entry_state e) 2 ≡ true
state_known (Unassigned ripas) = refl
state_known UnassignedNs = refl
state_known (Assigned ripas granule) = refl
state_known (AssignedNs page) = refl
state_known (Table granule) = refl

-- so an entry is reported
entry_reported : (e : Entry) (at level : ℕ) → nat_le at level ≡ true
    → reports_entry level (at ∷ entry_state e ∷ entry_address e ∷ ripas_number (entry_ripas e) ∷ []) ≡ true
entry_reported e at level within = and_from _ _ (and_from _ _ within (state_known e)) (is_ripas-number (entry_ripas e))

-- a request begins and ends with pages
abbrev AsksPages : Request → Type 0
AsksPages request = (is_page request.base && is_page request.top) ≡ true

-- so does that of a REC, and where it asked for nothing
asks_pages : (found : Option Request) → ((request : Request) → found ≡ Some request → AsksPages request) → AsksPages (unwrap_or found no_request)
asks_pages None each = refl
asks_pages (Some request) each = each request refl

rec_asks_pages : (s : State) (rec : ℕ) → IsSound s → AsksPages (request_of (rec_at s rec))
unfolding rec_at
rec_asks_pages s rec sound = by (s.rec rec) refl
  where
    by : (found : Option RecRecord) → s.rec rec ≡ found → AsksPages (request_of (unwrap_or found no_rec))
    by None none = refl
    by (Some c) there = asks_pages c.request (λ request asked.
        (sound.recs.requests rec c (realm_at s c.owner) request there (realm_there s c.owner sound (sound.recs.owned rec c there)) asked).pages)

-- an exit has four words
exited : (request : Request) (pending : Option Pending) → gives call.Exit (exit_words request pending) ≡ true
unfolding gives
exited request None = refl
exited request (Some (Psci function)) = refl
exited request (Some RipasChange) = refl
exited request (Some (HostCall imm)) = refl

-- so it is with what is done where all rows hold
Gives-behind : (s : State) (cpu : ℕ) (c : Call) → IsSound s → Gives s c (behind s cpu c).1
unfolding behind changed gives
Gives-behind s cpu (call.DataDestroy rd ipa) old = λ sound. page_delegated _ (entry_address (walk s rd ipa 3).entry) s.tag sound refl
Gives-behind s cpu (call.RecEnter rec) old = λ sound. (and_parts _ _ (rec_asks_pages s rec old)).0
Gives-behind s cpu (call.RttReadEntry rd ipa level) old = λ sound. entry_reported _ _ level (walk_within s rd ipa level level (omega arith))
Gives-behind s cpu (call.RttRemove removal rd ipa level) old = λ sound.
    page_delegated _ (entry_address (walk s rd ipa (level - 1)).entry) s.tag sound refl
Gives-behind s cpu (call.RttInitRipas rd base top) old = may_end-reached s _
Gives-behind s cpu (call.RttSetRipas rd rec base top) old = may_end-reached s _
Gives-behind s cpu (call.MeasurementRead index) old = λ sound. measured index _
Gives-behind s cpu (call.IpaStateGet ipa) old = λ sound. is_ripas-number _
Gives-behind s cpu call.Exit old = λ sound.
    let rec = rec_at s (rec_inside s cpu) in exited (request_of rec) rec.pending
Gives-behind s cpu _ old = λ sound. refl

-- ---- replies

module _ (s new : State) (c : Call) (given : Reply) where
  -- the reply of what is carried out may be given to the call
  abbrev IsAnswered : Result Accepted Refusal → Type 0
  IsAnswered led = CarriesOut led s given new → may_answer c given ≡ true

  -- what rows on words leave to show: one that isn't allowed may be refused, and where all are it is so with what stands behind
  abbrev Leaves : Bool → Result Accepted Refusal → Type 0
  Leaves all led = (all ≡ false → may_answer c input_error ≡ true) × (all ≡ true → IsAnswered led)

  -- so it is with rows on words
  IsAnswered-inputs : (words : List Word) (rows : List Row) (found : Accepted) → Leaves (all_allowed words) (decided rows found)
      → IsAnswered (decided (inputs words rows) found)
  IsAnswered-inputs [] rows found left = left.1 refl
  IsAnswered-inputs (word ∷ words) rows found left = by word.allowed (IsAnswered-inputs words rows found) left
    where
      by : (b : Bool) → (Leaves (all_allowed words) (decided rows found) → IsAnswered (decided (inputs words rows) found))
          → Leaves (b && all_allowed words) (decided rows found)
          → IsAnswered (if b then decided (inputs words rows) found else Err (Input word.condition))
      by true rest left = rest left
      by false rest left = λ carried. ap (may_answer c) carried.0 ∙ left.0 refl

  -- and with rows that each refuse so, or hold, where the words are allowed and the next state is sound
  IsAnswered-decided : (rows : List Row) (found : Accepted) → IsSound new → all_allowed (words_of c) ≡ true → Gives s c found
      → refuse c rows ≡ true → IsAnswered (decided rows found)
  IsAnswered-decided [] (Done words change) sound allowed gives_so all = λ carried.
      ap (may_answer c) carried.0 ∙ and_from _ _ allowed (gives_so (subst IsSound carried.1 sound))
  IsAnswered-decided [] (Reaches stretch) sound allowed gives_so all = λ (top, (reached, is_ok, is_next)).
      ap (may_answer c) is_ok ∙ and_from _ _ allowed (gives_so top reached)
  IsAnswered-decided (row ∷ rows) found sound allowed gives_so all =
      let parts = and_parts (may_answer c (reply_of row.otherwise) || row.holds) (refuse c rows) all in
      by row.holds (or_cases _ row.holds parts.0) (IsAnswered-decided rows found sound allowed gives_so parts.1)
    where
      by : (b : Bool) → (may_answer c (reply_of row.otherwise) ≡ true) ⊎ (b ≡ true) → IsAnswered (decided rows found)
          → IsAnswered (if b then decided rows found else Err row.otherwise)
      by true here later = later
      by false (inl here) later = λ carried. ap (may_answer c) carried.0 ∙ here
      by false (inr holds) later = both_ways holds refl

-- a placed call may be replied so, whose state and next state are sound
pub may_answer-placed : (s : State) (cpu : ℕ) (c : Call) (given : Reply) (new : State) → IsSound s → is_placed s cpu (class_of c) ≡ true
    → IsSound new → CarriesOut (answer_of s cpu c) s given new → may_answer c given ≡ true
may_answer-placed s cpu c given new old_sound placed sound carried =
    let rest = behind s cpu c in
    let rows = tagged s (named c) rest.0 in
    IsAnswered-inputs s new c given (words_of c) rows rest.1 (
      may_answer-input_error c,
      λ allowed. IsAnswered-decided s new c given rows rest.1 sound allowed (Gives-behind s cpu c old_sound)
          (refuse-behind s cpu c old_sound placed allowed),
    )
    (subst (λ found. CarriesOut found s given new) rest.2 carried)
