-- Where what is held settles a command that walks, what is answered is a local step.
use Rattle.world_laws.proofs.Common.{◌&&◌, ◌/◌, ◌<◌, ◌||◌, ◌∙◌, ◌∷◌, ◌≡◌, ◌≤◌, Bool, Call, Cell, Config, HeldCell, IsTrue, List, None, Option, Side, Some, State, Way, [], and_parts, ap, arith, entry_at, entry_number, false, false≢true, flat_state, if◌then◌else◌, inl, inr, is_held, is_some, is_walk_held, named, not, not-true, reach, reach-le, realm_at, refl, seen_state, subst, sym, table_behind, table_number, table_number-entry, table_placed, true, way_of, ℕ}
use Rattle.std.proofs.Common.{◌+◌, ◌*◌, Result, Ok, Err, nat_lt}
use Rattle.std.proofs.lemmas.Bool.{or_cases}
use Rattle.rmm_spec.specs.declared.accepted.Accepted.{Accepted}
use Rattle.rmm_spec.specs.declared.accepted.Accepted.TheVariants.{Done, Reaches}
use Rattle.rmm_spec.specs.declared.accepted.Stretch.{Stretch}
use Rattle.rmm_spec.specs.declared.accepted.StretchUse.TheVariants.{Init, Requested}
use Rattle.rmm_spec.specs.declared.call.Call.TheVariants as call
use Rattle.rmm_spec.specs.declared.change.Change.TheVariants.{Unchanged}
use Rattle.rmm_spec.specs.declared.command.Command.{Command}
use Rattle.rmm_spec.specs.declared.refusal.Refusal.{Refusal}
use Rattle.rmm_spec.specs.declared.condition.Condition.TheVariants.{IpaBound}
use Rattle.rmm_spec.specs.Call.{ByHost, call_of, class_of}
use Rattle.rmm_spec.specs.Lookup.{rec_at, ripas_number}
use Rattle.rmm_spec.specs.Rows.{Row, decided, input, done, reply_of}
use Rattle.rmm_spec.specs.Walk.{entry_size, table_size, walk, half, entry_ripas}
use Rattle.rmm_spec.specs.Step.{answer_by, answer_of, answer_to_host, outcome}
use Rattle.rmm_spec.specs.Step.Front.{with_front}
use Rattle.rmm_spec.specs.Step.Terms.{words_of, Terms, OfWalk, class_in, terms_of, walk_in}
use Rattle.rmm_spec.specs.Step.RealmCall.{ipa_state_get}
use Rattle.rmm_spec.specs.Step.Ripas.{can_be_set, IsReached}
use Rattle.rmm_spec.specs.Shape.{CpuPlace, Outside, IsWellShaped}
use Rattle.rmm_spec.specs.Local.{Hold, Agrees, LocalStep}
use Rattle.spec_lemmas.proofs.Behind.{behind}
use Rattle.spec_lemmas.proofs.WalkLaws.{walk_ends_unlinked, first_reached, table_size-entries}
use Rattle.rmm_laws.proofs.ByRows.{AllHold, decided-accepted}
use Rattle.rmm_laws.proofs.Spaces.{entry_size-pos, unscaled_le}
use Rattle.rmm_laws.proofs.Walked.{entry_starts, unassigned_kind}
use Rattle.world_laws.proofs.Locals.{unchanged-is_local}
use Rattle.world_laws.proofs.Refusals.{Step-refused, outcome-host}
use Rattle.world_laws.specs.Same.{SameSpace}
use Rattle.world_laws.specs.Settled.{IsLocalAnswer}
use Rattle.world_laws.specs.Walking.{way, are_told, is_table_error, is_refused_early, seen_answer, is_way_settled, is_walk_settled}
use Rattle.world_laws.proofs.AcceptedWalks.{IsSettledBy, settled-by, end-placed, accepted-held}
use Rattle.world_laws.proofs.Looks.{ipa_state_get-same}
use Rattle.world_laws.proofs.Seen.{rec-same, told-space, walk-end}
use Rattle.world_laws.proofs.Steps.{done-local, reached-local}
use Rattle.world_laws.proofs.Tables.{entry-same}
use Rattle.world_laws.proofs.ToldWalks.{walk-told, early-told}
use Rattle.world_laws.proofs.Wholes.{Whole, state}
use Rattle.lemmas.proofs.Options.{value_there}

-- ---- stretches

-- what is reached in one state is in each that has the same entries there
reached-same : (s t : State) (stretch : Stretch) (top : ℕ) (reached : IsReached s stretch top)
    → ((k : ℕ) → k < reached.count → entry_at s stretch.rd stretch.level (entry_number stretch.level stretch.base + k)
    ≡ entry_at t stretch.rd stretch.level (entry_number stretch.level stretch.base + k)) → IsReached t stretch top
reached-same s t stretch top reached same = record {
  count = reached.count;
  some = reached.some;
  is_end = reached.is_end;
  within = reached.within;
  in_table = reached.in_table;
  each = λ k below. subst (λ e. IsTrue (can_be_set stretch.purpose e)) (same k below) (reached.each k below);
}

-- a stretch's entries are those of the held table at its base
stretch-same : {config : Config} {side : Side} {held : List HeldCell} (w : Whole config side held) (s : State) (stretch : Stretch) (top g : ℕ)
    → stretch.level ≤ 3 → table_placed held stretch.rd stretch.level (table_number stretch.level stretch.base) ≡ Some g
    → (reached : IsReached s stretch top) (k : ℕ) → k < reached.count
    → entry_at (state w) stretch.rd stretch.level (entry_number stretch.level stretch.base + k)
    ≡ entry_at (seen_state config held) stretch.rd stretch.level (entry_number stretch.level stretch.base + k)
stretch-same {config} {side} {held} w s stretch top g last placed reached k below =
    entry-same w g stretch.rd stretch.level (first + k) (ap (table_placed held stretch.rd stretch.level) in_table ∙ placed)
  where
    first : ℕ
    first = entry_number stretch.level stretch.base

    size : ℕ
    size = entry_size stretch.level

    number : ℕ
    number = table_number stretch.level stretch.base

    in_table : (first + k) / 512 ≡ number
    in_table =
        let starts : first * size ≤ stretch.base = entry_starts stretch.level stretch.base in
        let whole : table_size stretch.level ≡ 512 * size = table_size-entries stretch.level last in
        let bound : top ≤ (number + 1) * (512 * size) = subst (λ n. top ≤ (number + 1) * n) whole reached.in_table in
        let end : top ≡ stretch.base + reached.count * size = reached.is_end in
        let scaled : (first + reached.count) * size ≤ ((number + 1) * 512) * size = omega (arith, starts, bound, end) in
        let most = unscaled_le (first + reached.count) ((number + 1) * 512) size scaled (entry_size-pos stretch.level) in
        let above : number ≡ first / 512 = table_number-entry stretch.level stretch.base last in
        omega (arith, most, above, below)

-- what is reached in the state that is told of, and in a whole, is the same
pub reached-told : {config : Config} {side : Side} {held : List HeldCell} (w : Whole config side held) (stretch : Stretch) (top g : ℕ)
    → stretch.level ≤ 3
    → table_placed held stretch.rd stretch.level (table_number stretch.level stretch.base) ≡ Some g → IsReached (seen_state config held) stretch top
    → IsReached (state w) stretch top
reached-told {config} {side} {held} w stretch top g last placed reached =
    reached-same (seen_state config held) (state w) stretch top reached
    (λ k below. sym (stretch-same w (seen_state config held) stretch top g last placed reached k below))

pub reached-seen : {config : Config} {side : Side} {held : List HeldCell} (w : Whole config side held) (stretch : Stretch) (top g : ℕ)
    → stretch.level ≤ 3
    → table_placed held stretch.rd stretch.level (table_number stretch.level stretch.base) ≡ Some g → IsReached (state w) stretch top
    → IsReached (seen_state config held) stretch top
reached-seen {config} {side} {held} w stretch top g last placed reached =
    reached-same (state w) (seen_state config held) stretch top reached (stretch-same w (state w) stretch top g last placed reached)

-- what a stretch is of, where a command leads to one
abbrev IsStretchOf : State → Option Way → Accepted → Type 0
IsStretchOf t None a = Unit {0}
IsStretchOf t (Some w) (Done words change) = Unit {0}
IsStretchOf t (Some w) (Reaches stretch) =
    (stretch.rd ≡ w.rd) × (stretch.base ≡ w.ipa) × (stretch.level ≡ reach t w.rd w.ipa w.max) × (stretch.level ≤ 3)

-- RTT_INIT_RIPAS and RTT_SET_RIPAS alone lead to one
rows-stretch : (t : State) (cpu : ℕ) (c : Call) → IsStretchOf t (way_of c) (behind t cpu c).1
unfolding behind way_of
rows-stretch t cpu (call.RttInitRipas rd base top) = (refl, refl, refl, reach-le t rd base 3)
rows-stretch t cpu (call.RttSetRipas rd rec base top) = (refl, refl, refl, reach-le t rd base 3)
rows-stretch t cpu _ = tt

-- the end of its first entry may be chosen
abbrev IsFirstReached : State → Accepted → Type 0
IsFirstReached t (Done words change) = Unit {0}
IsFirstReached t (Reaches stretch) = IsReached t stretch (stretch.base + entry_size stretch.level)

-- since the entry has room and may be set
rows-first : (t : State) (cpu : ℕ) (c : Call) → AllHold (with_front t c (behind t cpu c).0) → IsFirstReached t (behind t cpu c).1
unfolding behind words_of named
rows-first t cpu (call.RttInitRipas rd base top) (base_page, (top_page, (ordered, (rd_tag, (within, (new, (free, (first, (ends, _))))))))) =
    let end = walk t rd base 3 in
    let kind = unassigned_kind end.entry free in
    let can : IsTrue (can_be_set Init end.entry) = λ i. not (kind.1 i) && not (kind.0 i) in
    first_reached t (record { rd = rd; base = base; top = top; level = end.level; purpose = Init }) (reach-le t rd base 3) first ends can
rows-first t cpu (call.RttSetRipas rd rec base top)
    (rd_tag, (rec_tag, (owned, (idle, (asked, (at_base, (bounded, (ordered, (paged, (first, (ends, _))))))))))) =
    first_reached t (record { rd = rd; base = base; top = top; level = reach t rd base 3; purpose = Requested rec _ })
    (reach-le t rd base 3) first ends (ap not (walk_ends_unlinked t rd base))
rows-first t cpu _ rows = tt

-- so an end can be chosen wherever a stretch is answered
pub first-reached : (t : State) (cpu : ℕ) (c : Call) (stretch : Stretch) → answer_of t cpu c ≡ Ok (Reaches stretch)
    → IsReached t stretch (stretch.base + entry_size stretch.level)
first-reached t cpu c stretch is =
    let rows = behind t cpu c in
    let all = decided-accepted (with_front t c rows.0) rows.1 (Reaches stretch) (sym rows.2 ∙ is) in
    subst (IsFirstReached t) all.1 (rows-first t cpu c all.0)

-- ---- any command

-- a command that walks is a host's, and is answered alike on each CPU
pub record IsHosts (c : Call) : Type 0 where
  pub host : class_of c ≡ ByHost
  pub alike : (s : State) (cpu : ℕ) → answer_of s cpu c ≡ answer_of s 0 c

-- the CPU is asked for by an Enter alone
host-alike : (s : State) (cpu : ℕ) (c : Call) → is_some (way_of c) ≡ true → answer_to_host s cpu c ≡ answer_to_host s 0 c
unfolding way_of answer_to_host
host-alike s cpu (call.RecEnter rec) walks = absurd (false≢true walks)
host-alike s cpu _ walks = refl

walking-host : (terms : Terms) → is_some (walk_in terms) ≡ true → class_in terms ≡ ByHost
walking-host (OfWalk way words others) walks = refl
walking-host _ walks = absurd (false≢true walks)

pub hosts : (c : Call) → is_some (way_of c) ≡ true → IsHosts c
unfolding class_of way_of answer_of
hosts c walks =
    let host = walking-host (terms_of c) walks in
    record {
      host = host;
      alike = λ s cpu. ap (λ k. answer_by k s cpu c) host ∙ host-alike s cpu c walks ∙ ap (λ k. answer_by k s 0 c) (sym host);
    }

-- each whole that agrees with a hold gives the outcome
abbrev IsOutcome : Config → ℕ → Command → Hold → Result Accepted Refusal → Type 0
IsOutcome config cpu command hold answer =
    (cells : ℕ → Cell) (places : ℕ → CpuPlace) → IsWellShaped config hold.side places cells → Agrees cells hold.cells
    → places cpu ≡ hold.place → outcome (flat_state config cells) cpu (call_of command) ≡ answer

-- a refusal of every whole changes nothing
refused-local : (config : Config) (cpu : ℕ) (command : Command) (hold : Hold) (given : Refusal) → IsOutcome config cpu command hold (Err given)
    → LocalStep config cpu command (reply_of given) hold hold
refused-local config cpu command hold given each =
    unchanged-is_local config cpu command (reply_of given) hold (λ cells places shaped agrees placed.
    Step-refused (flat_state config cells) cpu command given (each cells places shaped agrees placed))

-- the table of a stretch is held
pub stretch-placed : (config : Config) (cpu : ℕ) (c : Call) (held : List HeldCell) (stretch : Stretch)
    → is_way_settled config c held (way_of c) ≡ true
    → answer_of (seen_state config held) cpu c ≡ Ok (Reaches stretch)
    → (stretch.level ≤ 3) × (is_some (table_placed held stretch.rd stretch.level (table_number stretch.level stretch.base)) ≡ true)
stretch-placed config cpu c held stretch settled is =
    by (way_of c) (settled-by config c held (way_of c) settled) (subst (IsStretchOf t (way_of c)) all.1 (rows-stretch t cpu c))
  where
    t : State
    t = seen_state config held

    all : AllHold (with_front t c (behind t cpu c).0) × ((behind t cpu c).1 ≡ Reaches stretch)
    all = decided-accepted (with_front t c (behind t cpu c).0) (behind t cpu c).1 (Reaches stretch) (sym (behind t cpu c).2 ∙ is)

    by : (o : Option Way) → IsSettledBy config c held o → IsStretchOf t o (Reaches stretch)
        → (stretch.level ≤ 3) × (is_some (table_placed held stretch.rd stretch.level (table_number stretch.level stretch.base)) ≡ true)
    by None none of = absurd none
    by (Some w) ends of =
        let placed = end-placed config held w ends.0 in (
          of.3,
          subst (λ l. is_some (table_placed held stretch.rd l (table_number l stretch.base)) ≡ true) (sym of.2)
              (subst (λ x. is_some (table_placed held stretch.rd (reach t w.rd w.ipa w.max) (table_number (reach t w.rd w.ipa w.max) x)) ≡ true)
              (sym of.1)
              (subst (λ x. is_some (table_placed held x (reach t w.rd w.ipa w.max) (table_number (reach t w.rd w.ipa w.max) w.ipa)) ≡ true)
              (sym of.0) placed)),
        )

-- what each whole answers as it is told is a local step
answered-local : (config : Config) (cpu : ℕ) (command : Command) (hold : Hold) (a : Result Accepted Refusal)
    → are_told (call_of command) hold.cells ≡ true
    → is_way_settled config (call_of command) hold.cells (way_of (call_of command)) ≡ true
    → answer_of (seen_state config hold.cells) cpu (call_of command) ≡ a
    → IsOutcome config cpu command hold a → IsLocalAnswer config cpu command hold a
answered-local config cpu command hold (Err given) told settled is each = refused-local config cpu command hold given each
answered-local config cpu command hold (Ok (Done words change)) told settled is each =
    let holds = accepted-held config hold.cells cpu (call_of command) (Done words change) told settled is in
    (holds, done-local config cpu command words.items hold change holds each)
answered-local config cpu command hold (Ok (Reaches stretch)) told settled is each = λ top.
    let holds = accepted-held config hold.cells cpu (call_of command) (Reaches stretch) told settled is top in
    let at = stretch-placed config cpu (call_of command) hold.cells stretch settled is in
    let g = value_there (table_placed hold.cells stretch.rd stretch.level (table_number stretch.level stretch.base)) at.1 in (
      holds,
      λ reached. reached-local config cpu command stretch top hold holds (λ cells places shaped agrees placed.
          let w : Whole config hold.side hold.cells = record { cells = cells; places = places; shaped = shaped; agrees = agrees } in
          (each cells places shaped agrees placed, reached-told w stretch top g.0 at.0 g.1 reached)),
    )

-- what is refused before the walk
pub early-error : (a : Result Accepted Refusal) → is_refused_early a ≡ true → (given : Refusal) × (a ≡ Err given) × (is_table_error given ≡ false)
early-error (Ok accepted) early = absurd (false≢true early)
early-error (Err given) early = (given, refl, not-true (is_table_error given) early)

-- any command that walks
pub settled-local : (config : Config) (cpu : ℕ) (command : Command) (hold : Hold) → is_some (way_of (call_of command)) ≡ true → hold.place ≡ Outside
    → is_walk_settled config (call_of command) hold.cells ≡ true
    → IsLocalAnswer config cpu command hold (seen_answer config (call_of command) hold.cells)
unfolding is_walk_settled
settled-local config cpu command hold walks place settled =
    elim (or_cases (is_refused_early (seen_answer config c hold.cells)) (is_way_settled config c hold.cells (way_of c)) parts.1) [
      | inl early ↦ refused (early-error (seen_answer config c hold.cells) early)
      | inr ends ↦ answered-local config cpu command hold (seen_answer config c hold.cells) parts.0 ends ((hosts c walks).alike t cpu)
          (λ cells places shaped agrees placed.
          let w : Whole config hold.side hold.cells = record { cells = cells; places = places; shaped = shaped; agrees = agrees } in
          outcome-host config hold.side places cells shaped cpu c (hosts c walks).host (placed ∙ place)
          ∙ (walk-told w cpu c parts.0 ends ∙ (hosts c walks).alike t cpu))
    ]
  where
    c : Call
    c = call_of command

    t : State
    t = seen_state config hold.cells

    parts : (are_told c hold.cells ≡ true)
        × ((is_refused_early (seen_answer config c hold.cells) || is_way_settled config c hold.cells (way_of c)) ≡ true)
    parts = and_parts (are_told c hold.cells)
        (is_refused_early (seen_answer config c hold.cells) || is_way_settled config c hold.cells (way_of c)) settled

    refused : (given : Refusal) × (seen_answer config c hold.cells ≡ Err given) × (is_table_error given ≡ false)
        → IsLocalAnswer config cpu command hold (seen_answer config c hold.cells)
    refused early =
        subst (IsLocalAnswer config cpu command hold) (sym early.1)
        (refused-local config cpu command hold early.0 (λ cells places shaped agrees placed.
        let w : Whole config hold.side hold.cells = record { cells = cells; places = places; shaped = shaped; agrees = agrees } in
        outcome-host config hold.side places cells shaped cpu c (hosts c walks).host (placed ∙ place)
        ∙ early-told w cpu c early.0 parts.0 walks ((hosts c walks).alike t cpu ∙ early.1) early.2))

-- ---- the realm's call that walks

-- what rows refuse they refuse whatever is done
refused-rows : (rows : List Row) (a b : Accepted) (given : Refusal) → decided rows a ≡ Err given → decided rows b ≡ Err given
refused-rows [] a b given is = absurd (let bad : Ok a ≡ Err given = is in cc)
refused-rows (first ∷ rows) a b given is = by first.holds is (refused-rows rows a b given)
  where
    by : (holds : Bool) → (if holds then decided rows a else Err first.otherwise) ≡ Err given
        → (decided rows a ≡ Err given → decided rows b ≡ Err given)
        → (if holds then decided rows b else Err first.otherwise) ≡ Err given
    by true same rest = rest same
    by false same rest = same

-- the rows of IPA_STATE_GET
abbrev get_rows : State → ℕ → ℕ → List Row
get_rows s rec ipa = with_front s (call.IpaStateGet ipa) (input IpaBound (nat_lt ipa (half (realm_at s (rec_at s rec).owner))) ∷ [])

-- and what it tells
abbrev get_done : State → ℕ → ℕ → Accepted
get_done s rec ipa = done (ripas_number (entry_ripas (walk s (rec_at s rec).owner ipa 3).entry) ∷ []) Unchanged

-- an address that is refused in one is refused in the other
get-refused : (s t : State) (rec rd ipa : ℕ) (given : Refusal) → (rec_at s rec).owner ≡ rd → (rec_at t rec).owner ≡ rd → SameSpace s t rd
    → ipa_state_get t rec ipa ≡ Err given → ipa_state_get s rec ipa ≡ Err given
unfolding ipa_state_get words_of named
get-refused s t rec rd ipa given of_s of_t space is =
    let rows : get_rows s rec ipa ≡ get_rows t rec ipa = rw (of_s, of_t, space.width) refl in
    ap (λ r. decided r (get_done s rec ipa)) rows ∙ refused-rows (get_rows t rec ipa) (get_done t rec ipa) (get_done s rec ipa) given is

-- it is told as the whole tells it
pub get-told : {config : Config} {side : Side} {held : List HeldCell} (w : Whole config side held) (rec rd ipa : ℕ) → is_held rec held ≡ true
    → (rec_at (seen_state config held) rec).owner ≡ rd → (is_held rd held || is_some (table_behind held rd)) ≡ true
    → (is_walk_held config held (way rd ipa 3) || is_refused_early (ipa_state_get (seen_state config held) rec ipa)) ≡ true
    → ipa_state_get (state w) rec ipa ≡ ipa_state_get (seen_state config held) rec ipa
get-told {config} {side} {held} w rec rd ipa has owner told settled =
    let t = seen_state config held in
    let space = told-space w rd told in
    let of_s : (rec_at (state w) rec).owner ≡ rd = ap (λ r. r.owner) (rec-same w rec has) ∙ owner in
    elim (or_cases (is_walk_held config held (way rd ipa 3)) (is_refused_early (ipa_state_get t rec ipa)) settled) [
      | inl ends ↦ ipa_state_get-same (state w) t rec rd ipa of_s owner space (walk-end w (way rd ipa 3) ends).same
      | inr early ↦ (let refusal = early-error (ipa_state_get t rec ipa) early in
          get-refused (state w) t rec rd ipa refusal.0 of_s owner space refusal.1 ∙ sym refusal.1)
    ]
