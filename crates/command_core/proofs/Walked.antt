-- A host's command whose walk is over is answered from what is held as by every whole that agrees, and its change can be made of that.
use Rattle.command_core.proofs.Common.{◌&&◌, ◌+◌, ◌||◌, ◌∙◌, ◌∷◌, ◌≡◌, ◌≤◌, Accepted, Bool, Call, Change, Command, Config, Done, Err, HeldCell, Hold, IsAnswer, IsTrue, List, Needed, None, Ok, Option, Outside, Reaches, Refusal, Result, Some, State, Unchanged, [], and_parts, ap, are_recs_counted, call_of, can_make, class_of, false, false≢true, flat_state, if◌then◌else◌, inl, inr, is_granule, is_held, is_none, is_some, is_vmid_listed, list_all, misshaped, named, none-some, outside_answer, refl, seen_state, subst, sym, table_placed, true, way_of, way_taken, words_fit, words_of, ℕ}
use Rattle.std.proofs.Common.{◌++◌, ◌-◌, ◌/◌, ◌⊎◌}
use Rattle.std.specs.List.{AllByRecursion}
use Rattle.rmm_spec.specs.declared.change.RealmChange.{RealmChange}
use Rattle.rmm_spec.specs.declared.change.RecChange.{RecChange}
use Rattle.rmm_spec.specs.declared.change.TagChange.{TagChange}
use Rattle.std.proofs.lemmas.Bool.{or_cases}
use Rattle.rmm_spec.specs.declared.accepted.Stretch.{Stretch}
use Rattle.rmm_spec.specs.declared.call.Call.TheVariants as call
use Rattle.rmm_spec.specs.declared.change.Change.TheVariants.{TableMade, TableDestroyed, EntriesChanged}
use Rattle.rmm_spec.specs.Rows.{ok, done, all_allowed}
use Rattle.rmm_spec.specs.Walk.{entry_size, table_number}
use Rattle.rmm_spec.specs.Step.{answer_of, outcome}
use Rattle.rmm_spec.specs.Step.Ripas.{IsReached, reached_change}
use Rattle.rmm_spec.specs.Local.{LocalStep}
use Rattle.rmm_laws.proofs.Runs.{reached_applies}
use Rattle.world_laws.proofs.Refusals.{outcome-host}
use Rattle.rmm_laws.specs.Whole.{table_changed}
use Rattle.rmm_laws.proofs.Accepted.{reached-keeps_shape}
use Rattle.granule_cells.specs.Changes.{page_put, realm_changed, rec_changed, table_at}
use Rattle.rmm_laws.proofs.ShapeTies.{well_shaped-is_sound}
use Rattle.command_rows.specs.Answers.{IsOwned}
use Rattle.world_laws.specs.TableCells.{holds_change, holds_page, holds_realm, holds_rec, is_moved}
use Rattle.world_laws.specs.Walking.{Way, keeps_realm, are_told, is_table_error, is_refused_early, seen_answer, is_way_settled}
use Rattle.world_laws.proofs.AcceptedWalks.{accepted-held}
use Rattle.world_laws.proofs.Settled.{IsHosts, hosts, stretch-placed, first-reached, reached-told, reached-seen, early-error}
use Rattle.world_laws.proofs.Found.{placed-holds}
use Rattle.world_laws.proofs.Wholes.{table-is_held}
use Rattle.world_laws.proofs.ToldWalks.{walk-told, early-told}
use Rattle.command_core.specs.Changed.{hold_changed, AreHeld, CanChange, IsFurthest}
use Rattle.command_core.specs.Decided.{made_answer}
use Rattle.command_core.specs.Furthest.{furthest}
use Rattle.command_core.specs.Walks.{spare, is_walk_over}
use Rattle.command_core.proofs.Changes.{change-local, is_answer}
use Rattle.command_core.proofs.Fits.{applied-fits}
use Rattle.command_core.proofs.Made.{no_whole, made-answered}
use Rattle.command_core.proofs.Outside.{told_outside}
use Rattle.command_core.proofs.Stretches.{furthest-reached, reached-furthest}
use Rattle.command_core.proofs.Wholes.{Whole, state, walk_whole}
use Rattle.lemmas.proofs.Options.{value_there}

-- ---- where a command walks

-- where it walks, the command is one that does
pub taken-way : (c : Call) (w : Way) → way_taken c ≡ Some w → way_of c ≡ Some w
unfolding way_taken
taken-way c w is = by (all_allowed (words_of c)) is
  where
    by : (b : Bool) → (if b then way_of c else None) ≡ Some w → way_of c ≡ Some w
    by true way = way
    by false way = absurd (none-some w way)

-- where the words are allowed and it walks nowhere, it is one that never does
pub untaken-way : (config : Config) (c : Call) → words_fit config c ≡ true → way_taken c ≡ None → way_of c ≡ None
unfolding way_taken words_fit
untaken-way config c fits none =
    let allowed = (and_parts (all_allowed (words_of c)) (list_all (λ (n : Needed). is_granule config.granules n.granule) (named c)) fits).0 in
    subst (λ b. (if b then way_of c else None) ≡ None) allowed none

-- ---- what is changed

-- what holds of the granules of two lists holds of those of both
both-held : (held : List HeldCell) (xs ys : List ℕ) → AllByRecursion (λ g. IsTrue (is_held g held)) xs
    → AllByRecursion (λ g. IsTrue (is_held g held)) ys → AllByRecursion (λ g. IsTrue (is_held g held)) (xs ++ ys)
both-held held [] ys first second = second
both-held held (x ∷ xs) ys first second = (first.0, both-held held xs ys first.1 second)

-- a table that is found among held cells is held
placed-held : (held : List HeldCell) (rd level number : ℕ) (o : Option ℕ) → table_placed held rd level number ≡ o
    → AllByRecursion (λ g. IsTrue (is_held g held)) (table_at o)
placed-held held rd level number None is = tt
placed-held held rd level number (Some g) is =
    let holds = placed-holds held rd level number g is in (table-is_held held g holds.table holds.is_held, tt)

-- what a command that walks changes is held
walk-held : (held : List HeldCell) (change : Change) → holds_change held change ≡ true → AreHeld held change
unfolding holds_change
walk-held held Unchanged holds = tt
walk-held held (TableMade rd level number rtt entry) holds =
    let parts = and_parts (is_held rtt held) (is_some (table_placed held rd (level - 1) (number / 512))) holds in
    both-held held (table_at (table_placed held rd (level - 1) (number / 512))) (rtt ∷ [])
    (placed-held held rd (level - 1) (number / 512) (table_placed held rd (level - 1) (number / 512)) refl) (parts.0, tt)
walk-held held (TableDestroyed rd level number rtt entry) holds =
    let parts = and_parts (is_held rtt held) (is_some (table_placed held rd (level - 1) (number / 512))) holds in
    both-held held (table_at (table_placed held rd (level - 1) (number / 512))) (rtt ∷ [])
    (placed-held held rd (level - 1) (number / 512) (table_placed held rd (level - 1) (number / 512)) refl) (parts.0, tt)
walk-held held (EntriesChanged rd level entries page realm rec) holds =
    let table : Option ℕ = table_placed held rd level (table_changed entries) in
    let all = and_parts (holds_page held page && holds_realm held realm && holds_rec held rec) (is_some table) holds in
    let parts = and_parts (holds_page held page && holds_realm held realm) (holds_rec held rec) all.0 in
    let both = and_parts (holds_page held page) (holds_realm held realm) parts.0 in
    both-held held (page_put page) (realm_changed realm ++ (rec_changed rec ++ table_at table)) (of_page page both.0)
    (both-held held (realm_changed realm) (rec_changed rec ++ table_at table) (of_realm realm both.1)
    (both-held held (rec_changed rec) (table_at table) (of_rec rec parts.1) (placed-held held rd level (table_changed entries) table refl)))
  where
    of_page : (o : Option TagChange) → holds_page held o ≡ true → AllByRecursion (λ g. IsTrue (is_held g held)) (page_put o)
    of_page None has = tt
    of_page (Some change) has = (has, tt)

    of_realm : (o : Option RealmChange) → holds_realm held o ≡ true → AllByRecursion (λ g. IsTrue (is_held g held)) (realm_changed o)
    of_realm None has = tt
    of_realm (Some change) has = (has, tt)

    of_rec : (o : Option RecChange) → holds_rec held o ≡ true → AllByRecursion (λ g. IsTrue (is_held g held)) (rec_changed o)
    of_rec None has = tt
    of_rec (Some change) has = ((and_parts (is_held change.rec held) (is_moved change.update) has).0, tt)
walk-held held _ holds = absurd (false≢true holds)

-- and no CPU enters or leaves a REC
can-holds : (cpu : ℕ) (hold : Hold) (change : Change) → holds_change hold.cells change ≡ true → CanChange cpu hold change
unfolding holds_change
can-holds cpu hold Unchanged holds = record { held = tt; tables = tt; here = tt }
can-holds cpu hold (TableMade rd level number rtt entry) holds =
    record { held = walk-held hold.cells (TableMade rd level number rtt entry) holds; tables = holds; here = tt }
can-holds cpu hold (TableDestroyed rd level number rtt entry) holds =
    record { held = walk-held hold.cells (TableDestroyed rd level number rtt entry) holds; tables = holds; here = tt }
can-holds cpu hold (EntriesChanged rd level entries page realm rec) holds =
    record { held = walk-held hold.cells (EntriesChanged rd level entries page realm rec) holds; tables = holds; here = tt }
can-holds cpu hold _ holds = absurd (false≢true holds)

-- ---- where the walk's end is held

ends-answered : (config : Config) (cpu : ℕ) (command : Command) (hold : Hold) (a : Result Accepted Refusal)
    → are_told (call_of command) hold.cells ≡ true
    → is_way_settled config (call_of command) hold.cells (way_of (call_of command)) ≡ true
    → answer_of (seen_state config hold.cells) cpu (call_of command) ≡ a
    → ((w : Whole config cpu hold) → outcome (state config cpu hold w) cpu (call_of command) ≡ a)
    → IsAnswer config cpu command hold (made_answer config hold.cells hold.side a)
ends-answered config cpu command hold (Err given) told settled is each = is_answer config cpu command hold (Err given) tt each
ends-answered config cpu command hold (Ok (Done words change)) told settled is each =
    made-answered config cpu command hold (Ok (Done words change))
    (can-holds cpu hold change (accepted-held config hold.cells cpu (call_of command) (Done words change) told settled is)) each
ends-answered config cpu command hold (Ok (Reaches stretch)) told settled is each = by (can_make config hold.cells hold.side change) refl
  where
    t : State
    t = seen_state config hold.cells

    top : ℕ
    top = furthest t stretch

    change : Change
    change = reached_change stretch top

    holds : holds_change hold.cells (reached_change stretch top) ≡ true
    holds = accepted-held config hold.cells cpu (call_of command) (Reaches stretch) told settled is top

    reached : IsReached t stretch top
    reached = furthest-reached t stretch (stretch.base + entry_size stretch.level) (first-reached t cpu (call_of command) stretch is)

    at : (stretch.level ≤ 3) × (is_some (table_placed hold.cells stretch.rd stretch.level (table_number stretch.level stretch.base)) ≡ true)
    at = stretch-placed config cpu (call_of command) hold.cells stretch settled is

    g : (g : ℕ) × (table_placed hold.cells stretch.rd stretch.level (table_number stretch.level stretch.base) ≡ Some g)
    g = value_there (table_placed hold.cells stretch.rd stretch.level (table_number stretch.level stretch.base)) at.1

    whole : (w : Whole config cpu hold) → IsReached (state config cpu hold w) stretch top
    whole w = reached-told (walk_whole config cpu hold w) stretch top g.0 at.0 g.1 reached

    furthest_end : IsFurthest config cpu command hold (ok (top ∷ []))
    furthest_end = record {
      right = λ cells places other end shaped agrees placed leads there.
          let w : Whole config cpu hold = record { cells = cells; places = places; shaped = shaped; agrees = agrees; placed = placed } in
          let both : Ok (Reaches other) ≡ Ok (Reaches stretch) = sym leads ∙ each w in
          let same : other ≡ stretch = cc in
          let seen = reached-seen (walk_whole config cpu hold w) stretch end g.0 at.0 g.1
          (subst (λ (x : Stretch). IsReached (flat_state config cells) x end) same there) in
          (top, refl, reached-furthest t stretch end seen);
    }

    step : LocalStep config cpu command (ok (top ∷ [])) hold (hold_changed hold change)
    step = change-local config cpu command (ok (top ∷ [])) hold change (can-holds cpu hold change holds) (λ w.
        reached-keeps_shape config (record { cells = w.cells; side = hold.side; places = w.places }) cpu command stretch top
        w.shaped (each w) (whole w))

    by : (b : Bool) → can_make config hold.cells hold.side change ≡ b
        → IsAnswer config cpu command hold (if b then Ok (done (top ∷ []) change) else Err misshaped)
    by true fits = record {
      can = can-holds cpu hold change holds;
      is_local = step;
      is_furthest = furthest_end;
    }
    by false unfit = no_whole config cpu command hold (λ w.
        let s = state config cpu hold w in
        let can = reached_applies s cpu command stretch top (well_shaped-is_sound config hold.side w.places w.cells w.shaped) (each w) (whole w) in
        false≢true (sym unfit ∙ applied-fits config cpu hold w change can (can-holds cpu hold change holds)))

-- ---- any walk

-- the side table tells nothing that a walk asks
pub outside-walk : (vmids recs : ℕ → Bool) (s : State) (cpu : ℕ) (c : Call)
    → is_some (way_of c) ≡ true → answer_of s cpu c ≡ outside_answer vmids recs s cpu c
unfolding outside_answer way_of class_of
outside-walk vmids recs s cpu (call.RttCreate rd rtt ipa level) walks = refl
outside-walk vmids recs s cpu _ walks = cc

-- no command that walks enters a REC
pub owned-walk : (s : State) (c : Call) → is_some (way_of c) ≡ true → IsOwned s c
unfolding way_of
owned-walk s (call.RecEnter rec) walks = absurd (false≢true walks)
owned-walk s _ walks = tt

pub walk-ready : (config : Config) (cpu : ℕ) (command : Command) (hold : Hold) (way : Way)
    → way_of (call_of command) ≡ Some way → hold.place ≡ Outside
    → is_walk_over config (call_of command) hold.cells way ≡ true
    → IsAnswer config cpu command hold (made_answer config hold.cells hold.side (told_outside config cpu hold (call_of command)))
unfolding is_walk_over
walk-ready config cpu command hold way is place over =
    subst (λ (a : Result Accepted Refusal). IsAnswer config cpu command hold (made_answer config hold.cells hold.side a))
    (outside-walk (is_vmid_listed hold.side) (are_recs_counted hold.side) (seen_state config hold.cells) cpu (call_of command) walks)
    (by (or_cases (is_refused_early (seen_answer config c hold.cells))
    (is_way_settled config c hold.cells (Some way) && is_none (spare config (keeps_realm c) hold.cells way)) parts.1))
  where
    c : Call
    c = call_of command

    walks : is_some (way_of (call_of command)) ≡ true
    walks = ap (λ (o : Option Way). is_some o) is

    parts : (are_told c hold.cells ≡ true) × ((is_refused_early (seen_answer config c hold.cells)
        || (is_way_settled config c hold.cells (Some way) && is_none (spare config (keeps_realm c) hold.cells way))) ≡ true)
    parts = and_parts (are_told c hold.cells) (is_refused_early (seen_answer config c hold.cells)
        || (is_way_settled config c hold.cells (Some way) && is_none (spare config (keeps_realm c) hold.cells way))) over

    of : IsHosts c
    of = hosts c walks

    whole : (w : Whole config cpu hold) → outcome (state config cpu hold w) cpu c ≡ answer_of (state config cpu hold w) cpu c
    whole w = outcome-host config hold.side w.places w.cells w.shaped cpu c of.host (w.placed ∙ place)

    early : (given : Refusal) × (seen_answer config c hold.cells ≡ Err given) × (is_table_error given ≡ false)
        → IsAnswer config cpu command hold (made_answer config hold.cells hold.side (answer_of (seen_state config hold.cells) cpu c))
    early e =
        let told : answer_of (seen_state config hold.cells) cpu c ≡ Err e.0 = of.alike (seen_state config hold.cells) cpu ∙ e.1 in
        subst (λ (a : Result Accepted Refusal). IsAnswer config cpu command hold (made_answer config hold.cells hold.side a)) (sym told)
        (is_answer config cpu command hold (Err e.0) tt (λ w. whole w ∙ early-told (walk_whole config cpu hold w) cpu c e.0 parts.0 walks told e.2))

    by : (is_refused_early (seen_answer config c hold.cells) ≡ true)
        ⊎ ((is_way_settled config c hold.cells (Some way) && is_none (spare config (keeps_realm c) hold.cells way)) ≡ true)
        → IsAnswer config cpu command hold (made_answer config hold.cells hold.side (answer_of (seen_state config hold.cells) cpu c))
    by (inl refuses) = early (early-error (seen_answer config c hold.cells) refuses)
    by (inr ends) =
        let at = (and_parts (is_way_settled config c hold.cells (Some way)) (is_none (spare config (keeps_realm c) hold.cells way)) ends).0 in
        let settled = subst (λ (o : Option Way). is_way_settled config c hold.cells o ≡ true) (sym is) at in
        ends-answered config cpu command hold (answer_of (seen_state config hold.cells) cpu c) parts.0 settled refl
        (λ w. whole w ∙ walk-told (walk_whole config cpu hold w) cpu c parts.0 settled)
