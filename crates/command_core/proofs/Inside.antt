-- A command of a CPU inside a REC is answered from that REC and its realm, as they are held, as by every whole that agrees.
use Rattle.command_core.proofs.Common.{◌&&◌, ◌==◌, ◌||◌, ◌∙◌, ◌∷◌, ◌≡◌, Accepted, Bool, ByHost, Call, Config, Err, HeldCell, Hold, Inside, List, Needed, None, Ok, Rd, RealmRecord, Rec, RecRecord, Some, State, Unchanged, [], and_from, and_parts, ap, cell_in, class_of, eqb-true, false, false≢true, has_tag, has_wrong, if◌then◌else◌, is_granule, is_held, is_none, is_some, named, not, realm_at, rec_at, refl, seen_state, subst, sym, tag_of, true, words_of, ℕ}
use Rattle.std.proofs.Common.{nat_lt}
use Rattle.std.proofs.lemmas.Bool.{or_parts, not-false}
use Rattle.rmm_spec.specs.declared.call.Call.TheVariants as call
use Rattle.rmm_spec.specs.declared.change.Change.TheVariants.{RecordsChanged}
use Rattle.rmm_spec.specs.declared.change.RealmUpdate.TheVariants as realm_update
use Rattle.rmm_spec.specs.declared.change.RecUpdate.TheVariants as rec_update
use Rattle.rmm_spec.specs.declared.condition.Condition.TheVariants.{IpaAlign, IpaBound, OwnPending}
use Rattle.rmm_spec.specs.declared.refusal.Refusal.TheVariants as of
use Rattle.rmm_spec.specs.declared.tag.Tag.TheVariants as tag
use Rattle.rmm_spec.specs.Call.{Class, ByRealm, ByExit}
use Rattle.rmm_spec.specs.Step.{commands}
use Rattle.rmm_spec.specs.Step.Front.{with_front}
use Rattle.rmm_spec.specs.Step.Terms.{is_page, needed}
use Rattle.rmm_spec.specs.Step.RealmCall.{answer_to_realm, rec_exit, rec_change, realm_change, ripas_asked, ipa_state_get}
use Rattle.rmm_spec.specs.Cell.{Cell}
use Rattle.command_rows.specs.Answers.{IsInsideBy, class_answer, inside_answer}
use Rattle.world_laws.specs.Walking.{way, is_walk_held, is_refused_early}
use Rattle.world_laws.proofs.Seen.{realm-same, rec-same}
use Rattle.world_laws.proofs.Settled.{get-told}
use Rattle.rmm_spec.specs.Walk.{half, is_protected}
use Rattle.world_laws.specs.SeenState.{table_behind}
use Rattle.command_core.specs.Changed.{CanAnswer}
use Rattle.command_core.specs.Walks.{way_inside, way_to_read, spare}
use Rattle.command_core.specs.Unshaped.{has_other_owner, is_misplaced, is_misfit_way, is_misfit}
use Rattle.command_core.specs.Settled.{is_read_over, is_settled_inside}
use Rattle.command_core.proofs.Agreeing.{answer_to_realm-same, asked}
use Rattle.command_core.proofs.Changes.{can-done}
use Rattle.command_core.proofs.Fronts.{named-cell}
use Rattle.command_core.proofs.SeenStates.{tag-seen, rec-seen, realm-seen}
use Rattle.command_core.proofs.Wholes.{Whole, state, walk_whole}
use Rattle.lemmas.proofs.Tests.{or_second}
use Rattle.lemmas.proofs.Members.{Contains-head, Contains-tail}

-- ---- what is held at the place's granules

abbrev names : ℕ → ℕ → List Needed
names rec rd = needed rec tag.Rec ∷ needed rd tag.Rd ∷ []

record Fits (granules rec rd : ℕ) (held : List HeldCell) : Type 0 where
  of_rec : is_granule granules rec ≡ true
  of_rd : is_granule granules rd ≡ true
  right : has_wrong (names rec rd) held ≡ false
  owner : has_other_owner rd (cell_in rec held) ≡ false

fitting : (config : Config) (rec rd : ℕ) (held : List HeldCell) → is_misplaced config rec rd held ≡ false → Fits config.granules rec rd held
unfolding is_misplaced
fitting config rec rd held fits =
    let locks = is_granule config.granules rec && is_granule config.granules rd && not (rec == rd) in
    let first = or_parts (not locks || has_wrong (names rec rd) held) (has_other_owner rd (cell_in rec held)) fits in
    let second = or_parts (not locks) (has_wrong (names rec rd) held) first.0 in
    let third = and_parts (is_granule config.granules rec && is_granule config.granules rd) (not (rec == rd)) (not-false locks second.0) in
    let fourth = and_parts (is_granule config.granules rec) (is_granule config.granules rd) third.0 in
    record { of_rec = fourth.0; of_rd = fourth.1; right = second.1; owner = first.1 }

pub fitting-granule : (config : Config) (rec rd : ℕ) (held : List HeldCell)
    → is_misplaced config rec rd held ≡ false → is_granule config.granules rec ≡ true
fitting-granule config rec rd held fits = (fitting config rec rd held fits).of_rec

rec-tag : (c : Cell) → tag_of c ≡ tag.Rec → (it : RecRecord) × (c ≡ Rec it)
rec-tag (Rec it) is = (it, refl)
rec-tag _ is = absurd cc

-- the REC is one of that realm
record FittingRec (config : Config) (rec rd : ℕ) (held : List HeldCell) : Type 0 where
  it : RecRecord
  found : cell_in rec held ≡ Some (Rec it)
  seen : rec_at (seen_state config held) rec ≡ it
  owner : it.owner ≡ rd
  tagged : has_tag (seen_state config held) rec tag.Rec ≡ true

fitting-rec : (config : Config) (rec rd : ℕ) (held : List HeldCell)
    → is_misplaced config rec rd held ≡ false → is_held rec held ≡ true → FittingRec config rec rd held
fitting-rec config rec rd held fits holds =
    let parts = fitting config rec rd held fits in
    let at = named-cell (names rec rd) held parts.right (needed rec tag.Rec) (Contains-head (needed rec tag.Rec) (needed rd tag.Rd ∷ [])) holds in
    let rec_cell = rec-tag at.cell at.tagged in
    let found : cell_in rec held ≡ Some (Rec rec_cell.0) = at.found ∙ ap (λ (c : Cell). Some c) rec_cell.1 in
    let same : not (rec_cell.0.owner == rd) ≡ false = ap (has_other_owner rd) (sym found) ∙ parts.owner in
    record {
      it = rec_cell.0;
      found = found;
      seen = rec-seen config held rec rec_cell.0 parts.of_rec found;
      owner = eqb-true rec_cell.0.owner rd (not-false (rec_cell.0.owner == rd) same);
      tagged = tag-seen config held rec at.cell tag.Rec parts.of_rec at.found at.tagged;
    }

realm-tag : (c : Cell) → tag_of c ≡ tag.Rd → (realm : RealmRecord) × (c ≡ Rd realm)
realm-tag (Rd realm) is = (realm, refl)
realm-tag _ is = absurd cc

record FittingRealm (config : Config) (rd : ℕ) (held : List HeldCell) : Type 0 where
  realm : RealmRecord
  found : cell_in rd held ≡ Some (Rd realm)
  seen : realm_at (seen_state config held) rd ≡ realm
  tagged : has_tag (seen_state config held) rd tag.Rd ≡ true

fitting-realm : (config : Config) (rec rd : ℕ) (held : List HeldCell) → is_misplaced config rec rd held ≡ false → is_held rd held ≡ true
    → FittingRealm config rd held
fitting-realm config rec rd held fits holds =
    let parts = fitting config rec rd held fits in
    let at = named-cell (names rec rd) held parts.right (needed rd tag.Rd)
    (Contains-tail (needed rec tag.Rec) (needed rd tag.Rd ∷ []) (needed rd tag.Rd) (Contains-head (needed rd tag.Rd) [])) holds in
    let realm = realm-tag at.cell at.tagged in
    let found : cell_in rd held ≡ Some (Rd realm.0) = at.found ∙ ap (λ (c : Cell). Some c) realm.1 in
    record {
      realm = realm.0;
      found = found;
      seen = realm-seen config held rd realm.0 parts.of_rd found;
      tagged = tag-seen config held rd at.cell tag.Rd parts.of_rd at.found at.tagged;
    }

or_right : (b c : Bool) → b ≡ false → (b || c) ≡ true → c ≡ true
or_right false c fails is = is
or_right true c fails is = absurd (false≢true (sym fails))

pub fitting-place : (config : Config) (c : Call) (rec rd : ℕ) (held : List HeldCell)
    → is_misfit config c rec rd held ≡ false → is_misplaced config rec rd held ≡ false
fitting-place config c rec rd held fits = (or_parts (is_misplaced config rec rd held) (is_misfit_way config held (way_inside c rec rd held)) fits).0

-- what a realm's call holds where it is settled, and its walk is over
record ReadHeld (config : Config) (c : Call) (rec rd : ℕ) (held : List HeldCell) : Type 0 where
  of_rec : is_held rec held ≡ true
  of_rd : is_held rd held ≡ true
  over : is_read_over config held (way_inside c rec rd held) ≡ true

read-held : (config : Config) (c : Call) (rec rd : ℕ) (held : List HeldCell) → is_misfit config c rec rd held ≡ false
    → is_settled_inside ByRealm config c rec rd held ≡ true → ReadHeld config c rec rd held
read-held config c rec rd held fits settled =
    let all = or_right (is_misfit config c rec rd held)
    (is_held rec held && is_held rd held && is_read_over config held (way_inside c rec rd held)) fits settled in
    let parts = and_parts (is_held rec held && is_held rd held) (is_read_over config held (way_inside c rec rd held)) all in
    let both = and_parts (is_held rec held) (is_held rd held) parts.0 in
    record { of_rec = both.0; of_rd = both.1; over = parts.1 }

-- a command whose place fits may be given there
pub settled-inside : (config : Config) (c : Call) (rec rd : ℕ) (held : List HeldCell) (k : Class) → is_misfit config c rec rd held ≡ false
    → is_settled_inside k config c rec rd held ≡ true → IsInsideBy k (seen_state config held) rec
settled-inside config c rec rd held ByHost fits settled = tt
settled-inside config c rec rd held ByRealm fits settled =
    let both = read-held config c rec rd held fits settled in
    let placed = fitting-place config c rec rd held fits in
    let one = fitting-rec config rec rd held placed both.of_rec in
    let realm = fitting-realm config rec rd held placed both.of_rd in (
      one.tagged,
      subst (λ x. has_tag (seen_state config held) x tag.Rd ≡ true) (sym (ap (λ (r : RecRecord). r.owner) one.seen ∙ one.owner)) realm.tagged,
    )
settled-inside config c rec rd held ByExit fits settled =
    (fitting-rec config rec rd held (fitting-place config c rec rd held fits)
    (or_right (is_misfit config c rec rd held) (is_held rec held) fits settled)).tagged

-- ---- realm calls

can-call : (cpu : ℕ) (hold : Hold) (s : State) (rec : ℕ) (c : Call) → is_held rec hold.cells ≡ true
    → is_held (rec_at s rec).owner hold.cells ≡ true → CanAnswer cpu hold (answer_to_realm s rec c)
unfolding answer_to_realm commands
can-call cpu hold s rec (call.MeasurementRead index) held owner =
    can-done cpu hold Unchanged _ (with_front s (call.MeasurementRead index) _) (record { held = tt; tables = tt; here = tt })
can-call cpu hold s rec (call.MeasurementExtend index size values) held owner =
    can-done cpu hold (realm_change (rec_at s rec).owner (realm_update.MeasurementExtended index size values)) _
    (with_front s (call.MeasurementExtend index size values) _) (record { held = (owner, tt); tables = tt; here = tt })
can-call cpu hold s rec call.RealmConfig held owner =
    can-done cpu hold Unchanged _ (with_front s call.RealmConfig _) (record { held = tt; tables = tt; here = tt })
can-call cpu hold s rec (call.IpaStateSet base top ripas) held owner =
    can-done cpu hold (rec_change rec (rec_update.RipasRequested base top (ripas_asked ripas))) _
    (with_front s (call.IpaStateSet base top ripas) _) (record { held = (held, tt); tables = tt; here = tt })
can-call cpu hold s rec (call.HostCall imm) held owner =
    can-done cpu hold (rec_change rec (rec_update.HostCalled imm)) _
    (with_front s (call.HostCall imm) _) (record { held = (held, tt); tables = tt; here = tt })
can-call cpu hold s rec call.CpuOff held owner =
    can-done cpu hold (rec_change rec rec_update.TurnedOff) _ (with_front s call.CpuOff _) (record { held = (held, tt); tables = tt; here = tt })
can-call cpu hold s rec call.SystemOff held owner =
    can-done cpu hold (RecordsChanged (Some (record { rd = (rec_at s rec).owner; update = realm_update.TurnedOff }))
    (Some (record { rec = rec; update = rec_update.SystemTurnedOff }))) _
    (with_front s call.SystemOff _) (record { held = (owner, (held, tt)); tables = tt; here = tt })
can-call cpu hold s rec (call.IpaStateGet ipa) held owner =
    can-done cpu hold Unchanged _ (with_front s (call.IpaStateGet ipa) _) (record { held = tt; tables = tt; here = tt })
can-call cpu hold s rec _ held owner = tt

can-exit : (cpu : ℕ) (hold : Hold) (s : State) (rec rd : ℕ)
    → hold.place ≡ Inside rec rd → is_held rec hold.cells ≡ true → CanAnswer cpu hold (rec_exit s rec)
unfolding rec_exit
can-exit cpu hold s rec rd place held =
    can-done cpu hold (rec_change rec rec_update.Exited) _ (with_front s call.Exit _) (record { held = (held, tt); tables = tt; here = (rd, place) })

rec_exit-same : (s t : State) (rec : ℕ) → rec_at s rec ≡ rec_at t rec → rec_exit s rec ≡ rec_exit t rec
unfolding rec_exit words_of named
rec_exit-same s t rec same = rw same refl

-- what a realm is told of an address: the walk's end is held, or the address is refused
refused-get : (t : State) (rec rd ipa : ℕ) (realm : RealmRecord) → (rec_at t rec).owner ≡ rd → realm_at t rd ≡ realm → is_protected realm ipa ≡ false
    → is_refused_early (ipa_state_get t rec ipa) ≡ true
unfolding ipa_state_get words_of named
refused-get t rec rd ipa realm owner at unprotected = rw (owner, at) (by _ (is_page ipa) (nat_lt ipa (half realm)) unprotected)
  where
    by : (a : Accepted) (b d : Bool) → (b && d) ≡ false
        → is_refused_early (if b then (if d then Ok a else Err (of.Input IpaBound)) else Err (of.Input IpaAlign)) ≡ true
    by a true true is = absurd (false≢true (sym is))
    by a true false is = refl
    by a false d is = refl

row-told : (config : Config) (cpu : ℕ) (hold : Hold) (rec rd : ℕ) (c : Call) (w : Whole config cpu hold)
    → is_misfit config c rec rd hold.cells ≡ false
    → is_settled_inside ByRealm config c rec rd hold.cells ≡ true
    → rec_at (state config cpu hold w) rec ≡ rec_at (seen_state config hold.cells) rec
    → realm_at (state config cpu hold w) (rec_at (state config cpu hold w) rec).owner
    ≡ realm_at (seen_state config hold.cells) (rec_at (seen_state config hold.cells) rec).owner
    → is_none (rec_at (seen_state config hold.cells) rec).pending ≡ true
    → answer_to_realm (state config cpu hold w) rec c ≡ answer_to_realm (seen_state config hold.cells) rec c
unfolding answer_to_realm way_inside asked
row-told config cpu hold rec rd (call.IpaStateGet ipa) w fits settled recs realms ready =
    get-told (walk_whole config cpu hold w) rec rd ipa held.of_rec owner (ap (λ b. b || is_some (table_behind hold.cells rd)) held.of_rd)
    (by (is_protected realm.realm ipa) refl)
  where
    t : State
    t = seen_state config hold.cells

    placed : is_misplaced config rec rd hold.cells ≡ false
    placed = fitting-place config (call.IpaStateGet ipa) rec rd hold.cells fits

    held : ReadHeld config (call.IpaStateGet ipa) rec rd hold.cells
    held = read-held config (call.IpaStateGet ipa) rec rd hold.cells fits settled

    one : FittingRec config rec rd hold.cells
    one = fitting-rec config rec rd hold.cells placed held.of_rec

    realm : FittingRealm config rd hold.cells
    realm = fitting-realm config rec rd hold.cells placed held.of_rd

    owner : (rec_at (seen_state config hold.cells) rec).owner ≡ rd
    owner = ap (λ (r : RecRecord). r.owner) one.seen ∙ one.owner

    over : is_read_over config hold.cells (if is_none one.it.pending && is_protected realm.realm ipa then Some (way rd ipa 3) else None) ≡ true
    over = subst (λ o. is_read_over config hold.cells (way_to_read rd ipa o (Some (Rd realm.realm))) ≡ true) one.found
        (subst (λ o. is_read_over config hold.cells (way_to_read rd ipa (cell_in rec hold.cells) o) ≡ true) realm.found held.over)

    by : (b : Bool) → is_protected realm.realm ipa ≡ b
        → (is_walk_held config hold.cells (way rd ipa 3) || is_refused_early (ipa_state_get t rec ipa)) ≡ true
    by true protected =
        let idle : is_none one.it.pending ≡ true = ap (λ (r : RecRecord). is_none r.pending) (sym one.seen) ∙ ready in
        let walked : is_read_over config hold.cells (Some (way rd ipa 3)) ≡ true =
        subst (λ b. is_read_over config hold.cells (if b then Some (way rd ipa 3) else None) ≡ true)
        (and_from (is_none one.it.pending) (is_protected realm.realm ipa) idle protected) over in
        ap (λ b. b || is_refused_early (ipa_state_get t rec ipa))
        (and_parts (is_walk_held config hold.cells (way rd ipa 3)) (is_none (spare config true hold.cells (way rd ipa 3))) walked).0
    by false unprotected = or_second (is_walk_held config hold.cells (way rd ipa 3))
        (is_refused_early (ipa_state_get t rec ipa)) (refused-get t rec rd ipa realm.realm owner realm.seen unprotected)
row-told config cpu hold rec rd c w fits settled recs realms ready =
    answer_to_realm-same (state config cpu hold w) (seen_state config hold.cells) rec c refl recs realms

-- ---- any command

-- its change is one of what is held, and each whole that agrees answers the same
pub record IsToldInside (config : Config) (cpu : ℕ) (hold : Hold) (rec : ℕ) (c : Call) : Type 0 where
  pub can : CanAnswer cpu hold (inside_answer (seen_state config hold.cells) rec c)
  pub same : (w : Whole config cpu hold) → inside_answer (state config cpu hold w) rec c ≡ inside_answer (seen_state config hold.cells) rec c

pub fitting-told : (config : Config) (cpu : ℕ) (hold : Hold) (rec rd : ℕ) (c : Call) → hold.place ≡ Inside rec rd
    → is_misfit config c rec rd hold.cells ≡ false
    → is_settled_inside (class_of c) config c rec rd hold.cells ≡ true → IsToldInside config cpu hold rec c
unfolding inside_answer
fitting-told config cpu hold rec rd c place fits settled = record { can = can (class_of c) settled; same = λ w. same w (class_of c) settled }
  where
    t : State
    t = seen_state config hold.cells

    rec-held : is_settled_inside ByExit config c rec rd hold.cells ≡ true → is_held rec hold.cells ≡ true
    rec-held is = or_right (is_misfit config c rec rd hold.cells) (is_held rec hold.cells) fits is

    both-held : is_settled_inside ByRealm config c rec rd hold.cells ≡ true → (is_held rec hold.cells ≡ true) × (is_held rd hold.cells ≡ true)
    both-held is = let both = read-held config c rec rd hold.cells fits is in (both.of_rec, both.of_rd)

    owner-held : (is_held rec hold.cells ≡ true) × (is_held rd hold.cells ≡ true) → is_held (rec_at t rec).owner hold.cells ≡ true
    owner-held both =
        let one = fitting-rec config rec rd hold.cells (fitting-place config c rec rd hold.cells fits) both.0 in
        subst (λ x. is_held x hold.cells ≡ true) (sym (ap (λ (r : RecRecord). r.owner) one.seen ∙ one.owner)) both.1

    can-wait : (b : Bool) → CanAnswer cpu hold (answer_to_realm t rec c)
        → CanAnswer cpu hold (if b then answer_to_realm t rec c else Err (of.Misplaced OwnPending))
    can-wait true later = later
    can-wait false later = tt

    can : (k : Class) → is_settled_inside k config c rec rd hold.cells ≡ true → CanAnswer cpu hold (class_answer k t rec c)
    can ByHost is = tt
    can ByRealm is =
        let both = both-held is in
        can-wait (is_none (rec_at t rec).pending) (can-call cpu hold t rec c both.0 (owner-held both))
    can ByExit is = can-exit cpu hold t rec rd place (rec-held is)

    same : (w : Whole config cpu hold) (k : Class) → is_settled_inside k config c rec rd hold.cells ≡ true
        → class_answer k (state config cpu hold w) rec c ≡ class_answer k t rec c
    same w ByHost is = refl
    same w ByRealm is =
        let s = state config cpu hold w in
        let both = both-held is in
        let recs = rec-same (walk_whole config cpu hold w) rec both.0 in
        let realms =
        ap (λ (r : RecRecord). realm_at s r.owner) recs ∙ realm-same (walk_whole config cpu hold w) (rec_at t rec).owner (owner-held both) in
        (λ i. if is_none (recs i).pending then answer_to_realm s rec c else Err (of.Misplaced OwnPending))
        ∙ waits (is_none (rec_at t rec).pending) refl (λ ready. row-told config cpu hold rec rd c w fits is recs realms ready)
      where
        waits : (b : Bool) → is_none (rec_at t rec).pending ≡ b
            → (is_none (rec_at t rec).pending ≡ true → answer_to_realm (state config cpu hold w) rec c ≡ answer_to_realm t rec c)
            → (if b then answer_to_realm (state config cpu hold w) rec c else Err (of.Misplaced OwnPending))
            ≡ (if b then answer_to_realm t rec c else Err (of.Misplaced OwnPending))
        waits true ready rows = rows ready
        waits false pending rows = refl
    same w ByExit is = rec_exit-same (state config cpu hold w) t rec (rec-same (walk_whole config cpu hold w) rec (rec-held is))
