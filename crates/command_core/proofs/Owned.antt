-- What is settled has what the rows require of who looks up for them: a REC that is entered has its realm.
use Rattle.command_core.proofs.Common.{◌==◌, ◌||◌, ◌∙◌, ◌∷◌, ◌≡◌, Bool, Call, Config, HeldCell, Inside, List, Needed, None, Option, Outside, Rd, RealmRecord, Rec, RecRecord, Some, Undelegated, [], and_parts, ap, cell_in, class_of, eq-eqb, false, false≢true, has_tag, has_wrong, if◌then◌else◌, is_granule, is_settled, is_unshaped, named, not, rec_at, refl, seen_state, subst, sym, tag_number, tag_of, true, way_of, way_taken, words_fit, words_of, ℕ}
use Rattle.std.proofs.lemmas.Bool.{or_parts, not-false, false_from_ne_true}
use Rattle.rmm_spec.specs.declared.call.Call.TheVariants as call
use Rattle.rmm_spec.specs.declared.tag.Tag.TheVariants as tag
use Rattle.rmm_spec.specs.Step.Terms.{needed}
use Rattle.rmm_spec.specs.Cell.{Cell}
use Rattle.spec_lemmas.proofs.Members.{each_of_one}
use Rattle.command_rows.specs.Answers.{IsOwned, IsInside}
use Rattle.world_laws.specs.SeenState.{realm_behind, cell_or}
use Rattle.command_core.specs.Unshaped.{can_learn, has_bad_owner, has_misfit_part}
use Rattle.command_core.specs.Settled.{is_realm_in, is_owner_held, is_complete}
use Rattle.command_core.proofs.Fronts.{wrong_tag}
use Rattle.command_core.proofs.Inside.{settled-inside}
use Rattle.command_core.proofs.SeenStates.{tag-seen, rec-seen}

-- the REC that the tag says is there is held
record RecThere (granules rec : ℕ) (held : List HeldCell) : Type 0 where
  it : RecRecord
  granule : is_granule granules rec ≡ true
  found : cell_in rec held ≡ Some (Rec it)

rec-there : (config : Config) (rec : ℕ) (held : List HeldCell)
    → has_tag (seen_state config held) rec tag.Rec ≡ true → RecThere config.granules rec held
unfolding has_tag seen_state
rec-there config rec held has =
    by (cell_in rec held) (realm_behind held rec) refl
    (subst (λ b. (tag_number (tag_of (if b then cell_or (cell_in rec held) (realm_behind held rec) else Undelegated)) == 3) ≡ true) parts.0 parts.1)
  where
    parts : (is_granule config.granules rec ≡ true) × ((tag_number
        (tag_of (if is_granule config.granules rec then cell_or (cell_in rec held) (realm_behind held rec) else Undelegated)) == 3) ≡ true)
    parts = and_parts (is_granule config.granules rec)
        (tag_number (tag_of (if is_granule config.granules rec then cell_or (cell_in rec held) (realm_behind held rec) else Undelegated)) == 3) has

    by : (o : Option Cell) (r : Option RealmRecord)
        → cell_in rec held ≡ o → (tag_number (tag_of (cell_or o r)) == 3) ≡ true → RecThere config.granules rec held
    by (Some (Rec it)) r found is = record { it = it; granule = parts.0; found = found }
    by (Some _) r found is = absurd (false≢true is)
    by None (Some realm) found is = absurd (false≢true is)
    by None None found is = absurd (false≢true is)

realm_there : (o : Option Cell) → is_realm_in o ≡ true → (realm : RealmRecord) × (o ≡ Some (Rd realm))
realm_there (Some (Rd realm)) is = (realm, refl)
realm_there _ is = absurd (false≢true is)

-- the words and the tag of an Enter whose REC is held allow it
enter-fits : (config : Config) (rec : ℕ) → is_granule config.granules rec ≡ true → words_fit config (call.RecEnter rec) ≡ true
unfolding words_fit words_of named
enter-fits config rec granule = rw granule refl

enter-right : (rec : ℕ) (held : List HeldCell) (it : RecRecord)
    → cell_in rec held ≡ Some (Rec it) → has_wrong (named (call.RecEnter rec)) held ≡ false
unfolding named
enter-right rec held it found = false_from_ne_true (has_wrong (needed rec tag.Rec ∷ []) held) (λ wrong.
    let w = wrong_tag (needed rec tag.Rec ∷ []) held wrong in
    let is : w.n ≡ needed rec tag.Rec = each_of_one (λ (n : Needed). n ≡ needed rec tag.Rec) (needed rec tag.Rec) refl w.n w.has_n in
    let at : w.h.granule ≡ rec = sym w.same ∙ ap (λ (n : Needed). n.granule) is in
    let cell : Some w.h.cell ≡ Some (Rec it) = sym w.found ∙ (ap (λ g. cell_in g held) at ∙ found) in
    let same : w.h.cell ≡ Rec it = cc in
    false≢true (sym w.wrong ∙ eq-eqb (tag_number (tag_of w.h.cell)) (tag_number w.n.tag)
    (ap (λ (c : Cell). tag_number (tag_of c)) same ∙ ap (λ (n : Needed). tag_number n.tag) (sym is))))

last : (fits wrong unshaped complete : Bool)
    → fits ≡ true → wrong ≡ false → unshaped ≡ false → (not fits || wrong || unshaped || complete) ≡ true → complete ≡ true
last true false false complete a b c is = is
last true false true complete a b c is = absurd (false≢true (sym c))
last true true unshaped complete a b c is = absurd (false≢true (sym b))
last false wrong unshaped complete a b c is = absurd (false≢true a)

enter-owned : (config : Config) (rec : ℕ) (held : List HeldCell) → is_settled config (call.RecEnter rec) Outside held ≡ true
    → is_unshaped config (call.RecEnter rec) Outside held ≡ false → has_tag (seen_state config held) rec tag.Rec ≡ true
    → has_tag (seen_state config held) (rec_at (seen_state config held) rec).owner tag.Rd ≡ true
unfolding is_settled is_unshaped has_misfit_part is_complete class_of way_taken way_of words_of
enter-owned config rec held settled shaped has =
    let there = rec-there config rec held has in
    let owner = (or_parts (has_bad_owner config rec (cell_in rec held)) false shaped).0 in
    let complete =
    last (words_fit config (call.RecEnter rec)) (has_wrong (named (call.RecEnter rec)) held) (has_bad_owner config rec (cell_in rec held) || false)
    (is_owner_held (cell_in rec held) held) (enter-fits config rec there.granule) (enter-right rec held there.it there.found) shaped settled in
    let realm = realm_there (cell_in there.it.owner held) (ap (λ o. is_owner_held o held) (sym there.found) ∙ complete) in
    let learns = not-false (can_learn config rec there.it.owner) (ap (has_bad_owner config rec) (sym there.found) ∙ owner) in
    let granule = (and_parts (is_granule config.granules there.it.owner) (not (there.it.owner == rec)) learns).0 in
    subst (λ (r : RecRecord). has_tag (seen_state config held) r.owner tag.Rd ≡ true)
    (sym (rec-seen config held rec there.it there.granule there.found))
    (tag-seen config held there.it.owner (Rd realm.0) tag.Rd granule realm.1 refl)

pub settled-owned : (config : Config) (held : List HeldCell) (c : Call)
    → is_settled config c Outside held ≡ true → is_unshaped config c Outside held ≡ false
    → IsOwned (seen_state config held) c
settled-owned config held (call.RecEnter rec) settled shaped = enter-owned config rec held settled shaped
settled-owned config held _ settled shaped = tt

pub settled-placed : (config : Config) (rec rd : ℕ) (held : List HeldCell) (c : Call) → is_settled config c (Inside rec rd) held ≡ true
    → is_unshaped config c (Inside rec rd) held ≡ false → IsInside (seen_state config held) rec c
unfolding is_settled is_unshaped IsInside
settled-placed config rec rd held c settled shaped = settled-inside config c rec rd held (class_of c) shaped settled
