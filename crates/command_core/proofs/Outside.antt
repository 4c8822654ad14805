-- A host's command of which all is held that its rows look up is answered from what is held as by every whole that agrees.
use Rattle.command_core.proofs.Common.{◌&&◌, ◌||◌, ◌∙◌, ◌∷◌, ◌≡◌, Accepted, ByHost, Call, Config, Err, HeldCell, Hold, List, Needed, None, Option, Rd, RealmRecord, Rec, RecRecord, Refusal, Result, Some, State, [], and_parts, ap, are_recs_counted, cell_in, class_of, false, false≢true, flat_state, has_tag, is_granule, is_held, is_none, is_some, is_vmid_listed, list_all, named, outside_answer, realm_at, realm_in, rec_at, refl, seen_state, subst, suc, sym, true, way_of, words_fit, words_of, zero, ℕ}
use Rattle.std.specs.Prelude.{IfSome, slice_get}
use Rattle.rmm_spec.specs.declared.call.Call.TheVariants as call
use Rattle.rmm_spec.specs.declared.change.Change.TheVariants.{RealmDestroyed, RecDestroyed}
use Rattle.rmm_spec.specs.declared.change.RecUpdate.TheVariants.{Entered}
use Rattle.rmm_spec.specs.declared.entry.EntryTest.TheVariants.{Link}
use Rattle.rmm_spec.specs.declared.condition.Condition.TheVariants.{RecState}
use Rattle.rmm_spec.specs.declared.refusal.Refusal.TheVariants as of
use Rattle.rmm_spec.specs.declared.tag.Tag.TheVariants as tag
use Rattle.rmm_spec.specs.Lookup.{is_vmid_used, has_rec}
use Rattle.rmm_spec.specs.Walk.{has_link}
use Rattle.rmm_spec.specs.Step.{answer_of, commands}
use Rattle.rmm_spec.specs.Step.Front.{with_front}
use Rattle.rmm_spec.specs.Step.Rec.{rec_destroy, rec_enter}
use Rattle.rmm_spec.specs.Step.RealmCall.{rec_change}
use Rattle.rmm_spec.specs.Cell.{Cell}
use Rattle.world_laws.proofs.Seen.{tag-same, realm-same, rec-same, held-placed, has_entry-same}
use Rattle.command_core.specs.Changed.{CanAnswer}
use Rattle.command_core.specs.Named.{holds_all}
use Rattle.command_core.specs.Settled.{is_root_held, are_auxes_held, is_realm_in, is_owner_held, is_complete}
use Rattle.command_core.proofs.Agreeing.{entered, rooted, SameOwner, SameRoot, SameLookUps, outside_answer-same}
use Rattle.command_core.proofs.Changes.{can-done}
use Rattle.command_core.proofs.SeenStates.{tag-seen, rec-seen, realm-seen}
use Rattle.command_core.proofs.Wholes.{Whole, state, walk_whole, whole_cell, realm_at-cell, has_rec-counted, is_vmid_used-listed}

abbrev pub told_outside : Config → ℕ → Hold → Call → Result Accepted Refusal
told_outside config cpu hold c = outside_answer (is_vmid_listed hold.side) (are_recs_counted hold.side) (seen_state config hold.cells) cpu c

-- its change is one of what is held, and each whole that agrees answers the same
pub record IsToldOutside (config : Config) (cpu : ℕ) (hold : Hold) (c : Call) : Type 0 where
  pub can : CanAnswer cpu hold (told_outside config cpu hold c)
  pub same : (w : Whole config cpu hold)
      → outside_answer (is_vmid_used (state config cpu hold w)) (has_rec (state config cpu hold w)) (state config cpu hold w) cpu c
      ≡ told_outside config cpu hold c

held_by : (held : List HeldCell) (g : ℕ) (c : Cell) → cell_in g held ≡ Some c → is_held g held ≡ true
held_by held g c found = ap (λ (o : Option Cell). is_some o) found

-- ---- named granules that are held

-- what holds of each granule that is held holds of each that is named, at any place of the list
each-named : (held : List HeldCell) (Q : Needed → Type 0) → ((n : Needed) → is_held n.granule held ≡ true → Q n)
    → (names : List Needed) → holds_all names held ≡ true → (k : ℕ) → IfSome (slice_get names k) Q
unfolding holds_all
each-named held Q each [] all k = tt
each-named held Q each (n ∷ names) all zero = each n (and_parts (is_held n.granule held) (holds_all names held) all).0
each-named held Q each (n ∷ names) all (suc k) = each-named held Q each names (and_parts (is_held n.granule held) (holds_all names held) all).1 k

held-at : (held : List HeldCell) (c : Call) → holds_all (named c) held ≡ true → (k : ℕ)
    → IfSome (slice_get (named c) k) (λ (n : Needed). is_held n.granule held ≡ true)
held-at held c = each-named held (λ n. is_held n.granule held ≡ true) (λ n is. is) (named c)

-- ---- what is looked up

same_version : (config : Config) (cpu : ℕ) (hold : Hold) (w : Whole config cpu hold)
    → (state config cpu hold w).config.version ≡ (seen_state config hold.cells).config.version
unfolding flat_state seen_state
same_version config cpu hold w = refl

-- a whole and what is held agree on what is named, where all that is named is held
agreeing : (config : Config) (cpu : ℕ) (hold : Hold) (w : Whole config cpu hold) (c : Call) → holds_all (named c) hold.cells ≡ true
    → SameOwner (state config cpu hold w) (seen_state config hold.cells) (entered c)
    → SameRoot (state config cpu hold w) (seen_state config hold.cells) (rooted c)
    → SameLookUps (state config cpu hold w) (seen_state config hold.cells) c
agreeing config cpu hold w c all owner root =
    let s : State = state config cpu hold w in
    let t : State = seen_state config hold.cells in record {
      version = same_version config cpu hold w;
      tags = each-named hold.cells (λ n. has_tag s n.granule n.tag ≡ has_tag t n.granule n.tag)
          (λ n. tag-same (walk_whole config cpu hold w) n.granule n.tag) (named c) all;
      realms = each-named hold.cells (λ n. realm_at s n.granule ≡ realm_at t n.granule)
          (λ n. realm-same (walk_whole config cpu hold w) n.granule) (named c) all;
      recs = each-named hold.cells (λ n. rec_at s n.granule ≡ rec_at t n.granule)
          (λ n. rec-same (walk_whole config cpu hold w) n.granule) (named c) all;
      owner = owner;
      root = root;
    }

-- what they agree on they answer alike
told-same : (config : Config) (cpu : ℕ) (hold : Hold) (w : Whole config cpu hold) (c : Call) → way_of c ≡ None
    → SameLookUps (state config cpu hold w) (seen_state config hold.cells) c
    → outside_answer (is_vmid_used (state config cpu hold w)) (has_rec (state config cpu hold w))
    (state config cpu hold w) cpu c ≡ told_outside config cpu hold c
told-same config cpu hold w c walks same =
    (λ i. outside_answer (λ vmid. is_vmid_used-listed config cpu hold w vmid i)
    (λ rd. has_rec-counted config cpu hold w rd i) (state config cpu hold w) cpu c)
    ∙ outside_answer-same (is_vmid_listed hold.side) (are_recs_counted hold.side)
    (state config cpu hold w) (seen_state config hold.cells) cpu c walks same

-- ---- a named granule is one

only-granule : (granules : ℕ) (n : Needed)
    → list_all (λ (m : Needed). is_granule granules m.granule) (n ∷ []) ≡ true → is_granule granules n.granule ≡ true
only-granule granules n all = (and_parts (is_granule granules n.granule) true all).0

realm_destroy-granule : (config : Config) (rd : ℕ) → words_fit config (call.RealmDestroy rd) ≡ true → is_granule config.granules rd ≡ true
unfolding words_fit named words_of
realm_destroy-granule config rd fits = only-granule config.granules (record { granule = rd; tag = tag.Rd }) fits

rec_destroy-granule : (config : Config) (rec : ℕ) → words_fit config (call.RecDestroy rec) ≡ true → is_granule config.granules rec ≡ true
unfolding words_fit named words_of
rec_destroy-granule config rec fits = only-granule config.granules (record { granule = rec; tag = tag.Rec }) fits

rec_enter-granule : (config : Config) (rec : ℕ) → words_fit config (call.RecEnter rec) ≡ true → is_granule config.granules rec ≡ true
unfolding words_fit named words_of
rec_enter-granule config rec fits = only-granule config.granules (record { granule = rec; tag = tag.Rec }) fits

-- ---- a realm and its root

-- whether a realm's root that is held links to a table is told as the whole has it
root-linked : (config : Config) (cpu : ℕ) (hold : Hold) (w : Whole config cpu hold) (rd : ℕ) (realm : RealmRecord)
    → cell_in rd hold.cells ≡ Some (Rd realm)
    → is_held realm.root hold.cells ≡ true
    → has_link (state config cpu hold w) rd realm.start_level 0 ≡ has_link (seen_state config hold.cells) rd realm.start_level 0
root-linked config cpu hold w rd realm found held =
    let whole = walk_whole config cpu hold w in
    let root = w.shaped.tables.roots rd realm (ap realm_in (whole_cell config cpu hold w rd (Rd realm) found)) in
    let placed = held-placed whole realm.root rd realm.start_level 0 held root in
    has_entry-same whole placed.0 rd realm.start_level 0 Link placed.1

realm_destroy-told : (config : Config) (cpu : ℕ) (hold : Hold) (rd : ℕ)
    → is_granule config.granules rd ≡ true → (o : Option Cell) → cell_in rd hold.cells ≡ o
    → is_root_held o hold.cells ≡ true → IsToldOutside config cpu hold (call.RealmDestroy rd)
unfolding outside_answer way_of named holds_all entered rooted
realm_destroy-told config cpu hold rd granule (Some (Rd realm)) found root = record {
  can = can-done cpu hold (RealmDestroyed rd (realm_at (seen_state config hold.cells) rd).root) _
      (with_front (seen_state config hold.cells) (call.RealmDestroy rd) _)
      (record { held = (held, (subst (λ (r : RealmRecord). is_held r.root hold.cells ≡ true) (sym seen) root, tt)); tables = tt; here = tt });
  same = λ w.
      let s = state config cpu hold w in
      let t = seen_state config hold.cells in
      let of_whole : realm_at s rd ≡ realm = realm_at-cell config w.cells rd realm (whole_cell config cpu hold w rd (Rd realm) found) in
      told-same config cpu hold w (call.RealmDestroy rd) refl
      (agreeing config cpu hold w (call.RealmDestroy rd) (ap (λ b. b && true) held) tt
      (ap (λ (r : RealmRecord). has_link s rd r.start_level 0) of_whole
      ∙ (root-linked config cpu hold w rd realm found root ∙ sym (ap (λ (r : RealmRecord). has_link t rd r.start_level 0) seen))));
}
  where
    held : is_held rd hold.cells ≡ true
    held = held_by hold.cells rd (Rd realm) found

    seen : realm_at (seen_state config hold.cells) rd ≡ realm
    seen = realm-seen config hold.cells rd realm granule found
realm_destroy-told config cpu hold rd granule _ found root = absurd (false≢true root)

-- ---- a REC, its two others and its realm

rec_destroy-running : (s : State) (rec : ℕ)
    → has_tag s rec tag.Rec ≡ true → is_none (rec_at s rec).cpu ≡ false → rec_destroy s rec ≡ Err (of.Rec RecState)
unfolding rec_destroy words_of named
rec_destroy-running s rec tag running = rw (tag, running) refl

rec_destroy-can : (cpu : ℕ) (hold : Hold) (s : State) (rec : ℕ) → is_held rec hold.cells ≡ true → is_held (rec_at s rec).aux0 hold.cells ≡ true
    → is_held (rec_at s rec).aux1 hold.cells ≡ true → CanAnswer cpu hold (rec_destroy s rec)
unfolding rec_destroy
rec_destroy-can cpu hold s rec held aux0 aux1 =
    can-done cpu hold (RecDestroyed rec (rec_at s rec).aux0 (rec_at s rec).aux1) _
    (with_front s (call.RecDestroy rec) _) (record { held = (held, (aux0, (aux1, tt))); tables = tt; here = tt })

rec_destroy-told : (config : Config) (cpu : ℕ) (hold : Hold) (rec : ℕ)
    → is_granule config.granules rec ≡ true → (o : Option Cell) → cell_in rec hold.cells ≡ o
    → are_auxes_held o hold.cells ≡ true → IsToldOutside config cpu hold (call.RecDestroy rec)
unfolding outside_answer answer_of class_of way_of named holds_all entered rooted
rec_destroy-told config cpu hold rec granule (Some (Rec it)) found auxes = record {
  can = by it.cpu refl auxes;
  same = λ w. told-same config cpu hold w (call.RecDestroy rec) refl
      (agreeing config cpu hold w (call.RecDestroy rec) (ap (λ b. b && true) held) tt tt);
}
  where
    held : is_held rec hold.cells ≡ true
    held = held_by hold.cells rec (Rec it) found

    seen : rec_at (seen_state config hold.cells) rec ≡ it
    seen = rec-seen config hold.cells rec it granule found

    by : (o : Option ℕ) → it.cpu ≡ o → (is_some o || (is_held it.aux0 hold.cells && is_held it.aux1 hold.cells)) ≡ true
        → CanAnswer cpu hold (rec_destroy (seen_state config hold.cells) rec)
    by (Some on) runs is =
        subst (CanAnswer cpu hold)
        (sym (rec_destroy-running (seen_state config hold.cells) rec (tag-seen config hold.cells rec (Rec it) tag.Rec granule found refl)
        (ap (λ (r : RecRecord). is_none r.cpu) seen ∙ ap (λ (o : Option ℕ). is_none o) runs)))
        tt
    by None none is =
        let both = and_parts (is_held it.aux0 hold.cells) (is_held it.aux1 hold.cells) is in
        rec_destroy-can cpu hold (seen_state config hold.cells) rec held
        (subst (λ (r : RecRecord). is_held r.aux0 hold.cells ≡ true) (sym seen) both.0)
        (subst (λ (r : RecRecord). is_held r.aux1 hold.cells ≡ true) (sym seen) both.1)
rec_destroy-told config cpu hold rec granule _ found auxes = absurd (false≢true auxes)

realm-held : (o : Option Cell) → is_realm_in o ≡ true → is_some o ≡ true
realm-held (Some c) is = refl
realm-held None is = absurd (false≢true is)

rec_enter-told : (config : Config) (cpu : ℕ) (hold : Hold) (rec : ℕ)
    → is_granule config.granules rec ≡ true → (o : Option Cell) → cell_in rec hold.cells ≡ o
    → is_owner_held o hold.cells ≡ true → IsToldOutside config cpu hold (call.RecEnter rec)
unfolding outside_answer answer_of class_of rec_enter way_of named holds_all entered rooted
rec_enter-told config cpu hold rec granule (Some (Rec it)) found owner = record {
  can = can-done cpu hold (rec_change rec (Entered cpu)) _ (with_front (seen_state config hold.cells) (call.RecEnter rec) _)
      (record { held = (held, tt); tables = tt; here = refl });
  same = λ w.
      let s = state config cpu hold w in
      let t = seen_state config hold.cells in
      told-same config cpu hold w (call.RecEnter rec) refl
      (agreeing config cpu hold w (call.RecEnter rec) (ap (λ b. b && true) held)
      (ap (λ (r : RecRecord). realm_at s r.owner) (rec-same (walk_whole config cpu hold w) rec held ∙ seen)
      ∙ (realm-same (walk_whole config cpu hold w) it.owner (realm-held (cell_in it.owner hold.cells) owner)
      ∙ sym (ap (λ (r : RecRecord). realm_at t r.owner) seen))) tt);
}
  where
    held : is_held rec hold.cells ≡ true
    held = held_by hold.cells rec (Rec it) found

    seen : rec_at (seen_state config hold.cells) rec ≡ it
    seen = rec-seen config hold.cells rec it granule found
rec_enter-told config cpu hold rec granule _ found owner = absurd (false≢true owner)

-- ---- any command

-- where all that is named is held, and nothing else is looked up or changed
named-told : (config : Config) (cpu : ℕ) (hold : Hold) (c : Call)
    → way_of c ≡ None → holds_all (named c) hold.cells ≡ true → entered c ≡ None → rooted c ≡ None
    → CanAnswer cpu hold (told_outside config cpu hold c) → IsToldOutside config cpu hold c
named-told config cpu hold c walks all no_owner no_root can = record {
  can = can;
  same = λ w.
      let s = state config cpu hold w in
      let t = seen_state config hold.cells in
      told-same config cpu hold w c walks
      (agreeing config cpu hold w c all (subst (SameOwner s t) (sym no_owner) tt) (subst (SameRoot s t) (sym no_root) tt));
}

pub complete-told : (config : Config) (cpu : ℕ) (hold : Hold) (c : Call) → way_of c ≡ None → class_of c ≡ ByHost → words_fit config c ≡ true
    → is_complete c hold.cells ≡ true → IsToldOutside config cpu hold c
unfolding way_of class_of is_complete outside_answer answer_of named entered rooted commands
complete-told config cpu hold (call.RealmDestroy rd) walks host fits complete =
    realm_destroy-told config cpu hold rd (realm_destroy-granule config rd fits) (cell_in rd hold.cells) refl complete
complete-told config cpu hold (call.RecDestroy rec) walks host fits complete =
    rec_destroy-told config cpu hold rec (rec_destroy-granule config rec fits) (cell_in rec hold.cells) refl complete
complete-told config cpu hold (call.RecEnter rec) walks host fits complete =
    rec_enter-told config cpu hold rec (rec_enter-granule config rec fits) (cell_in rec hold.cells) refl complete
complete-told config cpu hold (call.GranuleDelegate g) walks host fits complete =
    let c = call.GranuleDelegate g in
    named-told config cpu hold c walks complete refl refl
    (can-done cpu hold _ _ (with_front (seen_state config hold.cells) c _)
    (record { held = (held-at hold.cells c complete 0, tt); tables = tt; here = tt }))
complete-told config cpu hold (call.GranuleUndelegate g) walks host fits complete =
    let c = call.GranuleUndelegate g in
    named-told config cpu hold c walks complete refl refl
    (can-done cpu hold _ _ (with_front (seen_state config hold.cells) c _)
    (record { held = (held-at hold.cells c complete 0, tt); tables = tt; here = tt }))
complete-told config cpu hold (call.RealmActivate rd) walks host fits complete =
    let c = call.RealmActivate rd in
    named-told config cpu hold c walks complete refl refl
    (can-done cpu hold _ _ (with_front (seen_state config hold.cells) c _)
    (record { held = (held-at hold.cells c complete 0, tt); tables = tt; here = tt }))
complete-told config cpu hold (call.RealmCreate rd root width level vmid algo) walks host fits complete =
    let c = call.RealmCreate rd root width level vmid algo in
    let at = held-at hold.cells c complete in
    named-told config cpu hold c walks complete refl refl
    (can-done cpu hold _ _ (with_front (seen_state config hold.cells) c _) (record { held = (at 0, (at 1, tt)); tables = tt; here = tt }))
complete-told config cpu hold (call.RecCreate rd rec mpidr flags aux0 aux1) walks host fits complete =
    let c = call.RecCreate rd rec mpidr flags aux0 aux1 in
    let at = held-at hold.cells c complete in
    named-told config cpu hold c walks complete refl refl
    (can-done cpu hold _ _ (with_front (seen_state config hold.cells) c _)
    (record { held = (at 1, (at 2, (at 3, (at 0, tt)))); tables = tt; here = tt }))
complete-told config cpu hold _ walks host fits complete = absurd cc
