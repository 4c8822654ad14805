-- Each kind of change opens and closes claims as the state's ties come and go.
use Rattle.rmm_laws.proofs.Common.{◌&&◌, ◌+◌, ◌<◌, ◌==◌, ◌∙◌, ◌∷◌, ◌≡◌, ◌⊎◌, Bool, Change, Claim, Delegated, IsSound, IsTrue, List, None, Option, Rd, RealmDestroyed, RealmRecord, RecDestroyed, Rtt, Some, State, Tag, TagChange, [], ap, arith, both_ways, changed, claim, eq-eqb, eqb-true, false, has_tag, if◌then◌else◌, inl, inr, is_some, realm_at, rec_at, refl, subst, sym, tag-has_tag, true, ℕ}
use Rattle.std.proofs.Common.{◌-◌, ◌/◌, ◌≤◌, nat_lt, nat_le, option_map, ap₂}
use Rattle.std.proofs.lemmas.Bool.{ne_eqb}
use Rattle.rmm_spec.specs.declared.change.Change.TheVariants.{Unchanged, Retagged, RealmMade, RecMade, RecordsChanged, TableMade, TableDestroyed, EntriesChanged}
use Rattle.rmm_spec.specs.declared.change.EntryChange.TheVariants.{Replaced, RipasSet}
use Rattle.rmm_spec.specs.declared.change.RealmChange.{RealmChange}
use Rattle.rmm_spec.specs.declared.change.RecChange.{RecChange}
use Rattle.rmm_spec.specs.declared.change.RealmUpdate.TheVariants as realm_update
use Rattle.rmm_spec.specs.declared.entry.Entry.{Entry}
use Rattle.rmm_spec.specs.declared.entry.Entry.TheVariants.{Unassigned, Assigned, UnassignedNs}
use Rattle.rmm_spec.specs.declared.tag.Ripas.{Ripas}
use Rattle.rmm_spec.specs.declared.tag.Ripas.TheVariants.{Empty}
use Rattle.rmm_spec.specs.declared.tag.Tag.TheVariants.{Rec, RecAux, Data}
use Rattle.rmm_spec.specs.Applicable.{CanRetag, CanMakeRealm, CanDestroyRealm, CanMakeRec, CanDestroyRec, CanMakeTable, CanDestroyTable, GoesWith, CanApply}
use Rattle.rmm_spec.specs.Change.{new_realm, new_rec, realm_updated, with_tag_change}
use Rattle.rmm_spec.specs.Ownership.{RecParts}
use Rattle.rmm_spec.specs.State.{RecRecord}
use Rattle.rmm_spec.specs.Update.{with_tag, with_leaf, with_ripas, entry_with_ripas, is_same_entry}
use Rattle.rmm_spec.specs.Walk.{is_table, is_assigned, entry_at}
use Rattle.rmm_laws.proofs.Cases.{spot_itself}
use Rattle.rmm_laws.proofs.Searches.{realm_there, rec_there}
use Rattle.rmm_laws.proofs.ChangeWords.{of_page, page_opened, page_closed, opened, closed}
use Rattle.rmm_laws.proofs.Claims.{IsAmong}
use Rattle.rmm_laws.proofs.Facts.{waits_not, entry_at-table, page-last, page-entry, entry-page, page-in_use, root_covers, unlinked-root}
use Rattle.rmm_laws.proofs.Keeps.{IsRecLike, IsPage, keeps-kept, keeps-all, same-realms, same-recs, same-tables, same-pages, with_records, records-kept, records-tag, records-leaf}
use Rattle.rmm_laws.proofs.Owners.{IsKept, Accounts}
use Rattle.rmm_laws.proofs.Tests.{kept_unless, there, same_value, spot_parts, moved}
use Rattle.rmm_laws.proofs.Ties.{IsUnused}
use Rattle.lemmas.proofs.Options.{some_value}

-- the root of each realm, and the parts of each REC
abbrev pub roots_at : State → ℕ → ℕ
roots_at s rd = (realm_at s rd).root

abbrev pub recs_at : State → ℕ → RecParts
recs_at s rec = record { rd = (rec_at s rec).owner; aux0 = (rec_at s rec).aux0; aux1 = (rec_at s rec).aux1 }

-- a tag that is chosen among unused ones is unused
choice_unused : (b : Bool) (x y : Tag) → IsUnused x → IsUnused y → IsUnused (if b then x else y)
choice_unused true x y first second = first
choice_unused false x y first second = second

-- a granule that gets a tag has it
tag_here : (g : ℕ) (x y : Tag) → IsUnused x → IsUnused (if g == g then x else y)
tag_here g x y unused = rw (eq-eqb g g refl) unused

-- ties and unused tags stay
pub stays-accounts : (s new : State)
    → ((c : Claim) → IsKept s c → IsKept new c) → ((granule : ℕ) → IsUnused (s.tag granule) → IsUnused (new.tag granule)) → Accounts s new [] []
stays-accounts s new kept unused = record {
  opened = tt;
  apart = tt;
  closed = tt;
  kept = λ c tied. inl (kept c tied);
  unused = λ granule is _. unused granule is;
}

-- a granule is lent or taken back
retagged-accounts : (s : State) (change : TagChange) → CanRetag s change → Accounts s (with_tag s change.granule change.tag) [] []
retagged-accounts s change can =
    stays-accounts s (with_tag s change.granule change.tag)
    (keeps-all s (with_tag s change.granule change.tag)
    (record { realms = same-realms s []; recs = same-recs s []; tables = same-tables s []; pages = same-pages s [] }))
    (λ granule is. choice_unused (granule == change.granule) change.tag (s.tag granule)
    (elim can [ inl lent ↦ inr lent.1 | inr back ↦ inl back.1 ]) is)

-- where no realm is there is no table
no_realm-table : (s : State) (rd level number granule : ℕ) → IsSound s → IsTrue (has_tag s rd Delegated) → s.table rd level number ≡ Some granule → ⊥
no_realm-table s rd level number granule sound waits table =
    let owner = sound.tables.owned rd level number granule table in
    waits_not s rd Rd (λ bad. cc) waits (sym (sound.realms.tagged rd) ∙ there owner.1)

-- the table of a page
page-table : (s : State) (rd level number granule : ℕ) (ripas : Ripas) → IsSound s → s.leaf rd level number ≡ Some (Assigned ripas granule)
    → (table : ℕ) × (s.table rd level (number / 512) ≡ Some table)
page-table s rd level number granule ripas sound is =
    some_value (s.table rd level (number / 512)) (sound.leaves.placed rd level number (Assigned ripas granule) is)

-- a realm is made: its RD and its root
realm_made-accounts : (s : State) (rd root width level vmid algo : ℕ) → IsSound s → CanMakeRealm s rd root width level vmid algo
    → Accounts s (changed s (RealmMade rd root width level vmid algo)) (claim rd Rd rd ∷ claim root Rtt rd ∷ []) []
unfolding changed
realm_made-accounts s rd root width level vmid algo sound can = record {
  opened = (
    (tag-has_tag s rd Delegated can.rd_tag, (refl, rw (eq-eqb rd rd refl) refl)),
    ((tag-has_tag s root Delegated can.root_tag, (level, 0, rw (spot_itself rd level 0) refl)), tt),
  );
  apart = ((can.apart, tt), (tt, tt));
  closed = tt;
  kept = keeps-kept s (changed s (RealmMade rd root width level vmid algo)) [] (record {
    realms = λ other some. kept_unless (λ (found : Option RealmRecord). is_some found ≡ true) (other == rd)
        (Some (new_realm root width level vmid algo)) (s.realm other) (inl some) (λ _. inl refl);
    recs = same-recs s [];
    tables = λ other l n granule is. kept_unless (λ (found : Option ℕ). found ≡ Some granule)
        (is_same_entry rd level 0 other l n) (Some root) (s.table other l n) (inl is)
        (λ hit. absurd (no_realm-table s rd l n granule sound can.rd_tag (rw (spot_parts rd level 0 other l n hit).0 at is)));
    pages = λ other l n granule ripas is. kept_unless (IsPage granule) (is_same_entry rd level 0 other l (n / 512))
        (Some (if nat_lt n 256 then Unassigned Empty else UnassignedNs)) (s.leaf other l n) (inl (ripas, is))
        (λ hit.
        let table = page-table s other l n granule ripas sound is in
        absurd (no_realm-table s rd l (n / 512) table.0 sound can.rd_tag
        (subst (λ o. s.table o l (n / 512) ≡ Some table.0) (spot_parts rd level 0 other l (n / 512) hit).0 table.1)));
  });
  unused = λ granule is elsewhere.
      rw (ne_eqb granule root (λ same. elsewhere.1.0 (sym same)), ne_eqb granule rd (λ same. elsewhere.0 (sym same))) is;
}

-- a realm is destroyed that has its root alone
realm_destroyed-accounts : (s : State) (rd root : ℕ) → IsSound s → CanDestroyRealm s rd root
    → Accounts s (changed s (RealmDestroyed rd root)) [] (claim rd Rd rd ∷ claim (roots_at s rd) Rtt rd ∷ [])
unfolding changed
realm_destroyed-accounts s rd root sound can =
    let realm = realm_at s rd in
    let is_there = realm_there s rd sound can.rd_tag in
    let closes : List Claim = claim rd Rd rd ∷ claim realm.root Rtt rd ∷ [] in
    let alone = λ (level number granule : ℕ) (is : s.table rd level number ≡ Some granule).
    unlinked-root s rd level number granule realm sound is_there can.unlinked is in
    record {
      opened = tt;
      apart = tt;
      closed = (
        (
          (refl, there is_there),
          choice_unused (rd == root) Delegated (if rd == rd then Delegated else s.tag rd) (inr refl) (tag_here rd Delegated (s.tag rd) (inr refl)),
        ),
        (((realm.start_level, 0, sound.tables.roots rd realm is_there), rw (eq-eqb realm.root root (sym can.is_root)) (inr refl)), tt),
      );
      kept = keeps-kept s (changed s (RealmDestroyed rd root)) closes (record {
        realms = λ other some. kept_unless (λ (found : Option RealmRecord). is_some found ≡ true) (other == rd) None (s.realm other) (inl some)
            (λ hit. inr (inl (ap (λ x. claim x Rd x) (sym (eqb-true other rd hit)))));
        recs = same-recs s closes;
        tables = λ other l n granule is. kept_unless (λ (found : Option ℕ). found ≡ Some granule) (other == rd) None (s.table other l n) (inl is)
            (λ hit.
            let here = eqb-true other rd hit in
            let of_root = alone l n granule (rw here at is) in
            inr (inr (inl (ap₂ (λ g r. claim g Rtt r) (sym of_root.1) (sym here)))));
        pages = λ other l n granule ripas is. kept_unless (IsPage granule) (other == rd) None (s.leaf other l n) (inl (ripas, is))
            (λ hit.
            let here = eqb-true other rd hit in
            let table = page-table s other l n granule ripas sound is in
            let of_root = alone l (n / 512) table.0 (subst (λ o. s.table o l (n / 512) ≡ Some table.0) here table.1) in
            let last = page-last s other l n granule ripas sound is in
            let first = (root_covers realm.width realm.start_level (sound.realms.spaces rd realm is_there)).0 in
            absurd (omega (arith, of_root.0, last, first)));
      });
      unused = λ granule is _. choice_unused (granule == root) Delegated (if granule == rd then Delegated else s.tag granule) (inr refl)
          (choice_unused (granule == rd) Delegated (s.tag granule) (inr refl) is);
    }

-- a REC is made, with its auxiliary granules
rec_made-accounts : (s : State) (rd rec mpidr flags aux0 aux1 : ℕ) → IsSound s → CanMakeRec s rd rec mpidr flags aux0 aux1
    → Accounts s (changed s (RecMade rd rec mpidr flags aux0 aux1)) (claim rec Rec rd ∷ claim aux0 RecAux rd ∷ claim aux1 RecAux rd ∷ []) []
unfolding changed
rec_made-accounts s rd rec mpidr flags aux0 aux1 sound can =
    let made = new_rec rd mpidr flags aux0 aux1 in
    let new = changed s (RecMade rd rec mpidr flags aux0 aux1) in
    let is : new.rec rec ≡ Some made = rw (eq-eqb rec rec refl) refl in
    record {
      opened = (
        (tag-has_tag s rec Delegated can.rec_tag, (made, is, refl)),
        (
          (tag-has_tag s aux0 Delegated can.aux0_tag, (rec, made, is, refl, inl refl)),
          ((tag-has_tag s aux1 Delegated can.aux1_tag, (rec, made, is, refl, inr refl)), tt),
        ),
      );
      apart = ((can.apart0, (can.apart1, tt)), ((can.apart, tt), (tt, tt)));
      closed = tt;
      kept = keeps-kept s new [] (record {
        realms = λ other some. kept_unless (λ (found : Option RealmRecord). is_some found ≡ true) (other == rd)
            (Some (realm_updated (realm_update.RecCounted mpidr flags) (realm_at s rd))) (s.realm other) (inl some) (λ _. inl refl);
        recs = λ other r found. kept_unless (IsRecLike r) (other == rec) (Some made) (s.rec other) (inl (r, found, refl, refl, refl))
            (λ hit.
            let here : s.rec rec ≡ Some r = ap s.rec (sym (eqb-true other rec hit)) ∙ found in
            absurd (waits_not s rec Rec (λ bad. cc) can.rec_tag (sym (sound.recs.tagged rec) ∙ there here)));
        tables = same-tables s [];
        pages = same-pages s [];
      });
      unused = λ granule unused elsewhere.
          rw (
            ne_eqb granule aux1 (λ same. elsewhere.1.1.0 (sym same)),
            ne_eqb granule aux0 (λ same. elsewhere.1.0 (sym same)),
            ne_eqb granule rec (λ same. elsewhere.0 (sym same)),
          ) unused;
    }

-- a REC is destroyed, with its auxiliary granules
rec_destroyed-accounts : (s : State) (rec aux0 aux1 : ℕ) → IsSound s → CanDestroyRec s rec aux0 aux1
    → Accounts s (changed s (RecDestroyed rec aux0 aux1)) []
    (claim rec Rec (rec_at s rec).owner ∷ claim (rec_at s rec).aux0 RecAux (rec_at s rec).owner
    ∷ claim (rec_at s rec).aux1 RecAux (rec_at s rec).owner ∷ [])
unfolding changed
rec_destroyed-accounts s rec aux0 aux1 sound can =
    let r = rec_at s rec in
    let is_there = rec_there s rec sound can.rec_tag in
    let closes : List Claim = claim rec Rec r.owner ∷ claim r.aux0 RecAux r.owner ∷ claim r.aux1 RecAux r.owner ∷ [] in
    let either = λ (g : ℕ) (y : Tag) (unused : IsUnused y). choice_unused (g == aux1) Delegated y (inr refl) unused in
    record {
      opened = tt;
      apart = tt;
      closed = (
        (
          (r, is_there, refl),
          either rec (if rec == aux0 then Delegated else if rec == rec then Delegated else s.tag rec) (choice_unused (rec == aux0) Delegated
              (if rec == rec then Delegated else s.tag rec) (inr refl) (tag_here rec Delegated (s.tag rec) (inr refl))),
        ),
        (
          (
            (rec, r, is_there, refl, inl refl),
            either r.aux0 (if r.aux0 == aux0 then Delegated else if r.aux0 == rec then Delegated else s.tag r.aux0)
                (rw (eq-eqb r.aux0 aux0 (sym can.is_aux0)) (inr refl)),
          ),
          (((rec, r, is_there, refl, inr refl), rw (eq-eqb r.aux1 aux1 (sym can.is_aux1)) (inr refl)), tt),
        ),
      );
      kept = keeps-kept s (changed s (RecDestroyed rec aux0 aux1)) closes (record {
        realms = same-realms s closes;
        recs = λ other q found. kept_unless (IsRecLike q) (other == rec) None (s.rec other) (inl (q, found, refl, refl, refl))
            (λ hit.
            let here = eqb-true other rec hit in
            let same : r ≡ q = same_value is_there (ap s.rec (sym here) ∙ found) in
            inr (
              inl (ap₂ (λ (g : ℕ) (x : RecRecord). claim g Rec x.owner) (sym here) same),
              inr (inl (ap (λ (x : RecRecord). claim x.aux0 RecAux x.owner) same)),
              inr (inr (inl (ap (λ (x : RecRecord). claim x.aux1 RecAux x.owner) same))),
            ));
        tables = same-tables s closes;
        pages = same-pages s closes;
      });
      unused = λ granule is _. choice_unused (granule == aux1) Delegated
          (if granule == aux0 then Delegated else if granule == rec then Delegated else s.tag granule) (inr refl)
          (choice_unused (granule == aux0) Delegated (if granule == rec then Delegated else s.tag granule)
          (inr refl) (choice_unused (granule == rec) Delegated (s.tag granule) (inr refl) is));
    }

-- where the entry above is no link there is no table
unlinked-absent : (s : State) (rd level number granule : ℕ) → 0 < level → level ≤ 3 → is_table (entry_at s rd (level - 1) number) ≡ false
    → s.table rd level number ≡ Some granule → ⊥
unlinked-absent s rd level number granule some within plain is =
    let next : level ≡ level - 1 + 1 = omega arith in
    both_ways (entry_at-table s rd (level - 1) number granule (omega arith) (subst (λ l. s.table rd l number ≡ Some granule) next is)) plain

-- a table is put in
table_made-accounts : (s : State) (rd level number rtt : ℕ) (entry : Entry) → IsSound s → CanMakeTable s rd level number rtt entry
    → Accounts s (changed s (TableMade rd level number rtt entry)) (claim rtt Rtt rd ∷ []) []
unfolding changed
table_made-accounts s rd level number rtt entry sound can =
    let below : 0 < level = (let start = can.below_root in omega arith) in
    let plain : is_table (entry_at s rd (level - 1) number) ≡ false = rw can.is_entry at can.leaf in
    let absent = λ (granule : ℕ). unlinked-absent s rd level number granule below can.place.last plain in
    record {
      opened = ((tag-has_tag s rtt Delegated can.rtt_tag, (level, number, rw (spot_itself rd level number) refl)), tt);
      apart = (tt, tt);
      closed = tt;
      kept = keeps-kept s (changed s (TableMade rd level number rtt entry)) [] (record {
        realms = same-realms s [];
        recs = same-recs s [];
        tables = λ other l n granule is. kept_unless (λ (found : Option ℕ). found ≡ Some granule)
            (is_same_entry rd level number other l n) (Some rtt) (s.table other l n) (inl is)
            (λ hit. let at_spot = spot_parts rd level number other l n hit in
            absurd (absent granule (moved s.table rd level number other l n at_spot ∙ is)));
        pages = λ other l n granule ripas is. kept_unless (IsPage granule) (is_same_entry rd level number other l (n / 512)) (Some entry)
            (if is_same_entry rd level number other (l + 1) n then None else s.leaf other l n)
            (kept_unless (IsPage granule) (is_same_entry rd level number other (l + 1) n) None (s.leaf other l n) (inl (ripas, is))
            (λ hit.
            let at_spot = spot_parts rd level number other (l + 1) n hit in
            let last = page-last s other l n granule ripas sound is in
            let within = can.place.last in
            absurd (omega (arith, at_spot.1, last, within))))
            (λ hit.
            let at_spot = spot_parts rd level number other l (n / 512) hit in
            let table = page-table s other l n granule ripas sound is in
            absurd (absent table.0 (moved s.table rd level number other l (n / 512) at_spot ∙ table.1)));
      });
      unused = λ granule is elsewhere. rw (ne_eqb granule rtt (λ same. elsewhere.0 (sym same))) is;
    }

-- a table is taken out that has no page
table_destroyed-accounts : (s : State) (rd level number rtt : ℕ) (entry : Entry) → IsSound s → CanDestroyTable s rd level number rtt entry
    → Accounts s (changed s (TableDestroyed rd level number rtt entry)) [] (claim rtt Rtt rd ∷ [])
unfolding changed
table_destroyed-accounts s rd level number rtt entry sound can =
    let closes : List Claim = claim rtt Rtt rd ∷ [] in
    record {
      opened = tt;
      apart = tt;
      closed = (((level, number, can.there), tag_here rtt Delegated (s.tag rtt) (inr refl)), tt);
      kept = keeps-kept s (changed s (TableDestroyed rd level number rtt entry)) closes (record {
        realms = same-realms s closes;
        recs = same-recs s closes;
        tables = λ other l n granule is. kept_unless (λ (found : Option ℕ). found ≡ Some granule)
            (is_same_entry rd level number other l n) None (s.table other l n) (inl is)
            (λ hit.
            let at_spot = spot_parts rd level number other l n hit in
            inr (inl (ap₂ (λ g r. claim g Rtt r) (same_value can.there (moved s.table rd level number other l n at_spot ∙ is)) (sym at_spot.0))));
        pages = λ other l n granule ripas is. kept_unless (IsPage granule) (is_same_entry rd level number other l (n / 512)) None
            (if is_same_entry rd level number other (l + 1) n then Some entry else s.leaf other l n)
            (kept_unless (IsPage granule) (is_same_entry rd level number other (l + 1) n) (Some entry) (s.leaf other l n) (inl (ripas, is))
            (λ hit.
            let at_spot = spot_parts rd level number other (l + 1) n hit in
            let last = page-last s other l n granule ripas sound is in
            let within = (sound.tables.owned rd level number rtt can.there).2.last in
            absurd (omega (arith, at_spot.1, last, within))))
            (λ hit.
            let at_spot = spot_parts rd level number other l (n / 512) hit in
            absurd (page-in_use s other l n granule ripas sound is (rw (at_spot.0, at_spot.1, at_spot.2) can.unused)));
      });
      unused = λ granule is _. choice_unused (granule == rtt) Delegated (s.tag granule) (inr refl) is;
    }

-- ---- records and entries

-- a tag that is unused when a page's tag is replaced is so when records are replaced too
records-unused : (s : State) (page : Option TagChange) (realm : Option RealmChange) (rec : Option RecChange) (granule : ℕ)
    → IsUnused ((with_tag_change s page).tag granule) → IsUnused ((with_records s page realm rec).tag granule)
records-unused s page realm rec granule unused = subst (λ (t : ℕ → Tag). IsUnused (t granule)) (sym (records-tag s page realm rec)) unused

-- records are replaced
records_changed-accounts : (s : State) (realm : Option RealmChange) (rec : Option RecChange) → Accounts s (with_records s None realm rec) [] []
records_changed-accounts s realm rec =
    stays-accounts s (with_records s None realm rec) (records-kept s None realm rec) (records-unused s None realm rec)

module _ (s : State) (sound : IsSound s) (realm : Option RealmChange) (rec : Option RecChange) (rd level number : ℕ) (entry : Entry) where
  -- the state with an entry replaced, and what goes with it
  abbrev pub replaced : Option TagChange → State
  replaced page = with_leaf (with_records s page realm rec) rd level number entry

  -- every tie stays but that of the entry
  replaced-kept : (page : Option TagChange) (closes : List Claim)
      → ((granule : ℕ) (ripas : Ripas) → entry_at s rd level number ≡ Assigned ripas granule → IsAmong (claim granule Data rd) closes)
      → (c : Claim) → IsKept s c → IsKept (replaced page) c ⊎ IsAmong c closes
  replaced-kept page closes old c tied =
      let mid = with_records s page realm rec in
      keeps-kept mid (replaced page) closes (record {
        realms = same-realms mid closes;
        recs = same-recs mid closes;
        tables = same-tables mid closes;
        pages = λ other l n granule ripas is. kept_unless (IsPage granule)
            (is_same_entry rd level number other l n) (Some entry) (mid.leaf other l n) (inl (ripas, is))
            (λ hit.
            let at_spot = spot_parts rd level number other l n hit in
            let was : s.leaf rd level number ≡ Some (Assigned ripas granule) =
            ap (λ (f : ℕ → ℕ → ℕ → Option Entry). f rd level number) (sym (records-leaf s page realm rec))
            ∙ (moved mid.leaf rd level number other l n at_spot ∙ is) in
            inr (rw at_spot.0 (old granule ripas (page-entry s rd level number granule ripas sound was))));
      }) c (records-kept s page realm rec c tied)

  -- an entry that is no page is replaced by one that is none
  plain-accounts : is_assigned (entry_at s rd level number) ≡ false → Accounts s (replaced None) [] []
  plain-accounts plain =
      stays-accounts s (replaced None)
      (λ c tied. elim (replaced-kept None [] (λ granule ripas is. both_ways (rw is refl) plain) c tied) [ inl still ↦ still | inr bad ↦ absurd bad ])
      (records-unused s None realm rec)

  -- a page is given
  given-accounts : (granule : ℕ) (ripas : Ripas)
      → IsTrue (has_tag s granule Delegated) → is_assigned (entry_at s rd level number) ≡ false → entry ≡ Assigned ripas granule
      → Accounts s (replaced (Some (record { granule = granule; tag = Data }))) (claim granule Data rd ∷ []) []
  given-accounts granule ripas waits plain is = record {
    opened = ((tag-has_tag s granule Delegated waits, (level, number, ripas, rw (spot_itself rd level number) (ap Some is))), tt);
    apart = (tt, tt);
    closed = tt;
    kept = replaced-kept (Some (record { granule = granule; tag = Data })) [] (λ other r page. both_ways (rw page refl) plain);
    unused = λ other unused elsewhere. records-unused s (Some (record { granule = granule; tag = Data })) realm rec other
        (rw (ne_eqb other granule (λ same. elsewhere.0 (sym same))) unused);
  }

  -- a page is taken back
  taken-accounts : (granule : ℕ) (ripas : Ripas) → entry_at s rd level number ≡ Assigned ripas granule
      → Accounts s (replaced (Some (record { granule = granule; tag = Delegated }))) [] (claim granule Data rd ∷ [])
  taken-accounts granule ripas is = record {
    opened = tt;
    apart = tt;
    closed = (
      (
        (level, number, ripas, entry-page s rd level number granule ripas is),
        records-unused s (Some (record { granule = granule; tag = Delegated })) realm rec granule
            (tag_here granule Delegated (s.tag granule) (inr refl)),
      ),
      tt,
    );
    kept = replaced-kept (Some (record { granule = granule; tag = Delegated })) (claim granule Data rd ∷ [])
        (λ other r page. inl (let both : Assigned ripas granule ≡ Assigned r other =
        sym is ∙ page in let same : granule ≡ other = cc in ap (λ g. claim g Data rd) same));
    unused = λ other unused _. records-unused s (Some (record { granule = granule; tag = Delegated })) realm rec other
        (choice_unused (other == granule) Delegated (s.tag other) (inr refl) unused);
  }

  -- an entry is replaced, with a page or without
  replaced-accounts : (page : Option TagChange)
      → GoesWith s rd level number entry page → Accounts s (replaced page) (of_page (page_opened rd) page) (of_page (page_closed rd) page)
  replaced-accounts None goes = plain-accounts goes.1
  replaced-accounts (Some page) (inl (waits, is_data, plain, (ripas, is))) =
      subst (λ t. Accounts s (replaced (Some (record { granule = page.granule; tag = t })))
      (page_opened rd page.granule t) (page_closed rd page.granule t))
      (sym is_data) (given-accounts page.granule ripas waits plain is)
  replaced-accounts (Some page) (inr (is_delegated, _, (ripas, is))) =
      subst (λ t. Accounts s (replaced (Some (record { granule = page.granule; tag = t })))
      (page_opened rd page.granule t) (page_closed rd page.granule t))
      (sym is_delegated) (taken-accounts page.granule ripas is)

-- the RIPAS of entries is set
ripas_set-accounts : (s : State) (realm : Option RealmChange) (rec : Option RecChange) (rd level first last : ℕ) (ripas : Ripas)
    → Accounts s (with_ripas (with_records s None realm rec) rd level first last ripas) [] []
ripas_set-accounts s realm rec rd level first last ripas =
    let mid = with_records s None realm rec in
    stays-accounts s (with_ripas mid rd level first last ripas)
    (λ c tied. keeps-all mid (with_ripas mid rd level first last ripas) (record {
      realms = same-realms mid [];
      recs = same-recs mid [];
      tables = same-tables mid [];
      pages = λ other l n granule old is. kept_unless (IsPage granule) (other == rd && l == level && nat_le first n && nat_lt n last)
          (option_map (entry_with_ripas ripas) (mid.leaf other l n)) (mid.leaf other l n)
          (inl (old, is)) (λ _. inl (ripas, ap (option_map (entry_with_ripas ripas)) is));
    }) c (records-kept s None realm rec c tied))
    (records-unused s None realm rec)

-- ---- each kind

pub change-accounts : (s : State) (change : Change) → IsSound s → CanApply s change
    → Accounts s (changed s change) (opened change) (closed (roots_at s) (recs_at s) change)
unfolding changed
change-accounts s Unchanged sound can = stays-accounts s s (λ c tied. tied) (λ granule unused. unused)
change-accounts s (Retagged change) sound can = retagged-accounts s change can
change-accounts s (RealmMade rd root width level vmid algo) sound can = realm_made-accounts s rd root width level vmid algo sound can
change-accounts s (RealmDestroyed rd root) sound can = realm_destroyed-accounts s rd root sound can
change-accounts s (RecMade rd rec mpidr flags aux0 aux1) sound can = rec_made-accounts s rd rec mpidr flags aux0 aux1 sound can
change-accounts s (RecDestroyed rec aux0 aux1) sound can = rec_destroyed-accounts s rec aux0 aux1 sound can
change-accounts s (RecordsChanged realm rec) sound can = records_changed-accounts s realm rec
change-accounts s (TableMade rd level number rtt entry) sound can = table_made-accounts s rd level number rtt entry sound can
change-accounts s (TableDestroyed rd level number rtt entry) sound can = table_destroyed-accounts s rd level number rtt entry sound can
change-accounts s (EntriesChanged rd level (Replaced number entry) page realm rec) sound can =
    replaced-accounts s sound realm rec rd level number entry page can.1.1
change-accounts s (EntriesChanged rd level (RipasSet first last ripas) None realm rec) sound can =
    ripas_set-accounts s realm rec rd level first last ripas
change-accounts s (EntriesChanged rd level (RipasSet first last ripas) (Some page) realm rec) sound can =
    absurd (let bad : Some page ≡ None = can.1.1 in cc)
