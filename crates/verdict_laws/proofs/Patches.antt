-- Changes of one realm's record, tables and leaves, and of one tag, as functions of each alone. Two that have nothing in common exchange.
use Rattle.verdict_laws.proofs.Common.{◌≡◌, ℕ, ◌+◌, ◌==◌, Bool, true, false, ◌&&◌, if◌then◌else◌, Option, Some, None, refl, sym, ◌∙◌, ap, eqb-true, unwrap_or, Change, Unchanged, Retagged, RecordsChanged, TableMade, TableDestroyed, EntriesChanged, Replaced, RipasSet, RealmChange, TagChange, Entry, Tag, Delegated, Rtt, State, RealmRecord, changed, realm_updated, with_tag_change, with_realm_change, no_realm, realm_at, both_ways}
use Rattle.std.proofs.Common.{◌/◌}
use Rattle.std.specs.Prelude.{nat_le, nat_lt, option_map}
use Rattle.rmm_spec.specs.declared.change.EntryChange.{EntryChange}
use Rattle.rmm_spec.specs.Update.{is_same_entry, is_same_table, entry_with_ripas}
use Rattle.rmm_spec.specs.Change.{with_entry_change}

-- ---- patches

-- what is put in the place of each granule's tag, and of each realm's record, tables and leaves
pub record Patch : Type 0 where
  pub tag : ℕ → Tag → Tag
  pub realm : ℕ → Option RealmRecord → Option RealmRecord
  pub table : ℕ → (ℕ → ℕ → Option ℕ) → ℕ → ℕ → Option ℕ
  pub leaf : ℕ → (ℕ → ℕ → Option Entry) → ℕ → ℕ → Option Entry

-- the state with all of it put
abbrev pub patched : State → Patch → State
patched s p = record s {
  tag = λ g. p.tag g (s.tag g);
  realm = λ rd. p.realm rd (s.realm rd);
  table = λ rd. p.table rd (s.table rd);
  leaf = λ rd. p.leaf rd (s.leaf rd);
}

-- each value stays where a test doesn't pass
abbrev pub Keeps : {A : Type 0} → (ℕ → Bool) → (ℕ → A → A) → Type 0
Keeps {A} test put = (n : ℕ) → test n ≡ false → (old : A) → put n old ≡ old

-- The patch puts tags of some granules, and what is of some realms.
pub record IsWithin (granules realms : ℕ → Bool) (p : Patch) : Type 0 where
  pub tag : Keeps granules p.tag
  pub realm : Keeps realms p.realm
  pub table : Keeps realms p.table
  pub leaf : Keeps realms p.leaf

-- nothing passes both tests
abbrev pub AreDisjoint : (ℕ → Bool) → (ℕ → Bool) → Type 0
AreDisjoint mine yours = (n : ℕ) → mine n ≡ true → yours n ≡ false

-- what is put by the one and by the other may be put either way round
pub put-swapped : {A : Type 0} (mine yours : ℕ → Bool) (first second : ℕ → A → A) → Keeps mine first → Keeps yours second → AreDisjoint mine yours
    → (n : ℕ) (old : A) → second n (first n old) ≡ first n (second n old)
put-swapped {A} mine yours first second keeps keeps_too apart n old = by (mine n) refl
  where
    by : (b : Bool) → mine n ≡ b → second n (first n old) ≡ first n (second n old)
    by true is = keeps_too n (apart n is) (first n old) ∙ (λ i. first n (sym (keeps_too n (apart n is) old) i))
    by false is = (λ i. second n (keeps n is old i)) ∙ sym (keeps n is (second n old))

-- two patches within other granules and realms may come either way round
pub patched-swapped : (s : State) (granules granules_too realms realms_too : ℕ → Bool) (p q : Patch)
    → IsWithin granules realms p → IsWithin granules_too realms_too q → AreDisjoint granules granules_too → AreDisjoint realms realms_too
    → patched (patched s p) q ≡ patched (patched s q) p
patched-swapped s granules granules_too realms realms_too p q one two apart others = λ i. record s {
  tag = λ g. put-swapped granules granules_too p.tag q.tag one.tag two.tag apart g (s.tag g) i;
  realm = λ rd. put-swapped realms realms_too p.realm q.realm one.realm two.realm others rd (s.realm rd) i;
  table = λ rd. put-swapped realms realms_too p.table q.table one.table two.table others rd (s.table rd) i;
  leaf = λ rd. put-swapped realms realms_too p.leaf q.leaf one.leaf two.leaf others rd (s.leaf rd) i;
}

-- ---- changes as patches

-- the tag that is put, if one is
abbrev pub tag_of_change : Change → Option TagChange
tag_of_change (Retagged change) = Some change
tag_of_change (TableMade rd level number rtt entry) = Some (record { granule = rtt; tag = Rtt })
tag_of_change (TableDestroyed rd level number rtt entry) = Some (record { granule = rtt; tag = Delegated })
tag_of_change (EntriesChanged rd level entries page realm rec) = page
tag_of_change _ = None

-- the realm's record that is replaced, if one is
abbrev pub realm_of_change : Change → Option RealmChange
realm_of_change (RecordsChanged realm rec) = realm
realm_of_change (EntriesChanged rd level entries page realm rec) = realm
realm_of_change _ = None

-- a tag is put
abbrev pub put_tag : Option TagChange → ℕ → Tag → Tag
put_tag None g old = old
put_tag (Some change) g old = if g == change.granule then change.tag else old

-- a realm's record is replaced
abbrev pub put_realm : Option RealmChange → ℕ → Option RealmRecord → Option RealmRecord
put_realm None rd old = old
put_realm (Some change) rd old = if rd == change.rd then Some (realm_updated change.update (unwrap_or old no_realm)) else old

-- a table is put in or taken out
abbrev pub put_table : Change → ℕ → (ℕ → ℕ → Option ℕ) → ℕ → ℕ → Option ℕ
put_table (TableMade rd level number rtt entry) other old l n = if is_same_table rd level number other l n then Some rtt else old l n
put_table (TableDestroyed rd level number rtt entry) other old l n = if is_same_table rd level number other l n then None else old l n
put_table _ other old l n = old l n

-- entries of a table are changed
abbrev put_entries : ℕ → ℕ → EntryChange → ℕ → (ℕ → ℕ → Option Entry) → ℕ → ℕ → Option Entry
put_entries rd level (Replaced number entry) other old l n = if is_same_entry rd level number other l n then Some entry else old l n
put_entries rd level (RipasSet first last ripas) other old l n =
    if other == rd && l == level && nat_le first n && nat_lt n last then option_map (entry_with_ripas ripas) (old l n) else old l n

-- leaves are put in, taken out or changed
abbrev put_leaf : Change → ℕ → (ℕ → ℕ → Option Entry) → ℕ → ℕ → Option Entry
put_leaf (TableMade rd level number rtt entry) other old l n =
    if is_same_table rd level number other l (n / 512) then Some entry
    else (if is_same_entry rd level number other (l + 1) n then None else old l n)
put_leaf (TableDestroyed rd level number rtt entry) other old l n =
    if is_same_table rd level number other l (n / 512) then None
    else (if is_same_entry rd level number other (l + 1) n then Some entry else old l n)
put_leaf (EntriesChanged rd level entries page realm rec) other old l n = put_entries rd level entries other old l n
put_leaf _ other old l n = old l n

-- what a change puts, where it puts no more than that
abbrev pub patch_of : Change → Patch
patch_of change = record {
  tag = put_tag (tag_of_change change);
  realm = put_realm (realm_of_change change);
  table = put_table change;
  leaf = put_leaf change;
}

-- the realm's record that is replaced, if one is, is this realm's
abbrev IsRecordOf : Option ℕ → Option RealmChange → Type 0
IsRecordOf own None = Unit {0}
IsRecordOf own (Some change) = own ≡ Some change.rd

-- the change is of this realm's record, tables and leaves, if of any, and of tags
abbrev pub IsChangeOf : Option ℕ → Change → Type 0
IsChangeOf own Unchanged = Unit {0}
IsChangeOf own (Retagged change) = Unit {0}
IsChangeOf own (RecordsChanged realm None) = IsRecordOf own realm
IsChangeOf own (TableMade rd level number rtt entry) = own ≡ Some rd
IsChangeOf own (TableDestroyed rd level number rtt entry) = own ≡ Some rd
IsChangeOf own (EntriesChanged rd level entries page realm None) = (own ≡ Some rd) × IsRecordOf own realm
IsChangeOf own _ = ⊥

-- a record is replaced by what the realm's own record becomes
pub realm_change-patched : (s : State) (change : Option RealmChange)
    → with_realm_change s change ≡ record s { realm = λ rd. put_realm change rd (s.realm rd) }
unfolding realm_at
realm_change-patched s None = refl
realm_change-patched s (Some change) = λ i. record s { realm = λ rd. at rd (rd == change.rd) refl i }
  where
    new : Option RealmRecord → Option RealmRecord
    new old = Some (realm_updated change.update (unwrap_or old no_realm))

    at : (rd : ℕ) (b : Bool) → (rd == change.rd) ≡ b
        → (if rd == change.rd then new (s.realm change.rd) else s.realm rd) ≡ (if rd == change.rd then new (s.realm rd) else s.realm rd)
    at rd true is = λ i. if rd == change.rd then new (s.realm (sym (eqb-true rd change.rd is) i)) else s.realm rd
    at rd false is = rw is refl

-- a tag that is put, and a record behind it
page-patched : (s : State) (page : Option TagChange) (realm : Option RealmChange)
    → with_realm_change (with_tag_change s page) realm
    ≡ record s { tag = λ g. put_tag page g (s.tag g); realm = λ rd. put_realm realm rd (s.realm rd) }
page-patched s None realm = realm_change-patched s realm
page-patched s (Some page) realm = realm_change-patched (with_tag_change s (Some page)) realm

-- entries that are changed
entries-patched : (s : State) (rd level : ℕ) (change : EntryChange)
    → with_entry_change s rd level change ≡ record s { leaf = λ other. put_entries rd level change other (s.leaf other) }
entries-patched s rd level (Replaced number entry) = refl
entries-patched s rd level (RipasSet first last ripas) = refl

-- such a change puts what its patch says
pub changed-patched : (s : State) (own : Option ℕ) (change : Change) → IsChangeOf own change → changed s change ≡ patched s (patch_of change)
unfolding changed
changed-patched s own Unchanged is = refl
changed-patched s own (Retagged change) is = refl
changed-patched s own (RecordsChanged realm None) is = realm_change-patched s realm
changed-patched s own (RecordsChanged realm (Some rec)) is = absurd is
changed-patched s own (TableMade rd level number rtt entry) is = refl
changed-patched s own (TableDestroyed rd level number rtt entry) is = refl
changed-patched s own (EntriesChanged rd level entries page realm None) is =
    (λ i. with_entry_change (page-patched s page realm i) rd level entries)
    ∙ entries-patched (record s { tag = λ g. put_tag page g (s.tag g); realm = λ other. put_realm realm other (s.realm other) }) rd level entries
changed-patched s own (EntriesChanged rd level entries page realm (Some rec)) is = absurd is
changed-patched s own _ is = absurd is

-- ---- what a change leaves

-- whether it is this realm
abbrev pub is_own : Option ℕ → ℕ → Bool
is_own None other = false
is_own (Some rd) other = other == rd

-- the tag that is put, if one is, is of one of these granules
abbrev pub IsTagOf : (ℕ → Bool) → Option TagChange → Type 0
IsTagOf granules None = Unit {0}
IsTagOf granules (Some change) = granules change.granule ≡ true

-- other tags stay
pub put_tag-keeps : (granules : ℕ → Bool) (change : Option TagChange) → IsTagOf granules change → Keeps granules (put_tag change)
put_tag-keeps granules None is g other old = refl
put_tag-keeps granules (Some change) is g other old = by (g == change.granule) refl
  where
    by : (b : Bool) → (g == change.granule) ≡ b → (if g == change.granule then change.tag else old) ≡ old
    by true same = both_ways is ((λ i. granules (sym (eqb-true g change.granule same) i)) ∙ other)
    by false same = rw same refl

-- another realm's address
pub other_realm : (own : Option ℕ) (rd other : ℕ) → own ≡ Some rd → is_own own other ≡ false → (other == rd) ≡ false
other_realm own rd other is apart = (λ i. is_own (sym is i) other) ∙ apart

-- other records stay
pub put_realm-keeps : (own : Option ℕ) (change : Option RealmChange) → IsRecordOf own change → Keeps (is_own own) (put_realm change)
put_realm-keeps own None is rd apart old = refl
put_realm-keeps own (Some change) is rd apart old = rw (other_realm own change.rd rd is apart) refl

-- the record that such a change replaces, if one, is the realm's
record_of_change : (own : Option ℕ) (change : Change) → IsChangeOf own change → IsRecordOf own (realm_of_change change)
record_of_change own Unchanged is = tt
record_of_change own (Retagged change) is = tt
record_of_change own (RecordsChanged realm None) is = is
record_of_change own (RecordsChanged realm (Some rec)) is = absurd is
record_of_change own (TableMade rd level number rtt entry) is = tt
record_of_change own (TableDestroyed rd level number rtt entry) is = tt
record_of_change own (EntriesChanged rd level entries page realm None) is = is.1
record_of_change own (EntriesChanged rd level entries page realm (Some rec)) is = absurd is
record_of_change own _ is = absurd is

-- the tables of other realms stay
pub put_table-keeps : (own : Option ℕ) (change : Change) → IsChangeOf own change → Keeps (is_own own) (put_table change)
put_table-keeps own (TableMade rd level number rtt entry) is other apart old =
    ap (λ (b : Bool). λ l n. if b && l == level && n == number then Some rtt else old l n) (other_realm own rd other is apart)
put_table-keeps own (TableDestroyed rd level number rtt entry) is other apart old =
    ap (λ (b : Bool). λ l n. if b && l == level && n == number then None else old l n) (other_realm own rd other is apart)
put_table-keeps own _ is other apart old = refl

-- so do their entries
put_entries-keeps : (own : Option ℕ) (rd level : ℕ) (change : EntryChange) → own ≡ Some rd → Keeps (is_own own) (put_entries rd level change)
put_entries-keeps own rd level (Replaced number entry) is other apart old =
    ap (λ (b : Bool). λ l n. if b && l == level && n == number then Some entry else old l n) (other_realm own rd other is apart)
put_entries-keeps own rd level (RipasSet first last ripas) is other apart old =
    ap (λ (b : Bool). λ l n. if b && l == level && nat_le first n && nat_lt n last then option_map (entry_with_ripas ripas) (old l n) else old l n)
    (other_realm own rd other is apart)

-- and all their leaves
put_leaf-keeps : (own : Option ℕ) (change : Change) → IsChangeOf own change → Keeps (is_own own) (put_leaf change)
put_leaf-keeps own (TableMade rd level number rtt entry) is other apart old =
    ap (λ (b : Bool). λ l n. if b && l == level && n / 512 == number then Some entry
    else (if b && l + 1 == level && n == number then None else old l n)) (other_realm own rd other is apart)
put_leaf-keeps own (TableDestroyed rd level number rtt entry) is other apart old =
    ap (λ (b : Bool). λ l n. if b && l == level && n / 512 == number then None
    else (if b && l + 1 == level && n == number then Some entry else old l n)) (other_realm own rd other is apart)
put_leaf-keeps own (EntriesChanged rd level entries page realm None) is other apart old = put_entries-keeps own rd level entries is.0 other apart old
put_leaf-keeps own (EntriesChanged rd level entries page realm (Some rec)) is other apart old = absurd is
put_leaf-keeps own _ is other apart old = refl

-- so the patch of such a change is within the realm, and the granule whose tag is put
pub patch_of-within : (granules : ℕ → Bool) (own : Option ℕ) (change : Change) → IsTagOf granules (tag_of_change change) → IsChangeOf own change
    → IsWithin granules (is_own own) (patch_of change)
patch_of-within granules own change tag is = record {
  tag = put_tag-keeps granules (tag_of_change change) tag;
  realm = put_realm-keeps own (realm_of_change change) (record_of_change own change is);
  table = put_table-keeps own change is;
  leaf = put_leaf-keeps own change is;
}
