-- A change may be made before or after the granules that aren't live are masked.
use Rattle.verdict_laws.proofs.Common.{◌≡◌, ℕ, ◌*◌, ◌==◌, ◌||◌, Bool, true, false, if◌then◌else◌, Option, Some, None, inl, inr, refl, sym, ◌∙◌, ap, eq-eqb, eqb-true, false_from_ne_true, ne_eqb, Change, Unchanged, Retagged, RealmMade, RealmDestroyed, RecMade, RecDestroyed, RecordsChanged, TableMade, TableDestroyed, EntriesChanged, Replaced, RipasSet, RealmChange, RecChange, TagChange, Entry, Tag, Delegated, Rd, Rec, changed, with_realm_change, with_rec_change, with_tag_change, Config, has_rec, is_vmid_used, realm_at, rec_at, IsSound, RealmRecord, RecRecord, State, opening, both_ways, unused_tag}
use Rattle.std.proofs.Common.{◌/◌}
use Rattle.rmm_spec.specs.declared.change.EntryChange.{EntryChange}
use Rattle.rmm_spec.specs.Change.{with_entry_change}
use Rattle.rmm_spec.specs.Lookup.{any_below, has_vmid, is_owned_by}
use Rattle.lemmas.proofs.Tests.{either, keys_apart}
use Rattle.rmm_laws.proofs.Searches.{none_has_vmid}
use Rattle.rmm_laws.proofs.Tests.{there}
use Rattle.rmm_laws.proofs.Ties.{IsUnused, tied-used}
use Rattle.verdict_laws.proofs.SliceTerms.{IsPut, IsRealmPut, IsRecPut, IsTagPut, masked}
use Rattle.lemmas.proofs.Options.{some_value}

-- ---- granules one by one

-- What a state has at one granule.
record Found : Type 0 where
  pub tag : Tag
  pub realm : Option RealmRecord
  pub rec : Option RecRecord
  pub table : ℕ → ℕ → Option ℕ
  pub leaf : ℕ → ℕ → Option Entry

abbrev found : State → ℕ → Found
found s g = record { tag = s.tag g; realm = s.realm g; rec = s.rec g; table = λ level n. s.table g level n; leaf = λ level n. s.leaf g level n }

-- where nothing is
abbrev nothing : Bool → Found
nothing lent = record { tag = unused_tag lent; realm = None; rec = None; table = λ _ _. None; leaf = λ _ _. None }

-- the mask leaves what is at a live granule
masked-live : (live lent : ℕ → Bool) (s : State) (g : ℕ) → live g ≡ true → found s g ≡ found (masked live lent s) g
masked-live live lent s g on = rw on refl

-- and nothing at another
masked-nothing : (live lent : ℕ → Bool) (s : State) (g : ℕ) → live g ≡ false → nothing (lent g) ≡ found (masked live lent s) g
masked-nothing live lent s g off = rw off refl

-- a state is another one behind the mask: it has the same at live granules, and nothing at others
masked-is : (live lent : ℕ → Bool) (s t : State) → s.config ≡ t.config → ((g : ℕ) → live g ≡ true → found s g ≡ found t g)
    → ((g : ℕ) → live g ≡ false → nothing (lent g) ≡ found t g) → masked live lent s ≡ t
masked-is live lent s t same on off = λ i. record {
  config = same i;
  tag = λ g. (at g (live g) refl i).tag;
  realm = λ g. (at g (live g) refl i).realm;
  rec = λ g. (at g (live g) refl i).rec;
  table = λ g. (at g (live g) refl i).table;
  leaf = λ g. (at g (live g) refl i).leaf;
}
  where
    at : (g : ℕ) (b : Bool) → live g ≡ b → found (masked live lent s) g ≡ found t g
    at g true is = sym (masked-live live lent s g is) ∙ on g is
    at g false is = sym (masked-nothing live lent s g is) ∙ off g is

-- ---- updates

-- the granule is none of those that the test has so
abbrev IsApart : (ℕ → Bool) → Bool → ℕ → Type 0
IsApart live is g = (x : ℕ) → live x ≡ is → (g == x) ≡ false

-- one that it doesn't have so
apart : (live : ℕ → Bool) (is : Bool) (g : ℕ) → (live g ≡ is → ⊥) → IsApart live is g
apart live is g other x put = false_from_ne_true (g == x) (λ same. other (ap live (eqb-true g x same) ∙ put))

-- an update of live granules is made behind the mask, and one of others isn't
abbrev behind : Bool → (State → State) → State → State
behind true update s = update s
behind false update s = s

abbrev Fits : (ℕ → Bool) → (ℕ → Bool) → Bool → (State → State) → Type 0
Fits live lent is update = (s : State) → masked live lent (update s) ≡ behind is update (masked live lent s)

-- such is an update that leaves what is apart, and puts at a live granule by what is at live ones
fits : (live lent : ℕ → Bool) (is : Bool) (update : State → State) → ((s : State) → (update s).config ≡ s.config)
    → ((s : State) (g : ℕ) → IsApart live is g → found (update s) g ≡ found s g)
    → ((s : State) (g : ℕ) → is ≡ true → live g ≡ true → found (update s) g ≡ found (update (masked live lent s)) g) → Fits live lent is update
fits live lent true update config elsewhere here s =
    let m = masked live lent s in
    masked-is live lent (update s) (update m) (config s ∙ sym (config m)) (λ g on. here s g refl on)
    (λ g off. masked-nothing live lent s g off ∙ sym (elsewhere m g (apart live true g (λ on. both_ways on off))))
fits live lent false update config elsewhere here s =
    masked-is live lent (update s) (masked live lent s) (config s)
    (λ g on. elsewhere s g (apart live false g (λ off. both_ways on off)) ∙ masked-live live lent s g on) (masked-nothing live lent s)

-- nothing is put
same-fits : (live lent : ℕ → Bool) (is : Bool) → Fits live lent is (λ s. s)
same-fits live lent true s = refl
same-fits live lent false s = refl

-- one after another
both-fit : (live lent : ℕ → Bool) (is : Bool) (one two : State → State) → Fits live lent is one → Fits live lent is two
    → Fits live lent is (λ s. two (one s))
both-fit live lent true one two first second s = second (one s) ∙ ap two (first s)
both-fit live lent false one two first second s = second (one s) ∙ first s

-- a page's tag
tag_change-fits : (live lent : ℕ → Bool) (is : Bool) (change : Option TagChange) → IsTagPut live is change
    → Fits live lent is (λ s. with_tag_change s change)
tag_change-fits live lent is None put = same-fits live lent is
tag_change-fits live lent is (Some change) put =
    fits _ _ _ _ (λ s. refl) (λ s g other. rw (other change.granule put) refl) (λ s g on here. rw here refl)

-- a realm's record
realm_change-fits : (live lent : ℕ → Bool) (is : Bool) (change : Option RealmChange) → IsRealmPut live is change
    → Fits live lent is (λ s. with_realm_change s change)
unfolding realm_at
realm_change-fits live lent is None put = same-fits live lent is
realm_change-fits live lent is (Some change) put =
    fits _ _ _ _ (λ s. refl) (λ s g other. rw (other change.rd put) refl) (λ s g on here. rw (here, put ∙ on) refl)

-- a REC's record
rec_change-fits : (live lent : ℕ → Bool) (is : Bool) (change : Option RecChange) → IsRecPut live is change
    → Fits live lent is (λ s. with_rec_change s change)
unfolding rec_at
rec_change-fits live lent is None put = same-fits live lent is
rec_change-fits live lent is (Some change) put =
    fits _ _ _ _ (λ s. refl) (λ s g other. rw (other change.rec put) refl) (λ s g on here. rw (here, put ∙ on) refl)

-- both records
records-fit : (live lent : ℕ → Bool) (is : Bool) (realm : Option RealmChange) (rec : Option RecChange) → IsRealmPut live is realm
    → IsRecPut live is rec → Fits live lent is (λ s. with_rec_change (with_realm_change s realm) rec)
records-fit live lent is realm rec put put_too =
    both-fit _ _ is _ _ (realm_change-fits live lent is realm put) (rec_change-fits live lent is rec put_too)

-- entries
entry_change-fits : (live lent : ℕ → Bool) (is : Bool) (rd level : ℕ) (change : EntryChange) → live rd ≡ is
    → Fits live lent is (λ s. with_entry_change s rd level change)
entry_change-fits live lent is rd level (Replaced number entry) put =
    fits _ _ _ _ (λ s. refl) (λ s g other. rw (other rd put) refl) (λ s g on here. rw here refl)
entry_change-fits live lent is rd level (RipasSet first last ripas) put =
    fits _ _ _ _ (λ s. refl) (λ s g other. rw (other rd put) refl) (λ s g on here. rw here refl)

-- a change of each kind
changed-fits : (live lent : ℕ → Bool) (is : Bool) (change : Change) → IsPut live is change → Fits live lent is (λ s. changed s change)
unfolding changed realm_at
changed-fits live lent is Unchanged put = same-fits live lent is
changed-fits live lent is (Retagged change) put = tag_change-fits live lent is (Some change) put
changed-fits live lent is (RealmMade rd root width level vmid algo) put =
    fits _ _ _ _ (λ s. refl) (λ s g other. rw (other rd put.0, other root put.1) refl) (λ s g on here. rw here refl)
changed-fits live lent is (RealmDestroyed rd root) put =
    fits _ _ _ _ (λ s. refl) (λ s g other. rw (other rd put.0, other root put.1) refl) (λ s g on here. rw here refl)
changed-fits live lent is (RecMade rd rec mpidr flags aux0 aux1) put =
    fits _ _ _ _ (λ s. refl) (λ s g other. rw (other rd put.0, other rec put.1, other aux0 put.2, other aux1 put.3) refl)
    (λ s g on here. rw (here, put.0 ∙ on) refl)
changed-fits live lent is (RecDestroyed rec aux0 aux1) put =
    fits _ _ _ _ (λ s. refl) (λ s g other. rw (other rec put.0, other aux0 put.1, other aux1 put.2) refl) (λ s g on here. rw here refl)
changed-fits live lent is (RecordsChanged realm rec) put = records-fit live lent is realm rec put.0 put.1
changed-fits live lent is (TableMade rd level number rtt entry) put =
    fits _ _ _ _ (λ s. refl) (λ s g other. rw (other rd put.0, other rtt put.1) refl) (λ s g on here. rw here refl)
changed-fits live lent is (TableDestroyed rd level number rtt entry) put =
    fits _ _ _ _ (λ s. refl) (λ s g other. rw (other rd put.0, other rtt put.1) refl) (λ s g on here. rw here refl)
changed-fits live lent is (EntriesChanged rd level entries page realm rec) put =
    both-fit _ _ is _ _ (both-fit _ _ is _ _ (tag_change-fits live lent is page put.1) (records-fit live lent is realm rec put.2 put.3))
    (entry_change-fits live lent is rd level entries put.0)

-- ---- changes

-- a change of live granules is made behind the mask as before it
pub changed-masked : (live lent : ℕ → Bool) (s : State) (change : Change) → IsPut live true change
    → changed (masked live lent s) change ≡ masked live lent (changed s change)
changed-masked live lent s change put = sym (changed-fits live lent true change put s)

-- a change of others isn't seen behind it
pub masked-changed : (live lent : ℕ → Bool) (s : State) (change : Change) → IsPut live false change
    → masked live lent (changed s change) ≡ masked live lent s
masked-changed live lent s change put = changed-fits live lent false change put s

-- one more granule is lent
pub masked-lent : (live lent : ℕ → Bool) (s : State) (granule : ℕ) → live granule ≡ false
    → changed (masked live lent s) (Retagged (record { granule = granule; tag = Delegated })) ≡ masked live (λ g. granule == g || lent g) s
unfolding changed
masked-lent live lent s granule other = λ i. record (masked live lent s) { tag = λ g. at g (granule == g) refl i }
  where
    at : (g : ℕ) (b : Bool) → (granule == g) ≡ b → (if g == granule then Delegated else (if live g then s.tag g else unused_tag (lent g)))
        ≡ (if live g then s.tag g else unused_tag (b || lent g))
    at g true same = let here = eqb-true granule g same in rw (eq-eqb g granule (sym here), ← here, other) refl
    at g false differ = rw (ne_eqb g granule (λ same. keys_apart granule g differ (sym same))) refl

-- in the opening everything is masked already
pub masked-opening : (config : Config) → masked (λ _. false) (λ _. false) (opening config) ≡ opening config
unfolding opening
masked-opening config = refl

-- ---- soundness

-- an unused tag is one
unused_tag-unused : (lent : Bool) → IsUnused (unused_tag lent)
unused_tag-unused true = inr refl
unused_tag-unused false = inl refl

-- nothing is at an unused granule
unused-nothing : (s : State) (g : ℕ) (lent : Bool) → IsSound s → s.tag g ≡ unused_tag lent → found s g ≡ nothing lent
unused-nothing s g lent sound is = λ i. record {
  tag = is i;
  realm = none (s.realm g) no_realm i;
  rec = none (s.rec g) (λ r at. tied-used s Rec g r.owner sound (r, at, refl) unused) i;
  table = λ level n. none (s.table g level n) (no_table level n) i;
  leaf = λ level n. none (s.leaf g level n) (no_leaf level n) i;
}
  where
    none : {A : Type 0} (o : Option A) → ((x : A) → o ≡ Some x → ⊥) → o ≡ None
    none None never = refl
    none (Some x) never = absurd (never x refl)

    unused : IsUnused (s.tag g)
    unused = rw is (unused_tag-unused lent)

    no_realm : (r : RealmRecord) → s.realm g ≡ Some r → ⊥
    no_realm r at = tied-used s Rd g g sound (refl, there at) unused

    no_table : (level n t : ℕ) → s.table g level n ≡ Some t → ⊥
    no_table level n t at = let owner = sound.tables.owned g level n t at in no_realm owner.0 owner.1

    no_leaf : (level n : ℕ) (e : Entry) → s.leaf g level n ≡ Some e → ⊥
    no_leaf level n e at =
        let above = some_value (s.table g level (n / 512)) (sound.leaves.placed g level n e at) in no_table level (n / 512) above.0 above.1

-- more granules may be live that are unused as the mask has them
pub masked-grown : (live more lent : ℕ → Bool) (s : State) → IsSound s
    → ((g : ℕ) → more g ≡ true → live g ≡ false → s.tag g ≡ unused_tag (lent g))
    → masked (λ g. more g || live g) lent s ≡ masked live lent s
masked-grown live more lent s sound unused = masked-is (λ g. more g || live g) lent s (masked live lent s) refl
    (λ g on. by g (more g) (live g) refl refl on) (λ g off. masked-nothing live lent s g (either (more g) (live g) off).1)
  where
    by : (g : ℕ) (b c : Bool) → more g ≡ b → live g ≡ c → (b || c) ≡ true → found s g ≡ found (masked live lent s) g
    by g b true is on any = masked-live live lent s g on
    by g true false is off any = unused-nothing s g (lent g) sound (unused g is off) ∙ masked-nothing live lent s g off
    by g false false is off any = both_ways any refl

-- ---- searches

-- where all that passes is live, a search finds behind the mask what it finds before it
search-masked : {A : Type 0} (live : ℕ → Bool) (n : ℕ) (at : ℕ → Option A) (passes : Option A → Bool) → passes None ≡ false
    → ((g : ℕ) → passes (at g) ≡ true → live g ≡ true)
    → any_below n (λ k. passes (if live (k * 4096) then at (k * 4096) else None)) ≡ any_below n (λ k. passes (at (k * 4096)))
search-masked live n at passes none lives = λ i. any_below n (λ k. same (k * 4096) (live (k * 4096)) refl i)
  where
    same : (g : ℕ) (b : Bool) → live g ≡ b → passes (if b then at g else None) ≡ passes (at g)
    same g true on = refl
    same g false off = none ∙ sym (false_from_ne_true (passes (at g)) (λ is. both_ways (lives g is) off))

-- a VMID that isn't used isn't behind the mask
pub vmid-masked : (live lent : ℕ → Bool) (s : State) (vmid : ℕ) → IsSound s → is_vmid_used s vmid ≡ false
    → is_vmid_used (masked live lent s) vmid ≡ is_vmid_used s vmid
unfolding is_vmid_used
vmid-masked live lent s vmid sound unused = search-masked live s.config.granules s.realm (has_vmid vmid) refl
    (λ g is. both_ways is (none_has_vmid s vmid sound unused g))

-- a live realm has RECs behind it where it has some, if each REC of a live realm is live
pub has_rec-masked : (live lent : ℕ → Bool) (s : State) (rd : ℕ) → live rd ≡ true
    → ((g : ℕ) (rec : RecRecord) → s.rec g ≡ Some rec → live rec.owner ≡ true → live g ≡ true)
    → has_rec (masked live lent s) rd ≡ has_rec s rd
unfolding has_rec
has_rec-masked live lent s rd is have =
    search-masked live s.config.granules s.rec (is_owned_by rd) refl (λ g. by g (s.rec g) refl)
  where
    by : (g : ℕ) (o : Option RecRecord) → s.rec g ≡ o → is_owned_by rd o ≡ true → live g ≡ true
    by g None there owns = both_ways owns refl
    by g (Some rec) there owns = have g rec there (ap live (eqb-true rec.owner rd owns) ∙ is)
