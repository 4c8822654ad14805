-- What a call changes is of the granules that it names to change, or of the REC in which its CPU is, and of that REC's realm.
use Rattle.verdict_laws.proofs.Common.{◌≡◌, ℕ, ◌==◌, Bool, true, false, ◌||◌, IsTrue, inl, inr, Option, Some, None, refl, sym, ◌∙◌, ap, subst, eq-eqb, Ok, or_left, or_right, Accepted, Call, Change, Unchanged, Retagged, RealmMade, RealmDestroyed, RecMade, RecDestroyed, RecordsChanged, TableMade, TableDestroyed, EntriesChanged, Replaced, RipasSet, RealmChange, RecChange, TagChange, Tag, Delegated, RecAux, Rtt, CanApply, class_of, has_tag, realm_at, rec_at, rec_inside, IsSound, RecRecord, State, outcome, reached_change, named, behind, tag-has_tag, outcome-leads, realm_there, rec_there, is_part}
use Rattle.rmm_spec.specs.declared.call.Call.TheVariants as call
use Rattle.rmm_spec.specs.declared.change.EntryChange.{EntryChange}
use Rattle.rmm_spec.specs.declared.entry.Entry.TheVariants.{Assigned}
use Rattle.rmm_spec.specs.declared.tag.Ripas.{Ripas}
use Rattle.rmm_spec.specs.declared.tag.Tag.TheVariants.{Data}
use Rattle.rmm_spec.specs.Applicable.{CanChangeEntries}
use Rattle.rmm_laws.proofs.Facts.{entry-page}
use Rattle.verdict_laws.specs.Slices.{changeable}
use Rattle.verdict_laws.proofs.SliceTerms.{IsAcceptedOf, IsOf, IsPageOf, IsPut, IsRealmPut, IsRecPut, IsTagPut, touched}

-- ---- what a call touches

-- a granule that is named first
named_first : (granule : ℕ) (others : Bool) → (granule == granule || others) ≡ true
named_first granule others = or_left (granule == granule) others (eq-eqb granule granule refl)

-- or behind another
named_second : (other granule : ℕ) (others : Bool) → (other == granule || (granule == granule || others)) ≡ true
named_second other granule others = or_right (other == granule) (granule == granule || others) (named_first granule others)

-- the realm of the REC in which a CPU is
inside_owner : (rec rd : ℕ) → (rec == rd || rd == rd) ≡ true
inside_owner rec rd = or_right (rec == rd) (rd == rd) (eq-eqb rd rd refl)

-- what is done where all rows hold is of what the call touches
behind-touches : (s : State) (cpu : ℕ) (c : Call) → IsAcceptedOf (touched s cpu c) (behind s cpu c).1
unfolding behind class_of named changeable reached_change
behind-touches s cpu (call.GranuleDelegate granule) = named_first granule _
behind-touches s cpu (call.GranuleUndelegate granule) = named_first granule _
behind-touches s cpu (call.DataCreate rd granule ipa source flags digest) =
    (named_first rd _, (λ taken. named_second rd granule _), named_first rd _, tt)
behind-touches s cpu (call.DataCreateUnknown rd granule ipa) = (named_first rd _, (λ taken. named_second rd granule _), tt, tt)
behind-touches s cpu (call.DataDestroy rd ipa) = (named_first rd _, (λ taken. absurd (let bad : Delegated ≡ Data = taken in cc)), tt, tt)
behind-touches s cpu (call.RealmActivate rd) = (named_first rd _, tt)
behind-touches s cpu (call.RealmCreate rd root width level vmid algo) = (named_first rd _, named_second rd root _)
behind-touches s cpu (call.RealmDestroy rd) = named_first rd _
behind-touches s cpu (call.RecCreate rd rec mpidr flags aux0 aux1) = (
  named_first rd _,
  named_second rd rec _,
  or_right (rd == aux0) _ (named_second rec aux0 _),
  or_right (rd == aux1) _ (or_right (rec == aux1) _ (named_second aux0 aux1 _)),
)
behind-touches s cpu (call.RecDestroy rec) = named_first rec _
behind-touches s cpu (call.RecEnter rec) = (tt, named_first rec _)
behind-touches s cpu (call.RttCreate rd rtt ipa level) = (named_first rd _, named_second rd rtt _)
behind-touches s cpu (call.RttRemove removal rd ipa level) = named_first rd _
behind-touches s cpu (call.RttMapUnprotected rd ipa page) = (named_first rd _, tt, tt, tt)
behind-touches s cpu (call.RttUnmapUnprotected rd ipa) = (named_first rd _, tt, tt, tt)
behind-touches s cpu (call.RttInitRipas rd base top) = λ end. (named_first rd _, tt, named_first rd _, tt)
behind-touches s cpu (call.RttSetRipas rd rec base top) = λ end. (named_first rd _, tt, tt, named_second rd rec _)
behind-touches s cpu (call.MeasurementExtend index size values) =
    let rec = rec_inside s cpu in (inside_owner rec (rec_at s rec).owner, tt)
behind-touches s cpu call.SystemOff = let rec = rec_inside s cpu in (inside_owner rec (rec_at s rec).owner, named_first rec _)
behind-touches s cpu (call.IpaStateSet base top ripas) = (tt, named_first (rec_inside s cpu) _)
behind-touches s cpu (call.HostCall imm) = (tt, named_first (rec_inside s cpu) _)
behind-touches s cpu call.CpuOff = (tt, named_first (rec_inside s cpu) _)
behind-touches s cpu call.Exit = (tt, named_first (rec_inside s cpu) _)
behind-touches s cpu _ = tt

-- what is accepted is of what the call touches
pub outcome-touches : (s : State) (cpu : ℕ) (c : Call) (accepted : Accepted) → outcome s cpu c ≡ Ok accepted
    → IsAcceptedOf (touched s cpu c) accepted
outcome-touches s cpu c accepted is =
    subst (λ (a : Accepted). IsAcceptedOf (touched s cpu c) a) (outcome-leads s cpu c (Ok accepted) is).1 (behind-touches s cpu c)

-- ---- what a change puts

-- Each part of what passes the test passes it too, or each part of what doesn't pass doesn't either.
record ArePartsAlike (live : ℕ → Bool) (is : Bool) (s : State) : Type 0 where
  pub tables : (rd level number granule : ℕ) → s.table rd level number ≡ Some granule → live rd ≡ is → live granule ≡ is
  pub pages : (rd level number granule : ℕ) (ripas : Ripas) → s.leaf rd level number ≡ Some (Assigned ripas granule) → live rd ≡ is
      → live granule ≡ is
  pub auxes : (g : ℕ) (rec : RecRecord) → s.rec g ≡ Some rec → live g ≡ is → (live rec.aux0 ≡ is) × (live rec.aux1 ≡ is)

module _ (s : State) (live names : ℕ → Bool) (is : Bool) (sound : IsSound s) (alike : (g : ℕ) → names g ≡ true → live g ≡ is)
    (parts : ArePartsAlike live is s) where
  -- the realm whose record is replaced
  realm_put : (realm : Option RealmChange) → IsRealmPut names true realm → IsRealmPut live is realm
  realm_put None of = tt
  realm_put (Some change) of = alike change.rd of

  -- the REC whose record is replaced
  rec_put : (rec : Option RecChange) → IsRecPut names true rec → IsRecPut live is rec
  rec_put None of = tt
  rec_put (Some change) of = alike change.rec of

  -- the page that is given to an entry, or taken from it
  page_put : (rd level : ℕ) (entries : EntryChange) (page : Option TagChange) → CanChangeEntries s rd level entries page → IsPageOf names page
      → live rd ≡ is → IsTagPut live is page
  page_put rd level entries None can of here = tt
  page_put rd level (Replaced number entry) (Some page) (_, inl given) of here = alike page.granule (of given.1)
  page_put rd level (Replaced number entry) (Some page) (_, inr taken) of here =
      parts.pages rd level number page.granule taken.2.0 (entry-page s rd level number page.granule taken.2.0 taken.2.1) here
  page_put rd level (RipasSet first last ripas) (Some page) can of here = absurd (let bad = can.1 in cc)

  -- so a change of granules that all pass the test, or all don't, puts such granules alone
  change_put : (change : Change) → CanApply s change → IsOf names change → IsPut live is change
  change_put Unchanged can of = tt
  change_put (Retagged change) can of = alike change.granule of
  change_put (RealmMade rd root width level vmid algo) can of = (alike rd of.0, alike root of.1)
  change_put (RealmDestroyed rd root) can of =
      let realm = realm_at s rd in
      let there = sound.tables.roots rd realm (realm_there s rd sound can.rd_tag) in
      (alike rd of, parts.tables rd realm.start_level 0 root (there ∙ ap Some (sym can.is_root)) (alike rd of))
  change_put (RecMade rd rec mpidr flags aux0 aux1) can of = (alike rd of.0, alike rec of.1, alike aux0 of.2, alike aux1 of.3)
  change_put (RecDestroyed rec aux0 aux1) can of =
      let both = parts.auxes rec (rec_at s rec) (rec_there s rec sound can.rec_tag) (alike rec of) in
      (alike rec of, ap live can.is_aux0 ∙ both.0, ap live can.is_aux1 ∙ both.1)
  change_put (RecordsChanged realm rec) can of = (realm_put realm of.0, rec_put rec of.1)
  change_put (TableMade rd level number rtt entry) can of = (alike rd of.0, alike rtt of.1)
  change_put (TableDestroyed rd level number rtt entry) can of = (alike rd of, parts.tables rd level number rtt can.there (alike rd of))
  change_put (EntriesChanged rd level entries page realm rec) can of =
      let here = alike rd of.0 in (here, page_put rd level entries page can.1 of.1 here, realm_put realm of.2, rec_put rec of.3)

-- a change of live granules puts live ones alone, where each part is live
pub IsPut-inside : (s : State) (live names : ℕ → Bool) (change : Change) → IsSound s → CanApply s change → IsOf names change
    → ((g : ℕ) → names g ≡ true → live g ≡ true) → ((g : ℕ) → is_part (s.tag g) ≡ true → live g ≡ true) → IsPut live true change
IsPut-inside s live names change sound can of inside parts = change_put s live names true sound inside (record {
  tables = λ rd level number granule is here. part granule Rtt refl (sound.tables.tagged rd level number granule is);
  pages = λ rd level number granule ripas is here. part granule Data refl (sound.leaves.pages rd level number granule ripas is);
  auxes = λ g rec is here. (part rec.aux0 RecAux refl (sound.recs.aux0 g rec is), part rec.aux1 RecAux refl (sound.recs.aux1 g rec is));
}) change can of
  where
    part : (g : ℕ) (tag : Tag) → is_part tag ≡ true → IsTrue (has_tag s g tag) → live g ≡ true
    part g tag is has = parts g (ap is_part (tag-has_tag s g tag has) ∙ is)

-- The parts of what isn't live aren't live either.
pub record ArePartsOutside (live : ℕ → Bool) (s : State) : Type 0 where
  pub tables : (rd level number granule : ℕ) → s.table rd level number ≡ Some granule → live rd ≡ false → live granule ≡ false
  pub pages : (rd level number granule : ℕ) (ripas : Ripas) → s.leaf rd level number ≡ Some (Assigned ripas granule) → live rd ≡ false
      → live granule ≡ false
  pub auxes : (g : ℕ) (rec : RecRecord) → s.rec g ≡ Some rec → live g ≡ false → (live rec.aux0 ≡ false) × (live rec.aux1 ≡ false)

-- so a change of others puts others alone
pub IsPut-outside : (s : State) (live names : ℕ → Bool) (change : Change) → IsSound s → CanApply s change → IsOf names change
    → ((g : ℕ) → names g ≡ true → live g ≡ false) → ArePartsOutside live s → IsPut live false change
IsPut-outside s live names change sound can of outside parts =
    change_put s live names false sound outside (record { tables = parts.tables; pages = parts.pages; auxes = parts.auxes }) change can of
