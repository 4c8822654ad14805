-- What a change leaves of a granule that it doesn't touch.
use Rattle.std.proofs.Common.{◌≡◌, ℕ, ◌==◌, ◌||◌, Bool, true, false, Option, Some, None, refl, ◌∙◌}
use Rattle.rmm_spec.specs.declared.change.Change.{Change}
use Rattle.rmm_spec.specs.declared.change.Change.TheVariants.{Unchanged, Retagged, RealmMade, RealmDestroyed, RecMade, RecDestroyed, RecordsChanged, TableMade, TableDestroyed, EntriesChanged}
use Rattle.rmm_spec.specs.declared.change.EntryChange.{EntryChange}
use Rattle.rmm_spec.specs.declared.change.EntryChange.TheVariants.{Replaced, RipasSet}
use Rattle.rmm_spec.specs.declared.change.RealmChange.{RealmChange}
use Rattle.rmm_spec.specs.declared.change.RecChange.{RecChange}
use Rattle.rmm_spec.specs.declared.change.TagChange.{TagChange}
use Rattle.rmm_spec.specs.Change.{changed, with_entry_change, with_realm_change, with_rec_change, with_tag_change}
use Rattle.rmm_spec.specs.State.{State}
use Rattle.run_steps.specs.Touched.{touches, touches_realm, touches_rec, touches_tag}

-- neither of the two tests holds
or_false : (a b : Bool) → a || b ≡ false → (a ≡ false) × (b ≡ false)
or_false false false none = (refl, refl)
or_false false true none = absurd cc
or_false true b none = absurd cc

-- what is kept of a granule
pub record Keeps (old new : State) (granule : ℕ) : Type 0 where
  pub tag : new.tag granule ≡ old.tag granule
  pub realm : new.realm granule ≡ old.realm granule
  pub rec : new.rec granule ≡ old.rec granule

Keeps-both : (old middle new : State) (granule : ℕ) → Keeps old middle granule → Keeps middle new granule → Keeps old new granule
Keeps-both old middle new granule first second =
    record { tag = second.tag ∙ first.tag; realm = second.realm ∙ first.realm; rec = second.rec ∙ first.rec }

keeps_realm : (s : State) (realm : Option RealmChange) (granule : ℕ)
    → touches_realm realm granule ≡ false → Keeps s (with_realm_change s realm) granule
keeps_realm s None granule none = record { tag = refl; realm = refl; rec = refl }
keeps_realm s (Some change) granule none = record { tag = refl; realm = rw none refl; rec = refl }

keeps_rec : (s : State) (rec : Option RecChange) (granule : ℕ) → touches_rec rec granule ≡ false → Keeps s (with_rec_change s rec) granule
keeps_rec s None granule none = record { tag = refl; realm = refl; rec = refl }
keeps_rec s (Some change) granule none = record { tag = refl; realm = refl; rec = rw none refl }

keeps_tag : (s : State) (page : Option TagChange) (granule : ℕ) → touches_tag page granule ≡ false → Keeps s (with_tag_change s page) granule
keeps_tag s None granule none = record { tag = refl; realm = refl; rec = refl }
keeps_tag s (Some change) granule none = record { tag = rw none refl; realm = refl; rec = refl }

keeps_entries : (s : State) (rd level : ℕ) (entries : EntryChange) (granule : ℕ) → Keeps s (with_entry_change s rd level entries) granule
keeps_entries s rd level (Replaced number entry) granule = record { tag = refl; realm = refl; rec = refl }
keeps_entries s rd level (RipasSet first last ripas) granule = record { tag = refl; realm = refl; rec = refl }

pub keeps_untouched : (s : State) (change : Change) (granule : ℕ) → touches change granule ≡ false → Keeps s (changed s change) granule
unfolding changed
keeps_untouched s Unchanged granule none = record { tag = refl; realm = refl; rec = refl }
keeps_untouched s (Retagged change) granule none = record { tag = rw none refl; realm = refl; rec = refl }
keeps_untouched s (RealmMade rd root width level vmid algo) granule none =
    let both = or_false (granule == rd) (granule == root) none in
    record { tag = rw (both.1, both.0) refl; realm = rw both.0 refl; rec = refl }
keeps_untouched s (RealmDestroyed rd root) granule none =
    let both = or_false (granule == rd) (granule == root) none in
    record { tag = rw (both.1, both.0) refl; realm = rw both.0 refl; rec = refl }
keeps_untouched s (RecMade rd rec mpidr flags aux0 aux1) granule none =
    let last = or_false (granule == rd || granule == rec || granule == aux0) (granule == aux1) none in
    let third = or_false (granule == rd || granule == rec) (granule == aux0) last.0 in
    let first = or_false (granule == rd) (granule == rec) third.0 in
    record { tag = rw (last.1, third.1, first.1) refl; realm = rw first.0 refl; rec = rw first.1 refl }
keeps_untouched s (RecDestroyed rec aux0 aux1) granule none =
    let last = or_false (granule == rec || granule == aux0) (granule == aux1) none in
    let first = or_false (granule == rec) (granule == aux0) last.0 in
    record { tag = rw (last.1, first.1, first.0) refl; realm = refl; rec = rw first.0 refl }
keeps_untouched s (RecordsChanged realm rec) granule none =
    let both = or_false (touches_realm realm granule) (touches_rec rec granule) none in
    Keeps-both s (with_realm_change s realm) (with_rec_change (with_realm_change s realm) rec) granule (keeps_realm s realm granule both.0)
    (keeps_rec (with_realm_change s realm) rec granule both.1)
keeps_untouched s (TableMade rd level number rtt entry) granule none = record { tag = rw none refl; realm = refl; rec = refl }
keeps_untouched s (TableDestroyed rd level number rtt entry) granule none = record { tag = rw none refl; realm = refl; rec = refl }
keeps_untouched s (EntriesChanged rd level entries page realm rec) granule none =
    let last = or_false (touches_tag page granule || touches_realm realm granule) (touches_rec rec granule) none in
    let first = or_false (touches_tag page granule) (touches_realm realm granule) last.0 in
    let tagged = with_tag_change s page in
    let with_records = with_rec_change (with_realm_change tagged realm) rec in
    Keeps-both s with_records (with_entry_change with_records rd level entries) granule
    (Keeps-both s (with_realm_change tagged realm) with_records granule
    (Keeps-both s tagged (with_realm_change tagged realm) granule (keeps_tag s page granule first.0) (keeps_realm tagged realm granule first.1))
    (keeps_rec (with_realm_change tagged realm) rec granule last.1))
    (keeps_entries with_records rd level entries granule)
