-- A granule that nothing names gets another tag.
use Rattle.rmm_laws.proofs.SoundCommon.{◌==◌, ◌∙◌, ◌≡◌, Assigned, Data, IsSound, IsTrue, Rd, Rec, RecAux, RecRecord, Ripas, Rtt, Some, State, Tag, Undelegated, both_ways, false, granule_from_tag, has_tag, sym, tag-has_tag, with_tag, ℕ}
use Rattle.rmm_spec.specs.Lookup.{is_granule}
use Rattle.rmm_laws.proofs.Cases.{by_address}
use Rattle.rmm_laws.proofs.Tags.{AreOther, has_tag-elsewhere, has_tag-beside, tags_apart}

-- no REC, table or leaf names the granule
pub record IsUnnamed (s : State) (a : ℕ) : Type 0 where
  pub aux0 : (g : ℕ) (c : RecRecord) → s.rec g ≡ Some c → (c.aux0 == a) ≡ false
  pub aux1 : (g : ℕ) (c : RecRecord) → s.rec g ≡ Some c → (c.aux1 == a) ≡ false
  pub table : (rd level number granule : ℕ) → s.table rd level number ≡ Some granule → (granule == a) ≡ false
  pub page : (rd level number granule : ℕ) (ripas : Ripas) → s.leaf rd level number ≡ Some (Assigned ripas granule) → (granule == a) ≡ false

-- a granule of another tag is named by nothing
pub unnamed_by_tag : (s : State) (a : ℕ) (tag : Tag) → IsSound s → IsTrue (has_tag s a tag)
    → AreOther RecAux tag → AreOther Rtt tag → AreOther Data tag → IsUnnamed s a
unnamed_by_tag s a tag sound has no_aux no_table no_page = record {
  aux0 = λ g c e. tags_apart s c.aux0 a RecAux tag (sound.recs.aux0 g c e) has no_aux;
  aux1 = λ g c e. tags_apart s c.aux1 a RecAux tag (sound.recs.aux1 g c e) has no_aux;
  table = λ rd level number granule e. tags_apart s granule a Rtt tag (sound.tables.tagged rd level number granule e) has no_table;
  page = λ rd level number granule ripas e. tags_apart s granule a Data tag (sound.leaves.pages rd level number granule ripas e) has no_page;
}

-- a tag that stands for no record
pub record IsPlain (tag : Tag) : Type 0 where
  pub no_rd : AreOther tag Rd
  pub no_rec : AreOther tag Rec

-- a granule that nothing names gets a tag for which no record has to stand
pub retagged_sound : (s : State) (a : ℕ) (tag : Tag)
    → IsSound s → IsTrue (is_granule s.config.granules a) → IsPlain (s.tag a) → IsPlain tag → IsUnnamed s a
    → IsSound (with_tag s a tag)
retagged_sound s a tag sound granule had gets unnamed =
    let rds : (g : ℕ) → has_tag (with_tag s a tag) g Rd ≡ has_tag s g Rd = λ g. has_tag-beside s a g tag Rd had.no_rd gets.no_rd in
    let recs : (g : ℕ) → has_tag (with_tag s a tag) g Rec ≡ has_tag s g Rec = λ g. has_tag-beside s a g tag Rec had.no_rec gets.no_rec in
    let kept : (g : ℕ) (asked : Tag) → (g == a) ≡ false → IsTrue (has_tag s g asked) → IsTrue (has_tag (with_tag s a tag) g asked) =
    λ g asked apart has. has_tag-elsewhere s a g tag asked apart ∙ has in
    record {
      outside = λ g none. by_address (λ t. t ≡ Undelegated) g a tag (s.tag g)
          (λ same. both_ways (rw same granule) none) (λ _. sound.outside g none);
      realms = record {
        tagged = λ g. sound.realms.tagged g ∙ sym (rds g);
        spaces = sound.realms.spaces;
        measured = sound.realms.measured;
        apart = sound.realms.apart;
      };
      recs = record {
        tagged = λ g. sound.recs.tagged g ∙ sym (recs g);
        owned = λ g c e. rds c.owner ∙ sound.recs.owned g c e;
        aux0 = λ g c e. kept c.aux0 RecAux (unnamed.aux0 g c e) (sound.recs.aux0 g c e);
        aux1 = λ g c e. kept c.aux1 RecAux (unnamed.aux1 g c e) (sound.recs.aux1 g c e);
        two = sound.recs.two;
        apart = sound.recs.apart;
        alone = sound.recs.alone;
        running = sound.recs.running;
        asked = sound.recs.asked;
        requests = sound.recs.requests;
      };
      tables = record {
        roots = sound.tables.roots;
        tagged = λ rd level number other e. kept other Rtt (unnamed.table rd level number other e) (sound.tables.tagged rd level number other e);
        owned = sound.tables.owned;
        below = sound.tables.below;
        apart = sound.tables.apart;
      };
      leaves = record {
        placed = sound.leaves.placed;
        unlinked = sound.leaves.unlinked;
        complete = sound.leaves.complete;
        kinds = sound.leaves.kinds;
        pages = λ rd level number page ripas e. kept page Data
            (unnamed.page rd level number page ripas e) (sound.leaves.pages rd level number page ripas e);
        apart = sound.leaves.apart;
      };
    }

-- a granule that is lent or the host's gets such a tag
pub free_retagged_sound : (s : State) (a : ℕ) (old tag : Tag) → IsSound s → IsTrue (has_tag s a old) → IsPlain old
    → AreOther RecAux old → AreOther Rtt old → AreOther Data old → IsPlain tag → IsSound (with_tag s a tag)
free_retagged_sound s a old tag sound has plain no_aux no_table no_page gets =
    retagged_sound s a tag sound (granule_from_tag s a old has) (rw (tag-has_tag s a old has) plain) gets
    (unnamed_by_tag s a old sound has no_aux no_table no_page)
