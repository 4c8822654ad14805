-- The state in which every granule is the host's is sound: nothing stands in it.
use Rattle.rmm_laws.proofs.SoundCommon.{◌≡◌, IsSound, Rd, Rec, Tag, Undelegated, both_ways, false, has_tag, refl, sym, ℕ}
use Rattle.std.proofs.lemmas.Bool.{and_right}
use Rattle.rmm_spec.specs.HistoryText.{Config}
use Rattle.rmm_spec.specs.State.{opening}
use Rattle.rmm_spec.specs.Lookup.{is_granule}
use Rattle.rmm_laws.proofs.Cases.{nothing_there}
use Rattle.rmm_laws.proofs.Tags.{AreOther}

-- no granule has another tag than the host's
opening-tags : (config : Config) (g : ℕ) (tag : Tag) → AreOther Undelegated tag → has_tag (opening config) g tag ≡ false
unfolding has_tag opening
opening-tags config g tag other = rw other (and_right (is_granule config.granules g) false refl)

-- nothing stands in the opening state
pub opening_sound : (config : Config) → IsSound (opening config)
unfolding opening
opening_sound config = record {
  outside = λ g none. refl;
  realms = record {
    tagged = λ g. sym (opening-tags config g Rd refl);
    spaces = λ g r at. nothing_there refl at;
    measured = λ g r at. nothing_there refl at;
    apart = λ g h r q at. nothing_there refl at;
  };
  recs = record {
    tagged = λ g. sym (opening-tags config g Rec refl);
    owned = λ g c at. nothing_there refl at;
    aux0 = λ g c at. nothing_there refl at;
    aux1 = λ g c at. nothing_there refl at;
    two = λ g c at. nothing_there refl at;
    apart = λ g h x has. both_ways has refl;
    alone = λ g h cpu runs. both_ways runs refl;
    running = λ g c p at. nothing_there refl at;
    asked = λ g c at. nothing_there refl at;
    requests = λ g c r q at. nothing_there refl at;
  };
  tables = record {
    roots = λ rd r at. nothing_there refl at;
    tagged = λ rd level number granule at. nothing_there refl at;
    owned = λ rd level number granule at. nothing_there refl at;
    below = λ rd level number granule r at. nothing_there refl at;
    apart = λ rd level number other l n granule at. nothing_there refl at;
  };
  leaves = record {
    placed = λ rd level number e at. nothing_there refl at;
    unlinked = λ rd level number e at. nothing_there refl at;
    complete = λ rd level number there. both_ways there refl;
    kinds = λ rd level number e r at. nothing_there refl at;
    pages = λ rd level number granule ripas at. nothing_there refl at;
    apart = λ rd level number other l n granule ripas ripas_too at. nothing_there refl at;
  };
}
