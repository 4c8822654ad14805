-- What a cell that is held tells of tags, realms and RECs.
use Rattle.command_core.proofs.Common.{◌==◌, ◌∙◌, ◌≡◌, Config, HeldCell, List, Rd, RealmRecord, Rec, RecRecord, Some, and_from, ap, cell_in, eq-eqb, has_tag, is_granule, realm_at, realm_in, rec_at, seen_state, tag_number, tag_of, true, ℕ}
use Rattle.std.specs.Prelude.{unwrap_or}
use Rattle.rmm_spec.specs.declared.tag.Tag.{Tag}
use Rattle.rmm_spec.specs.Lookup.{no_realm, no_rec}
use Rattle.rmm_spec.specs.Cell.{Cell, rec_in}
use Rattle.world_laws.specs.SeenState.{realm_behind, cell_or, cell_seen}

-- what is seen at a granule that is held is its cell
cell-seen : (config : Config) (held : List HeldCell) (g : ℕ) (c : Cell)
    → is_granule config.granules g ≡ true → cell_in g held ≡ Some c → cell_seen config held g ≡ c
cell-seen config held g c granule found = rw granule (ap (λ o. cell_or o (realm_behind held g)) found)

-- and its tag is the cell's
pub tag-seen : (config : Config) (held : List HeldCell) (g : ℕ) (c : Cell) (t : Tag)
    → is_granule config.granules g ≡ true → cell_in g held ≡ Some c → tag_of c ≡ t
    → has_tag (seen_state config held) g t ≡ true
unfolding has_tag seen_state
tag-seen config held g c t granule found is =
    and_from (is_granule config.granules g) (tag_number (tag_of (cell_seen config held g)) == tag_number t) granule
    (eq-eqb (tag_number (tag_of (cell_seen config held g))) (tag_number t)
    (ap (λ (x : Cell). tag_number (tag_of x)) (cell-seen config held g c granule found) ∙ ap tag_number is))

-- so is the REC that lies there
pub rec-seen : (config : Config) (held : List HeldCell) (g : ℕ) (it : RecRecord)
    → is_granule config.granules g ≡ true → cell_in g held ≡ Some (Rec it)
    → rec_at (seen_state config held) g ≡ it
unfolding rec_at seen_state
rec-seen config held g it granule found = ap (λ (c : Cell). unwrap_or (rec_in c) no_rec) (cell-seen config held g (Rec it) granule found)

-- and so is the realm
pub realm-seen : (config : Config) (held : List HeldCell) (g : ℕ) (realm : RealmRecord)
    → is_granule config.granules g ≡ true → cell_in g held ≡ Some (Rd realm)
    → realm_at (seen_state config held) g ≡ realm
unfolding realm_at seen_state
realm-seen config held g realm granule found = ap (λ (c : Cell). unwrap_or (realm_in c) no_realm) (cell-seen config held g (Rd realm) granule found)
