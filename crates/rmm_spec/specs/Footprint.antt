-- What each command may change: whatever it answers, the other parts of the state stay as they are.
use Rattle.std.specs.Prelude.{◌≡◌, ℕ, Bool, false, ◌||◌, ◌==◌, List, [], ◌∷◌}
use Rattle.rmm_spec.specs.declared.function_id.FunctionId.{FunctionId}
use Rattle.rmm_spec.specs.Function.{Part, Tags, Realms, Recs, Tables, Leaves, row_of}
use Rattle.rmm_spec.specs.State.{State}

unfoldable pub changed_parts : FunctionId → List Part
unfolding row_of
changed_parts f = (row_of f).changes

abbrev pub part_number : Part → ℕ
part_number Tags = 0
part_number Realms = 1
part_number Recs = 2
part_number Tables = 3
part_number Leaves = 4

abbrev pub is_listed : Part → List Part → Bool
is_listed part [] = false
is_listed part (other ∷ parts) = part_number part == part_number other || is_listed part parts

-- the configuration stays, and so does each map that isn't listed
pub record KeepsOthers (parts : List Part) (old new : State) : Type 0 where
  pub config : new.config ≡ old.config
  pub tags : is_listed Tags parts ≡ false → new.tag ≡ old.tag
  pub realms : is_listed Realms parts ≡ false → new.realm ≡ old.realm
  pub recs : is_listed Recs parts ≡ false → new.rec ≡ old.rec
  pub tables : is_listed Tables parts ≡ false → new.table ≡ old.table
  pub leaves : is_listed Leaves parts ≡ false → new.leaf ≡ old.leaf
