-- What a report for programs appends.
use Rattle.std.specs.Prelude.{◌≡◌, ℕ, List, [], ◌∷◌, ◌++◌, Some}
use Rattle.serde_json.specs.Data.{Members, object}
use Rattle.serde_json.specs.Read.{read}

-- a line of JSON text: an object
pub record AppendsJson (old new : List ℕ) : Type 0 where
  pub text : List ℕ
  pub members : Members
  pub is_json : read text ≡ Some (object members)
  pub appended : new ≡ old ++ (text ++ 10 ∷ [])
