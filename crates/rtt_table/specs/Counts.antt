-- How many entries of a table pass a test, and the two such counts that a table keeps.
use Rattle.std.specs.Prelude.{◌≡◌, ℕ, ◌+◌, Bool, true, false, List, [], ◌∷◌}
use Rattle.rmm_spec.specs.declared.entry.Entry.{Entry}
use Rattle.rmm_spec.specs.Walk.{is_live, is_table}

-- what one entry adds to a count
abbrev pub one_if : Bool → ℕ
one_if true = 1
one_if false = 0

-- how many entries pass the test
unfoldable pub count_of : (Entry → Bool) → List Entry → ℕ
count_of test [] = 0
count_of test (entry ∷ entries) = one_if (test entry) + count_of test entries

-- two numbers are the counts of the entries that keep their table in use, and of the links among them
pub record AreCounts (entries : List Entry) (live links : ℕ) : Type 0 where
  pub of_live : live ≡ count_of is_live entries
  pub of_links : links ≡ count_of is_table entries
