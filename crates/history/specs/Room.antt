-- How many events are sure to take no memory.
use Rattle.std.specs.Prelude.{ℕ, ◌-◌, min, List, [], ◌∷◌, Vec, vec_len, vec_capacity}
use Rattle.history.specs.declared.subhistory.Subhistory.{Subhistory}

-- how many more elements a vector has room for
abbrev pub spare : {X Z : Type 0} → Vec X Z → ℕ
spare v = vec_capacity v - vec_len v

-- the least that each subhistory has room for, and no more than the limit
abbrev pub least_spare : ℕ → List Subhistory → ℕ
least_spare limit [] = limit
least_spare limit (subhistory ∷ subhistories) = min (spare subhistory.places) (least_spare limit subhistories)
