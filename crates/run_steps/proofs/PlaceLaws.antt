-- Which function and which condition a place is of.
use Rattle.std.proofs.Common.{◌≡◌, ℕ, ◌+◌, ◌*◌, ◌-◌, ◌<◌, length, Option, Some, None, refl, sym, ap, ◌∙◌, arith, lit<}
use Rattle.std.specs.List.{slice_get}
use Rattle.std.proofs.lemmas.Option.{same_Some, slice_get_within}
use denote.Enum.Declared.{tag_of}
use Rattle.rmm_spec.specs.contracts.condition.Condition.{the_type as condition_type}
use Rattle.rmm_spec.specs.contracts.function_id.FunctionId.{the_type as function_type}
use Rattle.rmm_spec.specs.declared.condition.Condition.{Condition}
use Rattle.rmm_spec.specs.declared.condition.Condition.TheVariants as condition
use Rattle.rmm_spec.specs.declared.function_id.FunctionId.{FunctionId}
use Rattle.rmm_spec.specs.declared.function_id.FunctionId.TheVariants as function
use Rattle.rmm_spec.specs.Function.{functions, number_of}
use Rattle.run_steps.specs.Places.{condition_place, conditions, function_place, place_count, place_of, refused_place}

-- a function stands at its place
function_here : (called : FunctionId) → slice_get functions (function_place called) ≡ Some called
unfolding function_place number_of
function_here function.GranuleDelegate = refl
function_here _ = refl

-- which is where it is declared
pub function_declared : (called : FunctionId) → tag_of function_type called ≡ function_place called
unfolding function_place number_of
function_declared function.GranuleDelegate = refl
function_declared _ = refl

condition_here : (failing : Condition) → slice_get conditions (condition_place failing - 1) ≡ Some failing
condition_here condition.Alias = refl
condition_here _ = refl

pub condition_declared : (failing : Condition) → tag_of condition_type failing + 1 ≡ condition_place failing
condition_declared condition.Alias = refl
condition_declared _ = refl

-- conditions count from 1
condition_within : (failing : Condition) → (0 < condition_place failing) × (condition_place failing < 44)
condition_within condition.Alias = (lit< tt, lit< tt)
condition_within _ = (lit< tt, lit< tt)

function_within : (called : FunctionId) → function_place called < length functions
function_within called = slice_get_within functions (function_place called) called (function_here called)

refused_within : (refused : Option Condition) → refused_place refused < 44
refused_within None = lit< tt
refused_within (Some failing) = (condition_within failing).1

pub same_function : (called other : FunctionId) → function_place called ≡ function_place other → called ≡ other
same_function called other same =
    same_Some called other (sym (function_here called) ∙ ap (λ (n : ℕ). slice_get functions n) same ∙ function_here other)

same_condition : (failing other : Condition) → condition_place failing ≡ condition_place other → failing ≡ other
same_condition failing other same =
    same_Some failing other (sym (condition_here failing) ∙ ap (λ (n : ℕ). slice_get conditions (n - 1)) same ∙ condition_here other)

pub same_refused : (refused failed : Option Condition) → refused_place refused ≡ refused_place failed → refused ≡ failed
same_refused None None same = refl
same_refused None (Some other) same = absurd (let bad : ⊥ = omega (arith, same, (condition_within other).0) in bad)
same_refused (Some failing) None same = absurd (let bad : ⊥ = omega (arith, same, (condition_within failing).0) in bad)
same_refused (Some failing) (Some other) same = ap (λ (c : Condition). Some c) (same_condition failing other same)

-- one place is of one function and of one answer
pub same_place : (called other : FunctionId) (refused failed : Option Condition) → place_of called refused ≡ place_of other failed
    → (function_place called ≡ function_place other) × (refused_place refused ≡ refused_place failed)
same_place called other refused failed same =
    by (function_place called) (function_place other) (refused_place refused)
    (refused_place failed) same (refused_within refused) (refused_within failed)
  where
    by : (f g r q : ℕ) → f * 44 + r ≡ g * 44 + q → r < 44 → q < 44 → (f ≡ g) × (r ≡ q)
    by f g r q same within below = let first : f ≡ g = omega arith in (first, omega arith)

-- each answer has a place
pub place_below : (f r : ℕ) → f < length functions → r < 44 → f * 44 + r < place_count
unfolding place_count
place_below f r within below = by (length functions) within
  where
    by : (count : ℕ) → f < count → f * 44 + r < count * 44
    by count within = omega arith

pub place_within : (called : FunctionId) (refused : Option Condition) → place_of called refused < place_count
place_within called refused = place_below (function_place called) (refused_place refused) (function_within called) (refused_within refused)
