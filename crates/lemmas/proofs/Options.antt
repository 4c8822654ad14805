-- Options: what is there, and what isn't.
use Rattle.std.proofs.Common.{◌≡◌, true, false, Option, Some, None, IsTrue, is_some, refl}
use Rattle.lemmas.proofs.Tests.{both_ways}

-- what has a value is that value
pub some_value : {A : Type 0} (found : Option A) → is_some found ≡ true → (x : A) × (found ≡ Some x)
some_value None some = both_ways some refl
some_value (Some x) some = (x, refl)

-- what is there has a value
pub value_there : {A : Type 0} (found : Option A) → IsTrue (is_some found) → (x : A) × (found ≡ Some x)
value_there None there = both_ways there refl
value_there (Some x) there = (x, refl)

-- what isn't there
pub none_of : {A : Type 0} (found : Option A) → is_some found ≡ false → found ≡ None
none_of None none = refl
none_of (Some x) none = both_ways refl none
