-- What was found, by how a look return by return ends.
use Rattle.finding.proofs.Common.{◌+◌, ◌≡◌, inl, inr, History, LeadsNowhere, [], subst, take, ℕ}
use Rattle.verdict_laws.proofs.Nowhere.{none-from_nowhere}
use Rattle.finding.specs.Found.{HasNone, HasNoneUpTo, IsFound, IsFoundWatched}
use Rattle.finding.specs.declared.finding.Found.{Found}
use Rattle.finding.specs.declared.finding.Found.TheVariants as found

-- there is none of all calls
pub HasNone-nowhere : (history : History) → LeadsNowhere history [] → HasNone history
HasNone-nowhere history nowhere = λ lines. none-from_nowhere history lines nowhere

-- of a first part
pub HasNoneUpTo-nowhere : (history part : History) (place count : ℕ)
    → count ≡ place + 1 → part ≡ record history { events = take count history.events }
    → LeadsNowhere part [] → HasNoneUpTo history place
HasNoneUpTo-nowhere history part place count counted are nowhere =
    subst (λ (n : ℕ). HasNone (record history { events = take n history.events })) counted (subst HasNone are (HasNone-nowhere part nowhere))

-- nobody stopped the search
pub IsFound-watched : (history : History) (limit : ℕ) (what : Found) → IsFoundWatched history limit ⊥ what → IsFound history limit what
IsFound-watched history limit (found.Order certificate) is = is
IsFound-watched history limit (found.None place) is = is
IsFound-watched history limit (found.GaveUp offers) (inl tried) = tried
IsFound-watched history limit (found.GaveUp offers) (inr stopped) = absurd stopped
