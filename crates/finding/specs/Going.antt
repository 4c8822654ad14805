-- How far an order at hand goes on.
use Rattle.std.specs.Prelude.{◌≡◌, ⊤, ℕ, ◌+◌, ◌≤◌, ◌<◌, length}
use Rattle.rmm_spec.specs.HistoryText.{History}
use Rattle.finding.specs.Begun.{AllReturned, HasReturned, IsLost}
use Rattle.finding.specs.declared.begun.Begun.{Begun}
use Rattle.finding.specs.declared.going.Went.{Went}
use Rattle.finding.specs.declared.going.Went.TheVariants as went
use Rattle.finding.specs.declared.shelved.Orders.{Orders}

-- where the new order leads nowhere, or none is left, the old one does; each call that returned before the place stands in it
abbrev pub IsGone : History → Begun → Begun → Went → Type 0
IsGone history old new (went.UpTo place) = (IsLost history new → IsLost history old) × HasReturned history new.front.counts place
IsGone history old new (went.Short place) = IsLost history new → IsLost history old
IsGone history old new (went.Lost place) = IsLost history old

-- the place is before the end, or at it where the order goes on there
abbrev pub IsWithin : ℕ → Went → Type 0
IsWithin until (went.UpTo place) = place ≤ until
IsWithin until (went.Short place) = place < until
IsWithin until (went.Lost place) = place < until

-- the place is that of the return, or the next one where the order goes on there
abbrev pub IsPast : ℕ → Went → Type 0
IsPast at (went.UpTo place) = place ≡ at + 1
IsPast at (went.Short place) = place ≡ at
IsPast at (went.Lost place) = place ≡ at

-- each call that returned before the place stands in each of the orders, or none is left where one is refused
abbrev pub IsAhead : History → Orders → Went → Type 0
IsAhead history orders (went.UpTo place) = AllReturned history orders.begun.items place
IsAhead history orders (went.Short place) = ⊤
IsAhead history orders (went.Lost place) = length orders.begun.items ≡ 0
