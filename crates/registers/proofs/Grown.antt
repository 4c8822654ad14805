-- Possibilities that are added behind others.
use Rattle.std.proofs.Common.{◌≡◌, ℕ, ◌+◌, ◌<◌, ◌≤◌, List, length, get_or, Some, ◌∙◌, sym, subst, arith}
use Rattle.std.specs.List.{slice_get}
use Rattle.std.proofs.lemmas.Option.{same_Some, slice_get-get_or}
use Rattle.rmm_spec.specs.declared.event.Event.{Event}
use Rattle.verdict_laws.specs.Registers.{IsAmong, Possibility}
use Rattle.registers.specs.declared.open_call.OpenCall.{OpenCall}
use Rattle.registers.specs.Growing.{AllGrow, GrowsByEach, Keeps}
use Rattle.registers.proofs.Firsts.{OfFirst, OfFirst-all, OfFirst-next}

-- what was among them still is
pub IsAmong-kept : (old new : List Possibility) (possibility : Possibility) → Keeps old new → IsAmong possibility old → IsAmong possibility new
IsAmong-kept old new possibility keeps among = (among.0, keeps among.0 possibility among.1)

module _ (events : List Event) (opens : List OpenCall) (old new : List Possibility) (keeps : Keeps old new) where
  -- what a possibility comes to still is among them
  pub GrowsByEach-kept : (possibility : Possibility) → GrowsByEach events opens old possibility → GrowsByEach events opens new possibility
  GrowsByEach-kept possibility grows one of absent fits = IsAmong-kept old new _ keeps (grows one of absent fits)

  -- the first ones are those that were first
  pub FirstGrow-kept : (count : ℕ) → count ≤ length old → OfFirst (GrowsByEach events opens old) old count
      → OfFirst (GrowsByEach events opens new) new count
  FirstGrow-kept count within first i x below at =
      let was = slice_get-get_or old i x (omega (arith, within, below)) in
      let same : get_or old i x ≡ x = same_Some _ _ (sym (keeps i (get_or old i x) was) ∙ at) in
      subst (GrowsByEach events opens new) same (GrowsByEach-kept (get_or old i x) (first i (get_or old i x) below was))

  -- and the next one, where it was looked at
  pub FirstGrow-next : (count : ℕ) (one : Possibility) → count < length old → slice_get old count ≡ Some one
      → OfFirst (GrowsByEach events opens old) old count → GrowsByEach events opens new one
      → OfFirst (GrowsByEach events opens new) new (count + 1)
  FirstGrow-next count one within is first grows =
      OfFirst-next (GrowsByEach events opens new) new count one (keeps count one is)
      (FirstGrow-kept count (omega (arith, within)) first) grows

-- each one was looked at
pub AllGrow-first : (events : List Event) (opens : List OpenCall) (begun : List Possibility) (count : ℕ) → length begun ≤ count
    → OfFirst (GrowsByEach events opens begun) begun count → AllGrow events opens begun
AllGrow-first events opens begun count whole first possibility among =
    OfFirst-all (GrowsByEach events opens begun) begun count whole first possibility among.0 among.1
