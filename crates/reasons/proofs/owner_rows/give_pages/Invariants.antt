-- The pages of the entries so far are given.
use Rattle.reasons.proofs.Common.{◌<◌, ◌≡◌, IsOf, Some, State, length, ℕ}
use Rattle.std.specs.Prelude.{slice_get}
use Rattle.rmm_spec.specs.declared.entry.Entry.TheVariants.{Assigned}
use Rattle.rmm_spec.specs.declared.tag.Ripas.{Ripas}
use Rattle.reasons.specs.Owners.{Gives, IsPageOf}
use Rattle.reasons.proofs.owner_rows.give_pages.Given as goal

abbrev pub invariant-loop-index : goal.invariant-loop-index
invariant-loop-index l = (s : State) → length l.table.entries ≡ 512 → ((page : ℕ) → IsPageOf l.table.entries page → IsOf s page l.table.place.rd)
    → Gives s l.first
    (λ page. (i : ℕ) × (ripas : Ripas) × (i < l.index) × (slice_get l.table.entries i ≡ Some (Assigned ripas page))) l.fn.rows.items l.rows.items
