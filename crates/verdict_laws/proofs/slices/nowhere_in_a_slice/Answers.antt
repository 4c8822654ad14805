use Rattle.spec_lemmas.proofs.HistoryGrammar.{IsHistory-take}
use Rattle.verdict_laws.proofs.SliceOrders.{nowhere-from_slice}
use Rattle.verdict_laws.specs.Parts.{first_part}
use Rattle.verdict_laws.proofs.slices.nowhere_in_a_slice.Goals as goal

pub returns : goal.returns
returns c = λ history slice count numbers lent entered is_history.
    nowhere-from_slice (first_part count history) slice numbers lent entered (IsHistory-take count history is_history)
