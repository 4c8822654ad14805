-- The granules so far have their rows, and there is room for the others.
use Rattle.reasons.proofs.Common.{◌++◌, ◌+◌, ◌≡◌, ◌≤◌, None, owner_rows, state_of, vec_capacity, vec_len}
use Rattle.reasons.proofs.owner_rows.push_rows.Given as goal

abbrev pub invariant-loop-number : goal.invariant-loop-number
invariant-loop-number l = record {
  rows : l.rows.items ≡ l.fn.rows.items ++ owner_rows (state_of l.machine) (λ _. None) l.number;
  room : vec_len l.rows + (state_of l.machine).config.granules ≤ l.number + vec_capacity l.rows;
}
