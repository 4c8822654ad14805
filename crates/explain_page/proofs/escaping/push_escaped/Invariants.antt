use Rattle.std.proofs.Common.{◌≡◌, ◌≤◌, ◌++◌, take}
use Rattle.std.specs.Prelude.{vec_capacity}
use Rattle.explain_page.specs.Escaped.{escaped}
use Rattle.explain_page.proofs.escaping.push_escaped.Given as goal

abbrev pub invariant-loop-byte : goal.invariant-loop-byte
invariant-loop-byte l = record {
  written : l.out.items ≡ l.initial.out.items ++ escaped (take l.byte-index l.bytes);
  capacity : vec_capacity l.initial.out ≤ vec_capacity l.out;
}
