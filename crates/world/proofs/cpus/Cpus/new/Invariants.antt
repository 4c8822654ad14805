use Rattle.std.proofs.Common.{◌≡◌, ◌+◌, ◌≤◌, ◌++◌, length, vec_len, vec_capacity}
use Rattle.std.specs.Vec.Iter.{into_iter_items, into_iter_len}
use Rattle.world.proofs.Opened.{AreOpened}
use Rattle.world.proofs.cpus.Cpus.new.Given as goal

abbrev pub invariant-loop-program : goal.invariant-loop-program
invariant-loop-program l = record {
  shared : l.yielded ++ into_iter_items l.program-iterator ≡ l.fn.programs.items;
  left : into_iter_len l.program-iterator ≡ length (into_iter_items l.program-iterator);
  count : vec_len l.list ≡ length l.yielded;
  room : vec_len l.list + into_iter_len l.program-iterator ≤ vec_capacity l.list;
  opened : AreOpened l.list.items l.yielded;
}
