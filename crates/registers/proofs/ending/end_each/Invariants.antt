-- Those so far were looked at.
use Rattle.registers.specs.Growing.{EndsIn, Keeps}
use Rattle.registers.specs.Leads.{call_done}
use Rattle.registers.proofs.Firsts.{OfFirst}
use Rattle.registers.proofs.ending.end_each.Given as goal

abbrev pub invariant-loop-one : goal.invariant-loop-one
invariant-loop-one l = record {
  kept : Keeps l.initial.next.items l.next.items;
  ended : OfFirst (EndsIn l.history.recorded.events l.place l.cpu (call_done l.call) l.next.items) l.begun l.one-index;
}
