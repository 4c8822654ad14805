-- The calls that are found made and ended it.
use Rattle.std.proofs.Common.{◌∙◌, sym}
use Rattle.std.proofs.lemmas.Bool.{false≢true}
use Rattle.slicing.proofs.UnusedLaws.{IsPartBack-done}
use Rattle.slicing.proofs.unused.is_part_back.Goals as goal
use Rattle.slicing.proofs.unused.is_part_back.Goals.{then-makes_part, else-makes_part}

pub returns-then-are_quiet : goal.returns-then-are_quiet
returns-then-are_quiet c is = elim c.if-makes_part.branch [
  | then-makes_part w ↦
      IsPartBack-done _ c.args.plan.now c.args.maker c.args.ender c.args.place c.args.granule c.in-Some-done_before.made c.in-Some.ended
      c.in-Some-done_before.ensures c.in-Some.ensures (sym c.makes_part.ensures ∙ w.if-makes_part.true)
      (w.are_quiet.ensures (sym w.value-is ∙ c.if-are_quiet.true)) (c.are_alone.ensures is)
  | else-makes_part w ↦ absurd (false≢true (sym w.if-makes_part.false ∙ sym w.value-is ∙ c.if-are_quiet.true))
]
