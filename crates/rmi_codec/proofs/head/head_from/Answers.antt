use Rattle.rmi_codec.proofs.HeadLaws.{HasNoHead-letter, HasNoHead-cpu, HasNoHead-number}
use Rattle.rmi_codec.proofs.head.head_from.Goals as goal

pub returns-in_err-letter-clause-none : goal.returns-in_err-letter-clause-none
returns-in_err-letter-clause-none c = rw c.from_residual.ensures (HasNoHead-letter _ _ _ c.in_err-letter.ensures.none)

pub returns-in_err-cpu-clause-none : goal.returns-in_err-cpu-clause-none
returns-in_err-cpu-clause-none c =
    rw c.from_residual-in_err-cpu.ensures
    (HasNoHead-cpu _ _ _ _ c.next_letter.new.self c.in_ok-letter.ensures.found (rw c.from.ensures at c.in_err-cpu.ensures.none))

pub returns-in_err-number-clause-none : goal.returns-in_err-number-clause-none
returns-in_err-number-clause-none c =
    rw c.from_residual-in_err-number.ensures
    (HasNoHead-number _ _ _ _ _ c.next_letter.new.self c.number_below.new.parts
    c.in_ok-letter.ensures.found c.in_ok-cpu.ensures.found c.in_err-number.ensures.none)
