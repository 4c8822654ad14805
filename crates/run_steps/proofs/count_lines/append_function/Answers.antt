-- What is accepted, and then what is refused.
use Rattle.run_steps.specs.CountLines.{function_lines}
use Rattle.run_steps.proofs.CountTexts.{appended_ok}
use Rattle.run_steps.proofs.count_lines.append_function.Goals as goal

pub returns : goal.returns
unfolding function_lines
returns c =
    appended_ok c.append_refused.result c.args.out.now.items _ _ c.append_line.new.out.items c.append_refused.new.out.items
    (rw c.count.ensures at c.in_ok-append_line.ensures) c.append_refused.ensures
