-- The one line that is left is all that is tried.
use Rattle.finding.proofs.Common.{arith, length, sym, ◌∙◌, ◌≡◌}
use Rattle.std.proofs.lemmas.Bool.{eqb-true}
use Rattle.spec_machine.specs.View.{state_of}
use Rattle.finding.proofs.LongerLaws.{AllLeadNowhere-only, AllMayCome-pop}
use Rattle.finding.proofs.group_lines.only_line.Goals as goal

pub returns : goal.returns
returns c =
    let history = c.args.history.now.recorded in
    let counts = c.args.begun.now.front.counts in
    let state = state_of c.args.begun.now.machine in
    let others = c.pop.new.self in
    let same : others.len ≡ length others.items = omega (arith, others.ok.0) in
    let none : others.len ≡ 0 = eqb-true others.len 0 (sym c.is_empty.ensures ∙ c.if-not-is_empty.false) in
    let last = c.in-Some-pop.last in
    let are = c.in-Some-pop.ensures.items in
    record {
      come = (AllMayCome-pop history counts state c.in-Some.lines.items others.items last are (rw c.in-Some.is at c.in_ok-lines.ensures.come)).1;
      alone = λ nowhere. (rw c.in-Some.is at c.in_ok-lines.ensures.all)
          (AllLeadNowhere-only history counts state c.in-Some.lines.items others.items last are (sym same ∙ none) nowhere);
    }
