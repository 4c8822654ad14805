-- A line is passed, kept, or refused.
use Rattle.finding.proofs.Common.{Some, refl, state_of, subst, sym}
use Rattle.std.proofs.lemmas.List.Elements.{All-pop, All-push}
use Rattle.finding.specs.Waiting.{AllMayCome, LeadsNowhereWith, MayCome}
use Rattle.finding.proofs.BegunLaws.{Stays-refused}
use Rattle.finding.proofs.LongerLaws.{MayCome-stands}
use Rattle.finding.proofs.group_lines.group_lines.Goals.{in-Passed, in-Line+then-not-is_line_refused+in_ok-push-in-Line, in-Line+else-not-is_line_refused}
use Rattle.finding.proofs.group_lines.group_lines.Goals as goal

pub returns-in-None-clause-all : goal.returns-in-None-clause-all
returns-in-None-clause-all c = λ lost. record { nowhere = λ lines holds. c.in-None.ensures lines holds (c.lines.invariant.tried lost lines holds) }

pub lines-preserved : goal.lines-preserved
lines-preserved c =
    let history = c.args.history.now.recorded in
    let begun = c.args.begun.now in
    let counts = begun.front.counts in
    let state = state_of begun.machine in
    let old = c.lines.invariant in
    elim c.match-next_line.branch [
      | in-Passed w ↦
          rw w.lines-is
          (rw w.left-is
          (record { come = old.come; tried = λ lost lines holds. w.in-Passed.ensures lines holds (old.tried lost lines holds) }))
      | in-Line+then-not-is_line_refused+in_ok-push-in-Line w ↦
          let stands = w.in-Line.ensures in
          let items = w.in_ok-push-in-Line.ensures.items in
          rw w.lines-is
          (rw w.left-is
          (record {
            come = subst (AllMayCome history counts state) (sym items)
                (All-push (MayCome history counts state) c.lines.lines.items _ old.come (MayCome-stands history begun _ _ _ _ stands));
            tried = λ lost lines holds.
                let all = All-pop (LeadsNowhereWith history counts state) _ _ (Some _) items lost in
                stands.resumes lines holds (all.1 lines holds) (old.tried all.0 lines holds);
          }))
      | in-Line+else-not-is_line_refused w ↦
          let stands = w.in-Line.ensures in
          let stays = Stays-refused history c.requires.begun.front.is_history begun begun _ _ stands.next stands.of_cpu stands.numbered stands.kind
          stands.soon c.requires.begun (w.is_line_refused.ensures w.if-not-is_line_refused.false) refl refl in
          rw w.lines-is
          (rw w.left-is
          (record {
            come = old.come;
            tried = λ lost lines holds. stands.resumes lines holds (stays.refused lines holds) (old.tried lost lines holds);
          }))
    ]
