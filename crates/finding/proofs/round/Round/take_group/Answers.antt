-- The last line is taken with the order itself, each other one with a copy.
use Rattle.finding.proofs.Common.{RoundLost, State, ap, arith, length, subst, sym, ◌∙◌, ◌≡◌}
use Rattle.std.proofs.lemmas.Bool.{eqb-true}
use Rattle.std.proofs.lemmas.Result.{on_ok_weaker}
use Rattle.undo_log.specs.Patches.{Standing, patched, standing_of}
use Rattle.spec_machine.specs.View.{state_of}
use Rattle.finding.specs.Begun.{Covers, IsBegunAt, base_of, state_from}
use Rattle.finding.specs.Waiting.{AllLeadNowhere, AllMayCome, LeadsNowhereWith, MayCome}
use Rattle.finding.specs.declared.front.Front.{Front}
use Rattle.finding.proofs.LongerLaws.{AllLeadNowhere-only, AllLeadNowhere-push, AllMayCome-pop, on_ok_both, so_again, so_at_hand, so_kept}
use Rattle.finding.proofs.Rounds.{Covers-back}
use Rattle.finding.proofs.Shelving.{IsShelved-begun}
use Rattle.finding.proofs.round.Round.take_group.Goals as goal

pub take_grown-requires-clause-next : goal.take_grown-requires-clause-next
take_grown-requires-clause-next c =
    (AllMayCome-pop c.args.history.now.recorded c.args.begun.front.counts (state_of c.args.begun.machine) c.in-Some.lines.items c.pop.new.self.items
    c.in-Some-pop.last c.in-Some-pop.ensures.items (rw c.in-Some.is at c.in_ok-lines.ensures.come)).1

pub returns-then-is_empty-clause-taken : goal.returns-then-is_empty-clause-taken
returns-then-is_empty-clause-taken c =
    let others = c.pop.new.self in
    let same : others.len ≡ length others.items = omega (arith, others.ok.0) in
    let none : others.len ≡ 0 = eqb-true others.len 0 (sym c.is_empty.ensures ∙ c.if-is_empty.true) in
    on_ok_weaker c.take_grown.result
    (λ taken lost. (rw c.in-Some.is at c.in_ok-lines.ensures.all)
    (AllLeadNowhere-only c.args.history.now.recorded c.args.begun.front.counts (state_of c.args.begun.machine) c.in-Some.lines.items others.items
    c.in-Some-pop.last c.in-Some-pop.ensures.items (sym same ∙ none) (taken lost)))
    c.take_grown.ensures.taken

pub take_lines-requires-clause-order : goal.take_lines-requires-clause-order
take_lines-requires-clause-order c =
    IsShelved-begun (standing_of c.put_down-machine.result.0) c.put_down-machine.result.1 c.args.begun (sym c.put_down-machine.ensures.back)
    c.args.history.now.recorded (sym c.put_down-machine.ensures.front) c.requires.begun

pub take_lines-requires-clause-lines : goal.take_lines-requires-clause-lines
take_lines-requires-clause-lines c =
    let history = c.args.history.now.recorded in
    let base = standing_of c.put_down-machine.result.0 in
    let order = c.put_down-machine.result.1 in
    let others = c.pop.new.self.items in
    let come = AllMayCome-pop history c.args.begun.front.counts (state_of c.args.begun.machine) c.in-Some.lines.items others
    c.in-Some-pop.last c.in-Some-pop.ensures.items (rw c.in-Some.is at c.in_ok-lines.ensures.come) in
    subst (AllMayCome history order.front.counts (state_from base order)) (sym c.as_slice.ensures.value)
    (so_kept base order c.args.begun (sym c.put_down-machine.ensures.back) (sym c.put_down-machine.ensures.front)
    (λ (f : Front) (s : State). AllMayCome history f.counts s others) come.0)

pub take_grown-requires-2-clause-begun : goal.take_grown-requires-2-clause-begun
take_grown-requires-2-clause-begun c =
    so_again c.args.begun c.at_hand.result
    (c.at_hand.ensures.there ∙ ap (patched c.put_down-machine.result.1.patch) c.in_ok-machine.ensures.base ∙ c.put_down-machine.ensures.back)
    (c.at_hand.ensures.front ∙ c.put_down-machine.ensures.front) (IsBegunAt c.args.history.now.recorded) c.requires.begun

pub take_grown-requires-2-clause-next : goal.take_grown-requires-2-clause-next
take_grown-requires-2-clause-next c =
    let history = c.args.history.now.recorded in
    let last = c.in-Some-pop.last in
    let come = AllMayCome-pop history c.args.begun.front.counts (state_of c.args.begun.machine) c.in-Some.lines.items c.pop.new.self.items
    last c.in-Some-pop.ensures.items (rw c.in-Some.is at c.in_ok-lines.ensures.come) in
    so_again c.args.begun c.at_hand.result
    (c.at_hand.ensures.there ∙ ap (patched c.put_down-machine.result.1.patch) c.in_ok-machine.ensures.base ∙ c.put_down-machine.ensures.back)
    (c.at_hand.ensures.front ∙ c.put_down-machine.ensures.front) (λ (f : Front) (s : State). MayCome history f.counts s last) come.1

pub returns-clause-covers : goal.returns-clause-covers
returns-clause-covers c =
    let history = c.args.history.now.recorded in
    let middle = c.take_lines.new.self in
    let at = c.put_down-machine.ensures.base in
    let before = subst (λ (b : Standing). Covers history b c.args.self.now middle) at c.in_ok-machine.ensures.covers in
    on_ok_weaker c.take_grown-2.result
    (λ covers lost. before
    (Covers-back history (base_of c.args.begun) middle c.take_grown-2.new.self c.at_hand.result
    (c.at_hand.ensures.base ∙ c.in_ok-machine.ensures.base ∙ at) covers lost))
    c.take_grown-2.ensures.covers

pub returns-clause-taken : goal.returns-clause-taken
returns-clause-taken c =
    let history = c.args.history.now.recorded in
    let base = standing_of c.put_down-machine.result.0 in
    let order = c.put_down-machine.result.1 in
    let begun = c.args.begun in
    let last = c.in-Some-pop.last in
    let others = c.pop.new.self.items in
    let back = c.put_down-machine.ensures.back in
    let there = c.at_hand.ensures.there ∙ ap (patched order.patch) c.in_ok-machine.ensures.base ∙ back in
    let front = c.put_down-machine.ensures.front in
    let at = c.at_hand.ensures.base ∙ c.in_ok-machine.ensures.base in
    on_ok_both c.take_grown-2.result
    (λ covers taken lost.
    let end = subst (λ (b : Standing). RoundLost history b c.take_grown-2.new.self) (sym (at ∙ c.put_down-machine.ensures.base)) lost in
    let middle = subst (λ (b : Standing). RoundLost history b c.take_lines.new.self) at (covers end) in
    (rw c.in-Some.is at c.in_ok-lines.ensures.all)
    (AllLeadNowhere-push history begun.front.counts (state_of begun.machine) c.in-Some.lines.items others last c.in-Some-pop.ensures.items
    (so_at_hand base order begun (sym back) (sym front) (λ (f : Front) (s : State). AllLeadNowhere history f.counts s others)
    (subst (AllLeadNowhere history order.front.counts (state_from base order)) c.as_slice.ensures.value (c.in_ok-machine.ensures.taken middle)))
    (so_again c.at_hand.result begun (sym there) (sym (c.at_hand.ensures.front ∙ front))
    (λ (f : Front) (s : State). LeadsNowhereWith history f.counts s last) (taken end))))
    c.take_grown-2.ensures.covers c.take_grown-2.ensures.taken
