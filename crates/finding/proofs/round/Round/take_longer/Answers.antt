-- A copy leads to the same state.
use Rattle.finding.proofs.Common.{RoundLost, State, ap, subst, sym, ◌∙◌}
use Rattle.std.proofs.lemmas.Result.{on_ok_weaker}
use Rattle.std.proofs.Common.{OnOk}
use Rattle.undo_log.specs.Patches.{Standing, standing_of}
use Rattle.finding.specs.Begun.{Covers}
use Rattle.finding.specs.Waiting.{LeadsNowhereWith, MayCome}
use Rattle.finding.specs.declared.front.Front.{Front}
use Rattle.finding.proofs.LongerLaws.{so_at_hand, so_kept}
use Rattle.finding.proofs.Shelving.{IsBegun-shelved}
use Rattle.finding.proofs.round.Round.take_longer.Goals as goal

pub take_grown-requires-clause-begun : goal.take_grown-requires-clause-begun
take_grown-requires-clause-begun c =
    let base = standing_of c.args.machine in
    IsBegun-shelved base c.args.order.now c.at_hand.result
    (c.at_hand.ensures.there ∙ ap (λ (f : Standing → Standing). f base) c.in_ok-copy.ensures.patch)
    c.args.history.now.recorded (c.at_hand.ensures.front ∙ c.in_ok-copy.ensures.front) c.requires.order.begun

pub take_grown-requires-clause-next : goal.take_grown-requires-clause-next
take_grown-requires-clause-next c =
    let base = standing_of c.args.machine in
    so_at_hand base c.args.order.now c.at_hand.result
    (c.at_hand.ensures.there ∙ ap (λ (f : Standing → Standing). f base) c.in_ok-copy.ensures.patch)
    (c.at_hand.ensures.front ∙ c.in_ok-copy.ensures.front)
    (λ (f : Front) (s : State). MayCome c.args.history.now.recorded f.counts s c.args.next.now) c.requires.next

pub returns-clause-covers : goal.returns-clause-covers
returns-clause-covers c =
    subst (λ (b : Standing). OnOk c.take_grown.result (Covers c.args.history.now.recorded b c.args.self.now c.take_grown.new.self))
    c.at_hand.ensures.base c.take_grown.ensures.covers

pub returns-clause-taken : goal.returns-clause-taken
returns-clause-taken c =
    let history = c.args.history.now.recorded in
    let base = standing_of c.args.machine in
    on_ok_weaker c.take_grown.result
    (λ taken lost. so_kept base c.args.order.now c.at_hand.result
    (c.at_hand.ensures.there ∙ ap (λ (f : Standing → Standing). f base) c.in_ok-copy.ensures.patch)
    (c.at_hand.ensures.front ∙ c.in_ok-copy.ensures.front)
    (λ (f : Front) (s : State). LeadsNowhereWith history f.counts s c.args.next.now)
    (taken (subst (λ (b : Standing). RoundLost history b c.take_grown.new.self) (sym c.at_hand.ensures.base) lost)))
    c.take_grown.ensures.taken
