-- By a copy that is taken at hand, grows and is put down.
use Rattle.finding.proofs.Common.{◌∙◌, ap, subst, sym}
use Rattle.undo_log.specs.Patches.{IsWhole, Standing, standing_of}
use Rattle.finding.specs.Begun.{IsShelvedLost}
use Rattle.finding.proofs.Shelving.{IsBegun-shelved, IsLost-shelved, IsShelved-begun, IsShelved-moved, IsShelvedLost-begun, IsShelvedLost-moved, standing-whole}
use Rattle.finding.proofs.alike.leads_to.Goals as goal

pub takes_lacking-requires : goal.takes_lacking-requires
takes_lacking-requires c =
    let base = standing_of c.args.machine in
    let copied = IsShelved-moved c.args.history.now.recorded base base c.args.one.now c.in_ok-copy.copy c.in_ok-copy.ensures.front
    (ap (λ (f : Standing → Standing). f base) c.in_ok-copy.ensures.patch) c.requires.begun in
    record {
      begun = IsBegun-shelved base c.in_ok-copy.copy c.at_hand-longer.result c.at_hand-longer.ensures.there c.args.history.now.recorded
          c.at_hand-longer.ensures.front copied.begun;
    }

pub is_alike-alike-requires-clause-begun : goal.is_alike-alike-requires-clause-begun
is_alike-alike-requires-clause-begun c =
    IsShelved-begun (standing_of c.put_down-machine.result.0) c.put_down-machine.result.1 c.takes_lacking.new.begun
    (sym c.put_down-machine.ensures.back) c.args.history.now.recorded (sym c.put_down-machine.ensures.front) c.in_ok-takes.ensures.begun

pub returns-clause-leads : goal.returns-clause-leads
returns-clause-leads c = λ alike lost.
    let history = c.args.history.now.recorded in
    let base = standing_of c.args.machine in
    let down = standing_of c.put_down-machine.result.0 in
    let copied = IsShelvedLost-moved history base base c.args.one.now c.in_ok-copy.copy c.in_ok-copy.ensures.front
    (ap (λ (f : Standing → Standing). f base) c.in_ok-copy.ensures.patch) lost in
    let begun = IsLost-shelved base c.in_ok-copy.copy c.at_hand-longer.result c.at_hand-longer.ensures.there history
    c.at_hand-longer.ensures.front copied in
    let grown = c.in_ok-takes.ensures.grown c.if-not-takes.false begun in
    let longer = IsShelvedLost-begun down c.put_down-machine.result.1 c.takes_lacking.new.begun
    (sym c.put_down-machine.ensures.back) history (sym c.put_down-machine.ensures.front) grown in
    subst (λ (s : Standing). IsShelvedLost history s c.args.other.now)
    (c.put_down-machine.ensures.base ∙ c.in_ok-takes.ensures.base ∙ c.at_hand-longer.ensures.base)
    (c.is_alike-alike.ensures alike longer)

pub put_down-machine-requires : goal.put_down-machine-requires
put_down-machine-requires c =
    subst IsWhole (sym (c.in_ok-takes.ensures.base ∙ c.at_hand-longer.ensures.base)) (standing-whole c.args.machine)
