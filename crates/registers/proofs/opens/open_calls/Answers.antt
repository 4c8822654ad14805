-- A CPU's open call is put to the others, where it has one.
use Rattle.registers.proofs.OpenLaws.{HaveBelow-none, HaveBelow-push, few-push}
use Rattle.registers.proofs.opens.open_calls.Goals as goal
use Rattle.registers.proofs.opens.open_calls.Goals.{in-Some+in_ok-push, in_default}

pub loop-other-preserved : goal.loop-other-preserved
loop-other-preserved c =
    let history = c.args.setting.now.history.now.recorded in
    let owners = c.args.setting.now.owners.now in
    let old = c.loop-other.opens.items in
    let other = c.loop-other.other in
    elim c.match-open_call.branch [
      | in-Some+in_ok-push w ↦ rw (w.opens-is, w.in_ok-push.ensures.items) (record {
        few = few-push old w.in-Some.one c.loop-other.invariant.few (rw w.in-Some.ensures.cpu c.loop-other-test.true);
        all = HaveBelow-push history c.well_formed-fact.ensures owners c.args.place c.args.cpu c.args.slot old other w.in-Some.one
            c.loop-other.invariant.all w.in-Some.ensures.all;
      })
      | in_default w ↦ rw w.opens-is (record {
        few = c.loop-other.invariant.few;
        all = HaveBelow-none history c.well_formed-fact.ensures owners c.args.place c.args.cpu c.args.slot old other c.loop-other.invariant.all
            (rw w.in_default.is at c.open_call.ensures.all);
      })
    ]
