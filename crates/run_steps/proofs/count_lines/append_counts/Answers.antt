-- The lines of one function more.
use Rattle.std.proofs.Common.{[], List, refl, sym, subst}
use Rattle.std.proofs.lemmas.List.{append-nil, take_all}
use Rattle.std.proofs.lemmas.Option.{slice_get-get_or}
use Rattle.rmm_spec.specs.declared.function_id.FunctionId.{FunctionId}
use Rattle.rmm_spec.specs.Function.{functions}
use Rattle.run_steps.specs.CountLines.{AreCountLines}
use Rattle.run_steps.proofs.CountTexts.{AreCountLines-more, appended_on}
use Rattle.run_steps.proofs.count_lines.append_counts.Goals as goal

pub loop-i-init : goal.loop-i-init
loop-i-init c = ([], refl, sym (append-nil c.args.out.now.items))

pub loop-i-preserved : goal.loop-i-preserved
loop-i-preserved c =
    let so_far = c.loop-i.invariant in
    let is = slice_get-get_or functions c.loop-i.i _ c.loop-i-test.true in
    let added = rw c.all-all.ensures at c.in_ok-append_function.ensures in (
      _,
      AreCountLines-more c.args.counts.now functions c.loop-i.i _ so_far.0 c.command_name.result.now is so_far.1,
      appended_on c.args.out.now.items so_far.0 _ c.loop-i.out.items c.append_function.new.out.items so_far.2 added,
    )

pub returns : goal.returns
returns c =
    let all = take_all c.loop-i.i functions c.loop-i-test.false in
    let so_far = c.loop-i.invariant in
    (so_far.0, subst (λ (fs : List FunctionId). AreCountLines c.args.counts.now fs so_far.0) all so_far.1, so_far.2)
