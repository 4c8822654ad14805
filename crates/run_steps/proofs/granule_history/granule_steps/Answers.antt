-- One line more is taken, or the replay ends.
use Rattle.std.specs.Prelude.{All, map}
use Rattle.std.proofs.Common.{◌≡◌, ◌++◌, ◌∷◌, [], List, ℕ, length, ◌+◌, refl, sym, ap, ◌∙◌, arith, subst}
use Rattle.std.proofs.lemmas.List.Elements.{All-nil}
use Rattle.certificate.specs.LineRef.{line_seen}
use Rattle.spec_machine.specs.View.{state_of}
use Rattle.run_steps.specs.Granule.{IsNamedStep, mark_of, told_of}
use Rattle.run_steps.specs.Touched.{Mark, mark_at, marks_from}
use Rattle.run_steps.proofs.Marks.{marks_from-push}
use Rattle.run_steps.proofs.Taking.{AreFirst, AreFirst-next, AreFirst-none, AreReplayed-all, AreReplayed-stopped}
use Rattle.run_steps.proofs.granule_history.granule_steps.Goals as goal

pub loop-i-init : goal.loop-i-init
loop-i-init c = record {
  told = [];
  first = AreFirst-none c.args.history.now.recorded c.args.certificate.now.lines (state_of c.in_ok-machine.machine) c.in_ok-machine.ensures;
  marks = ap (λ xs. map mark_of xs) c.new-steps.ensures.items;
  calls = subst (All (IsNamedStep c.args.history.now.recorded c.args.certificate.now.lines))
      (sym c.new-steps.ensures.items) (All-nil (IsNamedStep c.args.history.now.recorded c.args.certificate.now.lines));
}

pub returns-in_default : goal.returns-in_default
returns-in_default c =
    let stops = rw c.in_default.is at c.in_ok-taken.ensures.stops in
    record {
      is_granule = refl;
      told = c.loop-i.invariant.told;
      replayed = AreReplayed-stopped c.args.history.now.recorded c.args.certificate.now.lines
          c.loop-i.i c.loop-i.invariant.told (state_of c.loop-i.machine)
          (line_seen c.line.result) c.loop-i.invariant.first c.line.ensures stops;
      steps = c.loop-i.invariant.marks;
      calls = c.loop-i.invariant.calls;
    }

pub returns : goal.returns
returns c = record {
  is_granule = refl;
  told = c.loop-i.invariant.told;
  replayed = AreReplayed-all c.args.history.now.recorded c.args.certificate.now.lines c.len.result c.loop-i.invariant.told (state_of c.loop-i.machine)
      (subst (λ (n : ℕ). AreFirst c.args.history.now.recorded c.args.certificate.now.lines n c.loop-i.invariant.told (state_of c.loop-i.machine))
      (let e : c.loop-i.i ≡ c.len.result =
      omega (arith, c.loop-i.auto.i-end, c.len.ensures.count, c.len-i-end.ensures.count, c.loop-i-test.false) in e) c.loop-i.invariant.first)
      (omega (arith, c.len.ensures.count));
  steps = c.loop-i.invariant.marks;
  calls = c.loop-i.invariant.calls;
}

pub loop-i-preserved : goal.loop-i-preserved
loop-i-preserved c =
    let taken = rw c.in-Some.is at c.in_ok-taken.ensures.taken in
    let call = rw c.in-Some.is at c.in_ok-taken.ensures.call in
    let cpu = rw c.in-Some.is at c.in_ok-taken.ensures.cpu in
    let number = rw c.in-Some.is at c.in_ok-taken.ensures.number in
    record {
      told = c.loop-i.invariant.told ++ told_of c.in-Some.taken ∷ [];
      first = AreFirst-next c.args.history.now.recorded c.args.certificate.now.lines c.loop-i.i c.loop-i.invariant.told
          (state_of c.loop-i.machine) (line_seen c.line.result)
          (told_of c.in-Some.taken) (state_of c.take_line.new.machine) c.loop-i.invariant.first c.line.ensures taken;
      marks = c.in_ok-keep_step.ensures.marks
          ∙ ap (λ (ms : List Mark). ms ++ mark_at c.args.granule (c.loop-i.i + 1) (told_of c.in-Some.taken)) c.loop-i.invariant.marks
          ∙ ap (λ (n : ℕ). marks_from c.args.granule 1 c.loop-i.invariant.told ++ mark_at c.args.granule n (told_of c.in-Some.taken))
          (let e : c.loop-i.i + 1 ≡ 1 + length c.loop-i.invariant.told = omega (arith, c.loop-i.invariant.first.counted) in e)
          ∙ sym (marks_from-push c.args.granule 1 c.loop-i.invariant.told (told_of c.in-Some.taken));
      calls = c.in_ok-keep_step.ensures.calls c.args.history.now.recorded c.args.certificate.now.lines c.loop-i.invariant.calls
          (c.loop-i.i, refl, (line_seen c.line.result, c.line.ensures, (sym cpu, sym number))) call;
    }
