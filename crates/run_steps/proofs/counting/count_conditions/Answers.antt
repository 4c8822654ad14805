-- One line more is taken and counted, or the replay ends.
use Rattle.std.proofs.Common.{◌≡◌, ◌<◌, ◌+◌, ◌++◌, ◌∷◌, [], List, ℕ, get_or, length, sym, ap, ◌∙◌, arith, subst}
use Rattle.std.specs.Prelude.{replicate}
use Rattle.std.proofs.Math.ListN.{set}
use Rattle.std.proofs.lemmas.List.{length-replicate, length-set}
use Rattle.certificate.specs.LineRef.{line_seen}
use Rattle.spec_machine.specs.View.{state_of}
use Rattle.run_steps.specs.Granule.{told_of}
use Rattle.run_steps.specs.Places.{place_count, place_of, place_told}
use Rattle.run_steps.proofs.CountLaws.{AreCounted, AreCounted-next, AreCounted-none, counted_few}
use Rattle.run_steps.proofs.PlaceLaws.{place_within}
use Rattle.run_steps.proofs.Taking.{AreFirst, AreFirst-next, AreFirst-none, AreReplayed-all, AreReplayed-stopped}
use Rattle.run_steps.proofs.counting.count_conditions.Goals as goal
use Rattle.lemmas.proofs.Elements.{get_or-other}

pub loop-i-init : goal.loop-i-init
loop-i-init c =
    let zeros : c.in_ok-counts.counts.items ≡ replicate place_count 0 =
    c.in_ok-counts.ensures.items_if_clones_equal (λ count same. same) ∙ ap (λ (n : ℕ). replicate {A = ℕ} n 0) c.place_count.ensures in
    record {
      told = [];
      first = AreFirst-none c.args.history.now.recorded c.args.certificate.now.lines (state_of c.in_ok-machine.machine) c.in_ok-machine.ensures;
      counted = AreCounted-none c.in_ok-counts.counts.items zeros;
      whole = ap length zeros ∙ length-replicate {A = ℕ} place_count 0;
    }

pub overflow_add-index_mut : goal.overflow_add-index_mut
overflow_add-index_mut c =
    let count : c.index_mut.result.now ≡ get_or c.loop-i.counts.items c.place_of-place.result 0 =
    c.index_mut.ensures.value ∙ get_or-other c.loop-i.counts.items c.place_of-place.result c.index_mut.result.now 0
    (omega (arith, c.loop-i.invariant.whole, c.place_of-place.ensures.within)) in
    let few =
    counted_few c.loop-i.counts.items c.loop-i.invariant.told c.place_of-place.result c.place_of-place.ensures.within c.loop-i.invariant.counted in
    omega (arith, count, few, c.loop-i.invariant.first.counted, c.loop-i-test.true, c.len-i-end.ensures.well_formed.count, c.len-i-end.ensures.count)

pub returns-in_default : goal.returns-in_default
returns-in_default c =
    let stops = rw c.in_default.is at c.in_ok-taken.ensures.stops in
    record {
      told = c.loop-i.invariant.told;
      replayed = AreReplayed-stopped c.args.history.now.recorded c.args.certificate.now.lines
          c.loop-i.i c.loop-i.invariant.told (state_of c.loop-i.machine)
          (line_seen c.line.result) c.loop-i.invariant.first c.line.ensures stops;
      counted = λ function refused. c.loop-i.invariant.counted (place_of function refused) (place_within function refused);
    }

pub returns : goal.returns
returns c = record {
  told = c.loop-i.invariant.told;
  replayed = AreReplayed-all c.args.history.now.recorded c.args.certificate.now.lines c.len.result c.loop-i.invariant.told (state_of c.loop-i.machine)
      (subst (λ (n : ℕ). AreFirst c.args.history.now.recorded c.args.certificate.now.lines n c.loop-i.invariant.told (state_of c.loop-i.machine))
      (let e : c.loop-i.i ≡ c.len.result =
      omega (arith, c.loop-i.auto.i-end, c.len.ensures.count, c.len-i-end.ensures.count, c.loop-i-test.false) in e) c.loop-i.invariant.first)
      (omega (arith, c.len.ensures.count));
  counted = λ function refused. c.loop-i.invariant.counted (place_of function refused) (place_within function refused);
}

pub loop-i-preserved : goal.loop-i-preserved
loop-i-preserved c =
    let taken = rw c.in-Some.is at c.in_ok-taken.ensures.taken in
    let here = told_of c.in-Some.taken in
    let place : c.place_of-place.result ≡ place_told here =
    c.place_of-place.ensures.place ∙ ap (place_of c.in-Some.taken.call.call.command.function) c.condition_in.ensures in
    let count : c.index_mut.result.now ≡ get_or c.loop-i.counts.items (place_told here) 0 =
    c.index_mut.ensures.value ∙ get_or-other c.loop-i.counts.items c.place_of-place.result c.index_mut.result.now 0
    (omega (arith, c.loop-i.invariant.whole, c.place_of-place.ensures.within))
    ∙ ap (λ (p : ℕ). get_or c.loop-i.counts.items p 0) place in
    let within : place_told here < place_count = subst (λ (p : ℕ). p < place_count) place c.place_of-place.ensures.within in
    let set_there : set c.loop-i.counts.items c.place_of-place.result (c.index_mut.result.now + 1)
    ≡ set c.loop-i.counts.items (place_told here) (get_or c.loop-i.counts.items (place_told here) 0 + 1) =
    ap (λ (p : ℕ). set c.loop-i.counts.items p (c.index_mut.result.now + 1)) place
    ∙ ap (λ (n : ℕ). set c.loop-i.counts.items (place_told here) (n + 1)) count in
    let next = AreCounted-next c.loop-i.counts.items c.loop-i.invariant.told here c.loop-i.invariant.whole within c.loop-i.invariant.counted in
    record {
      told = c.loop-i.invariant.told ++ here ∷ [];
      first = AreFirst-next c.args.history.now.recorded c.args.certificate.now.lines c.loop-i.i c.loop-i.invariant.told
          (state_of c.loop-i.machine) (line_seen c.line.result)
          here (state_of c.take_line.new.machine) c.loop-i.invariant.first c.line.ensures taken;
      counted = subst (λ (xs : List ℕ). AreCounted xs (c.loop-i.invariant.told ++ here ∷ [])) (sym set_there) next;
      whole = simp length-set c.loop-i.invariant.whole;
    }
