use Rattle.world.proofs.Common.{◌++◌, ◌∙◌, ◌∷◌, ◌≡◌, Cpu, List, None, [], ap, arith, length, refl, subst, sym, views_of}
use Rattle.std.proofs.Common.{append_assoc, append-nil}
use Rattle.std.proofs.lemmas.List.{length_push}
use Rattle.std.specs.Vec.Iter.{into_iter_items}
use Rattle.granule_cells.specs.declared.cpu_place.CpuPlace.TheVariants.{Outside}
use Rattle.world.specs.declared.phase.Phase.TheVariants.{Between}
use Rattle.world.proofs.Opened.{AreOpened, AreOpened-push, views-opened}
use Rattle.world.proofs.cpus.Cpus.new.Goals as goal

pub loop-program-preserved : goal.loop-program-preserved
loop-program-preserved c =
    let at = c.loop-program in
    let was = at.invariant in
    let steps = c.in-Some.ensures.steps in
    let cpu : Cpu = record { taken = c.new.result; place = Outside; phase = Between 0; program = c.in-Some.program; called = 0; waits = None } in
    record {
      shared = append_assoc at.yielded (c.in-Some.program ∷ []) (into_iter_items c.next.new.self)
          ∙ ap (λ rest. at.yielded ++ rest) (sym steps.0) ∙ was.shared;
      left = omega (arith, was.left, steps.1, ap length steps.0);
      count = omega (arith, was.count, c.push_reserved.ensures.len, length_push at.yielded c.in-Some.program);
      room = omega (arith, was.room, steps.1, c.push_reserved.ensures.len, c.push_reserved.ensures.capacity);
      opened = subst (λ list. AreOpened list (at.yielded ++ c.in-Some.program ∷ [])) (sym c.push_reserved.ensures.items)
          (AreOpened-push at.list.items at.yielded cpu c.in-Some.program was.opened
          (record { taken = c.new.ensures; place = refl; phase = refl; program = refl; called = refl; waits = refl }));
    }

nothing_left : {X : Type 0} (l : List X) → length l ≡ 0 → l ≡ []
nothing_left [] h = refl
nothing_left (x ∷ xs) h = absurd (omega (arith, h))

pub returns-clause-views : goal.returns-clause-views
unfolding views_of
returns-clause-views c =
    let at = c.loop-program in
    let empty = nothing_left (into_iter_items at.program-iterator) (sym at.invariant.left ∙ c.in-None.ensures.steps.0) in
    let all = sym (append-nil at.yielded) ∙ ap (λ rest. at.yielded ++ rest) (sym empty) ∙ at.invariant.shared in
    views-opened at.list.items c.args.programs.items (subst (AreOpened at.list.items) all at.invariant.opened)
