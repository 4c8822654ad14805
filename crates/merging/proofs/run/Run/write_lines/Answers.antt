use Rattle.merging.proofs.Common.{◌<◌, ◌∙◌, ◌≡◌, ◌≤◌, Appends, Happened, List, Some, Stand, ap, arith, event_parts, events_from, happened_seen, known_front, lasts_in, length, line_parts, lines_from, lines_text, map, no_lasts, refl, returns_in, slice_get, stands_after, stands_with, starts, subst, sym, take, ℕ}
use Rattle.std.proofs.Math.Seq.{take-length}
use Rattle.std.proofs.lemmas.Option.{none-some}
use Rattle.std.proofs.lemmas.Result.{err_from_is_err_and}
use Rattle.merging.specs.Renamed.{lasts_with}
use Rattle.merging.specs.Merge.{Merge, event_lines, commit_lines}
use Rattle.merging.specs.Naming.{told_slot}
use Rattle.merging.proofs.CutLaws.{IsCut-at}
use Rattle.merging.proofs.LineLaws.{appends_nothing}
use Rattle.merging.proofs.NamingLaws.{told-at, length-named_from, lasts_after-next}
use Rattle.merging.proofs.RunLaws.{known_front-some, known_front-slot_at, length-known_front, stands_after-push, AreFew-walked}
use Rattle.merging.proofs.RoomLaws.{AreNumbered-walked}
use Rattle.merging.proofs.StepLaws.{stands_in-start}
use Rattle.merging.proofs.TextLaws.{history-next, certificate-next}
use Rattle.merging.proofs.run.Run.write_lines.Goals as goal
use Rattle.lemmas.proofs.Elements.{take-next_at}

pub loop-stamp-init : goal.loop-stamp-init
loop-stamp-init g c = record {
  history = appends_nothing c.args.history.now.contents;
  certificate = appends_nothing c.args.certificate.now.contents;
  going = (c.requires.history, c.requires.certificate);
  room = c.requires.room;
  stands = stands_in-start c.idle_cpus-cpus.result
      (λ at other below. c.idle_cpus-cpus.ensures.each at other (omega (arith, below, c.idle_cpus-cpus.ensures.counted)));
  lasts = c.new-lasts.ensures;
}

pub unreachable-requires : goal.unreachable-requires
unreachable-requires g c =
    let slots = c.self.inside.table.slots in
    let within : c.loop-stamp.stamp < length (known_front slots) = omega (arith, c.loop-stamp-test.true, c.self.invariant.stamps) in
    let known = known_front-slot_at slots c.loop-stamp.stamp within in
    none-some known.0 (c.in_default.ensures.seen ∙ known.1)

pub write_told-requires-clause-few_calls : goal.write_told-requires-clause-few_calls
write_told-requires-clause-few_calls g c =
    let below : c.loop-stamp.stamp ≤ 2000000 =
    omega (
      arith,
      c.loop-stamp-test.true,
      c.self.invariant.stamps,
      length-known_front c.self.inside.table.slots,
      c.len-fact.ensures.len,
      c.len-fact.ensures.most,
    ) in
    AreFew-walked c.args.self.now.events c.loop-stamp.stamp _ c.loop-stamp.invariant.stands below

pub write_told-requires-clause-numbered : goal.write_told-requires-clause-numbered
write_told-requires-clause-numbered g c =
    AreNumbered-walked c.args.self.now.config.cpus c.args.self.now.events c.loop-stamp.stamp _ c.loop-stamp.invariant.stands
    (rw (← c.self.view_is) c.self.invariant.can_merge)

pub returns-in_err-write_told-clause-fault : goal.returns-in_err-write_told-clause-fault
returns-in_err-write_told-clause-fault g c =
    let slot = happened_seen c.in-Some.slot in
    let front = known_front c.self.inside.table.slots in
    let stamp = c.loop-stamp.stamp in
    let run = c.args.self.now in
    let lasts = lasts_in c.loop-stamp.lasts in
    let told = told_slot run.naming run.config.granules lasts slot in
    let within : stamp ≤ length front = omega (arith, c.loop-stamp-test.true, c.self.invariant.stamps) in
    let is : slice_get front stamp ≡ Some slot = known_front-some c.self.inside.table.slots stamp slot within (sym c.in-Some.ensures.seen) in
    let event_is : slice_get run.events stamp ≡ Some told =
    subst (λ (m : Merge). slice_get m.events stamp ≡ Some (told_slot m.naming m.config.granules lasts slot)) c.self.view_is
    (told-at c.self.inside.naming c.self.inside.config.granules c.self.inside.config.granules
    lasts front stamp slot is refl c.loop-stamp.invariant.lasts) in
    let p = err_from_is_err_and c.from_residual.result c.from_residual.ensures.1 in
    rw (p.1, p.2)
    (IsCut-at run.events stamp told event_is (λ (cpu : ℕ). returns_in cpu run.events) _ _ _ _ _ _ _ _ c.loop-stamp.invariant.stands
    c.loop-stamp.invariant.history c.loop-stamp.invariant.certificate c.in_err-write_told.ensures.fault)

pub loop-stamp-preserved : goal.loop-stamp-preserved
loop-stamp-preserved g c =
    let slot = happened_seen c.in-Some.slot in
    let front = known_front c.self.inside.table.slots in
    let stamp = c.loop-stamp.stamp in
    let run = c.args.self.now in
    let lasts = lasts_in c.loop-stamp.lasts in
    let told = told_slot run.naming run.config.granules lasts slot in
    let within : stamp ≤ length front = omega (arith, c.loop-stamp-test.true, c.self.invariant.stamps) in
    let is : slice_get front stamp ≡ Some slot = known_front-some c.self.inside.table.slots stamp slot within (sym c.in-Some.ensures.seen) in
    let event_is : slice_get run.events stamp ≡ Some told =
    subst (λ (m : Merge). slice_get m.events stamp ≡ Some (told_slot m.naming m.config.granules lasts slot)) c.self.view_is
    (told-at c.self.inside.naming c.self.inside.config.granules c.self.inside.config.granules
    lasts front stamp slot is refl c.loop-stamp.invariant.lasts) in
    let returns = λ (cpu : ℕ). returns_in cpu run.events in
    record {
      history = history-next c.args.history.now.contents c.loop-stamp.history.contents c.write_told.new.history.contents
          run.events stamp told event_is c.loop-stamp.invariant.history
          (subst (λ (s : ℕ → Stand). Appends c.loop-stamp.history.contents c.write_told.new.history.contents (event_lines s told))
          c.loop-stamp.invariant.stands c.in_ok-write_told.ensures.history);
      certificate = certificate-next c.args.certificate.now.contents c.loop-stamp.certificate.contents c.write_told.new.certificate.contents
          run.events stamp told event_is returns c.loop-stamp.invariant.certificate
          (subst (λ (s : ℕ → Stand). Appends c.loop-stamp.certificate.contents c.write_told.new.certificate.contents (commit_lines returns s told))
          c.loop-stamp.invariant.stands c.in_ok-write_told.ensures.certificate);
      going = c.in_ok-write_told.ensures.going;
      room = c.in_ok-write_told.ensures.room;
      stands = c.in_ok-write_told.ensures.cpus ∙ ap (λ (s : ℕ → Stand). stands_with s told) c.loop-stamp.invariant.stands
          ∙ sym (ap (stands_after starts) (take-next_at run.events stamp told event_is) ∙ stands_after-push starts (take stamp run.events) told);
      lasts = c.take.ensures ∙ ap (λ ls. lasts_with ls slot) c.loop-stamp.invariant.lasts ∙ sym (lasts_after-next front stamp slot is);
    }

pub returns-clause-history : goal.returns-clause-history
returns-clause-history g c =
    let events = c.args.self.now.events in
    let front = known_front c.self.inside.table.slots in
    let all : c.loop-stamp.stamp ≡ length events =
    omega (
      arith,
      c.loop-stamp-test.false,
      c.loop-stamp.auto.stamp-end,
      c.self.invariant.stamps,
      length-named_from c.self.inside.naming c.self.inside.config.granules no_lasts front,
      ap (λ (m : Merge). length m.events) c.self.view_is,
    ) in
    subst (λ (es : List Happened). Appends c.args.history.now.contents c.loop-stamp.history.contents
    (lines_text (map event_parts (events_from starts es)))) (ap (λ n. take n events) all ∙ take-length events) c.loop-stamp.invariant.history

pub returns-clause-certificate : goal.returns-clause-certificate
returns-clause-certificate g c =
    let events = c.args.self.now.events in
    let front = known_front c.self.inside.table.slots in
    let all : c.loop-stamp.stamp ≡ length events =
    omega (
      arith,
      c.loop-stamp-test.false,
      c.loop-stamp.auto.stamp-end,
      c.self.invariant.stamps,
      length-named_from c.self.inside.naming c.self.inside.config.granules no_lasts front,
      ap (λ (m : Merge). length m.events) c.self.view_is,
    ) in
    subst (λ (es : List Happened). Appends c.args.certificate.now.contents c.loop-stamp.certificate.contents
    (lines_text (map line_parts (lines_from (λ cpu. returns_in cpu events) starts es)))) (ap (λ n. take n events) all ∙ take-length events)
    c.loop-stamp.invariant.certificate
