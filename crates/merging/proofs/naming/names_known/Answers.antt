use Rattle.merging.proofs.Common.{◌∙◌, ◌≡◌, Some, ap, arith, happened_seen, known_front, lasts_in, length, slice_get, slice_get_within, sym, take}
use Rattle.std.proofs.Math.Seq.{take-length}
use Rattle.std.proofs.lemmas.Result.{err_from_is_err_and}
use Rattle.merging.specs.Names.{names_from}
use Rattle.merging.specs.Renamed.{lasts_with, moment_addresses}
use Rattle.merging.specs.Naming.{names_of}
use Rattle.merging.proofs.NamingLaws.{lasts_after-next, names_of-next, IsUnnamed-next}
use Rattle.merging.proofs.RunLaws.{known_front-none, known_front-some, length-known_front}
use Rattle.merging.proofs.naming.names_known.Goals as goal

pub returns-in_default-clause-names : goal.returns-in_default-clause-names
returns-in_default-clause-names c =
    let front = known_front c.args.table.now.slots in
    c.loop-stamp.invariant.names
    ∙ ap (λ n. names_of c.args.limits.memory (take n front))
    (sym (known_front-none c.args.table.now.slots c.loop-stamp.stamp c.loop-stamp.invariant.within (sym c.in_default.ensures.seen)))
    ∙ ap (names_of c.args.limits.memory) (take-length front)

pub returns-in_err-take_names-clause-fault : goal.returns-in_err-take_names-clause-fault
returns-in_err-take_names-clause-fault c =
    let front = known_front c.args.table.now.slots in
    let slot = happened_seen c.in-Some.slot in
    let is : slice_get front c.loop-stamp.stamp ≡ Some slot =
    known_front-some c.args.table.now.slots c.loop-stamp.stamp slot c.loop-stamp.invariant.within (sym c.in-Some.ensures.seen) in
    let p = err_from_is_err_and c.from_residual.result c.from_residual.ensures.1 in
    rw (p.1, p.2)
    (IsUnnamed-next c.args.limits front c.loop-stamp.stamp slot c.loop-stamp.names (lasts_in c.loop-stamp.lasts) c.in_err-take_names.field-0.0 is
    c.loop-stamp.invariant.names c.loop-stamp.invariant.few c.loop-stamp.invariant.lasts c.in_err-take_names.ensures.fault)

pub loop-stamp-preserved : goal.loop-stamp-preserved
loop-stamp-preserved c =
    let front = known_front c.args.table.now.slots in
    let slot = happened_seen c.in-Some.slot in
    let is : slice_get front c.loop-stamp.stamp ≡ Some slot =
    known_front-some c.args.table.now.slots c.loop-stamp.stamp slot c.loop-stamp.invariant.within (sym c.in-Some.ensures.seen) in
    record {
      within = omega (arith, slice_get_within front c.loop-stamp.stamp slot is);
      names = c.in_ok-take_names.ensures.ok
          ∙ (λ i. names_from (c.loop-stamp.invariant.names i)
          (moment_addresses c.args.limits.memory (c.loop-stamp.invariant.lasts i slot.cpu) slot.moment))
          ∙ sym (names_of-next c.args.limits.memory front c.loop-stamp.stamp slot is);
      few = c.in_ok-take_names.ensures.few c.loop-stamp.invariant.few;
      lasts = c.take.ensures ∙ ap (λ ls. lasts_with ls slot) c.loop-stamp.invariant.lasts ∙ sym (lasts_after-next front c.loop-stamp.stamp slot is);
    }

pub returns-clause-names : goal.returns-clause-names
returns-clause-names c =
    let front = known_front c.args.table.now.slots in
    let whole : c.loop-stamp.stamp ≡ length front =
    omega (
      arith,
      length-known_front c.args.table.now.slots,
      c.loop-stamp.invariant.within,
      c.len-stamp-end.ensures.len,
      c.loop-stamp-test.false,
    ) in
    c.loop-stamp.invariant.names ∙ ap (λ n. names_of c.args.limits.memory (take n front)) whole
    ∙ ap (names_of c.args.limits.memory) (take-length front)
