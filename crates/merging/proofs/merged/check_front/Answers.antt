use Rattle.merging.proofs.Common.{◌+◌, ◌<◌, ◌∙◌, ◌≡◌, ◌≤◌, Some, ap, arith, happened_seen, known_front, lasts_in, length, no_lasts, slice_get, stand_at, stands_in, starts, subst, sym, ℕ}
use Rattle.std.proofs.lemmas.Option.{none-some}
use Rattle.merging.specs.Renamed.{lasts_with}
use Rattle.merging.specs.Merge.{IsWalkedTo}
use Rattle.merging.specs.Naming.{events_named, told_slot}
use Rattle.merging.specs.Refusals.{Refuses, IsRefused}
use Rattle.merging.specs.Seen.{walked_seen}
use Rattle.merging.proofs.NamingLaws.{told-at, named_slot-cpu, named_slot-line, length-named_from, lasts_after-next}
use Rattle.merging.proofs.RunLaws.{known_front-some, known_front-slot_at, length-known_front, IsWalkedTo-begun, IsWalkedTo-next, CanMerge-walked, AreFew-walked}
use Rattle.merging.proofs.StepLaws.{IsRefused-next, stands_in-start}
use Rattle.merging.proofs.merged.check_front.Goals as goal

pub loop-stamp-init : goal.loop-stamp-init
loop-stamp-init c =
    let start : stand_at (stands_in c.idle_cpus.result) ≡ starts =
    stands_in-start c.idle_cpus.result (λ at other below. c.idle_cpus.ensures.each at other (omega (arith, below, c.idle_cpus.ensures.counted))) in
    record { walked = IsWalkedTo-begun _ _ _ start; lasts = c.new-lasts.ensures }

pub unreachable-requires : goal.unreachable-requires
unreachable-requires c =
    let within : c.loop-stamp.stamp < length (known_front c.args.table.now.slots) = omega (arith, c.loop-stamp-test.true, c.requires) in
    let known = known_front-slot_at c.args.table.now.slots c.loop-stamp.stamp within in
    none-some known.0 (c.in_default.ensures.seen ∙ known.1)

pub step_told-requires-clause-small : goal.step_told-requires-clause-small
step_told-requires-clause-small c =
    let walked = c.loop-stamp.invariant.walked in
    let below : c.loop-stamp.stamp ≤ 2000000 =
    omega (
      arith,
      c.loop-stamp-test.true,
      c.requires,
      length-known_front c.args.table.now.slots,
      c.len-fact.ensures.len,
      c.len-fact.ensures.most,
    ) in
    record { stands = AreFew-walked _ c.loop-stamp.stamp _ walked.stands below; events = walked.few_events; lines = walked.few_lines }

pub returns-in-Err-clause-fault : goal.returns-in-Err-clause-fault
returns-in-Err-clause-fault c =
    let slot = happened_seen c.in-Some.slot in
    let front = known_front c.args.table.now.slots in
    let stamp = c.loop-stamp.stamp in
    let events = events_named c.args.naming.now c.args.config.granules front in
    let told = told_slot c.args.naming.now c.granules-granules.result (lasts_in c.loop-stamp.lasts) slot in
    let cpus = c.cpus-count.ensures.count in
    let walked = walked_seen c.loop-stamp.walk in
    let within : stamp ≤ length front = omega (arith, c.loop-stamp-test.true, c.requires) in
    let is : slice_get front stamp ≡ Some slot = known_front-some c.args.table.now.slots stamp slot within (sym c.in-Some.ensures.seen) in
    let event_is : slice_get events stamp ≡ Some told =
    told-at c.args.naming.now c.args.config.granules c.granules-granules.result
    (lasts_in c.loop-stamp.lasts) front stamp slot is c.granules-granules.ensures.count
    c.loop-stamp.invariant.lasts in
    let last = lasts_in c.loop-stamp.lasts slot.cpu in
    let refused = subst (λ (cpu : ℕ). Refuses c.cpus-count.result walked.events walked.lines (stand_at walked.stands cpu) told c.in-Err.refusal)
    (sym (named_slot-cpu c.args.naming.now c.granules-granules.result last slot)) c.in-Err.ensures.refused in
    subst (λ (n : ℕ). IsRefused n events slot.line c.in-Err.refusal) cpus
    (IsRefused-next events stamp told c.cpus-count.result walked slot.line c.in-Err.refusal
    (subst (λ (n : ℕ). IsWalkedTo stamp events n walked) (sym cpus) c.loop-stamp.invariant.walked) event_is
    (sym (named_slot-line c.args.naming.now c.granules-granules.result last slot)) refused)

pub loop-stamp-preserved : goal.loop-stamp-preserved
loop-stamp-preserved c =
    let slot = happened_seen c.in-Some.slot in
    let front = known_front c.args.table.now.slots in
    let stamp = c.loop-stamp.stamp in
    let events = events_named c.args.naming.now c.args.config.granules front in
    let told = told_slot c.args.naming.now c.granules-granules.result (lasts_in c.loop-stamp.lasts) slot in
    let cpus = c.cpus-count.ensures.count in
    let walked = walked_seen c.loop-stamp.walk in
    let next = walked_seen c.step_told.new.walk in
    let within : stamp ≤ length front = omega (arith, c.loop-stamp-test.true, c.requires) in
    let is : slice_get front stamp ≡ Some slot = known_front-some c.args.table.now.slots stamp slot within (sym c.in-Some.ensures.seen) in
    let event_is : slice_get events stamp ≡ Some told =
    told-at c.args.naming.now c.args.config.granules c.granules-granules.result
    (lasts_in c.loop-stamp.lasts) front stamp slot is c.granules-granules.ensures.count
    c.loop-stamp.invariant.lasts in
    record {
      walked = subst (λ (n : ℕ). IsWalkedTo (stamp + 1) events n next) cpus
          (IsWalkedTo-next stamp events told c.cpus-count.result walked next
          (subst (λ (n : ℕ). IsWalkedTo stamp events n walked) (sym cpus) c.loop-stamp.invariant.walked) event_is c.step_told.ensures.happened
          c.in_default-step_told.ensures.ok);
      lasts = c.take.ensures ∙ ap (λ ls. lasts_with ls slot) c.loop-stamp.invariant.lasts ∙ sym (lasts_after-next front stamp slot is);
    }

pub returns-clause-ok : goal.returns-clause-ok
returns-clause-ok c =
    let front = known_front c.args.table.now.slots in
    let whole : c.loop-stamp.stamp ≡ length (events_named c.args.naming.now c.args.config.granules front) =
    omega (
      arith,
      c.loop-stamp-test.false,
      c.loop-stamp.auto.stamp-end,
      c.requires,
      length-named_from c.args.naming.now c.args.config.granules no_lasts front,
    ) in
    CanMerge-walked c.loop-stamp.stamp _ c.args.config.cpus (walked_seen c.loop-stamp.walk) whole c.loop-stamp.invariant.walked
