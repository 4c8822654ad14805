use Rattle.spec_machine.proofs.Common.{◌+◌, ◌-◌, ◌/◌, ◌<◌, ◌≡◌, arith, entry_number, refl, state_in, subst, sym}
use Rattle.std.specs.Option.{option_copied}
use Rattle.spec_machine.specs.Searches.{IsTable}
use Rattle.spec_machine.proofs.FreeTables.{reached-free}
use Rattle.spec_machine.proofs.Stretches.{end-order, in_table, reached-no_end, reached-fails, reached-more, reached-all}
use Rattle.spec_machine.proofs.machine.Machine.is_reached.Goals as goal

pub returns-then-not-is_end : goal.returns-then-not-is_end
returns-then-not-is_end c = reached-no_end (state_in c.args.self.now.granules) c.args.stretch.now c.args.top (sym c.if-not-is_end.ensures)

pub returns-then-is_free : goal.returns-then-is_free
returns-then-is_free c =
    reached-free c.args.self.now.granules c.args.self.now.shaped c.args.stretch.now c.args.top c.requires (sym c.if-not-is_end.ensures)
    c.entry_number-first.result (option_copied c.table_here-table.result)
    c.entry_number-first.ensures.number c.table_here-table.ensures (c.if-is_free.ensures refl)

pub overflow_sub-top : goal.overflow_sub-top
overflow_sub-top c = omega (arith, end-order c.args.stretch.now c.args.top (sym c.if-not-is_end.ensures))

pub overflow_add-first : goal.overflow_add-first
overflow_add-first c = omega (arith, c.entry_number-first.ensures.small, c.entry_number-count.ensures.small, c.loop-place-test.true)

pub entry_in-entry-requires : goal.entry_in-entry-requires
entry_in-entry-requires c =
    let stretch = c.args.stretch.now in
    let below : c.loop-place.place < entry_number stretch.level (c.args.top - stretch.base) =
    rw (← c.entry_number-count.ensures.number) c.loop-place-test.true in
    let same : (c.entry_number-first.result + c.loop-place.place) / 512 ≡ c.entry_number-first.result / 512 =
    rw c.entry_number-first.ensures.number (in_table stretch c.args.top c.loop-place.place c.requires (sym c.if-not-is_end.ensures) below) in
    subst (λ n. IsTable c.args.self.now.granules stretch.rd stretch.level n (option_copied c.table_here-table.result)) (sym same)
    c.table_here-table.ensures

pub returns-then-not-can_be_set : goal.returns-then-not-can_be_set
returns-then-not-can_be_set c =
    let stretch = c.args.stretch.now in
    let below : c.loop-place.place < entry_number stretch.level (c.args.top - stretch.base) =
    rw (← c.entry_number-count.ensures.number) c.loop-place-test.true in
    reached-fails (state_in c.args.self.now.granules) stretch c.args.top c.entry_number-first.result c.loop-place.place c.entry_in-entry.result below
    c.entry_number-first.ensures.number c.entry_in-entry.ensures c.if-not-can_be_set.ensures

pub loop-place-preserved : goal.loop-place-preserved
loop-place-preserved c =
    reached-more (state_in c.args.self.now.granules) c.args.stretch.now c.entry_number-first.result c.loop-place.place c.entry_in-entry.result
    c.loop-place.invariant c.entry_number-first.ensures.number c.entry_in-entry.ensures c.if-not-can_be_set.ensures

pub returns : goal.returns
returns c =
    reached-all (state_in c.args.self.now.granules) c.args.stretch.now c.args.top c.loop-place.place (sym c.if-not-is_end.ensures)
    (omega (arith, c.entry_number-count.ensures.number, c.loop-place-test.false, c.loop-place.auto.place-end)) c.loop-place.invariant
