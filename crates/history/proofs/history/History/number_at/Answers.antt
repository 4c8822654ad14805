-- The event at the place is of the CPU that the entry names, and half its rank is its number.
use Rattle.std.proofs.Common.{◌==◌, ap, sym, ◌∙◌, arith, subst}
use Rattle.std.proofs.lemmas.List.Sums.{length-filter, count_by-le-length}
use Rattle.rmm_spec.specs.HistoryText.{cpu_of}
use Rattle.spec_lemmas.proofs.Places.{IsEvent-slice_get, cpu_below}
use Rattle.history.specs.Entry.{event_of}
use Rattle.history.specs.Index.{HasRank}
use Rattle.history.proofs.EntryLaws.{IsEntryAt-read, cpu_of-event_of, within_entries}
use Rattle.history.proofs.SubhistoryLaws.{places-rise, place_of_event, call_number-ranked}
use Rattle.history.proofs.history.History.number_at.Goals as goal

pub index-requires : goal.index-requires
index-requires c =
    within_entries c.self.inside.words.items c.self.inside.entries c.args.self.now.recorded.events c.args.place
    (ap (λ recording. recording.recorded.events) c.self.view_is) c.requires

pub unreachable-requires : goal.unreachable-requires
unreachable-requires c =
    let inside = c.self.inside in
    let history = c.args.self.now.recorded in
    let is_history = c.subhistory.ensures.history in
    let at =
    IsEntryAt-read inside.words.items inside.entries.items c.args.self.now.recorded.events c.args.place c.index.result.now c.self.invariant.held
    (ap (λ recording. recording.recorded.events) c.self.view_is) c.requires c.index.ensures in
    let event = event_of inside.words.items at.number c.index.result.now in
    let below =
    cpu_below history.config.cpus event (IsEvent-slice_get history.config.cpus history.events c.args.place event is_history.events at.is_event) in
    omega (arith, below, cpu_of-event_of inside.words.items at.number c.index.result.now, c.entry_cpu.ensures, c.in_default.ensures.none)

pub rank_of-requires-clause-rising : goal.rank_of-requires-clause-rising
rank_of-requires-clause-rising c =
    places-rise c.args.self.now.recorded.events c.entry_cpu.result c.in-Some.subhistory.now c.in-Some.ensures.some.1
    (c.subhistory.ensures.history.records c.entry_cpu.result)

pub rank_of-requires-clause-found : goal.rank_of-requires-clause-found
rank_of-requires-clause-found c =
    let inside = c.self.inside in
    let events = c.args.self.now.recorded.events in
    let at =
    IsEntryAt-read inside.words.items inside.entries.items c.args.self.now.recorded.events c.args.place c.index.result.now c.self.invariant.held
    (ap (λ recording. recording.recorded.events) c.self.view_is) c.requires c.index.ensures in
    place_of_event events c.entry_cpu.result c.args.place (event_of inside.words.items at.number c.index.result.now) c.in-Some.subhistory.now
    c.in-Some.ensures.some.1 (c.subhistory.ensures.history.records c.entry_cpu.result) at.is_event
    (cpu_of-event_of inside.words.items at.number c.index.result.now ∙ sym c.entry_cpu.ensures)

pub overflow_cast-place : goal.overflow_cast-place
overflow_cast-place c = let few = c.subhistory.ensures.history.lines in omega (arith, c.requires, few)

pub overflow_cast-result : goal.overflow_cast-result
overflow_cast-result c =
    let events = c.args.self.now.recorded.events in
    let cpu = c.entry_cpu.result in
    let few = c.subhistory.ensures.history.lines in
    let is_subhistory = c.in-Some.ensures.some.1 in
    omega (
      arith,
      few,
      c.rank_of.ensures.within,
      is_subhistory.counted,
      length-filter (λ event. cpu_of event == cpu) events,
      count_by-le-length (λ event. cpu_of event == cpu) events,
    )

pub returns : goal.returns
returns c = λ event is_event.
    let is_subhistory = c.in-Some.ensures.some.1 in
    let ranked = is_subhistory.each c.rank_of.result c.rank_of.ensures.within in
    call_number-ranked c.args.self.now.recorded.events c.entry_cpu.result c.rank_of.result c.args.place event
    (subst (HasRank c.args.self.now.recorded.events c.entry_cpu.result c.rank_of.result) c.rank_of.ensures.place ranked) is_event
