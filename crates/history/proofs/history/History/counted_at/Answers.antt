-- The entry at the place is of the CPU whose count is the rank of its event.
use Rattle.std.proofs.Common.{ap, arith}
use Rattle.history.proofs.CountLaws.{cpu_within, count_few, event_counted, AreCounts-next}
use Rattle.history.proofs.EntryLaws.{IsEntryAt-read, within_entries}
use Rattle.history.proofs.history.History.counted_at.Goals as goal

pub index-requires : goal.index-requires
index-requires c =
    within_entries c.self.inside.words.items c.self.inside.entries c.args.self.now.recorded.events c.args.place
    (ap (λ recording. recording.recorded.events) c.self.view_is) c.requires.place

pub counted_event-requires : goal.counted_event-requires
counted_event-requires c =
    let inside = c.self.inside in
    let history = c.args.self.now.recorded in
    let at =
    IsEntryAt-read inside.words.items inside.entries.items history.events c.args.place c.index.result.now c.self.invariant.held
    (ap (λ recording. recording.recorded.events) c.self.view_is) c.requires.place c.index.ensures in
    let few =
    count_few history inside.words.items c.args.place c.index.result.now c.args.counts.now c.well_formed-fact.ensures at c.requires.counts in
    record {
      words = rw c.deref.ensures.value at.has_words;
      cpu = cpu_within history inside.words.items c.args.place c.index.result.now c.well_formed-fact.ensures at;
      few = omega (arith, few);
    }

pub returns : goal.returns
returns c =
    let inside = c.self.inside in
    let history = c.args.self.now.recorded in
    let at =
    IsEntryAt-read inside.words.items inside.entries.items history.events c.args.place c.index.result.now c.self.invariant.held
    (ap (λ recording. recording.recorded.events) c.self.view_is) c.requires.place c.index.ensures in
    record {
      few = c.counted_event.ensures.few;
      event = rw (c.counted_event.ensures.event, c.deref.ensures.value)
          (event_counted history inside.words.items c.args.place c.index.result.now
          c.args.counts.now c.well_formed-fact.ensures at c.requires.counts);
      counts = rw c.counted_event.ensures.counts
          (AreCounts-next history inside.words.items c.args.place c.index.result.now
          c.args.counts.now c.well_formed-fact.ensures at c.requires.counts);
    }
