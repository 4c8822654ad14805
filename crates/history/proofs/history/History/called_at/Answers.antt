use Rattle.std.proofs.Common.{Some, ap, sym, ◌∙◌}
use Rattle.std.proofs.lemmas.Option.{same_Some}
use Rattle.history.proofs.EntryLaws.{IsEntryAt-read, event_of-numbered, event_of-no_call, within_entries}
use Rattle.history.specs.Entry.{event_of, stretch, words_at}
use Rattle.history.proofs.history.History.called_at.Goals as goal

pub index-requires : goal.index-requires
index-requires c =
    within_entries c.self.inside.words.items c.self.inside.entries c.args.self.now.recorded.events c.args.place
    (ap (λ recording. recording.recorded.events) c.self.view_is) c.requires

pub returns-clause-some : goal.returns-clause-some
returns-clause-some c =
    let inside = c.self.inside in
    let at =
    IsEntryAt-read inside.words.items inside.entries.items c.args.self.now.recorded.events c.args.place c.index.result.now c.self.invariant.held
    (ap (λ recording. recording.recorded.events) c.self.view_is) c.requires c.index.ensures in (
      record { function = c.in-Called.function; words = words_at inside.words.items (stretch c.in-Called.first c.in-Called.count) },
      event_of-numbered inside.words.items c.args.self.now.recorded.events c.args.place c.number_at.result c.index.result.now at c.number_at.ensures
          ∙ ap (λ h. Some (event_of inside.words.items c.number_at.result h)) c.in-Called.is,
    )

pub returns-in_default : goal.returns-in_default
returns-in_default c = record {
  some = tt;
  none = λ cpu number command is_called.
      let inside = c.self.inside in
      let at =
      IsEntryAt-read inside.words.items inside.entries.items c.args.self.now.recorded.events c.args.place c.index.result.now c.self.invariant.held
      (ap (λ recording. recording.recorded.events) c.self.view_is) c.requires c.index.ensures in
      event_of-no_call inside.words.items at.number c.index.result.now c.in_default.not-Called cpu number command
      (same_Some _ _ (sym at.is_event ∙ is_called));
}
