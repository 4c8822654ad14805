use Rattle.std.proofs.Common.{Some, ap, sym, ◌∙◌, subst}
use Rattle.rmm_spec.specs.declared.event.Event.{Event}
use Rattle.history.proofs.EntryLaws.{IsEntryAt, IsEntryAt-read, event_of-numbered, within_entries}
use Rattle.history.proofs.history.History.event.Goals as goal

pub index-requires : goal.index-requires
index-requires c =
    within_entries c.self.inside.words.items c.self.inside.entries c.args.self.now.recorded.events c.args.place
    (ap (λ recording. recording.recorded.events) c.self.view_is) c.requires

pub event_of-requires : goal.event_of-requires
event_of-requires c =
    let inside = c.self.inside in
    let at =
    subst (λ ws. IsEntryAt ws c.args.self.now.recorded.events c.args.place c.index.result.now) (sym c.deref.ensures.value)
    (IsEntryAt-read inside.words.items inside.entries.items c.args.self.now.recorded.events c.args.place c.index.result.now c.self.invariant.held
    (ap (λ recording. recording.recorded.events) c.self.view_is) c.requires c.index.ensures) in
    at.has_words

pub returns : goal.returns
returns c =
    let inside = c.self.inside in
    let at =
    subst (λ ws. IsEntryAt ws c.args.self.now.recorded.events c.args.place c.index.result.now) (sym c.deref.ensures.value)
    (IsEntryAt-read inside.words.items inside.entries.items c.args.self.now.recorded.events c.args.place c.index.result.now c.self.invariant.held
    (ap (λ recording. recording.recorded.events) c.self.view_is) c.requires c.index.ensures) in
    event_of-numbered c.deref.result.now c.args.self.now.recorded.events c.args.place c.number_at.result c.index.result.now at c.number_at.ensures
    ∙ ap (λ (e : Event). Some e) (sym (c.to_event.ensures ∙ c.event_of.ensures.event))
