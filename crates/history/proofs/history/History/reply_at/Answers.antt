-- The entry at the place has its words, and stands for the event there.
use Rattle.std.proofs.Common.{Some, ap, sym, ◌∙◌, subst}
use Rattle.std.proofs.lemmas.Option.{IfSome_then, same_Some}
use Rattle.rmm_spec.specs.declared.event.Event.{Event}
use Rattle.history.specs.Entry.{entry_cpu}
use Rattle.history.proofs.EntryLaws.{IsEntryAt, IsEntryAt-read, IfNone_then, within_entries}
use Rattle.history.proofs.history.History.reply_at.Goals as goal

pub index-requires : goal.index-requires
index-requires c =
    within_entries c.self.inside.words.items c.self.inside.entries c.args.self.now.recorded.events c.args.place
    (ap (λ recording. recording.recorded.events) c.self.view_is) c.requires

pub reply_of-requires : goal.reply_of-requires
reply_of-requires c =
    let inside = c.self.inside in
    let at =
    subst (λ ws. IsEntryAt ws c.args.self.now.recorded.events c.args.place c.index.result.now) (sym c.deref.ensures.value)
    (IsEntryAt-read inside.words.items inside.entries.items c.args.self.now.recorded.events c.args.place c.index.result.now c.self.invariant.held
    (ap (λ recording. recording.recorded.events) c.self.view_is) c.requires c.index.ensures) in
    at.has_words

pub returns-clause-some : goal.returns-clause-some
returns-clause-some c =
    let inside = c.self.inside in
    let at =
    subst (λ ws. IsEntryAt ws c.args.self.now.recorded.events c.args.place c.index.result.now) (sym c.deref.ensures.value)
    (IsEntryAt-read inside.words.items inside.entries.items c.args.self.now.recorded.events c.args.place c.index.result.now c.self.invariant.held
    (ap (λ recording. recording.recorded.events) c.self.view_is) c.requires c.index.ensures) in
    IfSome_then c.reply_of.result c.reply_of.ensures.some
    (λ given is. (entry_cpu c.index.result.now, at.number, at.is_event ∙ ap (λ (e : Event). Some e) (is at.number)))

pub returns-clause-none : goal.returns-clause-none
returns-clause-none c =
    let inside = c.self.inside in
    let at =
    subst (λ ws. IsEntryAt ws c.args.self.now.recorded.events c.args.place c.index.result.now) (sym c.deref.ensures.value)
    (IsEntryAt-read inside.words.items inside.entries.items c.args.self.now.recorded.events c.args.place c.index.result.now c.self.invariant.held
    (ap (λ recording. recording.recorded.events) c.self.view_is) c.requires c.index.ensures) in
    IfNone_then c.reply_of.result c.reply_of.ensures.none
    (λ none cpu number given is. none at.number cpu number given (same_Some _ _ (sym at.is_event ∙ is)))
