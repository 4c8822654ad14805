use Rattle.std.proofs.Common.{◌≡◌, ℕ, ◌<◌, List, length, Some, arith}
use Rattle.std.specs.List.{slice_get}
use Rattle.std.proofs.lemmas.Option.{slice_get_within}
use Rattle.history.proofs.history.History.call_of.Goals as goal

few_lines : {A : Type 0} (xs : List A) (place : ℕ) (x : A) → length xs < 1000000 → slice_get xs place ≡ Some x → place < 1000000
few_lines xs place x few there = omega (arith, few, slice_get_within xs place x there)

pub command_at-requires : goal.command_at-requires
command_at-requires c =
    let made = c.in_ok-called.ensures.some.called in
    slice_get_within c.args.self.now.recorded.events c.in_ok-called.field-0.called _ made.1

pub unreachable-requires : goal.unreachable-requires
unreachable-requires c =
    let made = c.in_ok-called.ensures.some.called in
    (rw c.in_default.is at c.command_at.ensures.none) c.args.cpu c.args.number made.0 made.1

pub reply_at-requires : goal.reply_at-requires
reply_at-requires c =
    let told = rw c.in-Some-returned.is at c.in_ok-called.ensures.some.returned in
    slice_get_within c.args.self.now.recorded.events c.in-Some-returned.returned _ told.1

pub unreachable-requires-in_default-reply_at : goal.unreachable-requires-in_default-reply_at
unreachable-requires-in_default-reply_at c =
    let told = rw c.in-Some-returned.is at c.in_ok-called.ensures.some.returned in
    (rw c.in_default-reply_at.is at c.reply_at.ensures.none) c.args.cpu c.args.number told.0 told.1

pub line_at-requires : goal.line_at-requires
line_at-requires c =
    let told = rw c.in-Some-returned.is at c.in_ok-called.ensures.some.returned in
    few_lines c.args.self.now.recorded.events c.in-Some-returned.returned _ c.well_formed-fact.ensures.lines told.1

pub line_at-requires-2 : goal.line_at-requires-2
line_at-requires-2 c =
    few_lines c.args.self.now.recorded.events c.in_ok-called.field-0.called _ c.well_formed-fact.ensures.lines c.in_ok-called.ensures.some.called.1
