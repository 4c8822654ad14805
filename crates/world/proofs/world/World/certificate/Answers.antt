use Rattle.world.proofs.Common.{◌++◌, ◌∙◌, ◌∷◌, [], ap, arith, get_or, subst, sym, views_of, world_from, world_of}
use Rattle.std.proofs.lemmas.List.{map_more}
use Rattle.std.proofs.lemmas.Option.{get_or_from_slice_get}
use Rattle.rmm_spec.specs.CertificateText.{IsLine}
use Rattle.rmm_spec.specs.declared.line.Line.{Line}
use Rattle.rmm_spec.specs.World.{line_for}
use Rattle.command_log.specs.Log.{logged_seen}
use Rattle.world.specs.Journal.{commitment_of}
use Rattle.world.proofs.Lines.{known-reached, line-reached, room-reached}
use Rattle.world.proofs.world.World.certificate.Goals as goal

pub line_for-requires-clause-known : goal.line_for-requires-clause-known
unfolding world_of world_from
line_for-requires-clause-known c =
    let s = c.args.self.now in
    known-reached s.history.recorded.config (world_of s) (views_of s.cpus).waits s.kept.reached c.loop-place.place
    (commitment_of (logged_seen c.commit-commit.result)) c.commit-commit.ensures.commit

pub push-requires-clause-is_line : goal.push-requires-clause-is_line
unfolding world_of world_from
push-requires-clause-is_line c =
    let s = c.args.self.now in
    subst IsLine (sym c.line_for.ensures)
    (line-reached s.history.recorded.config (world_of s) (views_of s.cpus).waits s.kept.reached c.loop-place.place
    (commitment_of (logged_seen c.commit-commit.result)) c.well_formed-fact.ensures.config c.commit-commit.ensures.commit)

pub push-requires-clause-room : goal.push-requires-clause-room
unfolding world_of world_from
push-requires-clause-room c =
    let s = c.args.self.now in
    room-reached s.history.recorded.config (world_of s) (views_of s.cpus).waits s.kept.reached c.loop-place.place c.loop-place.lines.lines
    c.well_formed-fact.ensures.config (omega (arith, c.loop-place-test.true, c.len-place-end.ensures)) c.loop-place.invariant

pub loop-place-preserved : goal.loop-place-preserved
loop-place-preserved c =
    let s = c.args.self.now in
    let place = c.loop-place.place in
    let commit = commitment_of (logged_seen c.commit-commit.result) in
    let line = line_for s.history.recorded.events in
    let read = sym (get_or_from_slice_get s.journal.items place commit commit c.commit-commit.ensures.commit) in
    c.in_ok-push.ensures.ok ∙ ap (λ (x : Line). c.loop-place.lines.lines ++ x ∷ []) (c.line_for.ensures ∙ ap line read)
    ∙ ap (λ lines. lines ++ line (get_or s.journal.items place commit) ∷ []) c.loop-place.invariant
    ∙ sym (map_more line s.journal.items place commit (omega (arith, c.loop-place-test.true, c.len-place-end.ensures)))
