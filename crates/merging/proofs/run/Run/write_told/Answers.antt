use Rattle.merging.proofs.Common.{◌<◌, ◌∙◌, ◌≡◌, Appends, Happened, Stand, ap, arith, event_parts, events_of, happened_seen, known_front, lasts_in, length, line_parts, lines_of, lines_text, map, returns_in, stand_at, stand_seen, stands_in, subst, sym, ℕ}
use Rattle.std.proofs.Common.{get_or}
use Rattle.std.proofs.lemmas.List.{get_or_default}
use Rattle.std.proofs.lemmas.Result.{err_from_is_err_and}
use Rattle.merging.specs.Merge.{event_lines, commit_lines}
use Rattle.merging.specs.Naming.{events_named, named_slot, told_slot}
use Rattle.merging.proofs.CutLaws.{IsCut-told}
use Rattle.merging.proofs.NamingLaws.{AreReturns-named}
use Rattle.merging.proofs.StepLaws.{stands_in-at}
use Rattle.merging.proofs.run.Run.write_told.Goals as goal

pub returns-clause-history : goal.returns-clause-history
returns-clause-history g c =
    let slot = happened_seen c.args.slot in
    let event = happened_seen c.named-event.result in
    let naming = c.self.inside.naming in
    let cpus = c.args.cpus.now in
    let at = c.from-at.result in
    let cpu = get_or cpus at c.index-cpus-at.result in
    let within : at < length cpus = omega (arith, c.from-at.ensures, c.named-event.ensures.happened.cpu, c.told-cpus) in
    let stand : stand_at (stands_in cpus) event.cpu ≡ stand_seen cpu =
    ap (stand_at (stands_in cpus)) (sym c.from-at.ensures) ∙ stands_in-at cpus at cpu within (get_or_default cpus at _ cpu within) in
    let same : event ≡ told_slot naming c.self.inside.config.granules (lasts_in c.args.lasts.now) slot =
    c.named-event.ensures.seen ∙ ap (λ (n : ℕ). named_slot naming n (lasts_in c.args.lasts.now slot.cpu) slot) c.granules.ensures.count in
    rw (← c.self.view_is) (subst (λ (e : Happened). Appends c.args.history.now.contents c.write_moment.new.history.contents
    (event_lines (stand_at (stands_in cpus)) e)) same
    (subst (λ (s : Stand). Appends c.args.history.now.contents c.write_moment.new.history.contents
    (lines_text (map event_parts (events_of s event.cpu event.moment)))) (sym stand) c.in_ok-write_moment.ensures.history))

pub returns-clause-certificate : goal.returns-clause-certificate
returns-clause-certificate g c =
    let slot = happened_seen c.args.slot in
    let event = happened_seen c.named-event.result in
    let naming = c.self.inside.naming in
    let granules = c.self.inside.config.granules in
    let front = known_front c.self.inside.table.slots in
    let counts = c.self.inside.front.returns in
    let returns = λ (cpu : ℕ). returns_in cpu (events_named naming granules front) in
    let cpus = c.args.cpus.now in
    let at = c.from-at.result in
    let cpu = get_or cpus at c.index-cpus-at.result in
    let within : at < length cpus = omega (arith, c.from-at.ensures, c.named-event.ensures.happened.cpu, c.told-cpus) in
    let stand : stand_at (stands_in cpus) event.cpu ≡ stand_seen cpu =
    ap (stand_at (stands_in cpus)) (sym c.from-at.ensures) ∙ stands_in-at cpus at cpu within (get_or_default cpus at _ cpu within) in
    let counted : get_or counts at 0 ≡ returns event.cpu =
    ap (λ (k : ℕ). get_or counts k 0) c.from-at.ensures
    ∙ (AreReturns-named counts naming granules front c.self.invariant.returns).each event.cpu c.named-event.ensures.happened.cpu in
    let same : event ≡ told_slot naming granules (lasts_in c.args.lasts.now) slot =
    c.named-event.ensures.seen ∙ ap (λ (n : ℕ). named_slot naming n (lasts_in c.args.lasts.now slot.cpu) slot) c.granules.ensures.count in
    rw (← c.self.view_is) (subst (λ (e : Happened). Appends c.args.certificate.now.contents c.write_moment.new.certificate.contents
    (commit_lines returns (stand_at (stands_in cpus)) e)) same
    (subst (λ (s : Stand). Appends c.args.certificate.now.contents c.write_moment.new.certificate.contents
    (lines_text (map line_parts (lines_of (returns event.cpu) s event.cpu event.moment)))) (sym stand)
    (subst (λ (n : ℕ). Appends c.args.certificate.now.contents c.write_moment.new.certificate.contents
    (lines_text (map line_parts (lines_of n (stand_seen cpu) event.cpu event.moment)))) counted c.in_ok-write_moment.ensures.certificate)))

pub write_moment-requires-clause-numbered : goal.write_moment-requires-clause-numbered
write_moment-requires-clause-numbered g c =
    let cpus = c.args.cpus.now in
    let at = c.from-at.result in
    let cpu = get_or cpus at c.index-cpus-at.result in
    let within : at < length cpus = omega (arith, c.from-at.ensures, c.named-event.ensures.happened.cpu, c.told-cpus) in
    subst (λ (s : Stand). s.calls < 1000000) (stands_in-at cpus at cpu within (get_or_default cpus at _ cpu within)) (c.requires.numbered at)

pub returns-in_err-write_moment-clause-fault : goal.returns-in_err-write_moment-clause-fault
returns-in_err-write_moment-clause-fault g c =
    let slot = happened_seen c.args.slot in
    let event = happened_seen c.named-event.result in
    let naming = c.self.inside.naming in
    let granules = c.self.inside.config.granules in
    let front = known_front c.self.inside.table.slots in
    let counts = c.self.inside.front.returns in
    let returns = λ (cpu : ℕ). returns_in cpu (events_named naming granules front) in
    let cpus = c.args.cpus.now in
    let at = c.from-at.result in
    let cpu = get_or cpus at c.index-cpus-at.result in
    let within : at < length cpus = omega (arith, c.from-at.ensures, c.named-event.ensures.happened.cpu, c.told-cpus) in
    let stand : stand_at (stands_in cpus) event.cpu ≡ stand_seen cpu =
    ap (stand_at (stands_in cpus)) (sym c.from-at.ensures) ∙ stands_in-at cpus at cpu within (get_or_default cpus at _ cpu within) in
    let counted : get_or counts at 0 ≡ returns event.cpu =
    ap (λ (k : ℕ). get_or counts k 0) c.from-at.ensures
    ∙ (AreReturns-named counts naming granules front c.self.invariant.returns).each event.cpu c.named-event.ensures.happened.cpu in
    let same : event ≡ told_slot naming granules (lasts_in c.args.lasts.now) slot =
    c.named-event.ensures.seen ∙ ap (λ (n : ℕ). named_slot naming n (lasts_in c.args.lasts.now slot.cpu) slot) c.granules.ensures.count in
    let p = err_from_is_err_and c.from_residual.result c.from_residual.ensures.1 in
    rw (← c.self.view_is, p.1, p.2)
    (IsCut-told _ _ (stand_at (stands_in cpus)) returns event _ (stand_seen cpu) _ same stand counted c.in_err-write_moment.ensures.fault)
