use Rattle.monitor.proofs.Common.{◌≡◌, sym, ap, ◌∙◌, subst, rules, IfOk, place_of, hold_cells, AreGranules, Done, CpuView, committed, WereHeld, MonitorView, WereTaken}
use Rattle.monitor.proofs.Causes.{were-taken, were-held, granules-kept, fault-had_cause}
use Rattle.monitor.proofs.Passes.{stepped}
use Rattle.monitor.proofs.monitor.Monitor.commit_locked.Given.{Over}
use Rattle.monitor.proofs.monitor.Monitor.commit_locked.Goals as goal

is_site : (g : Over) (c : goal.After-free_all-arg-1 g) → c.args.self.now.config ≡ g.S.Site.config
is_site g c = sym (ap (λ (m : MonitorView). m.config) c.self.view_is) ∙ c.self.invariant.1

-- what is held was taken for the command
taken : (g : Over) (c : goal.After-free_all-arg-1 g)
    → WereTaken c.args.self.now.config c.args.gated.now.command.now c.args.token.now (hold_cells c.lock_for.new.hold)
taken g c = were-taken c.args.self.now.config _ _ c.args.gated.now.command.now c.args.token.now
    (place_of c.place-place.result) (hold_cells c.lock_for.new.hold)
    (ap (λ (m : MonitorView). m.config) c.self.view_is) c.self.invariant.0
    (ap place_of c.place-place.ensures) c.lock_for.ensures.granules c.lock_for.ensures.settled
    c.lock_for.ensures.planned

pub free_all-requires : goal.free_all-requires
free_all-requires g c =
    let same = sym (ap (λ (m : MonitorView). m.config.granules) c.self.view_is) ∙ sym c.self.invariant.0 in
    subst (λ n. AreGranules n (hold_cells c.commit-done.new.hold)) same
    (granules-kept c.args.self.now.config g.S.Site.config (is_site g c) c.args.gated.now.command.now _ _ c.args.token.now _ c.lock_for.new.hold
    c.commit-done.new.hold (taken g c) c.commit-done.result c.commit-done.ensures.holds)

pub returns-clause-held : goal.returns-clause-held
returns-clause-held g c =
    subst (λ cells. WereHeld c.args.self.now.config c.args.gated.now.command.now c.args.token.now
    (place_of c.commit-done.new.token.place) cells c.commit-done.result)
    (sym c.free_all.ensures.freed)
    (were-held c.args.self.now.config g.S.Site.config (is_site g c.before) c.args.gated.now.command.now _ _ c.args.token.now _ c.lock_for.new.hold
    c.commit-done.new.hold (taken g c.before) c.commit-done.result c.commit-done.ensures.holds)

pub returns-clause-cause : goal.returns-clause-cause
returns-clause-cause g c =
    fault-had_cause c.args.self.now.config g.S.Site.config
    (is_site g c.before) c.args.gated.now.command.now _ _ c.args.token.now _ c.lock_for.new.hold
    c.commit-done.new.hold (taken g c.before) c.commit-done.result c.commit-done.ensures.holds

pub returns-clause-pass : goal.returns-clause-pass
returns-clause-pass g c =
    let commit = c.commit-done.ensures in
    let deciding = ap (λ (p : CpuView). p.stage) c.requires.called.is_called in
    let made =
    (stepped c.args.gated.now.command.now c.args.pass.now c.commit-done.new.journal.pass.now commit.before commit.after deciding c.commit-done.result
    (λ (d : Done). d.reply) c.args.token.now.cpu c.requires.called.same_cpu commit.holds.journal commit.holds.kept_journal commit.shown.1).0 in
    subst (λ (p : CpuView). IfOk c.commit-done.result (λ done. p ≡ committed c.args.pass.now done.reply)) (search rules) made
