use Rattle.monitor.proofs.Common.{◌≡◌, ◌<◌, ◌≤◌, List, length, slice_get, sym, ap, ◌∙◌, subst, arith, inr, Result, Ok, Err, IfErr, Event, JournalEntry, AreInOrder, JournalView, MonitorView, AreListed}
use Rattle.rmm_spec.specs.HistoryText.{Config, History}
use Rattle.commit_tickets.specs.Commits.{IsOfRun}
use Rattle.commit_tickets.specs.Listed.{unlisted_entries}
use Rattle.commit_tickets.proofs.Lists.{listed-below}
use Rattle.monitor.specs.Closed.{IsShort, count_committed}
use Rattle.monitor.specs.declared.close_fault.CloseFault.TheVariants.{NoMemory}
use Rattle.monitor.proofs.Closes.{disagree, closed}
use Rattle.monitor.proofs.CpuLists.{cpus-seats, commits-le}
use Rattle.monitor.proofs.monitor.Monitor.close.Goals as goal

pub drain_rest-requires-clause-passes : goal.drain_rest-requires-clause-passes
drain_rest-requires-clause-passes g c cpu pass at =
    let seat = cpus-seats c.args.self c.args.tokens.items c.args.passes.items c.requires.cpus cpu pass
    (ap (λ ps. slice_get ps cpu) (sym c.as_mut_slice-passes.ensures.value) ∙ at) in
    (seat.0 ∙ sym (ap (λ (m : MonitorView). m.queue) c.self.view_is), seat.1)

pub returns-in-Err-clause-cause : goal.returns-in-Err-clause-cause
returns-in-Err-clause-cause g c unlisted is =
    let same_size = sym c.self.invariant.1 ∙ ap (λ (m : MonitorView). m.config) c.self.view_is in
    let of_run = subst (λ (config : Config). IsOfRun config c.audit.new.self) same_size c.in-Err.ensures.of_run in
    let counted = ap (λ (j : JournalView). length j.entries) c.audit.ensures.journal
    ∙ c.audit.ensures.counted ∙ ap count_committed c.as_mut_slice-tokens.ensures.value in
    let same_unlisted : c.in-Err.unlisted ≡ unlisted = cc in
    disagree c.args.self.config c.audit.new.self of_run c.args.tokens.items c.audit.new.tokens
    (c.audit.ensures.tokens ∙ c.as_mut_slice-tokens.ensures.value)
    (unlisted_entries unlisted) (ap unlisted_entries (sym same_unlisted) ∙ c.in-Err.ensures.compared) counted c.in-Err.ensures.unlisted

pub certificate_of-requires-clause-few : goal.certificate_of-requires-clause-few
certificate_of-requires-clause-few g c =
    let counted = ap (λ (j : JournalView). length j.entries) c.audit.ensures.journal
    ∙ c.audit.ensures.counted ∙ ap count_committed c.as_mut_slice-tokens.ensures.value in
    omega (
      arith,
      counted,
      commits-le c.args.tokens.items c.args.passes.items c.requires.cpus.pairs.same_count
          (λ k token pass at pass_at. (c.requires.cpus.pairs.each k token pass at pass_at).few),
      c.requires.room,
    )

pub certificate_of-requires-clause-cpus : goal.certificate_of-requires-clause-cpus
certificate_of-requires-clause-cpus g c =
    let most : length c.args.tokens.items ≤ 8 =
    omega (arith, c.requires.cpus.count, c.cpus-fact.ensures.limits.most_cpus, ap (λ (m : MonitorView). m.config.cpus) c.self.view_is) in
    listed-below c.args.tokens.items c.audit.new.self.entries 8 most
    (subst (λ ts. AreListed ts c.audit.new.self.entries) (c.audit.ensures.tokens ∙ c.as_mut_slice-tokens.ensures.value) c.in_default.ensures.listed)

pub returns-clause-whole : goal.returns-clause-whole
returns-clause-whole g c cpu pass at =
    c.in_ok-drain_rest.ensures.whole cpu pass (ap (λ ps. slice_get ps cpu) c.as_mut_slice-passes.ensures.value ∙ at)

pub returns-clause-certificate : goal.returns-clause-certificate
returns-clause-certificate g c =
    let same_size = sym c.self.invariant.1 ∙ ap (λ (m : MonitorView). m.config) c.self.view_is in
    let of_run = subst (λ (config : Config). IsOfRun config c.audit.new.self) same_size c.in_default.ensures.of_run in
    let entries = c.journal.invariant.1 ∙ ap (λ (j : JournalView). j.entries) (sym c.audit.ensures.journal) in
    let events = ap (λ (h : History). h.events) (sym c.in_ok-drain_rest.ensures.history) in
    closed c.args.self.config c.audit.new.self of_run c.args.tokens.items c.audit.new.tokens
    (c.audit.ensures.tokens ∙ c.as_mut_slice-tokens.ensures.value) c.drain_rest.new.history.recorded.events _
    (subst (λ (y : List Event × List JournalEntry). AreInOrder y.0 y.1) (λ i. (events i, entries i)) c.keeps_real_time.ensures.ordered)
    c.in_default.ensures.listed c.in_ok-certificate.ensures.written

pub returns-clause-linearization : goal.returns-clause-linearization
returns-clause-linearization g c = (returns-clause-certificate g c).linearization

any_err : {T E : Type 0} (P : E → Type 0) (r : Result T E) → ((fault : E) → P fault) → IfErr r P
any_err P (Ok x) each = tt
any_err P (Err fault) each = each fault

pub returns-in_err-certificate-clause-short : goal.returns-in_err-certificate-clause-short
returns-in_err-certificate-clause-short g c =
    let counted = ap (λ (j : JournalView). length j.entries) c.audit.ensures.journal
    ∙ c.audit.ensures.counted ∙ ap count_committed c.as_mut_slice-tokens.ensures.value in
    let some : 0 < count_committed c.args.tokens.items = omega (arith, c.in_err-certificate.ensures.short, counted) in
    any_err (λ fault. fault ≡ NoMemory → IsShort c.args.history c.args.tokens.items c.args.passes.items)
    c.from_residual-in_err-certificate.result (λ fault memory. inr some)
