use Rattle.commit_tickets.proofs.Common.{◌≡◌, ◌+◌, ◌≤◌, length, map, [], ◌∷◌, ℕ, sym, ap, ◌∙◌, subst, arith, inl, map-append, Command, Reply, Step, given_of, change_of, Entry, hold_cells, state_of, entry_of, JournalView, TokenView, hold_with}
use Rattle.std.proofs.lemmas.List.{length-map, length_push}
use Rattle.command_core.specs.Changed.{Decides}
use Rattle.rmi_view.specs.Seen.{command_seen, reply_seen}
use Rattle.commit_tickets.specs.Entries.{committed_of}
use Rattle.commit_tickets.proofs.Disagreements.{refused-disagree}
use Rattle.commit_tickets.proofs.Rising.{RiseWithin-append}
use Rattle.commit_tickets.proofs.Runs.{IsRun-append}
use Rattle.commit_tickets.proofs.entering.list.Goals as goal

pub returns-then-not-branch-clause-cause : goal.returns-then-not-branch-clause-cause
returns-then-not-branch-clause-cause g c =
    let config = g.S.Site.config in
    let command = c.args.command.now in
    let cells = hold_cells c.args.hold.now in
    let answer = c.args.draft.now.answer in
    inl
    (refused-disagree config command _ c.args.journal.now _ c.args.token.now cells (given_of answer) (change_of answer)
    (state_of c.journal.inside.books) c.journal.view_is c.token.view_is c.journal.invariant.1
    (subst (λ (t : TokenView). Decides config t.cpu command (hold_with c.args.journal.now t cells) (given_of answer) (change_of answer))
    (sym c.token.view_is) c.requires.decided.decision.decides)
    c.journal.invariant.0
    (λ next step. c.in_ok-offer_seen.ensures.only c.if-not-branch.true next
    (subst (λ (p : Command × Reply). Step (state_of c.journal.inside.books) c.token.inside.cpu p.0 p.1 next)
    (λ i. (sym c.of-view.ensures.seen i, sym c.reply-reply.ensures.seen i)) step)))

pub invariant_of-journal-2 : goal.invariant_of-journal-2
invariant_of-journal-2 g c =
    let added : Entry ℕ =
    record { mark = c.token.inside.cpu; command = command_seen c.of-view.result; given = reply_seen c.reply-reply.result } in
    let logged = c.journal.inside.entries.logged in (
      IsRun-append _ logged c.push_reserved.new.self.logged added _ _ c.journal.invariant.0
          (c.in_ok-offer_seen.ensures.step c.if-not-branch.false) c.push_reserved.ensures.pushed,
      c.journal.invariant.1,
      omega (arith, ap length c.push_reserved.ensures.pushed, length_push logged added, c.add.ensures.total, c.journal.invariant.2),
    )

pub invariant_of-token-2 : goal.invariant_of-token-2
invariant_of-token-2 g c =
    let added : Entry ℕ = record { mark = c.len-ticket.result; command = command_seen c.of-view.result; given = reply_seen c.reply-reply.result } in
    let mine = c.token.inside.mine.logged in
    let entries = c.journal.inside.entries.logged in
    let past : c.token.inside.seen ≤ c.len-ticket.result = omega (
      arith,
      c.len-ticket.ensures,
      length-map entries entry_of,
      ap (λ (j : JournalView). length j.entries) c.journal.view_is,
      ap (λ (t : TokenView). t.seen) c.token.view_is,
      c.requires.told,
    ) in
    let next : c.len.result ≡ c.len-ticket.result + 1 = omega (
      arith,
      c.len.ensures,
      c.len-ticket.ensures,
      ap length c.push_reserved.ensures.pushed,
      length_push entries (record { mark = c.token.inside.cpu; command = added.command; given = added.given }),
    ) in (
      c.add.ensures.parts ∙ c.token.invariant.0,
      omega (arith, c.add.ensures.amount, ap length c.push_reserved-2.ensures.pushed, length_push mine added, c.token.invariant.1),
      RiseWithin-append _ _ _ _ (committed_of added) past next
          (ap (map committed_of) c.push_reserved-2.ensures.pushed ∙ map-append committed_of mine (added ∷ [])) c.token.invariant.2,
    )
