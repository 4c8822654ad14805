use Rattle.commit_tickets.proofs.Common.{arith, entry_of, numbers_of}
use Rattle.std.proofs.lemmas.Bool.{false≢true, iff_false}
use Rattle.command_log.specs.Log.{logged_seen}
use Rattle.commit_tickets.proofs.Lists.{unlisted-cpu, listed-by_token, Remain-by_token, listed-end}
use Rattle.commit_tickets.proofs.journal.Journal.is_listed_by.Goals as goal

pub returns-in_default-clause-listed : goal.returns-in_default-clause-listed
returns-in_default-clause-listed g c = (
  λ no. absurd (false≢true no),
  λ listed.
      absurd (unlisted-cpu c.args.tokens.now c.args.self.now.entries c.loop-ticket.ticket
      (numbers_of c.loop-ticket.numbers) (entry_of (logged_seen c.entry-entry.result))
      c.loop-ticket.invariant c.entry-entry.ensures.entry (omega (arith, c.in_default.ensures.lookup.3, c.from.ensures)) listed),
)

pub returns-then-not-lists-clause-listed : goal.returns-then-not-lists-clause-listed
returns-then-not-lists-clause-listed g c = (
  λ no. absurd (false≢true no),
  λ listed.
      absurd (iff_false c.lists.ensures c.if-not-lists.true
      (listed-by_token c.args.tokens.now c.args.self.now.entries c.loop-ticket.ticket
      (numbers_of c.loop-ticket.numbers) (entry_of (logged_seen c.entry-entry.result))
      c.loop-ticket.invariant c.entry-entry.ensures.entry c.in-Some.token.now c.from.result c.count.result c.from.ensures c.in-Some.ensures.lookup.3.0
      c.in-Some.ensures.lookup.1 c.count.ensures.number listed)),
)

pub loop-ticket-preserved : goal.loop-ticket-preserved
loop-ticket-preserved g c =
    Remain-by_token c.args.tokens.now c.args.self.now.entries c.loop-ticket.ticket
    (numbers_of c.loop-ticket.numbers) (entry_of (logged_seen c.entry-entry.result))
    c.loop-ticket.invariant c.entry-entry.ensures.entry c.in-Some.token.now c.from.result c.count.result c.from.ensures c.in-Some.ensures.lookup.3.0
    c.in-Some.ensures.lookup.1 c.count.ensures.number (numbers_of c.count.new.self) c.count.ensures.counted (c.lists.ensures.0 c.if-not-lists.false)

pub returns-clause-listed : goal.returns-clause-listed
returns-clause-listed g c =
    let ended = listed-end c.args.tokens.now c.args.self.now.entries c.loop-ticket.ticket (numbers_of c.loop-ticket.numbers) c.loop-ticket.invariant
    (omega (arith, c.loop-ticket-test.false, c.len-ticket-end.ensures.count)) in
    (λ yes. ended.1 (c.list_no_more.ensures.0 yes), λ listed. c.list_no_more.ensures.1 (ended.0 listed))
