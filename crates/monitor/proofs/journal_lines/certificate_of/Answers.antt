use Rattle.monitor.proofs.Common.{◌≡◌, ℕ, ◌+◌, ◌≤◌, List, [], ◌∷◌, ◌++◌, length, take, subst, sym, ap, ◌∙◌, arith, Some, slice_get, slice_get_within, line_for, slice_get-map_to, numbers_of, count_of, lines_for, numbered, commitment, numbered-at, entries-numbered_from}
use Rattle.std.proofs.lemmas.List.{length-map, take_all, take_more}
use Rattle.std.proofs.lemmas.Option.{get_or_from_slice_get}
use Rattle.spec_lemmas.proofs.Maps.{put_elim}
use Rattle.world_laws.proofs.Recorded.{entry_of as entry_for}
use Rattle.command_log.specs.Log.{logged_seen}
use Rattle.commit_tickets.specs.Entries.{entry_of}
use Rattle.event_queue.proofs.Orders.{counted-push}
use Rattle.monitor.proofs.journal_lines.certificate_of.Goals as goal

-- a beginning with the next element
take-next : {X : Type 0} (xs : List X) (place : ℕ) (x : X) → slice_get xs place ≡ Some x → take (place + 1) xs ≡ take place xs ++ x ∷ []
take-next xs place x at =
    take_more xs place x (slice_get_within xs place x at) ∙ ap (λ y. take place xs ++ y ∷ []) (get_or_from_slice_get xs place x x at)

pub loop-ticket-preserved : goal.loop-ticket-preserved
loop-ticket-preserved g c =
    let events = c.args.history.now.recorded.events in
    let entries = c.args.journal.now.entries in
    let was = c.loop-ticket.invariant in
    let ticket = c.loop-ticket.ticket in
    let entry = entry_of (logged_seen c.entry-entry.result) in
    let entry_at = c.entry-entry.ensures.entry in
    let number = numbers_of c.loop-ticket.numbers in
    let is_number : 0 + count_of entry.cpu (take ticket entries) ≡ c.count-number.result =
    omega (arith, c.count-number.ensures.number, was.numbers entry.cpu) in
    let line_at : slice_get (lines_for events entries) ticket ≡ Some c.line_of.result =
    slice_get-map_to (line_for events) (numbered entries) ticket _ (numbered-at (λ _. 0) entries ticket entry entry_at)
    ∙ ap (λ n. Some (line_for events (commitment entry n))) is_number ∙ ap Some (sym c.line_of.ensures.line) in
    record {
      written = c.in_ok-push.ensures.ok ∙ ap (λ ls. ls ++ c.line_of.result ∷ []) was.written
          ∙ sym (take-next (lines_for events entries) ticket _ line_at);
      numbers = λ cpu. ap (λ next. next cpu) c.count-number.ensures.counted ∙ counted-push number (take ticket entries) entry was.numbers cpu
          ∙ ap (count_of cpu) (sym (take-next entries ticket entry entry_at));
      few = λ cpu. subst (λ n. n ≤ ticket + 1) (sym (ap (λ (next : ℕ → ℕ). next cpu) c.count-number.ensures.counted))
          (put_elim (λ n. n ≤ ticket + 1) number entry.cpu (number entry.cpu + 1) cpu
          (λ _. omega (arith, was.few entry.cpu)) (λ _. omega (arith, was.few cpu)));
    }

pub returns-clause-written : goal.returns-clause-written
returns-clause-written g c =
    let entries = c.args.journal.now.entries in
    let lines = lines_for c.args.history.now.recorded.events entries in
    c.loop-ticket.invariant.written ∙ take_all c.loop-ticket.ticket lines (omega (
      arith,
      length-map (numbered entries) (line_for c.args.history.now.recorded.events),
      length-map (numbered entries) entry_for,
      ap length (entries-numbered_from (λ _. 0) entries),
      c.loop-ticket-test.false,
      c.len-ticket-end.ensures.count,
    ))
