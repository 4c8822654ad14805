-- The lines of a closed run, and the tickets that the tokens list.
use Rattle.monitor.proofs.Common.{◌≡◌, ℕ, suc, ◌+◌, ◌<◌, List, [], ◌∷◌, length, take, Some, refl, sym, ap, ◌∙◌, subst, arith, ⊎_elim, slice_get, same_Some, slice_get-map_to, Event, Line, Config, JournalEntry, Commitment, line_for, Committed, TokenView, count_of, lines_for, numbered, commitment, numbered-at, IsJournal, entries-numbered_from}
use Rattle.std.specs.Prelude.{◌↔◌}
use Rattle.std.proofs.lemmas.Bool.{eq-eqb, ne_eqb, cases_eq}
use Rattle.world_laws.proofs.Recorded.{entry_of}
use Rattle.world_laws.proofs.Certified.{commit_of, cpu_named-line_for, number_named-line_for}
use Rattle.commit_tickets.specs.Listed.{listed_from, mine_of}
use Rattle.commit_tickets.proofs.Lists.{listed-at, listed-place}
use Rattle.monitor.specs.ToldOrder.{ComesBefore, HasTicket, NamesAt}

-- a CPU lists its entries, each once
length-listed_from : (ticket cpu : ℕ) (entries : List JournalEntry) → length (listed_from ticket cpu entries) ≡ count_of cpu entries
length-listed_from ticket cpu [] = refl
length-listed_from ticket cpu (entry ∷ entries) =
    let rest = length-listed_from (suc ticket) cpu entries in
    ⊎_elim (λ (own : entry.cpu ≡ cpu). rw (eq-eqb entry.cpu cpu own) (ap suc rest))
    (λ (other : entry.cpu ≡ cpu → ⊥). rw (ne_eqb entry.cpu cpu other) rest) (cases_eq entry.cpu cpu)

same-ticket : (tokens : List TokenView) (cpu number ticket other : ℕ)
    → HasTicket tokens cpu number ticket → HasTicket tokens cpu number other → ticket ≡ other
same-ticket tokens cpu number ticket other has has_other =
    sym has.2 ∙ ap (λ (commit : Committed). commit.ticket) (same_Some has.0 has_other.0 (sym has.1 ∙ has_other.1)) ∙ has_other.2

module _ (config : Config) (tokens : List TokenView) (events : List Event) (lines : List Line) (closed : IsJournal config tokens events lines) where
  abbrev entries : List JournalEntry
  entries = closed.entries

  ticket-named : (place cpu number : ℕ) → NamesAt lines place cpu number → HasTicket tokens cpu number place
  ticket-named place cpu number named =
      let of = commit_of (numbered entries) events place named.0 (ap (λ ls. slice_get ls place) (sym closed.written) ∙ named.1) in
      let entry : JournalEntry = entry_of of.it in
      let at : slice_get entries place ≡ Some entry = ap (λ es. slice_get es place) (sym (entries-numbered_from (λ _. 0) entries))
      ∙ slice_get-map_to entry_of (numbered entries) place of.it of.is_it in
      let counted = ap (λ (c : Commitment). c.number) (same_Some _ of.it (sym (numbered-at (λ _. 0) entries place entry at) ∙ of.is_it)) in
      let behind : length (listed_from 0 entry.cpu (take place entries)) ≡ number =
      omega (arith, length-listed_from 0 entry.cpu (take place entries), counted, of.is_number, named.3) in
      let listed = listed-at 0 entries place entry at in (
        listed.0,
        ap (λ c. slice_get (mine_of tokens c) number) (sym named.2 ∙ of.is_cpu)
            ∙ (λ i. slice_get (sym (closed.listed entry.cpu) i) (sym behind i)) ∙ listed.2,
        omega (arith, listed.1),
      )

  named-ticket : (place cpu number : ℕ) → HasTicket tokens cpu number place → NamesAt lines place cpu number
  named-ticket place cpu number has =
      let it = listed-place 0 cpu entries number has.0 (ap (λ cs. slice_get cs number) (closed.listed cpu) ∙ has.1) in
      let c : Commitment = commitment it.entry (0 + count_of it.entry.cpu (take it.place entries)) in
      let is_place : it.place ≡ place = omega (arith, it.is_ticket, has.2) in
      let line_at = slice_get-map_to (line_for events) (numbered entries) it.place c (numbered-at (λ _. 0) entries it.place it.entry it.at) in (
        line_for events c,
        ap (λ ls. slice_get ls place) closed.written
            ∙ subst (λ k. slice_get (lines_for events entries) k ≡ Some (line_for events c)) is_place line_at,
        cpu_named-line_for events c ∙ it.own,
        omega (
          arith,
          number_named-line_for events c,
          length-listed_from 0 cpu (take it.place entries),
          it.before,
          ap (λ k. count_of k (take it.place entries)) it.own,
        ),
      )

  -- a line names the call of its ticket
  pub NamesAt-ticket : (place cpu number : ℕ) → NamesAt lines place cpu number ↔ HasTicket tokens cpu number place
  NamesAt-ticket place cpu number = (ticket-named place cpu number, named-ticket place cpu number)

  -- calls have their lines in the order of their tickets
  pub ComesBefore-tickets : (cpu number ticket later_cpu later_number later_ticket : ℕ) → HasTicket tokens cpu number ticket
      → HasTicket tokens later_cpu later_number later_ticket → ticket < later_ticket → ComesBefore lines cpu number later_cpu later_number
  ComesBefore-tickets cpu number ticket later_cpu later_number later_ticket has later_has rises = record {
    first = (ticket, named-ticket ticket cpu number has);
    later = (later_ticket, named-ticket later_ticket later_cpu later_number later_has);
    before = λ place later_place named later_named.
        omega (
          arith,
          rises,
          same-ticket tokens cpu number place ticket (ticket-named place cpu number named) has,
          same-ticket tokens later_cpu later_number later_place later_ticket (ticket-named later_place later_cpu later_number later_named) later_has,
        );
  }
