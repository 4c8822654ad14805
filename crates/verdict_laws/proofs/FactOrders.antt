-- Along an order facts hold where a call comes that was replied as if they didn't: so there is no order.
use Rattle.verdict_laws.proofs.Common.{◌≡◌, ℕ, ◌<◌, ◌⊎◌, true, List, [], ◌∷◌, ◌++◌, inl, inr, Option, Some, None, refl, sym, ◌∙◌, ap, subst, slice_get, none-some, Command, Event, Called, Line, Reply, call_of, History, IsHistory, IsCalled, IsLinearization, IsNamed, IsReturned, cpu_named, number_named, is_accepted, JournalEntry, State, opening, step-refuses, Fact, holds, LeadsNowhere, count_of, HasOnePlaces-from_history}
use Rattle.std.proofs.Common.{take}
use Rattle.std.proofs.lemmas.List.Elements.{All-weaker}
use Rattle.spec_lemmas.proofs.HistoryGrammar.{IsHistory-take}
use Rattle.rmm_laws.proofs.StepLaws.{step-keeps}
use Rattle.verdict_laws.specs.declared.placing.Standing.{Standing}
use Rattle.verdict_laws.specs.Denying.{deny, deny_inside}
use Rattle.verdict_laws.specs.Facts.{leaves_with, makes, makes_with, may_end}
use Rattle.verdict_laws.specs.HeldFacts.{IsDeniedWhere, IsFirst, IsHeldAlone, IsHeldAt, IsInTurn, IsLeftAt, IsLeftBeside, IsMadeBy, IsMadeWith, IsNoLater}
use Rattle.verdict_laws.specs.declared.facts.InTurn.{InTurn}
use Rattle.verdict_laws.specs.Parts.{first_part}
use Rattle.verdict_laws.specs.Placing.{StandsBefore}
use Rattle.verdict_laws.specs.Slices.{IsDoneBefore}
use Rattle.verdict_laws.proofs.AskingFacts.{holds-elsewhere}
use Rattle.verdict_laws.proofs.AlongOrders.{LeadsOn, not-along}
use Rattle.verdict_laws.proofs.Counts.{IsNamed-last, IsNamed-push}
use Rattle.verdict_laws.proofs.FactKinds.{holds-left, holds-made, holds-opening}
use Rattle.verdict_laws.proofs.Looked.{looks-keep}
use Rattle.verdict_laws.proofs.ManyFacts.{held-deny, held-deny_inside}
use Rattle.verdict_laws.proofs.RecFacts.{leaves-made}
use Rattle.verdict_laws.proofs.RipasFacts.{beside-left, with-made}
use Rattle.verdict_laws.proofs.SliceLines.{Claim, Names, claimed_reply, of_named}
use Rattle.verdict_laws.proofs.Standings.{AreWhere, AreWhere-nil, AreWhere-push, standing_of}
use Rattle.verdict_laws.proofs.SliceUnused.{comes_to_nothing, named_call, returns_before}
use Rattle.spec_lemmas.proofs.Calls.{IsNamed-push_cases}

-- An order of the history, in which calls come as is supposed, and a call that returned with a reply that facts deny which hold at its place.
module _ (history : History) (is_history : IsHistory history) (all : List Line) (turn : Option InTurn)
    (denied : IsDeniedWhere turn history.config.granules history.events) where
  -- the history's events
  abbrev events : List Event
  events = history.events

  -- one of the lines names the call that is made at the place
  abbrev pub IsNamedAt : List Line → ℕ → Type 0
  IsNamedAt lines place = (k : ℕ) × (n : ℕ) × (asked : Command) × IsCalled events place k n asked × IsNamed lines k n

  -- a line's call comes after each that is supposed to come before it
  abbrev pub ComesInTurn : List Line → Claim history.events → Type 0
  ComesInTurn lines c = (one : ℕ) → IsInTurn turn one c.is_entry.called → IsNamedAt lines one

  -- a fact that is held is due from the first on, or behind lines that name the call which makes it
  abbrev IsDueAlone : (fact : Fact) (place : ℕ) → IsHeldAlone turn fact events place → List Line → Type 0
  IsDueAlone fact place (inl begun) lines = Unit {0}
  IsDueAlone fact place (inr made) lines = IsNamed lines made.0.call.cpu made.0.call.number

  abbrev IsDue : (fact : Fact) (place : ℕ) → IsHeldAt turn fact events place → List Line → Type 0
  IsDue fact place (inl alone) lines = IsDueAlone fact place alone lines
  IsDue fact place (inr made) lines = IsNamed lines made.0.call.cpu made.0.call.number

  -- no line names the call that is made at the place
  abbrev IsAhead : List Line → ℕ → Type 0
  IsAhead lines place = (k n : ℕ) (asked : Command) → IsCalled events place k n asked → ¬ IsNamed lines k n

  -- so did each line's call
  abbrev CameInTurn : List Line → Type 0
  CameInTurn lines = (one other : ℕ) → IsInTurn turn one other → IsNamedAt lines other → IsNamedAt lines one

  -- each fact that is due holds until the line of the call comes at whose place it is held
  abbrev HoldWhereDue : List Line → State → Type 0
  HoldWhereDue lines s =
      (place : ℕ) (fact : Fact) (held : IsHeldAt turn fact events place) → IsDue fact place held lines → IsAhead lines place → holds fact s ≡ true

  -- The machine is the history's, each CPU is where its lines leave it, calls came in their turns, and what is due holds.
  abbrev HoldDue : List Line → State → Type 0
  HoldDue lines s = (s.config ≡ history.config) × AreWhere history is_history lines s × CameInTurn lines × HoldWhereDue lines s

  -- lines of an order have led to the state, where each that is due holds, and the next one comes
  module _ (lines : List Line) (s new : State) (c : Claim history.events) (leads : LeadsOn history lines s c new) (in_turn : ComesInTurn lines c)
      (hold : HoldDue lines s) where
    -- the commit that it claims
    abbrev e : JournalEntry
    e = c.entry

    -- and its reply, if its call returned
    claims_reply : (back : ℕ) (answered : Reply) → IsReturned events back (cpu_named c.line) (number_named c.line) answered → e.given ≡ answered
    claims_reply back answered is_back =
        claimed_reply events (HasOnePlaces-from_history history is_history) c.line c.kind e.given answered back c.is_entry.given is_back

    -- the line of a call that is made at its place is that call's, with its command
    claims_call : (at k n : ℕ) (asked : Command) → IsCalled events at k n asked → c.is_entry.called ≡ at → (e.command ≡ asked) × Names k n c
    claims_call at k n asked is_made same =
        let both : Some (Called (cpu_named c.line) (number_named c.line) e.command) ≡ Some (Called k n asked) =
        sym c.is_entry.is_called ∙ ap (λ (p : ℕ). slice_get events p) same ∙ is_made in
        (cc, (cc, cc))

    -- and its reply, if that returned
    claims : (at back k n : ℕ) (asked : Command) (answered : Reply) → IsCalled events at k n asked → IsReturned events back k n answered
        → c.is_entry.called ≡ at → (e.command ≡ asked) × (e.given ≡ answered) × Names k n c
    claims at back k n asked answered is_made is_back same =
        let call = claims_call at k n asked is_made same in
        (call.0, claims_reply back answered (of_named (λ x y. IsReturned events back x y answered) k n c call.1 is_back), call.1)

    -- no line before names it
    fresh_names : (k n : ℕ) → Names k n c → ¬ IsNamed lines k n
    fresh_names k n names named =
        leads.fresh (subst (λ x. IsNamed lines x (number_named c.line)) (sym names.0) (subst (λ y. IsNamed lines k y) (sym names.1) named))

    -- its CPU stands there, if it does before the call
    stands_there : (k n : ℕ) (standing : Standing) → Names k n c → StandsBefore events k n standing → standing_of s e.cpu ≡ standing
    stands_there k n standing names stands =
        let counted : count_of k lines ≡ n = sym (leads.next.numbered ∙ ap (λ (x : ℕ). count_of x lines) names.0) ∙ names.1 in
        ap (standing_of s) (c.is_entry.cpu ∙ names.0)
        ∙ hold.1 k standing (subst (λ (x : ℕ). StandsBefore events k x standing) (sym counted) stands)

    module _ (place : ℕ) (same : c.is_entry.called ≡ place) where
      -- where a call's line is next, the calls are named that come before it
      due_there : (maker : IsFirst turn events place) → IsNamed lines maker.call.cpu maker.call.number
      due_there maker = elim maker.first [
        | inl back ↦
            leads.earlier maker.call.cpu maker.call.number (returns_before history is_history maker.call.cpu maker.call.number c
            (maker.call.returned, maker.call.given, maker.call.is_returned, subst (λ (p : ℕ). maker.call.returned < p) (sym same) back))
        | inr supposed ↦ named_as (in_turn maker.call.called (subst (IsInTurn turn maker.call.called) (sym same) supposed))
      ]
        where
          named_as : IsNamedAt lines maker.call.called → IsNamed lines maker.call.cpu maker.call.number
          named_as (k, n, asked, is_made, named) =
              let both : Some (Called k n asked) ≡ Some (Called maker.call.cpu maker.call.number maker.call.command) =
              sym is_made ∙ maker.call.is_called in
              let its_cpu : k ≡ maker.call.cpu = cc in
              let its_number : n ≡ maker.call.number = cc in
              subst (λ x. IsNamed lines x maker.call.number) its_cpu (subst (λ y. IsNamed lines k y) its_number named)

      -- so each fact that is held at its place is due
      due_alone : (fact : Fact) (held : IsHeldAlone turn fact events place) → IsDueAlone fact place held lines
      due_alone fact (inl begun) = tt
      due_alone fact (inr made) = due_there made.0

      due_at : (fact : Fact) (held : IsHeldAt turn fact events place) → IsDue fact place held lines
      due_at fact (inl alone) = due_alone fact alone
      due_at fact (inr made) = due_there made.0

      -- and no line before names the call
      ahead_there : IsAhead lines place
      ahead_there k n asked is_made = fresh_names k n (claims_call place k n asked is_made same).1

      -- so it holds
      holds_there : (fact : Fact) → IsHeldAt turn fact events place → holds fact s ≡ true
      holds_there fact held = hold.3 place fact held (due_at fact held) ahead_there

    -- the next line isn't the call's whose reply is denied
    other_call : ¬ (c.is_entry.called ≡ denied.called)
    other_call same =
        let told =
        claims denied.called denied.returned denied.cpu denied.number denied.command denied.given denied.is_called denied.is_returned same in
        let facts = denied.facts in
        let all_hold =
        All-weaker (λ fact. IsHeldAt turn fact events denied.called) (λ fact. holds fact s ≡ true) (holds_there denied.called same) facts
        denied.are_held in
        elim denied.denied [
          | inl alone ↦
              held-deny s leads.sound facts all_hold new e.cpu e.command e.given leads.step history.config.granules (λ i. (hold.0 i).granules)
              ((λ i. deny history.config.granules facts (call_of (told.0 i)) (told.1 i)) ∙ alone)
          | inr (standing, stands, inside) ↦
              held-deny_inside s leads.sound facts all_hold new e.cpu e.command e.given standing leads.step
              (stands_there denied.cpu denied.number standing told.2 stands)
              ((λ i. deny_inside facts standing (call_of (told.0 i)) (told.1 i)) ∙ inside)
        ]

    module _ (place : ℕ) (fact : Fact) where
      -- a fact that the line leaves holds still, if the call at the place is neither its own nor one of those before
      holds-behind : ¬ (c.is_entry.called ≡ place) → IsAhead lines place
          → IsLeftAt turn fact events place c.is_entry.called (cpu_named c.line) (number_named c.line) e.command → holds fact s ≡ true
          → holds fact new ≡ true
      holds-behind other ahead (inl nothing) is =
          let kept : new ≡ s = elim (comes_to_nothing history is_history ⊥ c nothing) [
            | inl looks ↦ looks-keep s new e.cpu e.command e.given looks leads.step
            | inr (inl refused) ↦ step-refuses s new e.cpu e.command e.given leads.step refused
            | inr (inr never) ↦ absurd never
          ] in
          ap (holds fact) kept ∙ is
      holds-behind other ahead (inr (inl same)) is = absurd (other same)
      holds-behind other ahead (inr (inr (inl over))) is =
          absurd (ahead over.cpu over.number over.command over.is_called (leads.earlier over.cpu over.number
          (returns_before history is_history over.cpu over.number c (over.returned, over.given, over.is_returned, over.before))))
      holds-behind other ahead (inr (inr (inr (inl supposed)))) is =
          let at = in_turn place supposed in absurd (ahead at.0 at.1 at.2 at.3 at.4)
      holds-behind other ahead (inr (inr (inr (inr (inl left))))) is =
          holds-left fact s new e.cpu e.command e.given leads.sound leads.step
          (ap (λ (k : ℕ). may_end fact k (call_of e.command) e.given) c.is_entry.cpu
          ∙ left e.given (λ back told is_back. sym (claims_reply back told is_back))) is
      holds-behind other ahead (inr (inr (inr (inr (inr (standing, stands, stays)))))) is =
          holds-elsewhere s new e.cpu e.command e.given standing leads.sound leads.step
          (stands_there (cpu_named c.line) (number_named c.line) standing (refl, refl) stands) fact stays is

      -- so it does where the line leaves it beside another
      holds-beside : IsLeftBeside turn fact events c.is_entry.called e.command → holds fact s ≡ true → holds fact new ≡ true
      holds-beside (other, alone, leaves) =
          beside-left other fact s new e.cpu e.command e.given leads.sound leads.step (holds_there c.is_entry.called refl other (inl alone)) leaves

      -- the line of a call that makes it leaves it so
      holds-maker : {end : ℕ} (maker : IsDoneBefore events end) → IsMadeBy fact events maker → c.is_entry.called ≡ maker.called
          → holds fact new ≡ true
      holds-maker maker made same =
          let told = claims maker.called maker.returned maker.cpu maker.number maker.command maker.given maker.is_called maker.is_returned same in
          let accepted = ap is_accepted told.1 ∙ maker.accepted in
          elim made [
            | inl makes_it ↦
                holds-made fact s new e.cpu e.command e.given leads.sound leads.step accepted
                ((λ i. makes fact ((c.is_entry.cpu ∙ told.2.0) i) (call_of (told.0 i)) (told.1 i)) ∙ makes_it)
            | inr (standing, stands, leaves) ↦
                leaves-made fact s new e.cpu e.command e.given standing leads.sound leads.step accepted
                (stands_there maker.cpu maker.number standing told.2 stands)
                (ap (λ (m : Command). leaves_with fact (call_of m) standing) told.0 ∙ leaves)
          ]

      -- so does that of one that makes it where another holds
      holds-with : {end : ℕ} (maker : IsDoneBefore events end) → IsMadeWith turn fact events maker → c.is_entry.called ≡ maker.called
          → holds fact new ≡ true
      holds-with maker (inl made) same = holds-maker maker made same
      holds-with maker (inr (other, alone, makes_it)) same =
          let told = claims maker.called maker.returned maker.cpu maker.number maker.command maker.given maker.is_called maker.is_returned same in
          with-made other fact s new e.cpu e.command e.given leads.sound leads.step (ap is_accepted told.1 ∙ maker.accepted)
          (holds_there maker.called same other (inl alone))
          ((λ i. makes_with other fact (call_of (told.0 i)) (told.1 i)) ∙ makes_it)

      -- behind the line no line names the call at the place, so none did before, and the line isn't its
      module _ (ahead : IsAhead (lines ++ c.line ∷ []) place) where
        ahead_before : IsAhead lines place
        ahead_before k n asked is_made named = ahead k n asked is_made (IsNamed-push lines c.line k n named)

        other_place : ¬ (c.is_entry.called ≡ place)
        other_place same =
            ahead (cpu_named c.line) (number_named c.line) e.command
            (subst (λ (p : ℕ). IsCalled events p (cpu_named c.line) (number_named c.line) e.command) same c.is_entry.is_called)
            (IsNamed-last lines c.line (cpu_named c.line) (number_named c.line) refl refl)

        -- what comes no later than a call that is named is that call, or isn't the line's
        no_later : {end : ℕ} (maker : IsDoneBefore events end) → IsNamed lines maker.cpu maker.number
            → IsNoLater turn events maker.called c.is_entry.called (cpu_named c.line) (number_named c.line) → c.is_entry.called ≡ maker.called
        no_later maker before (inl same) = same
        no_later maker before (inr (inl back)) =
            absurd (leads.in_time maker.cpu maker.number before (record {
              returned = back.0;
              given = back.1;
              is_returned = back.2;
              called = maker.called;
              command = maker.command;
              is_called = maker.is_called;
              before = back.3;
            }))
        no_later maker before (inr (inr supposed)) =
            let named = hold.2 c.is_entry.called maker.called supposed (maker.cpu, maker.number, maker.command, maker.is_called, before) in
            absurd (fresh_names named.0 named.1 (claims_call c.is_entry.called named.0 named.1 named.2 named.3 refl).1 named.4)

        -- so a fact that was made, or is by the line, holds, if other lines leave it
        holds-since : {end : ℕ} (maker : IsDoneBefore events end) → (c.is_entry.called ≡ maker.called → holds fact new ≡ true)
            → (IsNamed lines maker.cpu maker.number
            → IsNoLater turn events maker.called c.is_entry.called (cpu_named c.line) (number_named c.line) ⊎ (holds fact new ≡ true))
            → IsNamed (lines ++ c.line ∷ []) maker.cpu maker.number → holds fact new ≡ true
        holds-since maker made left due = elim (IsNamed-push_cases lines c.line maker.cpu maker.number due) [
          | inr own ↦ made (named_call history is_history c maker.cpu maker.number maker.called maker.command maker.is_called own).0
          | inl before ↦ elim (left before) [
            | inl early ↦ made (no_later maker before early)
            | inr still ↦ still
          ]
        ]

        -- so with each next line the fact holds where it is due
        holds-push : (held : IsHeldAt turn fact events place) → IsDue fact place held (lines ++ c.line ∷ []) → holds fact new ≡ true
        holds-push (inl (inl (begun, left))) due =
            holds-behind other_place ahead_before (left c.is_entry.called (cpu_named c.line) (number_named c.line) e.command c.is_entry.is_called)
            (hold.3 place fact (inl (inl (begun, left))) tt ahead_before)
        holds-push (inl (inr (maker, made, left))) due =
            holds-since maker.call (holds-maker maker.call made)
            (λ before. elim (left c.is_entry.called (cpu_named c.line) (number_named c.line) e.command c.is_entry.is_called) [
              | inl early ↦ inl early
              | inr leaves ↦
                  inr (holds-behind other_place ahead_before leaves (hold.3 place fact (inl (inr (maker, made, left))) before ahead_before))
            ]) due
        holds-push (inr (maker, made, left)) due =
            holds-since maker.call (holds-with maker.call made)
            (λ before.
            let is = hold.3 place fact (inr (maker, made, left)) before ahead_before in
            elim (left c.is_entry.called (cpu_named c.line) (number_named c.line) e.command c.is_entry.is_called) [
              | inl early ↦ inl early
              | inr (inl leaves) ↦ inr (holds-behind other_place ahead_before leaves is)
              | inr (inr beside) ↦ inr (holds-beside beside is)
            ]) due

    -- each line's call came in its turn still
    CameInTurn-push : CameInTurn (lines ++ c.line ∷ [])
    CameInTurn-push one other supposed (k, n, asked, is_made, named) =
        let pushed : IsNamedAt lines one → IsNamedAt (lines ++ c.line ∷ []) one =
        λ at. (at.0, at.1, at.2, at.3, IsNamed-push lines c.line at.0 at.1 at.4) in
        elim (IsNamed-push_cases lines c.line k n named) [
          | inl before ↦ pushed (hold.2 one other supposed (k, n, asked, is_made, before))
          | inr own ↦
              pushed (in_turn one (subst (IsInTurn turn one) (sym (named_call history is_history c k n other asked is_made own).0) supposed))
        ]

    -- so each that is due does, and the machine is the history's still
    HoldDue-push : HoldDue (lines ++ c.line ∷ []) new
    HoldDue-push = (
      (step-keeps s new e.cpu e.command e.given leads.step).config ∙ hold.0,
      AreWhere-push history is_history lines s new c leads hold.1,
      CameInTurn-push,
      λ place fact held due ahead. holds-push place fact ahead held due,
    )

  -- before any line those hold that begin so
  HoldDue-nil : HoldDue [] (opening history.config)
  unfolding opening
  HoldDue-nil = (refl, AreWhere-nil history is_history, λ one other supposed named. absurd (none-some named.4.1 named.4.2), by)
    where
      by : (place : ℕ) (fact : Fact) (held : IsHeldAt turn fact events place) → IsDue fact place held [] → IsAhead [] place
          → holds fact (opening history.config) ≡ true
      by place fact (inl (inl (begun, left))) due ahead = holds-opening fact history.config begun
      by place fact (inl (inr made)) due ahead = absurd (none-some due.1 due.2)
      by place fact (inr made) due ahead = absurd (none-some due.1 due.2)

  -- so it is none, if its calls come in their turns
  pub not-held : ((lines back : List Line) (c : Claim history.events) → (lines ++ c.line ∷ []) ++ back ≡ all → ComesInTurn lines c)
      → ¬ IsLinearization history all
  not-held turns =
      not-along history is_history denied.cpu denied.number (denied.returned, denied.given, denied.is_returned) all ComesInTurn HoldDue turns
      (λ lines s new c leads in_turn hold names.
      other_call lines s new c leads in_turn hold
      (named_call history is_history c denied.cpu denied.number denied.called denied.command denied.is_called names).0)
      HoldDue-push HoldDue-nil

-- so have first events of a history none where one of their replies is denied by facts that are held
pub nowhere-denied : (history : History) (count : ℕ) → IsHistory history
    → IsDeniedWhere None history.config.granules (take count history.events) → LeadsNowhere (first_part count history) []
nowhere-denied history count is_history denied = record {
  none = λ lines.
      not-held (first_part count history) (IsHistory-take count history is_history) lines None denied
      (λ before back c same one supposed. absurd supposed);
}
