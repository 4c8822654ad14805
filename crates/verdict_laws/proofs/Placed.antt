-- What a call is replied is given where its CPU is, and an exit says why its REC leaves.
use Rattle.verdict_laws.proofs.Common.{◌≡◌, ℕ, Bool, true, false, not, if◌then◌else◌, List, [], ◌∷◌, Option, Some, None, refl, sym, ◌∙◌, ap, subst, eq-eqb, Err, and_from, Call, Command, Line, Misplaced, Reply, call_of, class_of, History, IsHistory, is_inside, rec_at, rec_inside, request_of, IsCalled, IsReturned, IsSound, State, CarriesOut, Step, answer_of, is_placed, misplacement, outcome, named, words_of, both_ways, LeadsNowhere, count_of}
use Rattle.std.proofs.Common.{take}
use Rattle.rmm_spec.specs.declared.call.Call.TheVariants as call
use Rattle.rmm_spec.specs.declared.reply.Reply.TheVariants as reply
use Rattle.rmm_spec.specs.Call.{Class}
use Rattle.rmm_spec.specs.Lookup.{ripas_number}
use Rattle.rmm_spec.specs.State.{HostCall, Pending, Psci, Request, RipasChange}
use Rattle.rmm_spec.specs.Step.RealmCall.{exit_words, rec_exit}
use Rattle.spec_lemmas.proofs.HistoryGrammar.{IsHistory-take}
use Rattle.rmm_laws.proofs.Runs.{step_sound}
use Rattle.verdict_laws.specs.Parts.{first_part}
use Rattle.verdict_laws.specs.Placing.{StandsBefore, are_words, is_given, may_be_replied, reports, says_why}
use Rattle.verdict_laws.specs.Replying.{may_answer}
use Rattle.verdict_laws.specs.declared.placing.Standing.{Standing}
use Rattle.verdict_laws.proofs.AlongOrders.{LeadsOn, called_first, nowhere-along}
use Rattle.verdict_laws.proofs.Standings.{AreWhere, AreWhere-nil, AreWhere-push, by_pending, claims_next, is_placed-given, standing-inside, standing_of}
use Rattle.verdict_laws.proofs.Replies.{may_answer-placed}
use Rattle.verdict_laws.proofs.SliceLines.{Claim, Names}

-- ---- replies

-- where calls of its class are given, a call may be replied what such a call is in some state, and an exit why the REC leaves
may_be_replied-given : (c : Call) (standing : Standing) (given : Reply) → is_given (class_of c) standing ≡ true → may_answer c given ≡ true
    → says_why c standing given ≡ true → may_be_replied c standing given ≡ true
may_be_replied-given c standing reply.Misplaced there so why = both_ways so refl
may_be_replied-given c standing (reply.Ok words) there so why = and_from _ _ (and_from _ _ there so) why
may_be_replied-given c standing (reply.Err status index) there so why = and_from _ _ (and_from _ _ there so) why

-- four words are these
are_words-same : (kind first second third : ℕ) → are_words (kind ∷ first ∷ second ∷ third ∷ []) kind first second third ≡ true
are_words-same kind first second third =
    rw (eq-eqb kind kind refl, eq-eqb first first refl, eq-eqb second second refl, eq-eqb third third refl) refl

-- the words of an exit report why its REC leaves
reports-pending : (request : Request) (pending : Option Pending) → reports (by_pending request pending) (exit_words request pending) ≡ true
reports-pending request None = refl
reports-pending request (Some (Psci function)) = are_words-same 3 function 0 0
reports-pending request (Some RipasChange) = are_words-same 4 request.base request.top (ripas_number request.ripas)
reports-pending request (Some (HostCall imm)) = are_words-same 5 imm 0 0

-- so a placed exit reports why its REC leaves
says_why-placed : (s : State) (cpu : ℕ) (c : Call) (given : Reply) (new : State) → is_placed s cpu (class_of c) ≡ true
    → CarriesOut (answer_of s cpu c) s given new → says_why c (standing_of s cpu) given ≡ true
unfolding says_why answer_of class_of rec_exit words_of named
says_why-placed s cpu call.Exit given new placed carried =
    let rec = rec_at s (rec_inside s cpu) in
    rw (carried.0, standing-inside s cpu placed) (reports-pending (request_of rec) rec.pending)
says_why-placed s cpu _ given new placed carried = refl

-- so a step's reply may be given there
may_be_replied-step : (s : State) (cpu : ℕ) (command : Command) (given : Reply) (new : State) → IsSound s → Step s cpu command given new
    → may_be_replied (call_of command) (standing_of s cpu) given ≡ true
unfolding outcome
may_be_replied-step s cpu command given new sound step = by (is_placed s cpu class) (is_placed-given s cpu class sound) step
  where
    class : Class
    class = class_of (call_of command)

    by : (b : Bool) → b ≡ is_given class (standing_of s cpu)
        → CarriesOut (if b then answer_of s cpu (call_of command) else Err (Misplaced (misplacement (is_inside s cpu) class))) s given new
        → may_be_replied (call_of command) (standing_of s cpu) given ≡ true
    by true is carried =
        let placed = is_placed-given s cpu class sound ∙ sym is in
        may_be_replied-given (call_of command) (standing_of s cpu) given (sym is)
        (may_answer-placed s cpu (call_of command) given new sound placed (step_sound s cpu command given new sound step) carried)
        (says_why-placed s cpu (call_of command) given new placed carried)
    by false is carried = ap (may_be_replied (call_of command) (standing_of s cpu)) carried.0 ∙ ap not (sym is)

-- ---- along an order

-- A call of the CPU returned with a reply that isn't given where that is.
module _ (history : History) (is_history : IsHistory history) (cpu number called returned : ℕ) (command : Command) (given : Reply)
    (standing : Standing) (is_called : IsCalled history.events called cpu number command)
    (is_returned : IsReturned history.events returned cpu number given) (stands : StandsBefore history.events cpu number standing)
    (unplaced : may_be_replied (call_of command) standing given ≡ false) where
  -- a next line isn't the call's: its reply would have to be given there
  other_call : (lines : List Line) (s new : State) (c : Claim history.events) → LeadsOn history lines s c new
      → AreWhere history is_history lines s → ¬ Names cpu number c
  other_call lines s new c leads are names =
      let e = c.entry in
      let counted : count_of cpu lines ≡ number = sym (leads.next.numbered ∙ ap (λ (k : ℕ). count_of k lines) names.0) ∙ names.1 in
      let told = claims_next history is_history lines s new c leads cpu called returned command given names.0
      (subst (λ (n : ℕ). IsCalled history.events called cpu n command) (sym counted) is_called)
      (subst (λ (n : ℕ). IsReturned history.events returned cpu n given) (sym counted) is_returned) in
      let here = are cpu standing (subst (λ (n : ℕ). StandsBefore history.events cpu n standing) (sym counted) stands) in
      both_ways (may_be_replied-step s e.cpu e.command e.given new leads.sound leads.step)
      ((λ i. may_be_replied (call_of (told.0 i)) ((ap (standing_of s) (c.is_entry.cpu ∙ names.0) ∙ here) i) (told.1 i)) ∙ unplaced)

  -- so there is no order
  nowhere-unplaced : LeadsNowhere history []
  nowhere-unplaced = nowhere-along history is_history cpu number (returned, given, is_returned) (AreWhere history is_history) other_call
      (AreWhere-push history is_history) (AreWhere-nil history is_history)

-- so have first events of a history none where one of their returns is such
pub nowhere-placed : (history : History) (count cpu number called returned : ℕ) (command : Command) (given : Reply) (standing : Standing)
    → IsHistory history → IsCalled history.events called cpu number command → IsReturned (take count history.events) returned cpu number given
    → StandsBefore (take count history.events) cpu number standing → may_be_replied (call_of command) standing given ≡ false
    → LeadsNowhere (first_part count history) []
nowhere-placed history count cpu number called returned command given standing is_history is_called is_returned =
    nowhere-unplaced (first_part count history) (IsHistory-take count history is_history) cpu number called returned command given standing
    (called_first history count cpu number called returned command given is_history is_called is_returned) is_returned
