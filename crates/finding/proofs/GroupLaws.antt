-- What the next calls of CPUs tell of the order in which they may come.
use Rattle.finding.proofs.Common.{◌++◌, ◌<◌, ◌∙◌, ◌∷◌, ◌≡◌, ◌≤◌, Choice, HasOnePlaces-from_history, History, IsBegun, Line, List, None, Option, Some, [], ap, arith, cpu_named, number_named, rank_of, refl, state_of, subst, sym, ℕ}
use Rattle.std.proofs.Common.{Bool, true, false, get_or, zero, suc, inl, inr}
use Rattle.std.specs.Prelude.{IfSome, slice_get, slice_set}
use Rattle.std.proofs.lemmas.Option.{slice_get-get_or}
use Rattle.rmm_spec.specs.declared.call.Call.{Call}
use Rattle.rmm_spec.specs.declared.command.Command.{Command}
use Rattle.rmm_spec.specs.declared.event.Event.{Event}
use Rattle.rmm_spec.specs.declared.reply.Reply.{Reply}
use Rattle.rmm_spec.specs.Call.{call_of}
use Rattle.rmm_spec.specs.Linearization.{IsCalled, IsReplyOf, IsReturned}
use Rattle.rmm_spec.specs.Locks.{is_named}
use Rattle.rmm_spec.specs.Ownership.{is_accepted}
use Rattle.rmm_spec.specs.Step.Terms.{named}
use Rattle.rmi_view.specs.Seen.{reply_seen}
use Rattle.rmi_view.specs.declared.reply.ReplyRef.{ReplyRef}
use Rattle.spec_lemmas.proofs.Calls.{same_command, same_reply}
use Rattle.verdict_laws.specs.Order.{IsNext}
use Rattle.verdict_laws.specs.Apart.{IsCarriedOut, is_apart_from, lent, lets_lend}
use Rattle.verdict_laws.specs.Beside.{AreBeside}
use Rattle.verdict_laws.specs.Ending.{EndsApart, EndsLater, IsLeftAlone, NamesNoPart}
use Rattle.verdict_laws.specs.Forward.{AreOpen, IsKept, IsOpen, Passes}
use Rattle.verdict_laws.specs.Making.{AreMadeApart}
use Rattle.verdict_laws.proofs.Passing.{Passes-from_done_lending, Passes-from_ended, Passes-from_ending, Passes-from_entry, Passes-from_lending, Passes-from_lent, Passes-from_made_apart, Passes-from_work}
use Rattle.finding.specs.Begun.{Holds, IsGroup}
use Rattle.finding.specs.Group.{IsNamedAlone, PassInside, PassesWhere, is_outside}
use Rattle.finding.specs.MayPass.{AreRelated, MayPass, Apart, Ends, Enters, LendsApart, LendsFirst, LendsLast, Works}
use Rattle.finding.specs.Next as next
use Rattle.finding.specs.Next.{AreOpenCalls, HasNoneBefore, IsNextFound, IsNextWith}
use Rattle.finding.specs.declared.begun.Begun.{Begun}
use Rattle.finding.specs.declared.next_call.NextCall.{NextCall}
use Rattle.finding.proofs.TriedLaws.{counted, of_machine}
use Rattle.verdict_laws.proofs.Settled.{kept_line}

-- the last two of open lines are open
two_open : (events : List Event) (place : ℕ) (lines before : List Line) (line later : Line)
    → AreOpen events place lines (before ++ line ∷ later ∷ []) → IsOpen events place lines line × IsOpen events place lines later
two_open events place lines [] line later are_open = (are_open.0, are_open.2.0)
two_open events place lines (x ∷ before) line later are_open = two_open events place lines before line later are_open.2

module _ (history : History) (begun : Begun) (is_begun : IsBegun history begun) where
  -- a line of the CPU's next call names it
  next_number : (lines : List Line) (line : Line) (cpu : ℕ) → Holds history begun lines → cpu_named line ≡ cpu → IsNext history.events lines line
      → number_named line ≡ get_or begun.front.counts cpu 0
  next_number lines line cpu holds of_cpu is_next =
      let within = of_machine history is_begun.front.is_history lines (state_of begun.machine) holds.reached begun.front.counts holds.counts
      (cpu_named line) (number_named line) is_next.known in
      is_next.numbered
      ∙ sym (counted history is_begun.front.is_history lines (state_of begun.machine) holds.reached begun.front.counts holds.counts
      (cpu_named line) within)
      ∙ ap (λ (c : ℕ). get_or begun.front.counts c 0) of_cpu

  module _ (cpu : ℕ) (call : NextCall) (is : IsNextWith history begun.front.counts cpu call) (lines : List Line) (line : Line)
      (holds : Holds history begun lines) (of_cpu : cpu_named line ≡ cpu) (is_next : IsNext history.events lines line) where
    same_cpu : call.choice.cpu ≡ cpu_named line
    same_cpu = is.is_next.1 ∙ sym of_cpu

    same_number : call.choice.number ≡ number_named line
    same_number =
        is.is_next.0.numbered ∙ ap (λ (c : ℕ). get_or begun.front.counts c 0) is.is_next.1
        ∙ sym (next_number lines line cpu holds of_cpu is_next)

    -- its command is that call's
    line_call : (called : ℕ) (other : Command) → IsCalled history.events called (cpu_named line) (number_named line) other → call.call ≡ call_of other
    line_call called other is_called =
        let there : IsCalled history.events call.choice.places.called (cpu_named line) (number_named line) is.command =
        subst (λ (c : ℕ). IsCalled history.events call.choice.places.called c (number_named line) is.command) same_cpu
        (subst (λ (n : ℕ). IsCalled history.events call.choice.places.called call.choice.cpu n is.command) same_number is.is_called) in
        is.is_call
        ∙ ap call_of (same_command history.events (HasOnePlaces-from_history history is_begun.front.is_history) call.choice.places.called called
        (cpu_named line) (number_named line) is.command other there is_called)

    -- and so is its reply
    line_reply : (other : Reply) → IsReplyOf history.events line other → next.IsReplyOf call other
    line_reply other is_reply = by call.reply is.returned
      where
        by : (found : Option ReplyRef)
            → IfSome found (λ r. (place : ℕ) × IsReturned history.events place call.choice.cpu call.choice.number (reply_seen r))
            → IfSome found (λ r. reply_seen r ≡ other)
        by None returned = tt
        by (Some r) returned =
            let there : IsReturned history.events returned.0 (cpu_named line) (number_named line) (reply_seen r) =
            subst (λ (c : ℕ). IsReturned history.events returned.0 c (number_named line) (reply_seen r)) same_cpu
            (subst (λ (n : ℕ). IsReturned history.events returned.0 call.choice.cpu n (reply_seen r)) same_number returned.1) in
            let kept = kept_line history.events line (cpu_named line) (number_named line) is_next.kind refl refl (returned.0, reply_seen r, there) in
            let is_given : IsReplyOf history.events line (reply_seen r) =
            subst (λ (l : Line). IsReplyOf history.events l (reply_seen r)) (sym kept) (returned.0, there) in
            same_reply history.events (HasOnePlaces-from_history history is_begun.front.is_history) line (reply_seen r) other is_given is_reply

    -- where the call was carried out, the line's is
    line_done : next.IsCarriedOut call → IsCarriedOut history.events line
    line_done done = λ given is_reply. by call.reply given done (line_reply given is_reply)
      where
        by : (found : Option ReplyRef) (given : Reply) → next.IsAccepted found → IfSome found (λ r. reply_seen r ≡ given)
            → is_accepted given ≡ true
        by None given accepted same = absurd accepted
        by (Some r) given accepted same = subst (λ (g : Reply). is_accepted g ≡ true) same accepted

  module _ (place cpu other : ℕ) (one two : NextCall) (is_one : IsNextWith history begun.front.counts cpu one)
      (is_two : IsNextWith history begun.front.counts other two) (lines : List Line) (line later : Line)
      (kept : IsKept history place lines (state_of begun.machine)) (holds : Holds history begun lines)
      (of_cpu : cpu_named line ≡ cpu) (of_other : cpu_named later ≡ other)
      (opened : IsOpen history.events place lines line × IsOpen history.events place lines later) where
    -- what relates the calls relates the lines' commands
    commands_related : (related : Call → Call → Type 0) → related one.call two.call → (called called_too : ℕ) (command also : Command)
        → IsCalled history.events called (cpu_named line) (number_named line) command
        → IsCalled history.events called_too (cpu_named later) (number_named later) also → related (call_of command) (call_of also)
    commands_related related are called called_too command also is_called is_called_too =
        subst (λ (c : Call). related c (call_of also))
        (line_call cpu one is_one lines line holds of_cpu opened.0.next called command is_called)
        (subst (λ (c : Call). related one.call c)
        (line_call other two is_two lines later holds of_other opened.1.next called_too also is_called_too) are)

    -- and with their replies the lines
    lines_related : (related : Call → Reply → Call → Reply → Type 0) → AreRelated related one two
        → (called called_too : ℕ) (command also : Command) (given answered : Reply)
        → IsCalled history.events called (cpu_named line) (number_named line) command → IsReplyOf history.events line given
        → IsCalled history.events called_too (cpu_named later) (number_named later) also → IsReplyOf history.events later answered
        → related (call_of command) given (call_of also) answered
    lines_related related are called called_too command also given answered is_called is_given is_called_too is_answered =
        commands_related (λ c d. related c given d answered)
        (are given answered (line_reply cpu one is_one lines line holds of_cpu opened.0.next given is_given)
        (line_reply other two is_two lines later holds of_other opened.1.next answered is_answered))
        called called_too command also is_called is_called_too

    -- the line passes the other where its call may pass the other's
    Passes-may : MayPass one two → Passes history place lines (state_of begun.machine) line later
    Passes-may (LendsApart granule lends apart) =
        Passes-from_lending history place lines (state_of begun.machine) line later granule kept
        (λ called c is_called. subst (λ (x : Call). lent x ≡ Some granule)
        (line_call cpu one is_one lines line holds of_cpu opened.0.next called c is_called) lends)
        (λ called c is_called. subst (λ (x : Call). is_apart_from x granule ≡ true)
        (line_call other two is_two lines later holds of_other opened.1.next called c is_called) apart)
    Passes-may (LendsFirst granule lends done unnamed) =
        Passes-from_done_lending history place lines (state_of begun.machine) line later granule kept
        (λ called c is_called. subst (λ (x : Call). lent x ≡ Some granule)
        (line_call cpu one is_one lines line holds of_cpu opened.0.next called c is_called) lends)
        (line_done cpu one is_one lines line holds of_cpu opened.0.next done)
        (λ called c is_called. subst (λ (x : Call). is_named (named x) granule ≡ false)
        (line_call other two is_two lines later holds of_other opened.1.next called c is_called) unnamed)
    Passes-may (LendsLast granule lends done lets) =
        Passes-from_lent history place lines (state_of begun.machine) line later granule kept
        (λ called c is_called. subst (λ (x : Call). lent x ≡ Some granule)
        (line_call other two is_two lines later holds of_other opened.1.next called c is_called) lends)
        (line_done other two is_two lines later holds of_other opened.1.next done)
        (λ called called_too command also is_called is_called_too.
        commands_related (λ c d. lets_lend c d granule ≡ true) lets called called_too command also is_called is_called_too)
    Passes-may (Apart related) =
        Passes-from_made_apart history place lines (state_of begun.machine) line later kept (lines_related AreMadeApart related)
    Passes-may (Enters beside) =
        Passes-from_entry history place lines (state_of begun.machine) line later kept
        (λ called called_too command also answered is_called is_called_too is_answered.
        commands_related (λ c d. AreBeside c d answered)
        (beside answered (line_reply other two is_two lines later holds of_other opened.1.next answered is_answered))
        called called_too command also is_called is_called_too)
    Passes-may (Works beside) =
        Passes-from_work history place lines (state_of begun.machine) line later kept
        (λ called_too called also command given is_called_too is_called is_given.
        commands_related (λ c d. AreBeside d c given)
        (beside given (line_reply cpu one is_one lines line holds of_cpu opened.0.next given is_given))
        called called_too command also is_called is_called_too)
    Passes-may (Ends apart done done_too) =
        Passes-from_ending history place lines (state_of begun.machine) line later kept
        (λ called called_too command also is_called is_called_too.
        commands_related EndsApart apart called called_too command also is_called is_called_too)
        (line_done cpu one is_one lines line holds of_cpu opened.0.next done)
        (line_done other two is_two lines later holds of_other opened.1.next done_too)

    -- so it does where its call ends something, and what the other names is left alone
    Passes-last : EndsLater one.call two.call → next.IsCarriedOut one → next.IsCarriedOut two
        → IsLeftAlone history.events place lines (state_of begun.machine) later → Passes history place lines (state_of begun.machine) line later
    Passes-last ends done done_too alone =
        Passes-from_ended history place lines (state_of begun.machine) line later kept
        (λ called called_too command also is_called is_called_too.
        commands_related EndsLater ends called called_too command also is_called is_called_too)
        alone
        (line_done cpu one is_one lines line holds of_cpu opened.0.next done)
        (line_done other two is_two lines later holds of_other opened.1.next done_too)

  -- a line whose call wasn't made before the place isn't open there
  not_open : (place cpu : ℕ) → HasNoneBefore history begun.front.counts place cpu → (lines : List Line) (line : Line)
      → Holds history begun lines → cpu_named line ≡ cpu → ¬ IsOpen history.events place lines line
  not_open place cpu none lines line holds of_cpu opened =
      let behind = none opened.called opened.command
      (subst (λ (n : ℕ). IsCalled history.events opened.called cpu n opened.command) (next_number lines line cpu holds of_cpu opened.next)
      (subst (λ (c : ℕ). IsCalled history.events opened.called c (number_named line) opened.command) of_cpu opened.is_called)) in
      let before = opened.before in
      absurd (omega (arith, behind, before))

  -- an open line is of a CPU of the machine
  open_within : (place : ℕ) (lines : List Line) (line : Line) → Holds history begun lines → IsOpen history.events place lines line
      → cpu_named line < history.config.cpus
  open_within place lines line holds is_open =
      of_machine history is_begun.front.is_history lines (state_of begun.machine) holds.reached begun.front.counts holds.counts
      (cpu_named line) (number_named line) is_open.next.known

  -- a CPU's line is left alone, where its call names no part and nothing that another's open call names
  IsLeftAlone-found : (place other : ℕ) (calls : List (Option NextCall)) (two : NextCall) → history.config.cpus ≤ 8
      → AreOpenCalls history begun.front.counts place calls → IsNextWith history begun.front.counts other two
      → NamesNoPart (state_of begun.machine) two.call → IsNamedAlone calls other two 8 → (lines : List Line) (later : Line)
      → Holds history begun lines → cpu_named later ≡ other → IsNext history.events lines later
      → IsLeftAlone history.events place lines (state_of begun.machine) later
  IsLeftAlone-found place other calls two few are is_two whole alone lines later holds of_other is_next = record {
    whole = λ called command is_called.
        subst (λ (c : Call). NamesNoPart (state_of begun.machine) c) (mine called command is_called) whole;
    others = λ called called_too command also line is_open differ is_called is_called_too granule names.
        let cpu = cpu_named line in
        let within = open_within place lines line holds is_open in
        let eight = are.eight in
        let here = slice_get-get_or calls cpu None (omega (arith, within, few, eight)) in
        by called called_too command also line is_open differ is_called is_called_too granule names (omega (arith, within, few))
        (get_or calls cpu None) here (are.each cpu (get_or calls cpu None) within here);
  }
    where
      mine : (called : ℕ) (command : Command) → IsCalled history.events called (cpu_named later) (number_named later) command
          → two.call ≡ call_of command
      mine called command is_called = line_call other two is_two lines later holds of_other is_next called command is_called

      by : (called called_too : ℕ) (command also : Command) (line : Line) → IsOpen history.events place lines line
          → ¬ (cpu_named line ≡ cpu_named later) → IsCalled history.events called (cpu_named later) (number_named later) command
          → IsCalled history.events called_too (cpu_named line) (number_named line) also → (granule : ℕ)
          → is_named (named (call_of command)) granule ≡ true → cpu_named line < 8 → (found : Option NextCall)
          → slice_get calls (cpu_named line) ≡ Some found → IsNextFound history begun.front.counts place (cpu_named line) found
          → is_named (named (call_of also)) granule ≡ false
      by called called_too command also line is_open differ is_called is_called_too granule names below None at is =
          absurd (not_open place (cpu_named line) is lines line holds refl is_open)
      by called called_too command also line is_open differ is_called is_called_too granule names below (Some found) at is =
          subst (λ (c : Call). is_named (named c) granule ≡ false)
          (line_call (cpu_named line) found is lines line holds refl is_open.next called_too also is_called_too)
          (alone (cpu_named line) found below (λ same. differ (same ∙ sym of_other)) at granule
          (subst (λ (c : Call). is_named (named c) granule ≡ true) (sym (mine called command is_called)) names))

  -- by what is found of both CPUs' calls
  Passes-found : (place cpu other : ℕ) (calls : List (Option NextCall)) (one two : Option NextCall) → history.config.cpus ≤ 8
      → AreOpenCalls history begun.front.counts place calls → IsNextFound history begun.front.counts place cpu one
      → IsNextFound history begun.front.counts place other two → PassesWhere calls (state_of begun.machine) other one two
      → (lines : List Line) (line later : Line)
      → IsKept history place lines (state_of begun.machine) → Holds history begun lines → cpu_named line ≡ cpu → cpu_named later ≡ other
      → Passes history place lines (state_of begun.machine) line later
  Passes-found place cpu other calls None two few are here there may lines line later kept holds of_cpu of_other before old new are_open earlier
      given =
      absurd (not_open place cpu here lines line holds of_cpu (two_open history.events place lines before line later are_open).0)
  Passes-found place cpu other calls (Some one) None few are here there may lines line later kept holds of_cpu of_other before old new are_open
      earlier given =
      absurd (not_open place other there lines later holds of_other (two_open history.events place lines before line later are_open).1)
  Passes-found place cpu other calls (Some one) (Some two) few are here there may lines line later kept holds of_cpu of_other before old new are_open
      earlier is =
      let opened = two_open history.events place lines before line later are_open in
      let passes : Passes history place lines (state_of begun.machine) line later = elim may [
        | inl passes ↦ Passes-may place cpu other one two here there lines line later kept holds of_cpu of_other opened passes
        | inr ends ↦ Passes-last place cpu other one two here there lines line later kept holds of_cpu of_other opened ends.later ends.done
            ends.done_too (IsLeftAlone-found place other calls two few are there ends.whole ends.alone lines later holds of_other opened.1.next)
      ] in
      passes before old new are_open earlier is

  -- so the CPUs inside are a group
  pub IsGroup-drawn : (first : Choice) (calls : List (Option NextCall)) (group : ℕ → Bool) → group first.cpu ≡ true
      → history.config.cpus ≤ 8 → AreOpenCalls history begun.front.counts (rank_of first) calls
      → PassInside calls (state_of begun.machine) group 8
      → IsGroup history begun first group
  IsGroup-drawn first calls group has few are pass = record {
    has_first = has;
    passes = λ lines line other kept holds is_out is_in before old new are_open earlier given.
        let opened = two_open history.events (rank_of first) lines before line other are_open in
        let one = open_within (rank_of first) lines line holds opened.0 in
        let two = open_within (rank_of first) lines other holds opened.1 in
        let eight = are.eight in
        let here = slice_get-get_or calls (cpu_named line) None (omega (arith, one, few, eight)) in
        let there = slice_get-get_or calls (cpu_named other) None (omega (arith, two, few, eight)) in
        Passes-found (rank_of first) (cpu_named line) (cpu_named other) calls (get_or calls (cpu_named line) None)
        (get_or calls (cpu_named other) None) few are
        (are.each (cpu_named line) (get_or calls (cpu_named line) None) one here)
        (are.each (cpu_named other) (get_or calls (cpu_named other) None) two there)
        (pass (cpu_named line) (omega (arith, one, few)) is_out (cpu_named other) (omega (arith, two, few)) is_in)
        lines line other kept holds refl refl before old new are_open earlier given;
  }

-- a CPU that comes inside is inside
pub is_outside-drawn : (outside : List Bool) (cpu : ℕ) → is_outside (slice_set outside cpu false) cpu ≡ false
is_outside-drawn [] cpu = refl
is_outside-drawn (first ∷ outside) zero = refl
is_outside-drawn (first ∷ outside) (suc cpu) = is_outside-drawn outside cpu

-- and those that were stay
pub is_outside-kept : (outside : List Bool) (cpu other : ℕ)
    → is_outside outside other ≡ false → is_outside (slice_set outside cpu false) other ≡ false
is_outside-kept [] cpu other is = is
is_outside-kept (first ∷ outside) zero zero is = refl
is_outside-kept (first ∷ outside) zero (suc other) is = is
is_outside-kept (first ∷ outside) (suc cpu) zero is = is
is_outside-kept (first ∷ outside) (suc cpu) (suc other) is = is_outside-kept outside cpu other is
