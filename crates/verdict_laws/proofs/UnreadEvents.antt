-- Histories in which each reading of a measurement extends one: their runs, their calls and their returns.
use Rattle.verdict_laws.proofs.Common.{◌≡◌, ℕ, true, false, List, [], ◌∷◌, ◌++◌, map, if◌then◌else◌, Some, refl, ◌∙◌, ap, subst, arith, slice_get, slice_get_within, Command, Event, Called, Returned, Line, Reply, History, IsSound, State, JournalEntry, IsRun, IsCalled, IsReturned, AreEntriesOf}
use Rattle.std.specs.Prelude.{slice_index}
use Rattle.std.proofs.lemmas.Option.{slice_get-get_or}
use Rattle.rmm_spec.specs.declared.reply.Reply.TheVariants as reply
use Rattle.rmm_laws.proofs.Runs.{step_sound}
use Rattle.verdict_laws.specs.Unread.{unmeasured, is_reading, is_extending, extension_for, unread_command, unread_reply, IsUnreadEvent, IsUnread, ReadsNothing}
use Rattle.verdict_laws.proofs.Settled.{claimed-append}
use Rattle.verdict_laws.proofs.Unmeasured.{step-unmeasured, extended_step-unmeasured, unread_reply-other}

-- ---- runs

-- the commit, with another command and reply where it reads a measurement
abbrev pub unread_entry : JournalEntry → JournalEntry
unread_entry entry = record entry { command = unread_command entry.command; given = unread_reply entry.command entry.given }

-- such commits are a run from each state that differs in measurements alone
pub run-unmeasured : (entries : List JournalEntry) (s t last : State) → IsSound s → unmeasured s ≡ unmeasured t → IsRun s entries last
    → (end : State) × IsRun t (map unread_entry entries) end
run-unmeasured [] s t last sound same run = (t, refl)
run-unmeasured (entry ∷ entries) s t last sound same run =
    let first = step-unmeasured s t run.0 entry.cpu entry.command entry.given sound same run.1 in
    let after = step_sound s entry.cpu entry.command entry.given run.0 sound run.1 in
    let rest = run-unmeasured entries run.0 first.0 last after first.2 run.2 in
    (rest.0, (first.0, first.1, rest.1))

-- a command that reads no measurement stays
unread_command-same : (command : Command) → is_reading command ≡ false → unread_command command ≡ command
unread_command-same command other = λ i. if other i then extension_for (slice_index command.words.items 0) else command

-- so the commits stay where no call asks for a measurement
map-unread_entry : (events : List Event) → ReadsNothing events → (lines : List Line) (entries : List JournalEntry)
    → AreEntriesOf events lines entries → map unread_entry entries ≡ entries
map-unread_entry events nothing [] [] claimed = refl
map-unread_entry events nothing [] (entry ∷ entries) claimed = absurd claimed
map-unread_entry events nothing (line ∷ lines) [] claimed = absurd claimed
map-unread_entry events nothing (line ∷ lines) (entry ∷ entries) claimed =
    let is_entry = claimed.0 in
    let other = nothing is_entry.called _ _ entry.command is_entry.is_called in
    let command = unread_command-same entry.command other in
    let given = unread_reply-other entry.command entry.given other in
    λ i. record entry { command = command i; given = given i } ∷ map-unread_entry events nothing lines entries claimed.1 i

-- and a run goes on from a state that differs in measurements alone
pub run-reads_nothing : (events : List Event) → ReadsNothing events → (lines : List Line) (entries : List JournalEntry) (s t last : State)
    → IsSound s → unmeasured s ≡ unmeasured t → AreEntriesOf events lines entries → IsRun s entries last → (end : State) × IsRun t entries end
run-reads_nothing events nothing lines entries s t last sound same claimed run =
    let other = run-unmeasured entries s t last sound same run in
    (other.0, subst (λ (es : List JournalEntry). IsRun t es other.0) (map-unread_entry events nothing lines entries claimed) other.1)

-- without an extension in the midst of them, such commits are a run from each state that differs in measurements alone
run-unextended : (first rest : List JournalEntry) (entry : JournalEntry) (s t last : State) → IsSound s → unmeasured s ≡ unmeasured t
    → is_extending entry.command ≡ true → IsRun s (first ++ entry ∷ rest) last → (end : State) × IsRun t (map unread_entry (first ++ rest)) end
run-unextended [] rest entry s t last sound same extends run =
    let after = step_sound s entry.cpu entry.command entry.given run.0 sound run.1 in
    let kept = extended_step-unmeasured s run.0 entry.cpu entry.command entry.given sound extends run.1 in
    run-unmeasured rest run.0 t last after (kept ∙ same) run.2
run-unextended (e ∷ first) rest entry s t last sound same extends run =
    let next = step-unmeasured s t run.0 e.cpu e.command e.given sound same run.1 in
    let after = step_sound s e.cpu e.command e.given run.0 sound run.1 in
    let more = run-unextended first rest entry run.0 next.0 last after next.2 extends run.2 in
    (more.0, (next.0, next.1, more.1))

-- so a run goes on without it where no call asks for a measurement
pub run-without_extension : (events : List Event) → ReadsNothing events → (front back : List Line) (first rest : List JournalEntry)
    (entry : JournalEntry) (s t last : State) → IsSound s → unmeasured s ≡ unmeasured t → is_extending entry.command ≡ true
    → AreEntriesOf events front first → AreEntriesOf events back rest
    → IsRun s (first ++ entry ∷ rest) last → (end : State) × IsRun t (first ++ rest) end
run-without_extension events nothing front back first rest entry s t last sound same extends claimed later run =
    let other = run-unextended first rest entry s t last sound same extends run in
    let stay = map-unread_entry events nothing (front ++ back) (first ++ rest) (claimed-append events front back first rest claimed later) in
    (other.0, subst (λ (es : List JournalEntry). IsRun t es other.0) stay other.1)

-- ---- events

module _ (history unread : History) (is_unread : IsUnread history unread) where
  -- for each event of the history the other has one at its place
  event_there : (place : ℕ) (event : Event) → slice_get history.events place ≡ Some event
      → (other : Event) × (slice_get unread.events place ≡ Some other) × IsUnreadEvent history.events event other
  event_there place event is_event =
      let within = slice_get_within history.events place event is_event in
      let same = is_unread.len in
      let is_other = slice_get-get_or unread.events place event (omega (arith, within, same)) in
      (_, is_other, is_unread.each place event _ is_event is_other)

  -- and it has no more
  event_back : (place : ℕ) (other : Event) → slice_get unread.events place ≡ Some other
      → (event : Event) × (slice_get history.events place ≡ Some event) × IsUnreadEvent history.events event other
  event_back place other is_other =
      let within = slice_get_within unread.events place other is_other in
      let same = is_unread.len in
      let is_event = slice_get-get_or history.events place other (omega (arith, within, same)) in
      (_, is_event, is_unread.each place _ other is_event is_other)

  -- a call of the history stands there with the command that stands for its own
  pub call_there : (place cpu number : ℕ) (command : Command) → IsCalled history.events place cpu number command
      → IsCalled unread.events place cpu number (unread_command command)
  call_there place cpu number command is_called =
      let there = event_there place (Called cpu number command) is_called in there.1 ∙ ap (λ (e : Event). Some e) there.2

  -- and a return with what is replied to that of its call
  pub return_there : (place cpu number : ℕ) (given : Reply) → IsReturned history.events place cpu number given
      → (called : ℕ) × (command : Command) × IsCalled history.events called cpu number command
      × IsReturned unread.events place cpu number (unread_reply command given)
  return_there place cpu number given is_returned =
      let there = event_there place (Returned cpu number given) is_returned in
      let call = there.2 in
      (call.0, call.1, call.2, there.1 ∙ ap (λ (e : Event). Some e) call.3)

  -- each call there is a call of the history
  pub call_back : (place cpu number : ℕ) (command : Command) → IsCalled unread.events place cpu number command
      → (made : Command) × IsCalled history.events place cpu number made × (command ≡ unread_command made)
  call_back place cpu number command is_called = named (event_back place (Called cpu number command) is_called)
    where
      named : (event : Event) × (slice_get history.events place ≡ Some event) × IsUnreadEvent history.events event (Called cpu number command)
          → (made : Command) × IsCalled history.events place cpu number made × (command ≡ unread_command made)
      named (Called c n made, is_event, same) =
          let of_cpu : c ≡ cpu = cc in
          let numbered : n ≡ number = cc in
          let as_made : command ≡ unread_command made = cc in
          (made, is_event ∙ ap (λ (x : ℕ). Some (Called x n made)) of_cpu ∙ ap (λ (x : ℕ). Some (Called cpu x made)) numbered, as_made)
      named (Returned c n told, is_event, call) = absurd (let same = call.3 in cc)

  -- and each return is a return
  pub return_back : (place cpu number : ℕ) (given : Reply) → IsReturned unread.events place cpu number given
      → (told : Reply) × IsReturned history.events place cpu number told
  return_back place cpu number given is_returned = named (event_back place (Returned cpu number given) is_returned)
    where
      named : (event : Event) × (slice_get history.events place ≡ Some event) × IsUnreadEvent history.events event (Returned cpu number given)
          → (told : Reply) × IsReturned history.events place cpu number told
      named (Called c n made, is_event, same) = absurd cc
      named (Returned c n told, is_event, call) =
          let same = call.3 in
          let of_cpu : c ≡ cpu = cc in
          let numbered : n ≡ number = cc in
          (told, is_event ∙ ap (λ (x : ℕ). Some (Returned x n told)) of_cpu ∙ ap (λ (x : ℕ). Some (Returned cpu x told)) numbered)
