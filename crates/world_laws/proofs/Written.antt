-- What every run keeps of what can be written: events have texts, each CPU's are a record, and the journal's replies have texts.
use Rattle.std.proofs.Common.{◌≡◌, ℕ, ◌+◌, ◌<◌, Bool, true, false, ◌==◌, eqb, List, [], ◌∷◌, ◌++◌, length, Option, Some, None, slice_get, ◌⊎◌, inl, inr, refl, sym, ◌∙◌, subst, eqb-true, eq-eqb}
use Rattle.std.specs.Prelude.{IsSome}
use Rattle.std.specs.List.{AllByRecursion}
use Rattle.std.proofs.lemmas.Bool.{false≢true}
use Rattle.std.proofs.lemmas.Option.{none-some}
use Rattle.rmm_spec.specs.declared.command.Command.{Command}
use Rattle.rmm_spec.specs.declared.event.Event.{Event}
use Rattle.rmm_spec.specs.declared.event.Event.TheVariants.{Called, Returned}
use Rattle.rmm_spec.specs.declared.reply.Reply.{Reply}
use Rattle.rmm_spec.specs.CommandText.{IsCommand, IsReply}
use Rattle.rmm_spec.specs.HistoryText.{Config, Stand, start, stand_after, stand_from, subhistory_of, cpu_of, IsEvent}
use Rattle.rmm_spec.specs.Cell.{put}
use Rattle.rmm_spec.specs.Flat.{flat_state}
use Rattle.rmm_spec.specs.Local.{Hold, put_all}
use Rattle.rmm_spec.specs.World.{World, Phase, Between, Deciding, Decided, GivenUp, Stopped, Commitment, opening_world, phase_learnt, without_granule, Move, Happens, HappenAll, Commits}
use Rattle.rmm_spec.specs.World as world
use Rattle.spec_lemmas.proofs.Places.{IsEvent-slice_get}
use Rattle.spec_lemmas.proofs.Records.{subhistory_of-push_same, subhistory_of-push_other, stand_from-push_at, AllByRecursion-push}
use Rattle.spec_lemmas.proofs.Maps.{put_elim}
use Rattle.world_laws.proofs.Recorded.{Agrees-own, IsAccounted, AtPhase, IsAccounted-HappenAll, IsAccounted-opening}
use Rattle.world_laws.specs.Programs.{HaveTexts}
use Rattle.spec_lemmas.proofs.Opening.{flat_state-opening}
use Rattle.world_laws.proofs.Told.{StateFits, StateFits-opening}
use Rattle.world_laws.proofs.Replies.{IsReply-Step}
use Rattle.lemmas.proofs.Elements.{slice_get-push_cases}

-- ---- where each CPU stands

-- what a CPU's phase says of its record
abbrev pub AtStand : Phase → Option Stand → Type 0
AtStand (Between number) stand = stand ≡ Some (record { next = number; is_open = false })
AtStand (Deciding number command learnt) stand = stand ≡ Some (record { next = number + 1; is_open = true })
AtStand (Decided number command given) stand = stand ≡ Some (record { next = number + 1; is_open = true })
AtStand _ stand = IsSome stand

IsSome-some : (stand : Option Stand) (s : Stand) → stand ≡ Some s → IsSome stand
IsSome-some stand s is = subst IsSome (sym is) refl

-- in each phase a CPU's events are a record
pub IsSome-AtStand : (p : Phase) (stand : Option Stand) → AtStand p stand → IsSome stand
IsSome-AtStand GivenUp stand at = at
IsSome-AtStand Stopped stand at = at
IsSome-AtStand _ stand at = IsSome-some stand _ at

AtStand-learnt : (learnt : Option ℕ) (p : Phase) (stand : Option Stand) → AtStand p stand → AtStand (phase_learnt learnt p) stand
AtStand-learnt learnt (Between number) stand at = at
AtStand-learnt learnt _ stand at = at

abbrev stand_of : List Event → ℕ → Option Stand
stand_of events cpu = stand_from start (subhistory_of cpu events)

-- each CPU stands where its phase says
abbrev pub AreAtStands : (ℕ → Phase) → List Event → Type 0
AreAtStands phase events = (cpu : ℕ) → AtStand (phase cpu) (stand_of events cpu)

-- one CPU's phase changes
AreAtStands-put : (phase : ℕ → Phase) (events : List Event) (cpu : ℕ) (p : Phase) → AtStand p (stand_of events cpu) → AreAtStands phase events
    → AreAtStands (put phase cpu p) events
AreAtStands-put phase events cpu p here others other =
    put_elim (λ q. AtStand q (stand_of events other)) phase cpu p other
    (λ same. subst (λ c. AtStand p (stand_of events c)) (sym same) here) (λ apart. others other)

other_cpu : (cpu other : ℕ) → (other == cpu) ≡ false → eqb cpu other ≡ false
other_cpu cpu other apart = by (eqb cpu other) refl
  where
    by : (b : Bool) → eqb cpu other ≡ b → eqb cpu other ≡ false
    by true same = absurd (false≢true (sym apart ∙ eq-eqb other cpu (sym (eqb-true cpu other same))))
    by false is = is

-- one CPU's phase changes with an event of its own
AreAtStands-push : (phase : ℕ → Phase) (events : List Event) (event : Event) (p : Phase) (old : Stand) → stand_of events (cpu_of event) ≡ Some old
    → AtStand p (stand_after old event) → AreAtStands phase events → AreAtStands (put phase (cpu_of event) p) (events ++ event ∷ [])
AreAtStands-push phase events event p old stood here others other =
    put_elim (λ q. AtStand q (stand_of (events ++ event ∷ []) other)) phase (cpu_of event) p other
    (λ same. subst (λ c. AtStand p (stand_of (events ++ event ∷ []) c)) (sym same)
    (subst (λ es. AtStand p (stand_from start es)) (sym (subhistory_of-push_same (cpu_of event) events event refl))
    (subst (AtStand p) (sym (stand_from-push_at (subhistory_of (cpu_of event) events) event old stood)) here)))
    (λ apart. subst (λ es. AtStand (phase other) (stand_from start es))
    (sym (subhistory_of-push_other other events event (other_cpu (cpu_of event) other apart)))
    (others other))

-- ---- worlds

-- What every world keeps that programs with texts lead to.
pub record IsWritten (w : World) : Type 0 where
  pub programs : (cpu : ℕ) → cpu < w.config.cpus → AllByRecursion IsCommand (w.program cpu)
  pub events : AllByRecursion (IsEvent w.config.cpus) w.events
  pub stands : AreAtStands w.phase w.events
  pub replies : (i : ℕ) (c : Commitment) → slice_get w.journal i ≡ Some c → IsReply c.given
  pub fits : StateFits (flat_state w.config w.cells)

-- a phase alone changes, and what is held
IsWritten-phase : (w : World) (taken : ℕ → List ℕ) (cpu : ℕ) (p : Phase) → IsWritten w → AtStand p (stand_of w.events cpu)
    → IsWritten (record w { taken = taken; phase = put w.phase cpu p })
IsWritten-phase w taken cpu p written here = record {
  programs = written.programs;
  events = written.events;
  stands = AreAtStands-put w.phase w.events cpu p here written.stands;
  replies = written.replies;
  fits = written.fits;
}

-- what a CPU's phase says of its record
AtStand-known : (w : World) (cpu : ℕ) (p : Phase) → IsWritten w → w.phase cpu ≡ p → AtStand p (stand_of w.events cpu)
AtStand-known w cpu p written is = subst (λ q. AtStand q (stand_of w.events cpu)) is (written.stands cpu)

IsWritten-Calls : (old : World) (cpu : ℕ) (new : World) → IsWritten old → Happens old (world.Call cpu) new → IsWritten new
IsWritten-Calls old cpu new written happens =
    let calls = happens.moves in
    let commands = subst (AllByRecursion IsCommand) calls.is_next (written.programs cpu happens.is_cpu) in
    let event = Called cpu calls.number calls.command in
    let here : stand_after (record { next = calls.number; is_open = false }) event ≡ Some (record { next = calls.number + 1; is_open = true }) =
    rw (eq-eqb calls.number calls.number refl) refl in
    subst IsWritten (sym calls.is_new) (record {
      programs = λ other is_cpu. put_elim (λ (p : List Command). AllByRecursion IsCommand p) old.program cpu calls.rest other
          (λ same. commands.1) (λ apart. written.programs other is_cpu);
      events = AllByRecursion-push (IsEvent old.config.cpus) old.events event written.events (happens.is_cpu, commands.0);
      stands = AreAtStands-push old.phase old.events event
          (Deciding calls.number calls.command None) (record { next = calls.number; is_open = false })
          (AtStand-known old cpu (Between calls.number) written calls.is_between) here written.stands;
      replies = written.replies;
      fits = written.fits;
    })

IsWritten-Returns : (old : World) (cpu : ℕ) (new : World) → IsAccounted old → IsWritten old → Happens old (world.Return cpu) new → IsWritten new
IsWritten-Returns old cpu new accounted written happens =
    let returns = happens.moves in
    let event = Returned cpu returns.number returns.given in
    let here : stand_after (record { next = returns.number + 1; is_open = true }) event
    ≡ Some (record { next = returns.number + 1; is_open = false }) =
    rw (eq-eqb (returns.number + 1) (returns.number + 1) refl) refl in
    let phase = subst (λ q. AtPhase q cpu old.journal old.events) returns.is_decided (accounted.phases cpu) in
    let given : IsReply returns.given = subst IsReply phase.1.is_given (written.replies phase.1.index phase.1.it phase.1.is_it) in
    subst IsWritten (sym returns.is_new) (record {
      programs = written.programs;
      events = AllByRecursion-push (IsEvent old.config.cpus) old.events event written.events (happens.is_cpu, given);
      stands = AreAtStands-push old.phase old.events event (Between (returns.number + 1)) (record { next = returns.number + 1; is_open = true })
          (AtStand-known old cpu (Decided returns.number returns.command returns.given) written returns.is_decided) here written.stands;
      replies = written.replies;
      fits = written.fits;
    })

-- the command of an open call has a text, and so the reply that the machine gives, and the next state fits
IsReply-Commits : (old : World) (cpu : ℕ) (given : Reply) (held : Hold) (new : World)
    → IsAccounted old → IsWritten old → Commits old cpu given held new
    → IsReply given × StateFits (flat_state old.config (put_all old.cells held.cells))
IsReply-Commits old cpu given held new accounted written commits =
    let number = commits.deciding.number in
    let command = commits.deciding.command in
    let phase = subst (λ q. AtPhase q cpu old.journal old.events) commits.deciding.is_deciding (accounted.phases cpu) in
    let is_event = IsEvent-slice_get old.config.cpus old.events phase.1.0 (Called cpu number command) written.events phase.1.1 in
    let right = commits.step.right old.cells old.place accounted.shaped (Agrees-own old.cells (old.taken cpu)) refl in
    IsReply-Step (flat_state old.config old.cells) cpu command given (flat_state old.config (put_all old.cells held.cells))
    written.fits is_event.1.words right.0

IsWritten-Commits : (old : World) (cpu : ℕ) (given : Reply) (held : Hold) (new : World)
    → IsAccounted old → IsWritten old → Commits old cpu given held new
    → IsWritten new
IsWritten-Commits old cpu given held new accounted written commits =
    let number = commits.deciding.number in
    let command = commits.deciding.command in
    let entry : Commitment = record { cpu = cpu; number = number; command = command; given = given } in
    let answered = IsReply-Commits old cpu given held new accounted written commits in
    subst IsWritten (sym commits.is_new) (record {
      programs = written.programs;
      events = written.events;
      stands = AreAtStands-put old.phase old.events cpu (Decided number command given)
          (AtStand-known old cpu (Deciding number command commits.deciding.learnt) written commits.deciding.is_deciding) written.stands;
      replies = λ i c is. by i c answered.0 (slice_get-push_cases old.journal entry i c is);
      fits = answered.1;
    })
  where
    by : (i : ℕ) (c : Commitment) → IsReply given
        → (slice_get old.journal i ≡ Some c) ⊎ ((i ≡ length old.journal)
        × ((record { cpu = cpu; number = commits.deciding.number; command = commits.deciding.command; given = given }) ≡ c)) → IsReply c.given
    by i c is_reply (inl earlier) = written.replies i c earlier
    by i c is_reply (inr last) = subst (λ (e : Commitment). IsReply e.given) last.1 is_reply

IsWritten-Happens : (old : World) (move : Move) (new : World) → IsAccounted old → IsWritten old → Happens old move new → IsWritten new
IsWritten-Happens old (world.Call cpu) new accounted written happens = IsWritten-Calls old cpu new written happens
IsWritten-Happens old (world.Take cpu granule) new accounted written happens = subst IsWritten (sym happens.moves.is_new) (record {
  programs = written.programs;
  events = written.events;
  stands = written.stands;
  replies = written.replies;
  fits = written.fits;
})
IsWritten-Happens old (world.Free cpu granule learnt) new accounted written happens =
    subst IsWritten (sym happens.moves.is_new)
    (IsWritten-phase old (put old.taken cpu (without_granule granule (old.taken cpu))) cpu (phase_learnt learnt (old.phase cpu)) written
    (AtStand-learnt learnt (old.phase cpu) (stand_of old.events cpu) (written.stands cpu)))
IsWritten-Happens old (world.Commit cpu given held) new accounted written happens =
    IsWritten-Commits old cpu given held new accounted written happens.moves
IsWritten-Happens old (world.GiveUp cpu) new accounted written happens =
    subst IsWritten (sym happens.moves.is_new)
    (IsWritten-phase old (put old.taken cpu []) cpu GivenUp written (IsSome-AtStand (old.phase cpu) (stand_of old.events cpu) (written.stands cpu)))
IsWritten-Happens old (world.Return cpu) new accounted written happens = IsWritten-Returns old cpu new accounted written happens
IsWritten-Happens old (world.Stop cpu) new accounted written happens =
    subst IsWritten (sym happens.moves.is_new)
    (IsWritten-phase old old.taken cpu Stopped written (IsSome-AtStand (old.phase cpu) (stand_of old.events cpu) (written.stands cpu)))

IsWritten-HappenAll : (old : World) (moves : List Move) (last : World) → IsAccounted old → IsWritten old → HappenAll old moves last → IsWritten last
IsWritten-HappenAll old [] last accounted written happen = subst IsWritten (sym happen) written
IsWritten-HappenAll old (move ∷ moves) last accounted written happen =
    IsWritten-HappenAll happen.0 moves last (IsAccounted-HappenAll old (move ∷ []) happen.0 accounted (happen.0, happen.1, refl))
    (IsWritten-Happens old move happen.0 accounted written happen.1) happen.2

-- what programs with texts lead to is written
pub IsWritten-run : (config : Config) (programs : ℕ → List Command) (moves : List Move) (w : World) → HaveTexts config programs
    → HappenAll (opening_world config programs) moves w → IsWritten w
unfolding opening_world
IsWritten-run config programs moves w have happen =
    IsWritten-HappenAll (opening_world config programs) moves w (IsAccounted-opening config programs) (record {
      programs = have;
      events = tt;
      stands = λ cpu. refl;
      replies = λ i c is. absurd (none-some c is);
      fits = subst StateFits (sym (flat_state-opening config)) (StateFits-opening config);
    }) happen
