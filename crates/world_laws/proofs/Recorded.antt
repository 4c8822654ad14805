-- What journal and events say of each other in every world that moves lead to.
use Rattle.std.proofs.Common.{◌≡◌, ℕ, suc, ◌+◌, ◌<◌, false, List, [], ◌∷◌, ◌++◌, map, length, Option, Some, None, slice_get, ◌⊎◌, inl, inr, refl, sym, ap, ◌∙◌, subst, arith}
use Rattle.std.specs.Prelude.{◌==◌}
use Rattle.std.proofs.lemmas.Option.{none-some, slice_get_within}
use Rattle.rmm_spec.specs.declared.command.Command.{Command}
use Rattle.rmm_spec.specs.declared.event.Event.{Event}
use Rattle.rmm_spec.specs.declared.event.Event.TheVariants.{Called, Returned}
use Rattle.rmm_spec.specs.declared.reply.Reply.{Reply}
use Rattle.rmm_spec.specs.HistoryText.{Config}
use Rattle.rmm_spec.specs.State.{State, opening}
use Rattle.rmm_spec.specs.Step.{Step}
use Rattle.rmm_spec.specs.Run.{JournalEntry, IsRun}
use Rattle.rmm_spec.specs.Linearization.{IsCalled, IsReturned, ReturnsBefore}
use Rattle.rmm_spec.specs.Cell.{Cell, put}
use Rattle.rmm_spec.specs.Flat.{flat_state}
use Rattle.rmm_spec.specs.Local.{Hold, Agrees, put_all}
use Rattle.rmm_spec.specs.World.{World, Phase, Between, Deciding, Decided, GivenUp, Stopped, Commitment, opening_world, phase_learnt, without_granule, Move, Moves, HappenAll, IsShapedWorld, Calls, Takes, Commits, Returns}
use Rattle.rmm_spec.specs.World as world
use Rattle.spec_lemmas.proofs.Maps.{put_elim}
use Rattle.spec_lemmas.proofs.Opening.{flat_state-opening, IsShapedWorld-opening}
use Rattle.lemmas.proofs.Elements.{slice_get-append, slice_get-push, slice_get-push_cases, map-push}
use Rattle.lemmas.proofs.Tests.{keys_apart}

-- ---- journal and events

-- Each commit's call was made, no call commits twice, and each return gives the reply of a commit.
pub record AreCommitsOf (journal : List Commitment) (events : List Event) : Type 0 where
  pub called : (i : ℕ) (c : Commitment) → slice_get journal i ≡ Some c → (place : ℕ) × IsCalled events place c.cpu c.number c.command
  pub once : (i j : ℕ) (c d : Commitment) → i < j → slice_get journal i ≡ Some c → slice_get journal j ≡ Some d
      → c.cpu ≡ d.cpu → c.number ≡ d.number → ⊥
  pub returned : (place cpu number : ℕ) (given : Reply) → IsReturned events place cpu number given
      → (i : ℕ) × (c : Commitment) × (slice_get journal i ≡ Some c) × (c.cpu ≡ cpu) × (c.number ≡ number) × (c.given ≡ given)

-- They are commits of these events, and no commit's call returned before the call of an earlier commit was made.
pub record AreRecorded (journal : List Commitment) (events : List Event) : Type 0 where
  pub commits : AreCommitsOf journal events
  pub in_time : (i j : ℕ) (c d : Commitment) → i < j → slice_get journal i ≡ Some c → slice_get journal j ≡ Some d
      → ReturnsBefore events d.cpu d.number c.cpu c.number → ⊥

-- the CPU's commits have numbers below this
pub record AreBelow (journal : List Commitment) (cpu bound : ℕ) : Type 0 where
  pub below : (i : ℕ) (c : Commitment) → slice_get journal i ≡ Some c → c.cpu ≡ cpu → c.number < bound

-- the CPU's call with that number and reply is committed
pub record HasCommitted (journal : List Commitment) (cpu number : ℕ) (reply : Reply) : Type 0 where
  pub index : ℕ
  pub it : Commitment
  pub is_it : slice_get journal index ≡ Some it
  pub is_cpu : it.cpu ≡ cpu
  pub is_number : it.number ≡ number
  pub is_given : it.given ≡ reply

-- what a CPU's phase says of the journal and the events
abbrev pub AtPhase : Phase → ℕ → List Commitment → List Event → Type 0
AtPhase (Between number) cpu journal events = AreBelow journal cpu number
AtPhase (Deciding number command learnt) cpu journal events =
    AreBelow journal cpu number × ((place : ℕ) × IsCalled events place cpu number command)
AtPhase (Decided number command given) cpu journal events = AreBelow journal cpu (suc number) × HasCommitted journal cpu number given
AtPhase _ cpu journal events = Unit {0}

-- ---- more events

-- a call that was made stays made, at its place
called-more : (journal : List Commitment) (events : List Event) (event : Event) → AreRecorded journal events
    → (i : ℕ) (c : Commitment) → slice_get journal i ≡ Some c → (place : ℕ) × IsCalled (events ++ event ∷ []) place c.cpu c.number c.command
called-more journal events event recorded i c is =
    let was = recorded.commits.called i c is in (was.0, slice_get-append events (event ∷ []) was.0 (Called c.cpu c.number c.command) was.1)

AtPhase-more : (p : Phase) (cpu : ℕ) (journal : List Commitment) (events : List Event) (event : Event)
    → AtPhase p cpu journal events → AtPhase p cpu journal (events ++ event ∷ [])
AtPhase-more (Between number) cpu journal events event was = was
AtPhase-more (Deciding number command learnt) cpu journal events event was =
    (was.0, (was.1.0, slice_get-append events (event ∷ []) was.1.0 (Called cpu number command) was.1.1))
AtPhase-more (Decided number command given) cpu journal events event was = was
AtPhase-more _ cpu journal events event was = tt

-- a return is no call
called-returned : (cpu number : ℕ) (command : Command) (other count : ℕ) (given : Reply) → Called cpu number command ≡ Returned other count given → ⊥
called-returned cpu number command other count given same = cc

called-cpu : (cpu number : ℕ) (command : Command) (other count : ℕ) (called : Command)
    → Called cpu number command ≡ Called other count called → cpu ≡ other
called-cpu cpu number command other count called same = cc

called-number : (cpu number : ℕ) (command : Command) (other count : ℕ) (called : Command)
    → Called cpu number command ≡ Called other count called → number ≡ count
called-number cpu number command other count called same = cc

returned-cpu : (cpu number : ℕ) (given : Reply) (other count : ℕ) (reply : Reply)
    → Returned cpu number given ≡ Returned other count reply → cpu ≡ other
returned-cpu cpu number given other count reply same = cc

returned-number : (cpu number : ℕ) (given : Reply) (other count : ℕ) (reply : Reply)
    → Returned cpu number given ≡ Returned other count reply → number ≡ count
returned-number cpu number given other count reply same = cc

returned-given : (cpu number : ℕ) (given : Reply) (other count : ℕ) (reply : Reply)
    → Returned cpu number given ≡ Returned other count reply → given ≡ reply
returned-given cpu number given other count reply same = cc

-- after a call, a return is one of the earlier events
return_before_call : (events : List Event) (cpu number : ℕ) (command : Command) (place other count : ℕ) (given : Reply)
    → IsReturned (events ++ Called cpu number command ∷ []) place other count given → IsReturned events place other count given
return_before_call events cpu number command place other count given is =
    earlier (slice_get-push_cases events (Called cpu number command) place (Returned other count given) is)
  where
    earlier : (slice_get events place ≡ Some (Returned other count given))
        ⊎ ((place ≡ length events) × (Called cpu number command ≡ Returned other count given))
        → slice_get events place ≡ Some (Returned other count given)
    earlier (inl was) = was
    earlier (inr last) = absurd (called-returned cpu number command other count given last.1)

-- a call whose number none of the CPU's commits has
pub AreRecorded-called : (journal : List Commitment) (events : List Event) (cpu number : ℕ) (command : Command)
    → AreRecorded journal events → AreBelow journal cpu number → AreRecorded journal (events ++ Called cpu number command ∷ [])
AreRecorded-called journal events cpu number command recorded fresh = record {
  commits = record {
    called = called-more journal events (Called cpu number command) recorded;
    once = recorded.commits.once;
    returned = λ place other count given is. recorded.commits.returned place other count given
        (return_before_call events cpu number command place other count given is);
  };
  in_time = λ i j c d before is_c is_d returns.
      timely i j c d before is_c is_d returns
      (slice_get-push_cases events (Called cpu number command) returns.called (Called c.cpu c.number returns.command) returns.is_called);
}
  where
    timely : (i j : ℕ) (c d : Commitment) → i < j → slice_get journal i ≡ Some c → slice_get journal j ≡ Some d
        → (returns : ReturnsBefore (events ++ Called cpu number command ∷ []) d.cpu d.number c.cpu c.number)
        → (slice_get events returns.called ≡ Some (Called c.cpu c.number returns.command))
        ⊎ ((returns.called ≡ length events) × (Called cpu number command ≡ Called c.cpu c.number returns.command)) → ⊥
    timely i j c d before is_c is_d returns (inl was) = recorded.in_time i j c d before is_c is_d (record {
      returned = returns.returned;
      given = returns.given;
      is_returned = return_before_call events cpu number command returns.returned d.cpu d.number returns.given returns.is_returned;
      called = returns.called;
      command = returns.command;
      is_called = was;
      before = returns.before;
    })
    timely i j c d before is_c is_d returns (inr last) =
        let same_cpu : cpu ≡ c.cpu = called-cpu cpu number command c.cpu c.number returns.command last.1 in
        let same_number : number ≡ c.number = called-number cpu number command c.cpu c.number returns.command last.1 in
        let below : c.number < number = fresh.below i c is_c (sym same_cpu) in
        omega arith

-- the return of a call that is committed with that reply
pub AreRecorded-returned : (journal : List Commitment) (events : List Event) (cpu number : ℕ) (given : Reply)
    → AreRecorded journal events → HasCommitted journal cpu number given → AreRecorded journal (events ++ Returned cpu number given ∷ [])
AreRecorded-returned journal events cpu number given recorded has = record {
  commits = record {
    called = called-more journal events (Returned cpu number given) recorded;
    once = recorded.commits.once;
    returned = λ place other count reply is. known place other count reply
        (slice_get-push_cases events (Returned cpu number given) place (Returned other count reply) is);
  };
  in_time = λ i j c d before is_c is_d returns.
      timely i j c d before is_c is_d returns
      (slice_get-push_cases events (Returned cpu number given) returns.called (Called c.cpu c.number returns.command) returns.is_called)
      (slice_get-push_cases events (Returned cpu number given) returns.returned (Returned d.cpu d.number returns.given) returns.is_returned);
}
  where
    known : (place other count : ℕ) (reply : Reply)
        → (slice_get events place ≡ Some (Returned other count reply))
        ⊎ ((place ≡ length events) × (Returned cpu number given ≡ Returned other count reply))
        → (i : ℕ) × (c : Commitment) × (slice_get journal i ≡ Some c) × (c.cpu ≡ other) × (c.number ≡ count) × (c.given ≡ reply)
    known place other count reply (inl was) = recorded.commits.returned place other count reply was
    known place other count reply (inr last) = (
      has.index,
      has.it,
      has.is_it,
      has.is_cpu ∙ returned-cpu cpu number given other count reply last.1,
      has.is_number ∙ returned-number cpu number given other count reply last.1,
      has.is_given ∙ returned-given cpu number given other count reply last.1,
    )

    timely : (i j : ℕ) (c d : Commitment) → i < j → slice_get journal i ≡ Some c → slice_get journal j ≡ Some d
        → (returns : ReturnsBefore (events ++ Returned cpu number given ∷ []) d.cpu d.number c.cpu c.number)
        → (slice_get events returns.called ≡ Some (Called c.cpu c.number returns.command))
        ⊎ ((returns.called ≡ length events) × (Returned cpu number given ≡ Called c.cpu c.number returns.command))
        → (slice_get events returns.returned ≡ Some (Returned d.cpu d.number returns.given))
        ⊎ ((returns.returned ≡ length events) × (Returned cpu number given ≡ Returned d.cpu d.number returns.given)) → ⊥
    timely i j c d before is_c is_d returns (inl call) (inl return) = recorded.in_time i j c d before is_c is_d (record {
      returned = returns.returned;
      given = returns.given;
      is_returned = return;
      called = returns.called;
      command = returns.command;
      is_called = call;
      before = returns.before;
    })
    timely i j c d before is_c is_d returns (inl call) (inr last) =
        let within : returns.called < length events = slice_get_within events returns.called (Called c.cpu c.number returns.command) call in
        omega (arith, returns.before, last.0)
    timely i j c d before is_c is_d returns (inr last) return =
        called-returned c.cpu c.number returns.command cpu number given (sym last.1)

-- ---- more commits

-- the commit of a call that was made, and whose number none of the CPU's commits has
pub AreRecorded-committed : (journal : List Commitment) (events : List Event) (entry : Commitment) (place : ℕ)
    → AreRecorded journal events → AreBelow journal entry.cpu entry.number → IsCalled events place entry.cpu entry.number entry.command
    → AreRecorded (journal ++ entry ∷ []) events
AreRecorded-committed journal events entry place recorded fresh is_called = record {
  commits = record {
    called = λ i c is. made i c (slice_get-push_cases journal entry i c is);
    once = λ i j c d before is_c is_d.
        apart i j c d before (slice_get-push_cases journal entry i c is_c) (slice_get-push_cases journal entry j d is_d);
    returned = λ at other count given is.
        let was = recorded.commits.returned at other count given is in
        (was.0, was.1, slice_get-append journal (entry ∷ []) was.0 was.1 was.2, was.3, was.4, was.5);
  };
  in_time = λ i j c d before is_c is_d returns.
      timely i j c d before (slice_get-push_cases journal entry i c is_c) (slice_get-push_cases journal entry j d is_d) returns;
}
  where
    made : (i : ℕ) (c : Commitment) → (slice_get journal i ≡ Some c) ⊎ ((i ≡ length journal) × (entry ≡ c))
        → (at : ℕ) × IsCalled events at c.cpu c.number c.command
    made i c (inl was) = recorded.commits.called i c was
    made i c (inr last) = (place, subst (λ (e : Commitment). IsCalled events place e.cpu e.number e.command) last.1 is_called)

    apart : (i j : ℕ) (c d : Commitment) → i < j → (slice_get journal i ≡ Some c) ⊎ ((i ≡ length journal) × (entry ≡ c))
        → (slice_get journal j ≡ Some d) ⊎ ((j ≡ length journal) × (entry ≡ d)) → c.cpu ≡ d.cpu → c.number ≡ d.number → ⊥
    apart i j c d before (inl first) (inl second) same_cpu same_number = recorded.commits.once i j c d before first second same_cpu same_number
    apart i j c d before (inl first) (inr last) same_cpu same_number =
        let of_cpu : entry.cpu ≡ d.cpu = ap (λ (e : Commitment). e.cpu) last.1 in
        let of_number : entry.number ≡ d.number = ap (λ (e : Commitment). e.number) last.1 in
        let below : c.number < entry.number = fresh.below i c first (same_cpu ∙ sym of_cpu) in
        omega arith
    apart i j c d before (inr last) (inl second) same_cpu same_number =
        let within : j < length journal = slice_get_within journal j d second in omega (arith, last.0)
    apart i j c d before (inr last) (inr other) same_cpu same_number = omega (arith, last.0, other.0)

    timely : (i j : ℕ) (c d : Commitment) → i < j → (slice_get journal i ≡ Some c) ⊎ ((i ≡ length journal) × (entry ≡ c))
        → (slice_get journal j ≡ Some d) ⊎ ((j ≡ length journal) × (entry ≡ d)) → ReturnsBefore events d.cpu d.number c.cpu c.number → ⊥
    timely i j c d before (inl first) (inl second) returns = recorded.in_time i j c d before first second returns
    timely i j c d before (inl first) (inr last) returns =
        let of_cpu : entry.cpu ≡ d.cpu = ap (λ (e : Commitment). e.cpu) last.1 in
        let of_number : entry.number ≡ d.number = ap (λ (e : Commitment). e.number) last.1 in
        let was = recorded.commits.returned returns.returned d.cpu d.number returns.given returns.is_returned in
        let same_number : was.1.number ≡ d.number = was.4 in
        let below : was.1.number < entry.number = fresh.below was.0 was.1 was.2 (was.3 ∙ sym of_cpu) in
        omega arith
    timely i j c d before (inr last) (inl second) returns =
        let within : j < length journal = slice_get_within journal j d second in omega (arith, last.0)
    timely i j c d before (inr last) (inr other) returns = omega (arith, last.0, other.0)

AreBelow-more : (journal : List Commitment) (entry : Commitment) (cpu bound : ℕ) → AreBelow journal cpu bound
    → (entry.cpu ≡ cpu → entry.number < bound) → AreBelow (journal ++ entry ∷ []) cpu bound
AreBelow-more journal entry cpu bound was here = record {
  below = λ i c is same. by i c same (slice_get-push_cases journal entry i c is);
}
  where
    by : (i : ℕ) (c : Commitment) → c.cpu ≡ cpu → (slice_get journal i ≡ Some c) ⊎ ((i ≡ length journal) × (entry ≡ c)) → c.number < bound
    by i c same (inl earlier) = was.below i c earlier same
    by i c same (inr last) =
        let of_number : entry.number ≡ c.number = ap (λ (e : Commitment). e.number) last.1 in
        let of_cpu : entry.cpu ≡ c.cpu = ap (λ (e : Commitment). e.cpu) last.1 in
        let under : entry.number < bound = here (of_cpu ∙ same) in
        omega arith

-- the commit of another CPU changes nothing that a phase says
AtPhase-other : (p : Phase) (cpu : ℕ) (journal : List Commitment) (entry : Commitment) (events : List Event)
    → (entry.cpu ≡ cpu → ⊥) → AtPhase p cpu journal events → AtPhase p cpu (journal ++ entry ∷ []) events
AtPhase-other (Between number) cpu journal entry events other was = AreBelow-more journal entry cpu number was (λ same. absurd (other same))
AtPhase-other (Deciding number command learnt) cpu journal entry events other was =
    (AreBelow-more journal entry cpu number was.0 (λ same. absurd (other same)), was.1)
AtPhase-other (Decided number command given) cpu journal entry events other was = (
  AreBelow-more journal entry cpu (suc number) was.0 (λ same. absurd (other same)),
  record {
    index = was.1.index;
    it = was.1.it;
    is_it = slice_get-append journal (entry ∷ []) was.1.index was.1.it was.1.is_it;
    is_cpu = was.1.is_cpu;
    is_number = was.1.is_number;
    is_given = was.1.is_given;
  },
)
AtPhase-other GivenUp cpu journal entry events other was = tt
AtPhase-other Stopped cpu journal entry events other was = tt

-- the commit of the CPU itself
AtPhase-own : (journal : List Commitment) (entry : Commitment) (events : List Event) → AreBelow journal entry.cpu entry.number
    → AtPhase (Decided entry.number entry.command entry.given) entry.cpu (journal ++ entry ∷ []) events
AtPhase-own journal entry events fresh = (
  AreBelow-more journal entry entry.cpu (suc entry.number) (record { below = λ i c is same. below i c is same }) (λ same. omega arith),
  record { index = length journal; it = entry; is_it = slice_get-push journal entry; is_cpu = refl; is_number = refl; is_given = refl },
)
  where
    below : (i : ℕ) (c : Commitment) → slice_get journal i ≡ Some c → c.cpu ≡ entry.cpu → c.number < suc entry.number
    below i c is same = let under : c.number < entry.number = fresh.below i c is same in omega arith

-- ---- worlds

abbrev pub entry_of : Commitment → JournalEntry
entry_of c = record { cpu = c.cpu; command = c.command; given = c.given }

-- What every world that moves lead to keeps: journal and events agree, each CPU's phase says how far it is, the journal is a
-- run that leads to the cells, and those are well shaped.
pub record IsAccounted (w : World) : Type 0 where
  pub recorded : AreRecorded w.journal w.events
  pub phases : (cpu : ℕ) → AtPhase (w.phase cpu) cpu w.journal w.events
  pub run : IsRun (opening w.config) (map entry_of w.journal) (flat_state w.config w.cells)
  pub shaped : IsShapedWorld w

-- one step more at the end of a run
IsRun-push : (old : State) (entries : List JournalEntry) (middle : State) (entry : JournalEntry) (last : State)
    → IsRun old entries middle → Step middle entry.cpu entry.command entry.given last → IsRun old (entries ++ entry ∷ []) last
IsRun-push old [] middle entry last run step = (last, subst (λ (s : State). Step s entry.cpu entry.command entry.given last) run step, refl)
IsRun-push old (first ∷ entries) middle entry last run step = (run.0, run.1, IsRun-push run.0 entries middle entry last run.2 step)

-- a CPU's own cells are the world's
pub Agrees-own : (cells : ℕ → Cell) (taken : List ℕ) → Agrees cells (map (λ granule. record { granule = granule; cell = cells granule }) taken)
Agrees-own cells [] = tt
Agrees-own cells (granule ∷ taken) = (refl, Agrees-own cells taken)

pub IsAccounted-opening : (config : Config) (programs : ℕ → List Command) → IsAccounted (opening_world config programs)
unfolding opening_world
IsAccounted-opening config programs = record {
  recorded = record {
    commits = record {
      called = λ i c is. absurd (none-some c is);
      once = λ i j c d before is. absurd (none-some c is);
      returned = λ place cpu number given is. absurd (none-some (Returned cpu number given) is);
    };
    in_time = λ i j c d before is. absurd (none-some c is);
  };
  phases = λ cpu. record { below = λ i c is. absurd (none-some c is) };
  run = flat_state-opening config;
  shaped = IsShapedWorld-opening config programs;
}

-- each CPU's phase, where one CPU's phase changes
phases-put : (phase : ℕ → Phase) (cpu : ℕ) (p : Phase) (journal : List Commitment) (events : List Event) → AtPhase p cpu journal events
    → ((other : ℕ) → (other == cpu) ≡ false → AtPhase (phase other) other journal events)
    → (other : ℕ) → AtPhase (put phase cpu p other) other journal events
phases-put phase cpu p journal events here others other =
    put_elim (λ q. AtPhase q other journal events) phase cpu p other
    (λ same. subst (λ c. AtPhase p c journal events) (sym same) here) (others other)

AtPhase-learnt : (learnt : Option ℕ) (p : Phase) (cpu : ℕ) (journal : List Commitment) (events : List Event)
    → AtPhase p cpu journal events → AtPhase (phase_learnt learnt p) cpu journal events
AtPhase-learnt learnt (Between number) cpu journal events was = was
AtPhase-learnt learnt _ cpu journal events was = was

-- the phase that a CPU is known to be in
AtPhase-known : (w : World) (cpu : ℕ) (p : Phase) → IsAccounted w → w.phase cpu ≡ p → AtPhase p cpu w.journal w.events
AtPhase-known w cpu p accounted is = subst (λ q. AtPhase q cpu w.journal w.events) is (accounted.phases cpu)

IsAccounted-Calls : (old : World) (cpu : ℕ) (new : World) → IsAccounted old → Calls old cpu new → IsAccounted new
IsAccounted-Calls old cpu new accounted calls =
    let fresh : AreBelow old.journal cpu calls.number = AtPhase-known old cpu (Between calls.number) accounted calls.is_between in
    subst IsAccounted (sym calls.is_new) (record {
      recorded = AreRecorded-called old.journal old.events cpu calls.number calls.command accounted.recorded fresh;
      phases = phases-put old.phase cpu (Deciding calls.number calls.command None) old.journal
          (old.events ++ Called cpu calls.number calls.command ∷ [])
          (fresh, (length old.events, slice_get-push old.events (Called cpu calls.number calls.command)))
          (λ other apart. AtPhase-more (old.phase other) other old.journal old.events
          (Called cpu calls.number calls.command) (accounted.phases other));
      run = accounted.run;
      shaped = accounted.shaped;
    })

IsAccounted-Takes : (old : World) (cpu granule : ℕ) (new : World) → IsAccounted old → Takes old cpu granule new → IsAccounted new
IsAccounted-Takes old cpu granule new accounted takes = subst IsAccounted (sym takes.is_new) (record {
  recorded = accounted.recorded;
  phases = accounted.phases;
  run = accounted.run;
  shaped = accounted.shaped;
})

-- a phase alone changes
IsAccounted-phase : (old : World) (taken : ℕ → List ℕ) (cpu : ℕ) (p : Phase) → IsAccounted old → AtPhase p cpu old.journal old.events
    → IsAccounted (record old { taken = taken; phase = put old.phase cpu p })
IsAccounted-phase old taken cpu p accounted here = record {
  recorded = accounted.recorded;
  phases = phases-put old.phase cpu p old.journal old.events here (λ other apart. accounted.phases other);
  run = accounted.run;
  shaped = accounted.shaped;
}

IsAccounted-Commits : (old : World) (cpu : ℕ) (given : Reply) (held : Hold) (new : World)
    → IsAccounted old → Commits old cpu given held new → IsAccounted new
IsAccounted-Commits old cpu given held new accounted commits =
    let number = commits.deciding.number in
    let command = commits.deciding.command in
    let entry : Commitment = record { cpu = cpu; number = number; command = command; given = given } in
    let at_phase = AtPhase-known old cpu (Deciding number command commits.deciding.learnt) accounted commits.deciding.is_deciding in
    let right = commits.step.right old.cells old.place accounted.shaped (Agrees-own old.cells (old.taken cpu)) refl in
    subst IsAccounted (sym commits.is_new) (record {
      recorded = AreRecorded-committed old.journal old.events entry at_phase.1.0 accounted.recorded at_phase.0 at_phase.1.1;
      phases = phases-put old.phase cpu (Decided number command given) (old.journal ++ entry ∷ []) old.events
          (AtPhase-own old.journal entry old.events at_phase.0)
          (λ other apart. AtPhase-other (old.phase other) other old.journal entry old.events
          (λ same. keys_apart other cpu apart (sym same)) (accounted.phases other));
      run = subst (λ entries. IsRun (opening old.config) entries (flat_state old.config (put_all old.cells held.cells)))
          (sym (map-push entry_of old.journal entry))
          (IsRun-push (opening old.config) (map entry_of old.journal) (flat_state old.config old.cells) (entry_of entry)
          (flat_state old.config (put_all old.cells held.cells)) accounted.run right.0);
      shaped = right.1;
    })

IsAccounted-Returns : (old : World) (cpu : ℕ) (new : World) → IsAccounted old → Returns old cpu new → IsAccounted new
IsAccounted-Returns old cpu new accounted returns =
    let at_phase = AtPhase-known old cpu (Decided returns.number returns.command returns.given) accounted returns.is_decided in
    let below : AreBelow old.journal cpu (returns.number + 1) = subst (λ n. AreBelow old.journal cpu n) (omega arith) at_phase.0 in
    subst IsAccounted (sym returns.is_new) (record {
      recorded = AreRecorded-returned old.journal old.events cpu returns.number returns.given accounted.recorded at_phase.1;
      phases = phases-put old.phase cpu (Between (returns.number + 1)) old.journal (old.events ++ Returned cpu returns.number returns.given ∷ [])
          below
          (λ other apart. AtPhase-more (old.phase other) other old.journal old.events
          (Returned cpu returns.number returns.given) (accounted.phases other));
      run = accounted.run;
      shaped = accounted.shaped;
    })

IsAccounted-Moves : (old : World) (move : Move) (new : World) → IsAccounted old → Moves old move new → IsAccounted new
IsAccounted-Moves old (world.Call cpu) new accounted moves = IsAccounted-Calls old cpu new accounted moves
IsAccounted-Moves old (world.Take cpu granule) new accounted moves = IsAccounted-Takes old cpu granule new accounted moves
IsAccounted-Moves old (world.Free cpu granule learnt) new accounted moves =
    subst IsAccounted (sym moves.is_new)
    (IsAccounted-phase old (put old.taken cpu (without_granule granule (old.taken cpu))) cpu (phase_learnt learnt (old.phase cpu)) accounted
    (AtPhase-learnt learnt (old.phase cpu) cpu old.journal old.events (accounted.phases cpu)))
IsAccounted-Moves old (world.Commit cpu given held) new accounted moves = IsAccounted-Commits old cpu given held new accounted moves
IsAccounted-Moves old (world.GiveUp cpu) new accounted moves =
    subst IsAccounted (sym moves.is_new) (IsAccounted-phase old (put old.taken cpu []) cpu GivenUp accounted tt)
IsAccounted-Moves old (world.Return cpu) new accounted moves = IsAccounted-Returns old cpu new accounted moves
IsAccounted-Moves old (world.Stop cpu) new accounted moves =
    subst IsAccounted (sym moves.is_new) (IsAccounted-phase old old.taken cpu Stopped accounted tt)

-- each world that moves lead to
pub IsAccounted-HappenAll : (old : World) (moves : List Move) (last : World) → IsAccounted old → HappenAll old moves last → IsAccounted last
IsAccounted-HappenAll old [] last accounted happen = subst IsAccounted (sym happen) accounted
IsAccounted-HappenAll old (move ∷ moves) last accounted happen =
    IsAccounted-HappenAll happen.0 moves last (IsAccounted-Moves old move happen.0 accounted happen.1.moves) happen.2
