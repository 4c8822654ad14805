-- Each move is a turn, after which the world keeps what it kept.
use Rattle.world.proofs.Common.{◌++◌, ◌+◌, ◌<◌, ◌==◌, ◌∙◌, ◌∷◌, ◌≡◌, Bool, Command, Config, Contains, Decided, Deciding, Did, IsDeciding, IsNext, IsReached, List, None, Option, Reply, Some, Take, Turns, Views, Will, [], ap, arith, awaited, cells_of, drop, eq-eqb, false, holder_of, if◌then◌else◌, is_deciding, none-some, put, put_all, refl, same_Some, side_of, slice_get, subst, sym, true, views_of, world_from, world_of, world_with, ℕ}
use Rattle.rmm_spec.specs.declared.event.Event.TheVariants.{Called, Returned}
use Rattle.rmm_spec.specs.HistoryText.{History}
use Rattle.rmm_spec.specs.Lookup.{is_cpu}
use Rattle.rmm_spec.specs.Cell.{Cell}
use Rattle.rmm_spec.specs.Shape.{Side}
use Rattle.rmm_spec.specs.World.{Phase, Between, GivenUp, Stopped, Commitment, Move, mover, Happens, MayLearn, phase_learnt, without_granule}
use Rattle.rmm_spec.specs.World as move
use Rattle.rmm_spec.specs.World.{hold_of as world_hold}
use Rattle.rmm_spec.specs.declared.turn.Will.TheVariants as wills
use Rattle.rmm_spec.specs.Waits.{Report, Blocked, Idle, IsIdle, IsRising, IsWilled, MayFree, kind_of}
use Rattle.rmm_spec.specs.Waits as turn
use Rattle.lemmas.proofs.Tests.{both_ways}
use Rattle.spec_lemmas.proofs.Maps.{put_elim}
use Rattle.granule_cells.specs.declared.side.Side as own_side
use Rattle.world.specs.declared.cells.Cells.{Cells}
use Rattle.world.specs.declared.cpus.Cpus.{Cpus}
use Rattle.world.specs.declared.locks.Locks.{Locks}
use Rattle.world.specs.declared.world.World as own
use Rattle.world.specs.Cpus.{is_going}
use Rattle.world.specs.Kept.{AreLocks, IsFit, AreFit, IsTurn, calls_made, freed_all}
use Rattle.command_core.specs.Decided.{answer_on}
use Rattle.world.specs.Next.{next_for, AreNext, with_answer, committed_in, with_committed}
use Rattle.world.specs.Stepped.{MakesStep}
use Rattle.world.proofs.Calls.{first-and_others}
use Rattle.world.proofs.Phases.{going-true, deciding-true}
use Rattle.world.proofs.Locked.{AreLocks-taken, AreLocks-freed, AreLocks-cleared, taken-contains, contains-taken, held_by}
use Rattle.world.proofs.Reached.{IsReached-turned}
use Rattle.world.proofs.Taking.{rising-next, next-for}
use Rattle.world.proofs.Waiting.{HasOneHolder-locks, AreNext-turned}

-- ---- what stays fit

-- one CPU is in another phase
AreFit-phase : (phase : ℕ → Phase) (program : ℕ → List Command) (cpu : ℕ) (p : Phase) → IsFit p (program cpu) → AreFit phase program
    → AreFit (put phase cpu p) program
AreFit-phase phase program cpu p here fit = record {
  each = λ other. put_elim (λ q. IsFit q (program other)) phase cpu p other
      (λ same. subst (λ c. IsFit p (program c)) (sym same) here) (λ apart. fit.each other);
}

-- and has called a command of its program
AreFit-both : (phase : ℕ → Phase) (program : ℕ → List Command) (cpu : ℕ) (p : Phase) (rest : List Command) → IsFit p rest → AreFit phase program
    → AreFit (put phase cpu p) (put program cpu rest)
AreFit-both phase program cpu p rest here fit = record { each = λ other. by other (other == cpu) }
  where
    by : (other : ℕ) (b : Bool) → IsFit (if b then p else phase other) (if b then rest else program other)
    by other true = here
    by other false = fit.each other

-- a CPU that ends is fit
ended-fit : (phase : ℕ → Phase) (program : ℕ → List Command) (cpu : ℕ) (p : Phase) → calls_made p ≡ 0 → AreFit phase program
    → AreFit (put phase cpu p) program
ended-fit phase program cpu p none fit =
    let was = fit.each cpu in
    AreFit-phase phase program cpu p (record { numbered = omega (arith, was.numbered, none) }) fit

-- what is learnt leaves a CPU fit
learnt-fit : (learnt : Option ℕ) (p : Phase) (program : List Command) → IsFit p program → IsFit (phase_learnt learnt p) program
learnt-fit learnt (Between number) program fit = fit
learnt-fit learnt (Deciding number command earlier) program fit = record { numbered = fit.numbered }
learnt-fit learnt (Decided number command given) program fit = fit
learnt-fit learnt GivenUp program fit = fit
learnt-fit learnt Stopped program fit = fit

-- ---- a world's fields

-- what a world's fields stand for
pub record Fields : Type 0 where
  pub cells : ℕ → Cell
  pub side : Side
  pub views : Views
  pub journal : List Commitment
  pub history : History
  pub holder : ℕ → Option ℕ

-- a world's own cells, side table and journal, with other views, records and holders
abbrev pub with_views : own.World → Views → History → (ℕ → Option ℕ) → Fields
with_views s views history holder = record {
  cells = cells_of s.cells;
  side = side_of s.side;
  views = views;
  journal = s.journal.items;
  history = history;
  holder = holder;
}

-- a turn of a world, after which its fields stand for these
abbrev pub IsTurnTo : own.World → ℕ → Will → Report → Fields → Type 0
IsTurnTo s cpu will report f =
    IsTurn (world_of s) cpu will report (world_with f.cells f.side f.views f.journal f.history) f.holder f.views.waits

-- what the calls left is what the turn makes
pub made : (s : own.World) (cpu : ℕ) (will : Will) (report : Report) (cpus : Cpus) (recorded : History) (locks : Locks) (views : Views)
    (history : History) (holder : ℕ → Option ℕ) → views_of cpus ≡ views → recorded ≡ history → holder_of locks ≡ holder
    → IsTurnTo s cpu will report (with_views s views history holder)
    → IsTurnTo s cpu will report (with_views s (views_of cpus) recorded (holder_of locks))
made s cpu will report cpus recorded locks views history holder is more held turn =
    subst (IsTurnTo s cpu will report) (sym (λ i. with_views s (is i) (more i) (held i))) turn

-- a turn after which locks and phases fit keeps all
turn-kept : (s : own.World) (cpu : ℕ) (will : Will) (report : Report) (f : Fields) → f.history.config ≡ s.history.recorded.config
    → f.views.waits ≡ put (views_of s.cpus).waits cpu (awaited report)
    → ((granule : ℕ) → awaited report ≡ Some granule → next_for (world_of s) cpu ≡ Some (Take granule))
    → Turns (world_of s) cpu will report (world_with f.cells f.side f.views f.journal f.history)
    → AreLocks f.history.config.granules f.views.taken f.holder → AreFit f.views.phase f.views.program → IsTurnTo s cpu will report f
unfolding world_of world_from
turn-kept s cpu will report f config waiting next turned locked fit =
    let w = world_with f.cells f.side f.views f.journal f.history in
    record {
      turned = turned;
      kept = record {
        locked = locked;
        fit = fit;
        waiting = subst (AreNext w) (sym waiting)
            (AreNext-turned (world_of s) cpu will report w (views_of s.cpus).waits (HasOneHolder-locks s.history.recorded.config.granules (world_of s)
            (holder_of s.locks) s.kept.locked) turned next s.kept.waiting);
        reached = subst (λ c. ∥ IsReached c w f.views.waits ∥₁) (sym config)
            (subst (λ waits. ∥ IsReached s.history.recorded.config w waits ∥₁) (sym waiting)
            (IsReached-turned s.history.recorded.config (world_of s) (views_of s.cpus).waits cpu will report w turned s.kept.reached));
      };
    }

-- and so does one that makes a move
move-kept : (s : own.World) (cpu : ℕ) (will : Will) (m : Move) (f : Fields) → f.history.config ≡ s.history.recorded.config
    → f.views.waits ≡ put (views_of s.cpus).waits cpu None → mover m ≡ cpu → IsWilled (world_of s) will m
    → Happens (world_of s) m (world_with f.cells f.side f.views f.journal f.history)
    → AreLocks f.history.config.granules f.views.taken f.holder → AreFit f.views.phase f.views.program → IsTurnTo s cpu will (Did (kind_of m)) f
move-kept s cpu will m f config waiting is_mover willed happens =
    turn-kept s cpu will (Did (kind_of m)) f config waiting (λ granule is. absurd (none-some granule is))
    (record { move = m; is_kind = refl; is_mover = is_mover; is_willed = willed; happens = happens })

-- ---- turns without a move

-- nothing to do
pub idle : (s : own.World) (cpu : ℕ) (will : Will) (cpus : Cpus) → IsIdle (world_of s) cpu will
    → views_of cpus ≡ record (views_of s.cpus) { waits = put (views_of s.cpus).waits cpu None }
    → IsTurnTo s cpu will Idle (with_views s (views_of cpus) s.history.recorded (holder_of s.locks))
unfolding world_of world_from
idle s cpu will cpus nothing is =
    let old = views_of s.cpus in
    made s cpu will Idle cpus s.history.recorded s.locks _ _ _ is refl refl
    (turn-kept s cpu will Idle (with_views s (record old { waits = put old.waits cpu None }) s.history.recorded (holder_of s.locks)) refl refl
    (λ granule is. absurd (none-some granule is)) (nothing, refl) s.kept.locked s.kept.fit)

-- another CPU holds the lock that comes next
pub blocked : (s : own.World) (cpu granule other : ℕ) (cpus : Cpus) → IsNext (world_of s) cpu (Take granule) → holder_of s.locks granule ≡ Some other
    → views_of cpus ≡ record (views_of s.cpus) { waits = put (views_of s.cpus).waits cpu (Some granule) }
    → IsTurnTo s cpu wills.Go (Blocked granule) (with_views s (views_of cpus) s.history.recorded (holder_of s.locks))
unfolding world_of world_from
blocked s cpu granule other cpus next held is =
    let rising = rising-next (world_of s) cpu granule next in
    let old = views_of s.cpus in
    let is_held = taken-contains (old.taken other) granule (s.kept.locked.held other granule ∙ ap (is_cpu other) held ∙ eq-eqb other other refl) in
    made s cpu wills.Go (Blocked granule) cpus s.history.recorded s.locks _ _ _ is refl refl
    (turn-kept s cpu wills.Go (Blocked granule)
    (with_views s (record old { waits = put old.waits cpu (Some granule) }) s.history.recorded (holder_of s.locks))
    refl refl (λ wanted same. next-for (world_of s) cpu (Take granule) next ∙ ap (λ g. Some (Take g)) (same_Some granule wanted same))
    (record { other = other; waits = record { rising = rising; is_held = is_held } }, refl) s.kept.locked s.kept.fit)

-- ---- moves

module _ (s : own.World) (cpu : ℕ) (within : cpu < s.history.recorded.config.cpus) where
  -- the CPU ends where it stands
  pub stopped : (cpus : Cpus) → is_going ((views_of s.cpus).phase cpu) ≡ true
      → views_of cpus ≡ record (views_of s.cpus) { waits = put (views_of s.cpus).waits cpu None; phase = put (views_of s.cpus).phase cpu Stopped }
      → IsTurnTo s cpu wills.Stop (Did turn.Stop) (with_views s (views_of cpus) s.history.recorded (holder_of s.locks))
  unfolding world_of world_from
  stopped cpus going is =
      let old = views_of s.cpus in
      let new : Views = record old { waits = put old.waits cpu None; phase = put old.phase cpu Stopped } in
      made s cpu wills.Stop (Did turn.Stop) cpus s.history.recorded s.locks _ _ _ is refl refl
      (move-kept s cpu wills.Stop (move.Stop cpu) (with_views s new s.history.recorded (holder_of s.locks)) refl refl refl tt
      (record { is_cpu = within; moves = record { is_going = going-true (old.phase cpu) going; is_new = refl } })
      s.kept.locked (ended-fit old.phase old.program cpu Stopped refl s.kept.fit))

  -- it frees all that it holds, and ends
  pub gave_up : (cpus : Cpus) (locks : Locks) → is_deciding ((views_of s.cpus).phase cpu) ≡ true
      → holder_of locks ≡ freed_all ((views_of s.cpus).taken cpu) (holder_of s.locks)
      → views_of cpus ≡ record (views_of s.cpus) {
        waits = put (views_of s.cpus).waits cpu None;
        taken = put (views_of s.cpus).taken cpu [];
        phase = put (views_of s.cpus).phase cpu GivenUp;
      } → IsTurnTo s cpu wills.GiveUp (Did turn.GiveUp) (with_views s (views_of cpus) s.history.recorded (holder_of locks))
  unfolding world_of world_from
  gave_up cpus locks deciding freed is =
      let old = views_of s.cpus in
      let new : Views = record old { waits = put old.waits cpu None; taken = put old.taken cpu []; phase = put old.phase cpu GivenUp } in
      made s cpu wills.GiveUp (Did turn.GiveUp) cpus s.history.recorded locks _ _ _ is refl freed
      (move-kept s cpu wills.GiveUp (move.GiveUp cpu)
      (with_views s new s.history.recorded (freed_all (old.taken cpu) (holder_of s.locks))) refl refl refl tt
      (record { is_cpu = within; moves = record { deciding = deciding-true (world_of s) cpu (old.phase cpu) refl deciding; is_new = refl } })
      (AreLocks-cleared s.history.recorded.config.granules old.taken (holder_of s.locks) cpu s.kept.locked)
      (ended-fit old.phase old.program cpu GivenUp refl s.kept.fit))

  -- it takes a lock that nobody holds
  pub took : (cpus : Cpus) (locks : Locks) (granule : ℕ) → IsRising (world_of s) cpu granule → holder_of s.locks granule ≡ None
      → holder_of locks ≡ put (holder_of s.locks) granule (Some cpu)
      → views_of cpus ≡ record (views_of s.cpus) {
        waits = put (views_of s.cpus).waits cpu None;
        taken = put (views_of s.cpus).taken cpu ((views_of s.cpus).taken cpu ++ granule ∷ []);
      } → IsTurnTo s cpu wills.Go (Did turn.Take) (with_views s (views_of cpus) s.history.recorded (holder_of locks))
  unfolding world_of world_from
  took cpus locks granule rising free held is =
      let old = views_of s.cpus in
      let new : Views = record old { waits = put old.waits cpu None; taken = put old.taken cpu (old.taken cpu ++ granule ∷ []) } in
      let is_free : (other : ℕ) → Contains (old.taken other) granule → ⊥ =
      λ other has. both_ways (contains-taken (old.taken other) granule has) (s.kept.locked.held other granule ∙ ap (is_cpu other) free) in
      made s cpu wills.Go (Did turn.Take) cpus s.history.recorded locks _ _ _ is refl held
      (move-kept s cpu wills.Go (move.Take cpu granule)
      (with_views s new s.history.recorded (put (holder_of s.locks) granule (Some cpu))) refl refl refl rising
      (record {
        is_cpu = within;
        moves = record { deciding = rising.deciding; is_lock = rising.rising.is_lock; is_free = is_free; is_new = refl };
      })
      (AreLocks-taken s.history.recorded.config.granules old.taken
      (holder_of s.locks) cpu granule rising.rising.is_lock free s.kept.locked) s.kept.fit)

  -- it frees a lock that it holds
  pub freed : (cpus : Cpus) (locks : Locks) (granule : ℕ) (learnt : Option ℕ) → Contains ((views_of s.cpus).taken cpu) granule
      → MayLearn (world_of s) ((views_of s.cpus).phase cpu) granule learnt → MayFree (world_of s) cpu granule ((views_of s.cpus).phase cpu)
      → holder_of locks ≡ put (holder_of s.locks) granule None
      → views_of cpus ≡ record (views_of s.cpus) {
        waits = put (views_of s.cpus).waits cpu None;
        taken = put (views_of s.cpus).taken cpu (without_granule granule ((views_of s.cpus).taken cpu));
        phase = put (views_of s.cpus).phase cpu (phase_learnt learnt ((views_of s.cpus).phase cpu));
      } → IsTurnTo s cpu wills.Go (Did turn.Free) (with_views s (views_of cpus) s.history.recorded (holder_of locks))
  unfolding world_of world_from
  freed cpus locks granule learnt has may free held is =
      let old = views_of s.cpus in
      let new : Views = record old {
        waits = put old.waits cpu None;
        taken = put old.taken cpu (without_granule granule (old.taken cpu));
        phase = put old.phase cpu (phase_learnt learnt (old.phase cpu));
      } in
      let mine : holder_of s.locks granule ≡ Some cpu =
      held_by cpu (holder_of s.locks granule) (sym (s.kept.locked.held cpu granule) ∙ contains-taken (old.taken cpu) granule has) in
      made s cpu wills.Go (Did turn.Free) cpus s.history.recorded locks _ _ _ is refl held
      (move-kept s cpu wills.Go (move.Free cpu granule learnt)
      (with_views s new s.history.recorded (put (holder_of s.locks) granule None)) refl refl refl free
      (record { is_cpu = within; moves = record { is_held = has; may_learn = may; is_new = refl } })
      (AreLocks-freed s.history.recorded.config.granules old.taken (holder_of s.locks) cpu granule mine s.kept.locked)
      (AreFit-phase old.phase old.program cpu (phase_learnt learnt (old.phase cpu))
      (learnt-fit learnt (old.phase cpu) (old.program cpu) (s.kept.fit.each cpu)) s.kept.fit))

  -- what a call makes of a world's fields
  abbrev pub with_call : ℕ → Command → Fields
  with_call number command = with_views s (record (views_of s.cpus) {
    waits = put (views_of s.cpus).waits cpu None;
    phase = put (views_of s.cpus).phase cpu (Deciding number command None);
    program = put (views_of s.cpus).program cpu (drop 1 ((views_of s.cpus).program cpu));
  }) (record s.history.recorded { events = s.history.recorded.events ++ Called cpu number command ∷ [] }) (holder_of s.locks)

  -- its next command is called
  pub called : (number : ℕ) (command : Command) → (views_of s.cpus).phase cpu ≡ Between number
      → slice_get ((views_of s.cpus).program cpu) 0 ≡ Some command → IsTurnTo s cpu wills.Go (Did turn.Call) (with_call number command)
  unfolding world_of world_from
  called number command between first =
      let old = views_of s.cpus in
      let rest = drop 1 (old.program cpu) in
      let next : old.program cpu ≡ command ∷ rest = first-and_others (old.program cpu) command first in
      let was : IsFit (Between number) (command ∷ rest) =
      subst (λ p. IsFit p (command ∷ rest)) between (subst (IsFit (old.phase cpu)) next (s.kept.fit.each cpu)) in
      move-kept s cpu wills.Go (move.Call cpu) (with_call number command) refl refl refl tt
      (record {
        is_cpu = within;
        moves = record { number = number; command = command; rest = rest; is_between = between; is_next = next; is_new = refl };
      })
      s.kept.locked (AreFit-both old.phase old.program cpu (Deciding number command None) rest
      (record { numbered = omega (arith, was.numbered) }) s.kept.fit)

  -- what a return makes of a world's fields
  abbrev pub with_return : ℕ → Reply → Fields
  with_return number given = with_views s (record (views_of s.cpus) {
    waits = put (views_of s.cpus).waits cpu None;
    phase = put (views_of s.cpus).phase cpu (Between (number + 1));
  }) (record s.history.recorded { events = s.history.recorded.events ++ Returned cpu number given ∷ [] }) (holder_of s.locks)

  -- its reply is returned
  pub returned : (number : ℕ) (command : Command) (given : Reply) → (views_of s.cpus).phase cpu ≡ Decided number command given
      → (views_of s.cpus).taken cpu ≡ [] → IsTurnTo s cpu wills.Go (Did turn.Return) (with_return number given)
  unfolding world_of world_from
  returned number command given decided none =
      let old = views_of s.cpus in
      let was : IsFit (Decided number command given) (old.program cpu) = subst (λ p. IsFit p (old.program cpu)) decided (s.kept.fit.each cpu) in
      move-kept s cpu wills.Go (move.Return cpu) (with_return number given) refl refl refl none
      (record {
        is_cpu = within;
        moves = record { number = number; command = command; given = given; is_decided = decided; is_new = refl };
      })
      s.kept.locked (AreFit-phase old.phase old.program cpu (Between (number + 1))
      (record { numbered = was.numbered }) s.kept.fit)

  -- its open call is committed
  pub committed : (cells : Cells) (side : own_side.Side) (mid cpus : Cpus) (reserved entries : List Commitment) (config : Config) (number : ℕ)
      (opened command : Command) (learnt : Option ℕ) (given : Reply) → config ≡ s.history.recorded.config
      → (views_of s.cpus).phase cpu ≡ Deciding number opened learnt → command ≡ opened
      → MakesStep config cpu command given (cells_of s.cells) (cells_of cells) (side_of s.side) (side_of side) (views_of s.cpus) (views_of mid)
      → views_of cpus
      ≡ record (views_of mid) { waits = put (views_of mid).waits cpu None; phase = put (views_of mid).phase cpu (Decided number command given) }
      → reserved ≡ s.journal.items → entries ≡ reserved ++ record { cpu = cpu; number = number; command = command; given = given } ∷ []
      → IsTurnTo s cpu wills.Go (Did turn.Commit) (record {
        cells = cells_of cells;
        side = side_of side;
        views = views_of cpus;
        journal = entries;
        history = s.history.recorded;
        holder = holder_of s.locks;
      }) × (world_with (cells_of cells) (side_of side) (views_of cpus) entries s.history.recorded ≡ with_committed (world_of s) cpu)
  unfolding world_of world_from with_committed
  committed cells side mid cpus reserved entries config number opened command
      learnt given same_config was_open same made_step is kept_journal pushed =
      let old = views_of s.cpus in
      let is_open = was_open ∙ (λ i. Deciding number (sym same i) learnt) in
      let step =
      subst (λ (c : Config). MakesStep c cpu command given (cells_of s.cells) (cells_of cells) (side_of s.side) (side_of side) old (views_of mid))
      same_config made_step in
      let more = pushed ∙ ap (λ commits. commits ++ record { cpu = cpu; number = number; command = command; given = given } ∷ []) kept_journal in
      let f : Fields = record {
        cells = put_all (cells_of s.cells) step.held.cells;
        side = step.held.side;
        views = record old {
          waits = put old.waits cpu None;
          phase = put old.phase cpu (Decided number command given);
          place = put old.place cpu step.held.place;
        };
        journal = s.journal.items ++ record { cpu = cpu; number = number; command = command; given = given } ∷ [];
        history = s.history.recorded;
        holder = holder_of s.locks;
      } in
      let views =
      is ∙ ap (λ (v : Views). record v { waits = put v.waits cpu None; phase = put v.phase cpu (Decided number command given) }) step.has_views in
      let was : IsFit (Deciding number command learnt) (old.program cpu) = subst (λ p. IsFit p (old.program cpu)) is_open (s.kept.fit.each cpu) in
      let deciding : IsDeciding (world_of s) cpu = record { number = number; command = command; learnt = learnt; is_deciding = is_open } in
      let same_fields : record {
        cells = cells_of cells;
        side = side_of side;
        views = views_of cpus;
        journal = entries;
        history = s.history.recorded;
        holder = holder_of s.locks;
      } ≡ f = λ i. record {
        cells = step.has_cells i;
        side = step.has_side i;
        views = views i;
        journal = more i;
        history = s.history.recorded;
        holder = holder_of s.locks;
      } in
      let as_answered : world_with f.cells f.side f.views f.journal f.history
      ≡ with_answer (world_of s) cpu number command (answer_on s.history.recorded.config cpu command (world_hold (world_of s) cpu)) =
      λ i. record (world_of s) {
        cells = put_all (cells_of s.cells) (step.answered.is_changed i).cells;
        side = (step.answered.is_changed i).side;
        place = put old.place cpu (step.answered.is_changed i).place;
        phase = put old.phase cpu (Decided number command (step.answered.is_given i));
        journal = s.journal.items ++ record { cpu = cpu; number = number; command = command; given = step.answered.is_given i } ∷ [];
      } in (
        subst (IsTurnTo s cpu wills.Go (Did turn.Commit)) (sym same_fields)
            (move-kept s cpu wills.Go (move.Commit cpu given step.held) f refl refl refl tt
            (record { is_cpu = within; moves = record { deciding = deciding; step = step.step; is_new = refl } })
            s.kept.locked (AreFit-phase old.phase old.program cpu (Decided number command given)
            (record { numbered = was.numbered }) s.kept.fit)),
        ap (λ (g : Fields). world_with g.cells g.side g.views g.journal g.history) same_fields ∙ as_answered
            ∙ sym (ap (committed_in (world_of s) cpu) is_open),
      )
