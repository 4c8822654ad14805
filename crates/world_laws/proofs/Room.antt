-- How many events programs lead to: two for each command at most.
use Rattle.std.proofs.Common.{◌≡◌, ℕ, zero, suc, ◌+◌, ◌*◌, ◌<◌, ◌≤◌, Bool, true, false, ◌==◌, List, [], ◌∷◌, length, Option, None, refl, sym, ◌∙◌, subst, arith, eqb-true, eq-eqb}
use Rattle.std.proofs.lemmas.Bool.{false≢true}
use Rattle.std.proofs.lemmas.List.{length_push}
use Rattle.rmm_spec.specs.declared.command.Command.{Command}
use Rattle.rmm_spec.specs.declared.event.Event.TheVariants.{Called, Returned}
use Rattle.rmm_spec.specs.HistoryText.{Config}
use Rattle.rmm_spec.specs.Cell.{put}
use Rattle.rmm_spec.specs.World.{World, Phase, Between, Deciding, Decided, GivenUp, Stopped, opening_world, phase_learnt, Move, Happens, HappenAll}
use Rattle.rmm_spec.specs.World as world
use Rattle.spec_lemmas.proofs.Maps.{put_elim, put-here}
use Rattle.world_laws.specs.Programs.{commands_below}

-- ---- sums

abbrev sum_below : ℕ → (ℕ → ℕ) → ℕ
sum_below zero f = 0
sum_below (suc n) f = f n + sum_below n f

-- a sum of which no part grows
sum_below-le : (n : ℕ) (f g : ℕ → ℕ) → ((k : ℕ) → g k ≤ f k) → sum_below n g ≤ sum_below n f
sum_below-le zero f g each = omega arith
sum_below-le (suc n) f g each = omega (arith, each n, sum_below-le n f g each)

-- a sum of which no part grows, and one falls
sum_below-less : (n : ℕ) (f g : ℕ → ℕ) (key d : ℕ) → key < n → ((k : ℕ) → g k ≤ f k) → g key + d ≤ f key → sum_below n g + d ≤ sum_below n f
sum_below-less zero f g key d within each falls = absurd (omega arith)
sum_below-less (suc n) f g key d within each falls = by (n == key) refl (sum_below-less n f g key d)
  where
    by : (b : Bool) → (n == key) ≡ b → (key < n → ((k : ℕ) → g k ≤ f k) → g key + d ≤ f key → sum_below n g + d ≤ sum_below n f)
        → (g n + sum_below n g) + d ≤ f n + sum_below n f
    by true same rest =
        let here : g n + d ≤ f n = subst (λ k. g k + d ≤ f k) (sym (eqb-true n key same)) falls in
        omega (arith, here, sum_below-le n f g each)
    by false apart rest =
        let differ : n ≡ key → ⊥ = λ same. false≢true (sym apart ∙ eq-eqb n key same) in
        let below : key < n = omega (arith, differ, within) in
        omega (arith, rest below each falls, each n)

-- ---- events to come

-- how many events a CPU may still bring: two for each command that is left, and the return of an open call
abbrev pub events_left : Phase → List Command → ℕ
events_left (Deciding number command learnt) commands = 2 * length commands + 1
events_left (Decided number command given) commands = 2 * length commands + 1
events_left _ commands = 2 * length commands

abbrev left_at : World → ℕ → ℕ
left_at w cpu = events_left (w.phase cpu) (w.program cpu)

-- the events so far and those to come are no more than this
abbrev IsWithin : ℕ → World → Type 0
IsWithin bound w = length w.events + sum_below w.config.cpus (left_at w) ≤ bound

-- ---- moves

-- a CPU goes on, and brings so many events
within-put : (bound count cpus cpu d : ℕ) (phase : ℕ → Phase) (p : Phase) (old new : ℕ → List Command) → cpu < cpus
    → ((k : ℕ) → (k == cpu) ≡ false → new k ≡ old k)
    → events_left p (new cpu) + d ≤ events_left (phase cpu) (old cpu)
    → count + sum_below cpus (λ k. events_left (phase k) (old k)) ≤ bound
    → (count + d) + sum_below cpus (λ k. events_left (put phase cpu p k) (new k)) ≤ bound
within-put bound count cpus cpu d phase p old new is_cpu others here within =
    omega (
      arith,
      within,
      sum_below-less cpus (λ k. events_left (phase k) (old k)) (λ k. events_left (put phase cpu p k) (new k)) cpu d is_cpu each falls,
    )
  where
    falls : events_left (put phase cpu p cpu) (new cpu) + d ≤ events_left (phase cpu) (old cpu)
    falls = rw (put-here phase cpu p) here

    each : (k : ℕ) → events_left (put phase cpu p k) (new k) ≤ events_left (phase k) (old k)
    each k = put_elim (λ q. events_left q (new k) ≤ events_left (phase k) (old k)) phase cpu p k
        (λ same. subst (λ c. events_left p (new c) ≤ events_left (phase c) (old c)) (sym same)
        (let drop : events_left p (new cpu) ≤ events_left (phase cpu) (old cpu) = omega (arith, here) in drop))
        (λ apart. rw (others k apart) (omega arith))

-- what is learnt brings no events
events_left-learnt : (learnt : Option ℕ) (p : Phase) (commands : List Command) → events_left (phase_learnt learnt p) commands ≡ events_left p commands
events_left-learnt learnt (Between number) commands = refl
events_left-learnt learnt _ commands = refl

-- a CPU that was stopped brings no more than its commands
events_left-stopped : (p : Phase) (commands : List Command) → 2 * length commands ≤ events_left p commands
events_left-stopped (Between number) commands = omega arith
events_left-stopped _ commands = omega arith

-- a CPU's phase changes, and nothing is recorded
IsWithin-phase : (bound : ℕ) (w : World) (cpu : ℕ) (p : Phase)
    → cpu < w.config.cpus → events_left p (w.program cpu) ≤ left_at w cpu → IsWithin bound w
    → length w.events + sum_below w.config.cpus (λ k. events_left (put w.phase cpu p k) (w.program k)) ≤ bound
IsWithin-phase bound w cpu p is_cpu here within =
    omega (
      arith,
      within-put bound (length w.events) w.config.cpus cpu 0 w.phase p w.program w.program is_cpu (λ k apart. refl)
          (let no_more : events_left p (w.program cpu) + 0 ≤ left_at w cpu = omega (arith, here) in no_more) within,
    )

IsWithin-Moves : (bound : ℕ) (old : World) (move : Move) (new : World) → Happens old move new → IsWithin bound old → IsWithin bound new
IsWithin-Moves bound old (world.Call cpu) new happens within =
    let calls = happens.moves in
    let here : events_left (Deciding calls.number calls.command None) (put old.program cpu calls.rest cpu) + 1 ≤ left_at old cpu =
    rw (put-here old.program cpu calls.rest, calls.is_between, calls.is_next) (omega arith) in
    subst (IsWithin bound) (sym calls.is_new)
    (rw (length_push old.events (Called cpu calls.number calls.command))
    (within-put bound (length old.events) old.config.cpus cpu 1 old.phase (Deciding calls.number calls.command None) old.program
    (put old.program cpu calls.rest) happens.is_cpu
    (λ k apart. put_elim (λ (p : List Command). p ≡ old.program k) old.program cpu calls.rest k
    (λ same. absurd (false≢true (sym apart ∙ eq-eqb k cpu same))) (λ is. refl))
    here within))
IsWithin-Moves bound old (world.Take cpu granule) new happens within = subst (IsWithin bound) (sym happens.moves.is_new) within
IsWithin-Moves bound old (world.Free cpu granule learnt) new happens within =
    subst (IsWithin bound) (sym happens.moves.is_new)
    (IsWithin-phase bound old cpu (phase_learnt learnt (old.phase cpu)) happens.is_cpu
    (rw (events_left-learnt learnt (old.phase cpu) (old.program cpu)) (omega arith)) within)
IsWithin-Moves bound old (world.Commit cpu given held) new happens within =
    let commits = happens.moves in
    subst (IsWithin bound) (sym commits.is_new)
    (IsWithin-phase bound old cpu (Decided commits.deciding.number commits.deciding.command given) happens.is_cpu
    (rw commits.deciding.is_deciding (omega arith)) within)
IsWithin-Moves bound old (world.GiveUp cpu) new happens within =
    subst (IsWithin bound) (sym happens.moves.is_new)
    (IsWithin-phase bound old cpu GivenUp happens.is_cpu (events_left-stopped (old.phase cpu) (old.program cpu)) within)
IsWithin-Moves bound old (world.Return cpu) new happens within =
    let returns = happens.moves in
    let here : events_left (Between (returns.number + 1)) (old.program cpu) + 1 ≤ left_at old cpu = rw returns.is_decided (omega arith) in
    subst (IsWithin bound) (sym returns.is_new)
    (rw (length_push old.events (Returned cpu returns.number returns.given))
    (within-put bound (length old.events) old.config.cpus cpu 1 old.phase (Between (returns.number + 1)) old.program old.program
    happens.is_cpu (λ k apart. refl) here within))
IsWithin-Moves bound old (world.Stop cpu) new happens within =
    subst (IsWithin bound) (sym happens.moves.is_new)
    (IsWithin-phase bound old cpu Stopped happens.is_cpu (events_left-stopped (old.phase cpu) (old.program cpu)) within)

IsWithin-HappenAll : (bound : ℕ) (old : World) (moves : List Move) (last : World)
    → IsWithin bound old → HappenAll old moves last → IsWithin bound last
IsWithin-HappenAll bound old [] last within happen = subst (IsWithin bound) (sym happen) within
IsWithin-HappenAll bound old (move ∷ moves) last within happen =
    IsWithin-HappenAll bound happen.0 moves last (IsWithin-Moves bound old move happen.0 happen.1 within) happen.2

-- at the opening each command is to come
sum_below-opening : (cpus : ℕ) (programs : ℕ → List Command) → sum_below cpus (λ k. 2 * length (programs k)) ≡ 2 * commands_below cpus programs
sum_below-opening zero programs = refl
sum_below-opening (suc cpus) programs = omega (arith, sum_below-opening cpus programs)

-- a run of so many commands has at most twice as many events
pub events-HappenAll : (config : Config) (programs : ℕ → List Command) (moves : List Move) (w : World) → commands_below config.cpus programs ≤ 499999
    → HappenAll (opening_world config programs) moves w → length w.events < 1000000
unfolding opening_world
events-HappenAll config programs moves w few happen =
    let opening : IsWithin 999998 (opening_world config programs) = omega (arith, few, sum_below-opening config.cpus programs) in
    let within : IsWithin 999998 w = IsWithin-HappenAll 999998 (opening_world config programs) moves w opening happen in
    omega (arith, within)
