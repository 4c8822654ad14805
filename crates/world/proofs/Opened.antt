-- A world that is opened: its CPUs have their whole programs before them, and all is kept.
use Rattle.world.proofs.Common.{◌++◌, ◌+◌, ◌<◌, ◌==◌, ◌∙◌, ◌∷◌, ◌≡◌, Bool, Command, Config, Cpu, IsReached, List, None, Option, Views, World, [], ap, arith, drop, eq-eqb, eqb-true, false, false≢true, length, none-some, opening_world, phase_in, place_of, refl, subst, suc, sym, true, world_with, zero, ℕ}
use Rattle.std.proofs.Common.{◌≤◌, nat_lt}
use Rattle.std.specs.Prelude.{Vec}
use Rattle.std.specs.declared.alloc.Global.{Global}
use Rattle.std.proofs.lemmas.Bool.{ltb-true, ltb-false}
use Rattle.std.proofs.lemmas.Option.{slice_get_past}
use Rattle.rmm_spec.specs.HistoryText.{History}
use Rattle.rmm_spec.specs.Cell.{Cell, Undelegated}
use Rattle.rmm_spec.specs.Shape as shape
use Rattle.rmm_spec.specs.World.{Between, Commitment}
use Rattle.world_laws.specs.Programs.{commands_below}
use Rattle.granule_cells.specs.declared.cpu_place.CpuPlace.TheVariants.{Outside}
use Rattle.world.specs.Cpus.{views_at, of_each}
use Rattle.world.specs.Kept.{IsFit, IsKept}
use Rattle.world.specs.Opening.{programs_of, opening_views, CanOpen}
use Rattle.world.specs.declared.phase.Phase.TheVariants as phase

-- ---- CPUs

-- the CPU has all of the program before it
pub record IsOpened (cpu : Cpu) (commands : Vec Command Global) : Type 0 where
  pub taken : cpu.taken.items ≡ []
  pub place : cpu.place ≡ Outside
  pub phase : cpu.phase ≡ phase.Between 0
  pub program : cpu.program.items ≡ commands.items
  pub called : cpu.called ≡ 0
  pub waits : cpu.waits ≡ None

abbrev pub AreOpened : List Cpu → List (Vec Command Global) → Type 0
AreOpened [] [] = Unit {0}
AreOpened [] (program ∷ programs) = ⊥
AreOpened (cpu ∷ list) [] = ⊥
AreOpened (cpu ∷ list) (program ∷ programs) = IsOpened cpu program × AreOpened list programs

-- one CPU more
pub AreOpened-push : (list : List Cpu) (programs : List (Vec Command Global)) (cpu : Cpu) (program : Vec Command Global) → AreOpened list programs
    → IsOpened cpu program → AreOpened (list ++ cpu ∷ []) (programs ++ program ∷ [])
AreOpened-push [] [] cpu program all last = (last, tt)
AreOpened-push [] (other ∷ programs) cpu program all last = absurd all
AreOpened-push (first ∷ list) [] cpu program all last = absurd all
AreOpened-push (first ∷ list) (other ∷ programs) cpu program all last = (all.0, AreOpened-push list programs cpu program all.1 last)

-- a CPU's program tells what the CPU tells
of_each-opened : {A : Type 0} (tells : Cpu → A) (none : A) (of : List Command → A) → none ≡ of []
    → ((cpu : Cpu) (program : Vec Command Global) → IsOpened cpu program → tells cpu ≡ of program.items)
    → (list : List Cpu) (programs : List (Vec Command Global)) → AreOpened list programs → (key : ℕ)
    → of_each tells none list key ≡ of (programs_of programs key)
of_each-opened tells none of empty each [] [] all zero = empty
of_each-opened tells none of empty each [] [] all (suc key) = empty
of_each-opened tells none of empty each [] (program ∷ programs) all key = absurd all
of_each-opened tells none of empty each (cpu ∷ list) [] all key = absurd all
of_each-opened tells none of empty each (cpu ∷ list) (program ∷ programs) all zero = each cpu program all.0
of_each-opened tells none of empty each (cpu ∷ list) (program ∷ programs) all (suc key) =
    of_each-opened tells none of empty each list programs all.1 key

pub views-opened : (list : List Cpu) (programs : List (Vec Command Global))
    → AreOpened list programs → views_at list ≡ opening_views (programs_of programs)
views-opened list programs all = λ i. record {
  taken = λ key. of_each-opened (λ (c : Cpu). c.taken.items) [] (λ _. []) refl (λ cpu program is. is.taken) list programs all key i;
  place = λ key. of_each-opened (λ (c : Cpu). place_of c.place) shape.Outside
      (λ _. shape.Outside) refl (λ cpu program is. ap place_of is.place) list programs all key i;
  phase = λ key. of_each-opened (λ (c : Cpu). phase_in c.phase) (Between 0)
      (λ _. Between 0) refl (λ cpu program is. ap phase_in is.phase) list programs all key i;
  program = λ key. of_each-opened (λ (c : Cpu). drop c.called c.program.items) [] (λ commands. commands) refl
      (λ cpu program is. ap (λ n. drop n cpu.program.items) is.called ∙ is.program) list programs all key i;
  waits = λ key. of_each-opened (λ (c : Cpu). c.waits) None (λ _. None) refl (λ cpu program is. is.waits) list programs all key i;
}

-- ---- the world

-- each field is the opening world's
pub opened-world : (cells : ℕ → Cell) (side : shape.Side) (views : Views) (journal : List Commitment) (history : History) (config : Config)
    (programs : ℕ → List Command) → cells ≡ (λ _. Undelegated) → ((vmid : ℕ) → side.vmids vmid ≡ None) → ((rd : ℕ) → side.rec_counts rd ≡ 0)
    → views ≡ opening_views programs → journal ≡ [] → history ≡ record { config = config; events = [] }
    → world_with cells side views journal history ≡ opening_world config programs
unfolding opening_world
opened-world cells side views journal history config programs is_cells is_vmids is_counts is_views is_journal is_history =
    λ i. world_with (is_cells i) (record { vmids = λ vmid. is_vmids vmid i; rec_counts = λ rd. is_counts rd i })
    (is_views i) (is_journal i) (is_history i)

-- ---- what is kept

-- a CPU's commands and those of the CPUs before it are no more than all
pub commands_below-le : (cpus : ℕ) (programs : ℕ → List Command) (cpu : ℕ) → cpu < cpus
    → length (programs cpu) + commands_below cpu programs ≤ commands_below cpus programs
commands_below-le zero programs cpu within = absurd (omega (arith, within))
commands_below-le (suc cpus) programs cpu within = by (cpu == cpus) refl (commands_below-le cpus programs cpu)
  where
    by : (b : Bool) → (cpu == cpus) ≡ b → (cpu < cpus → length (programs cpu) + commands_below cpu programs ≤ commands_below cpus programs)
        → length (programs cpu) + commands_below cpu programs ≤ length (programs cpus) + commands_below cpus programs
    by true same rest = rw (eqb-true cpu cpus same) (omega arith)
    by false apart rest =
        let differ : cpu ≡ cpus → ⊥ = λ same. false≢true (sym apart ∙ eq-eqb cpu cpus same) in
        let below : cpu < cpus = omega (arith, differ, within) in
        omega (arith, rest below)

-- so it has a number for each
opened-fit : (config : Config) (programs : List (Vec Command Global)) → CanOpen config programs → (cpu : ℕ)
    → IsFit (Between 0) (programs_of programs cpu)
opened-fit config programs can cpu = record { numbered = by (nat_lt cpu config.cpus) refl }
  where
    by : (b : Bool) → nat_lt cpu config.cpus ≡ b → 0 + length (programs_of programs cpu) ≤ 499999
    by true within = omega (arith, can.few, commands_below-le config.cpus (programs_of programs) cpu (ltb-true cpu config.cpus within))
    by false past = rw (slice_get_past programs cpu (omega (arith, can.count, ltb-false cpu config.cpus past))) (omega arith)

pub opened-kept : (config : Config) (programs : List (Vec Command Global)) (w : World) (holder waits : ℕ → Option ℕ) → CanOpen config programs
    → w ≡ opening_world config (programs_of programs) → holder ≡ (λ _. None) → waits ≡ (λ _. None) → IsKept w holder waits
unfolding opening_world
opened-kept config programs w holder waits can is free none =
    let reached : IsReached config (opening_world config (programs_of programs)) (λ _. None) = record {
      programs = programs_of programs;
      have_texts = can.texts;
      few = can.few;
      turns = [];
      run = refl;
      is_waiting = refl;
    } in
    let opened : IsKept (opening_world config (programs_of programs)) (λ _. None) (λ _. None) = record {
      locked = record { held = λ cpu granule. refl; within = λ cpu. refl; distinct = λ cpu. refl };
      fit = record { each = opened-fit config programs can };
      waiting = record { each = λ cpu granule none. absurd (none-some granule none) };
      reached = ∣ reached ∣₁;
    } in
    subst (λ v. IsKept v holder waits) (sym is) (subst (λ h. IsKept (opening_world config (programs_of programs)) h waits) (sym free)
    (subst (IsKept (opening_world config (programs_of programs)) (λ _. None)) (sym none) opened))
