-- A world can be opened with the programs of a scenario.
use Rattle.std.proofs.Common.{◌≡◌, ℕ, zero, suc, ◌+◌, ◌≤◌, List, [], ◌∷◌, length, get_or, map, sum, refl, sym, ap, ◌∙◌, subst, arith}
use Rattle.std.specs.Prelude.{Vec}
use Rattle.std.specs.List.{AllByRecursion}
use Rattle.std.specs.declared.alloc.Global.{Global}
use Rattle.std.proofs.lemmas.List.{length-map}
use Rattle.std.proofs.lemmas.List.Sums.{sum_by-cons}
use Rattle.rmm_spec.specs.declared.command.Command.{Command}
use Rattle.rmm_spec.specs.CommandText.{IsCommand}
use Rattle.rmm_spec.specs.Scenario.{Scenario, IsScenario}
use Rattle.scenario.specs.SeenPrograms.{seen_programs}
use Rattle.world_laws.specs.Programs.{commands_below}
use Rattle.world.specs.Opening.{programs_of, CanOpen}
use Rattle.world_runs.specs.Played.{program_of}
use Rattle.spec_lemmas.proofs.Texts.{commands_at}

-- each CPU's program, whether it is held or seen
programs_at : (programs : List (Vec Command Global)) (cpu : ℕ) → programs_of programs cpu ≡ get_or (seen_programs programs) cpu []
programs_at [] zero = refl
programs_at [] (suc cpu) = refl
programs_at (program ∷ programs) zero = refl
programs_at (program ∷ programs) (suc cpu) = programs_at programs cpu

-- The programs that are held are those of the scenario.
pub programs_of-scenario : (scenario : Scenario) (programs : List (Vec Command Global)) → seen_programs programs ≡ scenario.programs
    → programs_of programs ≡ program_of scenario
programs_of-scenario scenario programs same = λ i cpu. (programs_at programs cpu ∙ ap (λ lists. get_or lists cpu []) same) i

-- counted from the first program on
below-first : (cpus : ℕ) (programs : ℕ → List Command)
    → commands_below (suc cpus) programs ≡ length (programs 0) + commands_below cpus (λ cpu. programs (suc cpu))
below-first zero programs = refl
below-first (suc cpus) programs = let rest = below-first cpus programs in omega (arith, rest)

commands_below-sum : (programs : List (List Command)) → commands_below (length programs) (λ cpu. get_or programs cpu []) ≡ sum (map length programs)
commands_below-sum [] = refl
commands_below-sum (program ∷ programs) =
    below-first (length programs) (λ cpu. get_or (program ∷ programs) cpu []) ∙ ap (λ rest. length program + rest) (commands_below-sum programs)
    ∙ sym (sum_by-cons (λ n. n) (length program) (map length programs))

-- A world can be opened with programs that are held of a scenario.
pub CanOpen-scenario : (scenario : Scenario) (programs : List (Vec Command Global)) → IsScenario scenario
    → seen_programs programs ≡ scenario.programs → CanOpen scenario.config programs
CanOpen-scenario scenario programs is same =
    let seen = programs_of-scenario scenario programs same in
    record {
      count = sym (length-map programs (λ program. program.items)) ∙ ap length same ∙ is.programs;
      texts = λ cpu within. subst (λ of. AllByRecursion IsCommand (of cpu)) (sym seen) (commands_at scenario.programs cpu is.commands);
      few = subst (λ of. commands_below scenario.config.cpus of ≤ 499999) (sym seen)
          (subst (λ cpus. commands_below cpus (program_of scenario) ≤ 499999) is.programs (rw (commands_below-sum scenario.programs) is.few));
    }
