-- Each lock has one holder at most, a CPU of the machine.
use Rattle.std.proofs.Common.{◌≡◌, ℕ, ◌<◌, ◌==◌, List, [], ◌∷◌, ◌++◌, ◌⊎◌, inl, inr, sym, ◌∙◌, subst}
use Rattle.std.specs.Prelude.{Contains, not}
use Rattle.std.proofs.lemmas.List.Elements.{Contains-push_cases}
use Rattle.rmm_spec.specs.declared.command.Command.{Command}
use Rattle.rmm_spec.specs.HistoryText.{Config}
use Rattle.rmm_spec.specs.Cell.{put}
use Rattle.rmm_spec.specs.World.{World, Move, mover, Moves, Happens, HappenAll, without_granule, opening_world, Takes}
use Rattle.rmm_spec.specs.World as world
use Rattle.spec_lemmas.proofs.Maps.{put_elim}
use Rattle.spec_lemmas.proofs.Members.{Contains-nil, Contains-filter}

pub record AreLocked (cpus : ℕ) (taken : ℕ → List ℕ) : Type 0 where
  pub one : (cpu other granule : ℕ) → Contains (taken cpu) granule → Contains (taken other) granule → cpu ≡ other
  pub fits : (cpu granule : ℕ) → Contains (taken cpu) granule → cpu < cpus

abbrev pub IsLocked : World → Type 0
IsLocked w = AreLocked w.config.cpus w.taken

-- a CPU holds no more than it did
AreLocked-less : (cpus : ℕ) (taken : ℕ → List ℕ) (cpu : ℕ) (fewer : List ℕ) → ((granule : ℕ) → Contains fewer granule → Contains (taken cpu) granule)
    → AreLocked cpus taken → AreLocked cpus (put taken cpu fewer)
AreLocked-less cpus taken cpu fewer less locked = record {
  one = λ c d granule of_c of_d. locked.one c d granule (was c granule of_c) (was d granule of_d);
  fits = λ c granule of_c. locked.fits c granule (was c granule of_c);
}
  where
    was : (c granule : ℕ) → Contains (put taken cpu fewer c) granule → Contains (taken c) granule
    was c granule = put_elim (λ held. Contains held granule → Contains (taken c) granule) taken cpu fewer c
        (λ same has. subst (λ k. Contains (taken k) granule) (sym same) (less granule has)) (λ apart has. has)

IsLocked-Takes : (old : World) (cpu granule : ℕ) (new : World) → cpu < old.config.cpus → IsLocked old → Takes old cpu granule new → IsLocked new
IsLocked-Takes old cpu granule new is_cpu locked takes = subst IsLocked (sym takes.is_new) (record {
  one = λ c d g of_c of_d. one c d g (was c g of_c) (was d g of_d);
  fits = λ c g of_c. fits c g (was c g of_c);
})
  where
    was : (c g : ℕ) → Contains (put old.taken cpu (old.taken cpu ++ granule ∷ []) c) g → Contains (old.taken c) g ⊎ ((c ≡ cpu) × (granule ≡ g))
    was c g =
        put_elim (λ held. Contains held g → Contains (old.taken c) g ⊎ ((c ≡ cpu) × (granule ≡ g))) old.taken cpu (old.taken cpu ++ granule ∷ []) c
        (λ same has. mine same (Contains-push_cases (old.taken cpu) granule g has)) (λ apart has. inl has)
      where
        mine : c ≡ cpu → Contains (old.taken cpu) g ⊎ (granule ≡ g) → Contains (old.taken c) g ⊎ ((c ≡ cpu) × (granule ≡ g))
        mine same (inl has) = inl (subst (λ k. Contains (old.taken k) g) (sym same) has)
        mine same (inr is) = inr (same, is)

    one : (c d g : ℕ) → Contains (old.taken c) g ⊎ ((c ≡ cpu) × (granule ≡ g)) → Contains (old.taken d) g ⊎ ((d ≡ cpu) × (granule ≡ g)) → c ≡ d
    one c d g (inl of_c) (inl of_d) = locked.one c d g of_c of_d
    one c d g (inl of_c) (inr of_d) = absurd (takes.is_free c (subst (Contains (old.taken c)) (sym of_d.1) of_c))
    one c d g (inr of_c) (inl of_d) = absurd (takes.is_free d (subst (Contains (old.taken d)) (sym of_c.1) of_d))
    one c d g (inr of_c) (inr of_d) = of_c.0 ∙ sym of_d.0

    fits : (c g : ℕ) → Contains (old.taken c) g ⊎ ((c ≡ cpu) × (granule ≡ g)) → c < old.config.cpus
    fits c g (inl of_c) = locked.fits c g of_c
    fits c g (inr of_c) = subst (λ k. k < old.config.cpus) (sym of_c.0) is_cpu

IsLocked-Moves : (old : World) (move : Move) (new : World) → mover move < old.config.cpus → IsLocked old → Moves old move new → IsLocked new
IsLocked-Moves old (world.Call cpu) new is_cpu locked moves = subst IsLocked (sym moves.is_new) locked
IsLocked-Moves old (world.Take cpu granule) new is_cpu locked moves = IsLocked-Takes old cpu granule new is_cpu locked moves
IsLocked-Moves old (world.Free cpu granule learnt) new is_cpu locked moves =
    subst IsLocked (sym moves.is_new)
    (AreLocked-less old.config.cpus old.taken cpu (without_granule granule (old.taken cpu))
    (λ g has. Contains-filter (λ other. not (other == granule)) (old.taken cpu) g has) locked)
IsLocked-Moves old (world.Commit cpu given held) new is_cpu locked moves = subst IsLocked (sym moves.is_new) locked
IsLocked-Moves old (world.GiveUp cpu) new is_cpu locked moves =
    subst IsLocked (sym moves.is_new) (AreLocked-less old.config.cpus old.taken cpu [] (λ g has. absurd (Contains-nil g has)) locked)
IsLocked-Moves old (world.Return cpu) new is_cpu locked moves = subst IsLocked (sym moves.is_new) locked
IsLocked-Moves old (world.Stop cpu) new is_cpu locked moves = subst IsLocked (sym moves.is_new) locked

pub IsLocked-Happens : (old : World) (move : Move) (new : World) → IsLocked old → Happens old move new → IsLocked new
IsLocked-Happens old move new locked happens = IsLocked-Moves old move new happens.is_cpu locked happens.moves

pub IsLocked-HappenAll : (old : World) (moves : List Move) (last : World) → IsLocked old → HappenAll old moves last → IsLocked last
IsLocked-HappenAll old [] last locked happen = subst IsLocked (sym happen) locked
IsLocked-HappenAll old (move ∷ moves) last locked happen =
    IsLocked-HappenAll happen.0 moves last (IsLocked-Happens old move happen.0 locked happen.1) happen.2

pub IsLocked-opening : (config : Config) (programs : ℕ → List Command) → IsLocked (opening_world config programs)
unfolding opening_world
IsLocked-opening config programs = record {
  one = λ c d granule of_c of_d. absurd (Contains-nil granule of_c);
  fits = λ c granule of_c. absurd (Contains-nil granule of_c);
}
