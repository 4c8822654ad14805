use Rattle.std.proofs.Common.{◌≡◌, ℕ, zero, suc, false, replicate, slice_index_or, refl, ◌∙◌}
use Rattle.std.proofs.lemmas.List.{length-replicate}
use Rattle.checker.proofs.Progress.{Progress-nil}
use Rattle.checker.proofs.replay.Replay.new.Goals as goal

-- no call is named
none-named : (n place : ℕ) → slice_index_or (replicate n false) place false ≡ false
none-named zero place = refl
none-named (suc n) zero = refl
none-named (suc n) (suc place) = none-named n place

pub returns-clause-replay : goal.returns-clause-replay
returns-clause-replay c =
    let n = c.len.result in
    let named : c.in_ok-named.named.items ≡ replicate n false = c.in_ok-named.ensures.items_if_clones_equal (λ flag same. same) in
    rw (c.in_ok-machine.ensures.opening, c.config.ensures, named)
    (Progress-nil c.args.history.now.recorded (replicate n false) c.well_formed-fact.ensures
    (length-replicate n false ∙ c.len.ensures) (none-named n))
