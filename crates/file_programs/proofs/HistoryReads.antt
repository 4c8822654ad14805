-- What is kept of a history that is read up to its bad line.
use Rattle.std.proofs.Common.{◌≡◌, ℕ, Bool, true, false, List, [], ◌++◌, Option, Some, None, Result, Ok, Err, refl, sym, ap, ◌∙◌, subst}
use Rattle.std.specs.Prelude.{IfErr, IfSome, IsSome}
use Rattle.std.proofs.lemmas.Bool.{false≢true}
use Rattle.history.specs.declared.fault.HistoryFault.{HistoryFault}
use Rattle.history.specs.declared.fault.HistoryFault.TheVariants.{BadLine}
use Rattle.rmm_spec.specs.HistoryText.{InHistories}
use Rattle.rmm_spec.specs.Text.{IsBadLine}
use Rattle.check_command.specs.Taken.{HasTaken}
use Rattle.file_programs.specs.Kept.{HasKept}

-- at first nothing
pub HasKept-none : (reader : Result (List ℕ) HistoryFault) (kept : List ℕ) (bad : Option ℕ)
    → reader ≡ Ok [] → kept ≡ [] → bad ≡ None → HasKept reader kept bad []
HasKept-none reader kept bad fresh empty none = record {
  taken = subst (λ (r : Result (List ℕ) HistoryFault). HasTaken r []) (sym fresh) refl;
  is_text = empty;
  known = subst (λ (o : Option ℕ). IfSome o (λ line. reader ≡ Err (BadLine line))) (sym none) tt;
}

-- a reader that fails has this fault
pub failed_with : {T : Type 0} (new : Result (List ℕ) HistoryFault) (answer : Result T HistoryFault) (fault : HistoryFault) → answer ≡ Err fault
    → IfErr answer (λ told. new ≡ Err told) → new ≡ Err fault
failed_with new (Ok value) fault is fails = absurd cc
failed_with new (Err told) fault is fails = fails ∙ ap Err (let same : told ≡ fault = cc in same)

-- a known bad line is what is answered at the end
known_at_end : {T : Type 0} (reader : Result (List ℕ) HistoryFault) (bad : Option ℕ) (answer : Result T HistoryFault) → IsSome bad
    → IfSome bad (λ line. reader ≡ Err (BadLine line)) → IfErr reader (λ fault. answer ≡ Err fault)
    → (line : ℕ) × (reader ≡ Err (BadLine line)) × (answer ≡ Err (BadLine line))
known_at_end reader None answer some known failed = absurd (false≢true some)
known_at_end reader (Some line) answer some known failed =
    (line, known, subst (λ (r : Result (List ℕ) HistoryFault). IfErr r (λ fault. answer ≡ Err fault)) known failed)

-- so a history is found only in a whole text
pub whole_found : {T : Type 0} (whole : Bool) (reader : Result (List ℕ) HistoryFault) (bad : Option ℕ) (answer : Result T HistoryFault) (value : T)
    → answer ≡ Ok value → (whole ≡ false → IsSome bad) → IfSome bad (λ line. reader ≡ Err (BadLine line))
    → IfErr reader (λ fault. answer ≡ Err fault) → whole ≡ true
whole_found true reader bad answer value is sated known failed = refl
whole_found false reader bad answer value is sated known failed =
    let ends = known_at_end reader bad answer (sated refl) known failed in
    absurd (let both : Ok value ≡ Err (BadLine ends.0) = sym is ∙ ends.2 in cc)

-- and the line of another is bad whatever follows
pub bad_for_good : {T : Type 0} (whole : Bool) (reader : Result (List ℕ) HistoryFault)
    (bad : Option ℕ) (answer : Result T HistoryFault) (line : ℕ) (text : List ℕ)
    → answer ≡ Err (BadLine line) → (whole ≡ false → IsSome bad)
    → IfSome bad (λ told. reader ≡ Err (BadLine told)) → IfErr reader (λ fault. answer ≡ Err fault)
    → HasTaken reader text → whole ≡ false → (more : List ℕ) → IsBadLine InHistories (text ++ more) line
bad_for_good whole reader bad answer line text is sated known failed taken part more =
    let ends = known_at_end reader bad answer (sated part) known failed in
    let both : Err (BadLine ends.0) ≡ Err (BadLine line) = sym ends.2 ∙ is in
    let same : ends.0 ≡ line = cc in
    let told : HasTaken (Err (BadLine ends.0)) text = subst (λ (r : Result (List ℕ) HistoryFault). HasTaken r text) ends.1 taken in
    subst (λ (n : ℕ). IsBadLine InHistories (text ++ more) n) same (told.1 more)
