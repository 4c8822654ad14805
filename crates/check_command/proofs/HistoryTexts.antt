-- What a history's reader was given, from one piece to the next and at the end.
use Rattle.std.proofs.Common.{◌≡◌, ◌≢◌, ℕ, List, [], ◌++◌, Result, Ok, Err, sym, ap, ◌∙◌, subst, append_assoc}
use Rattle.std.specs.Prelude.{IfOk, IfErr, OnOk}
use Rattle.std.proofs.lemmas.List.{append-nil}
use Rattle.history.specs.Faults.{IsFaultOf}
use Rattle.history.specs.declared.fault.HistoryFault.{HistoryFault}
use Rattle.history.specs.declared.fault.HistoryFault.TheVariants.{NoMemory}
use Rattle.rmm_spec.specs.HistoryText.{History, IsHistoryText}
use Rattle.check_command.specs.Taken.{HasTaken, RefusesEvent}

-- the next piece is taken, or the reader fails
pub HasTaken-next : {T : Type 0} (old new : Result (List ℕ) HistoryFault) (answer : Result T HistoryFault) (piece text : List ℕ)
    → IfOk old (λ given. OnOk answer (new ≡ Ok (given ++ piece)))
    → IfOk old (λ given. IfErr answer (λ fault. (more : List ℕ) → IsFaultOf (given ++ (piece ++ more)) fault))
    → IfErr answer (λ fault. new ≡ Err fault) → IfErr old (λ fault. answer ≡ Err fault) → answer ≢ Err NoMemory
    → HasTaken old text → HasTaken new (text ++ piece)
HasTaken-next (Ok given) new (Ok value) piece text goes bad fails failed told same =
    subst (λ r. HasTaken r (text ++ piece)) (sym goes) (ap (λ t. t ++ piece) same)
HasTaken-next (Ok given) new (Err fault) piece text goes bad fails failed told same =
    subst (λ r. HasTaken r (text ++ piece)) (sym fails) (
      λ is. told (ap Err is),
      λ more.
          subst (λ t. IsFaultOf t fault) (ap (λ t. t ++ (piece ++ more)) same ∙ sym (append_assoc text piece more)) (bad more),
    )
HasTaken-next (Err first) new (Ok value) piece text goes bad fails failed told same = absurd cc
HasTaken-next (Err first) new (Err fault) piece text goes bad fails failed told same =
    let one : first ≡ fault = cc in
    subst (λ r. HasTaken r (text ++ piece)) (sym fails) (
      λ is. told (ap Err is),
      λ more.
          subst (λ t. IsFaultOf t fault) (sym (append_assoc text piece more))
          (subst (λ f. IsFaultOf (text ++ (piece ++ more)) f) one (same.1 (piece ++ more))),
    )

-- the text ends: it stands for the history that is answered
pub HasTaken-found : {T : Type 0} (reader : Result (List ℕ) HistoryFault)
    (recorded : History) (text : List ℕ) (answer : Result T HistoryFault) (value : T)
    → answer ≡ Ok value → IfErr reader (λ fault. answer ≡ Err fault) → IfOk reader (λ given. IsHistoryText given recorded) → HasTaken reader text
    → IsHistoryText text recorded
HasTaken-found (Ok given) recorded text answer value is_answer failed found same = subst (λ t. IsHistoryText t recorded) same found
HasTaken-found (Err fault) recorded text answer value is_answer failed found same =
    absurd (let both : Ok value ≡ Err fault = sym is_answer ∙ failed in cc)

-- or the fault that is answered is its own
pub HasTaken-fault : {T : Type 0} (reader : Result (List ℕ) HistoryFault) (answer : Result T HistoryFault) (fault : HistoryFault) (text : List ℕ)
    → answer ≡ Err fault → IfOk reader (λ given. IfErr answer (IsFaultOf given)) → IfErr reader (λ first. answer ≡ Err first)
    → HasTaken reader text → IsFaultOf text fault
HasTaken-fault (Ok given) (Ok value) fault text is_answer bad failed same = absurd cc
HasTaken-fault (Ok given) (Err told) fault text is_answer bad failed same =
    let one : told ≡ fault = cc in
    subst (λ f. IsFaultOf text f) one (subst (λ t. IsFaultOf t told) same bad)
HasTaken-fault (Err first) answer fault text is_answer bad failed same =
    let both : Err first ≡ Err fault = sym failed ∙ is_answer in
    let one : first ≡ fault = cc in
    subst (λ f. IsFaultOf text f) one (subst (λ t. IsFaultOf t first) (append-nil text) (same.1 []))

-- which isn't refused memory
pub HasTaken-no_memory : {T : Type 0} (reader : Result (List ℕ) HistoryFault) (answer : Result T HistoryFault) (text : List ℕ)
    → answer ≡ Err NoMemory → IfOk reader (λ given. answer ≢ Err NoMemory) → IfErr reader (λ first. answer ≡ Err first) → HasTaken reader text → ⊥
HasTaken-no_memory (Ok given) answer text is_answer none failed same = none is_answer
HasTaken-no_memory (Err first) answer text is_answer none failed same =
    same.0 (let both : Err first ≡ Err NoMemory = sym failed ∙ is_answer in cc)

-- memory refused for the next piece is refused for an event in the text with it
pub RefusesEvent-text : (reader : Result (List ℕ) HistoryFault) (text piece : List ℕ) → HasTaken reader text → RefusesEvent reader piece
    → IsFaultOf (text ++ piece) NoMemory
RefusesEvent-text (Ok given) text piece same refused = subst (λ t. IsFaultOf (t ++ piece) NoMemory) same refused
RefusesEvent-text (Err fault) text piece same refused = absurd (same.0 refused)

-- which is where the reader refuses memory for the piece
pub RefusesEvent-next : {T : Type 0} (old : Result (List ℕ) HistoryFault) (answer : Result T HistoryFault) (piece : List ℕ) → answer ≡ Err NoMemory
    → IfOk old (λ given. IfErr answer (λ fault. (more : List ℕ) → IsFaultOf (given ++ (piece ++ more)) fault))
    → IfErr old (λ fault. answer ≡ Err fault) → RefusesEvent old piece
RefusesEvent-next (Ok given) (Ok value) piece is_refused bad failed = absurd cc
RefusesEvent-next (Ok given) (Err told) piece is_refused bad failed =
    let one : told ≡ NoMemory = cc in
    subst (λ f. IsFaultOf (given ++ piece) f) one (subst (λ p. IsFaultOf (given ++ p) told) (append-nil piece) (bad []))
RefusesEvent-next (Err first) answer piece is_refused bad failed = let both : Err first ≡ Err NoMemory = sym failed ∙ is_refused in cc
