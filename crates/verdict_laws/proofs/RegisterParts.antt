-- First parts of orders and a register: before any event, and behind an event that does nothing to it.
use Rattle.verdict_laws.proofs.Common.{◌≡◌, ℕ, ◌+◌, Bool, false, inl, inr, List, [], ◌∷◌, ◌++◌, Some, None, refl, sym, ◌∙◌, subst, arith, false≢true, cases_lt, none-some, slice_get-append, Line, Keep, Reply, History, IsHistory, IsReturned, IsLinearization, LeadsNowhere, Register}
use Rattle.std.proofs.Common.{replicate, slice_index_or}
use Rattle.std.proofs.lemmas.List.{get_or-replicate, get_or_past}
use Rattle.verdict_laws.specs.Forward.{MadeBefore}
use Rattle.verdict_laws.specs.Registers.{HaveParts, IsDone, IsOpenCall, IsPart, Possibility, RegisterCall, Stands, at_first}
use Rattle.verdict_laws.proofs.Counts.{count_of-nil}
use Rattle.verdict_laws.proofs.FirstParts.{Reaches-first}
use Rattle.verdict_laws.proofs.RegisterCalls.{same_done}
use Rattle.verdict_laws.proofs.RegisterPlaces.{HasReturned-next, IsOpenCall-before, IsOpenCall-next, MadeBefore-next}
use Rattle.verdict_laws.proofs.Settled.{kept_line}

-- ---- before the first event

-- no call is placed there
placed_nowhere : (cpu : ℕ) → slice_index_or (replicate 8 false) cpu false ≡ false
placed_nowhere cpu = elim (cases_lt cpu 8) [
  | inl within ↦ get_or-replicate 8 cpu false false within
  | inr past ↦ get_or_past (replicate 8 false) cpu false past
]

-- each order has the first part without a line
pub HaveParts-first : (history : History) (register : Register) (mine : ℕ → Bool) → HaveParts history register mine 0 (at_first ∷ [])
HaveParts-first history register mine order valid = (
  [],
  order,
  refl,
  record {
    made = λ cpu number called command is below. let none = count_of-nil cpu in absurd (omega (arith, none, below));
    returned = λ cpu number returned given done is before. absurd (omega (arith, before));
    i = 0;
    possibility = at_first;
    at = refl;
    represents = record {
      size = refl;
      run = refl;
      stands = λ cpu number is_open stands. absurd (none-some stands.line stands.at);
      placed = λ cpu placed. absurd (false≢true (sym (placed_nowhere cpu) ∙ placed));
    };
  },
)

-- with nothing possible there is no order
pub LeadsNowhere-impossible : (history : History) (register : Register) (mine : ℕ → Bool) (place : ℕ) → HaveParts history register mine place []
    → LeadsNowhere history []
LeadsNowhere-impossible history register mine place parts = record {
  none = λ more valid. let part = (parts more valid).3 in none-some part.possibility part.at;
}

-- ---- behind an event that does nothing to the register

module _ (history : History) (is_history : IsHistory history) (register : Register) (mine : ℕ → Bool) (place : ℕ)
    (nothing : (cpu number : ℕ) (given : Reply) → IsReturned history.events place cpu number given
    → IsDone history.events register mine (Keep cpu number) given None) where
  -- a call that returns there does nothing to it
  does_nothing : (cpu number : ℕ) (given told : Reply) (done : RegisterCall) → IsReturned history.events place cpu number given
      → ¬ IsDone history.events register mine (Keep cpu number) told (Some done)
  does_nothing cpu number given told done is is_done =
      none-some done (same_done history is_history register mine (Keep cpu number) given told None (Some done) (nothing cpu number given is) is_done)

  module _ (lines rest : List Line) (valid : IsLinearization history (lines ++ rest)) where
    -- so that no call of the lines which does something returns there
    stays : (cpu number : ℕ) → Stands history.events register mine lines cpu number → (given : Reply)
        → ¬ IsReturned history.events place cpu number given
    stays cpu number stands given is =
        let kind = valid.order.names.kinds stands.i stands.line (slice_get-append lines rest stands.i stands.line stands.at) in
        let line = kept_line history.events stands.line cpu number kind stands.of_cpu stands.numbered (place, given, is) in
        does_nothing cpu number given stands.given stands.done is
        (subst (λ (l : Line). IsDone history.events register mine l stands.given (Some stands.done)) line stands.is_done)

    -- a call of the lines is open there if it is behind the event
    was_open : MadeBefore history.events lines place → (cpu number : ℕ) → Stands history.events register mine lines cpu number
        → IsOpenCall history.events (place + 1) cpu number → IsOpenCall history.events place cpu number
    was_open made cpu number stands is_open =
        let reached = Reaches-first history is_history lines rest valid in
        let below = reached.1.named cpu number (stands.i, stands.line, stands.at, stands.of_cpu, stands.numbered) in
        IsOpenCall-before history.events place cpu number is_open (made cpu number is_open.called is_open.command is_open.is_called below)

    IsPart-next : (possibilities : List Possibility) → IsPart history register mine place possibilities lines
        → IsPart history register mine (place + 1) possibilities lines
    IsPart-next possibilities part = record {
      made = MadeBefore-next history.events lines place part.made;
      returned = HasReturned-next history.events register mine place lines part.returned
          (λ cpu number given done is is_done. absurd (does_nothing cpu number given given done is is_done));
      i = part.i;
      possibility = part.possibility;
      at = part.at;
      represents = record {
        size = part.represents.size;
        run = part.represents.run;
        stands = λ cpu number is_open stands. part.represents.stands cpu number (was_open part.made cpu number stands is_open) stands;
        placed = λ cpu placed.
            let at = part.represents.placed cpu placed in
            (at.0, IsOpenCall-next history.events place cpu at.0 at.1 (stays cpu at.0 at.2), at.2);
      };
    }

  -- each order has the same first part
  pub HaveParts-next : (possibilities : List Possibility) → HaveParts history register mine place possibilities
      → HaveParts history register mine (place + 1) possibilities
  HaveParts-next possibilities parts order valid =
      let old = parts order valid in
      (old.0, old.1, old.2, IsPart-next old.0 old.1 (subst (IsLinearization history) old.2 valid) possibilities old.3)
