-- Each first part of a linearization leads to a state.
use Rattle.verdict_laws.proofs.Common.{◌≡◌, ℕ, ◌+◌, List, [], ◌∷◌, ◌++◌, length, Some, sym, subst, arith, append_assoc, slice_get, slice_get_within, slice_get-append, Line, History, IsHistory, State, opening, JournalEntry, IsRun, IsLinearization, AreEntriesOf, HasOnePlaces-from_history}
use Rattle.std.proofs.lemmas.List.{append-nil}
use Rattle.rmm_spec.specs.Linearization.{NamesSame}
use Rattle.verdict_laws.specs.Order.{Reaches}
use Rattle.verdict_laws.proofs.Growth.{Reaches-nil}
use Rattle.verdict_laws.proofs.Reached.{Reaches-linear}
use Rattle.verdict_laws.proofs.Settled.{behind, split_run}
use Rattle.rmm_laws.proofs.EntryRuns.{same_state}

-- a line of a first part and one behind it name two calls
pub apart_parts : (history : History) (front back : List Line) → IsLinearization history (front ++ back) → (i j : ℕ) (line other : Line)
    → slice_get front i ≡ Some line → slice_get back j ≡ Some other → ¬ NamesSame line other
apart_parts history front back valid i j line other is there =
    let within = slice_get_within front i line is in
    valid.order.names.once i (length front + j) line other (omega (arith, within)) (slice_get-append front back i line is)
    (behind front back j other there)

module _ (history : History) (is_history : IsHistory history) where
  module _ (lines more : List Line) (line : Line) (state : State) (reached : Reaches history lines state)
      (valid : IsLinearization history ((lines ++ line ∷ []) ++ more)) where
    -- the first part may be longer by the line behind it
    Reaches-longer : (new : State) × Reaches history (lines ++ line ∷ []) new
    Reaches-longer =
        let start = opening history.config in
        let places = HasOnePlaces-from_history history is_history in
        let all = split_run history.events (lines ++ line ∷ []) more valid.entries start valid.last valid.run.claimed valid.run.run in
        let parts = split_run history.events lines (line ∷ []) all.first start all.middle all.claimed all.run in
        let at : parts.middle ≡ state =
        same_state history.events places lines parts.first reached.passes.entries start parts.middle state parts.claimed parts.run
        reached.passes.run.claimed reached.passes.run.run in
        by parts.rest all.middle parts.later (subst (λ (s : State). IsRun s parts.rest all.middle) at parts.further)
      where
        by : (entries : List JournalEntry) (last : State) → AreEntriesOf history.events (line ∷ []) entries → IsRun state entries last
            → (new : State) × Reaches history (lines ++ line ∷ []) new
        by [] last claimed run = absurd claimed
        by (entry ∷ entries) last claimed run =
            (run.0, Reaches-linear history is_history lines state reached line more valid entry run.0 claimed.0 run.1)

  -- and by more of them
  Reaches-along : (xs lines more : List Line) (state : State) → Reaches history lines state → IsLinearization history (lines ++ (xs ++ more))
      → (new : State) × Reaches history (lines ++ xs) new
  Reaches-along [] lines more state reached valid =
      (state, subst (λ (ls : List Line). Reaches history ls state) (sym (append-nil lines)) reached)
  Reaches-along (x ∷ xs) lines more state reached valid =
      let there = subst (IsLinearization history) (sym (append_assoc lines (x ∷ []) (xs ++ more))) valid in
      let first = Reaches-longer lines (xs ++ more) x state reached there in
      let rest = Reaches-along xs (lines ++ x ∷ []) more first.0 first.1 there in
      (rest.0, subst (λ (ls : List Line). Reaches history ls rest.0) (append_assoc lines (x ∷ []) xs) rest.1)

  pub Reaches-first : (lines more : List Line) → IsLinearization history (lines ++ more) → (state : State) × Reaches history lines state
  Reaches-first lines more valid = Reaches-along lines [] more (opening history.config) (Reaches-nil history) valid
