-- A call that only looks at the state, and is given its reply where an order has come to, may come next at once.
use Rattle.verdict_laws.proofs.Common.{◌≡◌, ℕ, true, false, List, [], ◌∷◌, ◌++◌, refl, sym, subst, Command, Line, Keep, Reply, History, IsHistory, State, Step, LeadsNowhere, HasOnePlaces-from_history}
use Rattle.rmm_spec.specs.declared.function_id.FunctionId.{FunctionId}
use Rattle.rmm_spec.specs.declared.function_id.FunctionId.TheVariants as function
use Rattle.rmm_spec.specs.Footprint.{KeepsOthers, changed_parts}
use Rattle.rmm_laws.proofs.StepLaws.{step-keeps}
use Rattle.spec_lemmas.proofs.Calls.{same_entry}
use Rattle.verdict_laws.specs.Looking.{is_looking, is_looking_function}
use Rattle.verdict_laws.specs.Order.{Reaches, Grows}
use Rattle.verdict_laws.proofs.Settled.{GoesOnWithout, nowhere_first, run-without}

-- where every map is kept, the state is
kept_all : (old new : State) → KeepsOthers [] old new → new ≡ old
kept_all old new kept = λ i. record {
  config = kept.config i;
  tag = kept.tags refl i;
  realm = kept.realms refl i;
  rec = kept.recs refl i;
  table = kept.tables refl i;
  leaf = kept.leaves refl i;
}

-- a step of a command that only looks changes nothing
pub looks-keep : (old new : State) (cpu : ℕ) (command : Command) (given : Reply) → is_looking command ≡ true → Step old cpu command given new
    → new ≡ old
unfolding changed_parts
looks-keep old new cpu command given looking step = by command.function looking (step-keeps old new cpu command given step)
  where
    by : (f : FunctionId) → is_looking_function f ≡ true → KeepsOthers (changed_parts f) old new → new ≡ old
    by function.RttReadEntry looks kept = kept_all old new kept
    by function.MeasurementRead looks kept = kept_all old new kept
    by function.RealmConfig looks kept = kept_all old new kept
    by function.IpaStateGet looks kept = kept_all old new kept
    by _ looks kept = absurd (let bad : false ≡ true = looks in cc)

module _ (history : History) (is_history : IsHistory history) (lines : List Line) (state : State) (reached : Reaches history lines state)
    (cpu number : ℕ) where
  -- such a call may be left out of each run
  look-left_out : (grows : Grows history lines state (Keep cpu number) state) → is_looking grows.entry.command ≡ true
      → GoesOnWithout history.events (Keep cpu number) state state
  look-left_out grows looks front back first rest entry last claimed is_entry later run =
      let places = HasOnePlaces-from_history history is_history in
      let same = same_entry history.events places (Keep cpu number) entry grows.entry is_entry grows.is_entry in
      let also : is_looking entry.command ≡ true = subst (λ (c : Command). is_looking c ≡ true) (sym same.command) looks in
      let keeps : (old new : State) → Step old entry.cpu entry.command entry.given new → new ≡ old = λ old new taken.
      looks-keep old new entry.cpu entry.command entry.given also taken in
      (last, run-without first rest entry state last keeps run)

  -- so that where it leads nowhere there, all does
  pub nowhere_looked : (new : State) → (grows : Grows history lines state (Keep cpu number) new) → is_looking grows.entry.command ≡ true
      → LeadsNowhere history (lines ++ Keep cpu number ∷ []) → LeadsNowhere history lines
  nowhere_looked new grows looks =
      let same : new ≡ state = looks-keep state new grows.entry.cpu grows.entry.command grows.entry.given looks grows.step in
      let still : Grows history lines state (Keep cpu number) state = record {
        next = grows.next;
        called = grows.called;
        command = grows.command;
        is_called = grows.is_called;
        soon = grows.soon;
        entry = grows.entry;
        is_entry = grows.is_entry;
        step = subst (λ (s : State). Step state grows.entry.cpu grows.entry.command grows.entry.given s) same grows.step;
      } in
      nowhere_first history is_history lines state state reached cpu number still (look-left_out still looks)
