-- What decides is so in the state.
use Rattle.explain.proofs.Common.{◌∙◌, ◌≡◌, Bool, Command, List, None, Option, Reply, Some, State, ap, false, is_so, refl, subst, sym, true, ℕ}
use Rattle.std.specs.Prelude.{MatchOption}
use Rattle.std.proofs.Common.{◌&&◌, ◌||◌, not, Ok, Err}
use Rattle.rmm_spec.specs.declared.accepted.Accepted.{Accepted}
use Rattle.rmm_spec.specs.declared.accepted.Accepted.TheVariants.{Done, Reaches}
use Rattle.rmm_spec.specs.declared.condition.Condition.{Condition}
use Rattle.rmm_spec.specs.declared.refusal.Refusal.{Refusal}
use Rattle.rmm_spec.specs.declared.reply.Reply.TheVariants as reply
use Rattle.rmm_spec.specs.Call.{call_of}
use Rattle.rmm_spec.specs.Change.{changed}
use Rattle.rmm_spec.specs.Lookup.{rec_inside}
use Rattle.rmm_spec.specs.Step.{CarriesOut, Step, outcome}
use Rattle.reasons.specs.declared.test.Test.{Test}
use Rattle.reasons.specs.Law.{IsFirst, IsOfWords, first_failing, refused_for}
use Rattle.reasons.specs.Lists.{conditions}
use Rattle.reasons.specs.Tests.{passes, stands}
use Rattle.reasons.proofs.First.{fails-first, first_failing-first}
use Rattle.reasons.proofs.Rows.{refused_for-outcome}
use Rattle.reasons.specs.declared.explanation.Deciding.{Deciding}
use Rattle.reasons.specs.declared.explanation.Deciding.TheVariants as deciding
use Rattle.explain.specs.declared.watch.Watch.{Watch}
use Rattle.explain.specs.declared.watch.Watch.TheVariants as watch
use Rattle.explain.specs.Deciding.{IsApart, IsConditionOf, IsDecision, IsFailing}

-- a test that fails is so where it stands, or stands in no way
by_standing : (b : Bool) → ((b || not b) && true) ≡ true
by_standing true = refl
by_standing false = refl

-- the condition that fails is so
pub is_so-condition : (s : State) (t : Test) (d : Deciding) (w : Watch) → passes s t ≡ false → IsConditionOf s t d w → is_so s w ≡ true
unfolding is_so
is_so-condition s t (deciding.Condition read) (watch.Condition other standing) fails (is_same, is_standing, is_fact) =
    rw (is_same, is_standing, fails) (by_standing (stands s t))
is_so-condition s t (deciding.Condition read) (watch.Accepted cpu command) fails is = absurd is
is_so-condition s t (deciding.Condition read) (watch.Read source) fails is = absurd is
is_so-condition s t deciding.Accepted w fails is = absurd is
is_so-condition s t (deciding.Word word) w fails is = absurd is

-- the first that fails is that for which the command is refused
pub IsFailing-first : (s : State) (cpu : ℕ) (command : Command) (name : Condition) (t : Test)
    → IsFirst s (conditions cpu (rec_inside s cpu) (call_of command)) name t → IsFailing s cpu (call_of command) (outcome s cpu (call_of command)) t
IsFailing-first s cpu command name t first = (
  name,
  refused_for-outcome s cpu (call_of command) ∙ first_failing-first s (conditions cpu (rec_inside s cpu) (call_of command)) name t first,
  first,
  fails-first s (conditions cpu (rec_inside s cpu) (call_of command)) name t first,
)

pub IsDecision-condition : (s : State) (cpu : ℕ) (command : Command) (claimed : Reply) (t : Test) (d : Deciding) (w : Watch)
    → IsFailing s cpu (call_of command) (outcome s cpu (call_of command)) t → IsOfWords command.words.items t → IsConditionOf s t d w
    → IsDecision s cpu command (outcome s cpu (call_of command)) claimed d w
IsDecision-condition s cpu command claimed t (deciding.Condition read)
    (watch.Condition other standing) failing asked (is_same, is_standing, is_fact) =
    subst (λ (x : Test). IsDecision s cpu command (outcome s cpu (call_of command)) claimed (deciding.Condition read) (watch.Condition x standing))
    (sym is_same) (failing, asked, is_standing, is_fact)
IsDecision-condition s cpu command claimed t (deciding.Condition read) (watch.Accepted other given) failing asked is = absurd is
IsDecision-condition s cpu command claimed t (deciding.Condition read) (watch.Read source) failing asked is = absurd is
IsDecision-condition s cpu command claimed t deciding.Accepted w failing asked is = absurd is
IsDecision-condition s cpu command claimed t (deciding.Word word) w failing asked is = absurd is

-- a refusal has a condition
pub refused-none : (s : State) (cpu : ℕ) (command : Command) (refused : Refusal) → outcome s cpu (call_of command) ≡ Err refused
    → first_failing s (conditions cpu (rec_inside s cpu) (call_of command)) ≡ None → ⊥
refused-none s cpu command refused is none =
    let told = sym (ap refused_for is) ∙ refused_for-outcome s cpu (call_of command) ∙ none in absurd cc

-- claimed words that aren't given aren't those of what is done
pub IsApart-refused : (s : State) (cpu : ℕ) (command : Command) (accepted : Accepted) (items : List ℕ) → outcome s cpu (call_of command) ≡ Ok accepted
    → ((next : State) → ¬ Step s cpu command (reply.Ok (record { items = items })) next) → IsApart accepted items
IsApart-refused s cpu command (Done words change) items is refused = λ same.
    refused (changed s change)
    (subst (λ answer. CarriesOut answer s (reply.Ok (record { items = items })) (changed s change))
    (sym is) (ap (λ xs. reply.Ok (record { items = xs })) (sym same), refl))
IsApart-refused s cpu command (Reaches stretch) items is refused = tt

-- ---- what a search answers

pub some_found : {X : Type 0} (found : Option X) (Otherwise : Type 0) (P : X → Type 0) (x : X) → MatchOption found Otherwise P → found ≡ Some x → P x
some_found found Otherwise P x match is = subst (λ f. MatchOption f Otherwise P) is match
