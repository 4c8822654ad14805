-- A step with an `ok` reply: the command's rows hold, and its change is made.
use Rattle.rmm_laws.proofs.Common.{◌<◌, ◌∙◌, ◌≡◌, Accepted, Delegated, Err, IsSound, List, Ok, RealmRecord, Refusal, Reply, Result, Some, State, Step, [], ap, arith, both_ways, changed, is_accepted, ok, outcome, refl, subst, sym, tag-has_tag, true, ℕ}
use Rattle.std.proofs.Common.{◌^◌, slice_index}
use Rattle.std.proofs.Math.Nat.{div-eq_of_lt}
use Rattle.rmm_spec.specs.declared.call.Call.{Call}
use Rattle.rmm_spec.specs.declared.call.Call.TheVariants as call
use Rattle.rmm_spec.specs.declared.function_id.FunctionId.TheVariants as function
use Rattle.rmm_spec.specs.declared.tag.Tag.TheVariants.{Undelegated}
use Rattle.rmm_spec.specs.Call.{call_from}
use Rattle.rmm_spec.specs.Update.{with_tag}
use Rattle.rmm_spec.specs.Walk.{table_number, entry_for, IsWalk}
use Rattle.rmm_spec.specs.Step.{CarriesOut}
use Rattle.rmm_spec.specs.Step.Front.{with_front}
use Rattle.rmm_spec.specs.Step.Terms.{named, is_space, words_of}
use Rattle.spec_lemmas.proofs.TagLaws.{with_tag-restored}
use Rattle.rmm_laws.proofs.Cases.{spot_itself}
use Rattle.rmm_laws.specs.Commands.{command}
use Rattle.rmm_laws.proofs.Facts.{root_covers}
use Rattle.rmm_laws.proofs.ByRows.{AllHold}
use Rattle.spec_lemmas.proofs.Behind.{behind}
use Rattle.rmm_laws.proofs.RowLaws.{Leads, front-rest, outcome-leads}

-- what leads to a reply that accepts
leads-accepted : (s : State) (cpu : ℕ) (c : Call) (found : Result Accepted Refusal) (given : Reply) (next : State)
    → Leads s cpu c found → is_accepted given ≡ true
    → CarriesOut found s given next → AllHold (with_front s c (behind s cpu c).0) × CarriesOut (Ok (behind s cpu c).1) s given next
leads-accepted s cpu c (Ok found) given next all accepted carried = (all.0, subst (λ a. CarriesOut (Ok a) s given next) (sym all.1) carried)
leads-accepted s cpu c (Err refusal) given next refused accepted carried = both_ways (sym (ap is_accepted carried.0) ∙ accepted) refused

-- where a step accepts, the command's rows hold, and what stands behind them is carried out
step-accepted : (s : State) (cpu : ℕ) (c : Call) (given : Reply) (next : State) → is_accepted given ≡ true → CarriesOut (outcome s cpu c) s given next
    → AllHold (with_front s c (behind s cpu c).0) × CarriesOut (Ok (behind s cpu c).1) s given next
step-accepted s cpu c given next = leads-accepted s cpu c (outcome s cpu c) given next (outcome-leads s cpu c (outcome s cpu c) refl)

-- ---- a granule is lent and taken back

delegated : (s : State) (cpu : ℕ) (words : List ℕ) (next : State) → Step s cpu (command function.GranuleDelegate words) (ok []) next
    → (s.tag (slice_index words 0) ≡ Undelegated) × (next ≡ with_tag s (slice_index words 0) Delegated)
unfolding behind call_from named changed
delegated s cpu words next step =
    let g = slice_index words 0 in
    let carried = step-accepted s cpu (call.GranuleDelegate g) (ok []) next refl step in
    (tag-has_tag s g Undelegated (front-rest s (call.GranuleDelegate g) [] carried.0).1.0, carried.1.1)

undelegated : (s : State) (cpu : ℕ) (words : List ℕ) (next : State) → Step s cpu (command function.GranuleUndelegate words) (ok []) next
    → next ≡ with_tag s (slice_index words 0) Undelegated
unfolding behind call_from changed
undelegated s cpu words next step = (step-accepted s cpu (call.GranuleUndelegate (slice_index words 0)) (ok []) next refl step).1.1

-- a granule that is lent and taken back leaves the state as it was
pub undelegated-delegated : (old middle next : State) (cpu other : ℕ) (words : List ℕ)
    → Step old cpu (command function.GranuleDelegate words) (ok []) middle
    → Step middle other (command function.GranuleUndelegate words) (ok []) next → next ≡ old
undelegated-delegated old middle next cpu other words there back =
    let g = slice_index words 0 in
    let lent = delegated old cpu words middle there in
    undelegated middle other words next back ∙ ap (λ s. with_tag s g Undelegated) lent.1
    ∙ ap (with_tag (with_tag old g Delegated) g) (sym lent.0) ∙ with_tag-restored old g Delegated

-- ---- roots

-- the root is the table of every address of the space
pub root_number : (width level ipa : ℕ) → is_space width level ≡ true → ipa < 2 ^ width → table_number level ipa ≡ 0
unfolding table_number
root_number width level ipa space below = rw ((root_covers width level space).1) (div-eq_of_lt below)

-- a walk to the level of a root that covers the address ends there
pub root-walk : (s : State) (rd ipa level root : ℕ)
    → s.table rd level 0 ≡ Some root → table_number level ipa ≡ 0 → IsWalk s rd ipa level level root (entry_for s rd level ipa)
root-walk s rd ipa level root is number = record {
  within = omega arith;
  is_table = rw number is;
  deepest = λ deeper deep shallow. absurd (omega arith);
  is_entry = refl;
}

-- the root of a realm that was just made covers every address of the space
pub fresh-root : (old next : State) (cpu ipa : ℕ) (words : List ℕ)
    → Step old cpu (command function.RealmCreate words) (ok []) next → ipa < 2 ^ slice_index words 2
    → let rd = slice_index words 0 in let level = slice_index words 3 in
    IsWalk next rd ipa level level (slice_index words 1) (entry_for next rd level ipa)
unfolding behind call_from words_of changed
fresh-root old next cpu ipa words step below =
    let rd = slice_index words 0 in
    let root = slice_index words 1 in
    let width = slice_index words 2 in
    let level = slice_index words 3 in
    let c = call.RealmCreate rd root width level (slice_index words 4) (slice_index words 5) in
    let carried = step-accepted old cpu c (ok []) next refl step in
    let space = (front-rest old c _ carried.0).0.1.1.0 in
    root-walk next rd ipa level root
    (ap (λ (s : State). s.table rd level 0) carried.1.1 ∙ rw (spot_itself rd level 0) refl) (root_number width level ipa space below)

-- and so in every sound state
pub sound-root : (s : State) (rd ipa : ℕ) (realm : RealmRecord) → IsSound s → s.realm rd ≡ Some realm → ipa < 2 ^ realm.width
    → IsWalk s rd ipa realm.start_level realm.start_level realm.root (entry_for s rd realm.start_level ipa)
sound-root s rd ipa realm sound is below =
    root-walk s rd ipa realm.start_level realm.root (sound.tables.roots rd realm is)
    (root_number realm.width realm.start_level ipa (sound.realms.spaces rd realm is) below)
