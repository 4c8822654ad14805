-- What a call leads to that makes a realm or a REC reads the tags of what it names, its realm's record, and whether the VMID is used.
use Rattle.verdict_laws.proofs.Common.{◌≡◌, ℕ, true, ◌||◌, not, if◌then◌else◌, inl, inr, Some, refl, sym, ◌∙◌, Err, or_cases, Call, Misplaced, State, has_tag, is_inside, is_vmid_used, realm_at, answer_of, outcome, named, words_of, both_ways, is_local}
use Rattle.rmm_spec.specs.declared.call.Call.TheVariants as call
use Rattle.rmm_spec.specs.declared.condition.Condition.TheVariants.{OwnOutside}
use Rattle.rmm_spec.specs.Step.Realm.{realm_create_told}
use Rattle.rmm_spec.specs.Step.Rec.{rec_create}
use Rattle.rmm_spec.specs.Step.{commands}
use Rattle.rmm_spec.specs.Step.Terms.{class_of}
use Rattle.verdict_laws.specs.Making.{is_making, made_realm, taken_vmid}
use Rattle.verdict_laws.proofs.Retags.{with_tags, outcome-tags}
use Rattle.verdict_laws.proofs.SeparateLooks.{AgreeOn, AgreeOn-sym, named_kept, outcome-agree}

-- The states agree on what a local call reads, on the record of the realm that the call makes or for which it makes a REC, and on whether
-- the VMID is used that it takes.
pub record AgreeOnMade (cpu : ℕ) (c : Call) (s t : State) : Type 0 where
  pub on : AgreeOn cpu c s t
  pub realm : (rd : ℕ) → made_realm c ≡ Some rd → t.realm rd ≡ s.realm rd
  pub vmid : (vmid : ℕ) → taken_vmid c ≡ Some vmid → is_vmid_used t vmid ≡ is_vmid_used s vmid

-- so they do the other way round
pub AgreeOnMade-sym : (cpu : ℕ) (c : Call) (s t : State) → AgreeOnMade cpu c s t → AgreeOnMade cpu c t s
AgreeOnMade-sym cpu c s t agree = record {
  on = AgreeOn-sym cpu c s t agree.on;
  realm = λ rd is. sym (agree.realm rd is);
  vmid = λ vmid is. sym (agree.vmid vmid is);
}

-- with the same tags, a call that makes something leads to the same in both
outcome-tagged : (s t : State) (cpu : ℕ) (c : Call) → is_making c ≡ true → AgreeOnMade cpu c s t
    → outcome (with_tags t s.tag) cpu c ≡ outcome s cpu c
unfolding is_making made_realm taken_vmid outcome answer_of commands class_of words_of named has_tag realm_at is_inside is_vmid_used
outcome-tagged s t cpu (call.RealmCreate rd root width level vmid algo) making agree = λ i.
    if not (agree.on.inside i) then realm_create_told (agree.vmid vmid refl i) (record s { config = agree.on.config i }) rd root width level vmid algo
    else Err (Misplaced OwnOutside)
outcome-tagged s t cpu (call.RecCreate rd rec mpidr flags aux0 aux1) making agree = λ i.
    if not (agree.on.inside i)
    then rec_create (record s { config = agree.on.config i; realm = λ _. agree.realm rd refl i }) rd rec mpidr flags aux0 aux1
    else Err (Misplaced OwnOutside)
outcome-tagged s t cpu _ making agree = both_ways making refl

-- so does each that makes something or is local
pub outcome-made : (s t : State) (cpu : ℕ) (c : Call) → (is_making c || is_local c) ≡ true → AgreeOnMade cpu c s t
    → outcome t cpu c ≡ outcome s cpu c
outcome-made s t cpu c made agree = elim (or_cases (is_making c) (is_local c) made) [
  | inl making ↦ sym (outcome-tags t s.tag cpu c (named_kept s t (named c) agree.on.tag)) ∙ outcome-tagged s t cpu c making agree
  | inr local ↦ outcome-agree s t cpu c local agree.on
]
