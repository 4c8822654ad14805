-- A state that tells both searches itself: what is answered outside and inside of RECs is the definitions' outcome.
use Rattle.std.proofs.Common.{◌≡◌, ℕ, true, false, IsTrue, refl}
use Rattle.rmm_spec.specs.declared.call.Call.{Call}
use Rattle.rmm_spec.specs.declared.call.Call.TheVariants as call
use Rattle.rmm_spec.specs.declared.tag.Tag.TheVariants.{Rd, Rec}
use Rattle.rmm_spec.specs.Call.{Class, ByHost, ByRealm, ByExit, class_of}
use Rattle.rmm_spec.specs.Lookup.{has_rec, has_tag, is_inside, is_vmid_used, rec_at, rec_inside}
use Rattle.rmm_spec.specs.State.{State}
use Rattle.rmm_spec.specs.Step.{answer_of, outcome}
use Rattle.rmm_spec.specs.Step.Realm.{realm_create, realm_destroy}
use Rattle.rmm_spec.specs.Step.RealmCall.{answer_to_realm}
use Rattle.command_rows.specs.Answers.{IsInside, IsInsideBy, IsOwned, inside_answer, outside_answer}

-- of a CPU outside of RECs
pub outcome-outside : (s : State) (cpu : ℕ) (c : Call) → is_inside s cpu ≡ false
    → outside_answer (is_vmid_used s) (has_rec s) s cpu c ≡ outcome s cpu c
unfolding outcome answer_of class_of outside_answer realm_create realm_destroy
outcome-outside s cpu (call.RealmCreate rd root width level vmid algo) outside = rw outside refl
outcome-outside s cpu _ outside = rw outside refl

-- of a CPU inside the REC that runs on it
pub outcome-inside : (s : State) (cpu : ℕ) (c : Call) → is_inside s cpu ≡ true → inside_answer s (rec_inside s cpu) c ≡ outcome s cpu c
unfolding outcome answer_of class_of inside_answer answer_to_realm
outcome-inside s cpu (call.MeasurementRead index) inside = rw inside refl
outcome-inside s cpu _ inside = rw inside refl

-- where each REC has a realm, so has the one that is entered
pub owned : (s : State) (c : Call) → ((rec : ℕ) → IsTrue (has_tag s rec Rec) → IsTrue (has_tag s (rec_at s rec).owner Rd)) → IsOwned s c
owned s (call.RecEnter rec) owns = owns rec
owned s _ owns = tt

-- where the REC and its realm are there, any command may be given inside of it
pub inside_by : (s : State) (rec : ℕ) (class : Class) → IsTrue (has_tag s rec Rec) → IsTrue (has_tag s (rec_at s rec).owner Rd)
    → IsInsideBy class s rec
inside_by s rec ByHost there realm = tt
inside_by s rec ByRealm there realm = (there, realm)
inside_by s rec ByExit there realm = there

pub inside : (s : State) (rec : ℕ) (c : Call) → IsTrue (has_tag s rec Rec) → IsTrue (has_tag s (rec_at s rec).owner Rd) → IsInside s rec c
unfolding IsInside
inside s rec c there realm = inside_by s rec (class_of c) there realm
