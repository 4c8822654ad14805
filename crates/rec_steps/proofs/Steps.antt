-- In a state that holds the two records: what the definitions answer, and the step that an answer is.
use Rattle.std.proofs.Common.{◌≡◌, ℕ, Bool, true, false, ◌==◌, if◌then◌else◌, not, IsTrue, refl, sym, ap, ◌∙◌, subst}
use Rattle.std.specs.Prelude.{Result, Ok, Err, Option, Some, None, is_none, unwrap_or}
use Rattle.arrayvec.specs.ArrayVec.{ArrayVec}
use Rattle.std.proofs.lemmas.Bool.{eqb-true, and_from, and_right}
use Rattle.rmm_spec.specs.declared.accepted.Accepted.{Accepted}
use Rattle.rmm_spec.specs.declared.accepted.Accepted.TheVariants.{Done}
use Rattle.rmm_spec.specs.declared.call.Call.{Call}
use Rattle.rmm_spec.specs.declared.call.Call.TheVariants as call
use Rattle.rmm_spec.specs.declared.command.Command.{Command}
use Rattle.rmm_spec.specs.declared.change.RealmUpdate.{RealmUpdate}
use Rattle.rmm_spec.specs.declared.change.RecUpdate.{RecUpdate}
use Rattle.rmm_spec.specs.declared.change.RecUpdate.TheVariants.{Exited}
use Rattle.rmm_spec.specs.declared.condition.Condition.TheVariants.{GranState, OwnInside, OwnOutside}
use Rattle.rmm_spec.specs.declared.refusal.Refusal.{Refusal}
use Rattle.rmm_spec.specs.declared.refusal.Refusal.TheVariants as of
use Rattle.rmm_spec.specs.declared.reply.Reply.TheVariants as reply
use Rattle.rmm_spec.specs.declared.tag.Tag.TheVariants as tag
use Rattle.rmm_spec.specs.Call.{Class, ByHost, ByRealm, ByExit, call_of, class_of}
use Rattle.rmm_spec.specs.Change.{changed, realm_updated, rec_updated}
use Rattle.rmm_spec.specs.Lookup.{no_realm, no_rec, has_tag, is_inside, rec_inside, realm_at, rec_at, request_of}
use Rattle.rmm_spec.specs.Rows.{done, reply_of}
use Rattle.rmm_spec.specs.State.{State, RealmRecord, RecRecord}
use Rattle.rmm_spec.specs.Step.{Step, CarriesOut, answer_by, answer_of, is_placed, misplacement, outcome}
use Rattle.rmm_spec.specs.Step.Terms.{named, words_of}
use Rattle.rmm_spec.specs.Step.RealmCall.{answer_to_realm, exit_words, rec_change, rec_exit}
use Rattle.rmm_spec.specs.Step.Rec.{rec_enter}
use Rattle.rmm_spec.specs.Update.{with_realm, with_rec}
use Rattle.rec_steps.specs.Answers.{answer_at, enter_rows, change_at, realm_after, rec_after}
use Rattle.rec_steps.specs.Held.{IsHeld}
use Rattle.rec_steps.specs.declared.step.RecStep.{RecStep}
use Rattle.spec_lemmas.proofs.Lookups.{with_realm-same}

-- ---- records

-- the REC that is read is the one that is held
pub rec_at-held : (s : State) (address : ℕ) (rec : RecRecord) → s.rec address ≡ Some rec → rec_at s address ≡ rec
unfolding rec_at
rec_at-held s address rec held = ap (λ found. unwrap_or found no_rec) held

-- the realm that is read is the one that is held
pub realm_at-held : (s : State) (rd : ℕ) (realm : RealmRecord) → s.realm rd ≡ Some realm → realm_at s rd ≡ realm
unfolding realm_at
realm_at-held s rd realm held = ap (λ found. unwrap_or found no_realm) held

-- the realm that is read through its REC is the one that is held
pub realm_at-IsHeld : (s : State) (address : ℕ) (realm : RealmRecord) (rec : RecRecord) → IsHeld s address realm rec
    → realm_at s (rec_at s address).owner ≡ realm
realm_at-IsHeld s address realm rec held =
    ap (λ (r : RecRecord). realm_at s r.owner) (rec_at-held s address rec held.has_rec) ∙ realm_at-held s rec.owner realm held.has_realm

-- what is there may be put there again
put_same : {A : Type 0} (f : ℕ → Option A) (place : ℕ) (a : A) → f place ≡ Some a → (other : ℕ) (b : Bool) → (other == place) ≡ b
    → (if b then Some a else f other) ≡ f other
put_same f place a held other false apart = refl
put_same f place a held other true same = sym held ∙ ap f (sym (eqb-true other place same))

with_rec-same : (s : State) (address : ℕ) (rec : RecRecord) → s.rec address ≡ Some rec → with_rec s address rec ≡ s
with_rec-same s address rec held = λ i. record s { rec = λ other. put_same s.rec address rec held other (other == address) refl i }

-- ---- steps

-- the change of a step puts the records in that the step makes
changed-step : (s : State) (address : ℕ) (realm : RealmRecord) (rec : RecRecord) (u : Option RealmUpdate) (v : Option RecUpdate)
    → IsHeld s address realm rec
    → with_rec (with_realm s rec.owner (realm_after u realm)) address (rec_after v rec) ≡ changed s (change_at rec.owner address u v)
unfolding changed
changed-step s address realm rec None None held =
    ap (λ t. with_rec t address rec) (with_realm-same s rec.owner realm held.has_realm) ∙ with_rec-same s address rec held.has_rec
changed-step s address realm rec None (Some v) held =
    ap (λ t. with_rec t address (rec_updated v rec)) (with_realm-same s rec.owner realm held.has_realm)
    ∙ ap (λ r. with_rec s address (rec_updated v r)) (sym (rec_at-held s address rec held.has_rec))
changed-step s address realm rec (Some u) None held =
    with_rec-same (with_realm s rec.owner (realm_updated u realm)) address rec held.has_rec
    ∙ ap (λ r. with_realm s rec.owner (realm_updated u r)) (sym (realm_at-held s rec.owner realm held.has_realm))
changed-step s address realm rec (Some u) (Some v) held =
    let t = with_realm s rec.owner (realm_updated u (realm_at s rec.owner)) in
    ap (λ r. with_rec (with_realm s rec.owner (realm_updated u r)) address (rec_updated v rec)) (sym (realm_at-held s rec.owner realm held.has_realm))
    ∙ ap (λ r. with_rec t address (rec_updated v r)) (sym (rec_at-held t address rec held.has_rec))

-- an answer that is the definitions' is a step from any state that holds the records
pub step_taken : (s : State) (cpu address : ℕ) (command : Command) (realm : RealmRecord) (rec : RecRecord) (step : RecStep)
    → IsHeld s address realm rec → answer_at rec.owner address (Ok step) ≡ outcome s cpu (call_of command)
    → Step s cpu command (reply.Ok step.words)
    (with_rec (with_realm s rec.owner (realm_after step.realm realm)) address (rec_after step.rec rec))
step_taken s cpu address command realm rec step held is =
    let new = with_rec (with_realm s rec.owner (realm_after step.realm realm)) address (rec_after step.rec rec) in
    subst (λ answer. CarriesOut answer s (reply.Ok step.words) new) is (refl, changed-step s address realm rec step.realm step.rec held)

-- a refusal that is the definitions' leaves the records as they are
pub step_refused : (s : State) (cpu address : ℕ) (command : Command) (realm : RealmRecord) (rec : RecRecord) (refusal : Refusal)
    → IsHeld s address realm rec → Err refusal ≡ outcome s cpu (call_of command)
    → Step s cpu command (reply_of refusal) (with_rec (with_realm s rec.owner realm) address rec)
unfolding changed
step_refused s cpu address command realm rec refusal held is =
    subst (λ answer. CarriesOut answer s (reply_of refusal) (with_rec (with_realm s rec.owner realm) address rec)) is
    (refl, changed-step s address realm rec None None held)

-- an exit changes the REC alone
pub exit_taken : (s : State) (cpu address : ℕ) (command : Command) (rec : RecRecord) (words : ArrayVec ℕ)
    → s.rec address ≡ Some rec → Ok (Done words (rec_change address Exited)) ≡ outcome s cpu (call_of command)
    → Step s cpu command (reply.Ok words) (with_rec s address (rec_updated Exited rec))
unfolding changed
exit_taken s cpu address command rec words held is =
    subst (λ answer. CarriesOut answer s (reply.Ok words) (with_rec s address (rec_updated Exited rec))) is
    (refl, ap (λ r. with_rec s address (rec_updated Exited r)) (sym (rec_at-held s address rec held)))

-- ---- what the definitions answer

-- a test that has come out
when_true : {A : Type 0} (b : Bool) (x y : A) → b ≡ true → x ≡ (if b then x else y)
when_true b x y is = rw is refl

when_false : {A : Type 0} (b : Bool) (x y : A) → b ≡ false → y ≡ (if b then x else y)
when_false b x y is = rw is refl

-- the rows of an Enter over the two records are those that a state with these records has
pub rec_enter-IsHeld : (s : State) (cpu address : ℕ) (realm : RealmRecord) (rec : RecRecord) → IsHeld s address realm rec
    → IsTrue (has_tag s address tag.Rec) → enter_rows realm rec cpu address ≡ rec_enter s cpu address
unfolding rec_enter words_of named
rec_enter-IsHeld s cpu address realm rec held tagged =
    let here = rec_at-held s address rec held.has_rec in
    ap (λ r. enter_rows r rec cpu address) (sym (realm_at-IsHeld s address realm rec held))
    ∙ ap (λ (r : RecRecord). enter_rows (realm_at s (rec_at s address).owner) r cpu address) (sym here)
    ∙ when_true (has_tag s address tag.Rec)
    (enter_rows (realm_at s (rec_at s address).owner) (rec_at s address) cpu address) (Err (of.Input GranState)) tagged

-- a host enters a REC from outside
pub outcome-enter : (s : State) (cpu address : ℕ) (c : Call) → c ≡ call.RecEnter address → is_inside s cpu ≡ false
    → rec_enter s cpu address ≡ outcome s cpu c
unfolding outcome answer_of class_of
outcome-enter s cpu address c is outside = rw (is, outside) refl

-- what only a realm is answered
abbrev realms_alone : Class → Result Accepted Refusal → Result Accepted Refusal
realms_alone ByRealm answer = answer
realms_alone _ answer = Err (of.Misplaced OwnOutside)

answer_to_realm-class : (s : State) (rec : ℕ) (c : Call) → realms_alone (class_of c) (answer_to_realm s rec c) ≡ answer_to_realm s rec c
unfolding class_of answer_to_realm
answer_to_realm-class s rec (call.GranuleDelegate granule) = refl
answer_to_realm-class s rec _ = refl

-- only Exit is given while an exit is pending
exit_class : (c : Call) → class_of c ≡ ByExit → c ≡ call.Exit
unfolding class_of
exit_class call.Exit class = refl
exit_class _ class = absurd cc

-- a REC with no exit pending is answered by its rows, and gives no host's command
pub outcome-row : (s : State) (cpu : ℕ) (c : Call) (rec : RecRecord) → IsTrue (is_inside s cpu)
    → s.rec (rec_inside s cpu) ≡ Some rec → is_none rec.pending ≡ true
    → (c ≡ call.Exit → ⊥) → answer_to_realm s (rec_inside s cpu) c ≡ outcome s cpu c
unfolding outcome answer_of
outcome-row s cpu c rec inside held free other = sym (answer_to_realm-class s (rec_inside s cpu) c) ∙ by (class_of c) refl
  where
    placed : is_placed s cpu ByRealm ≡ true
    placed = and_from (is_inside s cpu) _ inside (ap (λ (r : RecRecord). is_none r.pending) (rec_at-held s (rec_inside s cpu) rec held) ∙ free)

    by : (k : Class) → class_of c ≡ k
        → realms_alone k (answer_to_realm s (rec_inside s cpu) c)
        ≡ (if is_placed s cpu k then answer_by k s cpu c else Err (of.Misplaced (misplacement (is_inside s cpu) k)))
    by ByRealm is = when_true (is_placed s cpu ByRealm) _ _ placed
    by ByHost is = when_false (is_placed s cpu ByHost) _ _ (ap not inside)
    by ByExit is = absurd (other (exit_class c is))

pending_misplaced : (s : State) (cpu : ℕ) (rec : RecRecord) (class : Class) → IsTrue (is_inside s cpu) → s.rec (rec_inside s cpu) ≡ Some rec
    → is_none rec.pending ≡ false → (class ≡ ByExit → ⊥) → is_placed s cpu class ≡ false
pending_misplaced s cpu rec ByHost inside held waits other = ap not inside
pending_misplaced s cpu rec ByRealm inside held waits other =
    and_right (is_inside s cpu) _ (ap (λ (r : RecRecord). is_none r.pending) (rec_at-held s (rec_inside s cpu) rec held) ∙ waits)
pending_misplaced s cpu rec ByExit inside held waits other = absurd (other refl)

-- a REC with an exit pending gives no call, and never a host's command
pub outcome-pending : (s : State) (cpu : ℕ) (c : Call) (rec : RecRecord) → IsTrue (is_inside s cpu) → s.rec (rec_inside s cpu) ≡ Some rec
    → is_none rec.pending ≡ false → (c ≡ call.Exit → ⊥) → Err (of.Misplaced (misplacement true (class_of c))) ≡ outcome s cpu c
unfolding outcome
outcome-pending s cpu c rec inside held waits other =
    ap (λ b. Err (of.Misplaced (misplacement b (class_of c)))) (sym inside)
    ∙ when_false (is_placed s cpu (class_of c)) (answer_of s cpu c) (Err (of.Misplaced (misplacement (is_inside s cpu) (class_of c))))
    (pending_misplaced s cpu rec (class_of c) inside held waits (λ class. other (exit_class c class)))

-- a REC leaves, and its host is told why
pub answered_exit : (s : State) (cpu : ℕ) (c : Call) (rec : RecRecord) (words : ArrayVec ℕ) → c ≡ call.Exit → IsTrue (is_inside s cpu)
    → s.rec (rec_inside s cpu) ≡ Some rec → words.items ≡ exit_words (request_of rec) rec.pending
    → Ok (Done words (rec_change (rec_inside s cpu) Exited)) ≡ outcome s cpu c
unfolding outcome answer_of class_of rec_exit words_of named
answered_exit s cpu c rec words is inside held told =
    let address = rec_inside s cpu in
    ap (λ items. Ok (done items (rec_change address Exited))) told
    ∙ ap (λ (r : RecRecord). Ok (done (exit_words (request_of r) r.pending) (rec_change address Exited))) (sym (rec_at-held s address rec held))
    ∙ when_true (is_inside s cpu) (rec_exit s address) (Err (of.Misplaced OwnInside)) inside
    ∙ ap (outcome s cpu) (sym is)
