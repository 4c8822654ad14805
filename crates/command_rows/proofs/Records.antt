-- What is answered by the records of a REC and of its realm, as they are looked up.
use Rattle.std.proofs.Common.{◌≡◌, ℕ, true, false, Some, refl, sym, ap, ◌∙◌}
use Rattle.std.specs.Prelude.{Result, Ok, Err, is_none}
use Rattle.rmm_spec.specs.declared.accepted.Accepted.{Accepted}
use Rattle.rmm_spec.specs.declared.call.Call.{Call}
use Rattle.rmm_spec.specs.declared.call.Call.TheVariants.{RecEnter}
use Rattle.rmm_spec.specs.declared.change.RecUpdate.TheVariants.{Exited}
use Rattle.rmm_spec.specs.declared.condition.Condition.TheVariants.{OwnPending}
use Rattle.rmm_spec.specs.declared.refusal.Refusal.{Refusal}
use Rattle.rmm_spec.specs.declared.refusal.Refusal.TheVariants.{Misplaced}
use Rattle.rmm_spec.specs.declared.tag.Tag.TheVariants.{Rd, Rec}
use Rattle.rmm_spec.specs.Lookup.{has_tag, rec_at, request_of}
use Rattle.rmm_spec.specs.Rows.{done}
use Rattle.rmm_spec.specs.State.{State, RecRecord}
use Rattle.rmm_spec.specs.Step.Terms.{named, words_of}
use Rattle.rmm_spec.specs.Step.RealmCall.{answer_to_realm, exit_words, rec_change, rec_exit}
use Rattle.rec_steps.proofs.Steps.{rec_at-held}
use Rattle.command_rows.specs.Answers.{IsOwned, realm_answer}

-- a REC leaves with the words of its record
pub exit-row : (s : State) (address : ℕ) (rec : RecRecord) → rec ≡ rec_at s address
    → Ok (done (exit_words (request_of rec) rec.pending) (rec_change address Exited)) ≡ rec_exit s address
unfolding rec_exit words_of named
exit-row s address rec is =
    ap (λ (r : RecRecord). let answer : Result Accepted Refusal =
    Ok (done (exit_words (request_of r) r.pending) (rec_change address Exited)) in answer) is

-- the REC that is entered has a realm at its owner's address
pub entered_realm : (s : State) (address rd : ℕ) (rec : RecRecord) → Some rec ≡ s.rec address → true ≡ has_tag s address Rec → rd ≡ rec.owner
    → IsOwned s (RecEnter address) → has_tag s rd Rd ≡ true
entered_realm s address rd rec there tagged is owned =
    ap (λ a. has_tag s a Rd) (is ∙ ap (λ (r : RecRecord). r.owner) (sym (rec_at-held s address rec (sym there)))) ∙ owned (sym tagged)

-- a REC that waits to leave gives no call
pub called-waits : (s : State) (address : ℕ) (call : Call) (rec : RecRecord) → rec ≡ rec_at s address → is_none rec.pending ≡ false
    → Err (Misplaced OwnPending) ≡ realm_answer s address call
called-waits s address call rec is waits = rw (sym (ap (λ (r : RecRecord). is_none r.pending) is) ∙ waits) refl

-- another's call has its rows
pub called-row : (s : State) (address : ℕ) (call : Call) (rec : RecRecord) → rec ≡ rec_at s address → is_none rec.pending ≡ true
    → answer_to_realm s address call ≡ realm_answer s address call
called-row s address call rec is free = rw (sym (ap (λ (r : RecRecord). is_none r.pending) is) ∙ free) refl
