-- What is found of calls on the tables of different realms, and on different granules.
use Rattle.std.proofs.Common.{◌≡◌, ◌==◌, ℕ, Bool, true, false, List, [], ◌∷◌, ◌||◌, ap, sym, ◌∙◌, subst, eqb-true, inl, inr}
use Rattle.std.specs.List.{list_any}
use Rattle.std.proofs.lemmas.Bool.{or_cases, or_parts}
use Rattle.std.proofs.Common.{Some}
use Rattle.rmm_spec.specs.declared.call.Call.{Call}
use Rattle.rmm_spec.specs.declared.reply.Reply.{Reply}
use Rattle.rmm_spec.specs.Locks.{is_named}
use Rattle.rmm_spec.specs.Rows.{Needed}
use Rattle.rmm_spec.specs.Step.Terms.{named}
use Rattle.rmi_view.specs.Seen.{reply_seen}
use Rattle.verdict_laws.specs.Making.{AreMadeApart, is_making, own_realm, taken_vmid}
use Rattle.verdict_laws.specs.Separate.{is_local, works_on}
use Rattle.finding.specs.MayPass.{AreRelated}
use Rattle.finding.specs.Next.{IsReplyOf, IsWorkOf}
use Rattle.finding.specs.declared.next_call.NextCall.{NextCall}
use Rattle.finding.specs.declared.separate.Work.{Work}

-- what passes for none of the granules that are named doesn't for one that is
pub unnamed-elsewhere : (p : ℕ → Bool) (names : List Needed) (g : ℕ) → list_any (λ (n : Needed). p n.granule) names ≡ false
    → is_named names g ≡ true → p g ≡ false
unnamed-elsewhere p [] g none named = absurd (let bad : false ≡ true = named in cc)
unnamed-elsewhere p (n ∷ names) g none named =
    let parts = or_parts (p n.granule) (list_any (λ (m : Needed). p m.granule) names) none in
    elim (or_cases (n.granule == g) (is_named names g) named) [
      | inl here ↦ subst (λ (x : ℕ). p x ≡ false) (eqb-true n.granule g here) parts.0
      | inr there ↦ unnamed-elsewhere p names g parts.1 there
    ]

-- what a call works on is what its work does, whatever it is replied
pub works_on-known : (next : NextCall) (work : Work) → IsWorkOf next work → (given : Reply) (g : ℕ) → IsReplyOf next given
    → works_on next.call given g ≡ works_on work.call (reply_seen work.reply) g
works_on-known next work is given g replied =
    ap (λ (b : Bool). is_named (named next.call) g || b) (is.frees given g replied)
    ∙ ap (λ (c : Call). works_on c (reply_seen work.reply) g) (sym is.is_call)

-- two works of which this is found are of calls that are apart
pub AreRelated-made_apart : (one two : NextCall) (first second : Work) → IsWorkOf one first → IsWorkOf two second
    → (is_making one.call || is_local one.call) ≡ true → (is_making two.call || is_local two.call) ≡ true
    → ((rd other : ℕ) → own_realm one.call ≡ Some rd → own_realm two.call ≡ Some other → ¬ (rd ≡ other))
    → ((vmid other : ℕ) → taken_vmid one.call ≡ Some vmid → taken_vmid two.call ≡ Some other → ¬ (vmid ≡ other))
    → ((g : ℕ) → works_on first.call (reply_seen first.reply) g ≡ true → works_on second.call (reply_seen second.reply) g ≡ false)
    → AreRelated AreMadeApart one two
AreRelated-made_apart one two first second here there is is_too realms vmids granules = λ given answered replied replied_too. record {
  first = is;
  second = is_too;
  realms = realms;
  vmids = vmids;
  granules = λ g works.
      works_on-known two second there answered g replied_too
      ∙ granules g (sym (works_on-known one first here given g replied) ∙ works);
}
