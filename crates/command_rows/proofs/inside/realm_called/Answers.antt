use Rattle.std.proofs.Common.{◌≡◌, IfSome, ap, subst, sym, ◌∙◌}
use Rattle.std.proofs.lemmas.Bool.{false≢true}
use Rattle.rmm_spec.specs.declared.tag.Tag.TheVariants.{Rd}
use Rattle.rmm_spec.specs.Lookup.{has_tag, realm_at, rec_at}
use Rattle.rmm_spec.specs.State.{RecRecord}
use Rattle.rec_steps.specs.Answers.{IsRipasRead, answer_at}
use Rattle.rec_steps.proofs.Steps.{realm_at-held}
use Rattle.command_rows.proofs.Records.{called-row, called-waits}
use Rattle.command_rows.proofs.inside.realm_called.Goals as goal

pub returns-then-not-can_call : goal.returns-then-not-can_call
returns-then-not-can_call g c =
    called-waits (g.S.Sight.state c.args.sight.now) c.args.address c.args.call.now c.rec_at-rec.result c.rec_at-rec.ensures
    (sym c.can_call.ensures ∙ c.if-not-can_call.true)

pub unreachable-requires : goal.unreachable-requires
unreachable-requires g c =
    let s = g.S.Sight.state c.args.sight.now in
    let is_owner : c.owner-rd.result ≡ (rec_at s c.args.address).owner = c.owner-rd.ensures ∙ ap (λ (r : RecRecord). r.owner) c.rec_at-rec.ensures in
    false≢true (c.in_default.ensures.tagged ∙ ap (λ rd. has_tag s rd Rd) is_owner ∙ c.requires.realm)

pub answer_to_call-requires : goal.answer_to_call-requires
answer_to_call-requires g c = c.ripas_read-ripas.ensures.some c.in-Some.realm

pub returns : goal.returns
returns g c =
    let s = g.S.Sight.state c.args.sight.now in
    let a = c.args in
    let rd = c.owner-rd.result in
    let is_owner : rd ≡ (rec_at s a.address).owner = c.owner-rd.ensures ∙ ap (λ (r : RecRecord). r.owner) c.rec_at-rec.ensures in
    let is_realm : realm_at s (rec_at s a.address).owner ≡ c.in-Some.realm =
    ap (realm_at s) (sym is_owner) ∙ realm_at-held s rd c.in-Some.realm (sym c.in-Some.ensures.there) in
    let read = subst (λ owner. IfSome c.ripas_read-ripas.result (IsRipasRead s owner a.call.now)) is_owner c.ripas_read-ripas.ensures.read in
    c.accepted_at.ensures ∙ ap (λ owner. answer_at owner a.address c.answer_to_call.result) is_owner
    ∙ c.answer_to_call.ensures.answer s a.address is_realm read
    ∙ called-row s a.address a.call.now c.rec_at-rec.result c.rec_at-rec.ensures (sym c.can_call.ensures ∙ c.if-not-can_call.false)
