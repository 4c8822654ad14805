use Rattle.std.proofs.Common.{◌≡◌, ap, sym, ◌∙◌}
use Rattle.std.proofs.lemmas.Bool.{false≢true}
use Rattle.rec_steps.specs.Answers.{answer_at}
use Rattle.rec_steps.specs.Held.{IsHeld}
use Rattle.command_rows.proofs.Records.{entered_realm}
use Rattle.command_rows.proofs.rec.rec_enter.Goals as goal

pub unreachable-requires : goal.unreachable-requires
unreachable-requires g c =
    let s = g.S.Sight.state c.args.sight.now in
    let is_owner : c.owner-rd.result ≡ c.in-Some.rec.owner = c.owner-rd.ensures in
    false≢true (c.in_default-realm.ensures.tagged
    ∙ entered_realm s c.args.address c.owner-rd.result c.in-Some.rec c.in-Some.ensures.there c.in-Some.ensures.tagged is_owner c.requires)

pub returns : goal.returns
returns g c =
    let s = g.S.Sight.state c.args.sight.now in
    let a = c.args in
    let is_owner : c.owner-rd.result ≡ c.in-Some.rec.owner = c.owner-rd.ensures in
    let held : IsHeld s a.address c.in-Some-realm.realm c.in-Some.rec = record {
      has_rec = sym c.in-Some.ensures.there;
      has_realm = ap s.realm (sym is_owner) ∙ sym c.in-Some-realm.ensures.there;
    } in
    c.accepted_at.ensures ∙ ap (λ rd. answer_at rd a.address c.answer_to_enter-answer.result) is_owner
    ∙ c.answer_to_enter-answer.ensures.answer s a.address held (sym c.in-Some.ensures.tagged)
