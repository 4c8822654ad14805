use Rattle.std.proofs.Common.{◌++◌, ◌∷◌, [], ◌∙◌, ap, take}
use Rattle.std.proofs.lemmas.List.{take_more}
use Rattle.rmi_codec.specs.Head.{head_text}
use Rattle.rmm_spec.specs.CertificateText.{line_parts}
use Rattle.certificate.proofs.spelled.kept_front.Goals as goal

pub returns-clause-found : goal.returns-clause-found
unfolding head_text line_parts
returns-clause-found c =
    let cpu = c.in_ok-cpu.cpu in
    let number = c.in_ok-cpu.number in
    let end = c.in_ok-cpu.end in
    take_more c.args.text.now end 0 c.in_ok-cpu.ensures.inside ∙ ap (λ byte. take end c.args.text.now ++ byte ∷ []) c.if-text-end-ne10.false
    ∙ ap (λ front. front ++ 10 ∷ []) (c.in_ok-cpu.ensures.found ∙ ap (λ letter. head_text letter cpu number) c.if-text-ne107.false)
