use Rattle.std.proofs.Common.{◌∷◌, ap, sym, ◌∙◌, codes}
use Rattle.rmm_spec.specs.declared.reply.Reply.TheVariants as reply
use Rattle.rmm_spec.specs.CommandText.{reply_parts}
use Rattle.spec_lemmas.proofs.Texts.{map-word-injective}
use Rattle.std.proofs.lemmas.Result.{err_from_is_err_and}
use Rattle.rmi_codec.proofs.FaultLaws.{IsReplyFault-from_words}
use Rattle.rmi_codec.proofs.PartLaws.{reply_parts-ok}
use Rattle.rmi_codec.proofs.reply.ok_from.Goals as goal

pub returns-in_err-words-clause-only : goal.returns-in_err-words-clause-only
returns-in_err-words-clause-only c = λ r is e.
    let given = reply_parts-ok r c.args.parts is e in
    let bad = c.in_err-words.ensures.only given.0.items given.4 given.3 given.2 in
    cc

pub returns-clause-found : goal.returns-clause-found
unfolding reply_parts
returns-clause-found c = ((c.in_ok-words.ensures.count, c.in_ok-words.ensures.words), ap (λ ps. codes "ok" ∷ ps) c.in_ok-words.ensures.found)

pub returns-clause-only : goal.returns-clause-only
returns-clause-only c = λ r is e.
    let given = reply_parts-ok r c.args.parts is e in
    let items = map-word-injective _ _ (sym c.in_ok-words.ensures.found ∙ given.2) in
    (λ i. reply.Ok (record { items = items i })) ∙ sym given.1

pub returns-in_err-words-clause-fault : goal.returns-in_err-words-clause-fault
returns-in_err-words-clause-fault c =
    let p = err_from_is_err_and c.from_residual.result c.from_residual.ensures.1 in
    rw (p.1, p.2) (IsReplyFault-from_words c.args.parts _ c.in_err-words.ensures.fault)
