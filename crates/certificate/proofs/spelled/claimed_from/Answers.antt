use Rattle.std.proofs.Common.{rules, sym, ◌∙◌}
use Rattle.rmm_spec.specs.declared.line.Line.TheVariants.{Unfinished}
use Rattle.lemmas.proofs.ResultLaws.{IsOkAnd-not_Ok}
use Rattle.rmi_view.specs.Seen.{reply_seen}
use Rattle.certificate.proofs.SpellingLemmas.{IsNoLine-head, IsNoUnfinished-letter, IsNoLine-unfinished, IsLineOf-unfinished}
use Rattle.certificate.proofs.spelled.claimed_from.Goals as goal

pub returns-in_default-clause-none : goal.returns-in_default-clause-none
returns-in_default-clause-none c =
    λ cpu number reply. IsNoLine-head _ (rw c.of-parts.ensures at c.in_default.ensures.none) (Unfinished cpu number reply)

pub returns-in_default-letter-clause-none : goal.returns-in_default-letter-clause-none
returns-in_default-letter-clause-none c =
    IsNoUnfinished-letter _ _ _ _ c.head_from.new.parts (sym c.of-parts.ensures ∙ c.in-Some.ensures.found) (search rules)

pub returns-in_default-reply_from-clause-none : goal.returns-in_default-reply_from-clause-none
returns-in_default-reply_from-clause-none c =
    let cut = rw c.in-117.is at (sym c.of-parts.ensures ∙ c.in-Some.ensures.found) in
    λ cpu number given.
    IsNoLine-unfinished _ _ _ c.head_from.new.parts cut
    (λ reply is_reply is_text. IsOkAnd-not_Ok c.reply_from.result _ (c.reply_from.ensures.only reply is_reply is_text) c.in_default-reply_from.not-Ok)
    (Unfinished cpu number given)

pub returns-in-Ok-clause-found : goal.returns-in-Ok-clause-found
returns-in-Ok-clause-found c =
    let cut = rw c.in-117.is at (sym c.of-parts.ensures ∙ c.in-Some.ensures.found) in
    rw c.to_reply.ensures
    (IsLineOf-unfinished _ _ _ c.head_from.new.parts
    (reply_seen c.in-Ok.reply) cut c.in-Ok.ensures.found.1 c.in-Some.ensures.cpu c.in-Some.ensures.number
    c.in-Ok.ensures.found.0)
