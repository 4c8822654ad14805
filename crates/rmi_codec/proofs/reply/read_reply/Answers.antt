use Rattle.std.proofs.Common.{◌≡◌, ℕ, List, Ok, ap, ◌∙◌, sym}
use Rattle.rmm_spec.specs.declared.reply.Reply.{Reply}
use Rattle.rmm_spec.specs.Text.{parts_of}
use Rattle.rmm_spec.specs.CommandText.{reply_parts, reply_text}
use Rattle.spec_lemmas.proofs.Texts.{parts_of-line_text, reply_parts-some, reply_parts-are_parts}
use Rattle.rmi_codec.proofs.PartLaws.{line_text-from_parts}
use Rattle.rmi_codec.proofs.reply.read_reply.Goals as goal

-- the parts of a reply's text are its own
parts_are : (text bytes : List ℕ) (parts : List (List ℕ)) (d : Reply)
    → parts ≡ parts_of bytes → bytes ≡ text → text ≡ reply_text d → parts ≡ reply_parts d
parts_are text bytes parts d cut same e =
    cut ∙ ap (λ line. parts_of line) (same ∙ e) ∙ parts_of-line_text (reply_parts d) (reply_parts-some d) (reply_parts-are_parts d)

pub returns-in-Ok-clause-found : goal.returns-in-Ok-clause-found
returns-in-Ok-clause-found c =
    let found = c.in-Ok.ensures.found in
    rw c.to_reply.ensures (found.0, line_text-from_parts _ _ (ap (λ text. parts_of text) (sym c.as_bytes.ensures.value) ∙ sym c.of.ensures ∙ found.1))

pub returns-in-Ok-clause-only : goal.returns-in-Ok-clause-only
returns-in-Ok-clause-only c =
    λ d is e. ap Ok (c.to_reply.ensures ∙ c.in-Ok.ensures.only d is (parts_are _ _ _ d c.of.ensures c.as_bytes.ensures.value e))

pub returns-in-Err-clause-only : goal.returns-in-Err-clause-only
returns-in-Err-clause-only c = λ d is e. absurd (c.in-Err.ensures.only d is (parts_are _ _ _ d c.of.ensures c.as_bytes.ensures.value e))
