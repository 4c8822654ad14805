use Rattle.std.proofs.Common.{◌≡◌, ℕ, List, Ok, ap, ◌∙◌, sym}
use Rattle.rmm_spec.specs.declared.command.Command.{Command}
use Rattle.rmm_spec.specs.Text.{parts_of}
use Rattle.rmm_spec.specs.CommandText.{command_parts, command_text}
use Rattle.spec_lemmas.proofs.Texts.{parts_of-line_text, command_parts-some, command_parts-are_parts}
use Rattle.rmi_codec.proofs.PartLaws.{line_text-from_parts}
use Rattle.rmi_codec.proofs.command.read_command.Goals as goal

-- the parts of a command's text are its own
parts_are : (text bytes : List ℕ) (parts : List (List ℕ)) (d : Command)
    → parts ≡ parts_of bytes → bytes ≡ text → text ≡ command_text d → parts ≡ command_parts d
parts_are text bytes parts d cut same e =
    cut ∙ ap (λ line. parts_of line) (same ∙ e) ∙ parts_of-line_text (command_parts d) (command_parts-some d) (command_parts-are_parts d)

pub returns-in-Ok-clause-found : goal.returns-in-Ok-clause-found
returns-in-Ok-clause-found c =
    let found = c.in-Ok.ensures.found in
    rw c.to_command.ensures
    (found.0, line_text-from_parts _ _ (ap (λ text. parts_of text) (sym c.as_bytes.ensures.value) ∙ sym c.of.ensures ∙ found.1))

pub returns-in-Ok-clause-only : goal.returns-in-Ok-clause-only
returns-in-Ok-clause-only c =
    λ d is e. ap Ok (c.to_command.ensures ∙ c.in-Ok.ensures.only d is (parts_are _ _ _ d c.of.ensures c.as_bytes.ensures.value e))

pub returns-in-Err-clause-only : goal.returns-in-Err-clause-only
returns-in-Err-clause-only c = λ d is e. absurd (c.in-Err.ensures.only d is (parts_are _ _ _ d c.of.ensures c.as_bytes.ensures.value e))
