use Rattle.std.proofs.Common.{arith, ◌∙◌, sym}
use Rattle.rmi_codec.proofs.FunctionLaws.{function_front, text_number-front}
use Rattle.rmi_codec.proofs.function.function_front.Goals as goal

pub returns-in_err-function-clause-none : goal.returns-in_err-function-clause-none
returns-in_err-function-clause-none c =
    rw c.from_residual.ensures (λ f front.
    c.in_err-function.ensures.none f (text_number-front c.args.text.now f c.requires front ∙ sym c.from_be_bytes.ensures))

pub returns-clause-found : goal.returns-clause-found
returns-clause-found c =
    function_front c.args.text.now c.in_ok-function.function c.from_be_bytes.result c.requires
    (λ i. omega (arith, c.type_inv.text i)) c.from_be_bytes.ensures
    c.in_ok-function.ensures.found
