use Rattle.std.proofs.Common.{arith, refl}
use Rattle.rmi_codec.proofs.FunctionLaws.{function_read, function_alone}
use Rattle.rmi_codec.proofs.function.function_prefix.Goals as goal

pub returns-then-line-lt8-clause-none : goal.returns-then-line-lt8-clause-none
returns-then-line-lt8-clause-none c = λ f rest e.
    let short = c.if-line-lt8.true in
    let long = (function_alone c.args.line.now f rest e).0 in
    omega arith

pub returns-then-not-is_end-clause-none : goal.returns-then-not-is_end-clause-none
returns-then-not-is_end-clause-none c = λ f rest e.
    c.if-not-is_end.ensures.goes_on refl ((function_alone c.args.line.now f rest e).1.0 (c.if-not-is_end.ensures.inside refl))

pub returns-in_err-function-clause-none : goal.returns-in_err-function-clause-none
returns-in_err-function-clause-none c =
    rw c.from_residual.ensures (λ f rest e. c.in_err-function.ensures.none f (function_alone c.args.line.now f rest e).1.1)

pub returns-clause-found : goal.returns-clause-found
returns-clause-found c =
    function_read c.args.line.now c.in_ok-function.function (let short = c.if-line-lt8.false in omega arith)
    (c.if-not-is_end.ensures.ended refl) c.in_ok-function.ensures.found
