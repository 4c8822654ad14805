use Rattle.std.proofs.Common.{ap, ◌∙◌}
use Rattle.std.specs.Prelude.{[]}
use Rattle.rmm_spec.specs.Call.{class_of}
use Rattle.command_words.proofs.Classes.{class_of-words}
use Rattle.command_words.proofs.terms.caller_for.Goals as goal

pub returns : goal.returns
returns c = λ words. c.caller_of.ensures ∙ ap class_of c.of.ensures ∙ class_of-words c.args.function [] words
