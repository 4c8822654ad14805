use Rattle.std.proofs.Common.{◌∷◌, ◌++◌, [], refl, sym, subst}
use Rattle.merging.specs.Faults.{IsTableOf}
use Rattle.merging.proofs.GrammarLaws.{bad_header}
use Rattle.merging.proofs.TableLaws.{IsTableOf-begun}
use Rattle.merging.proofs.reader.begin.Goals as goal

pub returns-in_default-clause-fault : goal.returns-in_default-clause-fault
returns-in_default-clause-fault c = λ more. bad_header (c.args.bytes.now ++ 10 ∷ more) c.args.bytes.now more refl c.requires c.in_default.ensures.none

pub returns-clause-read : goal.returns-clause-read
returns-clause-read c =
    subst (IsTableOf (c.args.bytes.now ++ 10 ∷ [])) (sym c.new.ensures) (IsTableOf-begun _ _ c.args.bytes.now c.in-Some.ensures.found)
