use Rattle.std.proofs.Common.{◌++◌, replicate, refl}
use Rattle.rtt_table.proofs.Joined.{joined_is, columns_held, columns-written}
use Rattle.rtt_table.proofs.columns.Columns.halves.Goals as goal

pub invariant_of-result : goal.invariant_of-result
invariant_of-result c =
    columns_held (replicate 256 c.args.lower ++ replicate 256 c.args.upper) _ _ refl
    (columns-written c.args.lower c.args.upper c.kind_of.result c.kind_of-2.result _ _ _ _
    c.kind_of.ensures c.kind_of-2.ensures refl refl c.halves-kinds.ensures c.requires)

pub returns : goal.returns
returns c =
    joined_is (replicate 256 c.args.lower ++ replicate 256 c.args.upper) _ _
    (columns-written c.args.lower c.args.upper c.kind_of.result c.kind_of-2.result _ _ _ _
    c.kind_of.ensures c.kind_of-2.ensures refl refl c.halves-kinds.ensures c.requires)
