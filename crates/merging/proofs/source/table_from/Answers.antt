use Rattle.std.proofs.Common.{[]}
use Rattle.merging.proofs.source.table_from.Goals as goal

pub returns-in-Ok-table_of-clause-table : goal.returns-in-Ok-table_of-clause-table
returns-in-Ok-table_of-clause-table g c =
    let read = c.in-Ok.ensures.read in
    (read.0, (record { given = read.1.0; whole = read.1.1.0 }, c.in-Ok-table_of.ensures.table read.0 (read.1.1.1 [] c.new.ensures)))

pub returns-in-Ok-clause-fault : goal.returns-in-Ok-clause-fault
returns-in-Ok-clause-fault g c =
    let read = c.in-Ok.ensures.read in
    (read.0, (record { given = read.1.0; whole = read.1.1.0 }, c.in-Err.ensures.fault read.0 (read.1.1.1 [] c.new.ensures)))
