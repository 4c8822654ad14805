use Rattle.command_core.proofs.NoWholes.{unshaped-none, unshaped-settled}
use Rattle.command_core.proofs.laws.unshaped_cells_have_no_whole.Goals as goal

pub returns-clause-none : goal.returns-clause-none
returns-clause-none c = λ config cpu call hold cells places unshaped shaped agrees placed.
    unshaped-none config cpu hold call unshaped (record { cells = cells; places = places; shaped = shaped; agrees = agrees; placed = placed })

pub returns-clause-settled : goal.returns-clause-settled
returns-clause-settled c = unshaped-settled
