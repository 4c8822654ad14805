use Rattle.world_laws.proofs.Refusals.{words-are_local, addresses-are_local, tags-are_local}
use Rattle.world_laws.proofs.local_laws.input_refusals_are_local.Goals as goal

pub returns-clause-words : goal.returns-clause-words
returns-clause-words c = words-are_local

pub returns-clause-addresses : goal.returns-clause-addresses
returns-clause-addresses c = addresses-are_local

pub returns-clause-tags : goal.returns-clause-tags
returns-clause-tags c = tags-are_local
