-- A word that stands for no hash is past the last.
use Rattle.explain.proofs.Common.{refl, state_of}
use Rattle.explain.proofs.Words.{past-last_hash}
use Rattle.explain.proofs.fact.hash_fact.Goals as goal

pub returns : goal.returns
returns c =
    let past = past-last_hash (state_of c.args.machine.now).config.version c.args.algo c.requires in
    rw (c.last_hash.ensures, c.version.ensures) (refl, refl, refl, past)
