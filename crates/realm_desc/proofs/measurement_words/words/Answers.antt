use Rattle.std.proofs.Common.{ap, ◌∙◌}
use Rattle.rmm_spec.specs.Measure.{measurement_words, words_bytes}
use Rattle.realm_desc.proofs.WordBytes.{first_words_from_read, words_bytes-first_words}
use Rattle.realm_desc.proofs.measurement_words.words.Goals as goal

pub returns-clause-value : goal.returns-clause-value
unfolding measurement_words
returns-clause-value c =
    first_words_from_read 4 c.read_u64_into.new.dst c.args.measurement.now c.read_u64_into.auto.dst c.read_u64_into.ensures

pub returns-clause-back : goal.returns-clause-back
returns-clause-back c =
    let read = first_words_from_read 4 c.read_u64_into.new.dst c.args.measurement.now c.read_u64_into.auto.dst c.read_u64_into.ensures in
    ap words_bytes read ∙ words_bytes-first_words 4 c.args.measurement.now c.told-measurement c.fits-measurement
