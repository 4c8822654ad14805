use Rattle.std.proofs.Common.{string_bytes, sym, ◌∙◌, rules, tests}
use Rattle.std.specs.Map.{keys_of}
use Rattle.std.proofs.lemmas.Iterator.Consumers.{YieldsList-from_rest}
use Rattle.std.proofs.lemmas.Iterator.Search.{all_from_yields_List}
use Rattle.rmm_spec.specs.ScenarioKeys.{is_key}
use Rattle.scenario.proofs.KnownKeys.{known_keys-view}
use Rattle.scenario.proofs.keys.has_known_keys.Goals as goal

pub returns : goal.returns
returns c =
    let keys = keys_of c.args.table.now.entries in
    all_from_yields_List (λ key. is_key (string_bytes key)) _ _ c.all.result c.all.ensures.ran
    (YieldsList-from_rest keys c.keys.ensures.rest) (λ x b q k. search (rules, tests))
    ∙ sym (known_keys-view c.args.table.now.entries)
