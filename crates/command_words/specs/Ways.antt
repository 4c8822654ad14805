-- A walk as the definitions see it.
use Rattle.rmm_spec.specs.Step.Terms.{Way}
use Rattle.command_words.specs.declared.terms.Way as own

abbrev pub way_seen : own.Way → Way
way_seen w = record { rd = w.rd; ipa = w.ipa; max = w.max }
