-- The rows that every command begins with: its words by themselves, then the granules that it names.
use Rattle.std.specs.Prelude.{List}
use Rattle.rmm_spec.specs.declared.call.Call.{Call}
use Rattle.rmm_spec.specs.State.{State}
use Rattle.rmm_spec.specs.Rows.{Row, inputs, tagged}
use Rattle.rmm_spec.specs.Step.Terms.{words_of, named}

-- the rows over records, tables and requests come behind
abbrev pub with_front : State → Call → List Row → List Row
with_front s call rows = inputs (words_of call) (tagged s (named call) rows)
