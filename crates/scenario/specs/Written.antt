-- The table of a scenario's document: all seven keys, in the order of their bytes.
use Rattle.std.specs.Prelude.{pos, ℕ, List, map, codes}
use Rattle.std.specs.Ordering.{nat_cmp, match_ordering}
use Rattle.std.specs.Cmp.Lexicographic.{slice_cmp}
use Rattle.toml.specs.Data.{Data, string, integer, array, Members, no_members, member}
use Rattle.toml.specs.View.{items_of}
use Rattle.rmm_spec.specs.declared.command.Command.{Command}
use Rattle.rmm_spec.specs.declared.turn.Due.{Due}
use Rattle.rmm_spec.specs.CommandText.{command_text}
use Rattle.rmm_spec.specs.Scenario.{Scenario, turn_text, version_number}

-- an array of texts
abbrev pub texts_data : List (List ℕ) → Data
texts_data texts = array (items_of (map string texts))

abbrev pub program_data : List Command → Data
program_data program = texts_data (map command_text program)

abbrev pub programs_data : List (List Command) → Data
programs_data programs = array (items_of (map program_data programs))

abbrev pub turns_data : List Due → Data
turns_data turns = texts_data (map turn_text turns)

-- the members with this value at the key
abbrev pub with_member : List ℕ → Data → Members → Members
with_member key value no_members = member key value no_members
with_member key value (member k v rest) =
    match_ordering (slice_cmp nat_cmp key k) (member key value (member k v rest)) (member k value rest) (member k v (with_member key value rest))

abbrev pub scenario_members : Scenario → Members
scenario_members scenario =
    member (codes "cpus") (integer (pos scenario.config.cpus))
    (member (codes "granules") (integer (pos scenario.config.granules))
    (member (codes "limit") (integer (pos scenario.limit))
    (member (codes "programs") (programs_data scenario.programs)
    (member (codes "queue") (integer (pos scenario.queue))
    (member (codes "turns") (turns_data scenario.turns)
    (member (codes "version") (integer (pos (version_number scenario.config.version))) no_members))))))
