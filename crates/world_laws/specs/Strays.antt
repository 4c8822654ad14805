-- Two CPUs that each destroy a REC of one realm, and hold an auxiliary granule of the other's.
use Rattle.std.specs.Prelude.{ℕ, zero, suc, ◌*◌, List, [], ◌∷◌, ◌++◌, map, None}
use Rattle.rmm_spec.specs.declared.version.Version.TheVariants.{One}
use Rattle.rmm_spec.specs.declared.change.Change.{Change}
use Rattle.rmm_spec.specs.declared.change.Change.TheVariants.{Retagged, RealmMade, RecMade}
use Rattle.rmm_spec.specs.declared.command.Command.{Command}
use Rattle.rmm_spec.specs.declared.function_id.FunctionId.TheVariants as function
use Rattle.rmm_spec.specs.declared.tag.Tag.TheVariants as tag
use Rattle.rmm_spec.specs.HistoryText.{Config}
use Rattle.rmm_spec.specs.Rows.{ok}
use Rattle.rmm_spec.specs.Cell.{Undelegated}
use Rattle.rmm_spec.specs.Shape.{Outside}
use Rattle.rmm_spec.specs.Local.{Hold}
use Rattle.rmm_spec.specs.World.{Move}
use Rattle.rmm_spec.specs.World as move
use Rattle.world_laws.specs.Replaced.{held_at}
use Rattle.rmm_laws.specs.Whole.{Whole, whole_changed}
use Rattle.world_laws.specs.SmallWorlds.{command_of, delegate, served_by}

-- a command that is answered ok with no words, and what it changes
pub record Accepted : Type 0 where
  pub command : Command
  pub change : Change

abbrev pub granules_below : ℕ → List ℕ
granules_below zero = []
granules_below (suc n) = granules_below n ++ n * 4096 ∷ []

-- all granules of a whole, held by a CPU outside of RECs
abbrev pub hold_all : Config → Whole → Hold
hold_all config w =
    record { cells = map (λ granule. held_at granule (w.cells granule)) (granules_below config.granules); side = w.side; place = Outside }

-- CPU 0 calls each of the commands, takes all granules, commits and returns
abbrev pub all_accepted : Config → Whole → List Accepted → List Move
all_accepted config w [] = []
all_accepted config w (a ∷ others) =
    (move.Call 0 ∷ served_by 0 (granules_below config.granules) (ok []) (hold_all config (whole_changed config w a.change)))
    ++ all_accepted config (whole_changed config w a.change) others

abbrev pub untouched : Whole
untouched = record { cells = λ _. Undelegated; side = record { vmids = λ _. None; rec_counts = λ _. 0 }; places = λ _. Outside }

abbrev pub nine_granules : Config
nine_granules = record { granules = 9; cpus = 2; version = One }

abbrev pub lends : ℕ → Accepted
lends granule = record { command = delegate granule; change = Retagged (record { granule = granule; tag = tag.Delegated }) }

-- a REC of the realm at 0x1000 is made
abbrev pub makes_rec : ℕ → ℕ → ℕ → ℕ → Accepted
makes_rec rec index aux0 aux1 = record {
  command = command_of function.RecCreate (0x1000 ∷ rec ∷ index ∷ 1 ∷ aux0 ∷ aux1 ∷ []);
  change = RecMade 0x1000 rec index 1 aux0 aux1;
}

-- a realm is made, with a REC at 0x3000 and one at 0x6000, each followed by its two auxiliary granules
abbrev pub two_recs_made : List Accepted
two_recs_made =
    lends 0x1000 ∷ lends 0x2000 ∷ lends 0x3000 ∷ lends 0x4000 ∷ lends 0x5000 ∷ lends 0x6000 ∷ lends 0x7000 ∷ lends 0x8000
    ∷ record { command = command_of function.RealmCreate (0x1000 ∷ 0x2000 ∷ 39 ∷ 1 ∷ 1 ∷ 0 ∷ []); change = RealmMade 0x1000 0x2000 39 1 1 0 }
    ∷ makes_rec 0x3000 0 0x4000 0x5000 ∷ makes_rec 0x6000 1 0x7000 0x8000 ∷ []

abbrev pub destroys : ℕ → Command
destroys rec = command_of function.RecDestroy (rec ∷ [])

-- CPU 0 makes all that, and then each CPU destroys one of the RECs
abbrev pub each_destroys : ℕ → List Command
each_destroys zero = map (λ (a : Accepted). a.command) two_recs_made ++ destroys 0x3000 ∷ []
each_destroys (suc cpu) = destroys 0x6000 ∷ []

-- each takes its REC, and an auxiliary granule of the other's
abbrev pub strays_taken : List Move
strays_taken =
    all_accepted nine_granules untouched two_recs_made
    ++ (move.Call 0 ∷ move.Call 1 ∷ move.Take 0 0x3000 ∷ move.Take 1 0x6000 ∷ move.Take 0 0x7000 ∷ move.Take 1 0x4000 ∷ [])
