-- The numbers of a scenario as they are held.
use Rattle.std.specs.Prelude.{◌≡◌, ◌≤◌, pos, length, map, sum, IsTrue}
use Rattle.rmm_spec.specs.HistoryText.{IsConfig}
use Rattle.rmm_spec.specs.Scenario.{Stated, is_numbered}
use Rattle.scenario.specs.declared.limits.Sizes.{Sizes}

-- These are the numbers that are stated, within their ranges. The version has a clause of its own.
pub record AreNumbers (stated : Stated) (sizes : Sizes) : Type 0 where
  pub config : IsConfig sizes.config
  pub numbered : IsTrue (is_numbered sizes.config.version)
  pub granules : stated.granules ≡ pos sizes.config.granules
  pub cpus : stated.cpus ≡ pos sizes.config.cpus
  pub queue : stated.queue ≡ pos sizes.queue
  pub queue_within : (1 ≤ sizes.queue) × (sizes.queue ≤ 65536)
  pub limit : stated.limit ≡ pos sizes.limit
  pub limit_within : (1 ≤ sizes.limit) × (sizes.limit ≤ 10000000)

-- Each CPU also has a program, and there are few enough commands.
pub record AreSizes (stated : Stated) (sizes : Sizes) : Type 0 where
  pub numbers : AreNumbers stated sizes
  pub programs : length stated.programs ≡ sizes.config.cpus
  pub few : sum (map length stated.programs) ≤ 499999
