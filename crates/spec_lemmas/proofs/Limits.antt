-- How large machines may be.
use Rattle.std.proofs.Common.{◌≤◌, lit≤}
use Rattle.rmm_spec.specs.declared.version.Version.{Version}
use Rattle.rmm_spec.specs.declared.version.Version.TheVariants.{One, Two, Large}
use Rattle.rmm_spec.specs.HistoryText.{granule_limit}

-- no version has more granules than the one of large machines
pub granule_limit_le : (version : Version) → granule_limit version ≤ granule_limit Large
granule_limit_le One = lit≤ tt
granule_limit_le Two = lit≤ tt
granule_limit_le Large = lit≤ tt
