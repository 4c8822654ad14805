-- Which words of commands and replies are addresses of granules.
use Rattle.std.specs.Prelude.{ℕ, ◌||◌, ◌==◌, if◌then◌else◌, List, [], ◌∷◌, Option, Some, None, slice_index, slice_index_or}
use Rattle.rmm_spec.specs.declared.function_id.FunctionId.{FunctionId}
use Rattle.rmm_spec.specs.declared.function_id.FunctionId.TheVariants.{GranuleDelegate, GranuleUndelegate, DataCreate, DataCreateUnknown, DataDestroy, RealmActivate, RealmCreate, RealmDestroy, RecCreate, RecDestroy, RecEnter, RttCreate, RttDestroy, RttMapUnprotected, RttReadEntry, RttUnmapUnprotected, RttFold, RttInitRipas, RttSetRipas}
use Rattle.merging.specs.declared.roles.Role.{Role}
use Rattle.merging.specs.declared.roles.Role.TheVariants.{Granule, Page, Other}

-- what the word at a place is
abbrev pub role_at : List Role → ℕ → Role
role_at roles place = slice_index_or roles place Other

-- A command's words, as far as some are addresses: granules, and the host's page that is mapped. A realm's call names none.
unfoldable pub command_roles : FunctionId → List Role
command_roles DataCreate = Granule ∷ Granule ∷ Other ∷ Granule ∷ []
command_roles DataCreateUnknown = Granule ∷ Granule ∷ []
command_roles RealmCreate = Granule ∷ Granule ∷ []
command_roles RecCreate = Granule ∷ Granule ∷ Other ∷ Other ∷ Granule ∷ Granule ∷ []
command_roles RttCreate = Granule ∷ Granule ∷ []
command_roles RttMapUnprotected = Granule ∷ Other ∷ Page ∷ []
command_roles RttSetRipas = Granule ∷ Granule ∷ []
command_roles GranuleDelegate = Granule ∷ []
command_roles GranuleUndelegate = Granule ∷ []
command_roles DataDestroy = Granule ∷ []
command_roles RealmActivate = Granule ∷ []
command_roles RealmDestroy = Granule ∷ []
command_roles RecDestroy = Granule ∷ []
command_roles RecEnter = Granule ∷ []
command_roles RttDestroy = Granule ∷ []
command_roles RttReadEntry = Granule ∷ []
command_roles RttUnmapUnprotected = Granule ∷ []
command_roles RttFold = Granule ∷ []
command_roles RttInitRipas = Granule ∷ []
command_roles _ = []

-- Level, state, address and RIPAS of an entry: it has an address where it is assigned (1) or a table (2). The reply doesn't tell a
-- data granule from the host's page.
abbrev pub entry_roles : ℕ → List Role
entry_roles state = if state == 1 || state == 2 then Other ∷ Other ∷ Page ∷ [] else []

-- the words that a call of the function gives, as far as some are addresses
unfoldable pub reply_roles : FunctionId → List ℕ → List Role
reply_roles DataDestroy words = Granule ∷ []
reply_roles RttDestroy words = Granule ∷ []
reply_roles RttFold words = Granule ∷ []
reply_roles RttReadEntry words = entry_roles (slice_index words 1)
reply_roles _ words = []

-- the same of a call whose function is known where there was one
abbrev pub answer_roles : Option FunctionId → List ℕ → List Role
answer_roles (Some function) words = reply_roles function words
answer_roles None words = []
