-- What can stand at a place of a line, and what is wanted behind it.
use Rattle.std.specs.Prelude.{◌≡◌, ◌⊎◌, ⊤, ℕ, ◌+◌, ◌-◌, ◌^◌, ◌<◌, ◌≤◌, List, [], ◌∷◌, codes}
use Rattle.rmm_spec.specs.declared.function_id.FunctionId.{FunctionId}
use Rattle.rmm_spec.specs.declared.version.Version.{Version}
use Rattle.rmm_spec.specs.Function.{number_of, word_count}
use Rattle.rmm_spec.specs.HistoryText.{granule_limit, mark}
use Rattle.rmm_spec.specs.Text.{decimal, word, fixed_hex}
use Rattle.reasons.specs.declared.wanted.Role.{Role}
use Rattle.reasons.specs.declared.wanted.Role.TheVariants as role
use Rattle.reasons.specs.declared.wanted.Wanted.{Wanted}
use Rattle.reasons.specs.declared.wanted.Wanted.TheVariants as wanted

-- a decimal from the least number to below the limit
abbrev pub IsNumber : ℕ → ℕ → List ℕ → Type 0
IsNumber least limit part = (n : ℕ) × (least ≤ n) × (n < limit) × (part ≡ decimal n)

abbrev pub IsWord : List ℕ → Type 0
IsWord part = (w : ℕ) × (w < 2 ^ 64) × (part ≡ word w)

-- what follows the number of the call
abbrev pub behind_number : Role → Wanted
behind_number role.Call = wanted.Function
behind_number role.Return = wanted.Form
behind_number role.Keep = wanted.End
behind_number role.Unfinished = wanted.Form

-- The part can stand where the first is wanted, and the second is wanted behind it.
abbrev pub Leads : Wanted → List ℕ → Wanted → Type 0
Leads wanted.Format part next = (version : Version) × (part ≡ mark version) × (next ≡ wanted.Granules version)
Leads (wanted.Granules version) part next = IsNumber 1 (granule_limit version + 1) part × (next ≡ wanted.Cpus)
Leads wanted.Cpus part next = IsNumber 1 9 part × (next ≡ wanted.End)
Leads (wanted.EventLetter cpus) part next =
    (0 < cpus) × (((part ≡ codes "c") × (next ≡ wanted.Cpu cpus role.Call)) ⊎ ((part ≡ codes "r") × (next ≡ wanted.Cpu cpus role.Return)))
Leads wanted.LineLetter part next =
    ((part ≡ codes "k") × (next ≡ wanted.Cpu 8 role.Keep)) ⊎ ((part ≡ codes "u") × (next ≡ wanted.Cpu 8 role.Unfinished))
Leads (wanted.Cpu cpus role) part next = IsNumber 0 cpus part × (next ≡ wanted.Number role)
Leads (wanted.Number role) part next = IsNumber 0 1000000 part × (next ≡ behind_number role)
Leads wanted.Function part next = (f : FunctionId) × (part ≡ fixed_hex 8 (number_of f)) × (next ≡ wanted.Words (word_count f))
Leads (wanted.Words left) part next = (0 < left) × IsWord part × (next ≡ wanted.Words (left - 1))
Leads wanted.Form part next =
    ((part ≡ codes "ok") × (next ≡ wanted.MoreWords 10))
    ⊎ (((part ≡ codes "err") × (next ≡ wanted.Status)) ⊎ ((part ≡ codes "misplaced") × (next ≡ wanted.End)))
Leads (wanted.MoreWords left) part next = (0 < left) × IsWord part × (next ≡ wanted.MoreWords (left - 1))
Leads wanted.Status part next = IsNumber 0 256 part × (next ≡ wanted.Index)
Leads wanted.Index part next = IsNumber 0 256 part × (next ≡ wanted.End)
Leads wanted.End part next = ⊥

-- the part can stand where this is wanted
abbrev pub CanStand : Wanted → List ℕ → Type 0
CanStand wanted part = (next : Wanted) × Leads wanted part next

-- the line may end where this is wanted
abbrev pub MayEnd : Wanted → Type 0
MayEnd (wanted.Words left) = left ≡ 0
MayEnd (wanted.MoreWords left) = ⊤
MayEnd wanted.End = ⊤
MayEnd _ = ⊥

-- the parts are the rest of a line, where this is wanted of it
abbrev pub GoesOn : Wanted → List (List ℕ) → Type 0
GoesOn wanted [] = MayEnd wanted
GoesOn wanted (part ∷ more) = (next : Wanted) × Leads wanted part next × GoesOn next more
