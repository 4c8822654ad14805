-- Granules become pages of a realm's protected memory and are taken back
-- (DEN0137, RMI_DATA_CREATE, RMI_DATA_CREATE_UNKNOWN, RMI_DATA_DESTROY).
use Rattle.std.specs.Prelude.{ℕ, nat_lt, ◌==◌, List, [], ◌∷◌, Result, Some, None}
use Rattle.rmm_spec.specs.declared.accepted.Accepted.{Accepted}
use Rattle.rmm_spec.specs.declared.call.Call.TheVariants.{DataCreate, DataCreateUnknown, DataDestroy}
use Rattle.rmm_spec.specs.declared.change.EntryChange.{EntryChange}
use Rattle.rmm_spec.specs.declared.change.Change.TheVariants.{EntriesChanged}
use Rattle.rmm_spec.specs.declared.change.EntryChange.TheVariants.{Replaced}
use Rattle.rmm_spec.specs.declared.change.RealmUpdate.TheVariants.{PageMeasured}
use Rattle.rmm_spec.specs.declared.entry.Entry.{Entry}
use Rattle.rmm_spec.specs.declared.entry.Entry.TheVariants.{Unassigned, Assigned}
use Rattle.rmm_spec.specs.declared.condition.Condition.TheVariants as condition
use Rattle.rmm_spec.specs.declared.refusal.Refusal.{Refusal}
use Rattle.rmm_spec.specs.declared.tag.Ripas.{Ripas}
use Rattle.rmm_spec.specs.declared.tag.Ripas.TheVariants.{Empty, Ram, Destroyed}
use Rattle.rmm_spec.specs.declared.tag.Tag.TheVariants.{Delegated, Data}
use Rattle.rmm_spec.specs.State.{State}
use Rattle.rmm_spec.specs.Lookup.{realm_at, is_new}
use Rattle.rmm_spec.specs.Walk.{entry_number, walk, half, is_unassigned, is_assigned, is_ram, entry_address, entry_ripas}
use Rattle.rmm_spec.specs.Rows.{input, decided, done, realm_row, rtt_row}
use Rattle.rmm_spec.specs.Step.Front.{with_front}

-- the RIPAS of a page that was taken back: what was memory is lost
abbrev pub ripas_after_data : Ripas → Ripas
ripas_after_data Ram = Destroyed
ripas_after_data Empty = Empty
ripas_after_data Destroyed = Destroyed

-- the entry of a page is replaced
abbrev pub page_entry : ℕ → Entry → EntryChange
page_entry ipa entry = Replaced (entry_number 3 ipa) entry

unfoldable pub data_create : State → ℕ → ℕ → ℕ → ℕ → ℕ → List ℕ → Result Accepted Refusal
data_create s rd granule ipa source flags digest =
    let realm = realm_at s rd in
    let end = walk s rd ipa 3 in
    decided
    (with_front s (DataCreate rd granule ipa source flags digest)
    (input condition.IpaBound (nat_lt ipa (half realm))
    ∷ realm_row condition.RealmState (is_new realm)
    ∷ rtt_row condition.RttWalk end.level (end.level == 3)
    ∷ rtt_row condition.RtteState 3 (is_unassigned end.entry)
    ∷ rtt_row condition.RtteRipas 3 (is_ram (entry_ripas end.entry))
    ∷ []))
    (done [] (EntriesChanged rd 3 (page_entry ipa (Assigned Ram granule)) (Some (record { granule = granule; tag = Data }))
    (Some (record { rd = rd; update = PageMeasured ipa flags digest })) None))

unfoldable pub data_create_unknown : State → ℕ → ℕ → ℕ → Result Accepted Refusal
data_create_unknown s rd granule ipa =
    let end = walk s rd ipa 3 in
    decided
    (with_front s (DataCreateUnknown rd granule ipa)
    (input condition.IpaBound (nat_lt ipa (half (realm_at s rd)))
    ∷ rtt_row condition.RttWalk end.level (end.level == 3)
    ∷ rtt_row condition.RtteState 3 (is_unassigned end.entry)
    ∷ []))
    (done [] (EntriesChanged rd 3 (page_entry ipa (Assigned (entry_ripas end.entry) granule))
    (Some (record { granule = granule; tag = Data })) None None))

unfoldable pub data_destroy : State → ℕ → ℕ → Result Accepted Refusal
data_destroy s rd ipa =
    let end = walk s rd ipa 3 in
    let granule = entry_address end.entry in
    decided
    (with_front s (DataDestroy rd ipa)
    (input condition.IpaBound (nat_lt ipa (half (realm_at s rd)))
    ∷ rtt_row condition.RttWalk end.level (end.level == 3)
    ∷ rtt_row condition.RtteState 3 (is_assigned end.entry)
    ∷ []))
    (done (granule ∷ []) (EntriesChanged rd 3 (page_entry ipa (Unassigned (ripas_after_data (entry_ripas end.entry))))
    (Some (record { granule = granule; tag = Delegated })) None None))
