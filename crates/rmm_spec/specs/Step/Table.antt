-- Translation tables are put in, taken out and read (DEN0137, RMI_RTT_CREATE, RMI_RTT_DESTROY, RMI_RTT_FOLD, RMI_RTT_READ_ENTRY).
use Rattle.std.specs.Prelude.{ℕ, ◌-◌, ◌*◌, not, nat_lt, nat_le, ◌==◌, if◌then◌else◌, [], ◌∷◌, Option, Some, None, is_some, unwrap_or, Result}
use Rattle.rmm_spec.specs.declared.accepted.Accepted.{Accepted}
use Rattle.rmm_spec.specs.declared.call.Call.TheVariants.{RttCreate, RttRemove, RttReadEntry}
use Rattle.rmm_spec.specs.declared.call.Removal.{Removal}
use Rattle.rmm_spec.specs.declared.call.Removal.TheVariants.{Destroy, Fold}
use Rattle.rmm_spec.specs.declared.entry.EntryTest.TheVariants.{Unlike}
use Rattle.rmm_spec.specs.declared.change.Change.TheVariants.{Unchanged, TableMade, TableDestroyed}
use Rattle.rmm_spec.specs.declared.entry.Entry.{Entry}
use Rattle.rmm_spec.specs.declared.entry.Entry.TheVariants.{Unassigned, UnassignedNs}
use Rattle.rmm_spec.specs.declared.condition.Condition.{Condition}
use Rattle.rmm_spec.specs.declared.condition.Condition.TheVariants as condition
use Rattle.rmm_spec.specs.declared.refusal.Refusal.{Refusal}
use Rattle.rmm_spec.specs.declared.tag.Ripas.{Ripas}
use Rattle.rmm_spec.specs.declared.tag.Ripas.TheVariants.{Destroyed}
use Rattle.rmm_spec.specs.State.{State, RealmRecord}
use Rattle.rmm_spec.specs.Lookup.{realm_at, ripas_number}
use Rattle.rmm_spec.specs.Walk.{table_number, walk, full, half, is_table, is_in_use, has_entry, entry_at, entry_address, entry_ripas, entry_state}
use Rattle.rmm_spec.specs.Rows.{input, decided, done, rtt_row}
use Rattle.rmm_spec.specs.Step.Front.{with_front}

-- what a stretch of addresses is where a table of it was taken out and left this RIPAS
abbrev pub entry_after_table : RealmRecord → ℕ → Ripas → Entry
entry_after_table realm ipa ripas = if nat_lt ipa (half realm) then Unassigned ripas else UnassignedNs

unfoldable pub rtt_create : State → ℕ → ℕ → ℕ → ℕ → Result Accepted Refusal
rtt_create s rd rtt ipa level =
    let realm = realm_at s rd in
    let end = walk s rd ipa (level - 1) in
    decided
    (with_front s (RttCreate rd rtt ipa level)
    (input condition.LevelBound (nat_lt realm.start_level level)
    ∷ input condition.IpaBound (nat_lt ipa (full realm))
    ∷ rtt_row condition.RttWalk end.level (end.level == level - 1)
    ∷ rtt_row condition.RtteState (level - 1) (not (is_table end.entry))
    ∷ []))
    (done [] (TableMade rd level (table_number level ipa) rtt end.entry))

-- The RIPAS that a table leaves where it may be taken out. RTT_DESTROY asks that no entry keeps it in use, and RTT_FOLD that all
-- are unassigned alike.
unfoldable pub ripas_left : Removal → State → ℕ → ℕ → ℕ → Option Ripas
ripas_left Destroy s rd level number = if is_in_use s rd level number then None else Some Destroyed
ripas_left Fold s rd level number =
    let first = entry_at s rd level (512 * number) in
    if has_entry s rd level number (Unlike first) then None else Some (entry_ripas first)

-- what a table's entries are asked for
abbrev pub left_condition : Removal → Condition
left_condition Destroy = condition.RttLive
left_condition Fold = condition.OwnAlike

unfoldable pub rtt_remove : State → Removal → ℕ → ℕ → ℕ → Result Accepted Refusal
rtt_remove s removal rd ipa level =
    let realm = realm_at s rd in
    let end = walk s rd ipa (level - 1) in
    let number = table_number level ipa in
    let rtt = entry_address end.entry in
    let left = ripas_left removal s rd level number in
    decided
    (with_front s (RttRemove removal rd ipa level)
    (input condition.LevelBound (nat_lt realm.start_level level)
    ∷ input condition.IpaBound (nat_lt ipa (full realm))
    ∷ rtt_row condition.RttWalk end.level (end.level == level - 1)
    ∷ rtt_row condition.RtteState end.level (is_table end.entry)
    ∷ rtt_row (left_condition removal) level (is_some left)
    ∷ []))
    (done (rtt ∷ []) (TableDestroyed rd level number rtt (entry_after_table realm ipa (unwrap_or left Destroyed))))

unfoldable pub rtt_read_entry : State → ℕ → ℕ → ℕ → Result Accepted Refusal
rtt_read_entry s rd ipa level =
    let realm = realm_at s rd in
    let end = walk s rd ipa level in
    decided
    (with_front s (RttReadEntry rd ipa level)
    (input condition.LevelBound (nat_le realm.start_level level)
    ∷ input condition.IpaBound (nat_lt ipa (full realm))
    ∷ []))
    (done (end.level ∷ entry_state end.entry ∷ entry_address end.entry ∷ ripas_number (entry_ripas end.entry) ∷ []) Unchanged)
