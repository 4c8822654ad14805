-- The host's pages are mapped into the unprotected half of a realm's address space and unmapped
-- (DEN0137, RMI_RTT_MAP_UNPROTECTED, RMI_RTT_UNMAP_UNPROTECTED).
use Rattle.std.specs.Prelude.{ℕ, Bool, ◌&&◌, nat_lt, nat_le, ◌==◌, [], ◌∷◌, Result, None}
use Rattle.rmm_spec.specs.declared.accepted.Accepted.{Accepted}
use Rattle.rmm_spec.specs.declared.call.Call.TheVariants.{RttMapUnprotected, RttUnmapUnprotected}
use Rattle.rmm_spec.specs.declared.change.Change.TheVariants.{EntriesChanged}
use Rattle.rmm_spec.specs.declared.change.EntryChange.TheVariants.{Replaced}
use Rattle.rmm_spec.specs.declared.entry.Entry.TheVariants.{UnassignedNs, AssignedNs}
use Rattle.rmm_spec.specs.declared.condition.Condition.TheVariants as condition
use Rattle.rmm_spec.specs.declared.refusal.Refusal.{Refusal}
use Rattle.rmm_spec.specs.State.{State, RealmRecord}
use Rattle.rmm_spec.specs.Lookup.{realm_at}
use Rattle.rmm_spec.specs.Walk.{entry_number, walk, full, half, is_unassigned_ns, is_assigned_ns}
use Rattle.rmm_spec.specs.Rows.{input, decided, done, rtt_row}
use Rattle.rmm_spec.specs.Step.Front.{with_front}

-- whether an address lies in the upper half of the realm's address space
abbrev pub is_upper : RealmRecord → ℕ → Bool
is_upper realm ipa = nat_le (half realm) ipa && nat_lt ipa (full realm)

unfoldable pub rtt_map_unprotected : State → ℕ → ℕ → ℕ → Result Accepted Refusal
rtt_map_unprotected s rd ipa page =
    let end = walk s rd ipa 3 in
    decided
    (with_front s (RttMapUnprotected rd ipa page)
    (input condition.IpaBound (is_upper (realm_at s rd) ipa)
    ∷ rtt_row condition.RttWalk end.level (end.level == 3)
    ∷ rtt_row condition.RtteState 3 (is_unassigned_ns end.entry)
    ∷ []))
    (done [] (EntriesChanged rd 3 (Replaced (entry_number 3 ipa) (AssignedNs page)) None None None))

unfoldable pub rtt_unmap_unprotected : State → ℕ → ℕ → Result Accepted Refusal
rtt_unmap_unprotected s rd ipa =
    let end = walk s rd ipa 3 in
    decided
    (with_front s (RttUnmapUnprotected rd ipa)
    (input condition.IpaBound (is_upper (realm_at s rd) ipa)
    ∷ rtt_row condition.RttWalk end.level (end.level == 3)
    ∷ rtt_row condition.RtteState 3 (is_assigned_ns end.entry)
    ∷ []))
    (done [] (EntriesChanged rd 3 (Replaced (entry_number 3 ipa) UnassignedNs) None None None))
