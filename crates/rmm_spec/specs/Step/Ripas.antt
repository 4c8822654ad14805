-- The RIPAS of a stretch of protected memory is set before a realm runs, or as one of its RECs asked
-- (DEN0137, RMI_RTT_INIT_RIPAS, RMI_RTT_SET_RIPAS). How far one command gets is the monitor's choice.
use Rattle.std.specs.Prelude.{◌≡◌, ℕ, ◌+◌, ◌-◌, ◌*◌, ◌/◌, ◌<◌, ◌≤◌, Bool, not, ◌&&◌, nat_lt, nat_le, ◌==◌, [], ◌∷◌, IsTrue, Result, Some, None, is_some, is_none}
use Rattle.rmm_spec.specs.declared.accepted.Accepted.{Accepted}
use Rattle.rmm_spec.specs.declared.accepted.Accepted.TheVariants.{Reaches}
use Rattle.rmm_spec.specs.declared.accepted.Stretch.{Stretch}
use Rattle.rmm_spec.specs.declared.accepted.StretchUse.{StretchUse}
use Rattle.rmm_spec.specs.declared.accepted.StretchUse.TheVariants.{Init, Requested}
use Rattle.rmm_spec.specs.declared.call.Call.TheVariants.{RttInitRipas, RttSetRipas}
use Rattle.rmm_spec.specs.declared.change.Change.{Change}
use Rattle.rmm_spec.specs.declared.change.Change.TheVariants.{EntriesChanged}
use Rattle.rmm_spec.specs.declared.change.EntryChange.TheVariants.{RipasSet}
use Rattle.rmm_spec.specs.declared.change.RealmUpdate.TheVariants.{StretchMeasured}
use Rattle.rmm_spec.specs.declared.change.RecUpdate.TheVariants.{RequestMoved}
use Rattle.rmm_spec.specs.declared.entry.Entry.{Entry}
use Rattle.rmm_spec.specs.declared.condition.Condition.TheVariants as condition
use Rattle.rmm_spec.specs.declared.refusal.Refusal.{Refusal}
use Rattle.rmm_spec.specs.declared.tag.Ripas.TheVariants.{Ram}
use Rattle.rmm_spec.specs.State.{State}
use Rattle.rmm_spec.specs.Lookup.{realm_at, rec_at, request_of, is_new, all_below}
use Rattle.rmm_spec.specs.Walk.{entry_size, table_size, entry_number, table_number, entry_at, walk, half, is_multiple, is_table, is_assigned, is_unassigned}
use Rattle.rmm_spec.specs.Rows.{input, decided, realm_row, rec_row, rtt_row}
use Rattle.rmm_spec.specs.Step.Front.{with_front}
use Rattle.rmm_spec.specs.Step.Terms.{is_page}

-- ---- how far a command gets

-- whether the RIPAS of an entry may be set: never a link's, and before a realm runs no page's
abbrev pub can_be_set : StretchUse → Entry → Bool
can_be_set Init entry = not (is_table entry) && not (is_assigned entry)
can_be_set (Requested rec ripas) entry = not (is_table entry)

-- From base up to top is a stretch of one or more entries of one table of the level, of which each may be set, and it ends
-- by the top that was asked for.
pub record IsReached (s : State) (stretch : Stretch) (top : ℕ) : Type 0 where
  pub count : ℕ
  pub some : 1 ≤ count
  pub is_end : top ≡ stretch.base + count * entry_size stretch.level
  pub within : top ≤ stretch.top
  pub in_table : top ≤ (table_number stretch.level stretch.base + 1) * table_size stretch.level
  pub each : (k : ℕ) → k < count
      → IsTrue (can_be_set stretch.purpose (entry_at s stretch.rd stretch.level (entry_number stretch.level stretch.base + k)))

-- the same as a test, which looks at each entry of the stretch
unfoldable pub is_reached : State → Stretch → ℕ → Bool
is_reached s stretch top =
    nat_lt stretch.base top
    && is_multiple (top - stretch.base) (entry_size stretch.level)
    && nat_le top stretch.top
    && nat_le top ((table_number stretch.level stretch.base + 1) * table_size stretch.level)
    && all_below ((top - stretch.base) / entry_size stretch.level)
    (λ k. can_be_set stretch.purpose (entry_at s stretch.rd stretch.level (entry_number stretch.level stretch.base + k)))

-- what is changed where the stretch, whose entries have these numbers, is set up to top
abbrev pub stretch_change : StretchUse → ℕ → ℕ → ℕ → ℕ → ℕ → ℕ → Change
stretch_change Init rd level base first last top =
    EntriesChanged rd level (RipasSet first last Ram) None (Some (record { rd = rd; update = StretchMeasured base top })) None
stretch_change (Requested rec ripas) rd level base first last top =
    EntriesChanged rd level (RipasSet first last ripas) None None (Some (record { rec = rec; update = RequestMoved top }))

-- what is changed where the stretch is set up to top
unfoldable pub reached_change : Stretch → ℕ → Change
reached_change stretch top =
    stretch_change stretch.purpose stretch.rd stretch.level stretch.base
    (entry_number stretch.level stretch.base) (entry_number stretch.level top) top

-- ---- the commands

unfoldable pub rtt_init_ripas : State → ℕ → ℕ → ℕ → Result Accepted Refusal
rtt_init_ripas s rd base top =
    let realm = realm_at s rd in
    let end = walk s rd base 3 in
    decided
    (with_front s (RttInitRipas rd base top)
    (input condition.TopBound (nat_le top (half realm))
    ∷ realm_row condition.RealmState (is_new realm)
    ∷ rtt_row condition.RtteState end.level (is_unassigned end.entry)
    ∷ rtt_row condition.BaseAlign end.level (is_multiple base (entry_size end.level))
    ∷ rtt_row condition.TopRttAlign end.level (nat_le (base + entry_size end.level) top)
    ∷ []))
    (Reaches (record { rd = rd; base = base; top = top; level = end.level; purpose = Init }))

unfoldable pub rtt_set_ripas : State → ℕ → ℕ → ℕ → ℕ → Result Accepted Refusal
rtt_set_ripas s rd rec base top =
    let old = rec_at s rec in
    let request = request_of old in
    let end = walk s rd base 3 in
    decided
    (with_front s (RttSetRipas rd rec base top)
    (rec_row condition.RecOwner (old.owner == rd)
    ∷ rec_row condition.RecState (is_none old.cpu)
    ∷ input condition.OwnRequest (is_some old.request)
    ∷ input condition.BaseBound (base == request.base)
    ∷ input condition.TopBound (nat_le top request.top)
    ∷ input condition.SizeValid (nat_lt base top)
    ∷ input condition.TopGranAlign (is_page top)
    ∷ rtt_row condition.BaseAlign end.level (is_multiple base (entry_size end.level))
    ∷ rtt_row condition.TopRttAlign end.level (nat_le (base + entry_size end.level) top)
    ∷ []))
    (Reaches (record { rd = rd; base = base; top = top; level = end.level; purpose = Requested rec request.ripas }))
