-- What a call may be replied in any state: the words of one that is carried out, and the statuses that its rows refuse with. This project's own.
use Rattle.std.specs.Prelude.{ℕ, ◌-◌, ◌^◌, ◌==◌, ◌&&◌, ◌||◌, nat_lt, nat_le, if◌then◌else◌, Bool, true, false, not, List, [], ◌∷◌, length, slice_index_or}
use Rattle.rmm_spec.specs.declared.call.Call.{Call}
use Rattle.rmm_spec.specs.declared.call.Call.TheVariants as call
use Rattle.rmm_spec.specs.declared.reply.Reply.{Reply}
use Rattle.rmm_spec.specs.declared.reply.Reply.TheVariants as reply
use Rattle.rmm_spec.specs.Rows.{all_allowed}
use Rattle.rmm_spec.specs.Step.Terms.{is_page, words_of}
use Rattle.rmm_spec.specs.Walk.{is_multiple}

-- ---- words

-- whether there is one word, which passes
abbrev pub is_one : (ℕ → Bool) → List ℕ → Bool
is_one passes [] = false
is_one passes (word ∷ []) = passes word
is_one passes (word ∷ other ∷ more) = false

-- whether a stretch from base to top, of which some pages at its beginning are set, may end there
abbrev pub may_end : ℕ → ℕ → ℕ → Bool
may_end base top end = nat_lt base end && nat_le end top && is_multiple (end - base) 4096

-- whether it is a RIPAS' number
abbrev pub is_ripas : ℕ → Bool
is_ripas number = nat_le number 2

-- whether the words report an entry of the level or one above it: its level, its state, its address and its RIPAS
abbrev pub reports_entry : ℕ → List ℕ → Bool
reports_entry level words =
    length words == 4 && nat_le (slice_index_or words 0 0) level && nat_le (slice_index_or words 1 0) 2 && is_ripas (slice_index_or words 3 0)

-- whether a call that is carried out may be replied these words; those of an exit go by why its REC leaves
unfoldable pub gives : Call → List ℕ → Bool
gives (call.DataDestroy rd ipa) words = is_one is_page words
gives (call.RecEnter rec) words = is_one is_page words
gives (call.RttRemove removal rd ipa level) words = is_one is_page words
gives (call.RttReadEntry rd ipa level) words = reports_entry level words
gives (call.RttInitRipas rd base top) words = is_one (may_end base top) words
gives (call.RttSetRipas rd rec base top) words = is_one (may_end base top) words
gives (call.MeasurementRead index) words = length words == 4 || length words == 8
gives call.RealmConfig words = length words == 2
gives (call.IpaStateGet ipa) words = is_one is_ripas words
gives call.Exit words = length words == 4
gives _ words = length words == 0

-- ---- statuses

-- whether rows on what it finds may refuse the call as they do its own words; a realm's call is refused so only for addresses beyond its
-- realm's protected half, and that is of 2 ^ 38 addresses at least, as each realm has addresses of 39 bits at least
unfoldable pub has_input_row : Call → Bool
has_input_row (call.MeasurementRead index) = false
has_input_row (call.MeasurementExtend index size values) = false
has_input_row call.RealmConfig = false
has_input_row (call.IpaStateSet base top ripas) = nat_lt (2 ^ 38) top
has_input_row (call.IpaStateGet ipa) = nat_le (2 ^ 38) ipa
has_input_row (call.HostCall imm) = false
has_input_row call.CpuOff = false
has_input_row call.SystemOff = false
has_input_row call.Exit = false
has_input_row _ = true

-- with how many indices, from 0 on, rows on the realm refuse the call
unfoldable pub realm_indices : Call → ℕ
realm_indices (call.DataCreate rd granule ipa source flags digest) = 1
realm_indices (call.RealmActivate rd) = 1
realm_indices (call.RealmDestroy rd) = 1
realm_indices (call.RecCreate rd rec mpidr flags aux0 aux1) = 1
realm_indices (call.RecEnter rec) = 2
realm_indices (call.RttInitRipas rd base top) = 1
realm_indices _ = 0

-- whether a row on a REC may refuse it
unfoldable pub has_rec_row : Call → Bool
has_rec_row (call.RecDestroy rec) = true
has_rec_row (call.RecEnter rec) = true
has_rec_row (call.RttSetRipas rd rec base top) = true
has_rec_row _ = false

-- whether there are pages from base up to top
abbrev pub is_stretch : ℕ → ℕ → Bool
is_stretch base top = is_page base && is_page top && nat_lt base top

-- whether a row on a table may, with the level; pages that a REC asked for begin at an entry of the last level, and reach to its end
unfoldable pub has_row_at_level : Call → ℕ → Bool
has_row_at_level (call.DataCreate rd granule ipa source flags digest) index = nat_le index 3
has_row_at_level (call.DataCreateUnknown rd granule ipa) index = nat_le index 3
has_row_at_level (call.DataDestroy rd ipa) index = nat_le index 3
has_row_at_level (call.RttCreate rd rtt ipa level) index = nat_le index (level - 1)
has_row_at_level (call.RttRemove removal rd ipa level) index = nat_le index level
has_row_at_level (call.RttMapUnprotected rd ipa page) index = nat_le index 3
has_row_at_level (call.RttUnmapUnprotected rd ipa) index = nat_le index 3
has_row_at_level (call.RttInitRipas rd base top) index = nat_le index 3
has_row_at_level (call.RttSetRipas rd rec base top) index = nat_le index (if is_stretch base top then 2 else 3)
has_row_at_level _ index = false

-- whether rows on what it finds may refuse the call with the status and the index
abbrev pub refuses_with : Call → ℕ → ℕ → Bool
refuses_with c status index =
    (status == 2 && nat_lt index (realm_indices c))
    || (status == 3 && index == 0 && has_rec_row c)
    || (status == 4 && has_row_at_level c index)

-- ---- replies

-- whether a call that is given may be replied so; where its own words aren't allowed it is refused for them
abbrev pub may_answer : Call → Reply → Bool
may_answer c (reply.Ok words) = all_allowed (words_of c) && gives c words.items
may_answer c (reply.Err status index) =
    (status == 1 && index == 0 && (has_input_row c || not (all_allowed (words_of c))))
    || (all_allowed (words_of c) && refuses_with c status index)
may_answer c reply.Misplaced = false
