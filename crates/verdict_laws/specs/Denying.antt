-- Which replies aren't given where facts hold: by one of them, by several together, or where a CPU stands. This project's own.
use Rattle.std.specs.Prelude.{ℕ, ◌-◌, ◌^◌, ◌==◌, ◌&&◌, ◌||◌, nat_le, nat_lt, Bool, true, false, not, List, [], ◌∷◌, Option, None, Some, slice_index_or}
use Rattle.std.specs.List.{list_all, list_any}
use Rattle.rmm_spec.specs.declared.call.Call.{Call}
use Rattle.rmm_spec.specs.declared.call.Call.TheVariants as call
use Rattle.rmm_spec.specs.declared.reply.Reply.{Reply}
use Rattle.rmm_spec.specs.declared.reply.Reply.TheVariants as reply
use Rattle.rmm_spec.specs.declared.tag.Tag.{Tag}
use Rattle.rmm_spec.specs.declared.tag.Tag.TheVariants.{Delegated, Rd, Rec, Data, Rtt}
use Rattle.rmm_spec.specs.Lookup.{is_granule}
use Rattle.rmm_spec.specs.Ownership.{is_accepted}
use Rattle.rmm_spec.specs.Rows.{Needed, all_allowed}
use Rattle.rmm_spec.specs.Step.Terms.{Way, is_page, named, way_of, words_of}
use Rattle.verdict_laws.specs.declared.facts.Fact.{Fact}
use Rattle.verdict_laws.specs.declared.facts.Fact.TheVariants.{NewRealm, Tagged, Covered, Wide, SoleVmid, PartOf, Unassigned, UnassignedRam, Assigned, HasRipas, Activated, OwnedBy, Runnable, Idle, RunsOn, AsksFrom, RunsOrAsksWithin, RunsOrAsksTo}
use Rattle.verdict_laws.specs.declared.placing.Standing.{Standing}
use Rattle.verdict_laws.specs.declared.placing.Standing.TheVariants.{Inside}
use Rattle.verdict_laws.specs.Separate.{is_freed}
use Rattle.verdict_laws.specs.Slices.{shows_names}
use Rattle.verdict_laws.specs.Facts.{creates_page, frees_entry, is_one_entry, is_one_table, is_tag, is_told, is_within}

-- ---- by one

-- whether the call is refused where the realm isn't new, and by no other row on the realm
unfoldable pub needs_new : Call → ℕ → Bool
needs_new (call.DataCreate other granule ipa source flags digest) rd = rd == other
needs_new (call.RealmActivate other) rd = rd == other
needs_new (call.RecCreate other rec mpidr flags aux0 aux1) rd = rd == other
needs_new (call.RttInitRipas other base top) rd = rd == other
needs_new _ rd = false

-- whether one of these needs another tag of the granule
abbrev pub needs_other : List Needed → ℕ → Tag → Bool
needs_other names granule tag = list_any (λ (n : Needed). n.granule == granule && not (is_tag n.tag tag)) names

unfoldable pub reads : Call → Bool
reads (call.RttReadEntry rd ipa level) = true
reads _ = false

-- whether a reply says that a table which covers the address is missing or an entry above it in the way, or reports an entry above it
abbrev pub is_above : Call → Reply → ℕ → Bool
is_above c (reply.Ok words) level = reads c && nat_lt (slice_index_or words.items 0 0) level
is_above c (reply.Err status index) level = status == 4 && nat_lt index level
is_above c reply.Misplaced level = false

-- whether the walk for the same table of the realm goes as far as its level
abbrev pub goes_to : Option Way → ℕ → ℕ → ℕ → Bool
goes_to None rd level ipa = false
goes_to (Some way) rd level ipa = rd == way.rd && nat_le level way.max && is_one_table level ipa way.ipa

-- whether the call names its realm alone, and its addresses are protected ones of realms so wide
unfoldable pub lies_in : Call → ℕ → ℕ → Bool
lies_in (call.DataDestroy other ipa) rd width = rd == other && nat_lt ipa (2 ^ (width - 1))
lies_in (call.RttInitRipas other base top) rd width = rd == other && nat_le top (2 ^ (width - 1))
lies_in _ rd width = false

abbrev pub is_refused_with : ℕ → Reply → Bool
is_refused_with asked (reply.Ok words) = false
is_refused_with asked (reply.Err status index) = status == asked
is_refused_with asked reply.Misplaced = false

-- whether the call is refused where the address's entry isn't unassigned, and by no other row on its table
unfoldable pub needs_free : Call → ℕ → ℕ → Bool
needs_free (call.DataCreateUnknown other granule at) rd ipa = rd == other && is_one_entry ipa at
needs_free (call.RttInitRipas other base top) rd ipa = rd == other && is_one_entry ipa base
needs_free _ rd ipa = false

-- whether the only word is one of these addresses
abbrev pub is_word_within : ℕ → ℕ → List ℕ → Bool
is_word_within least most (word ∷ []) = is_within least most word
is_word_within least most _ = false

abbrev pub is_told_within : ℕ → ℕ → Reply → Bool
is_told_within least most (reply.Ok words) = is_word_within least most words.items
is_told_within least most _ = false

-- whether the call is carried out as if the REC asked for something from none of these addresses on
unfoldable pub asks_outside : Call → Reply → ℕ → ℕ → ℕ → Bool
asks_outside (call.RecEnter other) given rec least most = rec == other && not (is_told_within least most given)
asks_outside (call.RttSetRipas rd other from top) given rec least most = rec == other && not (is_within least most from)
asks_outside _ given rec least most = false

-- whether the call is refused where the REC runs
unfoldable pub needs_idle : Call → ℕ → Bool
needs_idle (call.RecEnter other) rec = rec == other
needs_idle (call.RecDestroy other) rec = rec == other
needs_idle (call.RttSetRipas rd other base top) rec = rec == other
needs_idle _ rec = false

-- whether the call reports the address's entry of the last level, if that is there
unfoldable pub reads_entry : Call → ℕ → ℕ → Bool
reads_entry (call.RttReadEntry other at level) rd ipa = rd == other && level == 3 && is_one_entry ipa at
reads_entry _ rd ipa = false

-- whether the word is replied there
abbrev pub is_reported : ℕ → ℕ → Reply → Bool
is_reported place word (reply.Ok words) = slice_index_or words.items place 0 == word
is_reported place word _ = false

-- whether an entry is reported that isn't of the last level, or has another state or address
abbrev pub is_other_entry : ℕ → ℕ → Reply → Bool
is_other_entry state at given = not (is_reported 0 3 given && is_reported 1 state given && is_reported 2 at given)

-- whether such a reply isn't given where the fact holds
abbrev pub denies : Fact → Call → Reply → Bool
denies (NewRealm rd) c given = is_refused_with 2 given && needs_new c rd
denies (Tagged granule tag) c given =
    (shows_names given && needs_other (named c) granule tag)
    || (is_freed c given granule && not (is_tag tag Data) && not (is_tag tag Rtt))
denies (Covered rd level ipa) c given = is_above c given level && goes_to (way_of c) rd level ipa
denies (Wide rd width) c given = is_refused_with 1 given && all_allowed (words_of c) && lies_in c rd width
denies (SoleVmid rd vmid) c given = false
denies (PartOf granule owner) c given = false
denies (Unassigned rd ipa) c given =
    (is_accepted given && (frees_entry c rd ipa || (reads_entry c rd ipa && is_other_entry 0 0 given)))
    || (is_refused_with 4 given && needs_free c rd ipa)
denies (UnassignedRam rd ipa) c given = is_refused_with 4 given && creates_page c rd ipa
denies (Assigned rd ipa page) c given =
    (shows_names given && needs_other (named c) page Data)
    || (frees_entry c rd ipa && (is_refused_with 4 given || (is_accepted given && not (is_freed c given page))))
    || (is_accepted given && (needs_free c rd ipa || creates_page c rd ipa || (reads_entry c rd ipa && is_other_entry 1 page given)))
denies (HasRipas rd ipa ripas) c given = is_accepted given && reads_entry c rd ipa && not (is_reported 3 ripas given)
denies (Activated rd) c given = is_accepted given && needs_new c rd
denies (OwnedBy rec rd) c given = false
denies (Runnable rec) c given = false
denies (Idle rec) c given = false
denies (RunsOn rec at) c given = is_accepted given && needs_idle c rec
denies (AsksFrom rec base) c given = is_accepted given && asks_outside c given rec base base
denies (RunsOrAsksWithin rec least most) c given = is_accepted given && asks_outside c given rec least most
denies (RunsOrAsksTo rec top ripas) c given = false

-- ---- replies that several deny

-- whether the fact says that neither a realm nor a REC is at the address
abbrev pub gives_no_owner : ℕ → Fact → Bool
gives_no_owner owner (Tagged granule tag) = owner == granule && not (is_tag tag Rd) && not (is_tag tag Rec)
gives_no_owner owner _ = false

-- Whether the fact says that a granule has the tag which a call needs: that of a part is Delegated where one of the facts says that its owner isn't
-- there.
abbrev pub gives_tag : List Fact → Needed → Fact → Bool
gives_tag facts n (Tagged granule tag) = n.granule == granule && is_tag n.tag tag
gives_tag facts n (Wide rd width) = n.granule == rd && is_tag n.tag Rd
gives_tag facts n (PartOf granule owner) = n.granule == granule && is_tag n.tag Delegated && list_any (gives_no_owner owner) facts
gives_tag facts n (Idle rec) = n.granule == rec && is_tag n.tag Rec
gives_tag facts n (RunsOn rec at) = n.granule == rec && is_tag n.tag Rec
gives_tag facts n (AsksFrom rec base) = n.granule == rec && is_tag n.tag Rec
gives_tag facts n (RunsOrAsksWithin rec least most) = n.granule == rec && is_tag n.tag Rec
gives_tag facts n _ = false

-- whether it is one of so many granules, and one of the facts says so; addresses of none are Undelegated too
abbrev pub give_tag : ℕ → List Fact → Needed → Bool
give_tag granules facts n = is_granule granules n.granule && list_any (gives_tag facts n) facts

-- whether the fact says that the realm is there, and the address lies in its protected half
abbrev pub gives_half : ℕ → ℕ → Fact → Bool
gives_half rd ipa (Wide other width) = rd == other && nat_lt ipa (2 ^ (width - 1))
gives_half rd ipa _ = false

-- whether one of the facts says so
abbrev pub give_half : List Fact → ℕ → ℕ → Bool
give_half facts rd ipa = list_any (gives_half rd ipa) facts

-- whether the fact says that no realm is at the address
abbrev pub gives_none : ℕ → Fact → Bool
gives_none rd (Tagged granule tag) = rd == granule && not (is_tag tag Rd)
gives_none rd _ = false

-- whether the fact says that no realm has the VMID but one that isn't there, as one of the facts says
abbrev pub gives_vmid : List Fact → ℕ → Fact → Bool
gives_vmid facts vmid (SoleVmid rd its_vmid) = vmid == its_vmid && list_any (gives_none rd) facts
gives_vmid facts vmid _ = false

-- whether one of them says so
abbrev pub give_vmid : List Fact → ℕ → Bool
give_vmid facts vmid = list_any (gives_vmid facts vmid) facts

-- whether the fact says that what the REC asks for begins at the address, unless it runs
abbrev pub gives_base : ℕ → ℕ → Fact → Bool
gives_base rec base (AsksFrom other its_base) = rec == other && base == its_base
gives_base rec base (RunsOrAsksWithin other least most) = rec == other && base == least && base == most
gives_base rec base _ = false

-- whether the fact says that what it asks for ends at the address or later, unless it runs
abbrev pub gives_top : ℕ → ℕ → Fact → Bool
gives_top rec top (RunsOrAsksTo other its_top ripas) = rec == other && nat_le top its_top
gives_top rec top _ = false

-- whether the facts say that it asks for the pages, and there are some, unless it runs
abbrev pub give_pages : List Fact → ℕ → ℕ → ℕ → Bool
give_pages facts rec base top = nat_lt base top && is_page top && list_any (gives_base rec base) facts && list_any (gives_top rec top) facts

-- Whether no row behind those on words and tags refuses the call with ERROR_INPUT where the facts hold. A realm's tables begin at level 0 or 1, and
-- each version has SHA-256.
unfoldable pub are_within : List Fact → Call → Bool
are_within facts (call.GranuleDelegate granule) = true
are_within facts (call.GranuleUndelegate granule) = true
are_within facts (call.DataCreate rd granule ipa source flags digest) = give_half facts rd ipa
are_within facts (call.DataCreateUnknown rd granule ipa) = give_half facts rd ipa
are_within facts (call.RealmCreate rd root width level vmid algo) = algo == 0 && give_vmid facts vmid
are_within facts (call.RealmActivate rd) = true
are_within facts (call.RealmDestroy rd) = true
are_within facts (call.RecDestroy rec) = true
are_within facts (call.RecEnter rec) = true
are_within facts (call.RttCreate rd rtt ipa level) = nat_le 2 level && give_half facts rd ipa
are_within facts (call.RttRemove removal rd ipa level) = nat_le 2 level && give_half facts rd ipa
are_within facts (call.RttReadEntry rd ipa level) = nat_le 1 level && give_half facts rd ipa
are_within facts _ = false

-- whether the fact says that the REC runs
abbrev pub gives_running : ℕ → Fact → Bool
gives_running rec (RunsOn other at) = rec == other
gives_running rec _ = false

-- Whether the facts say that the call's REC runs or asks for its pages. Where it runs the call is refused for that, by a row before those on what is
-- asked for.
unfoldable pub asks_pages : List Fact → Call → Bool
asks_pages facts (call.RttSetRipas rd rec base top) = list_any (gives_running rec) facts || give_pages facts rec base top
asks_pages facts _ = false

-- whether the call is refused with ERROR_INPUT, though where the facts hold all is well that it says and names, or it is refused for its REC before
abbrev pub deny_input : ℕ → List Fact → Call → Reply → Bool
deny_input granules facts c given =
    is_refused_with 1 given && all_allowed (words_of c) && list_all (give_tag granules facts) (named c)
    && (are_within facts c || asks_pages facts c)

-- whether the fact says that the realm was activated
abbrev pub gives_run : ℕ → Fact → Bool
gives_run rd (Activated other) = rd == other
gives_run rd _ = false

-- whether the fact says that the REC is a realm's that was activated, as one of the facts says
abbrev pub gives_owner : List Fact → ℕ → Fact → Bool
gives_owner facts rec (OwnedBy other rd) = rec == other && list_any (gives_run rd) facts
gives_owner facts rec _ = false

-- whether a reply says that a realm isn't activated
abbrev pub is_refused_new : Reply → Bool
is_refused_new (reply.Ok words) = false
is_refused_new (reply.Err status index) = status == 2 && index == 0
is_refused_new reply.Misplaced = false

-- whether the call enters a REC whose realm was activated, as the facts say
unfoldable pub enters_run : List Fact → Call → Bool
enters_run facts (call.RecEnter rec) = list_any (gives_owner facts rec) facts
enters_run facts _ = false

-- whether it is refused as if that weren't
abbrev pub deny_new : List Fact → Call → Reply → Bool
deny_new facts c given = is_refused_new given && enters_run facts c

-- whether the fact says that the REC runs on no CPU
abbrev pub gives_idle : ℕ → Fact → Bool
gives_idle rec (Idle other) = rec == other
gives_idle rec (AsksFrom other base) = rec == other
gives_idle rec _ = false

-- whether the fact says that the REC can run
abbrev pub gives_runnable : ℕ → Fact → Bool
gives_runnable rec (Runnable other) = rec == other
gives_runnable rec _ = false

-- whether the fact says that the REC is the realm's
abbrev pub gives_realm : ℕ → ℕ → Fact → Bool
gives_realm rec rd (OwnedBy other its_rd) = rec == other && rd == its_rd
gives_realm rec rd _ = false

-- whether the facts say that no row on its REC refuses the call
unfoldable pub are_ready : List Fact → Call → Bool
are_ready facts (call.RecEnter rec) = list_any (gives_idle rec) facts && list_any (gives_runnable rec) facts
are_ready facts (call.RecDestroy rec) = list_any (gives_idle rec) facts
are_ready facts (call.RttSetRipas rd rec base top) = list_any (gives_idle rec) facts && list_any (gives_realm rec rd) facts
are_ready facts _ = false

-- whether the call is refused for its REC, though that is ready
abbrev pub deny_rec : List Fact → Call → Reply → Bool
deny_rec facts c given = is_refused_with 3 given && are_ready facts c

-- whether such a reply isn't given where all the facts hold, on a machine of so many granules
abbrev pub deny : ℕ → List Fact → Call → Reply → Bool
deny granules facts c given =
    list_any (λ (fact : Fact). denies fact c given) facts || deny_input granules facts c given || deny_new facts c given || deny_rec facts c given

-- whether the fact says that an address of the REC's realm is of another RIPAS than the one that is replied
abbrev pub gives_other_ripas : List Fact → ℕ → ℕ → Reply → Fact → Bool
gives_other_ripas facts rec ipa given (HasRipas rd at ripas) =
    is_one_entry at ipa && not (is_told ripas given) && list_any (gives_realm rec rd) facts
gives_other_ripas facts rec ipa given _ = false

-- whether such a reply isn't given inside of a REC where all the facts hold
unfoldable pub deny_inside : List Fact → Standing → Call → Reply → Bool
deny_inside facts (Inside rec reason) (call.IpaStateGet ipa) given = is_accepted given && list_any (gives_other_ripas facts rec ipa given) facts
deny_inside facts standing _ given = false
