-- Facts that some calls make and others end: in which states they hold, which calls make them, and which may end them.
-- This project's own.
use Rattle.std.specs.Prelude.{ℕ, ◌-◌, ◌*◌, ◌^◌, ◌==◌, ◌&&◌, ◌||◌, nat_le, nat_lt, if◌then◌else◌, Bool, true, false, not, List, [], ◌∷◌, Option, None, Some, is_none, is_some}
use Rattle.std.specs.List.{list_any}
use Rattle.rmm_spec.specs.declared.call.Call.{Call}
use Rattle.rmm_spec.specs.declared.call.Call.TheVariants as call
use Rattle.rmm_spec.specs.declared.entry.Entry.{Entry}
use Rattle.rmm_spec.specs.declared.entry.Entry.TheVariants as entry
use Rattle.rmm_spec.specs.declared.reply.Reply.{Reply}
use Rattle.rmm_spec.specs.declared.reply.Reply.TheVariants as reply
use Rattle.rmm_spec.specs.declared.tag.Tag.{Tag}
use Rattle.rmm_spec.specs.declared.tag.Tag.TheVariants.{Undelegated, Delegated, Rd, Rec, RecAux, Data, Rtt}
use Rattle.rmm_spec.specs.Lookup.{any_below, has_vmid, is_new, request_of, ripas_number, runs_on, tag_number}
use Rattle.rmm_spec.specs.Rows.{Needed}
use Rattle.rmm_spec.specs.State.{RealmRecord, RecRecord, Request, State}
use Rattle.rmm_spec.specs.Walk.{entry_number, entry_ripas, is_multiple, is_ram, is_unassigned, table_number, table_size}
use Rattle.verdict_laws.specs.declared.facts.Fact.{Fact}
use Rattle.verdict_laws.specs.declared.facts.Fact.TheVariants.{NewRealm, Tagged, Covered, Wide, SoleVmid, PartOf, Unassigned, UnassignedRam, Assigned, HasRipas, Activated, OwnedBy, Runnable, Idle, RunsOn, AsksFrom, RunsOrAsksWithin, RunsOrAsksTo}
use Rattle.verdict_laws.specs.declared.placing.ExitReason.{ExitReason}
use Rattle.verdict_laws.specs.declared.placing.ExitReason.TheVariants.{RipasChange}
use Rattle.verdict_laws.specs.declared.placing.Standing.{Standing}
use Rattle.verdict_laws.specs.declared.placing.Standing.TheVariants.{Inside, Outside}
use Rattle.verdict_laws.specs.Separate.{is_freed}
use Rattle.verdict_laws.specs.Slices.{changeable, leaves_unused}

-- ---- in a state

-- whether a realm isn't activated, or isn't there
abbrev pub is_still_new : Option RealmRecord → Bool
is_still_new None = true
is_still_new (Some realm) = is_new realm

abbrev pub is_tag : Tag → Tag → Bool
is_tag one other = tag_number one == tag_number other

-- whether one table of the level covers both addresses
abbrev pub is_one_table : ℕ → ℕ → ℕ → Bool
is_one_table level ipa other = table_number level ipa == table_number level other

-- whether a realm's table of the level covers the address
abbrev pub is_covered : State → ℕ → ℕ → ℕ → Bool
is_covered s rd level ipa = is_some (s.table rd level (table_number level ipa))

-- whether a realm is there, and its addresses have so many bits
abbrev pub has_width : Option RealmRecord → ℕ → Bool
has_width None width = false
has_width (Some realm) width = realm.width == width

-- whether a realm at another address has the VMID
abbrev pub is_shared : State → ℕ → ℕ → Bool
is_shared s rd vmid = any_below s.config.granules (λ k. not (rd == k * 4096) && has_vmid vmid (s.realm (k * 4096)))

-- whether a realm is there, and the granule is its root table
abbrev pub has_root : Option RealmRecord → ℕ → Bool
has_root None granule = false
has_root (Some realm) granule = realm.root == granule

-- whether a REC is there, and the granule is one of its auxiliary ones
abbrev pub has_aux : Option RecRecord → ℕ → Bool
has_aux None granule = false
has_aux (Some rec) granule = rec.aux0 == granule || rec.aux1 == granule

-- whether the granule belongs to the realm or to the REC at the owner's address
abbrev pub is_part : State → ℕ → ℕ → Bool
is_part s granule owner = has_root (s.realm owner) granule || has_aux (s.rec owner) granule

-- whether two addresses have one entry of the last level
abbrev pub is_one_entry : ℕ → ℕ → Bool
is_one_entry ipa other = entry_number 3 ipa == entry_number 3 other

-- whether there is an entry, which is unassigned and protected
abbrev pub is_free : Option Entry → Bool
is_free None = false
is_free (Some entry) = is_unassigned entry

-- whether there is an entry, which has the page
abbrev pub has_page : Option Entry → ℕ → Bool
has_page (Some (entry.Assigned ripas at)) page = page == at
has_page _ page = false

-- whether there is an entry, which is protected and of the RIPAS of that number
abbrev pub has_ripas : Option Entry → ℕ → Bool
has_ripas (Some (entry.Unassigned ripas)) number = ripas_number ripas == number
has_ripas (Some (entry.Assigned ripas at)) number = ripas_number ripas == number
has_ripas _ number = false

-- whether there is an entry, which is unassigned RAM
abbrev pub is_free_ram : Option Entry → Bool
is_free_ram None = false
is_free_ram (Some entry) = is_unassigned entry && is_ram (entry_ripas entry)

-- whether a realm is there, and was activated
abbrev pub has_run : Option RealmRecord → Bool
has_run None = false
has_run (Some realm) = not (is_new realm)

-- whether a REC is there, and the realm's
abbrev pub has_owner : Option RecRecord → ℕ → Bool
has_owner None rd = false
has_owner (Some rec) rd = rec.owner == rd

-- whether a REC is there, and can run
abbrev pub can_run : Option RecRecord → Bool
can_run None = false
can_run (Some rec) = rec.runnable

-- whether a REC is there, and runs on no CPU
abbrev pub is_idle : Option RecRecord → Bool
is_idle None = false
is_idle (Some rec) = is_none rec.cpu

-- whether a REC is there, runs on no CPU, and what it asks for begins at the address, or is nothing and the address is 0
abbrev pub asks_from : Option RecRecord → ℕ → Bool
asks_from None base = false
asks_from (Some rec) base = is_none rec.cpu && (request_of rec).base == base

-- whether an address is one of these
abbrev pub is_within : ℕ → ℕ → ℕ → Bool
is_within least most address = nat_le least address && nat_le address most

-- whether a REC is there, and runs, or what it asks for begins at one of these addresses, or is nothing and 0 is one of them
abbrev pub runs_or_asks : Option RecRecord → ℕ → ℕ → Bool
runs_or_asks None least most = false
runs_or_asks (Some rec) least most = is_some rec.cpu || is_within least most (request_of rec).base

-- whether something is asked for that ends at the address, and is the RIPAS of that number
abbrev pub is_up_to : Option Request → ℕ → ℕ → Bool
is_up_to None top ripas = false
is_up_to (Some request) top ripas = request.top == top && ripas_number request.ripas == ripas

-- whether a REC is there, and runs, or asks for that
abbrev pub runs_or_asks_to : Option RecRecord → ℕ → ℕ → Bool
runs_or_asks_to None top ripas = false
runs_or_asks_to (Some rec) top ripas = is_some rec.cpu || is_up_to rec.request top ripas

-- whether the fact holds
abbrev pub holds : Fact → State → Bool
holds (Wide rd width) s = has_width (s.realm rd) width
holds (SoleVmid rd vmid) s = not (is_shared s rd vmid)
holds (PartOf granule owner) s = is_part s granule owner || is_tag (s.tag granule) Delegated
holds (Unassigned rd ipa) s = is_free (s.leaf rd 3 (entry_number 3 ipa))
holds (UnassignedRam rd ipa) s = is_free_ram (s.leaf rd 3 (entry_number 3 ipa))
holds (Assigned rd ipa page) s = has_page (s.leaf rd 3 (entry_number 3 ipa)) page
holds (NewRealm rd) s = is_still_new (s.realm rd)
holds (Tagged granule tag) s = is_tag (s.tag granule) tag
holds (Covered rd level ipa) s = is_covered s rd level ipa
holds (HasRipas rd ipa ripas) s = has_ripas (s.leaf rd 3 (entry_number 3 ipa)) ripas
holds (Activated rd) s = has_run (s.realm rd)
holds (OwnedBy rec rd) s = has_owner (s.rec rec) rd
holds (Runnable rec) s = can_run (s.rec rec)
holds (Idle rec) s = is_idle (s.rec rec)
holds (RunsOn rec at) s = runs_on at (s.rec rec)
holds (AsksFrom rec base) s = asks_from (s.rec rec) base
holds (RunsOrAsksWithin rec least most) s = runs_or_asks (s.rec rec) least most
holds (RunsOrAsksTo rec top ripas) s = runs_or_asks_to (s.rec rec) top ripas

-- whether it does before the first call
abbrev pub begins : Fact → Bool
begins (NewRealm rd) = true
begins (Tagged granule tag) = is_tag Undelegated tag
begins (Covered rd level ipa) = false
begins (Wide rd width) = false
begins (SoleVmid rd vmid) = true
begins (PartOf granule owner) = false
begins (Unassigned rd ipa) = false
begins (UnassignedRam rd ipa) = false
begins (Assigned rd ipa page) = false
begins (HasRipas rd ipa ripas) = false
begins (Activated rd) = false
begins (OwnedBy rec rd) = false
begins (Runnable rec) = false
begins (Idle rec) = false
begins (RunsOn rec at) = false
begins (AsksFrom rec base) = false
begins (RunsOrAsksWithin rec least most) = false
begins (RunsOrAsksTo rec top ripas) = false

-- ---- calls that make it

unfoldable pub makes_realm : Call → ℕ → Bool
makes_realm (call.RealmCreate rd root width level vmid algo) granule = rd == granule
makes_realm _ granule = false

unfoldable pub makes_rec : Call → ℕ → Bool
makes_rec (call.RecCreate rd rec mpidr flags aux0 aux1) granule = rec == granule
makes_rec _ granule = false

unfoldable pub gives_page : Call → ℕ → Bool
gives_page (call.DataCreate rd page ipa source flags digest) granule = page == granule
gives_page (call.DataCreateUnknown rd page ipa) granule = page == granule
gives_page _ granule = false

unfoldable pub makes_table : Call → ℕ → ℕ → ℕ → Bool
makes_table (call.RttCreate other rtt at its_level) rd level ipa = rd == other && level == its_level && is_one_table level ipa at
makes_table _ rd level ipa = false

unfoldable pub makes_wide : Call → ℕ → ℕ → Bool
makes_wide (call.RealmCreate other root its_width level vmid algo) rd width = rd == other && width == its_width
makes_wide _ rd width = false

unfoldable pub makes_vmid : Call → ℕ → ℕ → Bool
makes_vmid (call.RealmCreate other root width level its_vmid algo) rd vmid = rd == other && vmid == its_vmid
makes_vmid _ rd vmid = false

-- whether the call makes the owner of the granule
unfoldable pub takes_part : Call → ℕ → ℕ → Bool
takes_part (call.RealmCreate rd root width level vmid algo) granule owner = owner == rd && root == granule
takes_part (call.RecCreate rd rec mpidr flags aux0 aux1) granule owner = owner == rec && (aux0 == granule || aux1 == granule)
takes_part _ granule owner = false

-- whether the call gives the page to the address
unfoldable pub gives_entry : Call → ℕ → ℕ → ℕ → Bool
gives_entry (call.DataCreate other granule at source flags digest) rd ipa page = rd == other && is_one_entry ipa at && page == granule
gives_entry (call.DataCreateUnknown other granule at) rd ipa page = rd == other && is_one_entry ipa at && page == granule
gives_entry _ rd ipa page = false

-- whether the call takes the page at the address back
unfoldable pub frees_entry : Call → ℕ → ℕ → Bool
frees_entry (call.DataDestroy other at) rd ipa = rd == other && is_one_entry ipa at
frees_entry _ rd ipa = false

-- whether a stretch from the one address is told to end at another which isn't as far as whole tables of the last level, and past a third one
abbrev pub ends_past : ℕ → ℕ → List ℕ → Bool
ends_past base ipa (top ∷ []) = nat_lt ipa top && not (is_multiple (top - base) (table_size 3))
ends_past base ipa _ = false

abbrev pub is_told_past : ℕ → ℕ → Reply → Bool
is_told_past base ipa (reply.Ok words) = ends_past base ipa words.items
is_told_past base ipa _ = false

-- Whether the call, carried out with that reply, makes the address RAM by an entry of the last level: entries of other levels span whole tables
-- of the last.
unfoldable pub sets_ram : Call → Reply → ℕ → ℕ → Bool
sets_ram (call.RttInitRipas other base top) given rd ipa = rd == other && nat_le base ipa && is_told_past base ipa given
sets_ram _ given rd ipa = false

-- whether DATA_CREATE gives the address a page
unfoldable pub creates_page : Call → ℕ → ℕ → Bool
creates_page (call.DataCreate other granule at source flags digest) rd ipa = rd == other && is_one_entry ipa at
creates_page _ rd ipa = false

-- whether DATA_CREATE_UNKNOWN does
unfoldable pub creates_unknown : Call → ℕ → ℕ → Bool
creates_unknown (call.DataCreateUnknown other granule at) rd ipa = rd == other && is_one_entry ipa at
creates_unknown _ rd ipa = false

unfoldable pub activates : Call → ℕ → Bool
activates (call.RealmActivate other) rd = rd == other
activates _ rd = false

unfoldable pub makes_owned : Call → ℕ → ℕ → Bool
makes_owned (call.RecCreate its_rd other mpidr flags aux0 aux1) rec rd = rec == other && rd == its_rd
makes_owned _ rec rd = false

unfoldable pub makes_runnable : Call → ℕ → Bool
makes_runnable (call.RecCreate rd other mpidr flags aux0 aux1) rec = rec == other && flags == 1
makes_runnable _ rec = false

unfoldable pub enters : Call → ℕ → Bool
enters (call.RecEnter other) rec = rec == other
enters _ rec = false

-- whether the only word is the address
abbrev pub is_word : ℕ → List ℕ → Bool
is_word address (word ∷ []) = address == word
is_word address _ = false

abbrev pub is_told : ℕ → Reply → Bool
is_told address (reply.Ok words) = is_word address words.items
is_told address _ = false

-- whether the call makes a REC that asks for nothing, or sets what one asked for up to the address
unfoldable pub moves_request : Call → Reply → ℕ → ℕ → Bool
moves_request (call.RecCreate rd other mpidr flags aux0 aux1) given rec base = rec == other && base == 0
moves_request (call.RttSetRipas rd other from top) given rec base = rec == other && is_told base given
moves_request _ given rec base = false

-- whether the call, carried out with that reply, leaves the granule with the tag
abbrev pub tags : Call → Reply → ℕ → Tag → Bool
tags c given granule Undelegated = leaves_unused c given granule false
tags c given granule Delegated = leaves_unused c given granule true
tags c given granule Rd = makes_realm c granule
tags c given granule Rec = makes_rec c granule
tags c given granule RecAux = false
tags c given granule Data = gives_page c granule
tags c given granule Rtt = false

-- Whether the CPU's call makes the fact, where it is carried out with that reply. Each realm has addresses of 39 bits at least, and the lower half of
-- them is protected, so below 2 ^ 38 a new table of the last level has unassigned entries alone.
abbrev pub makes : Fact → ℕ → Call → Reply → Bool
makes (NewRealm rd) cpu c given = makes_realm c rd
makes (Tagged granule tag) cpu c given = tags c given granule tag
makes (Covered rd level ipa) cpu c given = makes_table c rd level ipa
makes (Wide rd width) cpu c given = makes_wide c rd width
makes (SoleVmid rd vmid) cpu c given = makes_vmid c rd vmid
makes (PartOf granule owner) cpu c given = takes_part c granule owner
makes (Unassigned rd ipa) cpu c given = frees_entry c rd ipa || (makes_table c rd 3 ipa && nat_lt ipa (2 ^ 38))
makes (UnassignedRam rd ipa) cpu c given = sets_ram c given rd ipa
makes (Assigned rd ipa page) cpu c given = gives_entry c rd ipa page
makes (HasRipas rd ipa ripas) cpu c given = ripas == 1 && (sets_ram c given rd ipa || creates_page c rd ipa)
makes (Activated rd) cpu c given = activates c rd
makes (OwnedBy rec rd) cpu c given = makes_owned c rec rd
makes (Runnable rec) cpu c given = makes_runnable c rec
makes (Idle rec) cpu c given = makes_rec c rec
makes (RunsOn rec at) cpu c given = at == cpu && enters c rec
makes (AsksFrom rec base) cpu c given = moves_request c given rec base
makes (RunsOrAsksWithin rec least most) cpu c given = enters c rec || (moves_request c given rec least && nat_le least most)
makes (RunsOrAsksTo rec top ripas) cpu c given = enters c rec

-- whether the call, carried out with that reply, sets the RIPAS that the REC asks for, and the address has an entry there of the last level
unfoldable pub sets_ripas : Call → Reply → ℕ → ℕ → ℕ → Bool
sets_ripas (call.RttSetRipas other its_rec base top) given rec rd ipa =
    rec == its_rec && rd == other && nat_le base ipa && is_told_past base ipa given
sets_ripas _ given rec rd ipa = false

-- whether the call makes the fact, where it is carried out with that reply and another holds before: the REC asks for that
abbrev pub makes_with : Fact → Fact → Call → Reply → Bool
makes_with (RunsOrAsksTo rec top asked) (HasRipas rd ipa ripas) c given = ripas == asked && sets_ripas c given rec rd ipa
makes_with other fact c given = false

-- whether the fact is so of a REC that leaves for the reason; what is asked for has pages
abbrev pub is_left_with : Fact → ℕ → ExitReason → Bool
is_left_with (Idle rec) at reason = rec == at
is_left_with (AsksFrom rec base) at (RipasChange from top ripas) = rec == at && base == from
is_left_with (RunsOrAsksWithin rec least most) at (RipasChange from top ripas) = rec == at && least == from && nat_le least most
is_left_with (RunsOrAsksTo rec top ripas) at (RipasChange from its_top its_ripas) =
    rec == at && top == its_top && ripas == its_ripas && nat_lt from its_top
is_left_with _ at reason = false

-- whether the call makes the fact, where it is carried out and its CPU stands there: a REC leaves, and so it is of it
unfoldable pub leaves_with : Fact → Call → Standing → Bool
leaves_with fact call.Exit (Inside rec reason) = is_left_with fact rec reason
leaves_with fact _ standing = false

-- ---- calls that may end it

unfoldable pub may_activate : Call → ℕ → Bool
may_activate (call.RealmActivate other) rd = rd == other
may_activate call.SystemOff rd = true
may_activate _ rd = false

unfoldable pub may_uncover : Call → ℕ → ℕ → ℕ → Bool
may_uncover (call.RttRemove removal other at its_level) rd level ipa =
    rd == other && level == its_level && is_one_table level ipa at
may_uncover (call.RealmDestroy other) rd level ipa = rd == other
may_uncover _ rd level ipa = false

unfoldable pub may_narrow : Call → ℕ → Bool
may_narrow (call.RealmCreate other root width level vmid algo) rd = rd == other
may_narrow (call.RealmDestroy other) rd = rd == other
may_narrow _ rd = false

-- whether the call may give the VMID to a realm at another address
unfoldable pub may_share : Call → ℕ → ℕ → Bool
may_share (call.RealmCreate other root width level its_vmid algo) rd vmid = vmid == its_vmid && not (rd == other)
may_share _ rd vmid = false

-- whether the call may put another entry than a page or a free one in place of the address's, or take out its table
unfoldable pub may_reshape : Call → ℕ → ℕ → Bool
may_reshape (call.RttMapUnprotected other at page) rd ipa = rd == other && is_one_entry ipa at
may_reshape (call.RttUnmapUnprotected other at) rd ipa = rd == other && is_one_entry ipa at
may_reshape (call.RttCreate other rtt at level) rd ipa = rd == other && level == 3 && is_one_table 3 ipa at
may_reshape (call.RttRemove removal other at level) rd ipa = rd == other && level == 3 && is_one_table 3 ipa at
may_reshape (call.RealmDestroy other) rd ipa = rd == other
may_reshape _ rd ipa = false

-- whether the call may put another entry in place of the address's, but for one whose page it takes back
abbrev pub may_assign : Call → ℕ → ℕ → Bool
may_assign c rd ipa = may_reshape c rd ipa || creates_page c rd ipa || creates_unknown c rd ipa

-- whether the call may set the RIPAS of the address as a REC asked
unfoldable pub may_set_ripas : Call → ℕ → ℕ → Bool
may_set_ripas (call.RttSetRipas other rec base top) rd ipa = rd == other && nat_le (entry_number 3 base) (entry_number 3 ipa) && nat_lt ipa top
may_set_ripas _ rd ipa = false

-- whether the call may set the RIPAS of a realm that isn't activated
unfoldable pub may_init : Call → ℕ → Bool
may_init (call.RttInitRipas other base top) rd = rd == other
may_init _ rd = false

-- whether one of these needs the tag of the granule
abbrev pub needs : List Needed → ℕ → Tag → Bool
needs names granule tag = list_any (λ (n : Needed). n.granule == granule && is_tag n.tag tag) names

unfoldable pub destroys : Call → ℕ → Bool
destroys (call.RealmDestroy rd) granule = rd == granule
destroys (call.RecDestroy rec) granule = rec == granule
destroys _ granule = false

-- whether the call may take the tag off the granule; of auxiliary granules and tables that isn't looked at
abbrev pub may_retag : Call → Reply → ℕ → Tag → Bool
may_retag c given granule Undelegated = needs (changeable c) granule Undelegated
may_retag c given granule Delegated = needs (changeable c) granule Delegated
may_retag c given granule Rd = destroys c granule
may_retag c given granule Rec = destroys c granule
may_retag c given granule RecAux = true
may_retag c given granule Data = is_freed c given granule
may_retag c given granule Rtt = true

-- whether the call may turn the REC off, where its CPU is in that
unfoldable pub turns_off : Call → Bool
turns_off call.CpuOff = true
turns_off _ = false

-- whether a REC leaves by the call
unfoldable pub exits : Call → Bool
exits call.Exit = true
exits _ = false

-- whether the call sets a part of what the REC asks for, from there on
unfoldable pub sets_from : Call → ℕ → ℕ → Bool
sets_from (call.RttSetRipas rd other from top) rec base = rec == other && base == from
sets_from _ rec base = false

-- whether the call sets a part of what the REC asks for, from one of these addresses on, and may go past them
unfoldable pub sets_past : Call → ℕ → ℕ → ℕ → Bool
sets_past (call.RttSetRipas rd other base top) rec least most = rec == other && is_within least most base && not (nat_le top most)
sets_past _ rec least most = false

-- whether the CPU's call may end the fact, where it is carried out with that reply
abbrev pub may_end : Fact → ℕ → Call → Reply → Bool
may_end (NewRealm rd) cpu c given = may_activate c rd
may_end (Tagged granule tag) cpu c given = may_retag c given granule tag
may_end (Covered rd level ipa) cpu c given = may_uncover c rd level ipa
may_end (Wide rd width) cpu c given = may_narrow c rd
may_end (SoleVmid rd vmid) cpu c given = may_share c rd vmid
may_end (PartOf granule owner) cpu c given = needs (changeable c) granule Delegated
may_end (Unassigned rd ipa) cpu c given = may_assign c rd ipa
may_end (UnassignedRam rd ipa) cpu c given = may_assign c rd ipa || frees_entry c rd ipa || may_set_ripas c rd ipa
may_end (Assigned rd ipa page) cpu c given = may_reshape c rd ipa || (frees_entry c rd ipa && is_freed c given page)
may_end (HasRipas rd ipa ripas) cpu c given =
    may_reshape c rd ipa || (if ripas == 1 then frees_entry c rd ipa else creates_page c rd ipa) || may_set_ripas c rd ipa || may_init c rd
may_end (Activated rd) cpu c given = may_narrow c rd
may_end (OwnedBy rec rd) cpu c given = destroys c rec
may_end (Runnable rec) cpu c given = destroys c rec || turns_off c
may_end (Idle rec) cpu c given = destroys c rec || enters c rec
may_end (RunsOn rec at) cpu c given = exits c && at == cpu
may_end (AsksFrom rec base) cpu c given = destroys c rec || enters c rec || sets_from c rec base
may_end (RunsOrAsksWithin rec least most) cpu c given = destroys c rec || exits c || sets_past c rec least most
may_end (RunsOrAsksTo rec top ripas) cpu c given = destroys c rec || exits c

-- whether the call sets the RIPAS that the REC asks for
unfoldable pub sets_asked : Call → ℕ → Bool
sets_asked (call.RttSetRipas rd other base top) rec = rec == other
sets_asked _ rec = false

-- whether the call leaves the fact where another holds before: the REC asks for that
abbrev pub leaves_beside : Fact → Fact → Call → Bool
leaves_beside (RunsOrAsksTo rec top asked) (HasRipas rd ipa ripas) c = ripas == asked && sets_asked c rec
leaves_beside other fact c = false

-- whether a CPU that stands there is in another REC, or in none
abbrev pub is_elsewhere : Standing → ℕ → Bool
is_elsewhere Outside rec = true
is_elsewhere (Inside at reason) rec = not (rec == at)

-- whether no exit of such a CPU is this REC's
unfoldable pub exits_other : Call → Standing → ℕ → Bool
exits_other call.Exit standing rec = is_elsewhere standing rec
exits_other _ standing rec = false

-- whether it isn't this REC that turns itself off
unfoldable pub turns_off_other : Call → Standing → ℕ → Bool
turns_off_other call.CpuOff standing rec = is_elsewhere standing rec
turns_off_other _ standing rec = false

-- Whether the call of a CPU that stands there leaves the fact, though it may end it from elsewhere: another REC turns itself off or leaves, or this
-- one leaves as the fact says.
abbrev pub stays_with : Fact → Call → Standing → Bool
stays_with (Runnable rec) c standing = turns_off_other c standing rec
stays_with (RunsOrAsksWithin rec least most) c standing =
    exits_other c standing rec || leaves_with (RunsOrAsksWithin rec least most) c standing
stays_with (RunsOrAsksTo rec top ripas) c standing = exits_other c standing rec || leaves_with (RunsOrAsksTo rec top ripas) c standing
stays_with fact c standing = false
