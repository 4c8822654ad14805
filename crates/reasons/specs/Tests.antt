-- What a test asks of a state: whether it passes, and whether what it is about is there.
use Rattle.std.specs.Prelude.{ℕ, ◌+◌, Bool, true, not, ◌&&◌, nat_lt, nat_le, ◌==◌, min, Option, Some, None, is_some, is_none, Result, Ok, Err}
use Rattle.rmm_spec.specs.declared.accepted.Accepted.{Accepted}
use Rattle.rmm_spec.specs.declared.accepted.Accepted.TheVariants.{Done}
use Rattle.rmm_spec.specs.declared.change.Change.TheVariants.{RecordsChanged}
use Rattle.rmm_spec.specs.declared.entry.Entry.{Entry}
use Rattle.rmm_spec.specs.declared.refusal.Refusal.{Refusal}
use Rattle.rmm_spec.specs.declared.tag.Tag.TheVariants.{Rd, Rec}
use Rattle.rmm_spec.specs.declared.walked.Walked.{Walked}
use Rattle.rmm_spec.specs.Lookup.{allows_hash, has_tag, is_inside, is_vmid_used, has_rec, realm_at, rec_at, request_of, is_new, is_system_off}
use Rattle.rmm_spec.specs.State.{State, RealmRecord, RecRecord}
use Rattle.rmm_spec.specs.Step.Terms.{is_page, is_space, is_width}
use Rattle.rmm_spec.specs.Step.Table.{ripas_left}
use Rattle.rmm_spec.specs.Walk.{entry_size, table_number, walk, full, half, is_multiple, has_link, is_table, is_unassigned, is_assigned, is_unassigned_ns, is_assigned_ns, is_ram, entry_ripas}
use Rattle.reasons.specs.declared.test.EntryKind.{EntryKind}
use Rattle.reasons.specs.declared.test.EntryKind.TheVariants as kind
use Rattle.reasons.specs.declared.test.RealmTest.{RealmTest}
use Rattle.reasons.specs.declared.test.RealmTest.TheVariants as of_realm
use Rattle.reasons.specs.declared.test.RecTest.{RecTest}
use Rattle.reasons.specs.declared.test.RecTest.TheVariants as of_rec
use Rattle.reasons.specs.declared.test.WordTest.{WordTest}
use Rattle.reasons.specs.declared.test.WordTest.TheVariants as of_words
use Rattle.reasons.specs.declared.test.WalkTest.{WalkTest}
use Rattle.reasons.specs.declared.test.WalkTest.TheVariants as of_walk
use Rattle.reasons.specs.declared.test.Test.{Test}
use Rattle.reasons.specs.declared.test.Test.TheVariants as test

-- ---- whether it passes

abbrev pub word_passes : WordTest → ℕ → Bool
word_passes (of_words.AtMost most) word = nat_le word most
word_passes (of_words.Below limit) word = nat_lt word limit
word_passes (of_words.Between least most) word = nat_le least word && nat_le word most
word_passes of_words.Page word = is_page word
word_passes (of_words.Entry level) word = is_multiple word (entry_size (min level 3))
word_passes of_words.Width word = is_width word
word_passes (of_words.RootOf width) word = is_space width word
word_passes (of_words.BelowWord index other) word = nat_lt word other
word_passes (of_words.Apart index other) word = not (other == word)

abbrev pub realm_passes : RealmTest → RealmRecord → Bool
realm_passes of_realm.New realm = is_new realm
realm_passes of_realm.Begun realm = not (is_new realm)
realm_passes of_realm.On realm = not (is_system_off realm)
realm_passes (of_realm.NextIndex index) realm = index == realm.next_index
realm_passes (of_realm.StartsAbove level) realm = nat_lt realm.start_level level
realm_passes (of_realm.StartsBy level) realm = nat_le realm.start_level level
realm_passes (of_realm.Within ipa) realm = nat_lt ipa (full realm)
realm_passes (of_realm.Protected ipa) realm = nat_lt ipa (half realm)
realm_passes (of_realm.Unprotected ipa) realm = nat_le (half realm) ipa && nat_lt ipa (full realm)
realm_passes (of_realm.EndsProtected top) realm = nat_le top (half realm)

abbrev pub rec_passes : RecTest → RecRecord → Bool
rec_passes of_rec.Ready rec = is_none rec.cpu
rec_passes of_rec.Runnable rec = rec.runnable
rec_passes (of_rec.OwnedBy rd) rec = rec.owner == rd
rec_passes of_rec.Requesting rec = is_some rec.request
rec_passes (of_rec.From base) rec = base == (request_of rec).base
rec_passes (of_rec.By top) rec = nat_le top (request_of rec).top

abbrev pub is_kind : EntryKind → Entry → Bool
is_kind kind.Unassigned entry = is_unassigned entry
is_kind kind.Assigned entry = is_assigned entry
is_kind kind.UnassignedNs entry = is_unassigned_ns entry
is_kind kind.AssignedNs entry = is_assigned_ns entry
is_kind kind.Table entry = is_table entry

abbrev pub walk_passes : WalkTest → ℕ → Walked → Bool
walk_passes of_walk.Reaches level end = end.level == level
walk_passes (of_walk.Is wanted) level end = is_kind wanted end.entry
walk_passes of_walk.NoTable level end = not (is_table end.entry)
walk_passes of_walk.Ram level end = is_ram (entry_ripas end.entry)
walk_passes (of_walk.Begins base) level end = is_multiple base (entry_size end.level)
walk_passes (of_walk.EndsBy base top) level end = nat_le (base + entry_size end.level) top

-- a level past 3 is read as 3: words that are allowed have none
unfoldable pub passes : State → Test → Bool
passes s (test.OfWord index word asked) = word_passes asked word
passes s (test.Outside cpu) = not (is_inside s cpu)
passes s (test.Inside cpu) = is_inside s cpu
passes s (test.Idle rec) = is_none (rec_at s rec).pending
passes s (test.Tagged granule tag) = has_tag s granule tag
passes s (test.Hash algo) = allows_hash s.config.version algo
passes s (test.VmidFree vmid) = not (is_vmid_used s vmid)
passes s (test.OfRealm rd asked) = realm_passes asked (realm_at s rd)
passes s (test.OfRec rec asked) = rec_passes asked (rec_at s rec)
passes s (test.OfOwner rec asked) = realm_passes asked (realm_at s (rec_at s rec).owner)
passes s (test.NoRec rd) = not (has_tag s rd Rd && has_rec s rd)
passes s (test.NoLink rd) = not (has_link s rd (realm_at s rd).start_level 0)
passes s (test.OfWalk rd ipa level asked) = walk_passes asked level (walk s rd ipa (min level 3))
passes s (test.Removable removal rd ipa level) = is_some (ripas_left removal s rd level (table_number level ipa))

-- ---- whether the realm or the REC that it is about is there

unfoldable pub stands : State → Test → Bool
stands s (test.OfWord index word asked) = true
stands s (test.Outside cpu) = true
stands s (test.Inside cpu) = true
stands s (test.Idle rec) = has_tag s rec Rec
stands s (test.Tagged granule tag) = true
stands s (test.Hash algo) = true
stands s (test.VmidFree vmid) = true
stands s (test.OfRealm rd asked) = has_tag s rd Rd
stands s (test.OfRec rec asked) = has_tag s rec Rec
stands s (test.OfOwner rec asked) = has_tag s rec Rec
stands s (test.NoRec rd) = has_tag s rd Rd
stands s (test.NoLink rd) = has_tag s rd Rd
stands s (test.OfWalk rd ipa level asked) = has_tag s rd Rd
stands s (test.Removable removal rd ipa level) = has_tag s rd Rd

-- ---- places

-- the REC that an answer lets exit
abbrev pub exiting : Result Accepted Refusal → Option ℕ
exiting (Ok (Done words (RecordsChanged realm (Some change)))) = Some change.rec
exiting _ = None
