-- The conditions of each command.
use Rattle.std.specs.Prelude.{ℕ, ◌-◌, ◌^◌, List, [], ◌∷◌, ◌++◌, map}
use Rattle.rmm_spec.specs.declared.call.Call.{Call}
use Rattle.rmm_spec.specs.declared.call.Call.TheVariants as call
use Rattle.rmm_spec.specs.declared.call.Removal.{Removal}
use Rattle.rmm_spec.specs.declared.condition.Condition.{Condition}
use Rattle.rmm_spec.specs.declared.condition.Condition.TheVariants as condition
use Rattle.rmm_spec.specs.Rows.{Needed}
use Rattle.rmm_spec.specs.Step.Table.{left_condition}
use Rattle.rmm_spec.specs.Step.Terms.{Class, ByHost, ByRealm, ByExit, class_of, named}
use Rattle.reasons.specs.declared.asked.Asked.{Asked}
use Rattle.reasons.specs.declared.test.EntryKind.{EntryKind}
use Rattle.reasons.specs.declared.test.EntryKind.TheVariants as kind
use Rattle.reasons.specs.declared.test.RealmTest.{RealmTest}
use Rattle.reasons.specs.declared.test.RealmTest.TheVariants as of_realm
use Rattle.reasons.specs.declared.test.RecTest.{RecTest}
use Rattle.reasons.specs.declared.test.RecTest.TheVariants as of_rec
use Rattle.reasons.specs.declared.test.WalkTest.{WalkTest}
use Rattle.reasons.specs.declared.test.WalkTest.TheVariants as of_walk
use Rattle.reasons.specs.declared.test.WordTest.{WordTest}
use Rattle.reasons.specs.declared.test.WordTest.TheVariants as of_words
use Rattle.reasons.specs.declared.test.Test.{Test}
use Rattle.reasons.specs.declared.test.Test.TheVariants as test

abbrev pub asks : Condition → Test → Asked
asks condition test = record { condition = condition; test = test }

abbrev pub on_realm : ℕ → Condition → RealmTest → Asked
on_realm rd condition asked = asks condition (test.OfRealm rd asked)

abbrev pub on_rec : ℕ → Condition → RecTest → Asked
on_rec rec condition asked = asks condition (test.OfRec rec asked)

abbrev pub on_walk : ℕ → ℕ → ℕ → Condition → WalkTest → Asked
on_walk rd ipa level condition asked = asks condition (test.OfWalk rd ipa level asked)

-- of the word at the place
abbrev pub of_word : ℕ → ℕ → Condition → WordTest → Asked
of_word index word condition asked = asks condition (test.OfWord index word asked)

abbrev pub of_owner : ℕ → Condition → RealmTest → Asked
of_owner rec condition asked = asks condition (test.OfOwner rec asked)

-- a page of the protected half, whose entry is of the kind
abbrev pub page_conditions : ℕ → ℕ → EntryKind → List Asked
page_conditions rd ipa wanted =
    on_realm rd condition.IpaBound (of_realm.Protected ipa)
    ∷ on_walk rd ipa 3 condition.RttWalk of_walk.Reaches
    ∷ on_walk rd ipa 3 condition.RtteState (of_walk.Is wanted)
    ∷ []

-- a page of the other half
abbrev pub host_page_conditions : ℕ → ℕ → EntryKind → List Asked
host_page_conditions rd ipa wanted =
    on_realm rd condition.IpaBound (of_realm.Unprotected ipa)
    ∷ on_walk rd ipa 3 condition.RttWalk of_walk.Reaches
    ∷ on_walk rd ipa 3 condition.RtteState (of_walk.Is wanted)
    ∷ []

-- where a command of the CPU can be given, which is inside the REC if it is inside one
abbrev pub place_conditions : Class → ℕ → ℕ → List Asked
place_conditions ByHost cpu rec = asks condition.OwnOutside (test.Outside cpu) ∷ []
place_conditions ByRealm cpu rec = asks condition.OwnInside (test.Inside cpu) ∷ asks condition.OwnPending (test.Idle rec) ∷ []
place_conditions ByExit cpu rec = asks condition.OwnInside (test.Inside cpu) ∷ []

abbrev pub tag_condition : Needed → Asked
tag_condition needed = asks condition.GranState (test.Tagged needed.granule needed.tag)

-- a level, and an address at which an entry of another level begins
abbrev pub level_words : ℕ → ℕ → ℕ → ℕ → ℕ → List Asked
level_words at level place ipa unit =
    of_word at level condition.LevelBound (of_words.AtMost 3)
    ∷ of_word place ipa condition.IpaAlign (of_words.Entry unit)
    ∷ []

-- an address at which a page begins
abbrev pub of_page : ℕ → ℕ → Asked
of_page place ipa = of_word place ipa condition.IpaAlign of_words.Page

-- of the commands with several
abbrev pub data_create_words : ℕ → ℕ → List Asked
data_create_words ipa flags =
    of_word 4 flags condition.OwnFlags (of_words.AtMost 1)
    ∷ of_page 2 ipa
    ∷ []

abbrev pub realm_create_words : ℕ → ℕ → ℕ → ℕ → ℕ → List Asked
realm_create_words rd root width level vmid =
    of_word 1 root condition.Alias (of_words.Apart 0 rd)
    ∷ of_word 2 width condition.ParamsSupp of_words.Width
    ∷ of_word 3 level condition.RttNumLevel (of_words.RootOf width)
    ∷ of_word 4 vmid condition.VmidValid (of_words.AtMost 0xff)
    ∷ []

abbrev pub rec_create_words : ℕ → ℕ → ℕ → ℕ → List Asked
rec_create_words rec flags aux0 aux1 =
    of_word 4 aux0 condition.AuxAlias (of_words.Apart 1 rec)
    ∷ of_word 5 aux1 condition.AuxAlias (of_words.Apart 1 rec)
    ∷ of_word 5 aux1 condition.AuxAlias (of_words.Apart 4 aux0)
    ∷ of_word 3 flags condition.OwnFlags (of_words.AtMost 1)
    ∷ []

abbrev pub rtt_map_unprotected_words : ℕ → ℕ → List Asked
rtt_map_unprotected_words ipa page =
    of_page 1 ipa
    ∷ of_word 2 page condition.OwnPage of_words.Page
    ∷ of_word 2 page condition.OwnPage (of_words.Below (2 ^ 48))
    ∷ []

abbrev pub rtt_init_ripas_words : ℕ → ℕ → List Asked
rtt_init_ripas_words base top =
    of_word 1 base condition.OwnBase of_words.Page
    ∷ of_word 2 top condition.TopGranAlign of_words.Page
    ∷ of_word 1 base condition.SizeValid (of_words.BelowWord 2 top)
    ∷ []

abbrev pub measurement_extend_words : ℕ → ℕ → List Asked
measurement_extend_words index size =
    of_word 0 index condition.IndexBound (of_words.Between 1 4)
    ∷ of_word 1 size condition.SizeBound (of_words.Between 1 0x40)
    ∷ []

abbrev pub ipa_state_set_words : ℕ → ℕ → ℕ → List Asked
ipa_state_set_words base top ripas =
    of_word 0 base condition.BaseAlign of_words.Page
    ∷ of_word 1 top condition.TopAlign of_words.Page
    ∷ of_word 0 base condition.SizeValid (of_words.BelowWord 1 top)
    ∷ of_word 2 ripas condition.RipasValid (of_words.AtMost 1)
    ∷ []

-- the conditions on its words alone
unfoldable pub word_conditions : Call → List Asked
word_conditions (call.DataCreate rd granule ipa source flags digest) = data_create_words ipa flags
word_conditions (call.DataCreateUnknown rd granule ipa) = of_page 2 ipa ∷ []
word_conditions (call.DataDestroy rd ipa) = of_page 1 ipa ∷ []
word_conditions (call.RealmCreate rd root width level vmid algo) = realm_create_words rd root width level vmid
word_conditions (call.RecCreate rd rec mpidr flags aux0 aux1) = rec_create_words rec flags aux0 aux1
word_conditions (call.RttCreate rd rtt ipa level) = level_words 3 level 2 ipa (level - 1)
word_conditions (call.RttRemove removal rd ipa level) = level_words 2 level 1 ipa (level - 1)
word_conditions (call.RttMapUnprotected rd ipa page) = rtt_map_unprotected_words ipa page
word_conditions (call.RttUnmapUnprotected rd ipa) = of_page 1 ipa ∷ []
word_conditions (call.RttReadEntry rd ipa level) = level_words 2 level 1 ipa level
word_conditions (call.RttInitRipas rd base top) = rtt_init_ripas_words base top
word_conditions (call.MeasurementRead index) = of_word 0 index condition.IndexBound (of_words.AtMost 4) ∷ []
word_conditions (call.MeasurementExtend index size values) = measurement_extend_words index size
word_conditions (call.IpaStateSet base top ripas) = ipa_state_set_words base top ripas
word_conditions (call.IpaStateGet ipa) = of_page 0 ipa ∷ []
word_conditions (call.HostCall imm) = of_word 0 imm condition.OwnImm (of_words.Below 0x10000) ∷ []
word_conditions _ = []

-- of the commands with several
abbrev pub data_create_conditions : ℕ → ℕ → List Asked
data_create_conditions rd ipa =
    on_realm rd condition.IpaBound (of_realm.Protected ipa)
    ∷ on_realm rd condition.RealmState of_realm.New
    ∷ on_walk rd ipa 3 condition.RttWalk of_walk.Reaches
    ∷ on_walk rd ipa 3 condition.RtteState (of_walk.Is kind.Unassigned)
    ∷ on_walk rd ipa 3 condition.RtteRipas of_walk.Ram
    ∷ []

abbrev pub realm_create_conditions : ℕ → ℕ → List Asked
realm_create_conditions vmid algo =
    asks condition.ParamsSupp (test.Hash algo)
    ∷ asks condition.VmidValid (test.VmidFree vmid)
    ∷ []

abbrev pub realm_destroy_conditions : ℕ → List Asked
realm_destroy_conditions rd =
    asks condition.RealmLive (test.NoRec rd)
    ∷ asks condition.RealmLive (test.NoLink rd)
    ∷ []

abbrev pub rec_create_conditions : ℕ → ℕ → List Asked
rec_create_conditions rd mpidr =
    on_realm rd condition.RealmState of_realm.New
    ∷ on_realm rd condition.MpidrIndex (of_realm.NextIndex mpidr)
    ∷ of_word 2 mpidr condition.OwnRecCount (of_words.Below 8)
    ∷ []

abbrev pub rec_enter_conditions : ℕ → List Asked
rec_enter_conditions rec =
    of_owner rec condition.RealmNew of_realm.Begun
    ∷ of_owner rec condition.SystemOff of_realm.On
    ∷ on_rec rec condition.RecState of_rec.Ready
    ∷ on_rec rec condition.RecRunnable of_rec.Runnable
    ∷ []

abbrev pub rtt_create_conditions : ℕ → ℕ → ℕ → List Asked
rtt_create_conditions rd ipa level =
    on_realm rd condition.LevelBound (of_realm.StartsAbove level)
    ∷ on_realm rd condition.IpaBound (of_realm.Within ipa)
    ∷ on_walk rd ipa (level - 1) condition.RttWalk of_walk.Reaches
    ∷ on_walk rd ipa (level - 1) condition.RtteState of_walk.NoTable
    ∷ []

abbrev pub rtt_remove_conditions : Removal → ℕ → ℕ → ℕ → List Asked
rtt_remove_conditions removal rd ipa level =
    on_realm rd condition.LevelBound (of_realm.StartsAbove level)
    ∷ on_realm rd condition.IpaBound (of_realm.Within ipa)
    ∷ on_walk rd ipa (level - 1) condition.RttWalk of_walk.Reaches
    ∷ on_walk rd ipa (level - 1) condition.RtteState (of_walk.Is kind.Table)
    ∷ asks (left_condition removal) (test.Removable removal rd ipa level)
    ∷ []

abbrev pub rtt_read_entry_conditions : ℕ → ℕ → ℕ → List Asked
rtt_read_entry_conditions rd ipa level =
    on_realm rd condition.LevelBound (of_realm.StartsBy level)
    ∷ on_realm rd condition.IpaBound (of_realm.Within ipa)
    ∷ []

abbrev pub rtt_init_ripas_conditions : ℕ → ℕ → ℕ → List Asked
rtt_init_ripas_conditions rd base top =
    on_realm rd condition.TopBound (of_realm.EndsProtected top)
    ∷ on_realm rd condition.RealmState of_realm.New
    ∷ on_walk rd base 3 condition.RtteState (of_walk.Is kind.Unassigned)
    ∷ on_walk rd base 3 condition.BaseAlign (of_walk.Begins base)
    ∷ on_walk rd base 3 condition.TopRttAlign (of_walk.EndsBy base top)
    ∷ []

abbrev pub rtt_set_ripas_conditions : ℕ → ℕ → ℕ → ℕ → List Asked
rtt_set_ripas_conditions rd rec base top =
    on_rec rec condition.RecOwner (of_rec.OwnedBy rd)
    ∷ on_rec rec condition.RecState of_rec.Ready
    ∷ on_rec rec condition.OwnRequest of_rec.Requesting
    ∷ on_rec rec condition.BaseBound (of_rec.From base)
    ∷ on_rec rec condition.TopBound (of_rec.By top)
    ∷ of_word 2 base condition.SizeValid (of_words.BelowWord 3 top)
    ∷ of_word 3 top condition.TopGranAlign of_words.Page
    ∷ on_walk rd base 3 condition.BaseAlign (of_walk.Begins base)
    ∷ on_walk rd base 3 condition.TopRttAlign (of_walk.EndsBy base top)
    ∷ []

-- the conditions on records, tables and requests
unfoldable pub own_conditions : ℕ → Call → List Asked
own_conditions inside (call.DataCreate rd granule ipa source flags digest) = data_create_conditions rd ipa
own_conditions inside (call.DataCreateUnknown rd granule ipa) = page_conditions rd ipa kind.Unassigned
own_conditions inside (call.DataDestroy rd ipa) = page_conditions rd ipa kind.Assigned
own_conditions inside (call.RealmActivate rd) = on_realm rd condition.RealmState of_realm.New ∷ []
own_conditions inside (call.RealmCreate rd root width level vmid algo) = realm_create_conditions vmid algo
own_conditions inside (call.RealmDestroy rd) = realm_destroy_conditions rd
own_conditions inside (call.RecCreate rd rec mpidr flags aux0 aux1) = rec_create_conditions rd mpidr
own_conditions inside (call.RecDestroy rec) = on_rec rec condition.RecState of_rec.Ready ∷ []
own_conditions inside (call.RecEnter rec) = rec_enter_conditions rec
own_conditions inside (call.RttCreate rd rtt ipa level) = rtt_create_conditions rd ipa level
own_conditions inside (call.RttRemove removal rd ipa level) = rtt_remove_conditions removal rd ipa level
own_conditions inside (call.RttMapUnprotected rd ipa page) = host_page_conditions rd ipa kind.UnassignedNs
own_conditions inside (call.RttUnmapUnprotected rd ipa) = host_page_conditions rd ipa kind.AssignedNs
own_conditions inside (call.RttReadEntry rd ipa level) = rtt_read_entry_conditions rd ipa level
own_conditions inside (call.RttInitRipas rd base top) = rtt_init_ripas_conditions rd base top
own_conditions inside (call.RttSetRipas rd rec base top) = rtt_set_ripas_conditions rd rec base top
own_conditions inside (call.IpaStateSet base top ripas) = of_owner inside condition.RgnBound (of_realm.EndsProtected top) ∷ []
own_conditions inside (call.IpaStateGet ipa) = of_owner inside condition.IpaBound (of_realm.Protected ipa) ∷ []
own_conditions inside _ = []

-- all conditions of a command of the CPU, which is inside the REC if it is inside one, in their order
unfoldable pub conditions : ℕ → ℕ → Call → List Asked
unfolding class_of named
conditions cpu rec given =
    place_conditions (class_of given) cpu rec
    ++ (word_conditions given ++ (map tag_condition (named given) ++ own_conditions rec given))
