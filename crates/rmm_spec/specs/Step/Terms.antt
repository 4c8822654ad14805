-- What a command says by itself: who gives it, what its words must say whatever the state, which granules it names, each with the
-- tag that it needs there, and where it walks.
-- Where a word doesn't say what it must, the reply is ERROR_INPUT. The name before each is that of the failure condition in DEN0137;
-- "own" is this profile's. RTT_SET_RIPAS has none here: what it requires of base and top stands behind rows with other replies.
-- Where a granule has another tag, or the word is no granule's address, the reply is ERROR_INPUT too (in DEN0137 the conditions on a
-- word's alignment, bound and granule state). A realm call names none: it finds its realm through its REC, as REC_ENTER does.
use Rattle.std.specs.Prelude.{ℕ, ◌-◌, ◌^◌, Bool, not, ◌&&◌, ◌||◌, nat_lt, nat_le, ◌==◌, List, [], ◌∷◌, Option, Some, None}
use Rattle.rmm_spec.specs.declared.call.Call.{Call}
use Rattle.rmm_spec.specs.declared.call.Call.TheVariants as call
use Rattle.rmm_spec.specs.declared.condition.Condition.TheVariants.{Alias, AuxAlias, BaseAlign, IndexBound, IpaAlign, LevelBound, OwnBase, OwnFlags, OwnImm, OwnPage, ParamsSupp, RipasValid, RttNumLevel, SizeBound, SizeValid, TopAlign, TopGranAlign, VmidValid}
use Rattle.rmm_spec.specs.declared.tag.Tag.{Tag}
use Rattle.rmm_spec.specs.declared.tag.Tag.TheVariants.{Undelegated, Delegated, Rd, Rec}
use Rattle.rmm_spec.specs.Rows.{Word, word, Needed}
use Rattle.rmm_spec.specs.Walk.{entry_size, is_multiple}

-- who gives a command: a realm's host (RMI), a realm from inside a REC (RSI, PSCI), or a REC that leaves to its host
pub data Class : Type 0 where
  ByHost : Class
  ByRealm : Class
  ByExit : Class

-- a walk in the tables of a realm, for an address, down to a level
pub record Way : Type 0 where
  pub rd : ℕ
  pub ipa : ℕ
  pub max : ℕ

abbrev pub way : ℕ → ℕ → ℕ → Way
way rd ipa max = record { rd = rd; ipa = ipa; max = max }

-- what a command says: a host's with its words and what it names; one that walks, which names its realm first, and then the others;
-- a realm's call; the exit
pub data Terms : Type 0 where
  OfHost : List Word → List Needed → Terms
  OfWalk : Way → List Word → List Needed → Terms
  OfRealm : List Word → Terms
  OfExit : Terms

abbrev pub needed : ℕ → Tag → Needed
needed granule tag = record { granule = granule; tag = tag }

abbrev pub is_page : ℕ → Bool
is_page address = is_multiple address 4096

-- how many bits a realm's addresses can have
abbrev pub is_width : ℕ → Bool
is_width width = width == 0x27 || width == 0x30

-- the address spaces that a realm can have: 39 bits from level 1, or 48 bits from level 0
abbrev pub is_space : ℕ → ℕ → Bool
is_space width level = (width == 0x27 && level == 1) || (width == 0x30 && level == 0)

unfoldable pub terms_of : Call → Terms
terms_of (call.GranuleDelegate granule) = OfHost [] (needed granule Undelegated ∷ [])
terms_of (call.GranuleUndelegate granule) = OfHost [] (needed granule Delegated ∷ [])
terms_of (call.DataCreate rd granule ipa source flags digest) =
    OfWalk (way rd ipa 3)
    (word OwnFlags (nat_le flags 1)
    ∷ word IpaAlign (is_page ipa)
    ∷ [])
    (needed granule Delegated ∷ needed source Undelegated ∷ [])
terms_of (call.DataCreateUnknown rd granule ipa) =
    OfWalk (way rd ipa 3) (word IpaAlign (is_page ipa) ∷ []) (needed granule Delegated ∷ [])
terms_of (call.DataDestroy rd ipa) = OfWalk (way rd ipa 3) (word IpaAlign (is_page ipa) ∷ []) []
terms_of (call.RealmActivate rd) = OfHost [] (needed rd Rd ∷ [])
terms_of (call.RealmCreate rd root width level vmid algo) =
    OfHost
    (word Alias (not (rd == root))
    ∷ word ParamsSupp (is_width width)
    ∷ word RttNumLevel (is_space width level)
    ∷ word VmidValid (nat_le vmid 0xff)
    ∷ [])
    (needed rd Delegated ∷ needed root Delegated ∷ [])
terms_of (call.RealmDestroy rd) = OfHost [] (needed rd Rd ∷ [])
terms_of (call.RecCreate rd rec mpidr flags aux0 aux1) =
    OfHost
    (word AuxAlias (not (rec == aux0) && not (rec == aux1) && not (aux0 == aux1))
    ∷ word OwnFlags (nat_le flags 1)
    ∷ [])
    (needed rd Rd ∷ needed rec Delegated ∷ needed aux0 Delegated ∷ needed aux1 Delegated ∷ [])
terms_of (call.RecDestroy rec) = OfHost [] (needed rec Rec ∷ [])
terms_of (call.RecEnter rec) = OfHost [] (needed rec Rec ∷ [])
terms_of (call.RttCreate rd rtt ipa level) =
    OfWalk (way rd ipa (level - 1))
    (word LevelBound (nat_le level 3)
    ∷ word IpaAlign (is_multiple ipa (entry_size (level - 1)))
    ∷ [])
    (needed rtt Delegated ∷ [])
terms_of (call.RttRemove removal rd ipa level) =
    OfWalk (way rd ipa (level - 1))
    (word LevelBound (nat_le level 3)
    ∷ word IpaAlign (is_multiple ipa (entry_size (level - 1)))
    ∷ [])
    []
terms_of (call.RttMapUnprotected rd ipa page) =
    OfWalk (way rd ipa 3)
    (word IpaAlign (is_page ipa)
    ∷ word OwnPage (is_page page && nat_lt page (2 ^ 48))
    ∷ [])
    []
terms_of (call.RttReadEntry rd ipa level) =
    OfWalk (way rd ipa level)
    (word LevelBound (nat_le level 3)
    ∷ word IpaAlign (is_multiple ipa (entry_size level))
    ∷ [])
    []
terms_of (call.RttUnmapUnprotected rd ipa) = OfWalk (way rd ipa 3) (word IpaAlign (is_page ipa) ∷ []) []
terms_of (call.RttInitRipas rd base top) =
    OfWalk (way rd base 3)
    (word OwnBase (is_page base)
    ∷ word TopGranAlign (is_page top)
    ∷ word SizeValid (nat_lt base top)
    ∷ [])
    []
terms_of (call.RttSetRipas rd rec base top) = OfWalk (way rd base 3) [] (needed rec Rec ∷ [])
terms_of (call.MeasurementRead index) = OfRealm (word IndexBound (nat_le index 4) ∷ [])
terms_of (call.MeasurementExtend index size values) =
    OfRealm
    (word IndexBound (nat_le 1 index && nat_le index 4)
    ∷ word SizeBound (nat_le 1 size && nat_le size 0x40)
    ∷ [])
terms_of call.RealmConfig = OfRealm []
terms_of (call.IpaStateSet base top ripas) =
    OfRealm
    (word BaseAlign (is_page base)
    ∷ word TopAlign (is_page top)
    ∷ word SizeValid (nat_lt base top)
    ∷ word RipasValid (nat_le ripas 1)
    ∷ [])
terms_of (call.IpaStateGet ipa) = OfRealm (word IpaAlign (is_page ipa) ∷ [])
terms_of (call.HostCall imm) = OfRealm (word OwnImm (nat_lt imm 0x10000) ∷ [])
terms_of call.CpuOff = OfRealm []
terms_of call.SystemOff = OfRealm []
terms_of call.Exit = OfExit

abbrev pub class_in : Terms → Class
class_in (OfHost words names) = ByHost
class_in (OfWalk way words others) = ByHost
class_in (OfRealm words) = ByRealm
class_in OfExit = ByExit

unfoldable pub class_of : Call → Class
unfolding terms_of
class_of c = class_in (terms_of c)

abbrev pub words_in : Terms → List Word
words_in (OfHost words names) = words
words_in (OfWalk way words others) = words
words_in (OfRealm words) = words
words_in OfExit = []

unfoldable pub words_of : Call → List Word
unfolding terms_of
words_of c = words_in (terms_of c)

abbrev pub names_in : Terms → List Needed
names_in (OfHost words names) = names
names_in (OfWalk way words others) = needed way.rd Rd ∷ others
names_in (OfRealm words) = []
names_in OfExit = []

unfoldable pub named : Call → List Needed
unfolding terms_of
named c = names_in (terms_of c)

-- where a host's command walks, if it does
abbrev pub walk_in : Terms → Option Way
walk_in (OfWalk way words others) = Some way
walk_in _ = None

unfoldable pub way_of : Call → Option Way
unfolding terms_of
way_of c = walk_in (terms_of c)
