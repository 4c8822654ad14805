-- What is said of the commits of a slice: the states that it comes to, what a change puts, and how each commit fits behind others.
use Rattle.verdict_laws.proofs.Common.{◌≡◌, ℕ, ◌==◌, ◌||◌, ◌&&◌, Bool, true, false, if◌then◌else◌, List, [], ◌∷◌, Option, Some, None, Accepted, Done, Reaches, Call, Change, Unchanged, Retagged, RealmMade, RealmDestroyed, RecMade, RecDestroyed, RecordsChanged, TableMade, TableDestroyed, EntriesChanged, RealmChange, RecChange, TagChange, call_of, class_of, rec_at, rec_inside, is_accepted, Needed, ok, JournalEntry, State, reached_change, named, unused_tag}
use Rattle.std.specs.Prelude.{◌⊎◌, Contains}
use Rattle.rmm_spec.specs.declared.tag.Tag.TheVariants as tag
use Rattle.rmm_spec.specs.Call.{Class, ByHost, ByRealm, ByExit}
use Rattle.verdict_laws.specs.Looking.{is_looking}
use Rattle.verdict_laws.specs.Slices.{IsKeptReply, delegation, is_of_ended, leaves_unused, makes_part, inside_after, is_hosts, is_lent, may_change, shows_names}

-- ---- states

-- the state in which only the live granules, and what is kept there, are as in this one, and the others are unused, some of them lent
abbrev pub masked : (live lent : ℕ → Bool) → State → State
masked live lent s = record s {
  tag = λ g. if live g then s.tag g else unused_tag (lent g);
  realm = λ g. if live g then s.realm g else None;
  rec = λ g. if live g then s.rec g else None;
  table = λ g level number. if live g then s.table g level number else None;
  leaf = λ g level number. if live g then s.leaf g level number else None;
}

-- ---- changes

abbrev pub IsTagPut : (ℕ → Bool) → Bool → Option TagChange → Type 0
IsTagPut live is None = Unit {0}
IsTagPut live is (Some change) = live change.granule ≡ is

abbrev pub IsRealmPut : (ℕ → Bool) → Bool → Option RealmChange → Type 0
IsRealmPut live is None = Unit {0}
IsRealmPut live is (Some change) = live change.rd ≡ is

abbrev pub IsRecPut : (ℕ → Bool) → Bool → Option RecChange → Type 0
IsRecPut live is None = Unit {0}
IsRecPut live is (Some change) = live change.rec ≡ is

-- each granule whose tag the change puts, and each at which it puts something, passes the test, or none does
abbrev pub IsPut : (ℕ → Bool) → Bool → Change → Type 0
IsPut live is Unchanged = Unit {0}
IsPut live is (Retagged change) = live change.granule ≡ is
IsPut live is (RealmMade rd root width level vmid algo) = (live rd ≡ is) × (live root ≡ is)
IsPut live is (RealmDestroyed rd root) = (live rd ≡ is) × (live root ≡ is)
IsPut live is (RecMade rd rec mpidr flags aux0 aux1) = (live rd ≡ is) × (live rec ≡ is) × (live aux0 ≡ is) × (live aux1 ≡ is)
IsPut live is (RecDestroyed rec aux0 aux1) = (live rec ≡ is) × (live aux0 ≡ is) × (live aux1 ≡ is)
IsPut live is (RecordsChanged realm rec) = IsRealmPut live is realm × IsRecPut live is rec
IsPut live is (TableMade rd level number rtt entry) = (live rd ≡ is) × (live rtt ≡ is)
IsPut live is (TableDestroyed rd level number rtt entry) = (live rd ≡ is) × (live rtt ≡ is)
IsPut live is (EntriesChanged rd level entries page realm rec) =
    (live rd ≡ is) × IsTagPut live is page × IsRealmPut live is realm × IsRecPut live is rec

-- what of a page's tag is taken by name: a granule that becomes a page; one that is given back needn't be named
abbrev pub IsPageOf : (ℕ → Bool) → Option TagChange → Type 0
IsPageOf names None = Unit {0}
IsPageOf names (Some change) = change.tag ≡ tag.Data → names change.granule ≡ true

-- The change is of these granules: they are all that it takes into use, lends or takes back, and all at which a record, a table or an entry is.
-- What it gives back besides are parts of what is there.
abbrev pub IsOf : (ℕ → Bool) → Change → Type 0
IsOf names Unchanged = Unit {0}
IsOf names (Retagged change) = names change.granule ≡ true
IsOf names (RealmMade rd root width level vmid algo) = (names rd ≡ true) × (names root ≡ true)
IsOf names (RealmDestroyed rd root) = names rd ≡ true
IsOf names (RecMade rd rec mpidr flags aux0 aux1) = (names rd ≡ true) × (names rec ≡ true) × (names aux0 ≡ true) × (names aux1 ≡ true)
IsOf names (RecDestroyed rec aux0 aux1) = names rec ≡ true
IsOf names (RecordsChanged realm rec) = IsRealmPut names true realm × IsRecPut names true rec
IsOf names (TableMade rd level number rtt entry) = (names rd ≡ true) × (names rtt ≡ true)
IsOf names (TableDestroyed rd level number rtt entry) = names rd ≡ true
IsOf names (EntriesChanged rd level entries page realm rec) =
    (names rd ≡ true) × IsPageOf names page × IsRealmPut names true realm × IsRecPut names true rec

-- so is what is done, whatever end a reply gives
abbrev pub IsAcceptedOf : (ℕ → Bool) → Accepted → Type 0
IsAcceptedOf names (Done words change) = IsOf names change
IsAcceptedOf names (Reaches stretch) = (top : ℕ) → IsOf names (reached_change stretch top)

-- the granules at which a call may change something: those that a host's call names to change, or the REC that runs on the CPU and its realm
abbrev pub touched_by : Class → State → ℕ → Call → ℕ → Bool
touched_by ByHost s cpu c g = may_change c g
touched_by ByRealm s cpu c g = rec_inside s cpu == g || (rec_at s (rec_inside s cpu)).owner == g
touched_by ByExit s cpu c g = rec_inside s cpu == g || (rec_at s (rec_inside s cpu)).owner == g

abbrev pub touched : State → ℕ → Call → ℕ → Bool
touched s cpu c = touched_by (class_of c) s cpu c

-- ---- commits

-- A commit, and whether it is kept in the slice.
pub record Commit : Type 0 where
  pub kept : Bool
  pub entry : JournalEntry

abbrev pub entry_of : Commit → JournalEntry
entry_of c = c.entry

abbrev pub kept_before : Bool → JournalEntry → List JournalEntry → List JournalEntry
kept_before true e rest = e ∷ rest
kept_before false e rest = rest

-- the entries of those that are kept
abbrev pub sliced : List Commit → List JournalEntry
sliced [] = []
sliced (c ∷ rest) = kept_before c.kept c.entry (sliced rest)

-- the entry by which CPU 0 lends a granule
abbrev pub lending : ℕ → JournalEntry
lending granule = record { cpu = 0; command = delegation granule; given = ok [] }

-- whether one of the commits is kept, and may change the granule
abbrev pub is_live_in : List Commit → ℕ → Bool
is_live_in [] g = false
is_live_in (c ∷ others) g = (c.kept && may_change (call_of c.entry.command) g) || is_live_in others g

-- whether the CPU is inside of a REC behind an entry that is kept, or another, by whether it was before
abbrev pub is_entered_behind : Bool → JournalEntry → Bool → Bool
is_entered_behind true e inside = inside_after (call_of e.command) e.given inside
is_entered_behind false e inside = inside

-- whether the commits that are kept leave the CPU inside of a REC
abbrev pub is_entered_in : List Commit → ℕ → Bool
is_entered_in [] cpu = false
is_entered_in (c ∷ others) cpu =
    if c.entry.cpu == cpu then is_entered_behind c.kept c.entry (is_entered_in others cpu) else is_entered_in others cpu

-- ---- commits behind others, of which the latest is the first

-- the entry comes to nothing in the slice: it only looks, is refused, or may change no live granule that it names, nor what is inside of a live REC
abbrev pub IsLeft : List Commit → JournalEntry → Type 0
IsLeft before e =
    (is_looking e.command ≡ true)
    ⊎ ((is_accepted e.given ≡ false)
    ⊎ (((g : ℕ) → may_change (call_of e.command) g ≡ true → is_live_in before g ≡ false) × (is_entered_in before e.cpu ≡ false)))

-- of the commits that are carried out the latest that makes or ends what the call ends makes it, with the granule as a part
abbrev pub HasMade : List Commit → Call → ℕ → Type 0
HasMade [] ending g = ⊥
HasMade (c ∷ others) ending g =
    ((is_accepted c.entry.given ≡ true) × (makes_part (call_of c.entry.command) ending g ≡ true))
    ⊎ (((is_accepted c.entry.given ≡ false) ⊎ (is_of_ended (call_of c.entry.command) ending ≡ false)) × HasMade others ending g)

-- the commits leave the granule unused, lent or not: the latest that may have changed it did so, or what it was a part of was ended
abbrev pub IsLeftUnused : List Commit → ℕ → Bool → Type 0
IsLeftUnused [] g lent = lent ≡ false
IsLeftUnused (c ∷ others) g lent =
    ((is_accepted c.entry.given ≡ true) × (leaves_unused (call_of c.entry.command) c.entry.given g lent ≡ true))
    ⊎ (((is_accepted c.entry.given ≡ true) × HasMade others (call_of c.entry.command) g × (lent ≡ true))
    ⊎ (((is_looking c.entry.command ≡ true) ⊎ ((is_accepted c.entry.given ≡ false) ⊎ (may_change (call_of c.entry.command) g ≡ false)))
    × IsLeftUnused others g lent))

-- The entry is kept: what it names is live, or needed as an unused granule and its reply shows that it is one, or was left unused. A realm's call and
-- an exit are given inside of a REC that is live.
pub record FitsKept (lent : List ℕ) (before : List Commit) (e : JournalEntry) : Type 0 where
  pub reply : IsKeptReply (call_of e.command) e.given
  pub knows : (n : Needed) → Contains (named (call_of e.command)) n
      → (is_live_in before n.granule ≡ true)
      ⊎ (((n.tag ≡ unused_tag (is_lent lent n.granule)) × (shows_names e.given ≡ true))
      ⊎ IsLeftUnused before n.granule (is_lent lent n.granule))
  pub inside : is_hosts (call_of e.command) ≡ false → is_entered_in before e.cpu ≡ true

abbrev pub Fits : List ℕ → List Commit → Bool → JournalEntry → Type 0
Fits lent before true e = FitsKept lent before e
Fits lent before false e = IsLeft before e

-- each of the commits fits behind those before it
abbrev pub AllFit : List ℕ → List Commit → List Commit → Type 0
AllFit lent before [] = Unit {0}
AllFit lent before (c ∷ rest) = Fits lent before c.kept c.entry × AllFit lent (c ∷ before) rest
