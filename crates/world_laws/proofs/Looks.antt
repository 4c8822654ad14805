-- Two states that agree on what the rows of a command look up answer it alike; and where they agree on all but tables, one refuses
-- before the walk what the other does.
use Rattle.world_laws.proofs.Common.{◌&&◌, ◌-◌, ◌==◌, ◌∙◌, ◌∷◌, ◌≡◌, Bool, Call, List, None, Option, Some, State, Way, [], and_parts, ap, entry_at, entry_for, false, false≢true, if◌then◌else◌, is_some, is_table, named, reach, realm_at, refl, suc, sym, table_number, true, way_of, ℕ}
use Rattle.std.proofs.Common.{zero, Result, Ok, Err, nat_lt}
use Rattle.std.specs.Prelude.{unwrap_or}
use Rattle.std.specs.List.{AllByRecursion, list_all}
use Rattle.std.proofs.lemmas.Option.{none-some}
use Rattle.rmm_spec.specs.declared.accepted.Accepted.{Accepted}
use Rattle.rmm_spec.specs.declared.call.Call.TheVariants as call
use Rattle.rmm_spec.specs.declared.call.Removal.{Removal}
use Rattle.rmm_spec.specs.declared.call.Removal.TheVariants.{Destroy, Fold}
use Rattle.rmm_spec.specs.declared.change.Change.TheVariants.{TableDestroyed}
use Rattle.rmm_spec.specs.declared.condition.Condition.TheVariants as condition
use Rattle.rmm_spec.specs.declared.refusal.Refusal.{Refusal}
use Rattle.rmm_spec.specs.declared.tag.Ripas.{Ripas}
use Rattle.rmm_spec.specs.declared.tag.Ripas.TheVariants.{Destroyed}
use Rattle.rmm_spec.specs.declared.tag.Tag.{Tag}
use Rattle.rmm_spec.specs.declared.tag.Tag.TheVariants as tag
use Rattle.rmm_spec.specs.Lookup.{has_tag, rec_at, is_vmid_used, has_rec, rec_inside}
use Rattle.rmm_spec.specs.Rows.{Row, Needed, decided, input, done, rtt_row}
use Rattle.rmm_spec.specs.Walk.{full, entry_address, has_entry}
use Rattle.rmm_spec.specs.Step.{answer_of, commands}
use Rattle.rmm_spec.specs.Step.Front.{with_front}
use Rattle.rmm_spec.specs.Step.Terms.{words_of}
use Rattle.rmm_spec.specs.Step.Table.{rtt_remove, entry_after_table, left_condition, ripas_left}
use Rattle.rmm_spec.specs.Step.RealmCall.{ipa_state_get}
use Rattle.spec_lemmas.proofs.Behind.{behind}
use Rattle.world_laws.specs.Same.{SameSpace, SameWalk}
use Rattle.world_laws.specs.Walking.{way, keeps_realm, is_table_error}

-- ---- what is looked up

-- a REC is the same, where one is named
abbrev pub SameRec : State → State → ℕ → Tag → Type 0
SameRec s t granule tag.Rec = rec_at s granule ≡ rec_at t granule
SameRec s t granule _ = Unit {0}

abbrev pub SameNamed : State → State → Needed → Type 0
SameNamed s t n = (has_tag s n.granule n.tag ≡ has_tag t n.granule n.tag) × SameRec s t n.granule n.tag

-- what rows look up before they walk
pub record SameFront (s t : State) (c : Call) (way : Way) : Type 0 where
  pub names : AllByRecursion (SameNamed s t) (named c)
  pub space : SameSpace s t way.rd
  pub realm : keeps_realm c ≡ true → realm_at s way.rd ≡ realm_at t way.rd

-- whether the walk for a table that is to be taken out ends at a link to it
abbrev pub is_linked : State → ℕ → ℕ → ℕ → Bool
is_linked s rd ipa max = reach s rd ipa max == max && is_table (entry_for s rd (reach s rd ipa max) ipa)

-- the same is left of the table that is to be taken out
abbrev pub SameUse : State → State → Call → Type 0
SameUse s t (call.RttRemove removal rd ipa level) = nat_lt (realm_at t rd).start_level level ≡ true → is_linked t rd ipa (level - 1) ≡ true
    → ripas_left removal s rd level (table_number level ipa) ≡ ripas_left removal t rd level (table_number level ipa)
SameUse s t _ = Unit {0}

pub record SameLooks (s t : State) (c : Call) (way : Way) : Type 0 where
  pub front : SameFront s t c way
  pub walk : SameWalk s t way
  pub used : SameUse s t c

-- ---- answers

-- the answer to who takes a table out, by the RIPAS that it leaves
abbrev removed : State → Removal → ℕ → ℕ → ℕ → Option Ripas → Result Accepted Refusal
removed t removal rd ipa level left =
    let above = reach t rd ipa (level - 1) in
    let entry = entry_for t rd above ipa in
    decided
    (with_front t (call.RttRemove removal rd ipa level)
    (input condition.LevelBound (nat_lt (realm_at t rd).start_level level)
    ∷ input condition.IpaBound (nat_lt ipa (full (realm_at t rd)))
    ∷ rtt_row condition.RttWalk above (above == level - 1)
    ∷ rtt_row condition.RtteState above (is_table entry)
    ∷ rtt_row (left_condition removal) level (is_some left)
    ∷ []))
    (done (entry_address entry ∷ [])
    (TableDestroyed rd level (table_number level ipa) (entry_address entry) (entry_after_table (realm_at t rd) ipa (unwrap_or left Destroyed))))

-- what is left is read of a table that the walk links to
used-same : (s t : State) (removal : Removal) (rd ipa level : ℕ) → SameUse s t (call.RttRemove removal rd ipa level)
    → removed t removal rd ipa level (ripas_left removal s rd level (table_number level ipa)) ≡ rtt_remove t removal rd ipa level
unfolding rtt_remove words_of named
used-same s t removal rd ipa level used =
    by (nat_lt (realm_at t rd).start_level level) refl (reach t rd ipa (level - 1) == level - 1)
    (is_table (entry_for t rd (reach t rd ipa (level - 1)) ipa)) refl refl
  where
    rows : Option Ripas → Result Accepted Refusal
    rows left = removed t removal rd ipa level left

    by : (a : Bool) → nat_lt (realm_at t rd).start_level level ≡ a → (b d : Bool) → (reach t rd ipa (level - 1) == level - 1) ≡ b
        → is_table (entry_for t rd (reach t rd ipa (level - 1)) ipa) ≡ d
        → rows (ripas_left removal s rd level (table_number level ipa)) ≡ rows (ripas_left removal t rd level (table_number level ipa))
    by true above true true walks linked = ap rows (used above (rw (walks, linked) refl))
    by true above true false walks linked = rw (walks, linked) refl
    by true above false d walks linked = rw walks refl
    by false above b d walks linked = rw above refl

-- the same of all that a command looks up, if it walks
abbrev pub LooksAlike : State → State → Call → Option Way → Type 0
LooksAlike s t c None = ⊥
LooksAlike s t c (Some w) = SameLooks s t c w

-- each command in turn, by what it looks up
pub answer-same : (s t : State) (cpu : ℕ) (c : Call) → LooksAlike s t c (way_of c) → answer_of s cpu c ≡ answer_of t cpu c
unfolding answer_of way_of keeps_realm named words_of commands
answer-same s t cpu (call.RttCreate rd rtt ipa level) looks =
    rw (looks.front.names.0.0, looks.front.names.1.0.0, looks.front.space.width, looks.front.space.start, looks.walk.entry, looks.walk.level) refl
answer-same s t cpu (call.RttRemove removal rd ipa level) looks =
    rw (looks.front.names.0.0, looks.front.space.width, looks.front.space.start, looks.walk.entry, looks.walk.level)
    (used-same s t removal rd ipa level looks.used)
answer-same s t cpu (call.RttReadEntry rd ipa level) looks =
    rw (looks.front.names.0.0, looks.front.space.width, looks.front.space.start, looks.walk.entry, looks.walk.level) refl
answer-same s t cpu (call.DataCreate rd granule ipa source flags digest) looks =
    rw (looks.front.names.0.0, looks.front.names.1.0.0, looks.front.names.1.1.0.0, looks.front.realm refl, looks.walk.entry, looks.walk.level) refl
answer-same s t cpu (call.DataCreateUnknown rd granule ipa) looks =
    rw (looks.front.names.0.0, looks.front.names.1.0.0, looks.front.space.width, looks.walk.entry, looks.walk.level) refl
answer-same s t cpu (call.DataDestroy rd ipa) looks =
    rw (looks.front.names.0.0, looks.front.space.width, looks.walk.entry, looks.walk.level) refl
answer-same s t cpu (call.RttMapUnprotected rd ipa page) looks =
    rw (looks.front.names.0.0, looks.front.space.width, looks.walk.entry, looks.walk.level) refl
answer-same s t cpu (call.RttUnmapUnprotected rd ipa) looks =
    rw (looks.front.names.0.0, looks.front.space.width, looks.walk.entry, looks.walk.level) refl
answer-same s t cpu (call.RttInitRipas rd base top) looks =
    rw (looks.front.names.0.0, looks.front.realm refl, looks.walk.entry, looks.walk.level) refl
answer-same s t cpu (call.RttSetRipas rd rec base top) looks =
    rw (looks.front.names.0.0, looks.front.names.1.0.0, looks.front.names.1.0.1, looks.walk.level) refl
answer-same s t cpu _ looks = absurd looks

-- the one call of a realm that walks
pub ipa_state_get-same : (s t : State) (rec rd ipa : ℕ) → (rec_at s rec).owner ≡ rd → (rec_at t rec).owner ≡ rd → SameSpace s t rd
    → SameWalk s t (way rd ipa 3) → ipa_state_get s rec ipa ≡ ipa_state_get t rec ipa
unfolding ipa_state_get words_of named
ipa_state_get-same s t rec rd ipa of_s of_t space walk = rw (of_s, of_t, space.width, walk.entry) refl

-- ---- refusals before the walk

-- the refusal of the first row that doesn't hold, before those over tables
abbrev early : List Row → Option Refusal
early [] = None
early (first ∷ rows) = if is_table_error first.otherwise then None else (if first.holds then early rows else Some first.otherwise)

-- rows over tables come last
abbrev tables_last : List Row → Bool
tables_last [] = true
tables_last (first ∷ rows) = if is_table_error first.otherwise then list_all (λ (r : Row). is_table_error r.otherwise) rows else tables_last rows

-- such a refusal is the answer
early-decided : (rows : List Row) (a : Accepted) (given : Refusal) → early rows ≡ Some given → decided rows a ≡ Err given
early-decided [] a given is = absurd (none-some given is)
early-decided (first ∷ rows) a given is = by (is_table_error first.otherwise) first.holds is (early-decided rows a given)
  where
    by : (b holds : Bool) → (if b then None else (if holds then early rows else Some first.otherwise)) ≡ Some given
        → (early rows ≡ Some given → decided rows a ≡ Err given) → (if holds then decided rows a else Err first.otherwise) ≡ Err given
    by true holds same rest = absurd (none-some given same)
    by false true same rest = rest same
    by false false same rest = ap (λ (o : Option Refusal). refused o) same
      where
        refused : Option Refusal → Result Accepted Refusal
        refused None = Ok a
        refused (Some given) = Err given

-- a result has one refusal
same_Err : (a b : Refusal) → (the_error : Result Accepted Refusal) → the_error ≡ Err a → the_error ≡ Err b → a ≡ b
same_Err a b the_error first second = let same : Err a ≡ Err b = sym first ∙ second in cc

-- rows over tables alone refuse with their error
tables-decided : (rows : List Row) (a : Accepted) (given : Refusal) → list_all (λ (r : Row). is_table_error r.otherwise) rows ≡ true
    → decided rows a ≡ Err given → is_table_error given ≡ true
tables-decided [] a given all is = absurd (let bad : Ok a ≡ Err given = is in cc)
tables-decided (first ∷ rows) a given all is =
    let parts = and_parts (is_table_error first.otherwise) (list_all (λ (r : Row). is_table_error r.otherwise) rows) all in
    by first.holds parts.0 is (tables-decided rows a given parts.1)
  where
    by : (holds : Bool) → is_table_error first.otherwise ≡ true → (if holds then decided rows a else Err first.otherwise) ≡ Err given
        → (decided rows a ≡ Err given → is_table_error given ≡ true) → is_table_error given ≡ true
    by true error same rest = rest same
    by false error same rest = ap is_table_error (sym (same_Err first.otherwise given (Err first.otherwise) refl same)) ∙ error

-- and a refusal that is no ERROR_RTT is such a one
decided-early : (rows : List Row) (a : Accepted) (given : Refusal)
    → tables_last rows ≡ true → decided rows a ≡ Err given → is_table_error given ≡ false
    → early rows ≡ Some given
decided-early [] a given last is plain = absurd (let bad : Ok a ≡ Err given = is in cc)
decided-early (first ∷ rows) a given last is plain =
    by (is_table_error first.otherwise) refl first.holds last is (decided-early rows a given)
  where
    by : (b : Bool) → is_table_error first.otherwise ≡ b → (holds : Bool)
        → (if b then list_all (λ (r : Row). is_table_error r.otherwise) rows else tables_last rows) ≡ true
        → (if holds then decided rows a else Err first.otherwise) ≡ Err given
        → (tables_last rows ≡ true → decided rows a ≡ Err given → is_table_error given ≡ false → early rows ≡ Some given)
        → (if b then None else (if holds then early rows else Some first.otherwise)) ≡ Some given
    by true error true all same rest = absurd (false≢true (sym plain ∙ tables-decided rows a given all same))
    by true error false all same rest =
        absurd (false≢true (sym plain ∙ (ap is_table_error (sym (same_Err first.otherwise given (Err first.otherwise) refl same)) ∙ error)))
    by false fine true later same rest = rest later same plain
    by false fine false later same rest = ap (λ r. Some r) (same_Err first.otherwise given (Err first.otherwise) refl same)

-- each command's rows over tables are its last
rows-tables_last : (s : State) (cpu : ℕ) (c : Call) → tables_last (with_front s c (behind s cpu c).0) ≡ true
unfolding behind named words_of
rows-tables_last s cpu (call.GranuleDelegate granule) = refl
rows-tables_last s cpu _ = refl

-- a state with the tables of another
abbrev with_tables_of : State → State → State
with_tables_of s t = record s { table = t.table; leaf = t.leaf }

-- rows before a walk read no table
early-tables : (s t : State) (cpu : ℕ) (c : Call) → is_some (way_of c) ≡ true
    → early (with_front (with_tables_of s t) c (behind (with_tables_of s t) cpu c).0) ≡ early (with_front s c (behind s cpu c).0)
unfolding behind named words_of way_of has_tag realm_at rec_at is_vmid_used has_rec rec_inside
early-tables s t cpu (call.RealmDestroy rd) walks = absurd (false≢true walks)
early-tables s t cpu _ walks = refl

-- the state with the tables of another walks as that
reach-tables : (s t : State) (rd ipa max : ℕ) → reach (with_tables_of s t) rd ipa max ≡ reach t rd ipa max
unfolding reach
reach-tables s t rd ipa zero = refl
reach-tables s t rd ipa (suc l) = ap (λ n. if is_some (t.table rd (suc l) (table_number (suc l) ipa)) then suc l else n) (reach-tables s t rd ipa l)

-- and ends where that does
walk-tables : (s t : State) (w : Way) → SameWalk (with_tables_of s t) t w
unfolding entry_at
walk-tables s t w =
    let same = reach-tables s t w.rd w.ipa w.max in
    record { level = same; entry = ap (λ l. entry_for t w.rd l w.ipa) same }

-- and leaves the same of a table
left-tables : (s t : State) (removal : Removal) (rd level number : ℕ)
    → ripas_left removal (with_tables_of s t) rd level number ≡ ripas_left removal t rd level number
unfolding ripas_left has_entry entry_at
left-tables s t Destroy rd level number = refl
left-tables s t Fold rd level number = refl

use-tables : (s t : State) (c : Call) → SameUse (with_tables_of s t) t c
use-tables s t (call.RttRemove removal rd ipa level) = λ above linked. left-tables s t removal rd level (table_number level ipa)
use-tables s t _ = tt

-- what is named is as it was
names-tables : (s t : State) (names : List Needed) → AllByRecursion (SameNamed s t) names → AllByRecursion (SameNamed (with_tables_of s t) t) names
unfolding has_tag rec_at
names-tables s t [] same = tt
names-tables s t (n ∷ names) same = ((same.0.0, by n.tag same.0.1), names-tables s t names same.1)
  where
    by : (asked : Tag) → SameRec s t n.granule asked → SameRec (with_tables_of s t) t n.granule asked
    by tag.Rec is = is
    by _ is = tt

-- so is all that is looked up before the walk
front-tables : (s t : State) (c : Call) (w : Way) → SameFront s t c w → SameFront (with_tables_of s t) t c w
unfolding realm_at
front-tables s t c w front = record {
  names = names-tables s t (named c) front.names;
  space = record { width = front.space.width; start = front.space.start };
  realm = front.realm;
}

-- the same of what it looks up before it walks
abbrev pub FrontsAlike : State → State → Call → Option Way → Type 0
FrontsAlike s t c None = ⊥
FrontsAlike s t c (Some w) = SameFront s t c w

-- what one refuses before the walk the other refuses
pub refused-same : (s t : State) (cpu : ℕ) (c : Call) (given : Refusal) → FrontsAlike s t c (way_of c) → answer_of t cpu c ≡ Err given
    → is_table_error given ≡ false → answer_of s cpu c ≡ Err given
refused-same s t cpu c given alike is plain = by (way_of c) refl alike
  where
    u : State
    u = with_tables_of s t

    looks : (o : Option Way) → FrontsAlike s t c o → LooksAlike u t c o
    looks None none = none
    looks (Some w) front = record { front = front-tables s t c w front; walk = walk-tables s t w; used = use-tables s t c }

    by : (o : Option Way) → way_of c ≡ o → FrontsAlike s t c o → answer_of s cpu c ≡ Err given
    by None walks none = absurd none
    by (Some w) walks front =
        let of_u : answer_of u cpu c ≡ Err given = answer-same u t cpu c (looks (way_of c) alike) ∙ is in
        let rows_u = behind u cpu c in
        let rows_s = behind s cpu c in
        let first = decided-early (with_front u c rows_u.0) rows_u.1 given (rows-tables_last u cpu c) (sym rows_u.2 ∙ of_u) plain in
        rows_s.2 ∙ early-decided (with_front s c rows_s.0) rows_s.1 given
        (sym (early-tables s t cpu c (ap (λ (o : Option Way). is_some o) walks)) ∙ first)
