-- What is held settles a command that walks: each whole that agrees answers it as the state does that the held cells tell of.
use Rattle.world_laws.proofs.Common.{◌&&◌, ◌-◌, ◌/◌, ◌<◌, ◌==◌, ◌||◌, ◌∙◌, ◌∷◌, ◌≡◌, ◌≤◌, ◌⊎◌, Bool, Call, Config, Entry, HeldCell, HoldsTable, IsTrue, List, None, Option, Side, Some, Table, Way, [], and_parts, ap, arith, entry_for, entry_number, false, false≢true, flat_state, inl, inr, is_held, is_some, is_table, is_walk_held, named, not, not-true, reach, realm_at, refl, seen_state, subst, suc, sym, table_behind, table_number, table_number-entry, tables_of, true, way_of, ℕ}
use Rattle.std.proofs.Common.{Err, eqb-true}
use Rattle.std.specs.List.{AllByRecursion, list_all}
use Rattle.std.proofs.lemmas.Bool.{ltb-true}
use Rattle.std.proofs.lemmas.Option.{same_Some}
use Rattle.rmm_spec.specs.declared.call.Call.TheVariants as call
use Rattle.rmm_spec.specs.declared.call.Removal.{Removal}
use Rattle.rmm_spec.specs.declared.refusal.Refusal.{Refusal}
use Rattle.rmm_spec.specs.declared.tag.Tag.{Tag}
use Rattle.rmm_spec.specs.declared.tag.Tag.TheVariants as tag
use Rattle.rmm_spec.specs.Lookup.{tag_number}
use Rattle.rmm_spec.specs.Rows.{Needed}
use Rattle.rmm_spec.specs.Step.{answer_of}
use Rattle.rmm_spec.specs.Step.Terms.{needed, Terms, OfWalk, terms_of, names_in, walk_in}
use Rattle.spec_lemmas.proofs.WalkLaws.{table_number-suc}
use Rattle.rmm_laws.proofs.Entries.{link_there}
use Rattle.rmm_laws.proofs.Finds.{table_granule-holds}
use Rattle.world_laws.specs.Walking.{way, keeps_realm, part_below, end_entry, is_part_held, is_told, are_told, is_table_error, is_way_settled}
use Rattle.world_laws.proofs.Looks.{SameRec, SameNamed, SameFront, SameUse, FrontsAlike, LooksAlike, answer-same, refused-same}
use Rattle.world_laws.proofs.Seen.{WalkEnd, realm-same, rec-same, told-tag, told-space, walk-end, held-placed, left-same}
use Rattle.world_laws.proofs.Tables.{placed-found}
use Rattle.world_laws.proofs.Wholes.{Whole, state, sound}
use Rattle.lemmas.proofs.Tests.{both_ways}

-- ---- named granules

-- a granule that is told of is held, or it is the realm of a held table
told-cases : (keeps : Bool) (held : List HeldCell) (n : Needed) → is_told keeps held n ≡ true
    → (is_held n.granule held ≡ true)
    ⊎ ((keeps ≡ false) × ((tag_number n.tag == tag_number tag.Rd) ≡ true) × (is_some (table_behind held n.granule) ≡ true))
told-cases keeps held n told = by (is_held n.granule held) refl told
  where
    by : (b : Bool) → is_held n.granule held ≡ b
        → (b || (not keeps && tag_number n.tag == tag_number tag.Rd && is_some (table_behind held n.granule))) ≡ true
        → (is_held n.granule held ≡ true)
        ⊎ ((keeps ≡ false) × ((tag_number n.tag == tag_number tag.Rd) ≡ true) × (is_some (table_behind held n.granule) ≡ true))
    by true has is = inl has
    by false free is =
        let parts = and_parts (not keeps && tag_number n.tag == tag_number tag.Rd) (is_some (table_behind held n.granule)) is in
        let front = and_parts (not keeps) (tag_number n.tag == tag_number tag.Rd) parts.0 in
        inr (not-true keeps front.0, front.1, parts.1)

-- what is told of and is no realm is held
pub told-held : (keeps : Bool) (held : List HeldCell) (n : Needed)
    → (tag_number n.tag == tag_number tag.Rd) ≡ false → is_told keeps held n ≡ true → is_held n.granule held ≡ true
told-held keeps held n other told = elim (told-cases keeps held n told) [
  | inl has ↦ has
  | inr behind ↦ absurd (false≢true (sym other ∙ behind.1))
]

-- and so is a realm that is kept
pub told-kept : (held : List HeldCell) (n : Needed) → is_told true held n ≡ true → is_held n.granule held ≡ true
told-kept held n told = elim (told-cases true held n told) [
  | inl has ↦ has
  | inr behind ↦ absurd (false≢true (sym behind.0))
]

-- a realm that is told of is held, or a table of it
told-either : (keeps : Bool) (held : List HeldCell) (n : Needed) → is_told keeps held n ≡ true
    → (is_held n.granule held || is_some (table_behind held n.granule)) ≡ true
told-either keeps held n told = elim (told-cases keeps held n told) [
  | inl has ↦ rw has refl
  | inr behind ↦ by (is_held n.granule held) behind.2
]
  where
    by : (b : Bool) → is_some (table_behind held n.granule) ≡ true → (b || is_some (table_behind held n.granule)) ≡ true
    by true there = refl
    by false there = there

-- a named granule that is told of is the same in each whole
named-same : {config : Config} {side : Side} {held : List HeldCell} (w : Whole config side held) (keeps : Bool) (n : Needed)
    → is_told keeps held n ≡ true → SameNamed (state w) (seen_state config held) n
named-same {config} {side} {held} w keeps n told =
    (told-tag w n.granule n.tag (told-either keeps held n told), by n.tag (λ other. told-held keeps held n other told))
  where
    by : (asked : Tag) → ((tag_number asked == tag_number tag.Rd) ≡ false → is_held n.granule held ≡ true)
        → SameRec (state w) (seen_state config held) n.granule asked
    by tag.Rec has = rec-same w n.granule (has refl)
    by _ has = tt

-- all of them
names-same : {config : Config} {side : Side} {held : List HeldCell} (w : Whole config side held) (keeps : Bool) (names : List Needed)
    → list_all (is_told keeps held) names ≡ true
    → AllByRecursion (SameNamed (state w) (seen_state config held)) names
names-same {config} {side} {held} w keeps [] told = tt
names-same {config} {side} {held} w keeps (n ∷ names) told =
    let parts = and_parts (is_told keeps held n) (list_all (is_told keeps held) names) told in
    (named-same w keeps n parts.0, names-same w keeps names parts.1)

-- ---- the realm that is walked

-- the first that a command names is told of
pub first-told : (told : Needed → Bool) (n : Needed) (names : List Needed) → list_all told (n ∷ names) ≡ true → told n ≡ true
first-told told n names all = (and_parts (told n) (list_all told names) all).0

-- the first of some, if there is one
abbrev IsHeadTold : (Needed → Bool) → List Needed → Type 0
IsHeadTold told [] = Unit {0}
IsHeadTold told (n ∷ names) = told n ≡ true

-- where all are told of, the first is
head-told : (told : Needed → Bool) (names : List Needed) → list_all told names ≡ true → IsHeadTold told names
head-told told [] all = tt
head-told told (n ∷ names) all = first-told told n names all

-- the first that a command names
head : (c : Call) (held : List HeldCell) → are_told c held ≡ true → IsHeadTold (is_told (keeps_realm c) held) (named c)
unfolding are_told
head c held told = head-told (is_told (keeps_realm c) held) (named c) told

-- the realm that a command walks in, if it walks
abbrev IsWayTold : Call → List HeldCell → Option Way → Type 0
IsWayTold c held None = Unit {0}
IsWayTold c held (Some w) = is_told (keeps_realm c) held (needed w.rd tag.Rd) ≡ true

-- it is the first that the command names
way-told : (c : Call) (held : List HeldCell) → are_told c held ≡ true → IsWayTold c held (way_of c)
unfolding named way_of
way-told c held told = by (terms_of c) (head c held told)
  where
    by : (terms : Terms) → IsHeadTold (is_told (keeps_realm c) held) (names_in terms) → IsWayTold c held (walk_in terms)
    by (OfWalk route words others) first = first
    by _ first = tt

-- so what rows look up before the walk is the same
front-same : {config : Config} {side : Side} {held : List HeldCell} (w : Whole config side held) (c : Call) (route : Way) → are_told c held ≡ true
    → is_told (keeps_realm c) held (needed route.rd tag.Rd) ≡ true → SameFront (state w) (seen_state config held) c route
unfolding are_told
front-same {config} {side} {held} w c route told realm = record {
  names = names-same w (keeps_realm c) (named c) told;
  space = told-space w route.rd (told-either (keeps_realm c) held (needed route.rd tag.Rd) realm);
  realm = λ keeps. elim (told-cases (keeps_realm c) held (needed route.rd tag.Rd) realm) [
    | inl has ↦ realm-same w route.rd has
    | inr free ↦ both_ways keeps free.0
  ];
}

-- ---- a table below

-- the child below a link
link_below : (removal : Removal) (rd ipa level child : ℕ) (e : Entry)
    → e ≡ Table child → part_below (call.RttRemove removal rd ipa level) e ≡ Some child
unfolding part_below
link_below removal rd ipa level child e is = ap (λ (x : Entry). part_below (call.RttRemove removal rd ipa level) x) is

-- the table that is to be taken out is held, so it is told what is left of it
used-told : {config : Config} {side : Side} {held : List HeldCell} (w : Whole config side held) (removal : Removal) (rd ipa level : ℕ)
    → WalkEnd (state w) (seen_state config held) held (way rd ipa (level - 1))
    → is_part_held (part_below (call.RttRemove removal rd ipa level) (end_entry config held (way rd ipa (level - 1)))) held ≡ true
    → SameUse (state w) (seen_state config held) (call.RttRemove removal rd ipa level)
unfolding flat_state
used-told {config} {side} {held} w removal rd ipa level end part above linked =
    let t = seen_state config held in
    let up = level - 1 in
    let parts = and_parts (reach t rd ipa up == up) (is_table (entry_for t rd (reach t rd ipa up) ipa)) linked in
    let at : reach t rd ipa up ≡ up = eqb-true (reach t rd ipa up) up parts.0 in
    let under : (realm_at t rd).start_level < level = ltb-true (realm_at t rd).start_level level above in
    let deep : suc up ≡ level = omega (arith, under) in
    let last : up ≤ 3 = subst (λ l. l ≤ 3) at end.last in
    let number : table_number up ipa ≡ entry_number up ipa / 512 = table_number-entry up ipa last in
    let here = placed-found w rd (reach t rd ipa up) (table_number (reach t rd ipa up) ipa) end.granule end.placed in
    let table : IsTrue (is_some ((state w).table rd up (entry_number up ipa / 512))) =
    subst (λ n. IsTrue (is_some ((state w).table rd up n))) number
    (subst (λ l. IsTrue (is_some ((state w).table rd l (table_number l ipa)))) at (ap (λ (o : Option ℕ). is_some o) here)) in
    let seen : entry_for (state w) rd up ipa ≡ entry_for t rd (reach t rd ipa up) ipa =
    ap (λ l. entry_for (state w) rd l ipa) (sym (end.same.level ∙ at)) ∙ end.same.entry in
    let link = link_there (state w) (sound w) rd up (entry_number up ipa) table (ap is_table seen ∙ parts.1) in
    let child : end_entry config held (way rd ipa up) ≡ Table link.0 = sym seen ∙ link.2 in
    let has : is_held link.0 held ≡ true =
    subst (λ (o : Option ℕ). is_part_held o held ≡ true)
    (link_below removal rd ipa level link.0 (end_entry config held (way rd ipa up)) child) part in
    let holds = table_granule-holds config.granules (tables_of w.cells) rd (suc up) (entry_number up ipa) link.0 link.1 in
    let placed = held-placed w link.0 rd level (table_number level ipa) has
    (subst (λ l. HoldsTable (tables_of w.cells) link.0 rd l (table_number l ipa)) deep
    (subst (λ n. HoldsTable (tables_of w.cells) link.0 rd (suc up) n) (sym (table_number-suc up ipa)) holds)) in
    left-same w removal placed.0 rd level (table_number level ipa) placed.1

use-told : {config : Config} {side : Side} {held : List HeldCell} (w : Whole config side held) (c : Call)
    → ((route : Way) → way_of c ≡ Some route
    → WalkEnd (state w) (seen_state config held) held route × (is_part_held (part_below c (end_entry config held route)) held ≡ true))
    → SameUse (state w) (seen_state config held) c
unfolding way_of
use-told {config} {side} {held} w (call.RttRemove removal rd ipa level) ends =
    let end = ends (way rd ipa (level - 1)) refl in used-told w removal rd ipa level end.0 end.1
use-told {config} {side} {held} w _ ends = tt

-- ---- answers

-- where the walk's end is held, with what is taken out below it, all that is looked up is told
looks-told : {config : Config} {side : Side} {held : List HeldCell} (w : Whole config side held) (c : Call) → are_told c held ≡ true
    → is_way_settled config c held (way_of c) ≡ true → LooksAlike (state w) (seen_state config held) c (way_of c)
looks-told {config} {side} {held} w c told settled = by (way_of c) refl settled (way-told c held told)
  where
    by : (o : Option Way) → way_of c ≡ o → is_way_settled config c held o ≡ true
        → IsWayTold c held o → LooksAlike (state w) (seen_state config held) c o
    by None walks is of_rd = absurd (false≢true is)
    by (Some route) walks is of_rd =
        let parts = and_parts (is_walk_held config held route) (is_part_held (part_below c (end_entry config held route)) held) is in
        let end = walk-end w route parts.0 in
        record {
          front = front-same w c route told of_rd;
          walk = end.same;
          used = use-told w c (λ other is_other.
              let same : route ≡ other = same_Some route other (sym walks ∙ is_other) in
              subst (λ (r : Way). WalkEnd (state w) (seen_state config held) held r
              × (is_part_held (part_below c (end_entry config held r)) held ≡ true)) same (end, parts.1));
        }

-- a settled walk is answered by each whole as it is told
pub walk-told : {config : Config} {side : Side} {held : List HeldCell} (w : Whole config side held) (cpu : ℕ) (c : Call) → are_told c held ≡ true
    → is_way_settled config c held (way_of c) ≡ true → answer_of (state w) cpu c ≡ answer_of (seen_state config held) cpu c
walk-told {config} {side} {held} w cpu c told settled = answer-same (state w) (seen_state config held) cpu c (looks-told w c told settled)

-- and so is a refusal before the walk
pub early-told : {config : Config} {side : Side} {held : List HeldCell} (w : Whole config side held) (cpu : ℕ) (c : Call) (given : Refusal)
    → are_told c held ≡ true
    → is_some (way_of c) ≡ true → answer_of (seen_state config held) cpu c ≡ Err given
    → is_table_error given ≡ false → answer_of (state w) cpu c ≡ Err given
early-told {config} {side} {held} w cpu c given told walks is plain =
    refused-same (state w) (seen_state config held) cpu c given (by (way_of c) walks (way-told c held told)) is plain
  where
    by : (o : Option Way) → is_some o ≡ true → IsWayTold c held o → FrontsAlike (state w) (seen_state config held) c o
    by None none of_rd = absurd (false≢true none)
    by (Some route) there of_rd = front-same w c route told of_rd
