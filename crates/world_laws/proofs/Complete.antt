-- Where the table is held at which a whole's walk ends, the held cells tell that it ends there: so what a command keeps to its
-- commit settles it.
use Rattle.world_laws.proofs.Common.{◌&&◌, ◌-◌, ◌/◌, ◌<◌, ◌==◌, ◌||◌, ◌∙◌, ◌∷◌, ◌≡◌, ◌≤◌, ◌⊎◌, Bool, Call, Config, Entry, HeldCell, IsTrue, List, None, Option, Side, Some, Table, Way, [], and_parts, ap, arith, entry_at, entry_for, entry_number, false, false≢true, flat_state, inl, inr, is_held, is_some, is_table, is_walk_held, named, not, not-true, reach, reach-le, refl, seen_state, subst, suc, sym, table_behind, table_held, table_number, table_number-entry, table_placed, tables_of, true, way_of, ℕ}
use Rattle.std.proofs.Common.{zero, ◌%◌, eq-eqb}
use Rattle.std.specs.List.{AllByRecursion, list_all}
use Rattle.std.specs.Option.{option_and_then}
use Rattle.std.proofs.lemmas.Bool.{cases_order, and_from, or_right}
use Rattle.std.proofs.lemmas.Bool.Decides.{nat_tests}
use Rattle.std.proofs.lemmas.Option.{none-some}
use Rattle.rmm_spec.specs.declared.call.Call.TheVariants as call
use Rattle.rmm_spec.specs.declared.tag.Tag.TheVariants as tag
use Rattle.rmm_spec.specs.Lookup.{tag_number}
use Rattle.rmm_spec.specs.Rows.{Needed}
use Rattle.rmm_spec.specs.Step.Terms.{Terms, OfWalk, terms_of, names_in, walk_in}
use Rattle.spec_lemmas.proofs.WalkLaws.{table_number-suc, reach-covers, reach-deepest}
use Rattle.rmm_laws.proofs.Cases.{nothing_there}
use Rattle.rmm_laws.proofs.Entries.{entry-link, link_there}
use Rattle.rmm_laws.proofs.Finds.{table_granule-holds}
use Rattle.world_laws.specs.SeenState.{is_of_realm, entry_in, entry_held, link_of, linked_or, table_seen}
use Rattle.world_laws.specs.Walking.{keeps_realm, part_below, end_entry, is_part_held, is_told, are_told, is_refused_early, seen_answer, is_way_settled, is_walk_settled, is_kept}
use Rattle.world_laws.proofs.Found.{placed-holds, behind-some}
use Rattle.world_laws.proofs.Seen.{walk-end, held-placed}
use Rattle.world_laws.proofs.Tables.{placed-found, entry-there, entry-same}
use Rattle.world_laws.proofs.Wholes.{Whole, state, sound, held-contains, table-is_held}

-- ---- tables that are told of

-- below a first level, by the entry above
seen-below : (held : List HeldCell) (rd up number : ℕ)
    → table_seen held rd (suc up) number ≡ linked_or (entry_held held rd up number) (table_placed held rd (suc up) number)
unfolding table_seen
seen-below held rd up number =
    let below : (suc up == 0) ≡ false = grind (arith, nat_tests) in
    let above : suc up - 1 ≡ up = omega arith in
    rw (below, above) refl

-- at the first level by place alone
seen-first : (held : List HeldCell) (rd number : ℕ) → table_seen held rd 0 number ≡ table_placed held rd 0 number
unfolding table_seen
seen-first held rd number = refl

-- what isn't placed has no entries
unplaced-entry : (held : List HeldCell) (rd level number : ℕ)
    → table_placed held rd level (number / 512) ≡ None → entry_held held rd level number ≡ None
unfolding entry_held
unplaced-entry held rd level number none = ap (option_and_then (λ (granule : ℕ). entry_in (number % 512) (table_held held granule))) none

-- what has a link is a link
link-of_table : (e : Entry) (child : ℕ) → link_of e ≡ Some child → is_table e ≡ true
link-of_table (Table granule) child is = refl
link-of_table _ child is = absurd (none-some child is)

-- an entry that links has a table below
no_link : {config : Config} {side : Side} {held : List HeldCell} (w : Whole config side held) (rd ipa level g : ℕ) → level ≤ 3
    → (state w).table rd level (table_number level ipa) ≡ Some g → (state w).table rd (suc level) (table_number (suc level) ipa) ≡ None
    → is_table (entry_for (state w) rd level ipa) ≡ false
no_link {config} {side} {held} w rd ipa level g last here none = by (is_table (entry_for (state w) rd level ipa)) refl
  where
    table : IsTrue (is_some ((state w).table rd level (entry_number level ipa / 512)))
    table = ap (λ (o : Option ℕ). is_some o) (ap ((state w).table rd level) (sym (table_number-entry level ipa last)) ∙ here)

    by : (b : Bool) → is_table (entry_for (state w) rd level ipa) ≡ b → b ≡ false
    by false is = refl
    by true is =
        let link = link_there (state w) (sound w) rd level (entry_number level ipa) table is in
        nothing_there none (ap ((state w).table rd (suc level)) (table_number-suc level ipa) ∙ link.1)

-- ---- the walk's end

record IsEnd (config : Config) (side : Side) (held : List HeldCell) (w : Whole config side held) (rd ipa max level g : ℕ) : Type 0 where
  is_level : reach (flat_state config w.cells) rd ipa max ≡ level
  last : max ≤ 3
  found : (flat_state config w.cells).table rd level (table_number level ipa) ≡ Some g
  has : IsTrue (is_held g held)

-- the end is found among the held tables
end-placed : {config : Config} {side : Side} {held : List HeldCell} (w : Whole config side held) (rd ipa max level g : ℕ)
    → IsEnd config side held w rd ipa max level g
    → (f : ℕ) × (table_placed held rd level (table_number level ipa) ≡ Some f)
unfolding flat_state
end-placed {config} {side} {held} w rd ipa max level g end =
    held-placed w g rd level (table_number level ipa) end.has
    (table_granule-holds config.granules (tables_of w.cells) rd level (table_number level ipa) g end.found)

-- nothing is told of below
none-deeper : {config : Config} {side : Side} {held : List HeldCell} (w : Whole config side held) (rd ipa max level g : ℕ)
    → IsEnd config side held w rd ipa max level g
    → (up : ℕ) → level ≤ up → suc up ≤ max → table_seen held rd (suc up) (table_number (suc up) ipa) ≡ None
none-deeper {config} {side} {held} w rd ipa max level g end up under within =
    seen-below held rd up (table_number (suc up) ipa)
    ∙ (by (table_placed held rd (suc up) (table_number (suc up) ipa)) refl (table_placed held rd up (table_number (suc up) ipa / 512)) refl)
  where
    deepest : (deeper : ℕ) → level < deeper → deeper ≤ max → (state w).table rd deeper (table_number deeper ipa) ≡ None
    deepest deeper less most = reach-deepest (state w) rd ipa max deeper (subst (λ l. l < deeper) (sym end.is_level) less) most

    last : up ≤ 3
    last = let most = end.last in omega (arith, most, within)

    number : table_number (suc up) ipa / 512 ≡ table_number up ipa
    number = ap (λ n. n / 512) (table_number-suc up ipa) ∙ sym (table_number-entry up ipa last)

    none : (state w).table rd (suc up) (table_number (suc up) ipa) ≡ None
    none = deepest (suc up) (omega (arith, under)) within

    unlinked : (f : ℕ) → table_placed held rd up (table_number (suc up) ipa / 512) ≡ Some f → (o : Option ℕ)
        → table_placed held rd (suc up) (table_number (suc up) ipa) ≡ o
        → linked_or (entry_held held rd up (table_number (suc up) ipa)) o ≡ None
    unlinked f placed o is =
        let e = entry-there w f rd up (table_number (suc up) ipa) placed in
        let here = placed-found w rd up (table_number up ipa) f (ap (table_placed held rd up) (sym number) ∙ placed) in
        let leaf = no_link w rd ipa up f last here none in
        let whole : entry_for (state w) rd up ipa ≡ e.entry = ap (entry_at (state w) rd up) (sym (table_number-suc up ipa)) ∙ e.whole in
        ap (λ x. linked_or x o) e.found ∙ of_leaf (link_of e.entry) refl (ap is_table (sym whole) ∙ leaf)
      where
        of_leaf : (l : Option ℕ) → link_of (entry-there w f rd up (table_number (suc up) ipa) placed).entry ≡ l
            → is_table (entry-there w f rd up (table_number (suc up) ipa) placed).entry ≡ false → l ≡ None
        of_leaf None link leaf = refl
        of_leaf (Some child) link leaf =
            absurd (false≢true (sym leaf ∙ link-of_table (entry-there w f rd up (table_number (suc up) ipa) placed).entry child link))

    by : (o : Option ℕ) → table_placed held rd (suc up) (table_number (suc up) ipa) ≡ o → (p : Option ℕ)
        → table_placed held rd up (table_number (suc up) ipa / 512) ≡ p
        → linked_or (entry_held held rd up (table_number (suc up) ipa)) o ≡ None
    by (Some f) is p placed = nothing_there none (placed-found w rd (suc up) (table_number (suc up) ipa) f is)
    by None is None placed = ap (λ x. linked_or x None) (unplaced-entry held rd up (table_number (suc up) ipa) placed)
    by None is (Some f) placed = unlinked f placed None is

-- the end itself is told of
end-seen : {config : Config} {side : Side} {held : List HeldCell} (w : Whole config side held) (rd ipa max g : ℕ) (level : ℕ)
    → IsEnd config side held w rd ipa max level g
    → is_some (table_seen held rd level (table_number level ipa)) ≡ true
end-seen {config} {side} {held} w rd ipa max g zero end =
    ap (λ (o : Option ℕ). is_some o) (seen-first held rd (table_number 0 ipa) ∙ (end-placed w rd ipa max 0 g end).1)
end-seen {config} {side} {held} w rd ipa max g (suc up) end =
    ap (λ (o : Option ℕ). is_some o) (seen-below held rd up (table_number (suc up) ipa))
    ∙ by (table_placed held rd up (table_number (suc up) ipa / 512)) refl
  where
    placed : (f : ℕ) × (table_placed held rd (suc up) (table_number (suc up) ipa) ≡ Some f)
    placed = end-placed w rd ipa max (suc up) g end

    by : (p : Option ℕ) → table_placed held rd up (table_number (suc up) ipa / 512) ≡ p
        → is_some (linked_or (entry_held held rd up (table_number (suc up) ipa)) (table_placed held rd (suc up) (table_number (suc up) ipa))) ≡ true
    by None is = ap is_some (ap (λ e. linked_or e (table_placed held rd (suc up) (table_number (suc up) ipa)))
        (unplaced-entry held rd up (table_number (suc up) ipa) is) ∙ placed.1)
    by (Some f) is =
        let e = entry-there w f rd up (table_number (suc up) ipa) is in
        let link : e.entry ≡ Table g = sym e.whole ∙ entry-link (state w) (sound w) rd up (table_number (suc up) ipa) g end.found in
        ap (λ x. is_some (linked_or x (table_placed held rd (suc up) (table_number (suc up) ipa)))) e.found ∙ ap (λ x. is_some (link_of x)) link

-- the tables of the state that is told of
seen_table : (config : Config) (held : List HeldCell) (rd level number : ℕ)
    → (seen_state config held).table rd level number ≡ table_seen held rd level number
unfolding seen_state
seen_table config held rd level number = refl

-- so the walk that the held cells tell of ends there
end-reached : {config : Config} {side : Side} {held : List HeldCell} (w : Whole config side held) (rd ipa max level g : ℕ)
    → IsEnd config side held w rd ipa max level g
    → reach (seen_state config held) rd ipa max ≡ level
end-reached {config} {side} {held} w rd ipa max level g end =
    let t = seen_state config held in
    let there = ap (λ (o : Option ℕ). is_some o) (seen_table config held rd level (table_number level ipa)) ∙ end-seen w rd ipa max g level end in
    let within : level ≤ max = subst (λ l. l ≤ max) end.is_level (reach-le (state w) rd ipa max) in
    let reached = reach-covers t rd ipa level max there within in
    by (cases_order level (reach t rd ipa max)) reached.0 reached.1
  where
    by : (level ≡ reach (seen_state config held) rd ipa max)
        ⊎ ((level < reach (seen_state config held) rd ipa max) ⊎ (reach (seen_state config held) rd ipa max < level))
        → level ≤ reach (seen_state config held) rd ipa max
        → is_some ((seen_state config held).table rd (reach (seen_state config held) rd ipa max)
        (table_number (reach (seen_state config held) rd ipa max) ipa)) ≡ true
        → reach (seen_state config held) rd ipa max ≡ level
    by (inl same) least there = sym same
    by (inr (inr more)) least there = absurd (omega (arith, more, least))
    by (inr (inl less)) least there =
        let deep = reach (seen_state config held) rd ipa max in
        let up = deep - 1 in
        let is : suc up ≡ deep = omega (arith, less) in
        let most = reach-le (seen_state config held) rd ipa max in
        let none = none-deeper w rd ipa max level g end up (omega (arith, less)) (omega (arith, is, most)) in
        absurd (false≢true (ap (λ (o : Option ℕ). is_some o) (sym (subst (λ d. table_seen held rd d (table_number d ipa) ≡ None) is none))
        ∙ (ap (λ (o : Option ℕ). is_some o) (sym (seen_table config held rd deep (table_number deep ipa))) ∙ there)))

-- so the walk is held
pub end-held : {config : Config} {side : Side} {held : List HeldCell} (w : Whole config side held) (way : Way) (g : ℕ) → way.max ≤ 3
    → (state w).table way.rd (reach (state w) way.rd way.ipa way.max) (table_number (reach (state w) way.rd way.ipa way.max) way.ipa) ≡ Some g
    → IsTrue (is_held g held) → is_walk_held config held way ≡ true
unfolding is_walk_held
end-held {config} {side} {held} w way g last found has =
    subst (λ l. (is_some (table_placed held way.rd l (table_number l way.ipa))
    && (l == way.max || not (is_table (entry_for (seen_state config held) way.rd l way.ipa)))) ≡ true)
    (sym (end-reached w way.rd way.ipa way.max level g end))
    (and_from (is_some (table_placed held way.rd level (table_number level way.ipa)))
    (level == way.max || not (is_table (entry_for (seen_state config held) way.rd level way.ipa)))
    (ap (λ (o : Option ℕ). is_some o) placed.1) (by (level == way.max) refl))
  where
    level : ℕ
    level = reach (state w) way.rd way.ipa way.max

    end : IsEnd config side held w way.rd way.ipa way.max level g
    end = record { is_level = refl; last = last; found = found; has = has }

    placed : (f : ℕ) × (table_placed held way.rd level (table_number level way.ipa) ≡ Some f)
    placed = end-placed w way.rd way.ipa way.max level g end

    within : level ≤ way.max
    within = reach-le (state w) way.rd way.ipa way.max

    low : level ≤ 3
    low = omega (arith, within, last)

    number : entry_number level way.ipa / 512 ≡ table_number level way.ipa
    number = sym (table_number-entry level way.ipa low)

    leaf : (level == way.max) ≡ false → is_table (entry_for (seen_state config held) way.rd level way.ipa) ≡ false
    leaf apart =
        let differ : level ≡ way.max → ⊥ = λ same. false≢true (sym apart ∙ eq-eqb level way.max same) in
        let next : level < suc level = omega arith in
        let none = reach-deepest (state w) way.rd way.ipa way.max (suc level) next (omega (arith, differ, within)) in
        ap is_table (sym (entry-same w placed.0 way.rd level (entry_number level way.ipa) (ap (table_placed held way.rd level) number ∙ placed.1)))
        ∙ no_link w way.rd way.ipa level g low found none

    by : (b : Bool) → (level == way.max) ≡ b → (b || not (is_table (entry_for (seen_state config held) way.rd level way.ipa))) ≡ true
    by true same = refl
    by false apart = ap not (leaf apart)

-- ---- commands

-- the realm that a command names is the one that it walks in
abbrev IsWayRealm : ℕ → Needed → Type 0
IsWayRealm rd n = (tag_number n.tag == tag_number tag.Rd) ≡ true → n.granule ≡ rd

abbrev AreWayRealms : List Needed → Option Way → Type 0
AreWayRealms names None = Unit {0}
AreWayRealms names (Some w) = AllByRecursion (IsWayRealm w.rd) names

-- whether none is named as a realm
abbrev are_no_realms : List Needed → Bool
are_no_realms names = list_all (λ (n : Needed). not (tag_number n.tag == tag_number tag.Rd)) names

no_realms-way : (rd : ℕ) (names : List Needed) → are_no_realms names ≡ true → AllByRecursion (IsWayRealm rd) names
no_realms-way rd [] none = tt
no_realms-way rd (n ∷ names) none =
    let parts = and_parts (not (tag_number n.tag == tag_number tag.Rd)) (are_no_realms names) none in
    (λ is. absurd (false≢true (sym (not-true (tag_number n.tag == tag_number tag.Rd) parts.0) ∙ is)), no_realms-way rd names parts.1)

-- what a command that walks names besides its realm
abbrev others_in : Terms → List Needed
others_in (OfWalk route words others) = others
others_in _ = []

others-no_realms : (c : Call) → are_no_realms (others_in (terms_of c)) ≡ true
unfolding terms_of
others-no_realms (call.GranuleDelegate granule) = refl
others-no_realms _ = refl

-- no other granule is named as a realm
way-realms : (c : Call) → AreWayRealms (named c) (way_of c)
unfolding way_of named
way-realms c = by (terms_of c) (others-no_realms c)
  where
    by : (terms : Terms) → are_no_realms (others_in terms) ≡ true → AreWayRealms (names_in terms) (walk_in terms)
    by (OfWalk route words others) apart = (λ is. refl, no_realms-way route.rd others apart)
    by _ apart = tt

-- a realm is told of by a table that is placed
placed-behind : (held : List HeldCell) (rd level number f : ℕ) → table_placed held rd level number ≡ Some f → is_some (table_behind held rd) ≡ true
placed-behind held rd level number f placed =
    let holds = placed-holds held rd level number f placed in
    let passes : is_of_realm rd (table_held held f) ≡ true = ap (is_of_realm rd) holds.is_held ∙ eq-eqb holds.table.place.rd rd holds.is_realm in
    let found = behind-some held rd f (held-contains held f (table-is_held held f holds.table holds.is_held)) passes in
    ap (λ (o : Option ℕ). is_some o) found.1

-- what is kept is told of
kept-told : (keeps : Bool) (held : List HeldCell) (rd : ℕ) → is_some (table_behind held rd) ≡ true
    → (names : List Needed) → AllByRecursion (IsWayRealm rd) names
    → list_all (λ (n : Needed). is_held n.granule held || (not keeps && tag_number n.tag == tag_number tag.Rd)) names ≡ true
    → list_all (is_told keeps held) names ≡ true
kept-told keeps held rd behind [] realms kept = refl
kept-told keeps held rd behind (n ∷ names) realms kept =
    let parts = and_parts (is_held n.granule held || (not keeps && tag_number n.tag == tag_number tag.Rd))
    (list_all (λ (m : Needed). is_held m.granule held || (not keeps && tag_number m.tag == tag_number tag.Rd)) names) kept in
    and_from (is_told keeps held n) (list_all (is_told keeps held) names)
    (by (is_held n.granule held) parts.0) (kept-told keeps held rd behind names realms.1 parts.1)
  where
    by : (b : Bool) → (b || (not keeps && tag_number n.tag == tag_number tag.Rd)) ≡ true
        → (b || (not keeps && tag_number n.tag == tag_number tag.Rd && is_some (table_behind held n.granule))) ≡ true
    by true is = refl
    by false is =
        let own = and_parts (not keeps) (tag_number n.tag == tag_number tag.Rd) is in
        and_from (not keeps && tag_number n.tag == tag_number tag.Rd) (is_some (table_behind held n.granule)) is
        (subst (λ x. is_some (table_behind held x) ≡ true) (sym (realms.0 own.1)) behind)

-- what a command keeps to its commit settles it
pub kept-settled : {config : Config} {side : Side} {held : List HeldCell} (w : Whole config side held) (c : Call) (way : Way) (g : ℕ)
    → way_of c ≡ Some way → way.max ≤ 3
    → (state w).table way.rd (reach (state w) way.rd way.ipa way.max) (table_number (reach (state w) way.rd way.ipa way.max) way.ipa) ≡ Some g
    → IsTrue (is_held g held)
    → is_kept c held ≡ true → is_part_held (part_below c (entry_for (state w) way.rd (reach (state w) way.rd way.ipa way.max) way.ipa)) held ≡ true
    → is_walk_settled config c held ≡ true
unfolding is_walk_settled are_told is_kept
kept-settled {config} {side} {held} w c way g walks last found has kept part =
    let ends = end-held w way g last found has in
    let end = walk-end w way ends in
    let realms = subst (AreWayRealms (named c)) walks (way-realms c) in
    let told = kept-told (keeps_realm c) held way.rd (placed-behind held way.rd _ _ end.granule end.placed) (named c) realms kept in
    let below : is_part_held (part_below c (end_entry config held way)) held ≡ true =
    subst (λ e. is_part_held (part_below c e) held ≡ true) end.same.entry part in
    let settled : is_way_settled config c held (way_of c) ≡ true =
    subst (λ o. is_way_settled config c held o ≡ true) (sym walks)
    (and_from (is_walk_held config held way) (is_part_held (part_below c (end_entry config held way)) held) ends below) in
    and_from (list_all (is_told (keeps_realm c) held) (named c))
    (is_refused_early (seen_answer config c held) || is_way_settled config c held (way_of c)) told
    (or_right (is_refused_early (seen_answer config c held)) (is_way_settled config c held (way_of c)) settled)
