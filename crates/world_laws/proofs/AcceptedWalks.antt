-- Where the walk's end is held, with what goes with it, all is held that an accepted command changes.
use Rattle.world_laws.proofs.Common.{◌&&◌, ◌-◌, ◌/◌, ◌<◌, ◌==◌, ◌||◌, ◌∙◌, ◌∷◌, ◌≡◌, ◌≤◌, Bool, Call, Config, Entry, HeldCell, List, None, Option, Some, Table, Way, [], and_parts, ap, arith, entry_for, entry_number, false, false≢true, is_held, is_some, is_table, is_walk_held, named, not, reach, reach-le, realm_at, refl, seen_state, subst, sym, table_number, table_number-entry, table_placed, true, way_of, ℕ}
use Rattle.std.proofs.Common.{Ok, eqb-true}
use Rattle.std.specs.List.{list_all}
use Rattle.std.proofs.lemmas.Bool.{and_from, ltb-true, leb-true}
use Rattle.rmm_spec.specs.declared.accepted.Accepted.{Accepted}
use Rattle.rmm_spec.specs.declared.accepted.Accepted.TheVariants.{Done, Reaches}
use Rattle.rmm_spec.specs.declared.call.Call.TheVariants as call
use Rattle.rmm_spec.specs.declared.call.Removal.{Removal}
use Rattle.rmm_spec.specs.declared.entry.Entry.TheVariants.{Assigned}
use Rattle.rmm_spec.specs.declared.tag.Tag.TheVariants as tag
use Rattle.rmm_spec.specs.Rows.{Needed}
use Rattle.rmm_spec.specs.Walk.{entry_address, is_assigned, walk}
use Rattle.rmm_spec.specs.Step.{answer_of}
use Rattle.rmm_spec.specs.Step.Front.{with_front}
use Rattle.rmm_spec.specs.Step.Terms.{words_of, needed}
use Rattle.rmm_spec.specs.Step.Ripas.{reached_change}
use Rattle.spec_lemmas.proofs.Behind.{behind}
use Rattle.rmm_laws.proofs.ByRows.{AllHold, decided-accepted}
use Rattle.rmm_laws.proofs.Ends.{table_number-above}
use Rattle.world_laws.specs.Walking.{way, keeps_realm, part_below, end_entry, is_part_held, is_told, are_told, is_way_settled}
use Rattle.world_laws.specs.TableCells.{holds_change}
use Rattle.world_laws.proofs.ToldWalks.{told-held, told-kept, first-told}

-- ---- places

-- whether the table of that place is held
abbrev IsPlaced : List HeldCell → ℕ → ℕ → ℕ → Type 0
IsPlaced held rd level number = is_some (table_placed held rd level number) ≡ true

-- the table at the walk's end
pub end-placed : (config : Config) (held : List HeldCell) (w : Way) → is_walk_held config held w ≡ true
    → IsPlaced held w.rd (reach (seen_state config held) w.rd w.ipa w.max) (table_number (reach (seen_state config held) w.rd w.ipa w.max) w.ipa)
unfolding is_walk_held
end-placed config held w is =
    let t = seen_state config held in
    let level = reach t w.rd w.ipa w.max in
    (and_parts (is_some (table_placed held w.rd level (table_number level w.ipa)))
    (level == w.max || not (is_table (entry_for t w.rd level w.ipa))) is).0

-- the table above one that is put in or taken out
above-placed : (held : List HeldCell) (rd ipa level end : ℕ) → IsPlaced held rd end (table_number end ipa) → end ≡ level - 1 → 0 < level → level ≤ 3
    → IsPlaced held rd (level - 1) (table_number level ipa / 512)
above-placed held rd ipa level end placed at below last =
    let number : table_number (level - 1) ipa ≡ table_number level ipa / 512 =
    table_number-entry (level - 1) ipa (omega (arith, last)) ∙ ap (λ n. n / 512) (sym (table_number-above level ipa below)) in
    subst (IsPlaced held rd (level - 1)) number (subst (λ l. IsPlaced held rd l (table_number l ipa)) at placed)

-- the table whose entry is replaced
page-placed : (held : List HeldCell) (rd ipa level : ℕ)
    → IsPlaced held rd level (table_number level ipa) → level ≤ 3 → IsPlaced held rd level (entry_number level ipa / 512)
page-placed held rd ipa level placed last = subst (IsPlaced held rd level) (table_number-entry level ipa last) placed

-- and where that is of the last level
last-placed : (held : List HeldCell) (rd ipa end : ℕ)
    → IsPlaced held rd end (table_number end ipa) → (end == 3) ≡ true → IsPlaced held rd 3 (entry_number 3 ipa / 512)
last-placed held rd ipa end placed ends =
    page-placed held rd ipa 3 (subst (λ l. IsPlaced held rd l (table_number l ipa)) (eqb-true end 3 ends) placed) (omega arith)

-- ---- parts

-- the child that is taken out is held
link-held : (removal : Removal) (rd ipa level : ℕ) (held : List HeldCell) (e : Entry)
    → is_part_held (part_below (call.RttRemove removal rd ipa level) e) held ≡ true → is_table e ≡ true
    → is_held (entry_address e) held ≡ true
unfolding part_below
link-held removal rd ipa level held (Table child) part link = part
link-held removal rd ipa level held _ part link = absurd (false≢true link)

-- the page that DATA_DESTROY takes out is held
page-held : (rd ipa : ℕ) (held : List HeldCell) (e : Entry) → is_part_held (part_below (call.DataDestroy rd ipa) e) held ≡ true → is_assigned e ≡ true
    → is_held (entry_address e) held ≡ true
unfolding part_below
page-held rd ipa held (Assigned ripas page) part taken = part
page-held rd ipa held _ part taken = absurd (false≢true taken)

-- ---- commands

-- what is done changes what is held
abbrev IsHeldChange : List HeldCell → Accepted → Type 0
IsHeldChange held (Done words change) = holds_change held change ≡ true
IsHeldChange held (Reaches stretch) = (top : ℕ) → holds_change held (reached_change stretch top) ≡ true

-- the second granule that is named
second-told : (told : Needed → Bool) (a n : Needed) (names : List Needed) → list_all told (a ∷ (n ∷ names)) ≡ true → told n ≡ true
second-told told a n names all = (and_parts (told n) (list_all told names) (and_parts (told a) (list_all told (n ∷ names)) all).1).0

and4 : (a b c d : Bool) → a ≡ true → b ≡ true → c ≡ true → d ≡ true → (a && b && c && d) ≡ true
and4 a b c d first second third fourth = rw (first, second, third, fourth) refl

-- a walk's end is held, with what is taken out below it
abbrev pub IsSettledBy : Config → Call → List HeldCell → Option Way → Type 0
IsSettledBy config c held None = ⊥
IsSettledBy config c held (Some w) = (is_walk_held config held w ≡ true) × (is_part_held (part_below c (end_entry config held w)) held ≡ true)

-- what settles a walk, in its two parts
pub settled-by : (config : Config) (c : Call) (held : List HeldCell) (o : Option Way)
    → is_way_settled config c held o ≡ true → IsSettledBy config c held o
settled-by config c held None settled = false≢true settled
settled-by config c held (Some w) settled =
    and_parts (is_walk_held config held w) (is_part_held (part_below c (end_entry config held w)) held) settled

-- of each command whose rows all hold: they say where its walk ends
rows-held : (config : Config) (held : List HeldCell) (cpu : ℕ) (c : Call) → are_told c held ≡ true → IsSettledBy config c held (way_of c)
    → AllHold (with_front (seen_state config held) c (behind (seen_state config held) cpu c).0)
    → IsHeldChange held (behind (seen_state config held) cpu c).1
unfolding behind words_of named way_of are_told keeps_realm holds_change reached_change
rows-held config held cpu (call.RttCreate rd rtt ipa level) told settled
    (level_fits, (aligned, (rd_tag, (rtt_tag, (above, (below, (ends, (leaf, _)))))))) =
    let t = seen_state config held in
    let under : (realm_at t rd).start_level < level = ltb-true (realm_at t rd).start_level level above in
    let last : level ≤ 3 = leb-true level 3 level_fits in
    and_from (is_held rtt held) (is_some (table_placed held rd (level - 1) (table_number level ipa / 512)))
    (told-held false held (needed rtt tag.Delegated) refl (second-told (is_told false held) (needed rd tag.Rd) (needed rtt tag.Delegated) [] told))
    (above-placed held rd ipa level (reach t rd ipa (level - 1)) (end-placed config held (way rd ipa (level - 1)) settled.0)
    (eqb-true (reach t rd ipa (level - 1)) (level - 1) ends) (omega (arith, under)) last)
rows-held config held cpu (call.RttRemove removal rd ipa level) told settled
    (level_fits, (aligned, (rd_tag, (above, (below, (walks, (linked, (some, _)))))))) =
    let t = seen_state config held in
    let under : (realm_at t rd).start_level < level = ltb-true (realm_at t rd).start_level level above in
    let last : level ≤ 3 = leb-true level 3 level_fits in
    and_from (is_held (entry_address (walk t rd ipa (level - 1)).entry) held)
    (is_some (table_placed held rd (level - 1) (table_number level ipa / 512)))
    (link-held removal rd ipa level held (walk t rd ipa (level - 1)).entry settled.1 linked)
    (above-placed held rd ipa level (reach t rd ipa (level - 1)) (end-placed config held (way rd ipa (level - 1)) settled.0)
    (eqb-true (reach t rd ipa (level - 1)) (level - 1) walks) (omega (arith, under)) last)
rows-held config held cpu (call.RttReadEntry rd ipa level) told settled rows = refl
rows-held config held cpu (call.DataCreate rd granule ipa source flags digest) told settled
    (flags_fit, (aligned, (rd_tag, (page_tag, (source_tag, (below, (new, (ends, (free, _))))))))) =
    let names = needed granule tag.Delegated ∷ needed source tag.Undelegated ∷ [] in
    and4 _ _ _ _ (told-held true held (needed granule tag.Delegated) refl
    (second-told (is_told true held) (needed rd tag.Rd) (needed granule tag.Delegated) (needed source tag.Undelegated ∷ []) told))
    (told-kept held (needed rd tag.Rd) (first-told (is_told true held) (needed rd tag.Rd) names told)) refl
    (last-placed held rd ipa _ (end-placed config held (way rd ipa 3) settled.0) ends)
rows-held config held cpu (call.DataCreateUnknown rd granule ipa) told settled (aligned, (rd_tag, (page_tag, (below, (ends, (free, _)))))) =
    and4 _ _ _ _ (told-held false held (needed granule tag.Delegated) refl
    (second-told (is_told false held) (needed rd tag.Rd) (needed granule tag.Delegated) [] told)) refl refl
    (last-placed held rd ipa _ (end-placed config held (way rd ipa 3) settled.0) ends)
rows-held config held cpu (call.DataDestroy rd ipa) told settled (aligned, (rd_tag, (below, (ends, (taken, _))))) =
    and4 _ _ _ _ (page-held rd ipa held (walk (seen_state config held) rd ipa 3).entry settled.1 taken) refl refl
    (last-placed held rd ipa _ (end-placed config held (way rd ipa 3) settled.0) ends)
rows-held config held cpu (call.RttMapUnprotected rd ipa page) told settled (aligned, (page_fits, (rd_tag, (upper, (ends, (free, _)))))) =
    last-placed held rd ipa _ (end-placed config held (way rd ipa 3) settled.0) ends
rows-held config held cpu (call.RttUnmapUnprotected rd ipa) told settled (aligned, (rd_tag, (upper, (ends, (free, _))))) =
    last-placed held rd ipa _ (end-placed config held (way rd ipa 3) settled.0) ends
rows-held config held cpu (call.RttInitRipas rd base top) told settled rows = λ end.
    and4 _ _ _ _ refl (told-kept held (needed rd tag.Rd) (first-told (is_told true held) (needed rd tag.Rd) [] told)) refl
    (page-placed held rd base _ (end-placed config held (way rd base 3) settled.0) (reach-le (seen_state config held) rd base 3))
rows-held config held cpu (call.RttSetRipas rd rec base top) told settled rows = λ end.
    and4 _ _ _ _ refl refl
    (and_from (is_held rec held) true
    (told-held false held (needed rec tag.Rec) refl (second-told (is_told false held) (needed rd tag.Rd) (needed rec tag.Rec) [] told)) refl)
    (page-placed held rd base _ (end-placed config held (way rd base 3) settled.0) (reach-le (seen_state config held) rd base 3))
rows-held config held cpu _ told settled rows = absurd settled

-- what a settled walk does changes what is held
pub accepted-held : (config : Config) (held : List HeldCell) (cpu : ℕ) (c : Call) (a : Accepted) → are_told c held ≡ true
    → is_way_settled config c held (way_of c) ≡ true → answer_of (seen_state config held) cpu c ≡ Ok a → IsHeldChange held a
accepted-held config held cpu c a told settled is =
    let t = seen_state config held in
    let rows = behind t cpu c in
    let all = decided-accepted (with_front t c rows.0) rows.1 a (sym rows.2 ∙ is) in
    subst (IsHeldChange held) all.1 (rows-held config held cpu c told (settled-by config c held (way_of c) settled) all.0)
