-- Entries of the last level that are unassigned RAM: one that RTT_INIT_RIPAS makes so is so behind it, stays so until a call may replace it or set
-- its RIPAS, and isn't refused to be given a page.
use Rattle.verdict_laws.proofs.Common.{◌≡◌, ℕ, ◌+◌, ◌-◌, ◌*◌, ◌<◌, ◌≤◌, ◌==◌, ◌&&◌, ◌||◌, nat_le, nat_lt, suc, true, false, not, IsTrue, Option, Some, is_some, refl, sym, ◌∙◌, ap, subst, eqb-true, eq-eqb, arith, and_parts, not-true, or_parts, Call, Command, Entry, Reply, Rd, call_of, changed, has_tag, realm_at, is_accepted, IsSound, State, Step, outcome, IsReached, reached_change, entry_at, entry_number, reach, both_ways, behind, realm_there}
use Rattle.std.proofs.Common.{◌/◌, ◌%◌, option_map}
use Rattle.std.proofs.lemmas.Bool.{le-leb, leb-true, lt-ltb, ltb-true}
use Rattle.rmm_spec.specs.declared.accepted.StretchUse.{StretchUse}
use Rattle.rmm_spec.specs.declared.accepted.StretchUse.TheVariants.{Init}
use Rattle.rmm_spec.specs.declared.call.Call.TheVariants as call
use Rattle.rmm_spec.specs.declared.entry.Entry.TheVariants.{Unassigned}
use Rattle.rmm_spec.specs.declared.tag.Ripas.TheVariants.{Ram}
use Rattle.rmm_spec.specs.Applicable.{CanSetRipas}
use Rattle.rmm_spec.specs.Sound.{IsLeafOf}
use Rattle.rmm_spec.specs.Step.Ripas.{can_be_set}
use Rattle.rmm_spec.specs.Update.{entry_with_ripas}
use Rattle.rmm_spec.specs.Walk.{entry_size, half, is_assigned, is_multiple, is_table, table_size}
use Rattle.spec_lemmas.proofs.WalkLaws.{reach-le}
use Rattle.rmm_laws.proofs.Entries.{leaf_there}
use Rattle.verdict_laws.specs.Denying.{is_refused_with}
use Rattle.verdict_laws.specs.Facts.{creates_page, creates_unknown, frees_entry, is_free, is_free_ram, is_told_past, may_assign, may_reshape, may_set_ripas, sets_ram}
use Rattle.verdict_laws.proofs.EntryChanges.{leaf-left, leaf_found, leaf_reached}
use Rattle.verdict_laws.proofs.EntryFacts.{unassigned_lower}
use Rattle.verdict_laws.proofs.FactSteps.{are_told, step-untold}
use Rattle.verdict_laws.proofs.TagFacts.{IsCarried, carried_by}

-- ---- entries

-- what is unassigned RAM is there
pub ram_there : (found : Option Entry) → is_free_ram found ≡ true → found ≡ Some (Unassigned Ram)
ram_there (Some (Unassigned Ram)) ram = refl
ram_there _ ram = both_ways ram refl

-- what is unassigned is RAM where its RIPAS is set to that
free_set : (found : Option Entry) → is_free found ≡ true → is_free_ram (option_map (entry_with_ripas Ram) found) ≡ true
free_set (Some (Unassigned ripas)) free = refl
free_set _ free = both_ways free refl

-- ---- stretches

-- a stretch that isn't as long as whole tables of the last level is of that level
pub last_stretch : (base count level : ℕ) → level ≤ 3 → is_multiple (base + count * entry_size level - base) (table_size 3) ≡ false → level ≡ 3
unfolding entry_size table_size
last_stretch base count (suc (suc (suc level))) last apart = omega (arith, last)
last_stretch base count _ last apart = both_ways (eq-eqb _ 0 (omega arith)) apart

-- from base up to top entries of the level may be set for the purpose
abbrev pub MaySet : State → StretchUse → (rd base asked top level : ℕ) → Type 0
MaySet s purpose rd base asked top level =
    IsReached s (record { rd = rd; base = base; top = asked; level = level; purpose = purpose }) top
    × IsTrue (is_multiple base (entry_size level)) × CanSetRipas s rd level (entry_number level base) (entry_number level top)

-- Where an entry of the last level stands in a stretch of so many: by its number, and as a leaf of the protected half.
pub record IsWithin (s : State) (rd base top ipa count : ℕ) : Type 0 where
  pub above : entry_number 3 base ≤ entry_number 3 ipa
  pub up_to : entry_number 3 ipa < entry_number 3 top
  pub within : entry_number 3 ipa - entry_number 3 base < count
  pub leaf : s.leaf rd 3 (entry_number 3 ipa) ≡ Some (entry_at s rd 3 (entry_number 3 ipa))
  pub lower : entry_number 3 ipa * entry_size 3 < half (realm_at s rd)
  pub fits : IsLeafOf (entry_at s rd 3 (entry_number 3 ipa)) (realm_at s rd) 3 (entry_number 3 ipa)

-- so it does with an address between its ends
pub IsWithin-may_set : (s : State) (purpose : StretchUse) (rd base asked top ipa : ℕ) → IsSound s → IsTrue (has_tag s rd Rd)
    → (may : MaySet s purpose rd base asked top 3) → base ≤ ipa → ipa < top → IsWithin s rd base top ipa may.0.count
unfolding entry_number entry_size
IsWithin-may_set s purpose rd base asked top ipa sound tag (reached, begins, can) from below =
    let first = entry_number 3 base in
    let n = entry_number 3 ipa in
    let page : base % 4096 ≡ 0 = eqb-true (base % 4096) 0 begins in
    let ends : top ≡ base + reached.count * 4096 = reached.is_end in
    let above : first ≤ n = omega (arith, from) in
    let up_to : n < entry_number 3 top = omega (arith, page, ends, below) in
    let same : first / 512 ≡ n / 512 = omega (arith, above, up_to, can.one_table) in
    let leaf = leaf_there s sound rd 3 n (subst (λ t. IsTrue (is_some (s.table rd 3 t))) same can.table) (can.leaves n above up_to) in
    record {
      above = above;
      up_to = up_to;
      within = omega (arith, page, ends, below);
      leaf = leaf;
      lower = omega (arith, can.protected, up_to);
      fits = sound.leaves.kinds rd 3 n (entry_at s rd 3 n) (realm_at s rd) leaf (realm_there s rd sound tag);
    }

-- before a realm runs it is unassigned
stretch_free : (s : State) (rd base asked top ipa : ℕ) → (may : MaySet s Init rd base asked top 3) → IsWithin s rd base top ipa may.0.count
    → is_free (s.leaf rd 3 (entry_number 3 ipa)) ≡ true
stretch_free s rd base asked top ipa (reached, begins, can) there =
    let first = entry_number 3 base in
    let n = entry_number 3 ipa in
    let e = entry_at s rd 3 n in
    let above = there.above in
    let again : first + (n - first) ≡ n = omega (arith, above) in
    let settable = subst (λ k. IsTrue (can_be_set Init (entry_at s rd 3 k))) again (reached.each (n - first) there.within) in
    let no_page = not-true (is_assigned e) (and_parts (not (is_table e)) (not (is_assigned e)) settable).1 in
    rw there.leaf (unassigned_lower e (realm_at s rd) 3 n (λ has _. both_ways has no_page) there.lower there.fits)

-- ---- behind a call

-- RTT_INIT_RIPAS makes the entries of its stretch RAM
made_ram : (rd ipa : ℕ) (s new : State) (cpu : ℕ) (given : Reply) (c : Call) → IsSound s → IsCarried s cpu c given new
    → sets_ram c given rd ipa ≡ true → is_free_ram (new.leaf rd 3 (entry_number 3 ipa)) ≡ true
unfolding behind sets_ram changed reached_change
made_ram rd ipa s new cpu given (call.RttInitRipas other base asked) sound carried sets =
    let parts = and_parts (rd == other && nat_le base ipa) (is_told_past base ipa given) sets in
    let from = and_parts (rd == other) (nat_le base ipa) parts.0 in
    let (top, (reached, is_ok, is_next)) = carried.done in
    let past = and_parts (nat_lt ipa top) (not (is_multiple (top - base) (table_size 3))) (ap (is_told_past base ipa) (sym is_ok) ∙ parts.1) in
    let apart = not-true (is_multiple (top - base) (table_size 3)) past.1 in
    let last = last_stretch base reached.count (reach s other base 3) (reach-le s other base 3)
    (ap (λ t. is_multiple (t - base) (table_size 3)) (sym reached.is_end) ∙ apart) in
    let can = carried.can top reached in
    let may = subst (MaySet s Init other base asked top) last (reached, carried.rows.1.1.1.0, can.1.0) in
    let there = IsWithin-may_set s Init other base asked top ipa sound can.0 may (leb-true base ipa from.1) (ltb-true ipa top past.0) in
    let free = stretch_free s other base asked top ipa may there in
    let here = subst (λ r. is_free (s.leaf r 3 (entry_number 3 ipa)) ≡ true) (sym (eqb-true rd other from.0)) free in
    rw (is_next, last, from.0, le-leb _ _ there.above, lt-ltb _ _ there.up_to) (free_set (s.leaf rd 3 (entry_number 3 ipa)) here)
made_ram rd ipa s new cpu given _ sound carried sets = both_ways sets refl

-- DATA_CREATE isn't refused for it
behind_creates : (rd ipa : ℕ) (s : State) (cpu : ℕ) (c : Call) → IsSound s → s.leaf rd 3 (entry_number 3 ipa) ≡ Some (Unassigned Ram)
    → creates_page c rd ipa ≡ true → are_told (is_refused_with 4) (behind s cpu c).0 ≡ false
unfolding behind creates_page
behind_creates rd ipa s cpu (call.DataCreate other granule at source flags digest) sound leaf same =
    rw (
      leaf_found s sound rd ipa (Unassigned Ram) leaf other at same refl,
      leaf_reached s sound rd ipa (Unassigned Ram) leaf other at same,
    ) refl
behind_creates rd ipa s cpu _ sound leaf same = both_ways same refl

-- ---- steps

-- where a call makes the entry RAM, and is accepted, it is unassigned RAM
pub ram-made : (rd ipa : ℕ) (s new : State) (cpu : ℕ) (command : Command) (given : Reply) → IsSound s → Step s cpu command given new
    → is_accepted given ≡ true → sets_ram (call_of command) given rd ipa ≡ true → is_free_ram (new.leaf rd 3 (entry_number 3 ipa)) ≡ true
ram-made rd ipa s new cpu command given sound step accepted =
    let c = call_of command in
    made_ram rd ipa s new cpu given c sound (carried_by s cpu command given new (outcome s cpu c) sound accepted refl step)

-- it stays so, but by a call that may replace it or set its RIPAS
pub ram-left : (rd ipa : ℕ) (s new : State) (cpu : ℕ) (command : Command) (given : Reply) → IsSound s → Step s cpu command given new
    → (may_assign (call_of command) rd ipa || frees_entry (call_of command) rd ipa || may_set_ripas (call_of command) rd ipa) ≡ false
    → is_free_ram (s.leaf rd 3 (entry_number 3 ipa)) ≡ true → is_free_ram (new.leaf rd 3 (entry_number 3 ipa)) ≡ true
ram-left rd ipa s new cpu command given sound step stays ram =
    let c = call_of command in
    let parts = or_parts (may_assign c rd ipa || frees_entry c rd ipa) (may_set_ripas c rd ipa) stays in
    let more = or_parts (may_assign c rd ipa) (frees_entry c rd ipa) parts.0 in
    let three = or_parts (may_reshape c rd ipa || creates_page c rd ipa) (creates_unknown c rd ipa) more.0 in
    let both = or_parts (may_reshape c rd ipa) (creates_page c rd ipa) three.0 in
    leaf-left is_free_ram rd ipa s cpu sound (Unassigned Ram) (ram_there (s.leaf rd 3 (entry_number 3 ipa)) ram) refl new command given step (record {
      stays = both.0;
      given = λ granule creates. both_ways creates both.1;
      unknown = λ granule creates. both_ways creates three.1;
      freed = λ frees. both_ways frees more.1;
      init = λ _ found is. rw (ram_there found is) refl;
      requested = λ ripas sets. both_ways sets parts.1;
    }) refl

-- and it isn't refused to be given a page
pub ram-denied : (rd ipa : ℕ) (s new : State) (cpu : ℕ) (command : Command) (given : Reply) → IsSound s → Step s cpu command given new
    → is_free_ram (s.leaf rd 3 (entry_number 3 ipa)) ≡ true → (is_refused_with 4 given && creates_page (call_of command) rd ipa) ≡ true → ⊥
ram-denied rd ipa s new cpu command given sound step ram denied =
    let c = call_of command in
    let parts = and_parts (is_refused_with 4 given) (creates_page c rd ipa) denied in
    both_ways parts.0 (step-untold (is_refused_with 4) (λ words. refl) refl refl s new cpu command given
    (behind_creates rd ipa s cpu c sound (ram_there (s.leaf rd 3 (entry_number 3 ipa)) ram) parts.1) step)
