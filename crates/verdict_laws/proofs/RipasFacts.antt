-- Entries of the last level of a RIPAS: one that a call makes so, by itself or as a REC asked, is so until another may replace it or set its RIPAS,
-- and isn't read as of another.
use Rattle.verdict_laws.proofs.Common.{◌≡◌, ℕ, ◌-◌, ◌*◌, ◌<◌, ◌==◌, ◌&&◌, ◌||◌, nat_le, nat_lt, if◌then◌else◌, Bool, true, false, not, Option, Some, inl, inr, refl, sym, ◌∙◌, ap, subst, eqb-true, eq-eqb, arith, IsTrue, unwrap_or, is_none, and_from, and_parts, cases_Bool, not-true, or_cases, or_parts, Call, Command, Entry, Reply, call_of, changed, no_rec, realm_at, rec_at, rec_inside, request_of, is_accepted, IsSound, RealmRecord, State, Step, outcome, step-refuses, reached_change, entry_at, entry_number, reach, both_ways, behind, Fact, holds}
use Rattle.std.specs.Prelude.{option_map}
use Rattle.std.proofs.lemmas.Bool.{le-leb, leb-true, lt-ltb, ltb-true}
use Rattle.rmm_spec.specs.declared.accepted.StretchUse.TheVariants.{Requested}
use Rattle.rmm_spec.specs.declared.call.Call.TheVariants as call
use Rattle.rmm_spec.specs.declared.entry.Entry.TheVariants.{Assigned, AssignedNs, Table, Unassigned, UnassignedNs}
use Rattle.rmm_spec.specs.declared.tag.Ripas.{Ripas}
use Rattle.rmm_spec.specs.declared.tag.Ripas.TheVariants.{Destroyed, Empty, Ram}
use Rattle.rmm_spec.specs.Lookup.{ripas_number}
use Rattle.rmm_spec.specs.Sound.{IsLeafOf}
use Rattle.rmm_spec.specs.Step.Data.{ripas_after_data}
use Rattle.rmm_spec.specs.Update.{entry_with_ripas}
use Rattle.rmm_spec.specs.Walk.{entry_ripas, entry_size, half, is_multiple, is_table, table_size}
use Rattle.spec_lemmas.proofs.WalkLaws.{reach-le}
use Rattle.verdict_laws.specs.declared.facts.Fact.TheVariants.{RunsOrAsksTo, HasRipas}
use Rattle.verdict_laws.specs.Denying.{is_reported, reads_entry}
use Rattle.verdict_laws.specs.Facts.{creates_page, frees_entry, has_ripas, is_one_entry, is_told, is_told_past, leaves_beside, makes_with, may_init, may_reshape, may_set_ripas, runs_or_asks_to, sets_asked, sets_ram, sets_ripas}
use Rattle.verdict_laws.proofs.EntryChanges.{carried_met, leaf-left, leaf_found, ripas_read-denied, same_entry-last}
use Rattle.verdict_laws.proofs.FactSteps.{IsDoneSo, step-has}
use Rattle.verdict_laws.proofs.RamFacts.{IsWithin-may_set, MaySet, last_stretch, ram-made, ram_there}
use Rattle.verdict_laws.proofs.RecFacts.{to_read}
use Rattle.verdict_laws.proofs.TagFacts.{IsCarried, carried_by}

-- ---- entries

-- what has a RIPAS is there, and is no link
ripas_there : (ripas : ℕ) (found : Option Entry) → has_ripas found ripas ≡ true
    → (e : Entry) × (found ≡ Some e) × (is_table e ≡ false) × (ripas_number (entry_ripas e) ≡ ripas)
ripas_there ripas (Some (Unassigned its)) has = (Unassigned its, refl, refl, eqb-true (ripas_number its) ripas has)
ripas_there ripas (Some (Assigned its at)) has = (Assigned its at, refl, refl, eqb-true (ripas_number its) ripas has)
ripas_there ripas _ has = both_ways has refl

-- a leaf of the protected half is of a RIPAS that is set
ripas_set : (e : Entry) (r : RealmRecord) (n : ℕ) (ripas : Ripas) → n * entry_size 3 < half r → IsLeafOf e r 3 n
    → has_ripas (Some (entry_with_ripas ripas e)) (ripas_number ripas) ≡ true
ripas_set (Unassigned old) r n ripas lower fits = eq-eqb (ripas_number ripas) _ refl
ripas_set (Assigned old granule) r n ripas lower fits = eq-eqb (ripas_number ripas) _ refl
ripas_set (Table granule) r n ripas lower fits = absurd fits
ripas_set UnassignedNs r n ripas lower fits = absurd (omega (arith, lower, fits))
ripas_set (AssignedNs page) r n ripas lower fits = absurd (omega (arith, lower, fits.0))

-- ---- behind a call

-- DATA_CREATE leaves RAM
behind_creates : (rd ipa : ℕ) (s : State) (cpu : ℕ) (c : Call) → creates_page c rd ipa ≡ true
    → IsDoneSo (λ change. has_ripas ((changed s change).leaf rd 3 (entry_number 3 ipa)) 1 ≡ true) (behind s cpu c).1
unfolding behind creates_page changed
behind_creates rd ipa s cpu (call.DataCreate other granule at source flags digest) creates = rw (same_entry-last rd ipa other at ∙ creates) refl
behind_creates rd ipa s cpu _ creates = both_ways creates refl

-- RTT_SET_RIPAS leaves what its REC asked for
made_asked : (rd ipa rec top asked : ℕ) (s new : State) (cpu : ℕ) (given : Reply) (c : Call) → IsSound s → IsCarried s cpu c given new
    → runs_or_asks_to (s.rec rec) top asked ≡ true → sets_ripas c given rec rd ipa ≡ true
    → has_ripas (new.leaf rd 3 (entry_number 3 ipa)) asked ≡ true
unfolding behind sets_ripas changed reached_change rec_at
made_asked rd ipa rec top asked s new cpu given (call.RttSetRipas other its_rec base wanted) sound carried asks sets =
    let parts = and_parts (rec == its_rec && rd == other && nat_le base ipa) (is_told_past base ipa given) sets in
    let from = and_parts (rec == its_rec && rd == other) (nat_le base ipa) parts.0 in
    let own = and_parts (rec == its_rec) (rd == other) from.0 in
    let (end, (reached, is_ok, is_next)) = carried.done in
    let past = and_parts (nat_lt ipa end) (not (is_multiple (end - base) (table_size 3))) (ap (is_told_past base ipa) (sym is_ok) ∙ parts.1) in
    let apart = not-true (is_multiple (end - base) (table_size 3)) past.1 in
    let last = last_stretch base reached.count (reach s other base 3) (reach-le s other base 3)
    (ap (λ t. is_multiple (t - base) (table_size 3)) (sym reached.is_end) ∙ apart) in
    let can = carried.can end reached in
    let ripas = (request_of (rec_at s its_rec)).ripas in
    let purpose = Requested its_rec ripas in
    let may = subst (MaySet s purpose other base wanted end) last (reached, carried.rows.1.1.1.1.1.1.1.0, can.1.0) in
    let there = IsWithin-may_set s purpose other base wanted end ipa sound can.0 may (leb-true base ipa from.1) (ltb-true ipa end past.0) in
    let idle = subst (λ g. IsTrue (is_none (unwrap_or (s.rec g) no_rec).cpu)) (sym (eqb-true rec its_rec own.0)) carried.rows.1.0 in
    let kind : ripas_number ripas ≡ asked =
    ap (λ g. ripas_number (request_of (unwrap_or (s.rec g) no_rec)).ripas) (sym (eqb-true rec its_rec own.0))
    ∙ (to_read top asked (s.rec rec) asks idle).2 in
    let n = entry_number 3 ipa in
    let here = subst (λ r. s.leaf r 3 n ≡ Some (entry_at s other 3 n)) (sym (eqb-true rd other own.1)) there.leaf in
    rw (is_next, last, own.1, le-leb _ _ there.above, lt-ltb _ _ there.up_to, here)
    (ap (has_ripas (Some (entry_with_ripas ripas (entry_at s other 3 n)))) (sym kind)
    ∙ ripas_set (entry_at s other 3 n) (realm_at s other) n ripas there.lower there.fits)
made_asked rd ipa rec top asked s new cpu given _ sound carried asks sets = both_ways sets refl

-- an entry of a RIPAS is of that still where it is set
set_same : (asked : ℕ) (ripas : Ripas) (found : Option Entry) → ripas_number ripas ≡ asked → has_ripas found asked ≡ true
    → has_ripas (option_map (entry_with_ripas ripas) found) asked ≡ true
set_same asked ripas (Some (Unassigned its)) is has = eq-eqb (ripas_number ripas) asked is
set_same asked ripas (Some (Assigned its at)) is has = eq-eqb (ripas_number ripas) asked is
set_same asked ripas _ is has = both_ways has refl

-- so RTT_SET_RIPAS leaves one of the RIPAS that its REC asked for
left_asked : (rd ipa rec top asked : ℕ) (s new : State) (cpu : ℕ) (given : Reply) (c : Call) → IsSound s → IsCarried s cpu c given new
    → runs_or_asks_to (s.rec rec) top asked ≡ true → sets_asked c rec ≡ true → has_ripas (s.leaf rd 3 (entry_number 3 ipa)) asked ≡ true
    → has_ripas (new.leaf rd 3 (entry_number 3 ipa)) asked ≡ true
unfolding behind sets_asked reached_change rec_at
left_asked rd ipa rec top asked s new cpu given (call.RttSetRipas other its_rec base wanted) sound carried asks sets has =
    let here = sym (eqb-true rec its_rec sets) in
    let idle = subst (λ g. IsTrue (is_none (unwrap_or (s.rec g) no_rec).cpu)) here carried.rows.1.0 in
    let ripas = (request_of (unwrap_or (s.rec its_rec) no_rec)).ripas in
    let kind : ripas_number ripas ≡ asked =
    ap (λ g. ripas_number (request_of (unwrap_or (s.rec g) no_rec)).ripas) here ∙ (to_read top asked (s.rec rec) asks idle).2 in
    carried_met (λ found. has_ripas found asked) rd (entry_number 3 ipa) s has new given (behind s cpu (call.RttSetRipas other its_rec base wanted)).1
    sound (λ end reached hit found. set_same asked ripas found kind) carried.can carried.done
left_asked rd ipa rec top asked s new cpu given _ sound carried asks sets has = both_ways sets refl

-- ---- steps

module _ (rd ipa ripas : ℕ) (s new : State) (cpu : ℕ) (command : Command) (given : Reply) (sound : IsSound s) (step : Step s cpu command given new)
  where
    -- the call
    abbrev c : Call
    c = call_of command

    -- where a call makes it RAM, it is
    pub ripas-made : is_accepted given ≡ true → (ripas == 1 && (sets_ram c given rd ipa || creates_page c rd ipa)) ≡ true
        → has_ripas (new.leaf rd 3 (entry_number 3 ipa)) ripas ≡ true
    ripas-made accepted makes =
        let parts = and_parts (ripas == 1) (sets_ram c given rd ipa || creates_page c rd ipa) makes in
        ap (has_ripas (new.leaf rd 3 (entry_number 3 ipa))) (eqb-true ripas 1 parts.0)
        ∙ elim (or_cases (sets_ram c given rd ipa) (creates_page c rd ipa) parts.1) [
          | inl sets ↦
              ap (λ found. has_ripas found 1) (ram_there (new.leaf rd 3 (entry_number 3 ipa))
              (ram-made rd ipa s new cpu command given sound step accepted sets))
          | inr creates ↦
              step-has (λ t. has_ripas (t.leaf rd 3 (entry_number 3 ipa)) 1 ≡ true) _ s new cpu command given (λ change is. is) (both_ways accepted)
              (behind_creates rd ipa s cpu c creates) step
        ]

    -- it is of that RIPAS until a call may replace it, take RAM back or set its RIPAS
    pub ripas-left : (may_reshape c rd ipa || (if ripas == 1 then frees_entry c rd ipa else creates_page c rd ipa) || may_set_ripas c rd ipa
        || may_init c rd) ≡ false → has_ripas (s.leaf rd 3 (entry_number 3 ipa)) ripas ≡ true
        → has_ripas (new.leaf rd 3 (entry_number 3 ipa)) ripas ≡ true
    ripas-left stays has =
        let kept = if ripas == 1 then frees_entry c rd ipa else creates_page c rd ipa in
        let parts = or_parts (may_reshape c rd ipa || kept || may_set_ripas c rd ipa) (may_init c rd) stays in
        let more = or_parts (may_reshape c rd ipa || kept) (may_set_ripas c rd ipa) parts.0 in
        let both = or_parts (may_reshape c rd ipa) kept more.0 in
        let (e, leaf, unlinked, kind) = ripas_there ripas (s.leaf rd 3 (entry_number 3 ipa)) has in
        let is = λ (r : Ripas) (same : ripas_number r ≡ ripas). eq-eqb (ripas_number r) ripas same in
        leaf-left (λ (found : Option Entry). has_ripas found ripas) rd ipa s cpu sound e leaf unlinked new command given step (record {
          stays = both.0;
          given = λ granule creates. created (ripas == 1) refl both.1 creates;
          unknown = λ granule creates. is (entry_ripas e) kind;
          freed = λ frees. taken (ripas == 1) refl both.1 frees (entry_ripas e) kind;
          init = λ sets. both_ways sets parts.1;
          requested = λ its sets. both_ways sets more.1;
        }) (ap (λ found. has_ripas found ripas) (sym leaf) ∙ has)
      where
        -- where DATA_CREATE may come, it is RAM
        created : (b : Bool) → (ripas == 1) ≡ b → (if b then frees_entry c rd ipa else creates_page c rd ipa) ≡ false
            → creates_page c rd ipa ≡ true → (1 == ripas) ≡ true
        created true ram kept creates = eq-eqb 1 ripas (sym (eqb-true ripas 1 ram))
        created false other kept creates = both_ways creates kept

        -- where a page may be taken back, it isn't, and stays what it is
        taken : (b : Bool) → (ripas == 1) ≡ b → (if b then frees_entry c rd ipa else creates_page c rd ipa) ≡ false
            → frees_entry c rd ipa ≡ true → (its : Ripas) → ripas_number its ≡ ripas → (ripas_number (ripas_after_data its) == ripas) ≡ true
        taken true ram kept frees its same = both_ways frees kept
        taken false other kept frees Empty same = eq-eqb 0 ripas same
        taken false other kept frees Destroyed same = eq-eqb 2 ripas same
        taken false other kept frees Ram same = both_ways (eq-eqb ripas 1 (sym same)) other

    -- and isn't read as of another
    pub ripas-denied : has_ripas (s.leaf rd 3 (entry_number 3 ipa)) ripas ≡ true
        → (is_accepted given && reads_entry c rd ipa && not (is_reported 3 ripas given)) ≡ true → ⊥
    ripas-denied has denied =
        let parts = and_parts (is_accepted given && reads_entry c rd ipa) (not (is_reported 3 ripas given)) denied in
        let both = and_parts (is_accepted given) (reads_entry c rd ipa) parts.0 in
        let (e, leaf, unlinked, kind) = ripas_there ripas (s.leaf rd 3 (entry_number 3 ipa)) has in
        both_ways
        (ap (λ n. is_reported 3 n given) (sym kind) ∙ ripas_read-denied rd ipa s new cpu command given sound step e leaf unlinked both.0 both.1)
        (not-true (is_reported 3 ripas given) parts.1)

-- where a call makes a fact so with another, and is accepted where that holds, the fact holds behind it
pub with-made : (other fact : Fact) (s new : State) (cpu : ℕ) (command : Command) (given : Reply) → IsSound s → Step s cpu command given new
    → is_accepted given ≡ true → holds other s ≡ true → makes_with other fact (call_of command) given ≡ true → holds fact new ≡ true
with-made (RunsOrAsksTo rec top asked) (HasRipas rd ipa ripas) s new cpu command given sound step accepted holds_other makes =
    let c = call_of command in
    let parts = and_parts (ripas == asked) (sets_ripas c given rec rd ipa) makes in
    ap (has_ripas (new.leaf rd 3 (entry_number 3 ipa))) (eqb-true ripas asked parts.0)
    ∙ made_asked rd ipa rec top asked s new cpu given c sound (carried_by s cpu command given new (outcome s cpu c) sound accepted refl step)
    holds_other parts.1
with-made _ _ s new cpu command given sound step accepted holds_other makes = both_ways makes refl

-- where a call leaves a fact with another that holds, it holds behind it
pub beside-left : (other fact : Fact) (s new : State) (cpu : ℕ) (command : Command) (given : Reply) → IsSound s → Step s cpu command given new
    → holds other s ≡ true → leaves_beside other fact (call_of command) ≡ true → holds fact s ≡ true → holds fact new ≡ true
beside-left (RunsOrAsksTo rec top asked) (HasRipas rd ipa ripas) s new cpu command given sound step holds_other leaves is =
    let c = call_of command in
    let n = entry_number 3 ipa in
    let parts = and_parts (ripas == asked) (sets_asked c rec) leaves in
    elim (cases_Bool (is_accepted given)) [
      | inl accepted ↦
          (let same = eqb-true ripas asked parts.0 in
          ap (has_ripas (new.leaf rd 3 n)) same
          ∙ left_asked rd ipa rec top asked s new cpu given c sound (carried_by s cpu command given new (outcome s cpu c) sound accepted refl step)
          holds_other parts.1 (ap (has_ripas (s.leaf rd 3 n)) (sym same) ∙ is))
      | inr refused ↦ ap (λ (t : State). has_ripas (t.leaf rd 3 n) ripas) (step-refuses s new cpu command given step refused) ∙ is
    ]
beside-left _ _ s new cpu command given sound step holds_other leaves is = both_ways leaves refl

-- inside of a REC an address of its realm isn't replied to be of another
module _ (rd ipa ripas rec : ℕ) (s new : State) (cpu : ℕ) (given : Reply) (sound : IsSound s)
    (has : has_ripas (s.leaf rd 3 (entry_number 3 ipa)) ripas ≡ true) (own : (rec_at s rec).owner ≡ rd) where
  pub inside_told : (at : ℕ) → rec_inside s cpu ≡ rec → IsCarried s cpu (call.IpaStateGet at) given new → is_one_entry ipa at ≡ true
      → is_told ripas given ≡ true
  unfolding behind
  inside_told at inside carried same =
      let (e, leaf, unlinked, kind) = ripas_there ripas (s.leaf rd 3 (entry_number 3 ipa)) has in
      let owner = (rec_at s (rec_inside s cpu)).owner in
      let is : rd ≡ owner = sym own ∙ ap (λ g. (rec_at s g).owner) (sym inside) in
      let found = leaf_found s sound rd ipa e leaf owner at (and_from _ _ (eq-eqb rd owner is) same) unlinked in
      ap (is_told ripas) carried.done.0 ∙ eq-eqb ripas _ (sym kind ∙ ap (λ x. ripas_number (entry_ripas x)) (sym found))
