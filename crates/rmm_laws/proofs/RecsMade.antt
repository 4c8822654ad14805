-- A REC is made with its auxiliary granules, or is gone with them.
use Rattle.rmm_laws.proofs.ShapeCommon.{◌*◌, ◌+◌, ◌-◌, ◌/◌, ◌==◌, ◌∙◌, ◌≡◌, Cell, Config, CpuPlace, Delegated, IsShaped, IsTrue, None, Option, Rd, RealmRecord, Rec, RecRecord, Some, State, Whole, ap, arith, both_ways, by_address, cells_changed, changed, eq-eqb, eqb-true, false, false_from_ne_true, flat_state, is_granule, none-some, places_changed, put, put-elsewhere, put-here, realm_at, realm_in, realm_there, realms_of, rec_in, recs_of, refl, same_Some, side_changed, subst, suc, sym, table_in, tag_of, tags_of, ℕ}
use Rattle.std.proofs.Common.{is_none, ne_eqb, add-one}
use Rattle.rmm_spec.specs.declared.change.Change.TheVariants.{RecMade, RecDestroyed}
use Rattle.rmm_spec.specs.declared.change.RealmUpdate.TheVariants.{RecCounted}
use Rattle.rmm_spec.specs.declared.tag.Tag.TheVariants as tag
use Rattle.rmm_spec.specs.Lookup.{rec_at, is_owned_by}
use Rattle.rmm_spec.specs.Change.{new_rec, realm_updated}
use Rattle.rmm_spec.specs.Applicable.{CanMakeRec, CanDestroyRec}
use Rattle.rmm_spec.specs.Cell.{RecAux}
use Rattle.rmm_spec.specs.Shape.{RunsOn, count_below}
use Rattle.spec_lemmas.proofs.TagLaws.{granule_from_tag}
use Rattle.rmm_laws.proofs.Records.{updated_like}
use Rattle.rmm_laws.proofs.Searches.{rec_there}
use Rattle.rmm_laws.specs.Whole.{cell_with_realm, side_without_rec}
use Rattle.rmm_laws.proofs.Cells.{views_of, views_put, views_of-put, IsAt-cell, tag-cell, cell-aux}
use Rattle.rmm_laws.proofs.Counts.{count_below-same, count_below-one}
use Rattle.rmm_laws.proofs.ShapeKept.{Makes, AreLike, like_put, ArePlaced-like, IsPlain, plain-delegated, plain-aux, views_put-plain, views_put-realm, delegated_there, rd_there, rec_cell_there}
use Rattle.rmm_laws.proofs.ShapeTies.{AreListed, AreInside, IsTied-shaped, well_shaped-is_sound}
use Rattle.spec_lemmas.proofs.Maps.{put-same}
use Rattle.spec_lemmas.proofs.Lookups.{granule-number}

-- ---- granules that hold nothing

-- one of them gets another tag
pub views_of-plain : (cells : ℕ → Cell) (address : ℕ) (old new : Cell) → cells address ≡ old → IsPlain old → IsPlain new
    → views_of (put cells address new) ≡ record (views_of cells) { tags = put (tags_of cells) address (tag_of new) }
views_of-plain cells address old new is before after =
    views_of-put cells address new ∙ views_put-plain (views_of cells) address old new (IsAt-cell cells address old is) before after

-- and two of them, one after the other
pub views_of-two_plain : (cells : ℕ → Cell) (a b : ℕ) (a_old b_old new : Cell) → cells a ≡ a_old → cells b ≡ b_old → (b == a) ≡ false
    → IsPlain a_old → IsPlain b_old → IsPlain new
    → views_of (put (put cells a new) b new) ≡ record (views_of cells) { tags = put (put (tags_of cells) a (tag_of new)) b (tag_of new) }
views_of-two_plain cells a b a_old b_old new a_is b_is apart a_plain b_plain plain =
    views_of-plain (put cells a new) b b_old new (put-elsewhere cells a new b apart ∙ b_is) b_plain plain
    ∙ (λ i. record (views_of-plain cells a a_old new a_is a_plain plain i) {
      tags = put ((views_of-plain cells a a_old new a_is a_plain plain i).tags) b (tag_of new);
    })

-- ---- RECs that run nowhere

-- what is there, if anything, runs on no CPU
abbrev pub IsIdle : Option RecRecord → Type 0
IsIdle found = (c : RecRecord) → found ≡ Some c → c.cpu ≡ None

-- where a REC that is idle becomes another, no CPU's place changes
pub inside_idle : (places : ℕ → CpuPlace) (recs : ℕ → Option RecRecord) (a : ℕ) (new : Option RecRecord) → IsIdle (recs a) → IsIdle new
    → AreInside places recs → AreInside places (put recs a new)
inside_idle places recs a new was is inside cpu rec rd = (
  λ at. let runs = (inside cpu rec rd).0 at in
      record {
        it = runs.it;
        is_rec = put-elsewhere recs a new rec (false_from_ne_true _ (λ same.
            none-some cpu (sym (was runs.it (ap recs (sym (eqb-true rec a same)) ∙ runs.is_rec)) ∙ runs.is_on))) ∙ runs.is_rec;
        is_owner = runs.is_owner;
        is_on = runs.is_on;
      },
  λ runs. (inside cpu rec rd).1
      (by_address (λ found. found ≡ Some runs.it → RunsOn recs cpu rec rd) rec a new (recs rec)
      (λ _ at. absurd (none-some cpu (sym (is runs.it at) ∙ runs.is_on)))
      (λ _ at. record { it = runs.it; is_rec = at; is_owner = runs.is_owner; is_on = runs.is_on }) runs.is_rec),
)

-- ---- counts

-- one REC more of that realm, where none was
counted_more : (granules : ℕ) (counts : ℕ → ℕ) (recs : ℕ → Option RecRecord) (a : ℕ) (c : RecRecord) → IsTrue (is_granule granules a) → recs a ≡ None
    → ((rd : ℕ) → counts rd ≡ count_below granules (λ k. is_owned_by rd (recs (k * 4096))))
    → (rd : ℕ) → put counts c.owner (counts c.owner + 1) rd ≡ count_below granules (λ k. is_owned_by rd (put recs a (Some c) (k * 4096)))
counted_more granules counts recs a c within none old rd =
    let number = granule-number granules a within in
    let apart : (j : ℕ) → (j ≡ a / 4096 → ⊥) → (j * 4096 == a) ≡ false =
    λ j other. ne_eqb (j * 4096) a (λ same. other (omega (arith, same))) in
    let there : a / 4096 * 4096 ≡ a = sym number.1 in
    by_address (λ n. n ≡ count_below granules (λ k. is_owned_by rd (put recs a (Some c) (k * 4096)))) rd c.owner (counts c.owner + 1) (counts rd)
    (λ here. add-one (counts c.owner) ∙ ap (λ o. suc (counts o)) (sym here) ∙ ap suc (old rd)
    ∙ sym (count_below-one granules (λ k. is_owned_by rd (recs (k * 4096))) (λ k. is_owned_by rd (put recs a (Some c) (k * 4096))) (a / 4096) number.0
    (ap (λ x. is_owned_by rd (recs x)) there ∙ ap (is_owned_by rd) none)
    (ap (λ x. is_owned_by rd (put recs a (Some c) x)) there ∙ ap (is_owned_by rd) (put-here recs a (Some c)) ∙ eq-eqb c.owner rd (sym here))
    (λ j other. ap (is_owned_by rd) (put-elsewhere recs a (Some c) (j * 4096) (apart j other)))))
    (λ elsewhere. old rd
    ∙ sym (count_below-same granules (λ k. is_owned_by rd (recs (k * 4096))) (λ k. is_owned_by rd (put recs a (Some c) (k * 4096)))
    (λ j _. by_address (λ found. is_owned_by rd found ≡ is_owned_by rd (recs (j * 4096))) (j * 4096) a (Some c) (recs (j * 4096))
    (λ here. ne_eqb c.owner rd (λ same. both_ways (eq-eqb rd c.owner (sym same)) elsewhere)
    ∙ sym (ap (is_owned_by rd) (ap recs here ∙ none))) (λ _. refl))))

-- one REC less
counted_less : (granules : ℕ) (counts : ℕ → ℕ) (recs : ℕ → Option RecRecord) (a : ℕ) (c : RecRecord)
    → IsTrue (is_granule granules a) → recs a ≡ Some c
    → ((rd : ℕ) → counts rd ≡ count_below granules (λ k. is_owned_by rd (recs (k * 4096))))
    → (rd : ℕ) → put counts c.owner (counts c.owner - 1) rd ≡ count_below granules (λ k. is_owned_by rd (put recs a None (k * 4096)))
counted_less granules counts recs a c within is old rd =
    let number = granule-number granules a within in
    let apart : (j : ℕ) → (j ≡ a / 4096 → ⊥) → (j * 4096 == a) ≡ false =
    λ j other. ne_eqb (j * 4096) a (λ same. other (omega (arith, same))) in
    let there : a / 4096 * 4096 ≡ a = sym number.1 in
    by_address (λ n. n ≡ count_below granules (λ k. is_owned_by rd (put recs a None (k * 4096)))) rd c.owner (counts c.owner - 1) (counts rd)
    (λ here.
    let more : count_below granules (λ k. is_owned_by rd (recs (k * 4096)))
    ≡ suc (count_below granules (λ k. is_owned_by rd (put recs a None (k * 4096)))) =
    count_below-one granules (λ k. is_owned_by rd (put recs a None (k * 4096))) (λ k. is_owned_by rd (recs (k * 4096))) (a / 4096) number.0
    (ap (λ x. is_owned_by rd (put recs a None x)) there ∙ ap (is_owned_by rd) (put-here recs a None))
    (ap (λ x. is_owned_by rd (recs x)) there ∙ ap (is_owned_by rd) is ∙ eq-eqb c.owner rd (sym here))
    (λ j other. sym (ap (is_owned_by rd) (put-elsewhere recs a None (j * 4096) (apart j other)))) in
    let count : counts c.owner ≡ suc (count_below granules (λ k. is_owned_by rd (put recs a None (k * 4096)))) =
    ap counts (sym here) ∙ old rd ∙ more in
    omega (arith, count))
    (λ elsewhere. old rd
    ∙ sym (count_below-same granules (λ k. is_owned_by rd (recs (k * 4096))) (λ k. is_owned_by rd (put recs a None (k * 4096)))
    (λ j _. by_address (λ found. is_owned_by rd found ≡ is_owned_by rd (recs (j * 4096))) (j * 4096) a None (recs (j * 4096))
    (λ here. sym (ap (is_owned_by rd) (ap recs here ∙ is) ∙ ne_eqb c.owner rd (λ same. both_ways (eq-eqb rd c.owner (sym same)) elsewhere)))
    (λ _. refl))))

-- ---- made

pub Makes-rec_made : (config : Config) (w : Whole) (rd rec mpidr flags aux0 aux1 : ℕ) → IsShaped config w
    → CanMakeRec (flat_state config w.cells) rd rec mpidr flags aux0 aux1 → Makes config w (RecMade rd rec mpidr flags aux0 aux1)
unfolding changed cells_changed side_changed places_changed flat_state
Makes-rec_made config w rd rec mpidr flags aux0 aux1 shaped can =
    let s : State = flat_state config w.cells in
    let cells = w.cells in
    let sound = well_shaped-is_sound config w.side w.places w.cells shaped in
    let old = IsTied-shaped config w.side w.places w.cells shaped in
    let new : RecRecord = new_rec rd mpidr flags aux0 aux1 in
    let realm : RealmRecord = realm_at s rd in
    let counted : RealmRecord = realm_updated (RecCounted mpidr flags) realm in
    let rec_is : cells rec ≡ Delegated = delegated_there config cells rec can.rec_tag in
    let aux0_is : cells aux0 ≡ Delegated = delegated_there config cells aux0 can.aux0_tag in
    let aux1_is : cells aux1 ≡ Delegated = delegated_there config cells aux1 can.aux1_tag in
    let rd_is : cells rd ≡ Rd realm = rd_there config cells rd sound can.rd_tag in
    let away : (a : ℕ) → cells a ≡ Delegated → (rd == a) ≡ false =
    λ a is. ne_eqb rd a (λ same. (let bad : Rd realm ≡ Delegated = sym rd_is ∙ ap cells same ∙ is in cc)) in
    let one : ℕ → Cell = put cells rec (Rec new) in
    let three : ℕ → Cell = put (put one aux0 RecAux) aux1 RecAux in
    let first : views_of one ≡ record (views_of cells) { tags = put (tags_of cells) rec tag.Rec; recs = put (recs_of cells) rec (Some new) } =
    views_of-put cells rec (Rec new) ∙ (λ i. record (views_put (views_of cells) rec (Rec new)) {
      realms = put-same (realms_of cells) rec None (ap realm_in rec_is) i;
      tables = put-same (views_of cells).tables rec None (ap table_in rec_is) i;
    }) in
    let apart0 : (aux0 == rec) ≡ false = ne_eqb aux0 rec (λ same. both_ways (eq-eqb rec aux0 (sym same)) can.apart0) in
    let apart1 : (aux1 == rec) ≡ false = ne_eqb aux1 rec (λ same. both_ways (eq-eqb rec aux1 (sym same)) can.apart1) in
    let apart : (aux1 == aux0) ≡ false = ne_eqb aux1 aux0 (λ same. both_ways (eq-eqb aux0 aux1 (sym same)) can.apart) in
    let second : views_of three ≡ record (views_of one) { tags = put (put (tags_of one) aux0 tag.RecAux) aux1 tag.RecAux } =
    views_of-two_plain one aux0 aux1 Delegated Delegated RecAux (put-elsewhere cells rec (Rec new) aux0 apart0 ∙ aux0_is)
    (put-elsewhere cells rec (Rec new) aux1 apart1 ∙ aux1_is) apart plain-delegated plain-delegated plain-aux in
    let rd_still : three rd ≡ Rd realm =
    put-elsewhere (put one aux0 RecAux) aux1 RecAux rd (away aux1 aux1_is) ∙ put-elsewhere one aux0 RecAux rd (away aux0 aux0_is)
    ∙ put-elsewhere cells rec (Rec new) rd (away rec rec_is) ∙ rd_is in
    let both : views_of three ≡ record (views_of cells) {
      tags = put (put (put (tags_of cells) rec tag.Rec) aux0 tag.RecAux) aux1 tag.RecAux;
      recs = put (recs_of cells) rec (Some new);
    } = second ∙ (λ i. record (first i) { tags = put (put (first i).tags aux0 tag.RecAux) aux1 tag.RecAux }) in
    let none : recs_of cells rec ≡ None = ap rec_in rec_is in
    let like : AreLike (realms_of cells) (put (realms_of cells) rd (Some counted)) =
    like_put (realms_of cells) rd realm counted (realm_there s rd sound can.rd_tag) (updated_like (RecCounted mpidr flags) realm) in
    record {
      views = record {
        tags = put (put (put (tags_of cells) rec tag.Rec) aux0 tag.RecAux) aux1 tag.RecAux;
        realms = put (realms_of cells) rd (Some counted);
        recs = put (recs_of cells) rec (Some new);
        tables = (views_of cells).tables;
      };
      seen = ap (λ c. views_of (put three rd (cell_with_realm (RecCounted mpidr flags) c))) rd_still
          ∙ views_of-put three rd (Rd counted)
          ∙ views_put-realm (views_of three) rd realm counted (IsAt-cell three rd (Rd realm) rd_still)
          ∙ (λ i. record (both i) { realms = put (both i).realms rd (Some counted) });
      flat = refl;
      tied = record {
        sides = record {
          listed = λ g r at. let q = like.before g r at in ap w.side.vmids q.2.vmid ∙ old.sides.listed g q.0 q.1;
          used = λ vmid g at. let q = old.sides.used vmid g at in let r = like.after g q.0 q.1 in (r.0, r.1, r.2.vmid ∙ q.2);
          counted = counted_more config.granules w.side.rec_counts (recs_of cells) rec new
              (granule_from_tag s rec tag.Delegated can.rec_tag) none old.sides.counted;
        };
        tables = ArePlaced-like config.granules (realms_of cells) (put (realms_of cells) rd (Some counted)) (views_of cells).tables like old.tables;
        links = old.links;
        inside = inside_idle w.places (recs_of cells) rec (Some new) (λ c is. absurd (none-some c (sym none ∙ is)))
            (λ c is. ap (λ (x : RecRecord). x.cpu) (sym (same_Some new c is))) old.inside;
      };
    }

-- ---- gone

pub Makes-rec_destroyed : (config : Config) (w : Whole) (rec aux0 aux1 : ℕ) → IsShaped config w
    → CanDestroyRec (flat_state config w.cells) rec aux0 aux1 → Makes config w (RecDestroyed rec aux0 aux1)
unfolding changed cells_changed side_changed places_changed flat_state
Makes-rec_destroyed config w rec aux0 aux1 shaped can =
    let s : State = flat_state config w.cells in
    let cells = w.cells in
    let sound = well_shaped-is_sound config w.side w.places w.cells shaped in
    let old = IsTied-shaped config w.side w.places w.cells shaped in
    let it : RecRecord = rec_at s rec in
    let there : recs_of cells rec ≡ Some it = rec_there s rec sound can.rec_tag in
    let rec_is : cells rec ≡ Rec it = rec_cell_there config cells rec sound can.rec_tag in
    let aux0_is : cells aux0 ≡ RecAux =
    ap cells can.is_aux0 ∙ cell-aux (cells it.aux0) (tag-cell config cells it.aux0 tag.RecAux (sound.recs.aux0 rec it there)) in
    let aux1_is : cells aux1 ≡ RecAux =
    ap cells can.is_aux1 ∙ cell-aux (cells it.aux1) (tag-cell config cells it.aux1 tag.RecAux (sound.recs.aux1 rec it there)) in
    let away : (a : ℕ) → cells a ≡ RecAux → (a == rec) ≡ false =
    λ a is. ne_eqb a rec (λ same. (let bad : RecAux ≡ Rec it = sym is ∙ ap cells same ∙ rec_is in cc)) in
    let apart : (aux1 == aux0) ≡ false =
    ne_eqb aux1 aux0 (λ same. both_ways (eq-eqb it.aux0 it.aux1 (sym can.is_aux0 ∙ sym same ∙ can.is_aux1)) (sound.recs.two rec it there)) in
    let one : ℕ → Cell = put cells rec Delegated in
    let first : views_of one ≡ record (views_of cells) { tags = put (tags_of cells) rec tag.Delegated; recs = put (recs_of cells) rec None } =
    views_of-put cells rec Delegated ∙ (λ i. record (views_put (views_of cells) rec Delegated) {
      realms = put-same (realms_of cells) rec None (ap realm_in rec_is) i;
      tables = put-same (views_of cells).tables rec None (ap table_in rec_is) i;
    }) in
    let second : views_of (put (put one aux0 Delegated) aux1 Delegated)
    ≡ record (views_of one) { tags = put (put (tags_of one) aux0 tag.Delegated) aux1 tag.Delegated } =
    views_of-two_plain one aux0 aux1 RecAux RecAux Delegated (put-elsewhere cells rec Delegated aux0 (away aux0 aux0_is) ∙ aux0_is)
    (put-elsewhere cells rec Delegated aux1 (away aux1 aux1_is) ∙ aux1_is) apart plain-aux plain-aux plain-delegated in
    let idle : it.cpu ≡ None = none_is it.cpu can.ready in
    let listed : AreListed config.granules (record w.side { rec_counts = put w.side.rec_counts it.owner (w.side.rec_counts it.owner - 1) })
    (realms_of cells) (put (recs_of cells) rec None) =
    record {
      listed = old.sides.listed;
      used = old.sides.used;
      counted = counted_less config.granules w.side.rec_counts (recs_of cells) rec it
          (granule_from_tag s rec tag.Rec can.rec_tag) there old.sides.counted;
    } in
    record {
      views = record {
        tags = put (put (put (tags_of cells) rec tag.Delegated) aux0 tag.Delegated) aux1 tag.Delegated;
        realms = realms_of cells;
        recs = put (recs_of cells) rec None;
        tables = (views_of cells).tables;
      };
      seen = second ∙ (λ i. record (first i) { tags = put (put (first i).tags aux0 tag.Delegated) aux1 tag.Delegated });
      flat = refl;
      tied = record {
        sides = subst (λ c. AreListed config.granules (side_without_rec w.side c) (realms_of cells) (put (recs_of cells) rec None))
            (sym rec_is) listed;
        tables = old.tables;
        links = old.links;
        inside = inside_idle w.places (recs_of cells) rec None (λ c is. ap (λ (x : RecRecord). x.cpu) (sym (same_Some it c (sym there ∙ is))) ∙ idle)
            (λ c is. absurd (none-some c is)) old.inside;
      };
    }
  where
    none_is : {A : Type 0} (found : Option A) → IsTrue (is_none found) → found ≡ None
    none_is None there = refl
    none_is (Some x) there = both_ways there refl
