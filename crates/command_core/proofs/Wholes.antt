-- A well-shaped whole that agrees with what is held: its cells there, what the side table tells of it, and where a CPU is.
use Rattle.command_core.proofs.Common.{◌*◌, ◌==◌, ◌∙◌, ◌≡◌, ◌≤◌, Config, Hold, Inside, IsTrue, None, Option, Rd, RealmRecord, Rec, RecRecord, Some, State, Undelegated, any_below, ap, are_recs_counted, arith, cell_in, eq-eqb, false, false≢true, flat_state, is_granule, is_held, is_some, is_vmid_listed, nat_le, nat_tests, none-some, not, realm_at, realm_in, rec_at, refl, sym, tag_number, tag_of, true, ℕ}
use Rattle.std.specs.Prelude.{unwrap_or}
use Rattle.std.proofs.lemmas.Bool.{false_from_ne_true}
use Rattle.rmm_spec.specs.Lookup.{has_vmid, is_vmid_used, is_owned_by, has_rec, rec_inside, runs_on, no_realm, no_rec}
use Rattle.rmm_spec.specs.Cell.{Cell, rec_in, realms_of, recs_of}
use Rattle.rmm_spec.specs.Shape.{CpuPlace, IsWellShaped}
use Rattle.rmm_spec.specs.Local.{Agrees}
use Rattle.spec_lemmas.proofs.Placed.{passing_below, any_below-from, running, runs_on-running, cell_is_granule, cell_granule, rec_granule}
use Rattle.rmm_laws.proofs.Cells.{cell-rec}
use Rattle.world_laws.proofs.Wholes as walks
use Rattle.command_core.specs.Seen.{known_cell}
use Rattle.command_core.proofs.Searches.{greatest_below-one, any_below-counted}
use Rattle.spec_lemmas.proofs.Lookups.{vmid_owner, counted-le}
use Rattle.rmm_laws.proofs.ShapeTies.{same_inside}

pub record Whole (config : Config) (cpu : ℕ) (hold : Hold) : Type 0 where
  pub cells : ℕ → Cell
  pub places : ℕ → CpuPlace
  pub shaped : IsWellShaped config hold.side places cells
  pub agrees : Agrees cells hold.cells
  pub placed : places cpu ≡ hold.place

abbrev pub state : (config : Config) (cpu : ℕ) (hold : Hold) → Whole config cpu hold → State
state config cpu hold w = flat_state config w.cells

-- it is one for walks, which look at no CPU
abbrev pub walk_whole : (config : Config) (cpu : ℕ) (hold : Hold) → Whole config cpu hold → walks.Whole config hold.side hold.cells
walk_whole config cpu hold w = record { cells = w.cells; places = w.places; shaped = w.shaped; agrees = w.agrees }

-- ---- cells

-- the whole's cell at a granule that is held
pub same_at : (config : Config) (cpu : ℕ) (hold : Hold) (w : Whole config cpu hold) (g : ℕ)
    → IsTrue (is_held g hold.cells) → w.cells g ≡ known_cell hold.cells g
same_at config cpu hold w g held = walks.same_at (walk_whole config cpu hold w) g held

pub whole_cell : (config : Config) (cpu : ℕ) (hold : Hold) (w : Whole config cpu hold) (g : ℕ) (c : Cell)
    → cell_in g hold.cells ≡ Some c → w.cells g ≡ c
whole_cell config cpu hold w g c found = walks.whole_cell (walk_whole config cpu hold w) g c found

-- a granule that holds something is one of the machine's
pub tagged_granule : (config : Config) (cpu : ℕ) (hold : Hold) (w : Whole config cpu hold) (g : ℕ)
    → (tag_number (tag_of (w.cells g)) == 0) ≡ false → is_granule config.granules g ≡ true
tagged_granule config cpu hold w g other =
    cell_is_granule config hold.side w.places w.cells w.shaped g
    (λ undelegated. false≢true (sym other ∙ ap (λ (c : Cell). tag_number (tag_of c) == 0) undelegated))

pub realm_cell : (c : Cell) → is_some (realm_in c) ≡ true → (realm : RealmRecord) × (c ≡ Rd realm)
realm_cell (Rd realm) is = (realm, refl)
realm_cell _ is = absurd (false≢true is)

pub realm_at-cell : (config : Config) (cells : ℕ → Cell) (rd : ℕ) (realm : RealmRecord)
    → cells rd ≡ Rd realm → realm_at (flat_state config cells) rd ≡ realm
unfolding realm_at flat_state
realm_at-cell config cells rd realm is = ap (λ (c : Cell). unwrap_or (realm_in c) no_realm) is

pub rec_at-cell : (config : Config) (cells : ℕ → Cell) (rec : ℕ) (it : RecRecord) → cells rec ≡ Rec it → rec_at (flat_state config cells) rec ≡ it
unfolding rec_at flat_state
rec_at-cell config cells rec it is = ap (λ (c : Cell). unwrap_or (rec_in c) no_rec) is

-- ---- the side table

pub has_rec-counted : (config : Config) (cpu : ℕ) (hold : Hold) (w : Whole config cpu hold) (rd : ℕ)
    → has_rec (state config cpu hold w) rd ≡ are_recs_counted hold.side rd
unfolding has_rec flat_state
has_rec-counted config cpu hold w rd =
    any_below-counted config.granules (λ k. is_owned_by rd (recs_of w.cells (k * 4096)))
    ∙ ap (λ n. not (n == 0)) (sym (w.shaped.realms.counted rd))

undelegated-rd : (c : Cell) → is_some (realm_in c) ≡ true → c ≡ Undelegated → ⊥
undelegated-rd c is undelegated = false≢true (ap (λ (x : Cell). is_some (realm_in x)) (sym undelegated) ∙ is)

pub is_vmid_used-listed : (config : Config) (cpu : ℕ) (hold : Hold) (w : Whole config cpu hold) (vmid : ℕ)
    → is_vmid_used (state config cpu hold w) vmid ≡ is_vmid_listed hold.side vmid
unfolding is_vmid_used flat_state
is_vmid_used-listed config cpu hold w vmid = by (hold.side.vmids vmid) refl
  where
    by : (o : Option ℕ) → hold.side.vmids vmid ≡ o → any_below config.granules (λ k. has_vmid vmid (realms_of w.cells (k * 4096))) ≡ is_some o
    by None is =
        false_from_ne_true (any_below config.granules (λ k. has_vmid vmid (realms_of w.cells (k * 4096)))) (λ any.
        let found = passing_below config.granules (λ k. has_vmid vmid (realms_of w.cells (k * 4096))) any in
        let owner = vmid_owner vmid (realms_of w.cells (found.0 * 4096)) found.2 in
        none-some (found.0 * 4096) (sym is ∙ (ap hold.side.vmids (sym owner.2) ∙ w.shaped.realms.listed (found.0 * 4096) owner.0 owner.1)))
    by (Some rd) is =
        let used = w.shaped.realms.used vmid rd is in
        let at = cell_granule config hold.side w.places w.cells w.shaped rd
        (undelegated-rd (w.cells rd) (ap (λ (o : Option RealmRecord). is_some o) used.1)) in
        any_below-from config.granules (λ k. has_vmid vmid (realms_of w.cells (k * 4096))) at.0 at.1
        (ap (has_vmid vmid) (ap (realms_of w.cells) at.2 ∙ used.1) ∙ eq-eqb used.0.vmid vmid used.2)

-- no realm of a whole has more RECs than there are granules
pub few_recs : (config : Config) (cpu : ℕ) (hold : Hold) → Whole config cpu hold → (rd : ℕ) → nat_le (hold.side.rec_counts rd) config.granules ≡ true
few_recs config cpu hold w rd =
    let counted = w.shaped.realms.counted rd in
    let most = counted-le config.granules (λ k. is_owned_by rd (recs_of w.cells (k * 4096))) in
    let few : hold.side.rec_counts rd ≤ config.granules = omega (arith, counted, most) in
    grind (arith, nat_tests)

-- ---- inside of a REC

-- the REC that runs on a CPU inside of it
pub rec_inside-place : (config : Config) (cpu : ℕ) (hold : Hold) (w : Whole config cpu hold) (rec rd : ℕ) → hold.place ≡ Inside rec rd
    → rec_inside (state config cpu hold w) cpu ≡ rec
unfolding rec_inside flat_state
rec_inside-place config cpu hold w rec rd place =
    let runs = (w.shaped.recs.inside cpu rec rd).0 (w.placed ∙ place) in
    let at = rec_granule config hold.side w.places w.cells w.shaped rec runs.it runs.is_rec in
    ap (λ k. k * 4096) (greatest_below-one config.granules (λ k. runs_on cpu (recs_of w.cells (k * 4096))) at.0 at.1
    (runs_on-running cpu (recs_of w.cells (at.0 * 4096)) runs.it (ap (recs_of w.cells) at.2 ∙ runs.is_rec) runs.is_on)
    (λ j other.
    let it = running cpu (recs_of w.cells (j * 4096)) other in
    let there = (w.shaped.recs.inside cpu (j * 4096) it.0.owner).1 (record { it = it.0; is_rec = it.1; is_owner = refl; is_on = it.2 }) in
    let same : rec ≡ j * 4096 = same_inside rec rd (j * 4096) it.0.owner (sym (w.placed ∙ place) ∙ there) in
    omega (arith, same, at.2)))
    ∙ at.2

-- the REC that the CPU is inside of, and its realm
pub record InsideCells (cells : ℕ → Cell) (rec rd : ℕ) : Type 0 where
  pub it : RecRecord
  pub is_rec : cells rec ≡ Rec it
  pub is_owner : it.owner ≡ rd
  pub realm : RealmRecord
  pub is_realm : cells rd ≡ Rd realm

pub inside-cells : (config : Config) (cpu : ℕ) (hold : Hold) (w : Whole config cpu hold) (rec rd : ℕ)
    → hold.place ≡ Inside rec rd → InsideCells w.cells rec rd
inside-cells config cpu hold w rec rd place =
    let runs = (w.shaped.recs.inside cpu rec rd).0 (w.placed ∙ place) in
    let owned = ap (λ x. is_some (realm_in (w.cells x))) (sym runs.is_owner) ∙ w.shaped.recs.owned rec runs.it runs.is_rec in
    let realm = realm_cell (w.cells rd) owned in
    record {
      it = runs.it;
      is_rec = cell-rec (w.cells rec) runs.it runs.is_rec;
      is_owner = runs.is_owner;
      realm = realm.0;
      is_realm = realm.1;
    }
