-- A call of another CPU that neither names a granule nor gives it back leaves the granule's tag, and whether the CPU is inside of a REC.
use Rattle.verdict_laws.proofs.Common.{◌≡◌, ℕ, ◌-◌, ◌==◌, Bool, true, false, if◌then◌else◌, IsTrue, List, [], ◌∷◌, ◌⊎◌, inl, inr, Option, Some, None, refl, sym, ◌∙◌, ap, subst, eqb-true, Result, Ok, Err, is_none, unwrap_or, AllByRecursion, or_parts, ne_eqb, Accepted, Done, Reaches, Call, Command, Refusal, Misplaced, Reply, Tag, Delegated, Rec, call_of, changed, rec_updated, State, IsSound, is_named, has_tag, runs_on, is_inside, rec_inside, rec_at, no_rec, entry_number, reach, Needed, with_front, named, reached_change, is_placed, misplacement, answer_of, outcome, CarriesOut, Step, both_ways, behind, inside_runs, is_part}
use Rattle.rmm_spec.specs.declared.call.Call.TheVariants as call
use Rattle.rmm_spec.specs.Update.{with_tag}
use Rattle.rmm_spec.specs.Lookup.{is_cpu}
use Rattle.rmm_spec.specs.Step.Terms.{class_of}
use Rattle.rmm_laws.proofs.ByRows.{AllHold, decided-accepted}
use Rattle.rmm_laws.proofs.RowLaws.{front-rest}
use Rattle.rmm_laws.proofs.StepLaws.{step-keeps}
use Rattle.rmm_laws.proofs.Tags.{has_tag-other}
use Rattle.rmm_laws.proofs.Ties.{IsUnused}
use Rattle.verdict_laws.specs.Apart.{frees_unnamed}
use Rattle.verdict_laws.proofs.GivenBack.{aux_apart, page_apart, root_apart, table_apart}
use Rattle.verdict_laws.proofs.Retags.{AreKeptAt, IsReached-tags, outcome-tags}
use Rattle.verdict_laws.proofs.Spared.{RunAlike, Spares, changed-runs, changed-swapped, changed-tag, is_inside-alike, runs_on-read}
use Rattle.lemmas.proofs.Options.{none_of}

-- each granule that is named is another
abbrev pub AreOthers : ℕ → List Needed → Type 0
AreOthers granule names = AllByRecursion (λ (n : Needed). (n.granule == granule) ≡ false) names

-- so it is where the granule isn't one of them
AreOthers-from_unnamed : (granule : ℕ) (names : List Needed) → is_named names granule ≡ false → AreOthers granule names
AreOthers-from_unnamed granule [] unnamed = tt
AreOthers-from_unnamed granule (n ∷ names) unnamed =
    let parts = or_parts (n.granule == granule) (is_named names granule) unnamed in (parts.0, AreOthers-from_unnamed granule names parts.1)

-- what the call may give back without naming it is another granule: there is none, or the granule is no part
abbrev pub FreesOthers : State → ℕ → Call → Type 0
FreesOthers s granule c = (frees_unnamed c ≡ false) ⊎ (is_part (s.tag granule) ≡ false)

-- where the call may give back what it doesn't name, the granule is no part
whole_still : (s : State) (granule : ℕ) → (true ≡ false) ⊎ (is_part (s.tag granule) ≡ false) → is_part (s.tag granule) ≡ false
whole_still s granule frees = elim frees [ inl never ↦ both_ways refl never | inr whole ↦ whole ]

-- a granule that is unused is none
pub unused-is_part : (tag : Tag) → IsUnused tag → is_part tag ≡ false
unused-is_part tag (inl host) = ap is_part host
unused-is_part tag (inr waits) = ap is_part waits

-- what is accepted spares the granule and the CPU, whatever end a reply gives
abbrev SparesAll : State → ℕ → ℕ → Accepted → Type 0
SparesAll s granule cpu (Done words change) = Spares s granule cpu change
SparesAll s granule cpu (Reaches stretch) = (top : ℕ) → Spares s granule cpu (reached_change stretch top)

-- a refusal, or what spares the granule and the CPU
abbrev SparesFound : State → ℕ → ℕ → Result Accepted Refusal → Type 0
SparesFound s granule cpu (Ok accepted) = SparesAll s granule cpu accepted
SparesFound s granule cpu (Err refused) = Unit {0}

-- what the other call leaves
pub record Leaves (old : State) (granule cpu : ℕ) (new : State) : Type 0 where
  pub config : new.config ≡ old.config
  pub tag : new.tag granule ≡ old.tag granule
  pub inside : is_inside new cpu ≡ is_inside old cpu

-- ---- RECs

-- a REC that runs on no CPU doesn't run on this one
pub idle_elsewhere : (cpu : ℕ) (found : Option ℕ) → IsTrue (is_none found) → is_cpu cpu found ≡ false
idle_elsewhere cpu None idle = refl
idle_elsewhere cpu (Some at) idle = both_ways idle refl

-- nor does one that runs on another
runs_elsewhere : (cpu other : ℕ) (found : Option ℕ) → ¬ (cpu ≡ other) → is_cpu other found ≡ true → is_cpu cpu found ≡ false
runs_elsewhere cpu other None differ runs = refl
runs_elsewhere cpu other (Some at) differ runs = ne_eqb at cpu (λ same. differ (sym same ∙ eqb-true at other runs))

-- no REC stands at a granule that waits for use
pub none_waiting : (s : State) (cpu rec : ℕ) → IsSound s → IsTrue (has_tag s rec Delegated) → runs_on cpu (s.rec rec) ≡ false
none_waiting s cpu rec sound waits =
    ap (runs_on cpu) (none_of (s.rec rec) (sound.recs.tagged rec ∙ has_tag-other s rec Delegated Rec waits refl))

module _ (s : State) (granule cpu other : ℕ) (sound : IsSound s) (differ : ¬ (cpu ≡ other)) where
  -- ---- each call

  -- the REC that the other CPU is inside of isn't this CPU's
  inside_elsewhere : IsTrue (is_inside s other) → is_cpu cpu (unwrap_or (s.rec (rec_inside s other)) no_rec).cpu ≡ false
  inside_elsewhere inside =
      let rec = rec_inside s other in
      runs_elsewhere cpu other (unwrap_or (s.rec rec) no_rec).cpu differ (sym (runs_on-read s.rec other rec) ∙ inside_runs s other inside)

  -- where its rows hold, what is done spares the granule and this CPU
  call_spares : (c : Call) → FreesOthers s granule c → AreOthers granule (named c) → IsTrue (is_placed s other (class_of c))
      → AllByRecursion (λ (n : Needed). IsTrue (has_tag s n.granule n.tag)) (named c) → AllHold (behind s other c).0
      → SparesAll s granule cpu (behind s other c).1
  unfolding frees_unnamed behind named class_of rec_updated reached_change rec_at
  call_spares (call.GranuleDelegate g) frees apart placed tags rows = apart.0
  call_spares (call.GranuleUndelegate g) frees apart placed tags rows = apart.0
  call_spares (call.DataCreate rd page ipa source flags digest) frees apart placed tags rows = (apart.1.0, tt)
  call_spares (call.DataCreateUnknown rd page ipa) frees apart placed tags rows = (apart.1.0, tt)
  call_spares (call.RealmCreate rd root width level vmid algo) frees apart placed tags rows = (apart.0, apart.1.0)
  call_spares (call.RecCreate rd rec mpidr flags aux0 aux1) frees apart placed tags rows =
      (apart.1.0, apart.1.1.0, apart.1.1.1.0, none_waiting s cpu rec sound tags.1.0)
  call_spares (call.RecEnter rec) frees apart placed tags rows =
      ne_eqb other cpu (λ same. differ (sym same)) ∙ sym (idle_elsewhere cpu (unwrap_or (s.rec rec) no_rec).cpu rows.1.1.0)
  call_spares (call.RttCreate rd rtt ipa level) frees apart placed tags rows = apart.1.0
  call_spares (call.RttMapUnprotected rd ipa page) frees apart placed tags rows = (tt, tt)
  call_spares (call.RttUnmapUnprotected rd ipa) frees apart placed tags rows = (tt, tt)
  call_spares (call.RttInitRipas rd base top) frees apart placed tags rows = λ end. (tt, tt)
  call_spares (call.RttSetRipas rd rec base top) frees apart placed tags rows = λ end. (tt, refl)
  call_spares (call.IpaStateSet base top ripas) frees apart placed tags rows = refl
  call_spares (call.HostCall imm) frees apart placed tags rows = refl
  call_spares call.CpuOff frees apart placed tags rows = refl
  call_spares call.SystemOff frees apart placed tags rows = refl
  call_spares call.Exit frees apart placed tags rows = sym (inside_elsewhere placed)
  call_spares (call.DataDestroy rd ipa) frees apart placed tags rows =
      let level = reach s rd ipa 3 in
      (page_apart s granule sound (whole_still s granule frees) rd level (entry_number level ipa) rows.1.1.0, tt)
  call_spares (call.RealmDestroy rd) frees apart placed tags rows =
      (apart.0, root_apart s granule sound (whole_still s granule frees) rd tags.0)
  call_spares (call.RecDestroy rec) frees apart placed tags rows =
      let aux = aux_apart s granule sound (whole_still s granule frees) rec tags.0 in
      (apart.0, aux.0, aux.1, runs_on-read s.rec cpu rec ∙ idle_elsewhere cpu (unwrap_or (s.rec rec) no_rec).cpu rows.0)
  call_spares (call.RttRemove removal rd ipa level) frees apart placed tags rows =
      let up = reach s rd ipa (level - 1) in
      table_apart s granule sound (whole_still s granule frees) rd up (entry_number up ipa) rows.1.1.1.0
  call_spares _ frees apart placed tags rows = tt

  -- ---- what a call leads to

  -- by whether the call is placed
  spares_by : (c : Call) → FreesOthers s granule c → AreOthers granule (named c) → (placed : Bool) → is_placed s other (class_of c) ≡ placed
      → (found : Result Accepted Refusal)
      → (if placed then answer_of s other c else Err (Misplaced (misplacement (is_inside s other) (class_of c)))) ≡ found
      → SparesFound s granule cpu found
  spares_by c frees apart true placed (Ok accepted) leads =
      let rest = behind s other c in
      let all = decided-accepted (with_front s c rest.0) rest.1 accepted (sym rest.2 ∙ leads) in
      let hold = front-rest s c rest.0 all.0 in
      subst (λ (a : Accepted). SparesAll s granule cpu a) all.1 (call_spares c frees apart placed hold.1 hold.2)
  spares_by c frees apart false placed (Ok accepted) leads =
      absurd (let bad : Err (Misplaced (misplacement (is_inside s other) (class_of c))) ≡ Ok accepted = leads in cc)
  spares_by c frees apart _ placed (Err refused) leads = tt

  -- what the call leads to spares the granule and this CPU
  outcome_spares : (c : Call) → is_named (named c) granule ≡ false → FreesOthers s granule c → SparesFound s granule cpu (outcome s other c)
  unfolding outcome
  outcome_spares c unnamed frees =
      spares_by c frees (AreOthers-from_unnamed granule (named c) unnamed) (is_placed s other (class_of c)) refl (outcome s other c) refl

  -- and is the same whatever the granule's tag is
  outcome_retagged : (c : Call) (tag : Tag) → is_named (named c) granule ≡ false → outcome (with_tag s granule tag) other c ≡ outcome s other c
  outcome_retagged c tag unnamed =
      outcome-tags s (λ g. if g == granule then tag else s.tag g) other c (each (named c) (AreOthers-from_unnamed granule (named c) unnamed))
    where
      each : (names : List Needed) → AreOthers granule names → AreKeptAt s (λ g. if g == granule then tag else s.tag g) names
      each [] others = tt
      each (n ∷ names) others = (rw others.0 refl, each names others.1)

  -- ---- steps

  -- what is carried out leaves the granule's tag, and the RECs that run on the CPU
  carried_alike : (found : Result Accepted Refusal) (given : Reply) (new : State) → SparesFound s granule cpu found → CarriesOut found s given new
      → (new.tag granule ≡ s.tag granule) × RunAlike cpu s new
  carried_alike (Err refused) given new spares carried =
      subst (λ (t : State). (t.tag granule ≡ s.tag granule) × RunAlike cpu s t) (sym carried.1) (refl, λ g. refl)
  carried_alike (Ok (Done words change)) given new spares carried =
      subst (λ (t : State). (t.tag granule ≡ s.tag granule) × RunAlike cpu s t) (sym carried.1)
      (changed-tag s granule cpu change spares, changed-runs s granule cpu change spares)
  carried_alike (Ok (Reaches stretch)) given new spares carried =
      let change = reached_change stretch carried.0 in
      subst (λ (t : State). (t.tag granule ≡ s.tag granule) × RunAlike cpu s t) (sym carried.1.2)
      (changed-tag s granule cpu change (spares carried.0), changed-runs s granule cpu change (spares carried.0))

  -- so does a step, which leaves this CPU inside of a REC or outside
  pub step_leaves : (command : Command) (given : Reply) (new : State) → is_named (named (call_of command)) granule ≡ false
      → FreesOthers s granule (call_of command) → Step s other command given new → Leaves s granule cpu new
  step_leaves command given new unnamed frees step =
      let c = call_of command in
      let same = (step-keeps s new other command given step).config in
      let alike = carried_alike (outcome s other c) given new (outcome_spares c unnamed frees) step in
      record { config = same; tag = alike.0; inside = is_inside-alike s new cpu same alike.1 }

  -- where the granule's tag was put before, it may be put behind
  carried_swapped : (found : Result Accepted Refusal) (tag : Tag) (given : Reply) (new : State) → SparesFound s granule cpu found
      → CarriesOut found (with_tag s granule tag) given new
      → (between : State) × CarriesOut found s given between × (new ≡ with_tag between granule tag)
  carried_swapped (Err refused) tag given new spares carried = (s, (carried.0, refl), carried.1)
  carried_swapped (Ok (Done words change)) tag given new spares carried =
      (changed s change, (carried.0, refl), carried.1 ∙ changed-swapped s granule cpu tag change spares)
  carried_swapped (Ok (Reaches stretch)) tag given new spares carried =
      let top = carried.0 in
      let change = reached_change stretch top in
      let reached = IsReached-tags s (λ g. if g == granule then tag else s.tag g) stretch top carried.1.0 in
      (changed s change, (top, (reached, carried.1.1, refl)), carried.1.2 ∙ changed-swapped s granule cpu tag change (spares top))

  -- in a step
  pub step_swapped : (command : Command) (tag : Tag) (given : Reply) (new : State) → is_named (named (call_of command)) granule ≡ false
      → FreesOthers s granule (call_of command) → Step (with_tag s granule tag) other command given new
      → (between : State) × Step s other command given between × (new ≡ with_tag between granule tag)
  step_swapped command tag given new unnamed frees step =
      let c = call_of command in
      let found : CarriesOut (outcome s other c) (with_tag s granule tag) given new =
      subst (λ (r : Result Accepted Refusal). CarriesOut r (with_tag s granule tag) given new) (outcome_retagged c tag unnamed) step in
      carried_swapped (outcome s other c) tag given new (outcome_spares c unnamed frees) found
