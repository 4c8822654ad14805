-- What a call leads to that works on one realm's tables, or lends a granule, reads no more than that realm, and the tags of what it names.
use Rattle.verdict_laws.proofs.Common.{◌≡◌, ℕ, zero, suc, ◌+◌, ◌==◌, true, if◌then◌else◌, IsTrue, List, [], ◌∷◌, Option, Some, None, refl, sym, ◌∙◌, ap, subst, eq-eqb, Err, or_left, or_right, Call, Entry, Misplaced, State, RealmRecord, RecRecord, is_named, has_tag, is_inside, rec_inside, realm_at, rec_at, runs_on, entry_number, reach, entry_at, Needed, decided, IsReached, with_front, named, is_placed, misplacement, answer_of, outcome, behind, both_ways, lent, is_local}
use Rattle.std.specs.Prelude.{◌*◌, is_some, nat_lt, not}
use Rattle.rmm_spec.specs.declared.accepted.Stretch.{Stretch}
use Rattle.rmm_spec.specs.declared.call.Call.TheVariants as call
use Rattle.rmm_spec.specs.declared.call.Removal.{Removal}
use Rattle.rmm_spec.specs.declared.call.Removal.TheVariants.{Destroy, Fold}
use Rattle.rmm_spec.specs.Lookup.{any_below}
use Rattle.rmm_spec.specs.Walk.{table_number, linked_entry, has_entry}
use Rattle.rmm_spec.specs.Step.Table.{ripas_left}
use Rattle.rmm_spec.specs.Step.Ripas.{can_be_set}
use Rattle.rmm_spec.specs.Step.Terms.{Class, ByHost, ByRealm, ByExit, class_of}
use Rattle.verdict_laws.specs.Separate.{table_realm}
use Rattle.verdict_laws.proofs.Retags.{with_tags, AreKeptAt, outcome-tags}

-- ---- one realm alone

-- what is read of the realm at an address, if one is meant
abbrev only_realm : (ℕ → Option RealmRecord) → Option ℕ → Option RealmRecord
only_realm realms None = None
only_realm realms (Some rd) = realms rd

-- and of its tables, or leaves
abbrev only_places : {A : Type 0} → (ℕ → ℕ → ℕ → Option A) → Option ℕ → ℕ → ℕ → Option A
only_places places None level number = None
only_places places (Some rd) level number = places rd level number

-- the state in which each realm is as this one
abbrev only : State → Option ℕ → State
only s own = record s {
  realm = λ _. only_realm s.realm own;
  table = λ _. only_places s.table own;
  leaf = λ _. only_places s.leaf own;
}

-- it walks as before
reach-only : (s : State) (rd ipa max : ℕ) → reach (only s (Some rd)) rd ipa max ≡ reach s rd ipa max
unfolding reach
reach-only s rd ipa zero = refl
reach-only s rd ipa (suc l) = ap (λ n. if is_some (s.table rd (suc l) (table_number (suc l) ipa)) then suc l else n) (reach-only s rd ipa l)

-- and leaves the same of a table
left-only : (s : State) (removal : Removal) (rd level number : ℕ)
    → ripas_left removal (only s (Some rd)) rd level number ≡ ripas_left removal s rd level number
unfolding ripas_left has_entry entry_at
left-only s Destroy rd level number = refl
left-only s Fold rd level number = refl

-- what stands behind the rows on words and tags is the same
abbrev BehindOnly : State → Option ℕ → ℕ → Call → Type 0
BehindOnly s own cpu c = ((behind (only s own) cpu c).0 ≡ (behind s cpu c).0) × ((behind (only s own) cpu c).1 ≡ (behind s cpu c).1)

-- for each such call
behind-only : (s : State) (cpu : ℕ) (c : Call) → is_local c ≡ true → BehindOnly s (table_realm c) cpu c
unfolding table_realm lent behind realm_at has_entry entry_at
behind-only s cpu (call.GranuleDelegate granule) local = (refl, refl)
behind-only s cpu (call.GranuleUndelegate granule) local = (refl, refl)
behind-only s cpu (call.DataCreate rd granule ipa source flags digest) local = rw (reach-only s rd ipa 3) (refl, refl)
behind-only s cpu (call.DataCreateUnknown rd granule ipa) local = rw (reach-only s rd ipa 3) (refl, refl)
behind-only s cpu (call.DataDestroy rd ipa) local = rw (reach-only s rd ipa 3) (refl, refl)
behind-only s cpu (call.RealmActivate rd) local = (refl, refl)
behind-only s cpu (call.RttCreate rd rtt ipa level) local = rw (reach-only s rd ipa _) (refl, refl)
behind-only s cpu (call.RttRemove removal rd ipa level) local =
    rw (reach-only s rd ipa _, left-only s removal rd level (table_number level ipa)) (refl, refl)
behind-only s cpu (call.RttMapUnprotected rd ipa page) local = rw (reach-only s rd ipa 3) (refl, refl)
behind-only s cpu (call.RttReadEntry rd ipa level) local = rw (reach-only s rd ipa level) (refl, refl)
behind-only s cpu (call.RttUnmapUnprotected rd ipa) local = rw (reach-only s rd ipa 3) (refl, refl)
behind-only s cpu (call.RttInitRipas rd base top) local = rw (reach-only s rd base 3) (refl, refl)
behind-only s cpu _ local = both_ways local refl

-- so what is answered where the call is placed
answer-only : (s : State) (cpu : ℕ) (c : Call) → is_local c ≡ true → answer_of (only s (table_realm c)) cpu c ≡ answer_of s cpu c
unfolding has_tag
answer-only s cpu c local =
    let same = behind-only s cpu c local in
    (behind (only s (table_realm c)) cpu c).2 ∙ (λ i. decided (with_front s c (same.0 i)) (same.1 i)) ∙ sym (behind s cpu c).2

-- and whether it is
placed-only : (s : State) (own : Option ℕ) (cpu : ℕ) (class : Class) → is_placed (only s own) cpu class ≡ is_placed s cpu class
unfolding is_inside rec_inside rec_at
placed-only s own cpu ByHost = refl
placed-only s own cpu ByRealm = refl
placed-only s own cpu ByExit = refl

-- what the call leads to is the same
outcome-only : (s : State) (cpu : ℕ) (c : Call) → is_local c ≡ true → outcome (only s (table_realm c)) cpu c ≡ outcome s cpu c
unfolding outcome is_inside
outcome-only s cpu c local = λ i.
    if placed-only s (table_realm c) cpu (class_of c) i then answer-only s cpu c local i
    else Err (Misplaced (misplacement (is_inside s cpu) (class_of c)))

-- ---- other RECs

-- the state with other RECs
abbrev pub with_recs : State → (ℕ → Option RecRecord) → State
with_recs s recs = record s { rec = recs }

-- it walks as before
reach-recs : (s : State) (recs : ℕ → Option RecRecord) (rd ipa max : ℕ) → reach (with_recs s recs) rd ipa max ≡ reach s rd ipa max
unfolding reach
reach-recs s recs rd ipa zero = refl
reach-recs s recs rd ipa (suc l) = ap (λ n. if is_some (s.table rd (suc l) (table_number (suc l) ipa)) then suc l else n) (reach-recs s recs rd ipa l)

-- and leaves the same of a table
left-recs : (s : State) (recs : ℕ → Option RecRecord) (removal : Removal) (rd level number : ℕ)
    → ripas_left removal (with_recs s recs) rd level number ≡ ripas_left removal s rd level number
unfolding ripas_left has_entry entry_at
left-recs s recs Destroy rd level number = refl
left-recs s recs Fold rd level number = refl

-- what stands behind the rows on words and tags is the same
abbrev BehindRecs : State → (ℕ → Option RecRecord) → ℕ → Call → Type 0
BehindRecs s recs cpu c =
    ((behind (with_recs s recs) cpu c).0 ≡ (behind s cpu c).0) × ((behind (with_recs s recs) cpu c).1 ≡ (behind s cpu c).1)

-- for each such call
behind-recs : (s : State) (recs : ℕ → Option RecRecord) (cpu : ℕ) (c : Call) → is_local c ≡ true → BehindRecs s recs cpu c
unfolding table_realm lent behind realm_at has_entry entry_at
behind-recs s recs cpu (call.GranuleDelegate granule) local = (refl, refl)
behind-recs s recs cpu (call.GranuleUndelegate granule) local = (refl, refl)
behind-recs s recs cpu (call.DataCreate rd granule ipa source flags digest) local = rw (reach-recs s recs rd ipa 3) (refl, refl)
behind-recs s recs cpu (call.DataCreateUnknown rd granule ipa) local = rw (reach-recs s recs rd ipa 3) (refl, refl)
behind-recs s recs cpu (call.DataDestroy rd ipa) local = rw (reach-recs s recs rd ipa 3) (refl, refl)
behind-recs s recs cpu (call.RealmActivate rd) local = (refl, refl)
behind-recs s recs cpu (call.RttCreate rd rtt ipa level) local = rw (reach-recs s recs rd ipa _) (refl, refl)
behind-recs s recs cpu (call.RttRemove removal rd ipa level) local =
    rw (reach-recs s recs rd ipa _, left-recs s recs removal rd level (table_number level ipa)) (refl, refl)
behind-recs s recs cpu (call.RttMapUnprotected rd ipa page) local = rw (reach-recs s recs rd ipa 3) (refl, refl)
behind-recs s recs cpu (call.RttReadEntry rd ipa level) local = rw (reach-recs s recs rd ipa level) (refl, refl)
behind-recs s recs cpu (call.RttUnmapUnprotected rd ipa) local = rw (reach-recs s recs rd ipa 3) (refl, refl)
behind-recs s recs cpu (call.RttInitRipas rd base top) local = rw (reach-recs s recs rd base 3) (refl, refl)
behind-recs s recs cpu _ local = both_ways local refl

-- so what is answered where the call is placed
answer-recs : (s : State) (recs : ℕ → Option RecRecord) (cpu : ℕ) (c : Call) → is_local c ≡ true
    → answer_of (with_recs s recs) cpu c ≡ answer_of s cpu c
unfolding has_tag
answer-recs s recs cpu c local =
    let same = behind-recs s recs cpu c local in
    (behind (with_recs s recs) cpu c).2 ∙ (λ i. decided (with_front s c (same.0 i)) (same.1 i)) ∙ sym (behind s cpu c).2

-- such a call is its host's, so that it is placed where its CPU is inside of no REC
placed-local : (s : State) (cpu : ℕ) (c : Call) → is_local c ≡ true → is_placed s cpu (class_of c) ≡ not (is_inside s cpu)
unfolding table_realm lent class_of
placed-local s cpu (call.GranuleDelegate granule) local = refl
placed-local s cpu (call.GranuleUndelegate granule) local = refl
placed-local s cpu (call.DataCreate rd granule ipa source flags digest) local = refl
placed-local s cpu (call.DataCreateUnknown rd granule ipa) local = refl
placed-local s cpu (call.DataDestroy rd ipa) local = refl
placed-local s cpu (call.RealmActivate rd) local = refl
placed-local s cpu (call.RttCreate rd rtt ipa level) local = refl
placed-local s cpu (call.RttRemove removal rd ipa level) local = refl
placed-local s cpu (call.RttMapUnprotected rd ipa page) local = refl
placed-local s cpu (call.RttReadEntry rd ipa level) local = refl
placed-local s cpu (call.RttUnmapUnprotected rd ipa) local = refl
placed-local s cpu (call.RttInitRipas rd base top) local = refl
placed-local s cpu _ local = both_ways local refl

-- with other RECs the call leads to the same, where its CPU is inside of one as before
outcome-recs : (s : State) (recs : ℕ → Option RecRecord) (cpu : ℕ) (c : Call) → is_local c ≡ true
    → is_inside (with_recs s recs) cpu ≡ is_inside s cpu → outcome (with_recs s recs) cpu c ≡ outcome s cpu c
unfolding outcome
outcome-recs s recs cpu c local inside =
    let placed = placed-local (with_recs s recs) cpu c local ∙ ap not inside ∙ sym (placed-local s cpu c local) in
    λ i. if placed i then answer-recs s recs cpu c local i else Err (Misplaced (misplacement (inside i) (class_of c)))

-- ---- states that agree

-- The states agree on the call's realm, on the tags of what it names, and on whether its CPU is inside of a REC.
pub record AgreeOn (cpu : ℕ) (c : Call) (s t : State) : Type 0 where
  pub config : t.config ≡ s.config
  pub inside : is_inside t cpu ≡ is_inside s cpu
  pub tag : (granule : ℕ) → is_named (named c) granule ≡ true → t.tag granule ≡ s.tag granule
  pub realm : (rd : ℕ) → table_realm c ≡ Some rd → t.realm rd ≡ s.realm rd
  pub table : (rd : ℕ) → table_realm c ≡ Some rd → t.table rd ≡ s.table rd
  pub leaf : (rd : ℕ) → table_realm c ≡ Some rd → t.leaf rd ≡ s.leaf rd

-- so they do the other way round
pub AgreeOn-sym : (cpu : ℕ) (c : Call) (s t : State) → AgreeOn cpu c s t → AgreeOn cpu c t s
AgreeOn-sym cpu c s t agree = record {
  config = sym agree.config;
  inside = sym agree.inside;
  tag = λ granule is. sym (agree.tag granule is);
  realm = λ rd is. sym (agree.realm rd is);
  table = λ rd is. sym (agree.table rd is);
  leaf = λ rd is. sym (agree.leaf rd is);
}

-- the tags of what is named are kept
pub named_kept : (s t : State) (names : List Needed) → ((granule : ℕ) → is_named names granule ≡ true → t.tag granule ≡ s.tag granule)
    → AreKeptAt t s.tag names
named_kept s t [] same = tt
named_kept s t (n ∷ names) same = (
  sym (same n.granule (or_left (n.granule == n.granule) (is_named names n.granule) (eq-eqb n.granule n.granule refl))),
  named_kept s t names (λ granule is. same granule (or_right (n.granule == granule) (is_named names granule) is)),
)

-- with that realm alone, and with the same tags and RECs, the states are one
only-agree : (s t : State) (cpu : ℕ) (c : Call) (own : Option ℕ) → table_realm c ≡ own → AgreeOn cpu c s t
    → only (with_recs (with_tags t s.tag) s.rec) own ≡ only s own
only-agree s t cpu c None is agree = λ i. record (only s None) { config = agree.config i }
only-agree s t cpu c (Some rd) is agree = λ i. record (only s (Some rd)) {
  config = agree.config i;
  realm = λ _. agree.realm rd is i;
  table = λ _. agree.table rd is i;
  leaf = λ _. agree.leaf rd is i;
}

-- the CPU is inside of a REC in the state with the other's RECs as in that with its own
inside-agree : (s t : State) (cpu : ℕ) (c : Call) → AgreeOn cpu c s t
    → is_inside (with_recs (with_tags t s.tag) s.rec) cpu ≡ is_inside (with_tags t s.tag) cpu
unfolding is_inside
inside-agree s t cpu c agree =
    (λ i. any_below (agree.config i).granules (λ k. runs_on cpu (s.rec (k * 4096)))) ∙ sym agree.inside

-- the call leads to the same in both
pub outcome-agree : (s t : State) (cpu : ℕ) (c : Call) → is_local c ≡ true → AgreeOn cpu c s t → outcome t cpu c ≡ outcome s cpu c
outcome-agree s t cpu c local agree =
    let u = with_tags t s.tag in
    sym (outcome-tags t s.tag cpu c (named_kept s t (named c) agree.tag))
    ∙ sym (outcome-recs u s.rec cpu c local (inside-agree s t cpu c agree))
    ∙ sym (outcome-only (with_recs u s.rec) cpu c local)
    ∙ ap (λ (v : State). outcome v cpu c) (only-agree s t cpu c (table_realm c) refl agree)
    ∙ outcome-only s cpu c local

-- a stretch of the realm is reached in both
pub IsReached-agree : (s t : State) (cpu : ℕ) (c : Call) (stretch : Stretch) (top : ℕ) → AgreeOn cpu c s t → table_realm c ≡ Some stretch.rd
    → IsReached s stretch top → IsReached t stretch top
unfolding entry_at
IsReached-agree s t cpu c stretch top agree is reached = record {
  count = reached.count;
  some = reached.some;
  is_end = reached.is_end;
  within = reached.within;
  in_table = reached.in_table;
  each = λ k below. subst (λ (entry : Entry). IsTrue (can_be_set stretch.purpose entry))
      (same (entry_number stretch.level stretch.base + k)) (reached.each k below);
}
  where
    same : (n : ℕ) → entry_at s stretch.rd stretch.level n ≡ entry_at t stretch.rd stretch.level n
    same n = λ i.
        linked_entry (if nat_lt stretch.level 3 then sym (agree.table stretch.rd is) i (stretch.level + 1) n else None)
        (sym (agree.leaf stretch.rd is) i stretch.level n)
