-- Granules of a realm or of a REC: one that a call takes for it is its part behind that, and is so or Delegated until a call needs it Delegated.
use Rattle.verdict_laws.proofs.Common.{◌≡◌, ℕ, ◌==◌, ◌&&◌, ◌||◌, Bool, true, false, not, if◌then◌else◌, IsTrue, Option, Some, None, inl, inr, refl, sym, ◌∙◌, ap, eqb-true, eq-eqb, Ok, and_parts, cases_Bool, false_from_ne_true, ne_eqb, not-true, or_cases, or_left, or_right, Accepted, Done, Reaches, Call, Change, RealmMade, RealmDestroyed, RecMade, RecDestroyed, RecordsChanged, EntriesChanged, Replaced, RipasSet, RealmChange, RecChange, TagChange, Command, Reply, Tag, Delegated, Rd, Rec, CanApply, call_of, changed, realm_updated, rec_updated, with_realm_change, with_rec_change, has_tag, no_realm, no_rec, realm_at, rec_at, is_accepted, IsSound, RecRecord, State, CarriesOut, Step, outcome, reached_change, both_ways, behind, tag-has_tag, by_address, with_records, step-refuses, Fact, holds}
use Rattle.std.proofs.Common.{unwrap_or}
use Rattle.rmm_spec.specs.declared.call.Call.TheVariants as call
use Rattle.rmm_spec.specs.declared.change.RealmUpdate.TheVariants.{RecCounted}
use Rattle.rmm_spec.specs.Update.{with_tag}
use Rattle.rmm_laws.proofs.Applies.{Applies}
use Rattle.rmm_laws.proofs.Keeps.{IsRecLike, rec_updated-like}
use Rattle.rmm_laws.proofs.Records.{updated_like}
use Rattle.verdict_laws.specs.declared.facts.Fact.TheVariants.{Tagged, PartOf}
use Rattle.verdict_laws.specs.Denying.{gives_no_owner}
use Rattle.verdict_laws.specs.Facts.{has_aux, has_root, is_part, is_tag, needs, takes_part}
use Rattle.verdict_laws.specs.Slices.{changeable}
use Rattle.verdict_laws.proofs.FactSteps.{IsDoneSo, step-has}
use Rattle.verdict_laws.proofs.TagFacts.{carried_by, tag-from_is_tag, tag-is_tag, tag-left}
use Rattle.lemmas.proofs.Options.{none_of}

-- ---- owners that aren't there

-- where a granule has another tag, neither a realm nor a REC is there
no_owner : (s : State) (owner : ℕ) (tag : Tag) → IsSound s → s.tag owner ≡ tag → is_tag tag Rd ≡ false → is_tag tag Rec ≡ false
    → (s.realm owner ≡ None) × (s.rec owner ≡ None)
no_owner s owner tag sound is no_rd no_rec =
    let has_none : (other : Tag) → is_tag tag other ≡ false → has_tag s owner other ≡ false =
    λ other differs. false_from_ne_true (has_tag s owner other) (λ has.
    both_ways (tag-is_tag tag other (sym is ∙ tag-has_tag s owner other has)) differs) in
    (none_of (s.realm owner) (sound.realms.tagged owner ∙ has_none Rd no_rd), none_of (s.rec owner) (sound.recs.tagged owner ∙ has_none Rec no_rec))

-- so it is where a fact says so
pub no_owner-given : (s : State) (owner : ℕ) → IsSound s → (fact : Fact) → holds fact s ≡ true → gives_no_owner owner fact ≡ true
    → (s.realm owner ≡ None) × (s.rec owner ≡ None)
no_owner-given s owner sound (Tagged granule tag) is gives =
    let parts = and_parts (owner == granule && not (is_tag tag Rd)) (not (is_tag tag Rec)) gives in
    let first = and_parts (owner == granule) (not (is_tag tag Rd)) parts.0 in
    no_owner s owner tag sound (ap s.tag (eqb-true owner granule first.0) ∙ tag-from_is_tag (s.tag granule) tag is)
    (not-true (is_tag tag Rd) first.1) (not-true (is_tag tag Rec) parts.1)
no_owner-given s owner sound _ is gives = both_ways gives refl

-- then no granule is their part
pub no_part : (s : State) (owner : ℕ) → (s.realm owner ≡ None) × (s.rec owner ≡ None) → (granule : ℕ) → is_part s granule owner ≡ false
no_part s owner none granule = rw (none.0, none.1) refl

-- ---- records

-- where one of two tests passes, so does one of two that they lead to
or_map : (a b c d : Bool) → (a ≡ true → c ≡ true) → (b ≡ true → d ≡ true) → (a || b) ≡ true → (c || d) ≡ true
or_map true b c d one other is = or_left c d (one refl)
or_map false b c d one other is = or_right c d (other is)

module _ {A : Type 0} (test : Option A → Bool) (default : A) (none : test None ≡ false) where
  -- what passes a test is there, and so is what is read
  read_there : (found : Option A) → test found ≡ true → test (Some (unwrap_or found default)) ≡ true
  read_there None is = both_ways is none
  read_there (Some x) is = is

  read_here : (values : ℕ → Option A) (g other : ℕ) → test (values g) ≡ true → g ≡ other → test (Some (unwrap_or (values other) default)) ≡ true
  read_here values g other is here = read_there (values other) (ap (λ a. test (values a)) (sym here) ∙ is)

  -- it passes too where it is updated by what leaves that
  updated_passes : (values : ℕ → Option A) (g other : ℕ) (update : A → A) → ((x : A) → test (Some (update x)) ≡ test (Some x))
      → test (values g) ≡ true → test (if g == other then Some (update (unwrap_or (values other) default)) else values g) ≡ true
  updated_passes values g other update leaves is =
      by_address (λ found. test found ≡ true) g other (Some (update (unwrap_or (values other) default))) (values g)
      (λ here. leaves (unwrap_or (values other) default) ∙ read_here values g other is here) (λ _. is)

module _ (granule owner : ℕ) where
  -- a realm that is updated keeps its root
  realm_change_part : (s : State) (change : Option RealmChange) → is_part s granule owner ≡ true
      → is_part (with_realm_change s change) granule owner ≡ true
  unfolding realm_at
  realm_change_part s None is = is
  realm_change_part s (Some change) is =
      or_map _ _ _ _ (updated_passes (λ found. has_root found granule) no_realm refl s.realm owner change.rd (realm_updated change.update)
      (λ r. ap (λ (a : ℕ). a == granule) (updated_like change.update r).root)) (λ aux. aux) is

  -- a REC has the auxiliary granules of one that it is like
  like-aux : (r : RecRecord) (found : Option RecRecord) → IsRecLike r found → has_aux found granule ≡ has_aux (Some r) granule
  like-aux r found like = rw (like.1, like.3, like.4) refl

  -- so it keeps them where it is updated
  rec_change_part : (s : State) (change : Option RecChange) → is_part s granule owner ≡ true
      → is_part (with_rec_change s change) granule owner ≡ true
  unfolding rec_at
  rec_change_part s None is = is
  rec_change_part s (Some change) is =
      or_map _ _ _ _ (λ root. root) (updated_passes (λ found. has_aux found granule) no_rec refl s.rec owner change.rec (rec_updated change.update)
      (λ r. like-aux r _ (rec_updated-like change.update r))) is

  -- the granule is the owner's part behind the tag of a page and the records of a realm and of a REC
  records_part : (s : State) (page : Option TagChange) (realm : Option RealmChange) (rec : Option RecChange) → is_part s granule owner ≡ true
      → is_part (with_records s page realm rec) granule owner ≡ true
  records_part s None realm rec is = rec_change_part _ rec (realm_change_part s realm is)
  records_part s (Some page) realm rec is = rec_change_part _ rec (realm_change_part (with_tag s page.granule page.tag) realm is)

  -- ---- behind a change

  module _ (s : State) (sound : IsSound s) (is : is_part s granule owner ≡ true) where
    -- the owner isn't at a granule that is Delegated
    owner-apart : (other : ℕ) → IsTrue (has_tag s other Delegated) → (owner == other) ≡ false
    owner-apart other has = ne_eqb owner other (λ here. both_ways (ap (is_part s granule) (sym here) ∙ is)
        (no_part s other (no_owner s other Delegated sound (tag-has_tag s other Delegated has) refl refl) granule))

    -- a change leaves the granule the owner's part, or Delegated where it destroys the owner
    changed_part : (change : Change) → CanApply s change → holds (PartOf granule owner) (changed s change) ≡ true
    unfolding changed realm_at rec_at
    changed_part (RealmMade rd root width level vmid algo) can = rw (owner-apart rd can.rd_tag) (or_left _ _ is)
    changed_part (RealmDestroyed rd root) can = elim (cases_Bool (owner == rd)) [
      | inl here ↦ elim (or_cases (has_root (s.realm owner) granule) (has_aux (s.rec owner) granule) is) [
        | inl part ↦
            (let found = read_here (λ found. has_root found granule) no_realm refl s.realm owner rd part (eqb-true owner rd here) in
            rw (eq-eqb granule root (sym (can.is_root ∙ eqb-true (realm_at s rd).root granule found))) (or_right _ _ refl))
        | inr part ↦ or_left _ _ (or_right _ _ part)
      ]
      | inr apart ↦ rw apart (or_left _ _ is)
    ]
    changed_part (RecMade rd rec mpidr flags aux0 aux1) can =
        rw (owner-apart rec can.rec_tag) (or_left _ _ (realm_change_part s (Some (record { rd = rd; update = RecCounted mpidr flags })) is))
    changed_part (RecDestroyed rec aux0 aux1) can = elim (cases_Bool (owner == rec)) [
      | inl here ↦ elim (or_cases (has_root (s.realm owner) granule) (has_aux (s.rec owner) granule) is) [
        | inl part ↦ or_left _ _ (or_left _ _ part)
        | inr part ↦
            (let r = rec_at s rec in
            elim (or_cases (r.aux0 == granule) (r.aux1 == granule)
            (read_here (λ found. has_aux found granule) no_rec refl s.rec owner rec part (eqb-true owner rec here))) [
              | inl found ↦ rw (eq-eqb granule aux0 (sym (can.is_aux0 ∙ eqb-true r.aux0 granule found))) (or_right _ _
                  (by_address (λ tag. is_tag tag Delegated ≡ true) granule aux1 Delegated Delegated (λ _. refl) (λ _. refl)))
              | inr found ↦ rw (eq-eqb granule aux1 (sym (can.is_aux1 ∙ eqb-true r.aux1 granule found))) (or_right _ _ refl)
            ])
      ]
      | inr apart ↦ rw apart (or_left _ _ is)
    ]
    changed_part (RecordsChanged realm rec) can = or_left _ _ (records_part s None realm rec is)
    changed_part (EntriesChanged other level (Replaced number entry) page realm rec) can = or_left _ _ (records_part s page realm rec is)
    changed_part (EntriesChanged other level (RipasSet first last ripas) page realm rec) can = or_left _ _ (records_part s page realm rec is)
    changed_part _ can = or_left _ _ is

    -- so does what is carried out
    done_part : (new : State) (given : Reply) (found : Accepted) → Applies s found → CarriesOut (Ok found) s given new
        → holds (PartOf granule owner) new ≡ true
    done_part new given (Done words change) can carried = rw carried.1 (changed_part change can)
    done_part new given (Reaches stretch) can (top, (reached, is_ok, is_next)) =
        rw is_next (changed_part (reached_change stretch top) (can top reached))

  -- ---- behind a call

  -- a call that takes the granule for the owner makes it its part
  behind_makes : (s : State) (cpu : ℕ) (c : Call) → takes_part c granule owner ≡ true
      → IsDoneSo (λ change. is_part (changed s change) granule owner ≡ true) (behind s cpu c).1
  unfolding behind takes_part changed
  behind_makes s cpu (call.RealmCreate rd root width level vmid algo) takes =
      let parts = and_parts (owner == rd) (root == granule) takes in rw parts.0 (or_left _ _ parts.1)
  behind_makes s cpu (call.RecCreate rd rec mpidr flags aux0 aux1) takes =
      let parts = and_parts (owner == rec) (aux0 == granule || aux1 == granule) takes in rw parts.0 (or_right _ _ parts.1)
  behind_makes s cpu _ takes = both_ways takes refl

-- ---- steps

-- where it is carried out, the granule is the owner's part
pub part-made : (granule owner : ℕ) (s new : State) (cpu : ℕ) (command : Command) (given : Reply) → IsSound s → Step s cpu command given new
    → is_accepted given ≡ true → takes_part (call_of command) granule owner ≡ true
    → (is_part new granule owner || is_tag (new.tag granule) Delegated) ≡ true
part-made granule owner s new cpu command given sound step accepted takes =
    or_left _ _ (step-has (λ t. is_part t granule owner ≡ true) _ s new cpu command given (λ change part. part) (both_ways accepted)
    (behind_makes granule owner s cpu (call_of command) takes) step)

-- a step that doesn't need the granule Delegated leaves it the owner's part, or Delegated
pub part-left : (granule owner : ℕ) (s new : State) (cpu : ℕ) (command : Command) (given : Reply) → IsSound s → Step s cpu command given new
    → needs (changeable (call_of command)) granule Delegated ≡ false → (is_part s granule owner || is_tag (s.tag granule) Delegated) ≡ true
    → (is_part new granule owner || is_tag (new.tag granule) Delegated) ≡ true
part-left granule owner s new cpu command given sound step keeps is =
    elim (or_cases (is_part s granule owner) (is_tag (s.tag granule) Delegated) is) [
      | inl part ↦ elim (cases_Bool (is_accepted given)) [
        | inl accepted ↦
            (let carried = carried_by s cpu command given new (outcome s cpu (call_of command)) sound accepted refl step in
            done_part granule owner s sound part new given (behind s cpu (call_of command)).1 carried.can carried.done)
        | inr refused ↦ rw (step-refuses s new cpu command given step refused) is
      ]
      | inr back ↦ or_right _ _ (tag-left granule Delegated s new cpu command given sound step keeps back)
    ]
