-- Granules that commits leave unused are unused: they stay so while no call changes them, and what a call gives back is so behind it.
use Rattle.verdict_laws.proofs.Common.{◌≡◌, ℕ, ◌==◌, ◌&&◌, ◌||◌, Bool, true, false, not, if◌then◌else◌, List, [], ◌∷◌, map, None, inl, inr, refl, sym, ◌∙◌, ap, subst, eq-eqb, eqb-true, Ok, unwrap_or, and_parts, ne_eqb, not-true, or_cases, Call, Command, Reply, Tag, Undelegated, Delegated, Rd, Rec, RecAux, Rtt, call_of, changed, Config, realm_at, rec_at, is_accepted, IsSound, State, opening, CarriesOut, Step, with_front, named, words_of, both_ways, behind, by_address, outcome-leads, realm_there, rec_there, unused_tag}
use Rattle.std.specs.Prelude.{◌⊎◌}
use Rattle.rmm_spec.specs.declared.call.Call.TheVariants as call
use Rattle.rmm_spec.specs.declared.tag.Tag.TheVariants.{Data}
use Rattle.rmm_spec.specs.Ownership.{IsTied, RecParts, latest_rec, latest_root, rec_made, root_made}
use Rattle.rmm_laws.proofs.ByRows.{AllHold}
use Rattle.rmm_laws.proofs.Cases.{at_itself, nothing_there}
use Rattle.rmm_laws.proofs.Recorded.{IsRecorded, parts_in, recs-after, root_in, roots-after}
use Rattle.rmm_laws.proofs.RowLaws.{refusal-refuses}
use Rattle.rmm_laws.proofs.Ties.{IsUnused, tied-used}
use Rattle.verdict_laws.specs.Looking.{is_looking}
use Rattle.verdict_laws.specs.Separate.{is_freed, tells_granule}
use Rattle.verdict_laws.specs.Slices.{is_of_ended, leaves_unused, makes_part, may_change}
use Rattle.verdict_laws.proofs.SliceSteps.{step_cases, unseen_left}
use Rattle.verdict_laws.proofs.SliceTerms.{Commit, HasMade, IsLeftUnused, entry_of}

-- ---- granules that stay unused

-- an unused tag is no tag of a realm's granule
unused_is : (lends : Bool) (tag : Tag) → tag ≡ unused_tag lends → IsUnused tag
unused_is true tag is = inr is
unused_is false tag is = inl is

module _ (s : State) (g : ℕ) (sound : IsSound s) (unused : IsUnused (s.tag g)) where
  -- what is tied to a realm is another granule
  tied_other : (role : Tag) (x realm : ℕ) → IsTied role s x realm → (x == g) ≡ false
  tied_other role x realm tied =
      ne_eqb x g (λ same. tied-used s role g realm sound (subst (λ y. IsTied role s y realm) same tied) unused)

  -- so a call that only looks, is refused, or may not change the granule leaves its tag
  tag_stays : (cpu : ℕ) (command : Command) (given : Reply) (new : State)
      → (is_looking command ≡ true) ⊎ ((is_accepted given ≡ false) ⊎ (may_change (call_of command) g ≡ false))
      → Step s cpu command given new → new.tag g ≡ s.tag g
  tag_stays cpu command given new still step =
      let unseen = unseen_left (λ x. x == g) (λ _. false) s sound (record {
        tables = λ rd level number x there _. tied_other Rtt x rd (level, number, there);
        pages = λ rd level number x ripas there _. tied_other Data x rd (level, number, ripas, there);
        auxes = λ h rec there _. (
          tied_other RecAux rec.aux0 rec.owner (h, rec, there, refl, inl refl),
          tied_other RecAux rec.aux1 rec.owner (h, rec, there, refl, inr refl),
        );
      }) (λ h rec there owns. both_ways owns
      (tied_other Rd rec.owner rec.owner (refl, sound.realms.tagged rec.owner ∙ sound.recs.owned h rec there)))
      (λ h rec k there on. tied_other Rec h rec.owner (rec, there, refl)) cpu command given new
      (elim still [
        | inl looks ↦ inl looks
        | inr (inl refused) ↦ inr (inl refused)
        | inr (inr apart) ↦ inr (inr (λ x may. ne_eqb x g (λ same. both_ways (ap (may_change (call_of command)) (sym same) ∙ may) apart), refl))
      ]) step in
      sym (at_itself g (new.tag g) Undelegated) ∙ ap (λ (t : State). t.tag g) (unseen.masks (λ _. false)) ∙ at_itself g (s.tag g) Undelegated

-- ---- granules that are given back

-- the granule at which a tag is put has it
put_here : (other g : ℕ) (tag old : Tag) → other ≡ g → (if g == other then tag else old) ≡ tag
put_here other g tag old same = rw (eq-eqb g other (sym same)) refl

-- it keeps that where the same tag is put at another
put_more : (other g : ℕ) (tag old : Tag) → old ≡ tag → (if g == other then tag else old) ≡ tag
put_more other g tag old is = by_address (λ t. t ≡ tag) g other tag old (λ _. refl) (λ _. is)

-- what is lent where a test holds
lent_where : (test lends : Bool) (tag : Tag) → (test && lends) ≡ true → (test ≡ true → tag ≡ Delegated) → tag ≡ unused_tag lends
lent_where test lends tag is lent = let both = and_parts test lends is in lent both.0 ∙ ap unused_tag (sym both.1)

-- what a call that is carried out leaves unused is so
pub leaves_done : (s : State) (cpu : ℕ) (c : Call) (given : Reply) (new : State) (g : ℕ) (lends : Bool) → leaves_unused c given g lends ≡ true
    → CarriesOut (Ok (behind s cpu c).1) s given new → new.tag g ≡ unused_tag lends
unfolding behind leaves_unused is_freed changed
leaves_done s cpu (call.GranuleDelegate granule) given new g lends is done =
    lent_where (granule == g) lends (new.tag g) is (λ here. rw done.1 (put_here granule g Delegated _ (eqb-true granule g here)))
leaves_done s cpu (call.GranuleUndelegate granule) given new g lends is done =
    let both = and_parts (granule == g) (not lends) is in
    rw (done.1, not-true lends both.1) (put_here granule g Undelegated _ (eqb-true granule g both.0))
leaves_done s cpu (call.DataDestroy rd ipa) given new g lends is done =
    lent_where (tells_granule given g) lends (new.tag g) is (λ told. rw done.1 (put_here _ g Delegated _ (eqb-true _ g (rw done.0 at told))))
leaves_done s cpu (call.RealmDestroy rd) given new g lends is done =
    lent_where (rd == g) lends (new.tag g) is (λ here. rw done.1
    (put_more (realm_at s rd).root g Delegated _ (put_here rd g Delegated _ (eqb-true rd g here))))
leaves_done s cpu (call.RecDestroy rec) given new g lends is done =
    lent_where (rec == g) lends (new.tag g) is (λ here. rw done.1 (put_more (rec_at s rec).aux1 g Delegated _
    (put_more (rec_at s rec).aux0 g Delegated _ (put_here rec g Delegated _ (eqb-true rec g here)))))
leaves_done s cpu (call.RttRemove removal rd ipa level) given new g lends is done =
    lent_where (tells_granule given g) lends (new.tag g) is (λ told. rw done.1 (put_here _ g Delegated _ (eqb-true _ g (rw done.0 at told))))
leaves_done s cpu _ given new g lends is done = both_ways is refl

-- ---- parts of what is ended

-- the granule is a part of what the call ends, where the roots of realms and the parts of RECs are these
abbrev IsPartOf : (ℕ → ℕ) → (ℕ → RecParts) → Call → ℕ → Type 0
IsPartOf roots recs (call.RealmDestroy rd) g = roots rd ≡ g
IsPartOf roots recs (call.RecDestroy rec) g = ((recs rec).aux0 ≡ g) ⊎ ((recs rec).aux1 ≡ g)
IsPartOf roots recs _ g = ⊥

-- it is where a call makes that with it
part_made : (roots : ℕ → ℕ) (recs : ℕ → RecParts) (c ending : Call) (g : ℕ) → makes_part c ending g ≡ true
    → IsPartOf (λ rd. unwrap_or (root_made rd c) (roots rd)) (λ rec. unwrap_or (rec_made rec c) (recs rec)) ending g
unfolding makes_part
part_made roots recs (call.RealmCreate rd root width level vmid algo) (call.RealmDestroy other) g makes =
    let both = and_parts (rd == other) (root == g) makes in rw both.0 (eqb-true root g both.1)
part_made roots recs (call.RecCreate rd rec mpidr flags aux0 aux1) (call.RecDestroy other) g makes =
    let both = and_parts (rec == other) (aux0 == g || aux1 == g) makes in
    rw both.0 (elim (or_cases (aux0 == g) (aux1 == g) both.1) [ inl first ↦ inl (eqb-true aux0 g first) | inr second ↦ inr (eqb-true aux1 g second) ])
part_made roots recs _ _ g makes = both_ways makes refl

-- and stays so where a call is refused, or makes something else
part_kept : (roots : ℕ → ℕ) (recs : ℕ → RecParts) (accepted : Bool) (c ending : Call) (g : ℕ)
    → (accepted ≡ false) ⊎ (is_of_ended c ending ≡ false) → IsPartOf roots recs ending g
    → IsPartOf (λ rd. unwrap_or (if accepted then root_made rd c else None) (roots rd))
    (λ rec. unwrap_or (if accepted then rec_made rec c else None) (recs rec)) ending g
unfolding is_of_ended
part_kept roots recs false c ending g other is = is
part_kept roots recs true c ending g (inl refused) is = both_ways refl refused
part_kept roots recs true (call.RealmCreate rd root width level vmid algo) (call.RealmDestroy other) g (inr apart) is = rw apart is
part_kept roots recs true (call.RecCreate rd rec mpidr flags aux0 aux1) (call.RecDestroy other) g (inr apart) is = rw apart is
part_kept roots recs true _ _ g (inr apart) is = is

-- the root of each realm, and the parts of each REC, by the commit that made it
abbrev roots_by : List Commit → ℕ → ℕ
roots_by before = λ rd. latest_root rd (map entry_of before)

abbrev recs_by : List Commit → ℕ → RecParts
recs_by before = λ rec. latest_rec rec (map entry_of before)

-- so what the commits made as a part is one by them
part_by : (before : List Commit) (ending : Call) (g : ℕ) → HasMade before ending g → IsPartOf (roots_by before) (recs_by before) ending g
part_by [] ending g made = absurd made
part_by (c ∷ before) ending g (inl (accepted, makes)) =
    rw (accepted, roots_by, recs_by) (part_made (roots_by before) (recs_by before) (call_of c.entry.command) ending g makes)
part_by (c ∷ before) ending g (inr (other, made)) =
    part_kept (roots_by before) (recs_by before) (is_accepted c.entry.given) (call_of c.entry.command) ending g other (part_by before ending g made)

-- ---- behind commits

-- The commits leave the state: what they leave unused is, and what made its realms and RECs is read from them.
pub record IsAsLeft (before : List Commit) (s : State) : Type 0 where
  pub unused : (g : ℕ) (lends : Bool) → IsLeftUnused before g lends → s.tag g ≡ unused_tag lends
  roots : IsRecorded root_in (roots_by before) s.realm
  recs : IsRecorded parts_in (recs_by before) s.rec

-- so it is in the opening
pub as_left_opening : (config : Config) → IsAsLeft [] (opening config)
unfolding opening
as_left_opening config = record {
  unused = λ g lends is. ap unused_tag (sym is);
  roots = λ rd realm there. nothing_there refl there;
  recs = λ rec r there. nothing_there refl there;
}

module _ (before : List Commit) (s : State) (sound : IsSound s) (left : IsAsLeft before s) where
  -- the parts of what a call that is carried out ends are given back
  parts_done : (cpu : ℕ) (c : Call) (given : Reply) (new : State) (g : ℕ) → IsPartOf (roots_by before) (recs_by before) c g
      → AllHold (with_front s c (behind s cpu c).0) → CarriesOut (Ok (behind s cpu c).1) s given new → new.tag g ≡ Delegated
  unfolding behind words_of named changed
  parts_done cpu (call.RealmDestroy rd) given new g is hold done =
      let root = (realm_at s rd).root in
      rw done.1 (put_here root g Delegated _ (sym (left.roots rd (realm_at s rd) (realm_there s rd sound hold.0)) ∙ is))
  parts_done cpu (call.RecDestroy rec) given new g is hold done =
      let old = rec_at s rec in
      let same = sym (left.recs rec old (rec_there s rec sound hold.0)) in
      rw done.1 (elim is [
        | inl first ↦ put_more old.aux1 g Delegated _ (put_here old.aux0 g Delegated _ (ap (λ (p : RecParts). p.aux0) same ∙ first))
        | inr second ↦ put_here old.aux1 g Delegated _ (ap (λ (p : RecParts). p.aux1) same ∙ second)
      ])
  parts_done cpu _ given new g is hold done = absurd is

  module _ (c : Commit) (next : State) (step : Step s c.entry.cpu c.entry.command c.entry.given next) where
    -- a commit that is accepted does what stands behind its rows, which hold
    accepted_carries : is_accepted c.entry.given ≡ true
        → let rest = behind s c.entry.cpu (call_of c.entry.command) in
        AllHold (with_front s (call_of c.entry.command) rest.0) × CarriesOut (Ok rest.1) s c.entry.given next
    accepted_carries accepted = elim (step_cases s c.entry.cpu c.entry.command c.entry.given next sound step) [
      | inl refused ↦ both_ways accepted (ap is_accepted refused.replied ∙ refusal-refuses refused.refusal)
      | inr done ↦
          (let leads = outcome-leads s c.entry.cpu (call_of c.entry.command) (Ok done.accepted) done.leads in
          (leads.0, subst (λ r. CarriesOut r s c.entry.given next) (done.leads ∙ ap Ok (sym leads.1)) step))
    ]

    -- what the commits with this one leave unused is
    unused_next : (g : ℕ) (lends : Bool) → IsLeftUnused (c ∷ before) g lends → next.tag g ≡ unused_tag lends
    unused_next g lends (inl (accepted, leaves)) =
        leaves_done s c.entry.cpu (call_of c.entry.command) c.entry.given next g lends leaves (accepted_carries accepted).1
    unused_next g lends (inr (inl (accepted, made, lent))) =
        let ending = call_of c.entry.command in
        let carries = accepted_carries accepted in
        parts_done c.entry.cpu ending c.entry.given next g (part_by before ending g made) carries.0 carries.1 ∙ ap unused_tag (sym lent)
    unused_next g lends (inr (inr (still, was))) =
        let unused = left.unused g lends was in
        tag_stays s g sound (unused_is lends (s.tag g) unused) c.entry.cpu c.entry.command c.entry.given next still step ∙ unused

    -- so they leave the next state
    pub as_left_next : IsAsLeft (c ∷ before) next
    as_left_next = elim (step_cases s c.entry.cpu c.entry.command c.entry.given next sound step) [
      | inl refused ↦
          (let refuses = ap is_accepted refused.replied ∙ refusal-refuses refused.refusal in
          record { unused = unused_next; roots = rw (refused.is_new, refuses) left.roots; recs = rw (refused.is_new, refuses) left.recs })
      | inr done ↦ record {
        unused = unused_next;
        roots = λ rd realm there. rw (done.replied, done.tells.1.roots rd)
            (roots-after s done.change (roots_by before) sound done.can left.roots rd realm (rw done.is_new at there));
        recs = λ rec r there. rw (done.replied, done.tells.1.recs rec)
            (recs-after s done.change (recs_by before) sound done.can left.recs rec r (rw done.is_new at there));
      }
    ]
