-- A call that ends a REC or a realm comes before one that makes another, works on tables or lends a granule, where both are carried out.
use Rattle.verdict_laws.proofs.Common.{◌≡◌, ℕ, ◌*◌, ◌-◌, ◌==◌, Bool, true, false, ◌||◌, IsTrue, List, [], ◌∷◌, Option, None, Some, refl, sym, ◌∙◌, ap, subst, eqb-true, eq-eqb, Result, Ok, Err, unwrap_or, AllByRecursion, false_from_ne_true, ne_eqb, not-true, or_left, Accepted, Done, Reaches, Call, Change, RealmDestroyed, RecMade, RecDestroyed, Command, Refusal, Reply, Tag, Undelegated, Delegated, Rd, Rec, RecAux, Rtt, call_of, CanApply, changed, new_rec, State, RealmRecord, RecRecord, IsSound, is_named, is_accepted, has_rec, has_tag, is_vmid_used, no_realm, no_rec, realm_at, rec_at, Needed, ok, named, CarriesOut, Step, outcome, both_ways, behind, tag-has_tag, by_address, outcome-leads, lent, is_local}
use Rattle.rmm_spec.specs.declared.call.Call.TheVariants as call
use Rattle.rmm_spec.specs.declared.reply.Reply.TheVariants as reply
use Rattle.rmm_spec.specs.Lookup.{any_below, is_owned_by}
use Rattle.rmm_spec.specs.Walk.{entry_address, walk}
use Rattle.rmm_spec.specs.Rows.{done}
use Rattle.rmm_laws.proofs.ByRows.{AllHold}
use Rattle.rmm_laws.proofs.RowLaws.{front-rest}
use Rattle.rmm_laws.proofs.Runs.{step_sound}
use Rattle.rmm_laws.proofs.Searches.{none_has_vmid}
use Rattle.rmm_laws.proofs.Tags.{has_tag-other}
use Rattle.verdict_laws.specs.Ending.{EndsApart, is_ending}
use Rattle.verdict_laws.specs.Making.{is_making, made_realm, own_realm, taken_vmid}
use Rattle.verdict_laws.specs.Separate.{is_freed, table_realm, works_on}
use Rattle.verdict_laws.proofs.Endings.{AgreeAt, IsEnding, ended, outcome-agree_realm, outcome-agree_rec, realm_ending, realm_ends, rec_ending, rec_ends}
use Rattle.verdict_laws.proofs.Lending.{refused_undone}
use Rattle.verdict_laws.proofs.MakingCalls.{IsMadeIn, changed-made, made, made-runs, made_patch, made_patch-within, own_made, own_table, put_rec, put_rec-keeps, step_made}
use Rattle.verdict_laws.proofs.MakingLooks.{AgreeOnMade}
use Rattle.verdict_laws.proofs.Patches.{is_own, other_realm, patched-swapped, put-swapped}
use Rattle.verdict_laws.proofs.SeparateCalls.{AgreeOn-patched}
use Rattle.verdict_laws.proofs.SeparateLooks.{with_recs}
use Rattle.verdict_laws.proofs.Spared.{is_inside-alike}
use Rattle.lemmas.proofs.Options.{none_of}

-- ---- the granules that a call works on

-- whether a granule with the tag is unused, or a realm's own
abbrev is_own_tag : Tag → Bool
is_own_tag Undelegated = true
is_own_tag Delegated = true
is_own_tag Rd = true
is_own_tag _ = false

-- each granule that is named by a call that makes something or is local needs such a tag
named_tags : (c : Call) → (is_making c || is_local c) ≡ true → AllByRecursion (λ (n : Needed). is_own_tag n.tag ≡ true) (named c)
unfolding is_making table_realm lent named
named_tags (call.GranuleDelegate granule) makes = (refl, tt)
named_tags (call.GranuleUndelegate granule) makes = (refl, tt)
named_tags (call.DataCreate rd granule ipa source flags digest) makes = (refl, (refl, (refl, tt)))
named_tags (call.DataCreateUnknown rd granule ipa) makes = (refl, (refl, tt))
named_tags (call.DataDestroy rd ipa) makes = (refl, tt)
named_tags (call.RealmActivate rd) makes = (refl, tt)
named_tags (call.RealmCreate rd root width level vmid algo) makes = (refl, (refl, tt))
named_tags (call.RecCreate rd rec mpidr flags aux0 aux1) makes = (refl, (refl, (refl, (refl, tt))))
named_tags (call.RttCreate rd rtt ipa level) makes = (refl, (refl, tt))
named_tags (call.RttRemove removal rd ipa level) makes = (refl, tt)
named_tags (call.RttMapUnprotected rd ipa page) makes = (refl, tt)
named_tags (call.RttReadEntry rd ipa level) makes = (refl, tt)
named_tags (call.RttUnmapUnprotected rd ipa) makes = (refl, tt)
named_tags (call.RttInitRipas rd base top) makes = (refl, tt)
named_tags _ makes = both_ways makes refl

-- so a granule that is named has one, where each has what it needs
named_tag : (s : State) (names : List Needed) → AllByRecursion (λ (n : Needed). IsTrue (has_tag s n.granule n.tag)) names
    → AllByRecursion (λ (n : Needed). is_own_tag n.tag ≡ true) names → (granule : ℕ) → is_named names granule ≡ true
    → is_own_tag (s.tag granule) ≡ true
named_tag s [] has own granule is = both_ways is refl
named_tag s (n ∷ names) has own granule is = by (n.granule == granule) refl is (named_tag s names has.1 own.1 granule)
  where
    by : (here : Bool) → (n.granule == granule) ≡ here → (here || is_named names granule) ≡ true
        → (is_named names granule ≡ true → is_own_tag (s.tag granule) ≡ true) → is_own_tag (s.tag granule) ≡ true
    by true here is later =
        ap is_own_tag (ap s.tag (sym (eqb-true n.granule granule here)) ∙ tag-has_tag s n.granule n.tag has.0) ∙ own.0
    by false apart is later = later is

-- a call that makes a realm, or makes a REC for it or works on its tables, names the realm
pub own_named : (c : Call) → (is_making c || is_local c) ≡ true → (rd : ℕ) → is_own (own_realm c) rd ≡ true → is_named (named c) rd ≡ true
unfolding is_making made_realm table_realm lent named
own_named (call.GranuleDelegate granule) makes rd is = both_ways is refl
own_named (call.GranuleUndelegate granule) makes rd is = both_ways is refl
own_named (call.DataCreate own granule ipa source flags digest) makes rd is = rw (eqb-true rd own is, eq-eqb own own refl) refl
own_named (call.DataCreateUnknown own granule ipa) makes rd is = rw (eqb-true rd own is, eq-eqb own own refl) refl
own_named (call.DataDestroy own ipa) makes rd is = rw (eqb-true rd own is, eq-eqb own own refl) refl
own_named (call.RealmActivate own) makes rd is = rw (eqb-true rd own is, eq-eqb own own refl) refl
own_named (call.RealmCreate own root width level vmid algo) makes rd is = rw (eqb-true rd own is, eq-eqb own own refl) refl
own_named (call.RecCreate own rec mpidr flags aux0 aux1) makes rd is = rw (eqb-true rd own is, eq-eqb own own refl) refl
own_named (call.RttCreate own rtt ipa level) makes rd is = rw (eqb-true rd own is, eq-eqb own own refl) refl
own_named (call.RttRemove removal own ipa level) makes rd is = rw (eqb-true rd own is, eq-eqb own own refl) refl
own_named (call.RttMapUnprotected own ipa page) makes rd is = rw (eqb-true rd own is, eq-eqb own own refl) refl
own_named (call.RttReadEntry own ipa level) makes rd is = rw (eqb-true rd own is, eq-eqb own own refl) refl
own_named (call.RttUnmapUnprotected own ipa) makes rd is = rw (eqb-true rd own is, eq-eqb own own refl) refl
own_named (call.RttInitRipas own base top) makes rd is = rw (eqb-true rd own is, eq-eqb own own refl) refl
own_named _ makes rd is = both_ways makes refl

-- behind what is accepted, the granule that is given back unnamed waits for use
abbrev LeavesWaiting : State → Call → Accepted → Type 0
LeavesWaiting s c (Done words change) = (granule : ℕ) → is_freed c (reply.Ok words) granule ≡ true → (changed s change).tag granule ≡ Delegated
LeavesWaiting s c (Reaches stretch) = (top granule : ℕ) → is_freed c (ok (top ∷ [])) granule ≡ false

-- so it is behind each such call
behind_waiting : (s : State) (cpu : ℕ) (c : Call) → (is_making c || is_local c) ≡ true → LeavesWaiting s c (behind s cpu c).1
unfolding is_making table_realm lent is_freed behind changed
behind_waiting s cpu (call.GranuleDelegate granule) makes = λ g is. both_ways is refl
behind_waiting s cpu (call.GranuleUndelegate granule) makes = λ g is. both_ways is refl
behind_waiting s cpu (call.DataCreate rd granule ipa source flags digest) makes = λ g is. both_ways is refl
behind_waiting s cpu (call.DataCreateUnknown rd granule ipa) makes = λ g is. both_ways is refl
behind_waiting s cpu (call.DataDestroy rd ipa) makes = λ g is.
    let granule = entry_address (walk s rd ipa 3).entry in rw (eq-eqb g granule (sym (eqb-true granule g is))) refl
behind_waiting s cpu (call.RealmActivate rd) makes = λ g is. both_ways is refl
behind_waiting s cpu (call.RealmCreate rd root width level vmid algo) makes = λ g is. both_ways is refl
behind_waiting s cpu (call.RecCreate rd rec mpidr flags aux0 aux1) makes = λ g is. both_ways is refl
behind_waiting s cpu (call.RttCreate rd rtt ipa level) makes = λ g is. both_ways is refl
behind_waiting s cpu (call.RttRemove removal rd ipa level) makes = λ g is.
    let rtt = entry_address (walk s rd ipa (level - 1)).entry in rw (eq-eqb g rtt (sym (eqb-true rtt g is))) refl
behind_waiting s cpu (call.RttMapUnprotected rd ipa page) makes = λ g is. both_ways is refl
behind_waiting s cpu (call.RttReadEntry rd ipa level) makes = λ g is. both_ways is refl
behind_waiting s cpu (call.RttUnmapUnprotected rd ipa) makes = λ g is. both_ways is refl
behind_waiting s cpu (call.RttInitRipas rd base top) makes = λ end g. refl
behind_waiting s cpu _ makes = both_ways makes refl

-- no realm has the VMID, if one is meant
abbrev pub IsFree : State → Option ℕ → Type 0
IsFree s None = Unit {0}
IsFree s (Some vmid) = is_vmid_used s vmid ≡ false

-- so it is with the VMID that a call takes whose rows hold
pub taken_free : (s : State) (cpu : ℕ) (c : Call) → AllHold (behind s cpu c).0 → IsFree s (taken_vmid c)
unfolding taken_vmid behind
taken_free s cpu (call.RealmCreate rd root width level vmid algo) rows = not-true (is_vmid_used s vmid) rows.1.0
taken_free s cpu _ rows = tt

-- What a call names has such a tag before it, no realm has the VMID that it takes, and what it gives back waits for use behind it.
pub record IsWork (old middle : State) (c : Call) (given : Reply) : Type 0 where
  named_own : (granule : ℕ) → is_named (named c) granule ≡ true → is_own_tag (old.tag granule) ≡ true
  untaken : IsFree old (taken_vmid c)
  freed_waits : (granule : ℕ) → is_freed c given granule ≡ true → middle.tag granule ≡ Delegated

module _ (old middle : State) (cpu : ℕ) (command : Command) (given : Reply)
    (makes : (is_making (call_of command) || is_local (call_of command)) ≡ true) (accepted : is_accepted given ≡ true) where
  -- so it is of such a call that is carried out, by what it leads to
  work_by : (found : Result Accepted Refusal) → outcome old cpu (call_of command) ≡ found → CarriesOut found old given middle
      → IsWork old middle (call_of command) given
  work_by (Err refused) is carried = refused_undone old middle given refused accepted carried
  work_by (Ok found) is carried =
      let c = call_of command in
      let leads = outcome-leads old cpu c (Ok found) is in
      let hold = front-rest old c (behind old cpu c).0 leads.0 in
      record {
        named_own = named_tag old (named c) hold.1 (named_tags c makes);
        untaken = taken_free old cpu c hold.2;
        freed_waits = waits found (subst (LeavesWaiting old c) leads.1 (behind_waiting old cpu c makes)) carried;
      }
    where
      waits : (found : Accepted) → LeavesWaiting old (call_of command) found → CarriesOut (Ok found) old given middle
          → (granule : ℕ) → is_freed (call_of command) given granule ≡ true → middle.tag granule ≡ Delegated
      waits (Done words change) leaves carried granule is =
          ap (λ (s : State). s.tag granule) carried.1
          ∙ leaves granule ((λ i. is_freed (call_of command) (sym carried.0 i) granule) ∙ is)
      waits (Reaches stretch) leaves carried granule is =
          both_ways is ((λ i. is_freed (call_of command) (carried.1.1 i) granule) ∙ leaves carried.0 granule)

  -- and so by its step
  pub work_of : Step old cpu command given middle → IsWork old middle (call_of command) given
  work_of step = work_by (outcome old cpu (call_of command)) refl step

module _ (old middle : State) (c : Call) (given : Reply) (work : IsWork old middle c given) (granule : ℕ) where
  -- it doesn't work on what it doesn't name and what doesn't wait for use behind it
  pub unworked : is_named (named c) granule ≡ false → (middle.tag granule ≡ Delegated → ⊥) → works_on c given granule ≡ false
  unworked unnamed kept =
      let unfreed = false_from_ne_true (is_freed c given granule) (λ is. kept (work.freed_waits granule is)) in
      λ i. unnamed i || unfreed i

  -- nor on what is a part of a realm or a REC before it and behind
  part_unworked : is_own_tag (old.tag granule) ≡ false → is_own_tag (middle.tag granule) ≡ false → works_on c given granule ≡ false
  part_unworked part still =
      unworked (false_from_ne_true (is_named (named c) granule) (λ is. both_ways (work.named_own granule is) part))
      (λ waits. both_ways (ap is_own_tag waits) still)

-- ---- what is left of what an ending reads

-- a REC that is made belongs to no realm but its own
made-owned : (s : State) (granules : ℕ → Bool) (own : Option ℕ) (change : Change) → IsSound s → CanApply s change → IsMadeIn granules own change
    → (rd : ℕ) → is_own own rd ≡ false → (g : ℕ) → is_owned_by rd ((made s change).rec g) ≡ is_owned_by rd (s.rec g)
made-owned s granules own (RecMade owner rec mpidr flags aux0 aux1) sound can is rd apart g =
    by_address (λ found. is_owned_by rd found ≡ is_owned_by rd (s.rec g)) g rec (Some (new_rec owner mpidr flags aux0 aux1)) (s.rec g)
    (λ here. ne_eqb owner rd (λ same. both_ways (eq-eqb rd owner (sym same)) (other_realm own owner rd is.0 apart))
    ∙ sym (ap (is_owned_by rd) (ap s.rec here
    ∙ none_of (s.rec rec) (sound.recs.tagged rec ∙ has_tag-other s rec Delegated Rec can.rec_tag refl)))) (λ _. refl)
made-owned s granules own _ sound can is rd apart g = refl

-- no other realm gets or loses a REC
pub has_rec-made : (s : State) (granules : ℕ → Bool) (own : Option ℕ) (change : Change) → IsSound s → CanApply s change
    → IsMadeIn granules own change → (rd : ℕ) → is_own own rd ≡ false → has_rec (made s change) rd ≡ has_rec s rd
unfolding has_rec
has_rec-made s granules own change sound can is rd apart = λ i.
    any_below s.config.granules (λ k. made-owned s granules own change sound can is rd apart (k * 4096) i)

-- a change leaves what an ending reads of other granules and realms
pub AgreeAt-made : (s : State) (cpu : ℕ) (granules : ℕ → Bool) (own : Option ℕ) (change : Change) → IsSound s → CanApply s change
    → IsMadeIn granules own change → (granule : ℕ) → granules granule ≡ false → is_own own granule ≡ false → AgreeAt cpu granule s (made s change)
AgreeAt-made s cpu granules own change sound can is granule free apart =
    let within = made_patch-within granules own change is in
    record {
      config = refl;
      inside = is_inside-alike s (made s change) cpu refl (made-runs s cpu change sound can);
      tag = within.tag granule free (s.tag granule);
      realm = within.realm granule apart (s.realm granule);
      rec = put_rec-keeps granules own change is granule free (s.rec granule);
      table = within.table granule apart (s.table granule);
      leaf = within.leaf granule apart (s.leaf granule);
    }

-- ---- the ending comes first

module _ (old new : State) (making : Change) (cpu other : ℕ) (one : Command) (given answered : Reply) (sound : IsSound old)
    (still : IsSound (made old making)) (makes : (is_making (call_of one) || is_local (call_of one)) ≡ true)
    (accepted : is_accepted answered ≡ true) (work : IsWork old (made old making) (call_of one) given) (can : CanApply old making)
    (is_made : IsMadeIn (works_on (call_of one) given) (own_realm (call_of one)) making)
    (again : (t : State) → AgreeOnMade cpu (call_of one) old t → Step t cpu one given (changed t making)) where
  -- both come the other way round
  abbrev Turned : Call → Type 0
  Turned d = (between : State) × CarriesOut (outcome old other d) old answered between × Step between cpu one given new

  -- no realm has the VMID that the call takes before what an ending puts, nor behind it
  vmid_left : (change : Change) (ending : IsEnding (works_on (call_of one) given) (is_own (own_realm (call_of one))) old cpu change)
      → (vmid : ℕ) → taken_vmid (call_of one) ≡ Some vmid
      → is_vmid_used (ended old ending.patch ending.rec) vmid ≡ is_vmid_used old vmid
  unfolding is_vmid_used
  vmid_left change ending vmid is =
      let none = none_has_vmid old vmid sound (subst (IsFree old) is work.untaken) in
      λ i. any_below old.config.granules
      (λ k. (ending.vmid vmid (k * 4096) (old.realm (k * 4096)) (none (k * 4096)) ∙ sym (none (k * 4096))) i)

  -- where what the ending puts is apart, and it leads to the same before
  change_turned : (d : Call) (change : Change)
      → IsEnding (works_on (call_of one) given) (is_own (own_realm (call_of one))) old cpu change
      → outcome old other d ≡ Ok (done [] change) → CarriesOut (Ok (done [] change)) (made old making) answered new → Turned d
  change_turned d change ending is carried =
      let c = call_of one in
      let mine = works_on c given in
      let own = own_realm c in
      let between = ended old ending.patch ending.rec in
      let agree = AgreeOn-patched old cpu c ending.granules ending.realms ending.patch ending.within
      (λ g hit. ending.apart g (or_left (is_named (named c) g) (is_freed c given g) hit)) (λ rd hit. ending.others rd (own_table c rd hit)) in
      let same : new ≡ changed between making =
      carried.1 ∙ ending.is_put (made old making)
      ∙ (λ i. with_recs
      (patched-swapped old mine ending.granules (is_own own) ending.realms (made_patch making) ending.patch
      (made_patch-within mine own making is_made) ending.within ending.apart ending.others i)
      (λ g. put-swapped mine ending.granules (put_rec making) ending.rec (put_rec-keeps mine own making is_made) ending.keeps ending.apart
      g (old.rec g) i))
      ∙ sym (changed-made between mine own making is_made) in (
        between,
        subst (λ (r : Result Accepted Refusal). CarriesOut r old answered between) (sym is) (carried.0, sym (ending.is_put old)),
        subst (λ (s : State). Step between cpu one given s) (sym same)
            (again between (record {
              on = record {
                config = refl;
                inside = ending.inside;
                tag = agree.tag;
                realm = agree.realm;
                table = agree.table;
                leaf = agree.leaf;
              };
              realm = λ rd here.
                  ending.within.realm rd (ending.others rd ((λ i. is_own (own_made c rd here i) rd) ∙ eq-eqb rd rd refl)) (old.realm rd);
              vmid = vmid_left change ending;
            })),
      )

  -- the realm that is the call's own is another than what it doesn't name
  elsewhere : (granule : ℕ) → is_named (named (call_of one)) granule ≡ false → is_own (own_realm (call_of one)) granule ≡ false
  elsewhere granule unnamed =
      false_from_ne_true (is_own (own_realm (call_of one)) granule) (λ is. both_ways (own_named (call_of one) makes granule is) unnamed)

  -- the end of a REC
  rec_turned : (rec : ℕ) → is_named (named (call_of one)) rec ≡ false → (found : Result Accepted Refusal)
      → outcome (made old making) other (call.RecDestroy rec) ≡ found → CarriesOut found (made old making) answered new
      → Turned (call.RecDestroy rec)
  unfolding rec_at
  rec_turned rec unnamed (Err refused) is carried = refused_undone (made old making) new answered refused accepted carried
  rec_turned rec unnamed (Ok found) is carried =
      let c = call_of one in
      let middle = made old making in
      let mine = works_on c given in
      let behind_it = rec_ends middle other rec found still is in
      let free = unworked old middle c given work rec unnamed (λ waits. let bad : Rec ≡ Delegated = sym behind_it.tag ∙ waits in cc) in
      let agree = AgreeAt-made old other mine (own_realm c) making sound can is_made rec free (elsewhere rec unnamed) in
      let same : outcome old other (call.RecDestroy rec) ≡ Ok found = sym (outcome-agree_rec old middle other rec agree) ∙ is in
      let before = rec_ends old other rec found sound same in
      let here = rec_at old rec in
      let aux0 : middle.tag here.aux0 ≡ RecAux =
      ap (λ (at : Option RecRecord). middle.tag (unwrap_or at no_rec).aux0) (sym agree.rec) ∙ behind_it.aux0 in
      let aux1 : middle.tag here.aux1 ≡ RecAux =
      ap (λ (at : Option RecRecord). middle.tag (unwrap_or at no_rec).aux1) (sym agree.rec) ∙ behind_it.aux1 in
      let free0 = part_unworked old middle c given work here.aux0 (ap is_own_tag before.aux0) (ap is_own_tag aux0) in
      let free1 = part_unworked old middle c given work here.aux1 (ap is_own_tag before.aux1) (ap is_own_tag aux1) in
      change_turned (call.RecDestroy rec) (RecDestroyed rec here.aux0 here.aux1)
      (rec_ending mine (is_own (own_realm c)) old cpu rec here.aux0 here.aux1 free free0 free1 before.idle)
      (same ∙ ap Ok before.does) (subst (λ (a : Accepted). CarriesOut (Ok a) middle answered new) before.does carried)

  -- the end of a realm
  realm_turned : (rd : ℕ) → is_named (named (call_of one)) rd ≡ false → (found : Result Accepted Refusal)
      → outcome (made old making) other (call.RealmDestroy rd) ≡ found → CarriesOut found (made old making) answered new
      → Turned (call.RealmDestroy rd)
  unfolding realm_at
  realm_turned rd unnamed (Err refused) is carried = refused_undone (made old making) new answered refused accepted carried
  realm_turned rd unnamed (Ok found) is carried =
      let c = call_of one in
      let middle = made old making in
      let mine = works_on c given in
      let behind_it = realm_ends middle other rd found still is in
      let free = unworked old middle c given work rd unnamed (λ waits. let bad : Rd ≡ Delegated = sym behind_it.tag ∙ waits in cc) in
      let own = elsewhere rd unnamed in
      let agree = AgreeAt-made old other mine (own_realm c) making sound can is_made rd free own in
      let same : outcome old other (call.RealmDestroy rd) ≡ Ok found =
      sym (outcome-agree_realm old middle other rd agree (has_rec-made old mine (own_realm c) making sound can is_made rd own)) ∙ is in
      let before = realm_ends old other rd found sound same in
      let root = (realm_at old rd).root in
      let is_root : middle.tag root ≡ Rtt =
      ap (λ (realm : Option RealmRecord). middle.tag (unwrap_or realm no_realm).root) (sym agree.realm) ∙ behind_it.root in
      let free_root = part_unworked old middle c given work root (ap is_own_tag before.root) (ap is_own_tag is_root) in
      change_turned (call.RealmDestroy rd) (RealmDestroyed rd root)
      (realm_ending mine (is_own (own_realm c)) old cpu rd root free free_root own)
      (same ∙ ap Ok before.does) (subst (λ (a : Accepted). CarriesOut (Ok a) middle answered new) before.does carried)

  -- so each ending
  call_turned : (d : Call) → is_ending d ≡ true
      → ((granule : ℕ) → is_named (named (call_of one)) granule ≡ true → is_named (named d) granule ≡ false)
      → CarriesOut (outcome (made old making) other d) (made old making) answered new → Turned d
  unfolding is_ending named
  call_turned (call.RecDestroy rec) ends apart carried =
      rec_turned rec
      (false_from_ne_true (is_named (named (call_of one)) rec)
      (λ is. both_ways (or_left (rec == rec) false (eq-eqb rec rec refl)) (apart rec is)))
      (outcome (made old making) other (call.RecDestroy rec)) refl carried
  call_turned (call.RealmDestroy rd) ends apart carried =
      realm_turned rd
      (false_from_ne_true (is_named (named (call_of one)) rd)
      (λ is. both_ways (or_left (rd == rd) false (eq-eqb rd rd refl)) (apart rd is)))
      (outcome (made old making) other (call.RealmDestroy rd)) refl carried
  call_turned _ ends apart carried = both_ways ends refl

-- an ending comes before a call that makes something or is local and names others, where both are carried out
pub ending_turned : (old middle new : State) (cpu other : ℕ) (one two : Command) (given answered : Reply)
    → IsSound old → EndsApart (call_of one) (call_of two) → is_accepted given ≡ true → is_accepted answered ≡ true
    → Step old cpu one given middle → Step middle other two answered new
    → (between : State) × Step old other two answered between × Step between cpu one given new
ending_turned old middle new cpu other one two given answered sound ends accepted accepted_too first second =
    let c = call_of one in
    let before = step_made old cpu one given middle ends.works first in
    let making = before.change in
    let is_made = before.work.0 in
    let is_new : middle ≡ made old making = before.is_new ∙ changed-made old (works_on c given) (own_realm c) making is_made in
    let step : Step old cpu one given (made old making) = subst (λ (s : State). Step old cpu one given s) is_new first in
    let later : Step (made old making) other two answered new = subst (λ (s : State). Step s other two answered new) is_new second in
    call_turned old new making cpu other one given answered sound (step_sound old cpu one given (made old making) sound step) ends.works accepted_too
    (work_of old (made old making) cpu one given ends.works accepted step) (before.applies sound) is_made before.again (call_of two) ends.ends
    ends.apart later
