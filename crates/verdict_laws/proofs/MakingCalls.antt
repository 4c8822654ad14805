-- Two calls, each of which makes a realm or a REC or is local, of other realms, VMIDs and granules, come either way round.
use Rattle.verdict_laws.proofs.Common.{◌≡◌, ℕ, ◌*◌, ◌==◌, Bool, true, false, ◌&&◌, ◌||◌, if◌then◌else◌, IsTrue, List, [], ◌∷◌, inl, inr, Option, Some, None, refl, sym, ◌∙◌, ap, subst, eq-eqb, AllByRecursion, ne_eqb, or_cases, or_left, Accepted, Done, Reaches, Call, Change, RealmMade, RecMade, RecordsChanged, TableMade, EntriesChanged, RealmChange, TagChange, Command, Reply, Tag, Delegated, Rd, Rec, RecAux, Rtt, call_of, State, RecRecord, CanApply, changed, new_rec, IsSound, is_named, has_tag, is_vmid_used, realm_at, ok, reached_change, named, Step, both_ways, behind, by_address, realm_there, lent, is_local}
use Rattle.std.proofs.Common.{◌/◌}
use Rattle.std.specs.Prelude.{nat_lt}
use Rattle.rmm_spec.specs.declared.call.Call.TheVariants as call
use Rattle.rmm_spec.specs.declared.change.RealmUpdate.TheVariants.{RecCounted}
use Rattle.rmm_spec.specs.declared.entry.Entry.TheVariants.{Unassigned, UnassignedNs}
use Rattle.rmm_spec.specs.declared.reply.Reply.TheVariants as reply
use Rattle.rmm_spec.specs.declared.tag.Ripas.TheVariants.{Empty}
use Rattle.rmm_spec.specs.Update.{is_same_table}
use Rattle.rmm_spec.specs.Applicable.{CanChangeRealm}
use Rattle.rmm_spec.specs.Change.{new_realm}
use Rattle.rmm_spec.specs.Lookup.{any_below, has_vmid}
use Rattle.rmm_laws.proofs.Records.{updated_like}
use Rattle.rmm_laws.proofs.Tags.{has_tag-other}
use Rattle.verdict_laws.specs.Making.{AreMadeApart, is_making, made_realm, own_realm, taken_vmid}
use Rattle.verdict_laws.specs.Separate.{is_freed, table_realm, works_on}
use Rattle.verdict_laws.proofs.MakingLooks.{AgreeOnMade, AgreeOnMade-sym, outcome-made}
use Rattle.verdict_laws.proofs.Patches.{AreDisjoint, IsChangeOf, IsTagOf, IsWithin, Keeps, Patch, changed-patched, is_own, other_realm, patch_of, patch_of-within, patched, patched-swapped, put-swapped, put_realm, put_realm-keeps, put_table, put_table-keeps, put_tag, put_tag-keeps, realm_change-patched, tag_of_change}
use Rattle.verdict_laws.proofs.SeparateCalls.{AgreeOn-patched, IsAcceptedOf, IsChanging, IsWorkOf, behind_work, disjoint-sym, realms_apart, step_changing}
use Rattle.verdict_laws.proofs.SeparateLooks.{AgreeOn, with_recs}
use Rattle.verdict_laws.proofs.Spared.{RunAlike, is_inside-alike, put_rec-runs}
use Rattle.verdict_laws.proofs.SparedCalls.{none_waiting}
use Rattle.lemmas.proofs.Options.{none_of}

-- ---- what a change puts

-- tags are put, one after the other
abbrev put_tags : List TagChange → ℕ → Tag → Tag
put_tags [] g old = old
put_tags (change ∷ changes) g old = put_tags changes g (put_tag (Some change) g old)

-- a granule's new tag
abbrev tagging : ℕ → Tag → TagChange
tagging granule tag = record { granule = granule; tag = tag }

-- what a change puts, but for RECs
abbrev pub made_patch : Change → Patch
made_patch (RealmMade rd root width level vmid algo) = record {
  tag = put_tags (tagging rd Rd ∷ tagging root Rtt ∷ []);
  realm = λ other old. if other == rd then Some (new_realm root width level vmid algo) else old;
  table = put_table (TableMade rd level 0 root UnassignedNs);
  leaf = λ other old l n. if is_same_table rd level 0 other l (n / 512)
      then Some (if nat_lt n 256 then Unassigned Empty else UnassignedNs) else old l n;
}
made_patch (RecMade rd rec mpidr flags aux0 aux1) = record {
  tag = put_tags (tagging rec Rec ∷ tagging aux0 RecAux ∷ tagging aux1 RecAux ∷ []);
  realm = put_realm (Some (record { rd = rd; update = RecCounted mpidr flags }));
  table = λ other old. old;
  leaf = λ other old. old;
}
made_patch change = patch_of change

-- and for a REC that is made
abbrev pub put_rec : Change → ℕ → Option RecRecord → Option RecRecord
put_rec (RecMade rd rec mpidr flags aux0 aux1) g old = if g == rec then Some (new_rec rd mpidr flags aux0 aux1) else old
put_rec _ g old = old

-- the state with all of it put
abbrev pub made : State → Change → State
made s change = with_recs (patched s (made_patch change)) (λ g. put_rec change g (s.rec g))

-- the change is of this realm, if of any, and of these granules
abbrev pub IsMadeIn : (ℕ → Bool) → Option ℕ → Change → Type 0
IsMadeIn granules own (RealmMade rd root width level vmid algo) = (own ≡ Some rd) × (granules rd ≡ true) × (granules root ≡ true)
IsMadeIn granules own (RecMade rd rec mpidr flags aux0 aux1) =
    (own ≡ Some rd) × (granules rec ≡ true) × (granules aux0 ≡ true) × (granules aux1 ≡ true)
IsMadeIn granules own change = IsChangeOf own change × IsTagOf granules (tag_of_change change)

-- such a change puts that
pub changed-made : (s : State) (granules : ℕ → Bool) (own : Option ℕ) (change : Change) → IsMadeIn granules own change
    → changed s change ≡ made s change
unfolding changed realm_at
changed-made s granules own (RealmMade rd root width level vmid algo) is = refl
changed-made s granules own (RecMade rd rec mpidr flags aux0 aux1) is = λ i.
    record (made s (RecMade rd rec mpidr flags aux0 aux1))
    { realm = (realm_change-patched s (Some (record { rd = rd; update = RecCounted mpidr flags })) i).realm }
changed-made s granules own change is = changed-patched s own change is.0

-- other granules keep their tags
put_tags-keeps : (granules : ℕ → Bool) (changes : List TagChange) → AllByRecursion (λ (change : TagChange). granules change.granule ≡ true) changes
    → Keeps granules (put_tags changes)
put_tags-keeps granules [] all g other old = refl
put_tags-keeps granules (change ∷ changes) all g other old =
    (λ i. put_tags changes g (put_tag-keeps granules (Some change) all.0 g other old i)) ∙ put_tags-keeps granules changes all.1 g other old

-- what such a change puts is within the realm and the granules
pub made_patch-within : (granules : ℕ → Bool) (own : Option ℕ) (change : Change) → IsMadeIn granules own change
    → IsWithin granules (is_own own) (made_patch change)
made_patch-within granules own (RealmMade rd root width level vmid algo) is = record {
  tag = put_tags-keeps granules (tagging rd Rd ∷ tagging root Rtt ∷ []) (is.1, (is.2, tt));
  realm = λ other apart old. rw (other_realm own rd other is.0 apart) refl;
  table = put_table-keeps own (TableMade rd level 0 root UnassignedNs) is.0;
  leaf = λ other apart old. ap (λ (b : Bool). λ l n. if b && l == level && n / 512 == 0
      then Some (if nat_lt n 256 then Unassigned Empty else UnassignedNs) else old l n) (other_realm own rd other is.0 apart);
}
made_patch-within granules own (RecMade rd rec mpidr flags aux0 aux1) is = record {
  tag = put_tags-keeps granules (tagging rec Rec ∷ tagging aux0 RecAux ∷ tagging aux1 RecAux ∷ []) (is.1, (is.2, (is.3, tt)));
  realm = put_realm-keeps own (Some (record { rd = rd; update = RecCounted mpidr flags })) is.0;
  table = λ other apart old. refl;
  leaf = λ other apart old. refl;
}
made_patch-within granules own change is = patch_of-within granules own change is.1 is.0

-- so is a REC that is made
pub put_rec-keeps : (granules : ℕ → Bool) (own : Option ℕ) (change : Change) → IsMadeIn granules own change → Keeps granules (put_rec change)
put_rec-keeps granules own (RecMade rd rec mpidr flags aux0 aux1) is g other old =
    rw (ne_eqb g rec (λ same. both_ways is.1 ((λ i. granules (sym same i)) ∙ other))) refl
put_rec-keeps granules own _ is g other old = refl

-- two such changes of other granules and realms may come either way round
changed-exchanged : (s : State) (granules granules_too : ℕ → Bool) (own own_too : Option ℕ) (one two : Change)
    → IsMadeIn granules own one → IsMadeIn granules_too own_too two → AreDisjoint granules granules_too → AreDisjoint (is_own own) (is_own own_too)
    → changed (changed s one) two ≡ changed (changed s two) one
changed-exchanged s granules granules_too own own_too one two first second apart others =
    (λ i. changed (changed-made s granules own one first i) two)
    ∙ changed-made (made s one) granules_too own_too two second
    ∙ (λ i. with_recs
    (patched-swapped s granules granules_too (is_own own) (is_own own_too) (made_patch one) (made_patch two)
    (made_patch-within granules own one first) (made_patch-within granules_too own_too two second) apart others i)
    (λ g. put-swapped granules granules_too (put_rec one) (put_rec two) (put_rec-keeps granules own one first)
    (put_rec-keeps granules_too own_too two second) apart g (s.rec g) i))
    ∙ sym (changed-made (made s two) granules own one first)
    ∙ (λ i. changed (sym (changed-made s granules_too own_too two second) i) one)

-- ---- what a change leaves

-- a REC that is made runs on no CPU
pub made-runs : (s : State) (cpu : ℕ) (change : Change) → IsSound s → CanApply s change → RunAlike cpu s (made s change)
made-runs s cpu (RecMade rd rec mpidr flags aux0 aux1) sound can g =
    put_rec-runs s cpu rec (Some (new_rec rd mpidr flags aux0 aux1)) (sym (none_waiting s cpu rec sound can.rec_tag)) g
made-runs s cpu _ sound can g = refl

-- the VMID that the change takes is this
abbrev Takes : Option ℕ → Change → Type 0
Takes taken (RealmMade rd root width level vmid algo) = taken ≡ Some vmid
Takes taken _ = Unit {0}

-- a realm's record is updated, and its VMID stays
put_realm-vmid : (s : State) (vmid : ℕ) (change : RealmChange) → IsSound s → IsTrue (has_tag s change.rd Rd) → (g : ℕ)
    → has_vmid vmid (put_realm (Some change) g (s.realm g)) ≡ has_vmid vmid (s.realm g)
unfolding realm_at
put_realm-vmid s vmid change sound tag g =
    by_address (λ found. has_vmid vmid found ≡ has_vmid vmid (s.realm g)) g change.rd _ (s.realm g)
    (λ here. (λ i. (updated_like change.update (realm_at s g)).vmid i == vmid)
    ∙ sym (ap (has_vmid vmid) (realm_there s g sound (subst (λ a. IsTrue (has_tag s a Rd)) (sym here) tag)))) (λ _. refl)

-- or none is
record_put-vmid : (s : State) (vmid : ℕ) (change : Option RealmChange) → IsSound s → CanChangeRealm s change → (g : ℕ)
    → has_vmid vmid (put_realm change g (s.realm g)) ≡ has_vmid vmid (s.realm g)
record_put-vmid s vmid None sound can g = refl
record_put-vmid s vmid (Some change) sound can g = put_realm-vmid s vmid change sound can.0 g

-- the same realms have a VMID that the change doesn't take
made-vmid : (s : State) (vmid : ℕ) (taken : Option ℕ) (change : Change) → IsSound s → CanApply s change → Takes taken change
    → ((other : ℕ) → taken ≡ Some other → ¬ (other ≡ vmid)) → (g : ℕ) → has_vmid vmid ((made s change).realm g) ≡ has_vmid vmid (s.realm g)
made-vmid s vmid taken (RealmMade rd root width level other algo) sound can takes differ g =
    by_address (λ found. has_vmid vmid found ≡ has_vmid vmid (s.realm g)) g rd (Some (new_realm root width level other algo)) (s.realm g)
    (λ here. ne_eqb other vmid (differ other takes)
    ∙ sym (ap (has_vmid vmid) (ap s.realm here
    ∙ none_of (s.realm rd) (sound.realms.tagged rd ∙ has_tag-other s rd Delegated Rd can.rd_tag refl)))) (λ _. refl)
made-vmid s vmid taken (RecMade rd rec mpidr flags aux0 aux1) sound can takes differ g =
    put_realm-vmid s vmid (record { rd = rd; update = RecCounted mpidr flags }) sound can.rd_tag g
made-vmid s vmid taken (RecordsChanged realm rec) sound can takes differ g = record_put-vmid s vmid realm sound can.0 g
made-vmid s vmid taken (EntriesChanged rd level entries page realm rec) sound can takes differ g = record_put-vmid s vmid realm sound can.2 g
made-vmid s vmid taken _ sound can takes differ g = refl

-- so the VMID is used where it was
made-vmid_used : (s : State) (vmid : ℕ) (taken : Option ℕ) (change : Change) → IsSound s → CanApply s change → Takes taken change
    → ((other : ℕ) → taken ≡ Some other → ¬ (other ≡ vmid)) → is_vmid_used (made s change) vmid ≡ is_vmid_used s vmid
unfolding is_vmid_used
made-vmid_used s vmid taken change sound can takes differ = λ i.
    any_below s.config.granules (λ k. made-vmid s vmid taken change sound can takes differ (k * 4096) i)

-- ---- calls

-- the realm on whose tables a call works is its own
pub own_table : (c : Call) (rd : ℕ) → is_own (table_realm c) rd ≡ true → is_own (own_realm c) rd ≡ true
unfolding made_realm table_realm
own_table (call.RealmCreate other root width level vmid algo) rd is = both_ways is refl
own_table (call.RecCreate other rec mpidr flags aux0 aux1) rd is = both_ways is refl
own_table _ rd is = is

-- so is that which it makes, or for which it makes a REC
pub own_made : (c : Call) (rd : ℕ) → made_realm c ≡ Some rd → own_realm c ≡ Some rd
own_made c rd is = rw is refl

-- a local call makes nothing
own_local : (c : Call) → is_local c ≡ true → own_realm c ≡ table_realm c
unfolding made_realm table_realm lent
own_local (call.RealmCreate rd root width level vmid algo) local = both_ways local refl
own_local (call.RecCreate rd rec mpidr flags aux0 aux1) local = both_ways local refl
own_local _ local = refl

-- the change is of the call's realm and of granules that it works on, and takes the call's VMID
abbrev IsMadeOf : Call → Reply → Change → Type 0
IsMadeOf c given change = IsMadeIn (works_on c given) (own_realm c) change × Takes (taken_vmid c) change

-- so is the work of a local call
made_work : (c : Call) (given : Reply) (change : Change) → is_local c ≡ true → IsWorkOf c given change → IsMadeOf c given change
made_work c given (RealmMade rd root width level vmid algo) local work = absurd work.0
made_work c given (RecMade rd rec mpidr flags aux0 aux1) local work = absurd work.0
made_work c given change local work = ((subst (λ own. IsChangeOf own change) (sym (own_local c local)) work.0, work.1), tt)

-- and what such a call accepts
accepted_made : (c : Call) (accepted : Accepted) → is_local c ≡ true → IsAcceptedOf (IsWorkOf c) (table_realm c) accepted
    → IsAcceptedOf (IsMadeOf c) (table_realm c) accepted
accepted_made c (Done words change) local work = made_work c (reply.Ok words) change local work
accepted_made c (Reaches stretch) local work =
    (work.0, λ top. made_work c (ok (top ∷ [])) (reached_change stretch top) local (work.1 top))

-- a granule that is named first
named_first : (granule : ℕ) (others freed : Bool) → ((granule == granule || others) || freed) ≡ true
named_first granule others freed = rw (eq-eqb granule granule refl) refl

-- or behind another
named_behind : (here others freed : Bool) → (others || freed) ≡ true → ((here || others) || freed) ≡ true
named_behind true others freed is = refl
named_behind false others freed is = is

-- what a call accepts that makes something
behind_making : (s : State) (cpu : ℕ) (c : Call) → is_making c ≡ true → IsAcceptedOf (IsMadeOf c) (table_realm c) (behind s cpu c).1
unfolding is_making made_realm taken_vmid table_realm is_freed behind named
behind_making s cpu (call.RealmCreate rd root width level vmid algo) making =
    ((refl, named_first rd _ _, named_behind (rd == root) _ _ (named_first root _ _)), refl)
behind_making s cpu (call.RecCreate rd rec mpidr flags aux0 aux1) making = (
  (
    refl,
    named_behind (rd == rec) _ _ (named_first rec _ _),
    named_behind (rd == aux0) _ _ (named_behind (rec == aux0) _ _ (named_first aux0 _ _)),
    named_behind (rd == aux1) _ _ (named_behind (rec == aux1) _ _ (named_behind (aux0 == aux1) _ _ (named_first aux1 _ _))),
  ),
  tt,
)
behind_making s cpu _ making = both_ways making refl

-- each such call accepts what is of its realm and granules
behind_made : (s : State) (cpu : ℕ) (c : Call) → (is_making c || is_local c) ≡ true
    → IsAcceptedOf (IsMadeOf c) (table_realm c) (behind s cpu c).1
behind_made s cpu c makes = elim (or_cases (is_making c) (is_local c) makes) [
  | inl making ↦ behind_making s cpu c making
  | inr local ↦ accepted_made c (behind s cpu c).1 local (behind_work s cpu c local)
]

-- a step makes such a change
pub step_made : (s : State) (cpu : ℕ) (command : Command) (given : Reply) (new : State)
    → (is_making (call_of command) || is_local (call_of command)) ≡ true → Step s cpu command given new
    → IsChanging (IsMadeOf (call_of command)) (AgreeOnMade cpu (call_of command) s) s cpu command given new
step_made s cpu command given new makes =
    let c = call_of command in
    step_changing (IsMadeOf c) (AgreeOnMade cpu c s) s cpu command given new (λ t agree. agree.on)
    (λ t agree. outcome-made s t cpu c makes agree) ((tt, tt), tt) (behind_made s cpu c makes)

-- ---- what another call leaves

-- such a change leaves what a call reads of another realm, another VMID and other granules
AgreeOnMade-made : (s : State) (cpu : ℕ) (c : Call) (granules : ℕ → Bool) (own taken : Option ℕ) (change : Change) → IsSound s → CanApply s change
    → IsMadeIn granules own change → Takes taken change → AreDisjoint (is_named (named c)) granules → AreDisjoint (is_own (own_realm c)) (is_own own)
    → ((vmid other : ℕ) → taken_vmid c ≡ Some vmid → taken ≡ Some other → ¬ (vmid ≡ other)) → AgreeOnMade cpu c s (made s change)
AgreeOnMade-made s cpu c granules own taken change sound can is takes apart others differ = record {
  on = record {
    config = refl;
    inside = is_inside-alike s (made s change) cpu refl (made-runs s cpu change sound can);
    tag = on.tag;
    realm = on.realm;
    table = on.table;
    leaf = on.leaf;
  };
  realm = λ rd here. within.realm rd (others rd ((λ i. is_own (own_made c rd here i) rd) ∙ eq-eqb rd rd refl)) (s.realm rd);
  vmid = λ vmid here. made-vmid_used s vmid taken change sound can takes (λ other there same. differ vmid other here there (sym same));
}
  where
    within : IsWithin granules (is_own own) (made_patch change)
    within = made_patch-within granules own change is

    on : AgreeOn cpu c s (patched s (made_patch change))
    on = AgreeOn-patched s cpu c granules (is_own own) (made_patch change) within apart (λ rd here. others rd (own_table c rd here))

-- so does a step of such a call
step_agrees : (s : State) (cpu other : ℕ) (one two : Command) (given answered : Reply) (new : State) → IsSound s
    → AreMadeApart (call_of one) given (call_of two) answered → Step s cpu one given new → AgreeOnMade other (call_of two) s new
step_agrees s cpu other one two given answered new sound apart step =
    let c = call_of one in
    let d = call_of two in
    let first = step_made s cpu one given new apart.first step in
    let realms = realms_apart (own_realm c) (own_realm d) apart.realms in
    let granules = disjoint-sym (works_on c given) (works_on d answered) apart.granules in
    subst (AgreeOnMade other d s)
    (sym (first.is_new ∙ changed-made s (works_on c given) (own_realm c) first.change first.work.0))
    (AgreeOnMade-made s other d (works_on c given) (own_realm c) (taken_vmid c) first.change sound (first.applies sound) first.work.0 first.work.1
    (λ g is. granules g (or_left (is_named (named d) g) (is_freed d answered g) is))
    (disjoint-sym (is_own (own_realm c)) (is_own (own_realm d)) realms)
    (λ vmid taken here there same. apart.vmids taken vmid there here (sym same)))

-- ---- two calls

-- the two are apart the other way round
AreMadeApart-sym : (one two : Call) (given answered : Reply) → AreMadeApart one given two answered → AreMadeApart two answered one given
AreMadeApart-sym one two given answered apart = record {
  first = apart.second;
  second = apart.first;
  realms = λ rd other is is_too same. apart.realms other rd is_too is (sym same);
  vmids = λ vmid other is is_too same. apart.vmids other vmid is_too is (sym same);
  granules = disjoint-sym (works_on one given) (works_on two answered) apart.granules;
}

-- both come the other way round
pub made_turned : (old middle new : State) (cpu other : ℕ) (one two : Command) (given answered : Reply) → IsSound old
    → AreMadeApart (call_of one) given (call_of two) answered → Step old cpu one given middle → Step middle other two answered new
    → (between : State) × Step old other two answered between × Step between cpu one given new
made_turned old middle new cpu other one two given answered sound apart first second =
    let c = call_of one in
    let d = call_of two in
    let before = step_made old cpu one given middle apart.first first in
    let after = step_made middle other two answered new apart.second second in
    let early = step_agrees old cpu other one two given answered middle sound apart first in
    let between = changed old after.change in
    let earlier = after.again old (AgreeOnMade-sym other d old middle early) in
    let late = step_agrees old other cpu two one answered given between sound (AreMadeApart-sym c d given answered apart) earlier in
    let same : new ≡ changed between before.change =
    after.is_new
    ∙ ap (λ (s : State). changed s after.change) before.is_new
    ∙ changed-exchanged old (works_on c given) (works_on d answered) (own_realm c) (own_realm d) before.change after.change
    before.work.0 after.work.0 apart.granules (realms_apart (own_realm c) (own_realm d) apart.realms) in (
      between,
      earlier,
      subst (λ (s : State). Step between cpu one given s) (sym same) (before.again between late),
    )
