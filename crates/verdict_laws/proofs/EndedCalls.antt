-- A call that makes something or is local comes before one that ends a REC or a realm, where both are carried out and it names no part of anything.
use Rattle.verdict_laws.proofs.Common.{◌≡◌, ℕ, ◌+◌, ◌==◌, true, false, ◌||◌, [], Some, inr, refl, sym, ◌∙◌, ap, subst, arith, eq-eqb, Result, Ok, Err, false_from_ne_true, or_left, Accepted, Done, Reaches, Call, Change, RealmDestroyed, RecDestroyed, Command, Refusal, Reply, Delegated, Rd, Rec, call_of, CanApply, changed, State, IsSound, is_named, is_vmid_used, realm_at, rec_at, is_accepted, reached_change, named, CarriesOut, Step, outcome, both_ways, is_part, is_local}
use Rattle.std.specs.Prelude.{slice_index_or}
use Rattle.rmm_spec.specs.declared.call.Call.TheVariants as call
use Rattle.rmm_spec.specs.declared.reply.Reply.TheVariants as reply
use Rattle.rmm_spec.specs.Rows.{done}
use Rattle.verdict_laws.specs.Ending.{EndsApart, EndsLater, NamesNoPart, frees_vmid, is_ending}
use Rattle.verdict_laws.specs.Making.{is_making, own_realm, taken_vmid}
use Rattle.verdict_laws.specs.Separate.{works_on}
use Rattle.verdict_laws.proofs.Endings.{AgreeAt, IsEnding, ended, outcome-agree_realm, outcome-agree_rec, realm_ending, realm_ends, rec_ending, rec_ending-vmid, rec_ends}
use Rattle.verdict_laws.proofs.EndingCalls.{AgreeAt-made, ending_turned, has_rec-made, own_named, unworked, work_of}
use Rattle.verdict_laws.proofs.Lending.{refused_undone}
use Rattle.verdict_laws.proofs.MakingCalls.{IsMadeIn, changed-made, made, own_made, own_table, step_made}
use Rattle.verdict_laws.proofs.MakingLooks.{AgreeOnMade, AgreeOnMade-sym}
use Rattle.verdict_laws.proofs.Patches.{is_own}
use Rattle.verdict_laws.proofs.SeparateCalls.{AgreeOn-patched}
use Rattle.verdict_laws.proofs.SparedCalls.{step_leaves}

-- the first word of a reply
abbrev first_word : Reply → ℕ
first_word (reply.Ok words) = slice_index_or words.items 0 0
first_word _ = 0

-- what is carried out with one reply leads to one state
carried_once : (s one two : State) (given : Reply) (found : Result Accepted Refusal) → CarriesOut found s given one → CarriesOut found s given two
    → one ≡ two
carried_once s one two given (Err refused) first second = first.1 ∙ sym second.1
carried_once s one two given (Ok (Done words change)) first second = first.1 ∙ sym second.1
carried_once s one two given (Ok (Reaches stretch)) first second =
    let same : first.0 ≡ second.0 = ap first_word (sym first.1.1 ∙ second.1.1) in
    first.1.2 ∙ (λ i. changed s (reached_change stretch (same i))) ∙ sym second.1.2

module _ (old middle new : State) (cpu other : ℕ) (one two : Command) (given answered : Reply) (sound : IsSound old)
    (later : EndsLater (call_of one) (call_of two)) (works : (is_making (call_of two) || is_local (call_of two)) ≡ true)
    (whole : NamesNoPart old (call_of two)) (accepted : is_accepted given ≡ true)
    (accepted_too : is_accepted answered ≡ true) (second : Step middle other two answered new) where
  -- both come the other way round
  abbrev Turned : Type 0
  Turned = (between : State) × Step old other two answered between × Step between cpu one given new

  -- the call doesn't name what is a part
  part_unnamed : (granule : ℕ) → is_part (old.tag granule) ≡ true → is_named (named (call_of two)) granule ≡ false
  part_unnamed granule part =
      false_from_ne_true (is_named (named (call_of two)) granule) (λ is. both_ways part (whole granule is))

  -- its own realm is another than what it doesn't name
  elsewhere : (granule : ℕ) → is_named (named (call_of two)) granule ≡ false → is_own (own_realm (call_of two)) granule ≡ false
  elsewhere granule unnamed =
      false_from_ne_true (is_own (own_realm (call_of two)) granule)
      (λ is. both_ways (own_named (call_of two) works granule is) unnamed)

  -- what is ended is left by what the call makes, since it gives back parts alone
  agree_at : (granule : ℕ) → is_part (old.tag granule) ≡ false → ¬ (old.tag granule ≡ Delegated) → is_named (named (call_of two)) granule ≡ false
      → (between : State) → Step old other two answered between → (making : Change) → CanApply old making
      → IsMadeIn (works_on (call_of two) answered) (own_realm (call_of two)) making → AgreeAt cpu granule old (made old making)
  agree_at granule part used unnamed between earlier making can is_made =
      let c = call_of two in
      let left =
      step_leaves old granule (other + 1) other sound (λ same. omega (arith, same)) two answered between unnamed (inr part) earlier in
      let work = work_of old between other two answered works accepted_too earlier in
      AgreeAt-made old cpu (works_on c answered) (own_realm c) making sound can is_made granule
      (unworked old between c answered work granule unnamed (λ waits. used (sym left.tag ∙ waits))) (elsewhere granule unnamed)

  -- where what the ending puts is apart, the call is carried out before it and leaves what it reads
  change_turned : (change : Change) (ending : IsEnding (is_named (named (call_of two))) (is_own (own_realm (call_of two))) old other change)
      → outcome old cpu (call_of one) ≡ Ok (done [] change) → CarriesOut (Ok (done [] change)) old given middle
      → ((vmid : ℕ) → taken_vmid (call_of two) ≡ Some vmid
      → is_vmid_used (ended old ending.patch ending.rec) vmid ≡ is_vmid_used old vmid)
      → ((between : State) → Step old other two answered between → (making : Change) → CanApply old making
      → IsMadeIn (works_on (call_of two) answered) (own_realm (call_of two)) making
      → outcome (made old making) cpu (call_of one) ≡ outcome old cpu (call_of one))
      → Turned
  change_turned change ending is carried untaken still =
      let c = call_of two in
      let after = ended old ending.patch ending.rec in
      let agree = AgreeOn-patched old other c ending.granules ending.realms ending.patch ending.within ending.apart
      (λ rd hit. ending.others rd (own_table c rd hit)) in
      let agrees : AgreeOnMade other c old after = record {
        on = record {
          config = refl;
          inside = ending.inside;
          tag = agree.tag;
          realm = agree.realm;
          table = agree.table;
          leaf = agree.leaf;
        };
        realm = λ rd here.
            ending.within.realm rd (ending.others rd ((λ i. is_own (own_made c rd here i) rd) ∙ eq-eqb rd rd refl)) (old.realm rd);
        vmid = untaken;
      } in
      let done_after = step_made after other two answered new works
      (subst (λ (s : State). Step s other two answered new) (carried.1 ∙ ending.is_put old) second) in
      let between = changed old done_after.change in
      let earlier : Step old other two answered between = done_after.again old (AgreeOnMade-sym other c old after agrees) in
      let first = step_made old other two answered between works earlier in
      let made_first = made old first.change in
      let is_between : between ≡ made_first =
      first.is_new ∙ changed-made old (works_on c answered) (own_realm c) first.change first.work.0 in
      let last = changed made_first change in
      let late : Step made_first cpu one given last =
      subst (λ (r : Result Accepted Refusal). CarriesOut r made_first given last)
      (sym (still between earlier first.change (first.applies sound) first.work.0 ∙ is)) (carried.0, refl) in
      let late_too : Step between cpu one given last = subst (λ (s : State). Step s cpu one given last) (sym is_between) late in
      let apart : EndsApart c (call_of one) = record { works = works; ends = later.ends; apart = later.apart } in
      let parts = ending_turned old between last other cpu two one answered given sound apart accepted_too accepted earlier late_too in
      let same : parts.0 ≡ middle =
      carried_once old parts.0 middle given (outcome old cpu (call_of one)) parts.1
      (subst (λ (r : Result Accepted Refusal). CarriesOut r old given middle) (sym is) carried) in
      let is_new : last ≡ new =
      carried_once middle last new answered (outcome middle other c)
      (subst (λ (s : State). Step s other two answered last) same parts.2) second in
      (between, earlier, subst (λ (s : State). Step between cpu one given s) is_new late_too)

  -- the end of a REC
  rec_turned : (rec : ℕ) → call_of one ≡ call.RecDestroy rec → (found : Result Accepted Refusal) → outcome old cpu (call_of one) ≡ found
      → CarriesOut found old given middle → Turned
  unfolding named
  rec_turned rec is_call (Err refused) is carried = refused_undone old middle given refused accepted carried
  rec_turned rec is_call (Ok found) is carried =
      let c = call_of two in
      let ends = rec_ends old cpu rec found sound (sym (ap (outcome old cpu) is_call) ∙ is) in
      let here = rec_at old rec in
      let unnamed : is_named (named c) rec ≡ false =
      false_from_ne_true (is_named (named c) rec) (λ is_here. both_ways (or_left (rec == rec) false (eq-eqb rec rec refl))
      (sym (ap (λ (d : Call). is_named (named d) rec) is_call) ∙ later.apart rec is_here)) in
      let free0 = part_unnamed here.aux0 (ap is_part ends.aux0) in
      let free1 = part_unnamed here.aux1 (ap is_part ends.aux1) in
      change_turned (RecDestroyed rec here.aux0 here.aux1)
      (rec_ending (is_named (named c)) (is_own (own_realm c)) old other rec here.aux0 here.aux1 unnamed free0 free1 ends.idle)
      (is ∙ ap Ok ends.does) (subst (λ (a : Accepted). CarriesOut (Ok a) old given middle) ends.does carried)
      (λ vmid _. rec_ending-vmid (is_named (named c)) (is_own (own_realm c)) old other rec here.aux0 here.aux1 unnamed free0 free1 ends.idle vmid)
      (λ between earlier making can is_made.
      ap (outcome (made old making) cpu) is_call
      ∙ outcome-agree_rec old (made old making) cpu rec
      (agree_at rec (ap is_part ends.tag) (λ waits. let bad : Rec ≡ Delegated = sym ends.tag ∙ waits in cc) unnamed between earlier making can
      is_made)
      ∙ sym (ap (outcome old cpu) is_call))

  -- the end of a realm
  realm_turned : (rd : ℕ) → call_of one ≡ call.RealmDestroy rd → (found : Result Accepted Refusal) → outcome old cpu (call_of one) ≡ found
      → CarriesOut found old given middle → Turned
  unfolding named frees_vmid
  realm_turned rd is_call (Err refused) is carried = refused_undone old middle given refused accepted carried
  realm_turned rd is_call (Ok found) is carried =
      let c = call_of two in
      let ends = realm_ends old cpu rd found sound (sym (ap (outcome old cpu) is_call) ∙ is) in
      let root = (realm_at old rd).root in
      let unnamed : is_named (named c) rd ≡ false =
      false_from_ne_true (is_named (named c) rd) (λ is_here. both_ways (or_left (rd == rd) false (eq-eqb rd rd refl))
      (sym (ap (λ (d : Call). is_named (named d) rd) is_call) ∙ later.apart rd is_here)) in
      change_turned (RealmDestroyed rd root)
      (realm_ending (is_named (named c)) (is_own (own_realm c)) old other rd root unnamed (part_unnamed root (ap is_part ends.root))
      (elsewhere rd unnamed))
      (is ∙ ap Ok ends.does) (subst (λ (a : Accepted). CarriesOut (Ok a) old given middle) ends.does carried)
      (λ vmid takes. both_ways refl (sym (ap frees_vmid is_call) ∙ later.vmids vmid takes))
      (λ between earlier making can is_made.
      ap (outcome (made old making) cpu) is_call
      ∙ outcome-agree_realm old (made old making) cpu rd
      (agree_at rd (ap is_part ends.tag) (λ waits. let bad : Rd ≡ Delegated = sym ends.tag ∙ waits in cc) unnamed between earlier making can is_made)
      (has_rec-made old (works_on c answered) (own_realm c) making sound can is_made rd (elsewhere rd unnamed))
      ∙ sym (ap (outcome old cpu) is_call))

  -- so each ending
  ended_by : (d : Call) → call_of one ≡ d → is_ending d ≡ true → Step old cpu one given middle → Turned
  unfolding is_ending
  ended_by (call.RecDestroy rec) is_call ends first = rec_turned rec is_call (outcome old cpu (call_of one)) refl first
  ended_by (call.RealmDestroy rd) is_call ends first = realm_turned rd is_call (outcome old cpu (call_of one)) refl first
  ended_by _ is_call ends first = both_ways ends refl

  -- so the call comes first
  pub work_first : Step old cpu one given middle → (between : State) × Step old other two answered between × Step between cpu one given new
  work_first first = ended_by (call_of one) refl later.ends first
