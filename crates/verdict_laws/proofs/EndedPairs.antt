-- Two calls that end RECs or realms come the other way round, where both are carried out and neither names what the other gives back.
use Rattle.verdict_laws.proofs.Common.{◌≡◌, ℕ, Bool, true, false, ◌||◌, List, [], ◌∷◌, inl, inr, refl, sym, ◌∙◌, ap, subst, Result, Ok, Err, AllByRecursion, false_from_ne_true, or_cases, or_right, or_left, Accepted, Done, Change, Unchanged, Command, Refusal, Reply, call_of, changed, State, IsSound, is_named, has_rec, is_accepted, named, CarriesOut, Step, outcome, both_ways, is_part, is_local}
use Rattle.rmm_spec.specs.Rows.{done}
use Rattle.rmm_laws.proofs.Runs.{step_sound}
use Rattle.verdict_laws.specs.Ending.{EndsLater, NamesNoPart, frees_vmid, is_ending}
use Rattle.verdict_laws.specs.Making.{is_making}
use Rattle.verdict_laws.proofs.Endings.{AgreeAt, EndsAs, IsEnding, ended, ends_as, outcome-agree_end, parts_of}
use Rattle.verdict_laws.proofs.EndedCalls.{work_first}
use Rattle.verdict_laws.proofs.Lending.{refused_undone}
use Rattle.verdict_laws.proofs.Patches.{AreDisjoint, patched-swapped, put-swapped}
use Rattle.verdict_laws.proofs.SeparateLooks.{with_recs}

-- the change of what is accepted
abbrev change_of : Result Accepted Refusal → Change
change_of (Ok (Done words change)) = change
change_of _ = Unchanged

-- what an ending puts leaves what another reads
AgreeAt-ended : (mine own : ℕ → Bool) (s : State) (cpu here : ℕ) (change : Change) (ending : IsEnding mine own s cpu change)
    → mine here ≡ true → own here ≡ true → AgreeAt cpu here s (ended s ending.patch ending.rec)
AgreeAt-ended mine own s cpu here changes ending is is_own =
    let apart = ending.apart here is in
    let other = ending.others here is_own in
    record {
      config = refl;
      inside = ending.inside;
      tag = ending.within.tag here apart (s.tag here);
      realm = ending.within.realm here other (s.realm here);
      rec = ending.keeps here apart (s.rec here);
      table = ending.within.table here other (s.table here);
      leaf = ending.within.leaf here other (s.leaf here);
    }

-- an ending that is carried out is accepted
ends_where : (s new : State) (cpu : ℕ) (command : Command) (given : Reply) → IsSound s → is_accepted given ≡ true → is_ending (call_of command) ≡ true
    → Step s cpu command given new → EndsAs s cpu (call_of command)
ends_where s new cpu command given sound accepted ends step = by (outcome s cpu (call_of command)) refl step
  where
    by : (found : Result Accepted Refusal) → outcome s cpu (call_of command) ≡ found → CarriesOut found s given new → EndsAs s cpu (call_of command)
    by (Err refused) is carried = refused_undone s new given refused accepted carried
    by (Ok found) is carried = ends_as s cpu (call_of command) found sound ends is

module _ (old middle new : State) (cpu other : ℕ) (one two : Command) (given answered : Reply) (sound : IsSound old)
    (later : EndsLater (call_of one) (call_of two)) (ends : is_ending (call_of two) ≡ true) (whole : NamesNoPart old (call_of two))
    (accepted : is_accepted given ≡ true) (accepted_too : is_accepted answered ≡ true)
    (first : Step old cpu one given middle) (second : Step middle other two answered new) where
  first_end : EndsAs old cpu (call_of one)
  first_end = ends_where old middle cpu one given sound accepted later.ends first

  second_end : EndsAs middle other (call_of two)
  second_end = ends_where middle new other two answered (step_sound old cpu one given middle sound first) accepted_too ends second

  -- what is named by the second call
  abbrev yours : ℕ → Bool
  yours = is_named (named (call_of two))

  -- neither names what the other does
  others : yours first_end.here ≡ false
  others = false_from_ne_true (yours first_end.here) (λ is. both_ways first_end.names (later.apart first_end.here is))

  -- nor a part
  parts_unnamed : (parts : List ℕ) → AllByRecursion (λ (g : ℕ). is_part (old.tag g) ≡ true) parts → AllByRecursion (λ (g : ℕ). yours g ≡ false) parts
  parts_unnamed [] all = tt
  parts_unnamed (g ∷ parts) all = (false_from_ne_true (yours g) (λ is. both_ways all.0 (whole g is)), parts_unnamed parts all.1)

  -- so what the first puts is apart from what the second names
  first_put : IsEnding yours yours old other first_end.change
  first_put = first_end.ending yours yours other others others (parts_unnamed (parts_of first_end.change) first_end.parts)

  first_carried : CarriesOut (Ok (done [] first_end.change)) old given middle
  first_carried = subst (λ (r : Result Accepted Refusal). CarriesOut r old given middle) first_end.does first

  second_carried : CarriesOut (Ok (done [] second_end.change)) middle answered new
  second_carried = subst (λ (r : Result Accepted Refusal). CarriesOut r middle answered new) second_end.does second

  is_middle : middle ≡ ended old first_put.patch first_put.rec
  is_middle = first_carried.1 ∙ first_put.is_put old

  -- and the second leads to the same before it
  same_before : outcome old other (call_of two) ≡ Ok (done [] second_end.change)
  same_before =
      let left = ended old first_put.patch first_put.rec in
      let owns : frees_vmid (call_of two) ≡ true → has_rec left second_end.here ≡ has_rec old second_end.here =
      λ realm. ap (λ (s : State). has_rec s second_end.here) (sym (first_put.is_put old)) ∙ first_end.owners (later.realms realm) second_end.here in
      sym (outcome-agree_end old left other (call_of two) second_end.here ends second_end.names
      (AgreeAt-ended yours yours old other second_end.here first_end.change first_put second_end.names second_end.names) owns)
      ∙ ap (λ (s : State). outcome s other (call_of two)) (sym is_middle) ∙ second_end.does

  second_there : EndsAs old other (call_of two)
  second_there = ends_as old other (call_of two) (done [] second_end.change) sound ends same_before

  same_change : second_there.change ≡ second_end.change
  same_change = ap change_of (sym second_there.does ∙ same_before)

  -- what the first puts or names
  abbrev mine : ℕ → Bool
  mine g = first_put.granules g || is_named (named (call_of one)) g

  abbrev own : ℕ → Bool
  own rd = first_put.realms rd || is_named (named (call_of one)) rd

  -- no part that the second gives back is of that
  parts_apart : (parts : List ℕ) → AllByRecursion (λ (g : ℕ). is_part (old.tag g) ≡ true) parts
      → AllByRecursion (λ (g : ℕ). is_part (middle.tag g) ≡ true) parts → AllByRecursion (λ (g : ℕ). mine g ≡ false) parts
  parts_apart [] all still = tt
  parts_apart (g ∷ parts) all still =
      let unput : first_put.granules g ≡ false =
      false_from_ne_true (first_put.granules g) (λ is. both_ways still.0
      (ap is_part (ap (λ (s : State). s.tag g) is_middle ∙ first_put.waits g (old.tag g) is))) in
      let unnamed : is_named (named (call_of one)) g ≡ false =
      false_from_ne_true (is_named (named (call_of one)) g)
      (λ is. both_ways all.0 (ap (λ (n : ℕ). is_part (old.tag n)) (first_end.only g is) ∙ first_end.whole)) in
      ((λ i. unput i || unnamed i), parts_apart parts all.1 still.1)

  -- so what the second puts is apart from that
  second_put : IsEnding mine own old cpu second_there.change
  second_put =
      let here = second_there.here in
      let unnamed = later.apart here second_there.names in
      second_there.ending mine own cpu (λ i. first_put.apart here second_there.names i || unnamed i)
      (λ i. first_put.others here second_there.names i || unnamed i)
      (parts_apart (parts_of second_there.change) second_there.parts
      (subst (λ (c : Change). AllByRecursion (λ (g : ℕ). is_part (middle.tag g) ≡ true) (parts_of c)) (sym same_change) second_end.parts))

  abbrev between : State
  between = changed old second_there.change

  -- and the first leads to the same behind it
  same_behind : outcome between cpu (call_of one) ≡ Ok (done [] first_end.change)
  same_behind =
      let here = first_end.here in
      let left = ended old second_put.patch second_put.rec in
      let owns : frees_vmid (call_of one) ≡ true → has_rec left here ≡ has_rec old here =
      λ realm. ap (λ (s : State). has_rec s here) (sym (second_put.is_put old)) ∙ second_there.fewer here (first_end.unowned realm) in
      ap (λ (s : State). outcome s cpu (call_of one)) (second_put.is_put old)
      ∙ outcome-agree_end old left cpu (call_of one) here later.ends first_end.names
      (AgreeAt-ended mine own old cpu here second_there.change second_put
      (or_right (first_put.granules here) (is_named (named (call_of one)) here) first_end.names)
      (or_right (first_put.realms here) (is_named (named (call_of one)) here) first_end.names)) owns
      ∙ first_end.does

  -- to the same state
  is_new : new ≡ changed between first_end.change
  is_new =
      let p = first_put in
      let q = second_put in
      let apart : AreDisjoint p.granules q.granules =
      λ g is. q.apart g (or_left (p.granules g) (is_named (named (call_of one)) g) is) in
      let realms : AreDisjoint p.realms q.realms =
      λ rd is. q.others rd (or_left (p.realms rd) (is_named (named (call_of one)) rd) is) in
      second_carried.1 ∙ ap (changed middle) (sym same_change) ∙ q.is_put middle ∙ ap (λ (s : State). ended s q.patch q.rec) is_middle
      ∙ (λ i. with_recs (patched-swapped old p.granules q.granules p.realms q.realms p.patch q.patch p.within q.within apart realms i)
      (λ g. put-swapped p.granules q.granules p.rec q.rec p.keeps q.keeps apart g (old.rec g) i))
      ∙ sym (p.is_put (ended old q.patch q.rec)) ∙ ap (λ (s : State). changed s first_end.change) (sym (q.is_put old))

  -- both come the other way round
  end_first : (b : State) × Step old other two answered b × Step b cpu one given new
  end_first = (
    between,
    subst (λ (r : Result Accepted Refusal). CarriesOut r old answered between) (sym second_there.does) (second_carried.0, refl),
    subst (λ (s : State). Step between cpu one given s) (sym is_new)
        (subst (λ (r : Result Accepted Refusal). CarriesOut r between given (changed between first_end.change)) (sym same_behind)
        (first_carried.0, refl)),
  )

-- a call that ends something comes behind one that makes something, is local or ends something too
pub ended_turned : (old middle new : State) (cpu other : ℕ) (one two : Command) (given answered : Reply) → IsSound old
    → EndsLater (call_of one) (call_of two) → NamesNoPart old (call_of two) → is_accepted given ≡ true → is_accepted answered ≡ true
    → Step old cpu one given middle → Step middle other two answered new
    → (between : State) × Step old other two answered between × Step between cpu one given new
ended_turned old middle new cpu other one two given answered sound later whole accepted accepted_too first second =
    elim (or_cases (is_ending (call_of two)) (is_making (call_of two) || is_local (call_of two)) later.works) [
      | inl ends ↦ end_first old middle new cpu other one two given answered sound later ends whole accepted accepted_too first second
      | inr works ↦ work_first old middle new cpu other one two given answered sound later works whole accepted accepted_too second first
    ]
