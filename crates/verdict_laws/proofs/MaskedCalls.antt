-- A call leads to the same behind a mask, where it knows what it names, and the REC in which its CPU is.
use Rattle.verdict_laws.proofs.Common.{◌≡◌, ℕ, ◌*◌, ◌||◌, ◌==◌, ◌&&◌, Bool, true, false, not, if◌then◌else◌, IsTrue, List, [], ◌∷◌, inl, inr, Some, None, refl, sym, ◌∙◌, ap, subst, eqb-true, eq-eqb, Result, Ok, Err, is_none, unwrap_or, and_parts, false_from_ne_true, not-true, or_left, or_right, AllByRecursion, Accepted, Call, Refusal, Misplaced, Tag, Undelegated, Delegated, Rd, Rec, is_named, has_rec, has_tag, is_inside, is_vmid_used, no_rec, realm_at, rec_at, rec_inside, runs_on, Needed, decided, IsSound, State, entry_at, reach, answer_of, is_placed, misplacement, outcome, named, words_of, both_ways, behind, tag-has_tag, outcome-leads, inside_runs, rec_there, lent, is_local, unused_tag}
use Rattle.std.specs.Prelude.{◌⊎◌, Contains}
use Rattle.std.proofs.lemmas.List.Elements.{All-contains, All-from_recursion}
use Rattle.rmm_spec.specs.declared.call.Call.TheVariants as call
use Rattle.rmm_spec.specs.declared.condition.Condition.{Condition}
use Rattle.rmm_spec.specs.declared.condition.Condition.TheVariants.{GranState, OwnOutside}
use Rattle.rmm_spec.specs.declared.refusal.Refusal.TheVariants.{Input}
use Rattle.rmm_spec.specs.declared.reply.Reply.TheVariants as reply
use Rattle.rmm_spec.specs.Lookup.{greatest_below}
use Rattle.rmm_spec.specs.Rows.{Row, Word, input_error, inputs, reply_of, tagged}
use Rattle.rmm_spec.specs.Step.{answer_by, commands}
use Rattle.rmm_spec.specs.Step.RealmCall.{answer_to_realm, realm_calls, rec_exit}
use Rattle.rmm_spec.specs.Step.Rec.{rec_enter}
use Rattle.rmm_spec.specs.Step.Ripas.{rtt_set_ripas}
use Rattle.rmm_spec.specs.Step.Terms.{Class, ByHost, ByRealm, ByExit, class_of}
use Rattle.spec_lemmas.proofs.Members.{Contains-from_slice_get, passing_member}
use Rattle.rmm_laws.proofs.Applies.{inside_running}
use Rattle.rmm_laws.proofs.RowLaws.{front-rest}
use Rattle.rmm_laws.proofs.Searches.{none_runs}
use Rattle.verdict_laws.specs.Ending.{is_ending}
use Rattle.verdict_laws.specs.Making.{is_making, own_realm, taken_vmid}
use Rattle.verdict_laws.specs.Separate.{table_realm}
use Rattle.verdict_laws.specs.Slices.{changeable, is_by_host, is_hosts, may_change}
use Rattle.verdict_laws.proofs.EndingCalls.{IsFree, own_named, taken_free}
use Rattle.verdict_laws.proofs.Endings.{AgreeAt, outcome-agree_end}
use Rattle.verdict_laws.proofs.MakingCalls.{own_made, own_table}
use Rattle.verdict_laws.proofs.MakingLooks.{outcome-made}
use Rattle.verdict_laws.proofs.Masks.{masked-grown, vmid-masked}
use Rattle.verdict_laws.proofs.Patches.{is_own}
use Rattle.verdict_laws.proofs.Retags.{outcome-tags, with_tags}
use Rattle.verdict_laws.proofs.SeparateLooks.{named_kept}
use Rattle.verdict_laws.proofs.SliceTerms.{masked}
use Rattle.verdict_laws.proofs.Spared.{RunAlike, is_inside-alike}

-- ---- behind a mask

-- an ending names something that it may change
ending_names : (c : Call) → is_ending c ≡ true → (here : ℕ) × (is_named (named c) here ≡ true) × (may_change c here ≡ true)
unfolding is_ending changeable named
ending_names (call.RecDestroy rec) ends = let is = or_left (rec == rec) false (eq-eqb rec rec refl) in (rec, is, is)
ending_names (call.RealmDestroy rd) ends = let is = or_left (rd == rd) false (eq-eqb rd rd refl) in (rd, is, is)
ending_names _ ends = both_ways ends refl

-- at a live granule the mask changes nothing, where the CPU is inside of a REC behind it as before
live-masked : (live lent : ℕ → Bool) (s : State) (cpu granule : ℕ) → live granule ≡ true
    → is_inside (masked live lent s) cpu ≡ is_inside s cpu → AgreeAt cpu granule s (masked live lent s)
live-masked live lent s cpu granule is inside = record {
  config = refl;
  inside = inside;
  tag = rw is refl;
  realm = rw is refl;
  rec = rw is refl;
  table = λ i level number. if is i then s.table granule level number else None;
  leaf = λ i level number. if is i then s.leaf granule level number else None;
}

-- ---- one REC and its realm

-- the state in which each REC is as this one, and each realm as its owner
abbrev only : State → ℕ → State
only s rec = record s {
  realm = λ _. s.realm (rec_at s rec).owner;
  rec = λ _. s.rec rec;
  table = λ _. s.table (rec_at s rec).owner;
  leaf = λ _. s.leaf (rec_at s rec).owner;
}

-- a realm's call reads no more
answer-only : (s : State) (rec : ℕ) (c : Call) → answer_to_realm (only s rec) rec c ≡ answer_to_realm s rec c
unfolding answer_to_realm realm_calls named realm_at rec_at reach entry_at
answer-only s rec (call.MeasurementRead index) = refl
answer-only s rec _ = refl

-- the REC in which a CPU is, is that in which it was, where the same ones run on it
rec_inside-alike : (s t : State) (cpu : ℕ) → t.config ≡ s.config → RunAlike cpu s t → rec_inside t cpu ≡ rec_inside s cpu
unfolding rec_inside
rec_inside-alike s t cpu same alike = λ i. greatest_below (same i).granules (λ k. alike (k * 4096) i) * 4096

-- ---- what is known

-- A host's call finds its CPU outside of RECs, and another finds it inside of a live one. Each granule that the call names is live, or unused as the
-- mask has it. The VMID that it takes isn't used.
pub record IsKnownTo (live lent : ℕ → Bool) (s : State) (cpu : ℕ) (c : Call) : Type 0 where
  pub outside : is_hosts c ≡ true → is_inside s cpu ≡ false
  pub inside : is_hosts c ≡ false → (is_inside s cpu ≡ true) × (live (rec_inside s cpu) ≡ true)
  pub names : (n : Needed) → Contains (named c) n → (live n.granule ≡ true) ⊎ (s.tag n.granule ≡ unused_tag (lent n.granule))
  pub vmid : (vmid : ℕ) → taken_vmid c ≡ Some vmid → is_vmid_used s vmid ≡ false

-- a realm's granule behind a mask is live
rd_live : (lives lends : Bool) (tag : Tag) → (if lives then tag else unused_tag lends) ≡ Rd → lives ≡ true
rd_live true lends tag is = refl
rd_live false true tag is = absurd (let bad : Delegated ≡ Rd = is in cc)
rd_live false false tag is = absurd (let bad : Undelegated ≡ Rd = is in cc)

module _ (live lent : ℕ → Bool) (s : State) (cpu : ℕ) (c : Call) (sound : IsSound s) (sound_too : IsSound (masked live lent s))
    (known : IsKnownTo live lent s cpu c) where
  -- no REC that isn't live runs on the CPU
  dead_idle : (g : ℕ) → live g ≡ false → runs_on cpu (s.rec g) ≡ false
  dead_idle g dead = by (is_hosts c) refl
    where
      by : (hosts : Bool) → is_hosts c ≡ hosts → runs_on cpu (s.rec g) ≡ false
      by true is = none_runs s cpu sound (known.outside is) g
      by false is =
          let within = known.inside is in
          false_from_ne_true (runs_on cpu (s.rec g)) (λ runs.
          both_ways (ap live (sound.recs.alone g (rec_inside s cpu) cpu runs (inside_runs s cpu within.0)) ∙ within.1) dead)

  -- so the same RECs run on it behind the mask
  runs-masked : RunAlike cpu s (masked live lent s)
  runs-masked g = by (live g) refl
    where
      by : (lives : Bool) → live g ≡ lives → runs_on cpu (if lives then s.rec g else None) ≡ runs_on cpu (s.rec g)
      by true is = refl
      by false is = sym (dead_idle g is)

  -- and it is inside of one as before
  inside-masked : is_inside (masked live lent s) cpu ≡ is_inside s cpu
  inside-masked = is_inside-alike s (masked live lent s) cpu refl runs-masked

  -- a granule that is named and isn't live is unused, as the mask has it
  named_unused : (g : ℕ) → is_named (named c) g ≡ true → live g ≡ false → s.tag g ≡ unused_tag (lent g)
  named_unused g is dead =
      let (place, n, at, same) = passing_member (λ (n : Needed). n.granule == g) (named c) is in
      let here : n.granule ≡ g = eqb-true n.granule g same in
      elim (known.names n (Contains-from_slice_get (named c) place n at)) [
        | inl lives ↦ both_ways (sym (ap live here) ∙ lives) dead
        | inr unused ↦ subst (λ x. s.tag x ≡ unused_tag (lent x)) here unused
      ]

  -- so it is as if it were live
  named-masked : (g : ℕ) → is_named (named c) g ≡ true → AgreeAt cpu g s (masked live lent s)
  named-masked g is =
      let grown = masked-grown live (is_named (named c)) lent s sound named_unused in
      subst (λ (t : State). AgreeAt cpu g s t) grown
      (live-masked (λ g. is_named (named c) g || live g) lent s cpu g (or_left (is_named (named c) g) (live g) is)
      (ap (λ (t : State). is_inside t cpu) grown ∙ inside-masked))

  -- so what is named may have the tags from before the mask
  outcome-named : outcome (masked live lent s) cpu c ≡ outcome (with_tags (masked live lent s) s.tag) cpu c
  outcome-named =
      let t = masked live lent s in sym (outcome-tags t s.tag cpu c (named_kept s t (named c) (λ g is. (named-masked g is).tag)))

  -- the owner of a REC that is there behind the mask is live
  owner-masked : (rec : ℕ) → (masked live lent s).rec rec ≡ s.rec rec → IsTrue (has_tag s rec Rec)
      → AgreeAt cpu (rec_at s rec).owner s (masked live lent s)
  owner-masked rec same has =
      let rd = (rec_at s rec).owner in
      let tag = tag-has_tag (masked live lent s) rd Rd (sound_too.recs.owned rec (rec_at s rec) (same ∙ rec_there s rec sound has)) in
      live-masked live lent s cpu rd (rd_live (live rd) (lent rd) (s.tag rd) tag) inside-masked

  -- so with that realm alone the states are one
  only-masked : (rec : ℕ) → (masked live lent s).rec rec ≡ s.rec rec → IsTrue (has_tag s rec Rec)
      → only (with_tags (masked live lent s) s.tag) rec ≡ only s rec
  unfolding rec_at
  only-masked rec same has =
      let t = masked live lent s in
      let at = owner-masked rec same has in
      let owner : (rec_at t rec).owner ≡ (rec_at s rec).owner = λ i. (unwrap_or (same i) no_rec).owner in
      λ i. record s {
        realm = λ _. (ap t.realm owner ∙ at.realm) i;
        rec = λ _. same i;
        table = λ _. (ap t.table owner ∙ at.table) i;
        leaf = λ _. (ap t.leaf owner ∙ at.leaf) i;
      }

  -- a call inside of a REC is placed as before, and answered so
  answer-inside : (class : Class) → is_by_host class ≡ false → is_hosts c ≡ false
      → (is_placed (with_tags (masked live lent s) s.tag) cpu class ≡ is_placed s cpu class)
      × (answer_by class (with_tags (masked live lent s) s.tag) cpu c ≡ answer_by class s cpu c)
  unfolding named is_inside rec_at rec_exit
  answer-inside class other is = by class other
    where
      t : State
      t = with_tags (masked live lent s) s.tag

      rec : ℕ
      rec = rec_inside s cpu

      -- the same REC runs on the CPU
      same : rec_inside t cpu ≡ rec
      same = rec_inside-alike s t cpu refl runs-masked

      -- whose record is as it was
      here : t.rec rec ≡ s.rec rec
      here = λ i. if (known.inside is).1 i then s.rec rec else None

      -- so is what is read of the CPU's REC
      found : t.rec (rec_inside t cpu) ≡ s.rec rec
      found = ap t.rec same ∙ here

      by : (class : Class) → is_by_host class ≡ false
          → (is_placed t cpu class ≡ is_placed s cpu class) × (answer_by class t cpu c ≡ answer_by class s cpu c)
      by ByHost other = both_ways refl other
      by ByRealm other = (
        λ i. inside-masked i && is_none (unwrap_or (found i) no_rec).pending,
        ap (λ r. answer_to_realm t r c) same ∙ sym (answer-only t rec c)
            ∙ ap (λ (u : State). answer_to_realm u rec c) (only-masked rec here (inside_running s cpu sound (known.inside is).0).tag)
            ∙ answer-only s rec c,
      )
      by ByExit other = (inside-masked, λ i. rec_exit (record s { rec = λ _. found i }) (same i))

  -- so it leads to the same where it isn't a host's
  outcome-inside : is_hosts c ≡ false → outcome (masked live lent s) cpu c ≡ outcome s cpu c
  unfolding outcome answer_of is_inside
  outcome-inside is =
      let same = answer-inside (class_of c) is is in
      outcome-named ∙ (λ i. if same.0 i then same.1 i else Err (Misplaced (misplacement (inside-masked i) (class_of c))))

  -- a REC that is named is entered as before
  enter-masked : (rec : ℕ) → AgreeAt cpu rec s (masked live lent s)
      → rec_enter (with_tags (masked live lent s) s.tag) cpu rec ≡ rec_enter s cpu rec
  unfolding rec_enter words_of named has_tag realm_at rec_at
  enter-masked rec at = by (has_tag s rec Rec) refl
    where
      by : (has : Bool) → has_tag s rec Rec ≡ has → rec_enter (with_tags (masked live lent s) s.tag) cpu rec ≡ rec_enter s cpu rec
      by true has = λ i. rec_enter (only-masked rec at.rec has i) cpu rec
      by false none = rw none refl

-- a host enters a named REC, or sets the RIPAS that one asked for
host-masked : (live lent : ℕ → Bool) (s : State) (cpu : ℕ) (c : Call) → IsSound s → IsSound (masked live lent s) → IsKnownTo live lent s cpu c
    → (not (is_hosts c) || (is_ending c || (is_making c || is_local c))) ≡ false
    → outcome (with_tags (masked live lent s) s.tag) cpu c ≡ outcome s cpu c
unfolding outcome answer_of commands named has_tag is_inside rec_at reach is_ending is_making lent table_realm
host-masked live lent s cpu (call.RecEnter rec) sound sound_too known other =
    let c = call.RecEnter rec in
    let at = named-masked live lent s cpu c sound sound_too known rec (or_left (rec == rec) false (eq-eqb rec rec refl)) in
    λ i. if not (at.inside i) then enter-masked live lent s cpu c sound sound_too known rec at i else Err (Misplaced OwnOutside)
host-masked live lent s cpu (call.RttSetRipas rd rec base top) sound sound_too known other =
    let c = call.RttSetRipas rd rec base top in
    let named_at = named-masked live lent s cpu c sound sound_too known in
    let here = named_at rd (or_left (rd == rd) (rec == rd || false) (eq-eqb rd rd refl)) in
    let at = named_at rec (or_right (rd == rec) (rec == rec || false) (or_left (rec == rec) false (eq-eqb rec rec refl))) in
    λ i.
    if not (at.inside i)
    then rtt_set_ripas (record s { rec = λ _. at.rec i; table = λ _. here.table i; leaf = λ _. here.leaf i }) rd rec base top
    else Err (Misplaced OwnOutside)
host-masked live lent s cpu _ sound sound_too known other = both_ways refl other

-- so it leads to the same, where the realms that it may change have RECs as before
pub outcome-masked : (live lent : ℕ → Bool) (s : State) (cpu : ℕ) (c : Call) → IsSound s → IsSound (masked live lent s)
    → IsKnownTo live lent s cpu c → ((rd : ℕ) → may_change c rd ≡ true → has_rec (masked live lent s) rd ≡ has_rec s rd)
    → outcome (masked live lent s) cpu c ≡ outcome s cpu c
outcome-masked live lent s cpu c sound sound_too known owners = by (not (is_hosts c)) (is_ending c) (is_making c || is_local c) refl refl refl
  where
    t : State
    t = masked live lent s

    at : (g : ℕ) → is_named (named c) g ≡ true → AgreeAt cpu g s t
    at = named-masked live lent s cpu c sound sound_too known

    own : (makes : (is_making c || is_local c) ≡ true) (rd : ℕ) → is_own (own_realm c) rd ≡ true → AgreeAt cpu rd s t
    own makes rd is = at rd (own_named c makes rd is)

    by : (other ends makes : Bool) → not (is_hosts c) ≡ other → is_ending c ≡ ends → (is_making c || is_local c) ≡ makes
        → outcome t cpu c ≡ outcome s cpu c
    by true _ _ other ends makes = outcome-inside live lent s cpu c sound sound_too known (not-true (is_hosts c) other)
    by false true _ host ends makes =
        let (here, is, may) = ending_names c ends in outcome-agree_end s t cpu c here ends is (at here is) (λ frees. owners here may)
    by false false true host ends makes =
        let table : (rd : ℕ) → table_realm c ≡ Some rd → AgreeAt cpu rd s t =
        λ rd is. own makes rd (own_table c rd ((λ i. is_own (is i) rd) ∙ eq-eqb rd rd refl)) in
        outcome-made s t cpu c makes (record {
          on = record {
            config = refl;
            inside = inside-masked live lent s cpu c sound sound_too known;
            tag = λ g is. (at g is).tag;
            realm = λ rd is. (table rd is).realm;
            table = λ rd is. (table rd is).table;
            leaf = λ rd is. (table rd is).leaf;
          };
          realm = λ rd is. (own makes rd ((λ i. is_own (own_made c rd is i) rd) ∙ eq-eqb rd rd refl)).realm;
          vmid = λ vmid is. vmid-masked live lent s vmid sound (known.vmid vmid is);
        })
    by false false false host ends makes =
        outcome-named live lent s cpu c sound sound_too known
        ∙ host-masked live lent s cpu c sound sound_too known (λ i. host i || (ends i || makes i))

-- ---- by the rows

-- a call that isn't misplaced is placed, and leads to what is answered there
outcome-answer : (s : State) (cpu : ℕ) (c : Call) (found : Result Accepted Refusal) → outcome s cpu c ≡ found
    → ((condition : Condition) → ¬ (found ≡ Err (Misplaced condition))) → (is_placed s cpu (class_of c) ≡ true) × (answer_of s cpu c ≡ found)
unfolding outcome
outcome-answer s cpu c found is other = by (is_placed s cpu (class_of c)) is
  where
    by : (placed : Bool) → (if placed then answer_of s cpu c else Err (Misplaced (misplacement (is_inside s cpu) (class_of c)))) ≡ found
        → (placed ≡ true) × (answer_of s cpu c ≡ found)
    by true is = (refl, is)
    by false is = absurd (other (misplacement (is_inside s cpu) (class_of c)) (sym is))

-- a call refused for what it finds isn't misplaced
outcome-refused : (s : State) (cpu : ℕ) (c : Call) (refused : Refusal) (status index : ℕ) → outcome s cpu c ≡ Err refused
    → reply_of refused ≡ reply.Err status index → (is_placed s cpu (class_of c) ≡ true) × (answer_of s cpu c ≡ Err refused)
outcome-refused s cpu c refused status index is given = outcome-answer s cpu c (Err refused) is (λ condition same.
    let one : refused ≡ Misplaced condition = cc in
    let bad : reply.Misplaced ≡ reply.Err status index = sym (ap reply_of one) ∙ given in cc)

-- the CPU of a call that is placed is inside of a REC just where the call isn't a host's
placed_inside : (s : State) (cpu : ℕ) (class : Class) → is_placed s cpu class ≡ true
    → (is_by_host class ≡ true → is_inside s cpu ≡ false) × (is_by_host class ≡ false → is_inside s cpu ≡ true)
placed_inside s cpu ByHost placed = (λ host. not-true (is_inside s cpu) placed, λ other. both_ways refl other)
placed_inside s cpu ByRealm placed =
    (λ host. both_ways host refl, λ other. (and_parts (is_inside s cpu) (is_none (rec_at s (rec_inside s cpu)).pending) placed).0)
placed_inside s cpu ByExit placed = (λ host. both_ways host refl, λ other. placed)

-- where each granule that is named has its tag by the rows, it has it
named_tags : (s : State) (c : Call) → AllByRecursion (λ (n : Needed). IsTrue (has_tag s n.granule n.tag)) (named c)
    → (n : Needed) → Contains (named c) n → s.tag n.granule ≡ n.tag
named_tags s c hold n has = tag-has_tag s n.granule n.tag
    (All-contains (λ (m : Needed). IsTrue (has_tag s m.granule m.tag)) (named c) n
    (All-from_recursion (λ (m : Needed). IsTrue (has_tag s m.granule m.tag)) (named c) hold) has)

-- What is known of a call that is accepted: a host's found its CPU outside of RECs, and another inside of one.
pub record IsFound (s : State) (cpu : ℕ) (c : Call) : Type 0 where
  pub outside : is_hosts c ≡ true → is_inside s cpu ≡ false
  pub inside : is_hosts c ≡ false → is_inside s cpu ≡ true
  pub tags : (n : Needed) → Contains (named c) n → s.tag n.granule ≡ n.tag
  pub vmid : (vmid : ℕ) → taken_vmid c ≡ Some vmid → is_vmid_used s vmid ≡ false

-- so it is by its rows
pub outcome-found : (s : State) (cpu : ℕ) (c : Call) (accepted : Accepted) → outcome s cpu c ≡ Ok accepted → IsFound s cpu c
outcome-found s cpu c accepted is =
    let leads = outcome-leads s cpu c (Ok accepted) is in
    let hold = front-rest s c (behind s cpu c).0 leads.0 in
    let placed = outcome-answer s cpu c (Ok accepted) is (λ condition same. cc) in
    let where_given = placed_inside s cpu (class_of c) placed.0 in
    record {
      outside = where_given.0;
      inside = where_given.1;
      tags = named_tags s c hold.1;
      vmid = λ vmid takes. subst (IsFree s) takes (taken_free s cpu c hold.2);
    }

-- where a call is refused for what it finds, its CPU is where the call is given
pub refused_placed : (s : State) (cpu : ℕ) (c : Call) (refused : Refusal) (status index : ℕ)
    → outcome s cpu c ≡ Err refused → reply_of refused ≡ reply.Err status index
    → (is_hosts c ≡ true → is_inside s cpu ≡ false) × (is_hosts c ≡ false → is_inside s cpu ≡ true)
refused_placed s cpu c refused status index is given =
    placed_inside s cpu (class_of c) (outcome-refused s cpu c refused status index is given).0

-- ---- by another row than those in front

-- a row in front refuses by the input error, so before another refusal it holds
front_row : (condition : Condition) (holds : Bool) (later : Result Accepted Refusal) (refused : Refusal) → ¬ (reply_of refused ≡ input_error)
    → (if holds then later else Err (Input condition)) ≡ Err refused → IsTrue holds × (later ≡ Err refused)
front_row condition true later refused other is = (refl, is)
front_row condition false later refused other is =
    absurd (other (let same : Err (Input condition) ≡ Err refused = is in let one : Input condition ≡ refused = cc in sym (ap reply_of one)))

-- so the rows on words hold, and the refusal is that of the rows behind them
inputs_passed : (tests : List Word) (rows : List Row) (accepted : Accepted) (refused : Refusal) → ¬ (reply_of refused ≡ input_error)
    → decided (inputs tests rows) accepted ≡ Err refused → decided rows accepted ≡ Err refused
inputs_passed [] rows accepted refused other is = is
inputs_passed (test ∷ tests) rows accepted refused other is =
    let first = front_row test.condition test.allowed (decided (inputs tests rows) accepted) refused other is in
    inputs_passed tests rows accepted refused other first.1

-- and the rows on granules hold
tagged_passed : (s : State) (needs : List Needed) (rows : List Row) (accepted : Accepted) (refused : Refusal) → ¬ (reply_of refused ≡ input_error)
    → decided (tagged s needs rows) accepted ≡ Err refused → AllByRecursion (λ (n : Needed). IsTrue (has_tag s n.granule n.tag)) needs
tagged_passed s [] rows accepted refused other is = tt
tagged_passed s (need ∷ needs) rows accepted refused other is =
    let first = front_row GranState (has_tag s need.granule need.tag) (decided (tagged s needs rows) accepted) refused other is in
    (first.0, tagged_passed s needs rows accepted refused other first.1)

-- where a call is refused with another status than 1, each granule that it names has its tag
pub refused_named : (s : State) (cpu : ℕ) (c : Call) (refused : Refusal) (status index : ℕ)
    → outcome s cpu c ≡ Err refused → reply_of refused ≡ reply.Err status index → (status == 1) ≡ false
    → (n : Needed) → Contains (named c) n → s.tag n.granule ≡ n.tag
refused_named s cpu c refused status index is given other =
    let rest = behind s cpu c in
    let not_input : ¬ (reply_of refused ≡ input_error) = λ input.
    let same : reply.Err status index ≡ reply.Err 1 0 = sym given ∙ input in
    let one : status ≡ 1 = cc in both_ways (eq-eqb status 1 one) other in
    named_tags s c (tagged_passed s (named c) rest.0 rest.1 refused not_input
    (inputs_passed (words_of c) (tagged s (named c) rest.0) rest.1 refused not_input
    (sym rest.2 ∙ (outcome-refused s cpu c refused status index is given).1)))
