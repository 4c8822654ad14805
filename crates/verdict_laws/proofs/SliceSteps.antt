-- A step of a call on what is live is one behind the mask too, and one of a call on other things alone isn't seen there.
use Rattle.verdict_laws.proofs.Common.{◌≡◌, ℕ, ◌+◌, ◌==◌, ◌||◌, Bool, true, false, List, [], ◌∷◌, inl, inr, if◌then◌else◌, refl, sym, ◌∙◌, ap, subst, eqb-true, Ok, Err, Result, is_none, and_parts, not-true, or_left, or_right, none-some, Accepted, Done, Reaches, Call, Change, Command, Entry, Refusal, Reply, Undelegated, Delegated, Rd, CanApply, call_of, class_of, changed, is_named, has_rec, is_inside, rec_at, rec_inside, is_accepted, Needed, IsSound, State, CarriesOut, Step, is_placed, outcome, IsReached, reached_change, named, entry_at, entry_number, both_ways, step-refuses, is_part, unused_tag}
use Rattle.std.specs.Prelude.{◌⊎◌, Contains, IsTrue}
use Rattle.rmm_spec.specs.declared.accepted.Stretch.{Stretch}
use Rattle.rmm_spec.specs.declared.accepted.StretchUse.{StretchUse}
use Rattle.rmm_spec.specs.declared.accepted.StretchUse.TheVariants.{Init, Requested}
use Rattle.rmm_spec.specs.declared.call.Call.TheVariants as call
use Rattle.rmm_spec.specs.declared.reply.Reply.TheVariants as reply
use Rattle.rmm_spec.specs.Call.{Class, ByHost, ByRealm, ByExit}
use Rattle.rmm_spec.specs.Rows.{reply_of}
use Rattle.rmm_spec.specs.Step.Ripas.{can_be_set, stretch_change}
use Rattle.rmm_spec.specs.Step.Terms.{needed}
use Rattle.spec_lemmas.proofs.Members.{each_of_two}
use Rattle.rmm_laws.proofs.CommandFacts.{Tells, outcome-tells}
use Rattle.rmm_laws.proofs.RowLaws.{refusal-refuses}
use Rattle.rmm_laws.proofs.Runs.{done_applies, reached_applies}
use Rattle.verdict_laws.specs.Looking.{is_looking}
use Rattle.verdict_laws.specs.Slices.{IsKeptReply, changeable, inside_after, is_by_host, is_hosts, is_inside_after, may_change, shows_names}
use Rattle.verdict_laws.proofs.Entered.{IsMoveBy, RunAsEntered, RunAsEntered-grown, RunAsEntered-kept, RunAsEntered-left, RunAsEntered-stays, inside_both, inside_live, inside_outside, outcome-moves, placed_accepted}
use Rattle.verdict_laws.proofs.Looked.{looks-keep}
use Rattle.verdict_laws.proofs.MaskedCalls.{IsKnownTo, outcome-found, outcome-masked, refused_named, refused_placed}
use Rattle.verdict_laws.proofs.Masks.{changed-masked, has_rec-masked, masked-changed, masked-grown}
use Rattle.verdict_laws.proofs.SliceOwners.{HaveLiveRecs, HaveLiveRecs-changed, HaveLiveRecs-grown, rec_replaced}
use Rattle.verdict_laws.proofs.SliceTerms.{IsOf, masked, touched, touched_by}
use Rattle.verdict_laws.proofs.Touched.{ArePartsOutside, IsPut-inside, IsPut-outside, outcome-touches}
use Rattle.lemmas.proofs.Members.{Contains-head, Contains-tail}

-- ---- names

-- a granule that is named is one that is needed
needed_of : (names : List Needed) (g : ℕ) → is_named names g ≡ true → (n : Needed) × Contains names n × (n.granule ≡ g)
needed_of [] g is = both_ways is refl
needed_of (n ∷ names) g is = by (n.granule == g) refl is (needed_of names g)
  where
    by : (here : Bool) → (n.granule == g) ≡ here → (here || is_named names g) ≡ true
        → (is_named names g ≡ true → (m : Needed) × Contains names m × (m.granule ≡ g)) → (m : Needed) × Contains (n ∷ names) m × (m.granule ≡ g)
    by true here is later = (n, Contains-head n names, eqb-true n.granule g here)
    by false apart is later = let rest = later is in (rest.0, Contains-tail n names rest.0 rest.1, rest.2)

-- what may be changed is named
changeable_named : (c : Call) (n : Needed) → Contains (changeable c) n → Contains (named c) n
unfolding changeable named
changeable_named (call.DataCreate rd granule ipa source flags digest) n has =
    let names = named (call.DataCreate rd granule ipa source flags digest) in
    let others = needed granule Delegated ∷ needed source Undelegated ∷ [] in
    each_of_two (Contains names) (needed rd Rd) (needed granule Delegated) (Contains-head (needed rd Rd) others)
    (Contains-tail (needed rd Rd) others (needed granule Delegated) (Contains-head (needed granule Delegated) (needed source Undelegated ∷ []))) n has
changeable_named _ n has = has

-- ---- what a call touches

-- what a placed call touches may be changed by it, or is the REC in which the CPU is, or the realm of that REC, where no host gives the call
touched_cases : (s : State) (cpu : ℕ) (c : Call) (class : Class) (g : ℕ) → is_placed s cpu class ≡ true → touched_by class s cpu c g ≡ true
    → (may_change c g ≡ true)
    ⊎ ((is_by_host class ≡ false) × (is_inside s cpu ≡ true) × ((rec_inside s cpu == g || (rec_at s (rec_inside s cpu)).owner == g) ≡ true))
touched_cases s cpu c ByHost g placed is = inl is
touched_cases s cpu c ByRealm g placed is =
    inr (refl, (and_parts (is_inside s cpu) (is_none (rec_at s (rec_inside s cpu)).pending) placed).0, is)
touched_cases s cpu c ByExit g placed is = inr (refl, placed, is)

-- ---- stretches

-- the realm of a stretch is touched where what is set in it is
stretch_of : (names : ℕ → Bool) (stretch : Stretch) (top : ℕ) → IsOf names (reached_change stretch top) → names stretch.rd ≡ true
unfolding reached_change
stretch_of names stretch top of = by stretch.purpose of
  where
    by : (purpose : StretchUse)
        → IsOf names (stretch_change purpose stretch.rd stretch.level stretch.base
        (entry_number stretch.level stretch.base) (entry_number stretch.level top) top) → names stretch.rd ≡ true
    by Init of = of.0
    by (Requested rec ripas) of = of.0

-- a stretch of a live realm is reached behind the mask as before it
IsReached-masked : (live lent : ℕ → Bool) (s : State) (stretch : Stretch) (top : ℕ) → live stretch.rd ≡ true → IsReached s stretch top
    → IsReached (masked live lent s) stretch top
unfolding entry_at
IsReached-masked live lent s stretch top is_live reached = record {
  count = reached.count;
  some = reached.some;
  is_end = reached.is_end;
  within = reached.within;
  in_table = reached.in_table;
  each = λ k below. subst (λ (entry : Entry). IsTrue (can_be_set stretch.purpose entry))
      (same (entry_number stretch.level stretch.base + k)) (reached.each k below);
}
  where
    same : (n : ℕ) → entry_at s stretch.rd stretch.level n ≡ entry_at (masked live lent s) stretch.rd stretch.level n
    same n = rw is_live refl

-- ---- steps

-- the call is refused, and nothing changes
pub record IsRefused (s : State) (cpu : ℕ) (command : Command) (given : Reply) (new : State) : Type 0 where
  pub refusal : Refusal
  leads : outcome s cpu (call_of command) ≡ Err refusal
  pub replied : given ≡ reply_of refusal
  pub is_new : new ≡ s

-- The call is carried out: it makes a change of what it touches, as its words tell, and lets its CPU in or out. It makes it behind a mask too, where
-- that is live and it leads to the same.
pub record IsDone (s : State) (cpu : ℕ) (command : Command) (given : Reply) (new : State) : Type 0 where
  pub accepted : Accepted
  pub leads : outcome s cpu (call_of command) ≡ Ok accepted
  pub replied : is_accepted given ≡ true
  pub change : Change
  pub can : CanApply s change
  pub tells : (words : List ℕ) × Tells command.function command.words.items words change
  of : IsOf (touched s cpu (call_of command)) change
  moves : IsMoveBy s cpu (is_inside_after (call_of command)) (rec_replaced change)
  pub is_new : new ≡ changed s change
  again : (live lent : ℕ → Bool) → ((g : ℕ) → touched s cpu (call_of command) g ≡ true → live g ≡ true) → IsSound (masked live lent s)
      → outcome (masked live lent s) cpu (call_of command) ≡ outcome s cpu (call_of command)
      → CanApply (masked live lent s) change × Step (masked live lent s) cpu command given (changed (masked live lent s) change)

module _ (s : State) (cpu : ℕ) (command : Command) (given : Reply) (new : State) (sound : IsSound s) where
  -- by what the call leads to
  step_by : (found : Result Accepted Refusal) → outcome s cpu (call_of command) ≡ found → CarriesOut found s given new
      → IsRefused s cpu command given new ⊎ IsDone s cpu command given new
  step_by (Err refusal) is carried = inl (record { refusal = refusal; leads = is; replied = carried.0; is_new = carried.1 })
  step_by (Ok (Done words change)) is carried = inr (record {
    accepted = Done words change;
    leads = is;
    replied = ap is_accepted carried.0;
    change = change;
    can = done_applies s cpu command words.items change sound is;
    tells = (words.items, outcome-tells command s cpu (Ok (Done words change)) is);
    of = outcome-touches s cpu (call_of command) (Done words change) is;
    moves = outcome-moves s cpu (call_of command) (Done words change) is;
    is_new = carried.1;
    again = λ live lent inside sound_too same.
        let u = masked live lent s in
        let is_too = same ∙ is in (
          done_applies u cpu command words.items change sound_too is_too,
          subst (λ (r : Result Accepted Refusal). CarriesOut r u given (changed u change)) (sym is_too) (carried.0, refl),
        );
  })
  step_by (Ok (Reaches stretch)) is carried =
      let top = carried.0 in
      let change = reached_change stretch top in
      let of = outcome-touches s cpu (call_of command) (Reaches stretch) is top in
      inr (record {
        accepted = Reaches stretch;
        leads = is;
        replied = ap is_accepted carried.1.1;
        change = change;
        can = reached_applies s cpu command stretch top sound is carried.1.0;
        tells = (top ∷ [], (outcome-tells command s cpu (Ok (Reaches stretch)) is).1 top);
        of = of;
        moves = outcome-moves s cpu (call_of command) (Reaches stretch) is top;
        is_new = carried.1.2;
        again = λ live lent inside sound_too same.
            let u = masked live lent s in
            let is_too = same ∙ is in
            let is_live = inside stretch.rd (stretch_of (touched s cpu (call_of command)) stretch top of) in
            let reached = IsReached-masked live lent s stretch top is_live carried.1.0 in (
              reached_applies u cpu command stretch top sound_too is_too reached,
              subst (λ (r : Result Accepted Refusal). CarriesOut r u given (changed u change)) (sym is_too) (top, (reached, carried.1.1, refl)),
            );
      })

  -- each step is refused or carried out
  pub step_cases : Step s cpu command given new → IsRefused s cpu command given new ⊎ IsDone s cpu command given new
  step_cases step = step_by (outcome s cpu (call_of command)) refl step

-- ---- calls that are left

-- The step isn't seen behind a mask: live realms' RECs stay live, and CPUs count as before.
pub record IsUnseen (live entered : ℕ → Bool) (s new : State) : Type 0 where
  pub masks : (lent : ℕ → Bool) → masked live lent new ≡ masked live lent s
  pub recs : HaveLiveRecs live new
  pub runs : RunAsEntered live entered new

module _ (live entered : ℕ → Bool) (s : State) (sound : IsSound s) (parts : ArePartsOutside live s) (recs : HaveLiveRecs live s)
    (runs : RunAsEntered live entered s) (cpu : ℕ) (command : Command) (given : Reply) (new : State) where
  -- where nothing changes
  unseen_same : new ≡ s → IsUnseen live entered s new
  unseen_same same = subst (IsUnseen live entered s) (sym same) (record { masks = λ _. refl; recs = recs; runs = runs })

  -- where what is named to change isn't live, and the CPU doesn't count as inside
  unseen_done : ((g : ℕ) → may_change (call_of command) g ≡ true → live g ≡ false) → entered cpu ≡ false → IsDone s cpu command given new
      → IsUnseen live entered s new
  unseen_done dead outside done =
      let c = call_of command in
      let placed = placed_accepted s cpu c done.accepted done.leads in
      let put = IsPut-outside s live (touched s cpu c) done.change sound done.can done.of
      (λ g is. elim (touched_cases s cpu c (class_of c) g placed is) [
        | inl named ↦ dead g named
        | inr here ↦ inside_outside live entered s cpu runs recs outside here.1 g here.2
      ]) parts in
      record {
        masks = λ lent. ap (masked live lent) done.is_new ∙ masked-changed live lent s done.change put;
        recs = subst (HaveLiveRecs live) (sym done.is_new) (HaveLiveRecs-changed live false s done.change sound done.can put recs);
        runs = subst (RunAsEntered live entered) (sym done.is_new)
            (RunAsEntered-left live entered s cpu (is_inside_after c) done.change sound done.can put done.moves outside runs);
      }

  -- so it is where a call only looks, is refused, or may change nothing live
  pub unseen_left : ((is_looking command ≡ true)
      ⊎ ((is_accepted given ≡ false)
      ⊎ (((g : ℕ) → may_change (call_of command) g ≡ true → live g ≡ false) × (entered cpu ≡ false))))
      → Step s cpu command given new → IsUnseen live entered s new
  unseen_left (inl looks) step = unseen_same (looks-keep s new cpu command given looks step)
  unseen_left (inr (inl refused)) step = unseen_same (step-refuses s new cpu command given step refused)
  unseen_left (inr (inr outside)) step = elim (step_cases s cpu command given new sound step) [
    | inl refused ↦ unseen_same refused.is_new
    | inr done ↦ unseen_done outside.0 outside.1 done
  ]

-- ---- calls that are kept

-- what is live where these granules are too
abbrev pub wider : (live more : ℕ → Bool) → ℕ → Bool
wider live more g = more g || live g

-- whether CPUs count as inside behind a kept call of one of them
abbrev pub entered_behind : (entered : ℕ → Bool) (cpu : ℕ) → Call → Reply → ℕ → Bool
entered_behind entered cpu c given other = if cpu == other then inside_after c given (entered other) else entered other

-- The step is one behind a mask behind which more is live, which was unused. Live realms' RECs stay live, and the CPU counts as the call leaves it.
pub record IsSeen (live more lent entered : ℕ → Bool) (s : State) (cpu : ℕ) (command : Command) (given : Reply) (new : State) : Type 0 where
  pub grown : masked (wider live more) lent s ≡ masked live lent s
  pub step : Step (masked (wider live more) lent s) cpu command given (masked (wider live more) lent new)
  pub recs : HaveLiveRecs (wider live more) new
  pub runs : RunAsEntered (wider live more) (entered_behind entered cpu (call_of command) given) new

-- a call that is carried out leaves its CPU as it says
entered_done : (c : Call) (given : Reply) → is_accepted given ≡ true → is_inside_after c ≡ inside_after c given
entered_done c (reply.Ok words) is = refl
entered_done c (reply.Err status index) is = both_ways is refl
entered_done c reply.Misplaced is = both_ways is refl

-- and one that is refused leaves it as it was
entered_refused : (c : Call) (given : Reply) (inside : Bool) → is_accepted given ≡ false → inside_after c given inside ≡ inside
entered_refused c (reply.Ok words) inside is = both_ways refl is
entered_refused c (reply.Err status index) inside is = refl
entered_refused c reply.Misplaced inside is = refl

-- an unused granule is no part
unused_no_part : {P : Type 0} (is_lent : Bool) → is_part (unused_tag is_lent) ≡ true → P
unused_no_part true is = both_ways is refl
unused_no_part false is = both_ways is refl

-- a part behind a mask is live
part_live : (live lent : ℕ → Bool) (s : State) (g : ℕ) → is_part ((masked live lent s).tag g) ≡ true → live g ≡ true
part_live live lent s g is = by (live g) is
  where
    by : (b : Bool) → is_part (if b then s.tag g else unused_tag (lent g)) ≡ true → b ≡ true
    by true is = refl
    by false is = unused_no_part (lent g) is

module _ (live lent entered : ℕ → Bool) (s : State) (sound : IsSound s) (sound_too : IsSound (masked live lent s)) (recs : HaveLiveRecs live s)
    (runs : RunAsEntered live entered s) (cpu : ℕ) (command : Command) (given : Reply) (new : State) where
  module _ (known : IsKnownTo live lent s cpu (call_of command)) where
    -- what may be changed, and isn't live, is unused as the mask has it
    unused_known : (g : ℕ) → may_change (call_of command) g ≡ true → live g ≡ false → s.tag g ≡ unused_tag (lent g)
    unused_known g may dead =
        let found = needed_of (changeable (call_of command)) g may in
        elim (known.names found.0 (changeable_named (call_of command) found.0 found.1)) [
          | inl is_live ↦ both_ways (ap live (sym found.2) ∙ is_live) dead
          | inr unused ↦ subst (λ h. s.tag h ≡ unused_tag (lent h)) found.2 unused
        ]

    -- so it may be live
    grown_known : masked (wider live (may_change (call_of command))) lent s ≡ masked live lent s
    grown_known = masked-grown live (may_change (call_of command)) lent s sound unused_known

    -- live realms' RECs are live then
    recs_known : HaveLiveRecs (wider live (may_change (call_of command))) s
    recs_known = HaveLiveRecs-grown live (may_change (call_of command)) lent s sound unused_known recs

    -- and the call leads to the same behind that mask
    outcome_known : outcome (masked (wider live (may_change (call_of command))) lent s) cpu (call_of command) ≡ outcome s cpu (call_of command)
    outcome_known =
        let c = call_of command in
        ap (λ (u : State). outcome u cpu c) grown_known ∙ outcome-masked live lent s cpu c sound sound_too known
        (λ rd may. ap (λ (u : State). has_rec u rd) (sym grown_known)
        ∙ has_rec-masked (wider live (may_change c)) lent s rd (or_left (may_change c rd) (live rd) may) recs_known)

    -- and CPUs count as they are
    runs_known : RunAsEntered (wider live (may_change (call_of command))) entered s
    runs_known = RunAsEntered-grown live (may_change (call_of command)) lent entered s sound unused_known runs

    -- where the call is refused
    seen_refused : IsRefused s cpu command given new → IsSeen live (may_change (call_of command)) lent entered s cpu command given new
    seen_refused refused =
        let c = call_of command in
        let wide = wider live (may_change c) in
        let u = masked wide lent s in
        let kept : Step u cpu command given u =
        subst (λ (r : Result Accepted Refusal). CarriesOut r u given u) (sym (outcome_known ∙ refused.leads)) (refused.replied, refl) in
        record {
          grown = grown_known;
          step = subst (λ (v : State). Step u cpu command given v) (sym (ap (masked wide lent) refused.is_new)) kept;
          recs = subst (HaveLiveRecs wide) (sym refused.is_new) recs_known;
          runs = subst (RunAsEntered wide (entered_behind entered cpu c given)) (sym refused.is_new)
              (RunAsEntered-stays wide entered s cpu (inside_after c given)
              (λ inside. entered_refused c given inside (ap is_accepted refused.replied ∙ refusal-refuses refused.refusal)) runs_known);
        }

    -- where it is carried out, what it touches is live
    touched_live : IsDone s cpu command given new → (g : ℕ) → touched s cpu (call_of command) g ≡ true
        → wider live (may_change (call_of command)) g ≡ true
    touched_live done g is =
        let c = call_of command in
        elim (touched_cases s cpu c (class_of c) g (placed_accepted s cpu c done.accepted done.leads) is) [
          | inl may ↦ or_left (may_change c g) (live g) may
          | inr here ↦
              or_right (may_change c g) (live g) (inside_both live lent s cpu sound_too here.1 (known.inside here.0).1 g here.2)
        ]

    -- so it is seen
    seen_done : IsDone s cpu command given new → IsSeen live (may_change (call_of command)) lent entered s cpu command given new
    seen_done done =
        let c = call_of command in
        let wide = wider live (may_change c) in
        let u = masked wide lent s in
        let inside = touched_live done in
        let sound_wide = subst IsSound (sym grown_known) sound_too in
        let again = done.again wide lent inside sound_wide outcome_known in
        let put = IsPut-inside u wide (touched s cpu c) done.change sound_wide again.0 done.of inside (part_live wide lent s) in
        let made = changed-masked wide lent s done.change put ∙ ap (masked wide lent) (sym done.is_new) in
        record {
          grown = grown_known;
          step = subst (λ (v : State). Step u cpu command given v) made again.1;
          recs = subst (HaveLiveRecs wide) (sym done.is_new) (HaveLiveRecs-changed wide true s done.change sound done.can put recs_known);
          runs = subst (RunAsEntered wide (entered_behind entered cpu c given)) (sym done.is_new)
              (subst (λ (after : Bool → Bool). RunAsEntered wide (λ k. if cpu == k then after (entered k) else entered k) (changed s done.change))
              (entered_done c given done.replied)
              (RunAsEntered-kept wide entered s cpu (is_inside_after c) done.change sound done.can put done.moves runs_known));
        }

  module _ (knows : (n : Needed) → Contains (named (call_of command)) n
      → (live n.granule ≡ true)
      ⊎ (((n.tag ≡ unused_tag (lent n.granule)) × (shows_names given ≡ true)) ⊎ (s.tag n.granule ≡ unused_tag (lent n.granule))))
      (inside : is_hosts (call_of command) ≡ false → entered cpu ≡ true) (kept : IsKeptReply (call_of command) given) where
    -- a call that finds its CPU inside of a REC finds it inside of a live one
    known_inside : (is_hosts (call_of command) ≡ false → is_inside s cpu ≡ true) → is_hosts (call_of command) ≡ false
        → (is_inside s cpu ≡ true) × (live (rec_inside s cpu) ≡ true)
    known_inside found others = (found others, inside_live live entered s cpu runs (inside others) (found others))

    -- what is named is live, or unused as the mask has it, where a reply that shows what is named tells its tags
    names_known : (shows_names given ≡ true → (n : Needed) → Contains (named (call_of command)) n → s.tag n.granule ≡ n.tag)
        → (n : Needed) → Contains (named (call_of command)) n → (live n.granule ≡ true) ⊎ (s.tag n.granule ≡ unused_tag (lent n.granule))
    names_known tags n has = elim (knows n has) [
      | inl is_live ↦ inl is_live
      | inr (inl shown) ↦ inr (tags shown.1 n has ∙ shown.0)
      | inr (inr unused) ↦ inr unused
    ]

    -- what is known of a call that is refused for what it finds
    known_refused : (r : Reply) → given ≡ r → IsKeptReply (call_of command) r → IsRefused s cpu command given new
        → IsKnownTo live lent s cpu (call_of command)
    known_refused (reply.Ok words) is none refused =
        both_ways (ap is_accepted is) (ap is_accepted refused.replied ∙ refusal-refuses refused.refusal)
    known_refused (reply.Err status index) is none refused =
        let replied = sym refused.replied ∙ is in
        let placed = refused_placed s cpu (call_of command) refused.refusal status index refused.leads replied in
        record {
          outside = placed.0;
          inside = known_inside placed.1;
          names = names_known (λ shows. refused_named s cpu (call_of command) refused.refusal status index refused.leads replied
              (not-true (status == 1) (sym (ap shows_names is) ∙ shows)));
          vmid = λ vmid takes. absurd (none-some vmid (sym none ∙ takes));
        }
    known_refused reply.Misplaced is none refused = absurd none

    -- and of one that is carried out
    known_done : IsDone s cpu command given new → IsKnownTo live lent s cpu (call_of command)
    known_done done =
        let found = outcome-found s cpu (call_of command) done.accepted done.leads in
        record {
          outside = found.outside;
          inside = known_inside found.inside;
          names = names_known (λ _. found.tags);
          vmid = found.vmid;
        }

    -- so a kept call makes its step behind the mask
    pub seen_kept : Step s cpu command given new → IsSeen live (may_change (call_of command)) lent entered s cpu command given new
    seen_kept step = elim (step_cases s cpu command given new sound step) [
      | inl refused ↦ seen_refused (known_refused given refl kept refused) refused
      | inr done ↦ seen_done (known_done done) done
    ]
