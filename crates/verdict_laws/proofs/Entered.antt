-- A REC that runs is live just where its CPU is inside of a REC in the slice.
use Rattle.verdict_laws.proofs.Common.{◌≡◌, ℕ, ◌*◌, ◌==◌, ◌||◌, ◌⊎◌, Bool, true, false, if◌then◌else◌, Option, Some, None, inl, inr, refl, sym, ◌∙◌, ap, subst, eq-eqb, eqb-true, Ok, false_from_ne_true, ne_eqb, or_cases, same_Some, Accepted, Done, Reaches, Call, Change, RecMade, RecordsChanged, EntriesChanged, RecChange, Misplaced, Rd, Rec, CanApply, class_of, changed, rec_updated, is_inside, rec_at, rec_inside, runs_on, IsSound, RecRecord, State, answer_of, is_placed, misplacement, outcome, reached_change, both_ways, behind, tag-has_tag, outcome-leads, inside_runs, rec_there, unused_tag}
use Rattle.std.specs.Prelude.{is_some}
use Rattle.rmm_spec.specs.declared.call.Call.TheVariants as call
use Rattle.rmm_spec.specs.declared.change.RecUpdate.{RecUpdate}
use Rattle.rmm_spec.specs.declared.change.RecUpdate.TheVariants.{Entered, Exited}
use Rattle.rmm_spec.specs.Applicable.{CanChangeRec, CanUpdateRec}
use Rattle.lemmas.proofs.Tests.{keys_apart}
use Rattle.spec_lemmas.proofs.Placed.{passing_below, running, runs_on-running}
use Rattle.rmm_laws.proofs.ByRows.{row_holds}
use Rattle.rmm_laws.proofs.Cases.{nothing_there}
use Rattle.rmm_laws.proofs.Searches.{none_runs, rec_at-is}
use Rattle.verdict_laws.specs.Slices.{is_inside_after}
use Rattle.verdict_laws.proofs.SliceOwners.{EachOther, EachRec-changed, HasPut, HasReplaced, HaveLiveRecs, behind_mask, rec_replaced, rd_used, replaced_can}
use Rattle.verdict_laws.proofs.SliceTerms.{IsPut, IsRecPut, masked}

-- ---- which RECs run

-- each REC that runs on a CPU is live if the CPU counts as inside of a REC, and isn't if it doesn't
abbrev pub RunAsEntered : (live entered : ℕ → Bool) → State → Type 0
RunAsEntered live entered s = (g : ℕ) (rec : RecRecord) (cpu : ℕ) → s.rec g ≡ Some rec → rec.cpu ≡ Some cpu → live g ≡ entered cpu

-- an unused granule has no REC's tag
rec_used : (lends : Bool) → Rec ≡ unused_tag lends → ⊥
rec_used true same = cc
rec_used false same = cc

-- so it is where unused granules become live
pub RunAsEntered-grown : (live more lent entered : ℕ → Bool) (s : State) → IsSound s
    → ((g : ℕ) → more g ≡ true → live g ≡ false → s.tag g ≡ unused_tag (lent g)) → RunAsEntered live entered s
    → RunAsEntered (λ g. more g || live g) entered s
RunAsEntered-grown live more lent entered s sound unused runs g rec cpu there on =
    by (more g) (live g) refl refl ∙ runs g rec cpu there on
  where
    by : (grown old : Bool) → more g ≡ grown → live g ≡ old → (grown || old) ≡ old
    by false old is was = refl
    by true true is was = refl
    by true false is was =
        absurd (rec_used (lent g) (sym (tag-has_tag s g Rec (sym (sound.recs.tagged g) ∙ ap is_some there)) ∙ unused g is was))

-- and where a CPU counts by a call that leaves it as it was
pub RunAsEntered-stays : (live entered : ℕ → Bool) (s : State) (cpu : ℕ) (after : Bool → Bool) → ((inside : Bool) → after inside ≡ inside)
    → RunAsEntered live entered s → RunAsEntered live (λ k. if cpu == k then after (entered k) else entered k) s
RunAsEntered-stays live entered s cpu after stays runs g rec k there on = runs g rec k there on ∙ sym (by (cpu == k))
  where
    by : (b : Bool) → (if b then after (entered k) else entered k) ≡ entered k
    by true = stays (entered k)
    by false = refl

-- ---- where CPUs are

-- a CPU that doesn't count as inside is outside behind the mask
pub outside_masked : (live lent entered : ℕ → Bool) (s : State) (cpu : ℕ) → RunAsEntered live entered s → entered cpu ≡ false
    → is_inside (masked live lent s) cpu ≡ false
unfolding is_inside
outside_masked live lent entered s cpu runs is =
    let t = masked live lent s in
    false_from_ne_true (is_inside t cpu) (λ any.
    let at = passing_below s.config.granules (λ k. runs_on cpu (t.rec (k * 4096))) any in
    let g = at.0 * 4096 in
    let it = running cpu (t.rec g) at.2 in
    let found = behind_mask (live g) (s.rec g) it.0 it.1 in
    both_ways (sym (runs g it.0 cpu found.1 it.2) ∙ found.0) is)

-- The REC in which a CPU is runs on it. What is that REC or its realm is one of both.
inside_is : (s : State) (cpu : ℕ) → is_inside s cpu ≡ true
    → (rec : RecRecord) × (s.rec (rec_inside s cpu) ≡ Some rec) × (rec.cpu ≡ Some cpu)
    × ((g : ℕ) → (rec_inside s cpu == g || (rec_at s (rec_inside s cpu)).owner == g) ≡ true → (rec_inside s cpu ≡ g) ⊎ (rec.owner ≡ g))
inside_is s cpu inside =
    let at = rec_inside s cpu in
    let it = running cpu (s.rec at) (inside_runs s cpu inside) in
    let owner = (rec_at s at).owner in (
      it.0,
      it.1,
      it.2,
      λ g is. elim (or_cases (at == g) (owner == g) is) [
        | inl here ↦ inl (eqb-true at g here)
        | inr owns ↦ inr (ap (λ (x : RecRecord). x.owner) (sym (rec_at-is s at it.0 it.1)) ∙ eqb-true owner g owns)
      ],
    )

-- where the CPU doesn't count as inside, the REC in which it is isn't live, nor is its realm
pub inside_outside : (live entered : ℕ → Bool) (s : State) (cpu : ℕ) → RunAsEntered live entered s → HaveLiveRecs live s
    → entered cpu ≡ false → is_inside s cpu ≡ true → (g : ℕ)
    → (rec_inside s cpu == g || (rec_at s (rec_inside s cpu)).owner == g) ≡ true → live g ≡ false
inside_outside live entered s cpu runs have is inside g here =
    let at = rec_inside s cpu in
    let it = inside_is s cpu inside in
    let dead : live at ≡ false = runs at it.0 cpu it.1 it.2 ∙ is in
    elim (it.3 g here) [
      | inl same ↦ ap live (sym same) ∙ dead
      | inr owns ↦ false_from_ne_true (live g) (λ lives. both_ways (have at it.0 it.1 (ap live owns ∙ lives)) dead)
    ]

-- and where the CPU counts as inside, that REC is live
pub inside_live : (live entered : ℕ → Bool) (s : State) (cpu : ℕ) → RunAsEntered live entered s → entered cpu ≡ true
    → is_inside s cpu ≡ true → live (rec_inside s cpu) ≡ true
inside_live live entered s cpu runs is inside = let it = inside_is s cpu inside in runs (rec_inside s cpu) it.0 cpu it.1 it.2 ∙ is

-- the realm of a live REC is live, where what is behind the mask is sound
owner_live : (live lent : ℕ → Bool) (s : State) (g : ℕ) (rec : RecRecord) → IsSound (masked live lent s) → s.rec g ≡ Some rec → live g ≡ true
    → live rec.owner ≡ true
owner_live live lent s g rec sound there lives =
    let t = masked live lent s in
    let here : t.rec g ≡ Some rec = rw lives there in
    by (live rec.owner) (tag-has_tag t rec.owner Rd (sound.recs.owned g rec here))
  where
    by : (b : Bool) → (if b then s.tag rec.owner else unused_tag (lent rec.owner)) ≡ Rd → b ≡ true
    by true tag = refl
    by false tag = absurd (rd_used (lent rec.owner) (sym tag))

-- so where the REC in which a CPU is is live, its realm is too
pub inside_both : (live lent : ℕ → Bool) (s : State) (cpu : ℕ) → IsSound (masked live lent s) → is_inside s cpu ≡ true
    → live (rec_inside s cpu) ≡ true → (g : ℕ) → (rec_inside s cpu == g || (rec_at s (rec_inside s cpu)).owner == g) ≡ true → live g ≡ true
inside_both live lent s cpu sound inside lives g here =
    let it = inside_is s cpu inside in
    elim (it.3 g here) [
      | inl same ↦ ap live (sym same) ∙ lives
      | inr owns ↦ ap live (sym owns) ∙ owner_live live lent s (rec_inside s cpu) it.0 sound it.1 lives
    ]

-- ---- who enters and leaves

-- The update of a REC's record by a call of the CPU, which is inside behind it by whether it was before: no other CPU enters, and no REC leaves but
-- one that runs on it.
abbrev IsUpdateBy : State → ℕ → (Bool → Bool) → ℕ → RecUpdate → Type 0
IsUpdateBy s cpu after rec (Entered other) = (other ≡ cpu) × ((inside : Bool) → after inside ≡ true)
IsUpdateBy s cpu after rec Exited = runs_on cpu (s.rec rec) ≡ true
IsUpdateBy s cpu after rec _ = (inside : Bool) → after inside ≡ inside

-- the record that is replaced by such a call, if one is
abbrev pub IsMoveBy : State → ℕ → (Bool → Bool) → Option RecChange → Type 0
IsMoveBy s cpu after None = (inside : Bool) → after inside ≡ inside
IsMoveBy s cpu after (Some change) = IsUpdateBy s cpu after change.rec change.update

-- and what is done, whatever end a reply gives
abbrev IsAcceptedBy : State → ℕ → (Bool → Bool) → Accepted → Type 0
IsAcceptedBy s cpu after (Done words change) = IsMoveBy s cpu after (rec_replaced change)
IsAcceptedBy s cpu after (Reaches stretch) = (top : ℕ) → IsMoveBy s cpu after (rec_replaced (reached_change stretch top))

-- a call that is accepted is placed
pub placed_accepted : (s : State) (cpu : ℕ) (c : Call) (accepted : Accepted) → outcome s cpu c ≡ Ok accepted
    → is_placed s cpu (class_of c) ≡ true
unfolding outcome
placed_accepted s cpu c accepted is =
    row_holds (is_placed s cpu (class_of c) ≡ true) (is_placed s cpu (class_of c)) (answer_of s cpu c)
    (Misplaced (misplacement (is_inside s cpu) (class_of c))) accepted is (λ placed _. placed)

-- what is done where all rows hold is such by what the call says
behind-moves : (s : State) (cpu : ℕ) (c : Call) → is_placed s cpu (class_of c) ≡ true
    → IsAcceptedBy s cpu (is_inside_after c) (behind s cpu c).1
unfolding behind class_of is_inside_after reached_change
behind-moves s cpu (call.RecEnter rec) placed = (refl, λ inside. refl)
behind-moves s cpu (call.RttInitRipas rd base top) placed = λ end inside. refl
behind-moves s cpu (call.RttSetRipas rd rec base top) placed = λ end inside. refl
behind-moves s cpu call.Exit placed = inside_runs s cpu placed
behind-moves s cpu _ placed = λ inside. refl

-- so is what is accepted
pub outcome-moves : (s : State) (cpu : ℕ) (c : Call) (accepted : Accepted) → outcome s cpu c ≡ Ok accepted
    → IsAcceptedBy s cpu (is_inside_after c) accepted
outcome-moves s cpu c accepted is =
    subst (λ (a : Accepted). IsAcceptedBy s cpu (is_inside_after c) a) (outcome-leads s cpu c (Ok accepted) is).1
    (behind-moves s cpu c (placed_accepted s cpu c accepted is))

-- ---- behind a change

-- what is so of each REC then
abbrev IsAs : (live entered : ℕ → Bool) → ℕ → RecRecord → Type 0
IsAs live entered g rec = (cpu : ℕ) → rec.cpu ≡ Some cpu → live g ≡ entered cpu

-- the REC whose record is replaced passes the test as all that the change puts
rec_put : (live : ℕ → Bool) (is : Bool) (change : Change) → IsPut live is change → IsRecPut live is (rec_replaced change)
rec_put live is (RecordsChanged realm rec) put = put.1
rec_put live is (EntriesChanged rd level entries page realm rec) put = put.3
rec_put live is _ put = tt

-- a REC that is made runs on no CPU
made_as : (live entered : ℕ → Bool) (s : State) (change : Change) → HasReplaced (IsAs live entered) s (rec_replaced change)
    → HasPut (IsAs live entered) s change
made_as live entered s (RecMade rd rec mpidr flags aux0 aux1) replaced = λ cpu on. nothing_there refl on
made_as live entered s _ replaced = replaced

module _ (live entered now : ℕ → Bool) (is : Bool) (s : State) (cpu : ℕ) (after : Bool → Bool) (sound : IsSound s)
    (runs : RunAsEntered live entered s) (enters : ((inside : Bool) → after inside ≡ true) → now cpu ≡ is)
    (stays : ((inside : Bool) → after inside ≡ inside) → now cpu ≡ entered cpu)
    (others : (k : ℕ) → (cpu == k) ≡ false → now k ≡ entered k) where
  -- where the call leaves its CPU's place, each CPU counts as before
  all_stay : ((inside : Bool) → after inside ≡ inside) → (k : ℕ) → now k ≡ entered k
  all_stay same k = by (cpu == k) refl
    where
      by : (b : Bool) → (cpu == k) ≡ b → now k ≡ entered k
      by true here = subst (λ x. now x ≡ entered x) (eqb-true cpu k here) (stays same)
      by false apart = others k apart

  -- so does a CPU on which a REC runs that isn't on the call's
  other_stays : (g : ℕ) (rec : RecRecord) (k : ℕ) → s.rec g ≡ Some rec → rec.cpu ≡ Some k → (runs_on cpu (s.rec g) ≡ true → ⊥) → live g ≡ now k
  other_stays g rec k there on apart =
      runs g rec k there on
      ∙ sym (others k (ne_eqb cpu k (λ same. apart (runs_on-running cpu (s.rec g) rec there (on ∙ ap Some (sym same))))))

  -- a REC behind an update
  updated_as : (g : ℕ) (old : RecRecord) (update : RecUpdate) → live g ≡ is → IsUpdateBy s cpu after g update → IsAs live entered g old
      → IsAs live now g (rec_updated update old)
  unfolding rec_updated
  updated_as g old (Entered other) put move as_old = λ k on. put ∙ sym (enters move.1) ∙ ap now (sym move.0 ∙ same_Some other k on)
  updated_as g old Exited put move as_old = λ k on. nothing_there refl on
  updated_as g old _ put move as_old = λ k on. as_old k on ∙ sym (all_stay move k)

  -- another behind it
  other_as : (a : ℕ) (update : RecUpdate) → CanUpdateRec s (rec_at s a) update → IsUpdateBy s cpu after a update
      → (g : ℕ) (rec : RecRecord) → (g == a) ≡ false → s.rec g ≡ Some rec → IsAs live now g rec
  other_as a (Entered other) can move g rec apart there = λ k on.
      other_stays g rec k there on (λ here. both_ways here (none_runs s cpu sound (ap (is_inside s) (sym move.0) ∙ can.1) g))
  other_as a Exited can move g rec apart there = λ k on.
      other_stays g rec k there on (λ here. keys_apart g a apart (sound.recs.alone g a cpu here move))
  other_as a _ can move g rec apart there = λ k on. runs g rec k there on ∙ sym (all_stay move k)

  -- the one whose record is replaced, if one's is
  replaced_as : (change : Option RecChange) → CanChangeRec s change → IsRecPut live is change → IsMoveBy s cpu after change
      → HasReplaced (IsAs live now) s change
  replaced_as None can put move = tt
  replaced_as (Some change) can put move =
      let old = rec_at s change.rec in
      updated_as change.rec old change.update put move (λ k on. runs change.rec old k (rec_there s change.rec sound can.0) on)

  -- and the others
  others_as : (change : Option RecChange) → CanChangeRec s change → IsMoveBy s cpu after change → EachOther (IsAs live now) change s.rec
  others_as None can move = λ g rec _ there k on. runs g rec k there on ∙ sym (all_stay move k)
  others_as (Some change) can move = other_as change.rec change.update can.1 move

  -- each that runs is live as its CPU counts behind the change
  RunAsEntered-changed : (change : Change) → CanApply s change → IsPut live is change → IsMoveBy s cpu after (rec_replaced change)
      → RunAsEntered live now (changed s change)
  RunAsEntered-changed change can put move g rec k there on =
      let rec_can = replaced_can s change can in
      EachRec-changed (IsAs live now) s change
      (made_as live now s change (replaced_as (rec_replaced change) rec_can (rec_put live is change put) move))
      (others_as (rec_replaced change) rec_can move) g rec there k on

-- so it stays where a CPU that doesn't count as inside makes a change that puts nothing live
pub RunAsEntered-left : (live entered : ℕ → Bool) (s : State) (cpu : ℕ) (after : Bool → Bool) (change : Change) → IsSound s → CanApply s change
    → IsPut live false change → IsMoveBy s cpu after (rec_replaced change) → entered cpu ≡ false → RunAsEntered live entered s
    → RunAsEntered live entered (changed s change)
RunAsEntered-left live entered s cpu after change sound can put move outside runs =
    RunAsEntered-changed live entered entered false s cpu after sound runs (λ _. outside) (λ _. refl) (λ k _. refl) change can put move

-- and where what a CPU changes is live, the CPU counts as it is behind it
pub RunAsEntered-kept : (live entered : ℕ → Bool) (s : State) (cpu : ℕ) (after : Bool → Bool) (change : Change) → IsSound s → CanApply s change
    → IsPut live true change → IsMoveBy s cpu after (rec_replaced change) → RunAsEntered live entered s
    → RunAsEntered live (λ k. if cpu == k then after (entered k) else entered k) (changed s change)
RunAsEntered-kept live entered s cpu after change sound can put move runs =
    RunAsEntered-changed live entered (λ k. if cpu == k then after (entered k) else entered k) true s cpu after sound runs
    (λ enters. rw (eq-eqb cpu cpu refl) (enters (entered cpu))) (λ same. rw (eq-eqb cpu cpu refl) (same (entered cpu)))
    (λ k apart. rw apart refl) change can put move
