-- Where a CPU is: the REC that runs on it says it, and the replies to its calls, one after another.
use Rattle.verdict_laws.proofs.Common.{◌≡◌, ℕ, suc, ◌*◌, ◌==◌, ◌&&◌, Bool, true, false, not, if◌then◌else◌, List, [], ◌∷◌, ◌++◌, inl, inr, Option, Some, None, IsTrue, refl, sym, ◌∙◌, ap, subst, arith, eq-eqb, eqb-true, Result, Ok, Err, is_none, unwrap_or, and_parts, cases_Bool, false_from_ne_true, Accepted, Call, Change, RecMade, RecDestroyed, RecordsChanged, EntriesChanged, Replaced, RipasSet, RealmChange, RecChange, TagChange, Command, Line, Refusal, Misplaced, Reply, CanApply, call_of, class_of, changed, new_rec, rec_updated, with_realm_change, with_rec_change, with_tag_change, History, IsHistory, is_inside, no_rec, rec_at, rec_inside, request_of, runs_on, JournalEntry, is_accepted, IsCalled, IsReturned, cpu_named, number_named, IsSound, RecRecord, State, opening, CarriesOut, Step, is_placed, outcome, reached_change, both_ways, behind, by_address, with_records, outcome-leads, inside_runs, count_of, HasOnePlaces-from_history}
use Rattle.std.proofs.lemmas.Bool.{true_from_ne_false}
use Rattle.rmm_spec.specs.declared.accepted.Accepted.TheVariants as accepted
use Rattle.rmm_spec.specs.declared.call.Call.TheVariants as call
use Rattle.rmm_spec.specs.declared.change.RecUpdate.TheVariants.{RequestMoved}
use Rattle.rmm_spec.specs.declared.function_id.FunctionId.TheVariants as function
use Rattle.rmm_spec.specs.declared.reply.Reply.TheVariants as reply
use Rattle.rmm_spec.specs.declared.tag.Ripas.TheVariants.{Empty, Ram}
use Rattle.rmm_spec.specs.Applicable.{CanChangeRec}
use Rattle.rmm_spec.specs.Call.{Class, ByExit, ByHost, ByRealm}
use Rattle.rmm_spec.specs.Function.{number_of}
use Rattle.rmm_spec.specs.Lookup.{greatest_below, is_cpu, no_request, ripas_number}
use Rattle.rmm_spec.specs.Rows.{reply_of}
use Rattle.rmm_spec.specs.State.{HostCall, Pending, Psci, Request, RipasChange}
use Rattle.rmm_spec.specs.Step.RealmCall.{ripas_asked}
use Rattle.rmm_spec.specs.Update.{with_rec}
use Rattle.lemmas.proofs.Tests.{keys_apart}
use Rattle.spec_lemmas.proofs.Calls.{same_command}
use Rattle.spec_lemmas.proofs.Placed.{running}
use Rattle.rmm_laws.proofs.Cases.{at_itself}
use Rattle.rmm_laws.proofs.Changes.{changed_sound}
use Rattle.rmm_laws.proofs.Commands.{accepted_applies, whole_command}
use Rattle.rmm_laws.proofs.Keeps.{realm_change-rest, tag_change-rest}
use Rattle.rmm_laws.proofs.Searches.{none_runs}
use Rattle.rmm_laws.proofs.StepLaws.{step-keeps}
use Rattle.verdict_laws.specs.Placing.{StandsBefore, asked_number, is_given, left_standing, moves, stands_after, waits}
use Rattle.verdict_laws.specs.declared.placing.Standing.{Standing}
use Rattle.verdict_laws.specs.declared.placing.Standing.TheVariants.{Outside, Inside}
use Rattle.verdict_laws.specs.declared.placing.ExitReason.{ExitReason}
use Rattle.verdict_laws.specs.declared.placing.ExitReason.TheVariants as exit_reason
use Rattle.verdict_laws.proofs.AlongOrders.{LeadsOn}
use Rattle.verdict_laws.proofs.Counts.{count_of-nil, count_of-other, count_of-same}
use Rattle.verdict_laws.proofs.Entered.{placed_accepted}
use Rattle.verdict_laws.proofs.SliceLines.{Claim, Names, claimed_reply, of_named}
use Rattle.verdict_laws.proofs.SliceOwners.{rec_replaced, replaced_can}
use Rattle.verdict_laws.proofs.Spared.{runs_on-read}
use Rattle.verdict_laws.proofs.SparedCalls.{idle_elsewhere, none_waiting}

-- ---- where a CPU is

-- why a REC would leave, by what it asked for and waits for
abbrev pub by_pending : Request → Option Pending → ExitReason
by_pending request None = exit_reason.Interrupt
by_pending request (Some (Psci function)) = exit_reason.Psci function
by_pending request (Some RipasChange) = exit_reason.RipasChange request.base request.top (ripas_number request.ripas)
by_pending request (Some (HostCall imm)) = exit_reason.HostCall imm

-- so it is by its record
abbrev pub reason_at : RecRecord → ExitReason
reason_at rec = by_pending (request_of rec) rec.pending

-- where a CPU is by what is found of the REC at an address
abbrev pub standing_in : ℕ → ℕ → Option RecRecord → Standing
standing_in cpu at found = if runs_on cpu found then Inside at (reason_at (unwrap_or found no_rec)) else Outside

-- where it is by the REC that it is inside of
abbrev pub standing_of : State → ℕ → Standing
standing_of s cpu = standing_in cpu (rec_inside s cpu) (s.rec (rec_inside s cpu))

-- whether a call of the class is placed, by whether the CPU is inside and what its REC waits for
abbrev placed_by : Class → Bool → Option Pending → Bool
placed_by ByHost inside pending = not inside
placed_by ByRealm inside pending = inside && is_none pending
placed_by ByExit inside pending = inside

-- where the CPU is says it
is_given-by : (class : Class) (inside : Bool) (at : ℕ) (request : Request) (pending : Option Pending)
    → placed_by class inside pending ≡ is_given class (if inside then Inside at (by_pending request pending) else Outside)
is_given-by ByHost false at request pending = refl
is_given-by ByHost true at request pending = refl
is_given-by ByExit false at request pending = refl
is_given-by ByExit true at request pending = refl
is_given-by ByRealm false at request pending = refl
is_given-by ByRealm true at request None = refl
is_given-by ByRealm true at request (Some (Psci function)) = refl
is_given-by ByRealm true at request (Some RipasChange) = refl
is_given-by ByRealm true at request (Some (HostCall imm)) = refl

-- a CPU on which a REC runs is inside of one
inside_where : (s : State) (cpu g : ℕ) → IsSound s → runs_on cpu (s.rec g) ≡ true → is_inside s cpu ≡ true
inside_where s cpu g sound runs = true_from_ne_false (is_inside s cpu) (λ out. both_ways runs (none_runs s cpu sound out g))

-- it is just where the REC that it would be inside of runs on it
is_inside-runs : (s : State) (cpu : ℕ) → IsSound s → is_inside s cpu ≡ runs_on cpu (s.rec (rec_inside s cpu))
is_inside-runs s cpu sound = by (is_inside s cpu) refl
  where
    by : (b : Bool) → is_inside s cpu ≡ b → b ≡ runs_on cpu (s.rec (rec_inside s cpu))
    by true inside = sym (inside_runs s cpu inside)
    by false out = sym (none_runs s cpu sound out (rec_inside s cpu))

-- so a call is placed just where it is given
pub is_placed-given : (s : State) (cpu : ℕ) (class : Class) → IsSound s → is_placed s cpu class ≡ is_given class (standing_of s cpu)
unfolding rec_at
is_placed-given s cpu class sound =
    placed class ∙ (λ i. placed_by class (is_inside-runs s cpu sound i) rec.pending)
    ∙ is_given-by class (runs_on cpu (s.rec (rec_inside s cpu))) (rec_inside s cpu) (request_of rec) rec.pending
  where
    rec : RecRecord
    rec = rec_at s (rec_inside s cpu)

    placed : (c : Class) → is_placed s cpu c ≡ placed_by c (is_inside s cpu) rec.pending
    placed ByHost = refl
    placed _ = refl

-- a CPU that is inside stands inside of its REC
pub standing-inside : (s : State) (cpu : ℕ) → is_inside s cpu ≡ true
    → standing_of s cpu ≡ Inside (rec_inside s cpu) (reason_at (rec_at s (rec_inside s cpu)))
unfolding rec_at
standing-inside s cpu inside =
    let at = rec_inside s cpu in
    ap (λ (b : Bool). if b then Inside at (reason_at (rec_at s at)) else Outside) (inside_runs s cpu inside)

-- ---- behind a change

-- a REC that doesn't run on a CPU says that it is outside
standing-idle : (cpu at : ℕ) (found : Option RecRecord) → runs_on cpu found ≡ false → standing_in cpu at found ≡ Outside
standing-idle cpu at found idle = ap (λ (b : Bool). if b then Inside at (reason_at (unwrap_or found no_rec)) else Outside) idle

-- one that runs on it says where it is
standing-running : (s : State) (cpu g : ℕ) → IsSound s → runs_on cpu (s.rec g) ≡ true → standing_of s cpu ≡ standing_in cpu g (s.rec g)
standing-running s cpu g sound runs =
    ap (λ a. standing_in cpu a (s.rec a))
    (sound.recs.alone (rec_inside s cpu) g cpu (inside_runs s cpu (inside_where s cpu g sound runs)) runs)

-- each REC says the same of a CPU
abbrev StandAlike : ℕ → State → State → Type 0
StandAlike cpu s t = (g : ℕ) → standing_in cpu g (t.rec g) ≡ standing_in cpu g (s.rec g)

-- then it is where it was
standing-alike : (s t : State) (cpu : ℕ) → t.config ≡ s.config → StandAlike cpu s t → standing_of t cpu ≡ standing_of s cpu
unfolding rec_inside
standing-alike s t cpu config alike =
    ap (λ a. standing_in cpu a (t.rec a)) (λ i. greatest_below (config i).granules (λ k. runs (k * 4096) i) * 4096) ∙ alike (rec_inside s cpu)
  where
    told : (g : ℕ) (found : Option RecRecord) → runs_on cpu found ≡ is_given ByExit (standing_in cpu g found)
    told g found = let rec = unwrap_or found no_rec in is_given-by ByExit (runs_on cpu found) g (request_of rec) rec.pending

    runs : (g : ℕ) → runs_on cpu (t.rec g) ≡ runs_on cpu (s.rec g)
    runs g = told g (t.rec g) ∙ ap (is_given ByExit) (alike g) ∙ sym (told g (s.rec g))

-- so where a record is put, or taken out, that says the same as the one before
put_rec-stands : (s : State) (cpu rec : ℕ) (new : Option RecRecord) → standing_in cpu rec new ≡ standing_in cpu rec (s.rec rec)
    → (g : ℕ) → standing_in cpu g (if g == rec then new else s.rec g) ≡ standing_in cpu g (s.rec g)
put_rec-stands s cpu rec new same g = by_address (λ found. standing_in cpu g found ≡ standing_in cpu g (s.rec g)) g rec new (s.rec g)
    (λ here. ap (λ a. standing_in cpu a new) here ∙ same ∙ ap (λ a. standing_in cpu a (s.rec a)) (sym here)) (λ _. refl)

-- where a CPU is once a REC's record is replaced, if it is: inside if the REC runs there then, outside if it only ran there before
abbrev standing_replaced : State → ℕ → Option RecChange → Standing
standing_replaced s cpu None = standing_of s cpu
standing_replaced s cpu (Some change) =
    let new = rec_updated change.update (rec_at s change.rec) in
    if is_cpu cpu new.cpu then Inside change.rec (reason_at new) else (if runs_on cpu (s.rec change.rec) then Outside else standing_of s cpu)

module _ (s t : State) (cpu : ℕ) (sound : IsSound s) (sound_too : IsSound t) (config : t.config ≡ s.config) where
  -- by whether the REC whose record is put runs on the CPU then, and whether it did before
  standing-put : (rec : ℕ) (new : RecRecord) → t.rec ≡ (with_rec s rec new).rec → (runs ran : Bool) → is_cpu cpu new.cpu ≡ runs
      → runs_on cpu (s.rec rec) ≡ ran
      → standing_of t cpu ≡ (if runs then Inside rec (reason_at new) else (if ran then Outside else standing_of s cpu))
  standing-put rec new put true ran is was =
      let here : t.rec rec ≡ Some new = ap (λ recs. recs rec) put ∙ at_itself rec (Some new) (s.rec rec) in
      standing-running t cpu rec sound_too (ap (runs_on cpu) here ∙ is)
      ∙ ap (standing_in cpu rec) here ∙ ap (λ (b : Bool). if b then Inside rec (reason_at new) else Outside) is
  standing-put rec new put false true is was =
      let at = rec_inside t cpu in
      standing-idle cpu at (t.rec at) (ap (λ recs. runs_on cpu (recs at)) put
      ∙ by_address (λ found. runs_on cpu found ≡ false) at rec (Some new) (s.rec at) (λ _. is)
      (λ apart. false_from_ne_true _ (λ on. keys_apart at rec apart (sound.recs.alone at rec cpu on was))))
  standing-put rec new put false false is was =
      standing-alike s t cpu config (λ g. ap (λ recs. standing_in cpu g (recs g)) put
      ∙ put_rec-stands s cpu rec (Some new) (standing-idle cpu rec (Some new) is ∙ sym (standing-idle cpu rec (s.rec rec) was)) g)

  -- where one is replaced, or none is, in a state that has the same records
  standing-replaced : (u : State) (change : Option RecChange) → u.rec ≡ s.rec → t.rec ≡ (with_rec_change u change).rec
      → standing_of t cpu ≡ standing_replaced s cpu change
  unfolding rec_at
  standing-replaced u None same is = standing-alike s t cpu config (λ g. ap (λ recs. standing_in cpu g (recs g)) (is ∙ same))
  standing-replaced u (Some change) same is =
      standing-put change.rec (rec_updated change.update (rec_at s change.rec))
      (is ∙ ap (λ recs. (with_rec_change (record u { rec = recs }) (Some change)).rec) same) _ _ refl refl

-- behind a change that can be made a CPU is where the record that it replaces says
standing-changed : (s : State) (cpu : ℕ) (change : Change) → IsSound s → CanApply s change → (changed s change).config ≡ s.config
    → standing_of (changed s change) cpu ≡ standing_replaced s cpu (rec_replaced change)
unfolding changed rec_at
standing-changed s cpu change sound can config = by change can config (changed_sound s change sound can)
  where
    -- behind the tag of a page and a realm's record
    records : (t : State) → IsSound t → t.config ≡ s.config → (page : Option TagChange) (realm : Option RealmChange) (rec : Option RecChange)
        → t.rec ≡ (with_records s page realm rec).rec → standing_of t cpu ≡ standing_replaced s cpu rec
    records t sound_too same page realm rec =
        standing-replaced s t cpu sound sound_too same (with_realm_change (with_tag_change s page) realm) rec
        ((realm_change-rest (with_tag_change s page) realm).3 ∙ (tag_change-rest s page).3)

    by : (change : Change) → CanApply s change → (changed s change).config ≡ s.config → IsSound (changed s change)
        → standing_of (changed s change) cpu ≡ standing_replaced s cpu (rec_replaced change)
    by (RecMade rd rec mpidr flags aux0 aux1) can same sound_too =
        standing-alike s _ cpu same (put_rec-stands s cpu rec (Some (new_rec rd mpidr flags aux0 aux1))
        (sym (standing-idle cpu rec (s.rec rec) (none_waiting s cpu rec sound can.rec_tag))))
    by (RecDestroyed rec aux0 aux1) can same sound_too =
        standing-alike s _ cpu same (put_rec-stands s cpu rec None
        (sym (standing-idle cpu rec (s.rec rec) (runs_on-read s.rec cpu rec ∙ idle_elsewhere cpu _ can.ready))))
    by (RecordsChanged realm rec) can same sound_too = records _ sound_too same None realm rec refl
    by (EntriesChanged rd level (Replaced number entry) page realm rec) can same sound_too = records _ sound_too same page realm rec refl
    by (EntriesChanged rd level (RipasSet first last ripas) page realm rec) can same sound_too = records _ sound_too same page realm rec refl
    by _ can same sound_too = standing-alike s _ cpu same (λ g. refl)

-- ---- behind a call

-- a choice of what is the same
either_same : (b : Bool) (x y : Standing) → x ≡ y → (if b then x else y) ≡ y
either_same true x y same = same
either_same false x y same = refl

module _ (s : State) (cpu k : ℕ) where
  -- where a CPU is behind a call of the other, or of its own, that is accepted
  abbrev standing_behind : Call → Standing
  standing_behind c = if cpu == k then stands_after c (standing_of s k) else standing_of s k

  -- the replaced record says so
  abbrev IsMove : Call → Option RecChange → Type 0
  IsMove c rec = CanChangeRec s rec → standing_replaced s k rec ≡ standing_behind c

  -- so it does whatever end a reply gives
  abbrev IsMoved : Call → Accepted → Type 0
  IsMoved c (accepted.Done words change) = IsMove c (rec_replaced change)
  IsMoved c (accepted.Reaches stretch) = (top : ℕ) → IsMove c (rec_replaced (reached_change stretch top))

  -- the REC that the CPU is inside of runs on no other
  own-runs : is_inside s cpu ≡ true → runs_on k (s.rec (rec_inside s cpu)) ≡ (cpu == k)
  own-runs inside =
      let it = running cpu (s.rec (rec_inside s cpu)) (inside_runs s cpu inside) in ap (runs_on k) it.1 ∙ ap (is_cpu k) it.2

  -- once it waits for a reason, so does the CPU
  own-waits : (reason : ExitReason) → is_placed s cpu ByRealm ≡ true
      → (if is_cpu k (rec_at s (rec_inside s cpu)).cpu then Inside (rec_inside s cpu) reason else
      (if runs_on k (s.rec (rec_inside s cpu)) then Outside else standing_of s k))
      ≡ (if cpu == k then waits reason (standing_of s k) else standing_of s k)
  unfolding rec_at
  own-waits reason placed =
      let rec = rec_inside s cpu in
      let inside = (and_parts (is_inside s cpu) _ placed).0 in
      let own = own-runs inside in
      (λ i. if (sym (runs_on-read s.rec k rec) ∙ own) i then Inside rec reason else (if own i then Outside else standing_of s k))
      ∙ once inside (cpu == k) refl
    where
      once : is_inside s cpu ≡ true → (b : Bool) → (cpu == k) ≡ b
          → (if b then Inside (rec_inside s cpu) reason else (if b then Outside else standing_of s k))
          ≡ (if b then waits reason (standing_of s k) else standing_of s k)
      once inside true same =
          sym (ap (waits reason) (ap (standing_of s) (sym (eqb-true cpu k same)) ∙ standing-inside s cpu inside))
      once inside false apart = refl

  -- a REC that runs on no CPU doesn't run on this one
  idle-runs : (rec : ℕ) → IsTrue (is_none (rec_at s rec).cpu) → runs_on k (s.rec rec) ≡ false
  unfolding rec_at
  idle-runs rec idle = runs_on-read s.rec k rec ∙ idle_elsewhere k _ idle

  -- one that waits for nothing runs
  by_pending-none : (request : Request) (pending : Option Pending) → IsTrue (is_none pending) → by_pending request pending ≡ exit_reason.Interrupt
  by_pending-none request None none = refl
  by_pending-none request (Some why) none = both_ways none refl

  -- the RIPAS that a realm asks for by a number has the number
  asked_number-asked : (number : ℕ) → ripas_number (ripas_asked number) ≡ asked_number number
  asked_number-asked number = by (number == 0)
    where
      by : (b : Bool) → ripas_number (if b then Empty else Ram) ≡ (if b then 0 else 1)
      by true = refl
      by false = refl

  -- a call that moves no CPU leaves it where it was
  stays : standing_of s k ≡ (if cpu == k then standing_of s k else standing_of s k)
  stays = sym (either_same (cpu == k) (standing_of s k) (standing_of s k) refl)

  -- where all rows hold
  behind-moved : (c : Call) → is_placed s cpu (class_of c) ≡ true → IsMoved c (behind s cpu c).1
  unfolding behind reached_change rec_updated class_of stands_after
  behind-moved (call.RecEnter rec) placed = λ can i.
      if cpu == k then Inside rec (by_pending-none no_request _ can.1.2 i) else (if idle-runs rec can.1.0 i then Outside else standing_of s k)
  behind-moved call.Exit placed = λ can. ap (λ (b : Bool). if b then Outside else standing_of s k) (own-runs placed)
  behind-moved (call.IpaStateSet base top ripas) placed = λ can.
      own-waits (exit_reason.RipasChange base top (ripas_number (ripas_asked ripas))) placed
      ∙ ap (λ (n : ℕ). if cpu == k then waits (exit_reason.RipasChange base top n) (standing_of s k) else standing_of s k)
      (asked_number-asked ripas)
  behind-moved (call.HostCall imm) placed = λ can. own-waits (exit_reason.HostCall imm) placed
  behind-moved call.CpuOff placed = λ can. own-waits (exit_reason.Psci (number_of function.CpuOff)) placed
  behind-moved call.SystemOff placed = λ can. own-waits (exit_reason.Psci (number_of function.SystemOff)) placed
  behind-moved (call.RttInitRipas rd base top) placed = λ end can. stays
  behind-moved (call.RttSetRipas rd rec base top) placed = λ end can.
      (λ i. if idle_elsewhere k _ can.1.0 i then Inside rec (reason_at (rec_updated (RequestMoved end) (rec_at s rec))) else
      (if idle-runs rec can.1.0 i then Outside else standing_of s k))
      ∙ stays
  behind-moved _ placed = λ can. stays

  -- so it is with what is accepted
  outcome-moved : (c : Call) (found : Accepted) → outcome s cpu c ≡ Ok found → IsMoved c found
  outcome-moved c found is = subst (IsMoved c) (outcome-leads s cpu c (Ok found) is).1 (behind-moved c (placed_accepted s cpu c found is))

-- a refusal moves none
refused-after : (c : Call) (refused : Refusal) (standing : Standing) → left_standing c (reply_of refused) standing ≡ standing
refused-after c (Misplaced condition) standing = refl
refused-after c _ standing = refl

module _ (s new : State) (cpu : ℕ) (command : Command) (given : Reply) (sound : IsSound s) (step : Step s cpu command given new) where
  -- the call
  abbrev called : Call
  called = call_of command

  -- a change that can be made, and says where a CPU is, leaves it there
  made-standing : (k : ℕ) (change : Change) → new ≡ changed s change → CanApply s change → IsMove s cpu k called (rec_replaced change)
      → standing_of new k ≡ standing_behind s cpu k called
  made-standing k change is can move =
      ap (λ (t : State). standing_of t k) is
      ∙ standing-changed s k change sound can (ap (λ (t : State). t.config) (sym is) ∙ (step-keeps s new cpu command given step).config)
      ∙ move (replaced_can s change can)

  -- what is carried out moves its CPU as its reply says
  carried-standing : (k : ℕ) (found : Result Accepted Refusal) → outcome s cpu called ≡ found → CarriesOut found s given new
      → standing_of new k ≡ (if cpu == k then left_standing called given (standing_of s k) else standing_of s k)
  carried-standing k (Err refused) is carried =
      rw (carried.0, carried.1) (sym (either_same (cpu == k) _ (standing_of s k) (refused-after called refused (standing_of s k))))
  carried-standing k (Ok (accepted.Done words change)) is carried =
      let found = accepted.Done words change in
      rw carried.0 (made-standing k change carried.1 (accepted_applies s cpu called found sound (whole_command command) is)
      (outcome-moved s cpu k called found is))
  carried-standing k (Ok (accepted.Reaches stretch)) is (top, (reached, is_ok, is_next)) =
      let found = accepted.Reaches stretch in
      rw is_ok (made-standing k (reached_change stretch top) is_next
      (accepted_applies s cpu called found sound (whole_command command) is top reached) (outcome-moved s cpu k called found is top))

  -- so does a step, and leaves each other CPU where it was
  pub step-standing : (k : ℕ) (own : Bool) → (cpu == k) ≡ own
      → standing_of new k ≡ (if own then left_standing called given (standing_of s k) else standing_of s k)
  step-standing k own is =
      carried-standing k (outcome s cpu called) refl step
      ∙ ap (λ (b : Bool). if b then left_standing called given (standing_of s k) else standing_of s k) is

-- ---- along an order

-- whatever moves a CPU leaves it where it does wherever that was
moved_anew : (c : Call) (given : Reply) (one other : Standing) → (is_accepted given && moves c) ≡ true
    → left_standing c given one ≡ left_standing c given other
unfolding stands_after moves
moved_anew (call.RecEnter rec) (reply.Ok words) one other moved = refl
moved_anew (call.RecEnter rec) _ one other moved = both_ways moved refl
moved_anew call.Exit (reply.Ok words) one other moved = refl
moved_anew call.Exit _ one other moved = both_ways moved refl
moved_anew _ given one other moved = both_ways (and_parts (is_accepted given) _ moved).1 refl

module _ (history : History) (is_history : IsHistory history) where
  -- a CPU is where the replies to its first calls, so many, leave it
  abbrev IsWhere : ℕ → ℕ → State → Type 0
  IsWhere cpu first s = (at : Standing) → StandsBefore history.events cpu first at → standing_of s cpu ≡ at

  -- so is each behind its lines
  abbrev pub AreWhere : List Line → State → Type 0
  AreWhere lines s = (cpu : ℕ) → IsWhere cpu (count_of cpu lines) s

  -- before any line all are outside
  pub AreWhere-nil : AreWhere [] (opening history.config)
  unfolding opening
  AreWhere-nil cpu = subst (λ (n : ℕ). IsWhere cpu n (opening history.config)) (sym (count_of-nil cpu)) (λ at is. sym is)

  -- lines of an order have led to the state, and the next one comes
  module _ (lines : List Line) (s new : State) (c : Claim history.events) (leads : LeadsOn history lines s c new) (cpu : ℕ) where
    -- what it claims
    abbrev e : JournalEntry
    e = c.entry

    -- a line of the CPU claims the command and the reply of its next call
    pub claims_next : (made back : ℕ) (asked : Command) (answered : Reply) → cpu_named c.line ≡ cpu
        → IsCalled history.events made cpu (count_of cpu lines) asked → IsReturned history.events back cpu (count_of cpu lines) answered
        → (e.command ≡ asked) × (e.given ≡ answered)
    claims_next made back asked answered same is_made is_back =
        let one = HasOnePlaces-from_history history is_history in
        let first = count_of cpu lines in
        let names : Names cpu first c = (same, leads.next.numbered ∙ ap (λ (k : ℕ). count_of k lines) same) in (
          same_command history.events one c.is_entry.called made (cpu_named c.line) (number_named c.line) e.command asked
              c.is_entry.is_called (of_named (λ x y. IsCalled history.events made x y asked) cpu first c names is_made),
          claimed_reply history.events one c.line c.kind e.given answered back c.is_entry.given
              (of_named (λ x y. IsReturned history.events back x y answered) cpu first c names is_back),
        )

    -- behind it the CPU is where that reply leaves it
    IsWhere-own : cpu_named c.line ≡ cpu → IsWhere cpu (count_of cpu lines) s → IsWhere cpu (suc (count_of cpu lines)) new
    IsWhere-own same is at (before, leaves, from) =
        let told = claims_next leaves.called leaves.returned leaves.command leaves.given same leaves.is_called leaves.is_returned in
        let left = left_standing (call_of leaves.command) leaves.given in
        step-standing s new e.cpu e.command e.given leads.sound leads.step cpu true (eq-eqb e.cpu cpu (c.is_entry.cpu ∙ same))
        ∙ (λ i. left_standing (call_of (told.0 i)) (told.1 i) (standing_of s cpu))
        ∙ elim from [
          | inl was ↦ ap left (is before was)
          | inr moved ↦ moved_anew (call_of leaves.command) leaves.given (standing_of s cpu) before moved
        ]
        ∙ leaves.is_left

    -- and behind a line of another CPU where it was
    IsWhere-push : IsWhere cpu (count_of cpu lines) s → IsWhere cpu (count_of cpu (lines ++ c.line ∷ [])) new
    IsWhere-push is = elim (cases_Bool (cpu_named c.line == cpu)) [
      | inl same ↦
          let of_cpu = eqb-true (cpu_named c.line) cpu same in
          let more = count_of-same cpu lines c.line of_cpu in
          let counted : suc (count_of cpu lines) ≡ count_of cpu (lines ++ c.line ∷ []) = omega (arith, more) in
          subst (λ (n : ℕ). IsWhere cpu n new) counted (IsWhere-own of_cpu is)
      | inr other ↦
          subst (λ (n : ℕ). IsWhere cpu n new) (sym (count_of-other cpu lines c.line other)) (λ at was.
          step-standing s new e.cpu e.command e.given leads.sound leads.step cpu false (ap (λ (k : ℕ). k == cpu) c.is_entry.cpu ∙ other)
          ∙ is at was)
    ]

  -- so with each line all are where they are
  pub AreWhere-push : (lines : List Line) (s new : State) (c : Claim history.events) → LeadsOn history lines s c new → AreWhere lines s
      → AreWhere (lines ++ c.line ∷ []) new
  AreWhere-push lines s new c leads are cpu = IsWhere-push lines s new c leads cpu (are cpu)
