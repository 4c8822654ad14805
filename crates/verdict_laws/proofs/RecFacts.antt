-- RECs: whose one is, whether it can run, and what it asks for while it runs on no CPU. What a call makes so stays so until another may end it, and
-- isn't denied.
use Rattle.verdict_laws.proofs.Common.{◌≡◌, ℕ, ◌==◌, ◌&&◌, ◌||◌, true, false, Bool, Option, Some, None, IsTrue, is_some, refl, sym, ◌∙◌, ap, eqb-true, eq-eqb, arith, inl, inr, is_none, unwrap_or, and_from, and_parts, cases_Bool, or_cases, or_parts, or_right, Call, Command, Reply, call_of, class_of, changed, rec_updated, is_inside, no_rec, rec_at, rec_inside, request_of, runs_on, is_accepted, IsSound, RecRecord, State, Step, is_placed, outcome, reached_change, both_ways, behind, inside_runs, step-refuses, Fact, holds}
use Rattle.std.specs.Prelude.{nat_le, nat_lt}
use Rattle.std.proofs.lemmas.Bool.{le-leb, ltb-true}
use Rattle.rmm_spec.specs.declared.call.Call.TheVariants as call
use Rattle.rmm_spec.specs.declared.change.RecUpdate.{RecUpdate}
use Rattle.rmm_spec.specs.declared.change.RecUpdate.TheVariants.{Entered, Exited, HostCalled, RequestMoved, RipasRequested, SystemTurnedOff, TurnedOff}
use Rattle.rmm_spec.specs.Lookup.{no_request, ripas_number}
use Rattle.rmm_spec.specs.State.{HostCall, Pending, Psci, Request, RipasChange}
use Rattle.rmm_spec.specs.Step.RealmCall.{ripas_asked}
use Rattle.verdict_laws.specs.declared.facts.Fact.TheVariants.{AsksFrom, RunsOrAsksTo, Idle, RunsOrAsksWithin}
use Rattle.verdict_laws.specs.declared.placing.ExitReason.{ExitReason}
use Rattle.verdict_laws.specs.declared.placing.ExitReason.TheVariants as exit_reason
use Rattle.verdict_laws.specs.declared.placing.Standing.{Standing}
use Rattle.verdict_laws.specs.declared.placing.Standing.TheVariants.{Inside}
use Rattle.verdict_laws.specs.Facts.{asks_from, can_run, destroys, enters, has_owner, is_idle, is_left_with, is_told, is_up_to, is_within, leaves_with, makes_owned, makes_rec, makes_runnable, moves_request, runs_or_asks, runs_or_asks_to, sets_from, turns_off}
use Rattle.verdict_laws.proofs.RecChanges.{StaysDone, met_record, rec-kept}
use Rattle.verdict_laws.proofs.Spared.{runs_on-read}
use Rattle.verdict_laws.proofs.SparedCalls.{idle_elsewhere}
use Rattle.verdict_laws.proofs.Standings.{by_pending, reason_at, standing-inside, standing_of}
use Rattle.verdict_laws.proofs.TagFacts.{IsCarried, carried_by}
use Rattle.lemmas.proofs.Tests.{apart}

-- ---- what a call makes

module _ (s : State) (cpu : ℕ) (given : Reply) (new : State) where
  -- REC_CREATE makes a REC of the realm
  made_owned : (rec rd : ℕ) (c : Call) → IsCarried s cpu c given new → makes_owned c rec rd ≡ true → has_owner (new.rec rec) rd ≡ true
  unfolding behind changed makes_owned
  made_owned rec rd (call.RecCreate its_rd other mpidr flags aux0 aux1) carried makes =
      let parts = and_parts (rec == other) (rd == its_rd) makes in
      rw (carried.done.1, parts.0) (eq-eqb its_rd rd (sym (eqb-true rd its_rd parts.1)))
  made_owned rec rd _ carried makes = both_ways makes refl

  -- and one that can run
  made_runnable : (rec : ℕ) (c : Call) → IsCarried s cpu c given new → makes_runnable c rec ≡ true → can_run (new.rec rec) ≡ true
  unfolding behind changed makes_runnable
  made_runnable rec (call.RecCreate rd other mpidr flags aux0 aux1) carried makes =
      let parts = and_parts (rec == other) (flags == 1) makes in rw (carried.done.1, parts.0) parts.1
  made_runnable rec _ carried makes = both_ways makes refl

  -- and one that runs on no CPU
  made_idle : (rec : ℕ) (c : Call) → IsCarried s cpu c given new → makes_rec c rec ≡ true → is_idle (new.rec rec) ≡ true
  unfolding behind changed makes_rec
  made_idle rec (call.RecCreate rd other mpidr flags aux0 aux1) carried makes =
      rw (carried.done.1, eq-eqb rec other (sym (eqb-true other rec makes))) refl
  made_idle rec _ carried makes = both_ways makes refl

  -- one asks for nothing once it is made, and for the rest of a stretch once a part is set
  pub made_request : (rec base : ℕ) (c : Call) → IsCarried s cpu c given new → moves_request c given rec base ≡ true
      → asks_from (new.rec rec) base ≡ true
  unfolding behind changed reached_change rec_updated moves_request
  made_request rec base (call.RecCreate rd other mpidr flags aux0 aux1) carried makes =
      let parts = and_parts (rec == other) (base == 0) makes in
      rw (carried.done.1, parts.0) (eq-eqb 0 base (sym (eqb-true base 0 parts.1)))
  made_request rec base (call.RttSetRipas rd other from top) carried makes =
      let parts = and_parts (rec == other) (is_told base given) makes in
      let (end, (reached, is_ok, is_next)) = carried.done in
      let told = eqb-true base end (ap (is_told base) (sym is_ok) ∙ parts.1) in
      rw (is_next, parts.0) (and_from _ _ carried.rows.1.0 (eq-eqb end base (sym told)))
  made_request rec base _ carried makes = both_ways makes refl

-- ---- what calls leave

-- a call that sets a part of what the REC asks for
unfoldable sets_request : Call → ℕ → Bool
sets_request (call.RttSetRipas rd other base top) rec = rec == other
sets_request _ rec = false

module _ (test : Option RecRecord → Bool) (absent : test None ≡ false) (rec : ℕ) (s : State) (met : test (s.rec rec) ≡ true) (cpu : ℕ) where
  -- A test that goes by neither where a REC runs nor what it asks for is met behind a call that doesn't destroy the REC; one that turns off is looked
  -- at apart.
  keeps_record : ((update : RecUpdate) → ¬ (update ≡ TurnedOff) → test (Some (rec_updated update (rec_at s rec))) ≡ true) → (c : Call)
      → destroys c rec ≡ false → (turns_off c ≡ true → test (Some (rec_updated TurnedOff (rec_at s rec))) ≡ true)
      → StaysDone test absent rec s met (behind s cpu c).1
  unfolding behind destroys reached_change turns_off
  keeps_record updated (call.RecDestroy other) keeps off = apart other rec keeps
  keeps_record updated (call.RecEnter other) keeps off = λ here. updated (Entered cpu) (λ same. cc)
  keeps_record updated (call.IpaStateSet base top ripas) keeps off = λ here. updated (RipasRequested base top (ripas_asked ripas)) (λ same. cc)
  keeps_record updated (call.HostCall imm) keeps off = λ here. updated (HostCalled imm) (λ same. cc)
  keeps_record updated call.CpuOff keeps off = λ here. off refl
  keeps_record updated call.SystemOff keeps off = λ here. updated SystemTurnedOff (λ same. cc)
  keeps_record updated call.Exit keeps off = λ here. updated Exited (λ same. cc)
  keeps_record updated (call.RttInitRipas rd base top) keeps off = λ end reached. tt
  keeps_record updated (call.RttSetRipas rd other base top) keeps off = λ end reached here. updated (RequestMoved end) (λ same. cc)
  keeps_record updated _ keeps off = tt

  module _ (idle : (found : Option RecRecord) → test found ≡ true → IsTrue (is_none (unwrap_or found no_rec).cpu)) where
    -- a REC that runs on no CPU isn't the one that the CPU is inside of
    not_own : is_inside s cpu ≡ true → rec ≡ rec_inside s cpu → ⊥
    not_own inside here =
        both_ways (inside_runs s cpu inside)
        (ap (λ g. runs_on cpu (s.rec g)) (sym here) ∙ runs_on-read s.rec cpu rec ∙ idle_elsewhere cpu _ (idle (s.rec rec) met))

    -- so a test that asks for that is met behind a call that neither destroys nor enters it, where it is once a part of a stretch is set
    keeps_idle : (c : Call) → is_placed s cpu (class_of c) ≡ true → (destroys c rec || enters c rec) ≡ false
        → ((end : ℕ) → sets_request c rec ≡ true → test (Some (rec_updated (RequestMoved end) (rec_at s rec))) ≡ true)
        → StaysDone test absent rec s met (behind s cpu c).1
    unfolding behind class_of destroys enters sets_request reached_change
    keeps_idle (call.RecDestroy other) placed keeps moved = apart other rec (or_parts (other == rec) false keeps).0
    keeps_idle (call.RecEnter other) placed keeps moved = λ here. both_ways (eq-eqb rec other here) keeps
    keeps_idle (call.IpaStateSet base top ripas) placed keeps moved = λ here. absurd (not_own (and_parts (is_inside s cpu) _ placed).0 here)
    keeps_idle (call.HostCall imm) placed keeps moved = λ here. absurd (not_own (and_parts (is_inside s cpu) _ placed).0 here)
    keeps_idle call.CpuOff placed keeps moved = λ here. absurd (not_own (and_parts (is_inside s cpu) _ placed).0 here)
    keeps_idle call.SystemOff placed keeps moved = λ here. absurd (not_own (and_parts (is_inside s cpu) _ placed).0 here)
    keeps_idle call.Exit placed keeps moved = λ here. absurd (not_own placed here)
    keeps_idle (call.RttInitRipas rd base top) placed keeps moved = λ end reached. tt
    keeps_idle (call.RttSetRipas rd other base top) placed keeps moved = λ end reached here. moved end (eq-eqb rec other here)
    keeps_idle _ placed keeps moved = tt

-- ---- tests

-- whose a REC is, and whether it can run, goes by no update but that it turns itself off
owner_updated : (rd : ℕ) (update : RecUpdate) (rec : RecRecord) → has_owner (Some rec) rd ≡ true → has_owner (Some (rec_updated update rec)) rd ≡ true
unfolding rec_updated
owner_updated rd (Entered cpu) rec is = is
owner_updated rd Exited rec is = is
owner_updated rd (RipasRequested base top ripas) rec is = is
owner_updated rd (HostCalled imm) rec is = is
owner_updated rd TurnedOff rec is = is
owner_updated rd SystemTurnedOff rec is = is
owner_updated rd (RequestMoved base) rec is = is

runnable_updated : (update : RecUpdate) (rec : RecRecord) → ¬ (update ≡ TurnedOff) → can_run (Some rec) ≡ true
    → can_run (Some (rec_updated update rec)) ≡ true
unfolding rec_updated
runnable_updated (Entered cpu) rec other is = is
runnable_updated Exited rec other is = is
runnable_updated (RipasRequested base top ripas) rec other is = is
runnable_updated (HostCalled imm) rec other is = is
runnable_updated TurnedOff rec other is = absurd (other refl)
runnable_updated SystemTurnedOff rec other is = is
runnable_updated (RequestMoved base) rec other is = is

-- what runs on no CPU is there, and is read so
pub idle_there : (found : Option RecRecord) → is_idle found ≡ true → is_some found ≡ true
idle_there None idle = both_ways idle refl
idle_there (Some rec) idle = refl

pub idle_read : (found : Option RecRecord) → is_idle found ≡ true → is_none (unwrap_or found no_rec).cpu ≡ true
idle_read None idle = both_ways idle refl
idle_read (Some rec) idle = idle

-- so it is once a part of what it asks for is set
idle_moved : (end : ℕ) (rec : RecRecord) → is_idle (Some rec) ≡ true → is_idle (Some (rec_updated (RequestMoved end) rec)) ≡ true
unfolding rec_updated
idle_moved end rec idle = idle

-- what asks so runs on no CPU
from_idle : (base : ℕ) (found : Option RecRecord) → asks_from found base ≡ true → IsTrue (is_none (unwrap_or found no_rec).cpu)
from_idle base None asks = both_ways asks refl
from_idle base (Some rec) asks = (and_parts (is_none rec.cpu) _ asks).0

-- what is asked for is read so
up_to_read : (found : Option Request) (top ripas : ℕ) → is_up_to found top ripas ≡ true
    → (is_some found ≡ true) × ((unwrap_or found no_request).top ≡ top) × (ripas_number (unwrap_or found no_request).ripas ≡ ripas)
up_to_read None top ripas is = both_ways is refl
up_to_read (Some request) top ripas is =
    let parts = and_parts (request.top == top) (ripas_number request.ripas == ripas) is in
    (refl, eqb-true request.top top parts.0, eqb-true (ripas_number request.ripas) ripas parts.1)

-- so it is once a part of it is set
pub to_moved : (top ripas end : ℕ) (rec : RecRecord) → runs_or_asks_to (Some rec) top ripas ≡ true
    → runs_or_asks_to (Some (rec_updated (RequestMoved end) rec)) top ripas ≡ true
unfolding rec_updated
to_moved top ripas end rec asks = elim (or_cases (is_some rec.cpu) (is_up_to rec.request top ripas) asks) [
  | inl runs ↦ ap (λ (b : Bool). b || ((unwrap_or rec.request no_request).top == top
      && ripas_number (unwrap_or rec.request no_request).ripas == ripas)) runs
  | inr ends ↦
      (let read = up_to_read rec.request top ripas ends in
      or_right (is_some rec.cpu) _ (and_from _ _ (eq-eqb _ top read.1) (eq-eqb _ ripas read.2)))
]

-- what begins there is read so
pub from_read : (base : ℕ) (found : Option RecRecord) → asks_from found base ≡ true
    → (is_none (unwrap_or found no_rec).cpu ≡ true) × ((request_of (unwrap_or found no_rec)).base ≡ base) × (is_some found ≡ true)
from_read base None asks = both_ways asks refl
from_read base (Some rec) asks =
    let parts = and_parts (is_none rec.cpu) ((request_of rec).base == base) asks in (parts.0, eqb-true _ base parts.1, refl)

pub to_read : (top ripas : ℕ) (found : Option RecRecord) → runs_or_asks_to found top ripas ≡ true
    → IsTrue (is_none (unwrap_or found no_rec).cpu)
    → (is_some (unwrap_or found no_rec).request ≡ true) × ((request_of (unwrap_or found no_rec)).top ≡ top)
    × (ripas_number (request_of (unwrap_or found no_rec)).ripas ≡ ripas)
to_read top ripas None asks idle = both_ways asks refl
to_read top ripas (Some rec) asks idle = by rec.cpu asks idle
  where
    by : (at : Option ℕ) → (is_some at || is_up_to rec.request top ripas) ≡ true → IsTrue (is_none at)
        → (is_some rec.request ≡ true) × ((request_of rec).top ≡ top) × (ripas_number (request_of rec).ripas ≡ ripas)
    by None asks idle = up_to_read rec.request top ripas asks
    by (Some k) asks idle = both_ways idle refl

pub owner_read : (rd : ℕ) (found : Option RecRecord) → has_owner found rd ≡ true → (unwrap_or found no_rec).owner ≡ rd
owner_read rd None is = both_ways is refl
owner_read rd (Some rec) is = eqb-true rec.owner rd is

pub run_read : (found : Option RecRecord) → can_run found ≡ true → (unwrap_or found no_rec).runnable ≡ true
run_read None is = both_ways is refl
run_read (Some rec) is = is

-- what asks so on no CPU runs or asks so, or from later on
pub runs_or_asks-asking : (base most : ℕ) (found : Option RecRecord) → asks_from found base ≡ true → nat_le base most ≡ true
    → runs_or_asks found base most ≡ true
runs_or_asks-asking base most None asks ends = both_ways asks refl
runs_or_asks-asking base most (Some rec) asks ends =
    let parts = and_parts (is_none rec.cpu) ((request_of rec).base == base) asks in
    or_right (is_some rec.cpu) _ (ap (is_within base most) (eqb-true (request_of rec).base base parts.1)
    ∙ and_from (nat_le base base) (nat_le base most) (le-leb base base (omega arith)) ends)

-- ---- a REC that leaves

-- why it does, if it asks for a RIPAS, says what it asks for
pending_asked : (request : Request) (pending : Option Pending) (base top ripas : ℕ)
    → by_pending request pending ≡ exit_reason.RipasChange base top ripas
    → (request.base ≡ base) × (request.top ≡ top) × (ripas_number request.ripas ≡ ripas)
pending_asked request None base top ripas is = cc
pending_asked request (Some (Psci function)) base top ripas is = cc
pending_asked request (Some RipasChange) base top ripas is = (cc, cc, cc)
pending_asked request (Some (HostCall imm)) base top ripas is = cc

-- it asks for something, where that has pages
up_to_asked : (found : Option Request) (base top ripas : ℕ) → (unwrap_or found no_request).top ≡ top
    → ripas_number (unwrap_or found no_request).ripas ≡ ripas → nat_lt base top ≡ true → is_up_to found top ripas ≡ true
up_to_asked None base top ripas ends kind some = let more = ltb-true base top some in absurd (omega (arith, ends, more))
up_to_asked (Some request) base top ripas ends kind some = and_from _ _ (eq-eqb _ top ends) (eq-eqb _ ripas kind)

module _ (s : State) (cpu : ℕ) (given : Reply) (new : State) (rec base top ripas : ℕ)
    (stands : standing_of s cpu ≡ Inside rec (exit_reason.RipasChange base top ripas)) where
  -- its record, and what that says then
  left_asking : IsCarried s cpu call.Exit given new
      → (asks_from (new.rec rec) base ≡ true) × (nat_lt base top ≡ true → runs_or_asks_to (new.rec rec) top ripas ≡ true)
  unfolding behind class_of changed rec_updated
  left_asking carried =
      let at = rec_inside s cpu in
      let r = rec_at s at in
      let is : Inside at (reason_at r) ≡ Inside rec (exit_reason.RipasChange base top ripas) =
      sym (standing-inside s cpu carried.placed) ∙ stands in
      let here : rec ≡ at = cc in
      let why : reason_at r ≡ exit_reason.RipasChange base top ripas = cc in
      let asked = pending_asked (request_of r) r.pending base top ripas why in
      let own = eq-eqb rec at here in (
        rw (carried.done.1, own) (eq-eqb _ base asked.0),
        λ some. rw (carried.done.1, own) (up_to_asked r.request base top ripas asked.1 asked.2 some),
      )

-- one that leaves runs on no CPU
left_idle : (s : State) (cpu : ℕ) (given : Reply) (new : State) (rec : ℕ) (reason : ExitReason) → standing_of s cpu ≡ Inside rec reason
    → IsCarried s cpu call.Exit given new → is_idle (new.rec rec) ≡ true
unfolding behind class_of changed rec_updated
left_idle s cpu given new rec reason stands carried =
    let at = rec_inside s cpu in
    let is : Inside at (reason_at (rec_at s at)) ≡ Inside rec reason = sym (standing-inside s cpu carried.placed) ∙ stands in
    let here : rec ≡ at = cc in
    rw (carried.done.1, eq-eqb rec at here) refl

-- ---- steps

module _ (rec : ℕ) (s new : State) (cpu : ℕ) (command : Command) (given : Reply) (sound : IsSound s) (step : Step s cpu command given new) where
  -- the call
  abbrev c : Call
  c = call_of command

  -- where it is accepted, it is carried out
  carried : is_accepted given ≡ true → IsCarried s cpu c given new
  carried accepted = carried_by s cpu command given new (outcome s cpu c) sound accepted refl step

  module _ (rd : ℕ) where
    -- where a call makes the REC, it is the realm's
    pub owned-made : is_accepted given ≡ true → makes_owned c rec rd ≡ true → has_owner (new.rec rec) rd ≡ true
    owned-made accepted = made_owned s cpu given new rec rd c (carried accepted)

    -- and stays so until it is destroyed
    pub owned-left : destroys c rec ≡ false → has_owner (s.rec rec) rd ≡ true → has_owner (new.rec rec) rd ≡ true
    owned-left keeps is =
        let test = λ (found : Option RecRecord). has_owner found rd in
        let updated = λ (update : RecUpdate). owner_updated rd update (rec_at s rec) (met_record test refl rec s is) in
        rec-kept test refl rec s is new cpu command given sound step (λ placed.
        keeps_record test refl rec s is cpu (λ update _. updated update) c keeps (λ _. updated TurnedOff))

  -- it runs on no CPU where a call makes it
  pub idle-made : is_accepted given ≡ true → makes_rec c rec ≡ true → is_idle (new.rec rec) ≡ true
  idle-made accepted = made_idle s cpu given new rec c (carried accepted)

  -- until it is destroyed, or entered
  pub idle-left : (destroys c rec || enters c rec) ≡ false → is_idle (s.rec rec) ≡ true → is_idle (new.rec rec) ≡ true
  idle-left keeps is =
      rec-kept is_idle refl rec s is new cpu command given sound step (λ placed.
      keeps_idle is_idle refl rec s is cpu idle_read c placed keeps (λ end _.
      idle_moved end (rec_at s rec) (met_record is_idle refl rec s is)))

  -- where a call makes it so, it can run
  pub runnable-made : is_accepted given ≡ true → makes_runnable c rec ≡ true → can_run (new.rec rec) ≡ true
  runnable-made accepted = made_runnable s cpu given new rec c (carried accepted)

  -- until it is destroyed, or a REC turns itself off
  pub runnable-left : (destroys c rec || turns_off c) ≡ false → can_run (s.rec rec) ≡ true → can_run (new.rec rec) ≡ true
  runnable-left keeps is =
      let parts = or_parts (destroys c rec) (turns_off c) keeps in
      rec-kept can_run refl rec s is new cpu command given sound step (λ placed.
      keeps_record can_run refl rec s is cpu (λ update other. runnable_updated update (rec_at s rec) other (met_record can_run refl rec s is)) c
      parts.0 (λ off. both_ways off parts.1))

  module _ (base : ℕ) where
    -- where a call makes it ask for that, it does
    pub from-made : is_accepted given ≡ true → moves_request c given rec base ≡ true → asks_from (new.rec rec) base ≡ true
    from-made accepted = made_request s cpu given new rec base c (carried accepted)

    -- a part is set from there on, if one is
    set_from : (asked : Call) → IsCarried s cpu asked given new → asks_from (s.rec rec) base ≡ true → sets_request asked rec ≡ true
        → sets_from asked rec base ≡ true
    unfolding behind rec_at sets_from sets_request
    set_from (call.RttSetRipas rd other from top) carried is sets =
        let here = ap (λ g. (request_of (unwrap_or (s.rec g) no_rec)).base) (sym (eqb-true rec other sets)) in
        and_from _ _ sets (eq-eqb base from (sym (eqb-true from _ carried.rows.1.1.1.0 ∙ here ∙ (from_read base (s.rec rec) is).1)))
    set_from _ carried is sets = both_ways sets refl

    -- until it is destroyed, is entered, or a part is set from there on
    pub from-left : (destroys c rec || enters c rec || sets_from c rec base) ≡ false → asks_from (s.rec rec) base ≡ true
        → asks_from (new.rec rec) base ≡ true
    from-left keeps is =
        let test = λ (found : Option RecRecord). asks_from found base in
        let parts = or_parts (destroys c rec || enters c rec) (sets_from c rec base) keeps in
        elim (cases_Bool (is_accepted given)) [
          | inl accepted ↦ rec-kept test refl rec s is new cpu command given sound step (λ placed.
              keeps_idle test refl rec s is cpu (from_idle base) c placed parts.0 (λ end sets.
              both_ways (set_from c (carried accepted) is sets) parts.1))
          | inr refused ↦ ap (λ (t : State). test (t.rec rec)) (step-refuses s new cpu command given step refused) ∙ is
        ]

-- ---- RECs that leave

-- where a REC leaves, so it is of it
pub leaves-made : (fact : Fact) (s new : State) (cpu : ℕ) (command : Command) (given : Reply) (standing : Standing) → IsSound s
    → Step s cpu command given new → is_accepted given ≡ true → standing_of s cpu ≡ standing
    → leaves_with fact (call_of command) standing ≡ true → holds fact new ≡ true
unfolding leaves_with
leaves-made fact s new cpu command given standing sound step accepted =
    let c = call_of command in by c standing (carried_by s cpu command given new (outcome s cpu c) sound accepted refl step)
  where
    from_reason : (rec base at from top ripas : ℕ) → IsCarried s cpu call.Exit given new
        → standing_of s cpu ≡ Inside at (exit_reason.RipasChange from top ripas) → (rec == at && base == from) ≡ true
        → asks_from (new.rec rec) base ≡ true
    from_reason rec base at from top ripas carried stands leaves =
        let parts = and_parts (rec == at) (base == from) leaves in
        (λ i. asks_from (new.rec (eqb-true rec at parts.0 i)) (eqb-true base from parts.1 i))
        ∙ (left_asking s cpu given new at from top ripas stands carried).0

    of_reason : (fact : Fact) (rec : ℕ) (reason : ExitReason) → IsCarried s cpu call.Exit given new → standing_of s cpu ≡ Inside rec reason
        → is_left_with fact rec reason ≡ true → holds fact new ≡ true
    of_reason (Idle rec) at reason carried stands leaves =
        ap (λ g. is_idle (new.rec g)) (eqb-true rec at leaves) ∙ left_idle s cpu given new at reason stands carried
    of_reason (AsksFrom rec base) at (exit_reason.RipasChange from top ripas) carried stands leaves =
        from_reason rec base at from top ripas carried stands leaves
    of_reason (RunsOrAsksWithin rec least most) at (exit_reason.RipasChange from top ripas) carried stands leaves =
        let parts = and_parts (rec == at && least == from) (nat_le least most) leaves in
        runs_or_asks-asking least most (new.rec rec) (from_reason rec least at from top ripas carried stands parts.0) parts.1
    of_reason (RunsOrAsksTo rec top ripas) at (exit_reason.RipasChange from its_top its_ripas) carried stands leaves =
        let parts = and_parts (rec == at && top == its_top && ripas == its_ripas) (nat_lt from its_top) leaves in
        let outer = and_parts (rec == at && top == its_top) (ripas == its_ripas) parts.0 in
        let inner = and_parts (rec == at) (top == its_top) outer.0 in
        (λ i. runs_or_asks_to (new.rec (eqb-true rec at inner.0 i)) (eqb-true top its_top inner.1 i) (eqb-true ripas its_ripas outer.1 i))
        ∙ (left_asking s cpu given new at from its_top its_ripas stands carried).1 parts.1
    of_reason _ at _ carried stands leaves = both_ways leaves refl

    by : (c : Call) (standing : Standing) → IsCarried s cpu c given new → standing_of s cpu ≡ standing
        → leaves_with fact c standing ≡ true → holds fact new ≡ true
    by call.Exit (Inside rec reason) carried stands leaves = of_reason fact rec reason carried stands leaves
    by _ _ carried stands leaves = both_ways leaves refl
