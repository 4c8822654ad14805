-- A step keeps what is known of a register.
use Rattle.verdict_laws.proofs.Common.{Result, Ok, Err, is_none, ◌≡◌, ℕ, ◌==◌, ◌&&◌, if◌then◌else◌, Bool, false, IsTrue, List, [], ◌∷◌, Option, Some, None, refl, sym, ◌∙◌, ap, subst, and_parts, both_ways, Accepted, Done, Reaches, Call, Change, RealmMade, RecMade, Unchanged, Command, Measurement, Refusal, Reply, CanApply, call_of, class_of, changed, new_rec, rec_updated, is_inside, rec_inside, realm_at, rec_at, runs_on, ok, IsSound, State, CarriesOut, Step, answer_of, is_placed, misplacement, outcome, with_front, IsReached, reached_change, behind, by_address, inside_runs, realm_there, rec_there, Register}
use Rattle.std.proofs.lemmas.Bool.{eq-eqb, eqb-true}
use Rattle.rmm_spec.specs.declared.call.Call.TheVariants as call
use Rattle.rmm_spec.specs.declared.change.RealmUpdate.TheVariants as realm_update
use Rattle.rmm_spec.specs.declared.change.RecUpdate.TheVariants as rec_update
use Rattle.rmm_spec.specs.declared.refusal.Refusal.TheVariants as refusal
use Rattle.rmm_spec.specs.declared.reply.Reply.TheVariants as reply
use Rattle.rmm_spec.specs.Change.{measurement_at}
use Rattle.rmm_spec.specs.Lookup.{is_cpu}
use Rattle.rmm_spec.specs.Measure.{measurement_words}
use Rattle.rmm_spec.specs.Rows.{reply_of}
use Rattle.rmm_spec.specs.Step.RealmCall.{realm_change, rec_change}
use Rattle.rmm_laws.proofs.Applies.{Applies, inside_running}
use Rattle.rmm_laws.proofs.ByRows.{decided-accepted, row_holds}
use Rattle.rmm_laws.proofs.Cases.{choice, nothing_there}
use Rattle.rmm_laws.proofs.Commands.{IsWhole, accepted_applies, whole_command}
use Rattle.rmm_laws.proofs.Searches.{none_runs}
use Rattle.verdict_laws.specs.Registers.{Begins, Extends, FitsValue, IsRegister, Reads, RegisterCall, done_call, entered_after, is_mine, register_call, value_after}
use Rattle.verdict_laws.proofs.RegisterChanges.{AreKnownRecs, IsKnownRealm, changed-realm, changed-recs, extended-realm, made-realm, measurement_at-rem, put-recs, touches_rec, touches_rem}
use Rattle.verdict_laws.proofs.RegisterStates.{Knows}

-- a REC that the command asks for is mine where it is asked for the register's realm
abbrev pub IsMineAsked : Register → (ℕ → Bool) → Command → Type 0
IsMineAsked register mine command = (rd rec mpidr flags aux0 aux1 : ℕ) → call_of command ≡ call.RecCreate rd rec mpidr flags aux0 aux1
    → mine rec ≡ (rd == register.rd)

-- what each CPU has entered last after one more call of a CPU
abbrev pub entered_then : (ℕ → Option ℕ) → ℕ → Command → Reply → ℕ → Option ℕ
entered_then entered cpu command given other = if other == cpu then entered_after (entered cpu) (call_of command) given else entered other

-- what is some CPU is that one
is_cpu-some : (cpu : ℕ) (found : Option ℕ) → IsTrue (is_cpu cpu found) → found ≡ Some cpu
is_cpu-some cpu None on = both_ways on refl
is_cpu-some cpu (Some other) on = ap Some (eqb-true other cpu on)

-- a refused call does nothing to the register
refused-done : (register : Register) (mine : ℕ → Bool) (entered : Option ℕ) (c : Call) (refused : Refusal)
    → done_call register mine entered c (reply_of refused) ≡ None
refused-done register mine entered c (refusal.Misplaced condition) = refl
refused-done register mine entered c _ = refl

-- a refused entry enters nothing
refused-entry : (old : Option ℕ) (rec : ℕ) (refused : Refusal) → entered_after old (call.RecEnter rec) (reply_of refused) ≡ old
refused-entry old rec (refusal.Misplaced condition) = refl
refused-entry old rec _ = refl

-- nor does any other refused call
refused-entered : (old : Option ℕ) (c : Call) (refused : Refusal) → entered_after old c (reply_of refused) ≡ old
refused-entered old (call.RecEnter rec) refused = refused-entry old rec refused
refused-entered old _ refused = refl

module _ (s : State) (cpu : ℕ) (register : Register) (mine : ℕ → Bool) (entered : ℕ → Option ℕ) (value : Option Measurement)
    (sound : IsSound s) (is_register : IsRegister register) (knows : Knows s register mine entered value) where
  -- what each CPU has entered last where the one entered that
  abbrev entered_now : Option ℕ → ℕ → Option ℕ
  entered_now last other = if other == cpu then last else entered other

  -- a reading is told the value, and as much is known after the call, by what it did to the register and what its CPU has entered last
  abbrev IsAnswered : Option RegisterCall → Option ℕ → Reply → State → Type 0
  IsAnswered done last given new = FitsValue done value given × Knows new register mine (entered_now last) (value_after done value)

  -- ---- what is known

  -- what is known is known of the RECs and of the realm
  recs-known : AreKnownRecs register mine entered s.rec
  recs-known g c is = (knows.owned g c is, λ other. knows.running g other c is)

  realm-known : IsKnownRealm register value s.realm
  realm-known realm is = knows.holds realm is ∙ ap Some (measurement_at-rem register realm is_register)

  -- and the other way round
  known : (new : State) (now : ℕ → Option ℕ) (after : Option Measurement) → AreKnownRecs register mine now new.rec
      → IsKnownRealm register after new.realm → Knows new register mine now after
  known new now after recs realm = record {
    running = λ g other c is. (recs g c is).1 other;
    owned = λ g c is. (recs g c is).0;
    holds = λ r is. realm r is ∙ ap Some (sym (measurement_at-rem register r is_register));
  }

  -- a CPU that enters nothing has entered last what it had
  entered_now-same : entered_now (entered cpu) ≡ entered
  entered_now-same = λ i other. same other i
    where
      same : (other : ℕ) → entered_now (entered cpu) other ≡ entered other
      same other = by_address (λ o. o ≡ entered other) other cpu (entered cpu) (entered other) (λ here. ap entered (sym here)) (λ _. refl)

  -- so what is known of the RECs is known still where none is made or entered
  kept-recs : (change : Change) → CanApply s change → touches_rec change ≡ false
      → AreKnownRecs register mine (entered_now (entered cpu)) (changed s change).rec
  kept-recs change can other =
      subst (λ e. AreKnownRecs register mine e (changed s change).rec) (sym entered_now-same)
      (changed-recs register mine entered s change sound can other recs-known)

  -- and of the realm where none is made and no measurement extended
  kept-realm : (change : Change) → CanApply s change → touches_rem change ≡ false → IsKnownRealm register value (changed s change).realm
  kept-realm change can other = changed-realm register value s change sound can other realm-known

  -- all is known still where neither is
  kept : (change : Change) → CanApply s change → touches_rec change ≡ false → touches_rem change ≡ false
      → Knows (changed s change) register mine (entered_now (entered cpu)) value
  kept change can recs realm = known (changed s change) (entered_now (entered cpu)) value (kept-recs change can recs) (kept-realm change can realm)

  -- ---- the realm that the CPU runs a REC of

  -- a CPU that is inside of a REC entered it last, so the REC is mine where its realm is the register's
  inside-mine : IsTrue (is_inside s cpu) → is_mine mine (entered cpu) ≡ ((rec_at s (rec_inside s cpu)).owner == register.rd)
  inside-mine inside =
      let rec = rec_inside s cpu in
      let there = rec_there s rec sound (inside_running s cpu sound inside).tag in
      let on : (rec_at s rec).cpu ≡ Some cpu = is_cpu-some cpu (rec_at s rec).cpu (sym (ap (runs_on cpu) there) ∙ inside_runs s cpu inside) in
      ap (is_mine mine) (knows.running rec cpu (rec_at s rec) there on) ∙ knows.owned rec (rec_at s rec) there

  -- ---- by kind of call

  -- a realm is made
  realm_made-answered : (rd root width level vmid algo : ℕ) (given : Reply) → CanApply s (RealmMade rd root width level vmid algo)
      → IsAnswered (if rd == register.rd then Some (Begins algo) else None) (entered cpu) given (changed s (RealmMade rd root width level vmid algo))
  unfolding changed
  realm_made-answered rd root width level vmid algo given can =
      let change = RealmMade rd root width level vmid algo in (
        by_address (λ done. FitsValue done value given) rd register.rd (Some (Begins algo)) None (λ _. tt) (λ _. tt),
        known (changed s change) (entered_now (entered cpu)) _ (kept-recs change can refl)
            (made-realm register value s.realm rd root width level vmid algo is_register realm-known),
      )

  -- a REC is made
  rec_made-known : (rd rec mpidr flags aux0 aux1 : ℕ) → mine rec ≡ (rd == register.rd) → CanApply s (RecMade rd rec mpidr flags aux0 aux1)
      → Knows (changed s (RecMade rd rec mpidr flags aux0 aux1)) register mine (entered_now (entered cpu)) value
  unfolding changed
  rec_made-known rd rec mpidr flags aux0 aux1 asked can =
      let change = RecMade rd rec mpidr flags aux0 aux1 in
      known (changed s change) (entered_now (entered cpu)) value
      (subst (λ e. AreKnownRecs register mine e (changed s change).rec) (sym entered_now-same)
      (put-recs register mine entered s.rec rec (new_rec rd mpidr flags aux0 aux1) recs-known (asked, λ other bad. nothing_there refl bad)))
      (kept-realm change can refl)

  -- no REC that runs is on a CPU that is inside of none
  out-recs : (last : Option ℕ) → is_inside s cpu ≡ false → AreKnownRecs register mine (entered_now last) s.rec
  out-recs last out g c is = (
    knows.owned g c is,
    λ other on. by_address (λ o. o ≡ Some g) other cpu last (entered other)
        (λ here. both_ways (ap (runs_on cpu) is ∙ ap (is_cpu cpu) on ∙ eq-eqb other cpu here) (none_runs s cpu sound out g))
        (λ _. knows.running g other c is on),
  )

  -- a REC is entered
  entered-known : (rec : ℕ) → CanApply s (rec_change rec (rec_update.Entered cpu))
      → Knows (changed s (rec_change rec (rec_update.Entered cpu))) register mine (entered_now (Some rec)) value
  unfolding changed rec_updated
  entered-known rec can =
      let change = rec_change rec (rec_update.Entered cpu) in
      let old = rec_at s rec in
      known (changed s change) (entered_now (Some rec)) value
      (put-recs register mine (entered_now (Some rec)) s.rec rec (rec_updated (rec_update.Entered cpu) old) (out-recs (Some rec) can.1.1.1) (
        knows.owned rec old (rec_there s rec sound can.1.0),
        λ other on. by_address (λ o. o ≡ Some rec) other cpu (Some rec) (entered other) (λ _. refl)
            (λ apart. both_ways (eq-eqb other cpu (let same : Some cpu ≡ Some other = on in cc)) apart),
      ))
      (kept-realm change can refl)

  -- a measurement is extended
  extended-answered : (index size : ℕ) (values : List ℕ) (given : Reply) → IsTrue (is_inside s cpu)
      → CanApply s (realm_change (rec_at s (rec_inside s cpu)).owner (realm_update.MeasurementExtended index size values))
      → IsAnswered (if index == register.index && is_mine mine (entered cpu) then Some (Extends size values) else None) (entered cpu) given
      (changed s (realm_change (rec_at s (rec_inside s cpu)).owner (realm_update.MeasurementExtended index size values)))
  unfolding changed
  extended-answered index size values given inside can =
      let rd = (rec_at s (rec_inside s cpu)).owner in
      let change = realm_change rd (realm_update.MeasurementExtended index size values) in
      rw (inside-mine inside) (
        choice (λ done. FitsValue done value given) _ (index == register.index && rd == register.rd) (Some (Extends size values)) None refl
            (λ _. tt) (λ _. tt),
        known (changed s change) (entered_now (entered cpu)) _ (kept-recs change can refl)
            (extended-realm s register value rd index size values sound is_register can.0.1.0 can.0.0 realm-known),
      )

  -- the register that is read is the realm's
  read-value : (index : ℕ) → IsTrue (is_inside s cpu) → IsTrue (index == register.index && is_mine mine (entered cpu))
      → value ≡ Some (measurement_at (realm_at s (rec_at s (rec_inside s cpu)).owner) index)
  read-value index inside hit =
      let rd = (rec_at s (rec_inside s cpu)).owner in
      let parts = and_parts (index == register.index) (is_mine mine (entered cpu)) hit in
      let there = realm_there s rd sound (inside_running s cpu sound inside).owner in
      let at : rd ≡ register.rd = eqb-true rd register.rd (sym (inside-mine inside) ∙ parts.1) in
      knows.holds (realm_at s rd) (rw (← at) there) ∙ ap (λ k. Some (measurement_at (realm_at s rd) k)) (sym (eqb-true index register.index parts.0))

  -- a measurement is read
  read-answered : (index : ℕ) → IsTrue (is_inside s cpu)
      → IsAnswered (if index == register.index && is_mine mine (entered cpu) then Some Reads else None) (entered cpu)
      (ok (measurement_words (measurement_at (realm_at s (rec_at s (rec_inside s cpu)).owner) index))) (changed s Unchanged)
  read-answered index inside =
      let m = measurement_at (realm_at s (rec_at s (rec_inside s cpu)).owner) index in
      choice (λ done. IsAnswered done (entered cpu) (ok (measurement_words m)) (changed s Unchanged)) _
      (index == register.index && is_mine mine (entered cpu)) (Some Reads) None refl
      (λ hit. ((m, read-value index inside hit, refl), kept Unchanged tt refl refl))
      (λ _. (tt, kept Unchanged tt refl refl))

  -- ---- each call

  -- a call with its reply
  abbrev IsAnsweredTo : Call → Reply → State → Type 0
  IsAnsweredTo c given new = IsAnswered (done_call register mine (entered cpu) c given) (entered_after (entered cpu) c given) given new

  -- what is done, whatever end of a stretch is reached
  abbrev AreAnswered : Call → Accepted → Type 0
  AreAnswered c (Done words change) = IsAnsweredTo c (reply.Ok words) (changed s change)
  AreAnswered c (Reaches stretch) = (top : ℕ) → IsReached s stretch top → IsAnsweredTo c (ok (top ∷ [])) (changed s (reached_change stretch top))

  -- a REC that the call asks for is mine where it is asked for the register's realm
  abbrev IsMineFor : Call → Type 0
  IsMineFor c = (rd rec mpidr flags aux0 aux1 : ℕ) → c ≡ call.RecCreate rd rec mpidr flags aux0 aux1 → mine rec ≡ (rd == register.rd)

  -- so it is with each call that is placed
  behind-answered : (c : Call) → IsTrue (is_placed s cpu (class_of c)) → IsMineFor c → Applies s (behind s cpu c).1
      → AreAnswered c (behind s cpu c).1
  unfolding behind class_of register_call reached_change
  behind-answered (call.RealmCreate rd root width level vmid algo) placed asked can = realm_made-answered rd root width level vmid algo _ can
  behind-answered (call.RecCreate rd rec mpidr flags aux0 aux1) placed asked can =
      (tt, rec_made-known rd rec mpidr flags aux0 aux1 (asked rd rec mpidr flags aux0 aux1 refl) can)
  behind-answered (call.RecEnter rec) placed asked can = (tt, entered-known rec can)
  behind-answered (call.MeasurementExtend index size values) placed asked can =
      extended-answered index size values _ (and_parts (is_inside s cpu) (is_none (rec_at s (rec_inside s cpu)).pending) placed).0 can
  behind-answered (call.MeasurementRead index) placed asked can =
      read-answered index (and_parts (is_inside s cpu) (is_none (rec_at s (rec_inside s cpu)).pending) placed).0
  behind-answered (call.RttInitRipas rd base top) placed asked can = λ end reached. (tt, kept _ (can end reached) refl refl)
  behind-answered (call.RttSetRipas rd rec base top) placed asked can = λ end reached. (tt, kept _ (can end reached) refl refl)
  behind-answered _ placed asked can = (tt, kept _ can refl refl)

  -- and with what is accepted
  accepted-answered : (c : Call) (a : Accepted) → IsWhole c → IsMineFor c → outcome s cpu c ≡ Ok a → AreAnswered c a
  unfolding outcome
  accepted-answered c a whole asked is =
      row_holds (AreAnswered c a) (is_placed s cpu (class_of c)) (answer_of s cpu c) (refusal.Misplaced (misplacement (is_inside s cpu) (class_of c)))
      a is
      (λ placed later.
      let rest = behind s cpu c in
      let all = decided-accepted (with_front s c rest.0) rest.1 a (sym rest.2 ∙ later) in
      subst (AreAnswered c) all.1
      (behind-answered c placed asked (subst (Applies s) (sym all.1) (accepted_applies s cpu c a sound whole is))))

  -- a refusal does nothing
  refused-answered : (c : Call) (refused : Refusal) → IsAnsweredTo c (reply_of refused) s
  refused-answered c refused =
      rw (refused-done register mine (entered cpu) c refused, refused-entered (entered cpu) c refused)
      (tt, subst (λ e. Knows s register mine e value) (sym entered_now-same) knows)

  -- so with all that a call may lead to
  carried-answered : (c : Call) (found : Result Accepted Refusal) (given : Reply) (new : State) → IsWhole c → IsMineFor c → outcome s cpu c ≡ found
      → CarriesOut found s given new → IsAnsweredTo c given new
  carried-answered c (Err refused) given new whole asked is out = rw (out.0, out.1) (refused-answered c refused)
  carried-answered c (Ok (Done words change)) given new whole asked is out =
      rw (out.0, out.1) (accepted-answered c (Done words change) whole asked is)
  carried-answered c (Ok (Reaches stretch)) given new whole asked is (top, (reached, is_ok, is_next)) =
      rw (is_ok, is_next) (accepted-answered c (Reaches stretch) whole asked is top reached)

-- so a reading is told the register's value, and what is known before the step is known after it
pub step-knows : (s new : State) (cpu : ℕ) (command : Command) (given : Reply) (register : Register) (mine : ℕ → Bool) (entered : ℕ → Option ℕ)
    (value : Option Measurement) → IsSound s → IsRegister register → Step s cpu command given new → IsMineAsked register mine command
    → Knows s register mine entered value
    → FitsValue (done_call register mine (entered cpu) (call_of command) given) value given
    × Knows new register mine (entered_then entered cpu command given)
    (value_after (done_call register mine (entered cpu) (call_of command) given) value)
step-knows s new cpu command given register mine entered value sound is_register step asked knows =
    carried-answered s cpu register mine entered value sound is_register knows (call_of command) (outcome s cpu (call_of command)) given new
    (whole_command command) asked refl step
