-- A step from a state is one from a state that differs in measurements alone, with an extension of a measurement in place of a reading.
use Rattle.verdict_laws.proofs.Common.{◌≡◌, ℕ, ◌&&◌, nat_le, Bool, true, false, if◌then◌else◌, IsTrue, List, [], ◌∷◌, Some, refl, sym, ◌∙◌, ap, subst, Result, Ok, Err, is_none, and_parts, false≢true, Accepted, Done, Reaches, Call, Change, Unchanged, Command, Refusal, Misplaced, Reply, State, IsSound, call_of, changed, realm_updated, is_inside, rec_inside, realm_at, rec_at, decided, reached_change, with_front, words_of, named, is_placed, misplacement, answer_of, outcome, CarriesOut, Step, realm_there}
use Rattle.std.specs.Prelude.{option_map, replicate, slice_index}
use Rattle.std.proofs.Math.Bool.{and-false}
use Rattle.rmm_spec.specs.declared.call.Call.TheVariants as call
use Rattle.rmm_spec.specs.declared.change.RealmUpdate.TheVariants.{MeasurementExtended}
use Rattle.rmm_spec.specs.declared.condition.Condition.TheVariants.{IndexBound}
use Rattle.rmm_spec.specs.declared.function_id.FunctionId.{FunctionId}
use Rattle.rmm_spec.specs.declared.function_id.FunctionId.TheVariants as function
use Rattle.rmm_spec.specs.declared.refusal.Refusal.TheVariants.{Input}
use Rattle.rmm_spec.specs.declared.reply.Reply.TheVariants as reply
use Rattle.rmm_spec.specs.Call.{call_from}
use Rattle.rmm_spec.specs.Change.{measurement_at}
use Rattle.rmm_spec.specs.Update.{with_realm}
use Rattle.rmm_spec.specs.Measure.{measurement_words}
use Rattle.rmm_spec.specs.Rows.{Row, done}
use Rattle.rmm_spec.specs.Step.RealmCall.{realm_change}
use Rattle.rmm_spec.specs.Step.Terms.{ByRealm}
use Rattle.rmm_spec.specs.Step.{commands}
use Rattle.rmm_laws.proofs.Applies.{inside_running}
use Rattle.verdict_laws.specs.Unread.{is_reading, is_reading_function, is_extending, is_extending_function, unmeasured, unmeasured_realm, extension_for, unread_command, unread_reply}
use Rattle.verdict_laws.proofs.UnmeasuredAnswers.{Alike, ReadsNone, IsReached-alike, outcome-alike, realm_at-unmeasured}
use Rattle.verdict_laws.proofs.UnmeasuredChanges.{changed-alike, with_realm-unmeasured}
use Rattle.spec_lemmas.proofs.Lookups.{with_realm-same}

-- the reply is given from the state, which comes to one that differs from the new one in measurements alone
abbrev CarriesOver : State → Result Accepted Refusal → Reply → State → Type 0
CarriesOver t led given new = (next : State) × CarriesOut led t given next × (unmeasured new ≡ unmeasured next)

-- what both states lead to is carried out by both
carried : (s t new : State) (led : Result Accepted Refusal) (given other : Reply) → Alike s t → other ≡ given
    → CarriesOut led s given new → CarriesOver t led other new
carried s t new (Err refused) given other same alike out = (t, (alike ∙ out.0, refl), ap unmeasured out.1 ∙ same)
carried s t new (Ok (Done words change)) given other same alike out =
    (changed t change, (alike ∙ out.0, refl), ap unmeasured out.1 ∙ changed-alike s t change same)
carried s t new (Ok (Reaches stretch)) given other same alike out =
    let change = reached_change stretch out.0 in
    let reached = IsReached-alike s t stretch out.0 same out.1.0 in
    (changed t change, (out.0, (reached, alike ∙ out.1.1, refl)), ap unmeasured out.1.2 ∙ changed-alike s t change same)

-- a call that reads no measurement is given by both states
unread-alike : (s t new : State) (cpu : ℕ) (c : Call) (given other : Reply) → Alike s t → other ≡ given
    → CarriesOut (outcome s cpu c) s given new → ReadsNone c → CarriesOver t (outcome t cpu c) other new
unread-alike s t new cpu c given other same alike out none =
    carried s t new (outcome t cpu c) given other same alike
    (subst (λ led. CarriesOut led s given new) (outcome-alike s t cpu c same none) out)

-- ---- a reading

-- the realm of the REC that runs on the CPU
abbrev owner_at : State → ℕ → ℕ
owner_at s cpu = (rec_at s (rec_inside s cpu)).owner

-- it stands in a state that differs from a sound one in measurements alone, also where nothing is measured
owner-there : (s t : State) (cpu : ℕ) → IsSound s → IsTrue (is_inside s cpu) → Alike s t
    → (unmeasured t).realm (owner_at t cpu) ≡ Some (realm_at (unmeasured t) (owner_at t cpu))
unfolding rec_at rec_inside
owner-there s t cpu sound inside same =
    let rd = owner_at s cpu in
    let there = realm_there s rd sound (inside_running s cpu sound inside).owner in
    subst (λ (u : State). u.realm (owner_at u cpu) ≡ Some (realm_at u (owner_at u cpu))) same
    (ap (λ o. option_map unmeasured_realm o) there ∙ ap (λ r. Some r) (sym (realm_at-unmeasured s rd)))

-- an extension of a realm that stands changes measurements alone
extended-unmeasured : (t : State) (rd index size : ℕ) (values : List ℕ) → (unmeasured t).realm rd ≡ Some (realm_at (unmeasured t) rd)
    → unmeasured (changed t (realm_change rd (MeasurementExtended index size values))) ≡ unmeasured t
unfolding changed realm_updated
extended-unmeasured t rd index size values there =
    with_realm-unmeasured t rd _ ∙ ap (λ r. with_realm (unmeasured t) rd r) (sym (realm_at-unmeasured t rd))
    ∙ with_realm-same (unmeasured t) rd (realm_at (unmeasured t) rd) there

-- so one that the CPU of a realm's REC asks for does
extension-unmeasured : (s t : State) (cpu index size : ℕ) (values : List ℕ) → IsSound s → Alike s t → is_placed s cpu ByRealm ≡ true
    → unmeasured (changed t (realm_change (owner_at t cpu) (MeasurementExtended index size values))) ≡ unmeasured t
extension-unmeasured s t cpu index size values sound same placed =
    let inside = and_parts (is_inside s cpu) (is_none (rec_at s (rec_inside s cpu)).pending) placed in
    extended-unmeasured t (owner_at t cpu) index size values (owner-there s t cpu sound inside.0 same)

-- what a call about a register leads to, by whether its CPU is inside of a REC, the call is placed, and there is such a register
abbrev register_led : Bool → Bool → Bool → Accepted → Result Accepted Refusal
register_led inside placed there accepted =
    if placed then (if there then Ok accepted else Err (Input IndexBound)) else Err (Misplaced (misplacement inside ByRealm))

-- a reading leads to that
reading-led : (s : State) (cpu index : ℕ) → outcome s cpu (call.MeasurementRead index) ≡ register_led (is_inside s cpu) (is_placed s cpu ByRealm)
    (nat_le index 4) (done (measurement_words (measurement_at (realm_at s (owner_at s cpu)) index)) Unchanged)
unfolding outcome answer_of commands words_of named
reading-led s cpu index = refl

-- the register that is extended where the reading of an index is given
abbrev register_for : ℕ → ℕ
register_for index = if nat_le index 4 then 1 else index

-- there is such a register where there is one with the index
register-there : (index : ℕ) → (nat_le 1 (register_for index) && nat_le (register_for index) 4) ≡ nat_le index 4
register-there index = by (nat_le index 4) refl
  where
    by : (low : Bool) → nat_le index 4 ≡ low → (nat_le 1 (if low then 1 else index) && nat_le (if low then 1 else index) 4) ≡ low
    by true is = refl
    by false is = ap (λ low. nat_le 1 index && low) is ∙ and-false (nat_le 1 index)

-- so the extension in place of a reading leads to the same, but for what is done
extension-led : (t : State) (cpu index : ℕ) (values : List ℕ) → outcome t cpu (call.MeasurementExtend (register_for index) 1 values)
    ≡ register_led (is_inside t cpu) (is_placed t cpu ByRealm) (nat_le index 4)
    (done [] (realm_change (owner_at t cpu) (MeasurementExtended (register_for index) 1 values)))
unfolding outcome answer_of commands words_of named
extension-led t cpu index values =
    ap (λ there. register_led (is_inside t cpu) (is_placed t cpu ByRealm) there
    (done [] (realm_change (owner_at t cpu) (MeasurementExtended (register_for index) 1 values)))) (register-there index)

-- a CPU is inside of a REC in both states, or in none, and a call of its realm is placed in both
placed-alike : (s t : State) (cpu : ℕ) → Alike s t
    → (is_inside s cpu ≡ is_inside t cpu) × (is_placed s cpu ByRealm ≡ is_placed t cpu ByRealm)
unfolding is_inside rec_inside rec_at
placed-alike s t cpu same = (ap (λ (u : State). is_inside u cpu) same, ap (λ (u : State). is_placed u cpu ByRealm) same)

-- a command that reads the measurement of the first word
abbrev reading : List ℕ → Command
reading words = record { function = function.MeasurementRead; words = record { items = words } }

-- where the reading is carried out, the extension is in its place
register-carried : (s t new : State) (words read : List ℕ) (change : Change) (given : Reply) (inside placed there : Bool)
    → Alike s t → (placed ≡ true → unmeasured (changed t change) ≡ unmeasured t)
    → CarriesOut (register_led inside placed there (done read Unchanged)) s given new
    → CarriesOver t (register_led inside placed there (done [] change)) (unread_reply (reading words) given) new
unfolding changed
register-carried s t new words read change given inside true true same kept out =
    (changed t change, (ap (unread_reply (reading words)) out.0, refl), ap unmeasured out.1 ∙ same ∙ sym (kept refl))
register-carried s t new words read change given inside true false same kept out =
    (t, (ap (unread_reply (reading words)) out.0, refl), ap unmeasured out.1 ∙ same)
register-carried s t new words read change given inside false there same kept out =
    (t, (ap (unread_reply (reading words)) out.0, refl), ap unmeasured out.1 ∙ same)

-- so the extension for the index is a step of the one state where the reading is a step of the other
reading-alike : (s t new : State) (cpu : ℕ) (words : List ℕ) (given : Reply) → IsSound s → Alike s t
    → Step s cpu (reading words) given new
    → CarriesOver t (outcome t cpu (call_of (extension_for (slice_index words 0)))) (unread_reply (reading words) given) new
unfolding call_from
reading-alike s t new cpu words given sound same step =
    let index = slice_index words 0 in
    let read = measurement_words (measurement_at (realm_at s (owner_at s cpu)) index) in
    let values = replicate 8 0 in
    let change = realm_change (owner_at t cpu) (MeasurementExtended (register_for index) 1 values) in
    let stands = placed-alike s t cpu same in
    let led : outcome s cpu (call.MeasurementRead index)
    ≡ register_led (is_inside t cpu) (is_placed t cpu ByRealm) (nat_le index 4) (done read Unchanged) =
    reading-led s cpu index ∙ (λ i. register_led (stands.0 i) (stands.1 i) (nat_le index 4) (done read Unchanged)) in
    let kept : is_placed t cpu ByRealm ≡ true → unmeasured (changed t change) ≡ unmeasured t = λ placed.
    extension-unmeasured s t cpu (register_for index) 1 values sound same (stands.1 ∙ placed) in
    subst (λ (o : Result Accepted Refusal). CarriesOver t o (unread_reply (reading words) given) new) (sym (extension-led t cpu index values))
    (register-carried s t new words read change given (is_inside t cpu) (is_placed t cpu ByRealm) (nat_le index 4) same kept
    (subst (λ (o : Result Accepted Refusal). CarriesOut o s given new) led step))

-- ---- an extension

-- where a condition doesn't hold nothing changes
condition-unmeasured : (holds : Bool) (led : Result Accepted Refusal) (refused : Refusal) (s new : State) (given : Reply)
    → (holds ≡ true → CarriesOut led s given new → unmeasured new ≡ unmeasured s)
    → CarriesOut (if holds then led else Err refused) s given new → unmeasured new ≡ unmeasured s
condition-unmeasured true led refused s new given kept out = kept refl out
condition-unmeasured false led refused s new given kept out = ap unmeasured out.1

-- so behind rows measurements alone change where what is done changes no more
rows-unmeasured : (rows : List Row) (s new : State) (words : List ℕ) (change : Change) (given : Reply)
    → unmeasured (changed s change) ≡ unmeasured s → CarriesOut (decided rows (done words change)) s given new → unmeasured new ≡ unmeasured s
rows-unmeasured [] s new words change given kept out = ap unmeasured out.1 ∙ kept
rows-unmeasured (row ∷ rows) s new words change given kept out =
    condition-unmeasured row.holds (decided rows (done words change)) row.otherwise s new given
    (λ holds. rows-unmeasured rows s new words change given kept) out

-- as they do behind those of an extension
call-unmeasured : (s new : State) (cpu index size : ℕ) (values : List ℕ) (given : Reply) → IsSound s
    → CarriesOut (outcome s cpu (call.MeasurementExtend index size values)) s given new → unmeasured new ≡ unmeasured s
unfolding outcome answer_of commands
call-unmeasured s new cpu index size values given sound out =
    let rows = with_front s (call.MeasurementExtend index size values) [] in
    let change = realm_change (owner_at s cpu) (MeasurementExtended index size values) in
    condition-unmeasured (is_placed s cpu ByRealm) (decided rows (done [] change)) (Misplaced (misplacement (is_inside s cpu) ByRealm)) s new given
    (λ placed. rows-unmeasured rows s new [] change given (extension-unmeasured s s cpu index size values sound refl placed)) out

-- the same by the function that is called
function-unmeasured : (f : FunctionId) (words : List ℕ) (s new : State) (cpu : ℕ) (given : Reply) → IsSound s → is_extending_function f ≡ true
    → CarriesOut (outcome s cpu (call_from f words)) s given new → unmeasured new ≡ unmeasured s
unfolding call_from
function-unmeasured function.MeasurementExtend words s new cpu given sound extends out = call-unmeasured s new cpu _ _ _ given sound out
function-unmeasured _ words s new cpu given sound extends out = absurd (false≢true extends)

-- a step that extends a measurement changes measurements alone
pub extended_step-unmeasured : (s new : State) (cpu : ℕ) (command : Command) (given : Reply) → IsSound s → is_extending command ≡ true
    → Step s cpu command given new → unmeasured new ≡ unmeasured s
extended_step-unmeasured s new cpu command given sound extends step =
    function-unmeasured command.function command.words.items s new cpu given sound extends step

-- ---- a step

-- a command that asks for a measurement is a reading
is_reading-reading : (command : Command) → is_reading command ≡ true → command ≡ reading command.words.items
is_reading-reading command reads = λ i. record { function = by command.function reads i; words = command.words }
  where
    by : (f : FunctionId) → is_reading_function f ≡ true → f ≡ function.MeasurementRead
    by function.MeasurementRead reads = refl
    by _ reads = absurd (false≢true reads)

-- a call of another function reads no measurement
other-reads_none : (f : FunctionId) (words : List ℕ) → is_reading_function f ≡ false → ReadsNone (call_from f words)
unfolding call_from
other-reads_none function.MeasurementRead words other = absurd (false≢true (sym other))
other-reads_none _ words other = tt

-- another command than a reading has its own reply
pub unread_reply-other : (command : Command) (given : Reply) → is_reading command ≡ false → unread_reply command given ≡ given
unread_reply-other command (reply.Ok words) other = rw other refl
unread_reply-other command (reply.Err status index) other = refl
unread_reply-other command reply.Misplaced other = refl

-- a step of the one is a step of the other, with what is given in place of a reading, and the two differ in measurements alone afterwards
pub step-unmeasured : (s t new : State) (cpu : ℕ) (command : Command) (given : Reply) → IsSound s → unmeasured s ≡ unmeasured t
    → Step s cpu command given new
    → (next : State) × Step t cpu (unread_command command) (unread_reply command given) next × (unmeasured new ≡ unmeasured next)
step-unmeasured s t new cpu command given sound same step = by (is_reading command) refl
  where
    extension : Command → Command
    extension c = extension_for (slice_index c.words.items 0)

    by : (reads : Bool) → is_reading command ≡ reads
        → CarriesOver t (outcome t cpu (call_of (if reads then extension command else command))) (unread_reply command given) new
    by true is =
        subst (λ (c : Command). Step s cpu c given new → CarriesOver t (outcome t cpu (call_of (extension c))) (unread_reply c given) new)
        (sym (is_reading-reading command is)) (reading-alike s t new cpu command.words.items given sound same) step
    by false is =
        unread-alike s t new cpu (call_of command) given (unread_reply command given) same (unread_reply-other command given is) step
        (other-reads_none command.function command.words.items is)
