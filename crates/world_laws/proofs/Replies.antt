-- Each reply has a text, and what is done keeps a state whose numbers fit into words.
use Rattle.std.proofs.Common.{◌≡◌, ℕ, ◌<◌, ◌≤◌, ◌^◌, Bool, true, false, nat_lt, slice_index, IsTrue, List, [], ◌∷◌, Option, Some, None, Result, Ok, Err, if◌then◌else◌, refl, sym, subst, arith}
use Rattle.std.specs.List.{AllByRecursion}
use Rattle.std.proofs.lemmas.Bool.{leb-true}
use Rattle.rmm_spec.specs.declared.accepted.Accepted.{Accepted}
use Rattle.rmm_spec.specs.declared.accepted.Accepted.TheVariants.{Done, Reaches}
use Rattle.rmm_spec.specs.declared.accepted.StretchUse.{StretchUse}
use Rattle.rmm_spec.specs.declared.accepted.StretchUse.TheVariants.{Init, Requested}
use Rattle.rmm_spec.specs.declared.call.Call.{Call}
use Rattle.rmm_spec.specs.declared.call.Call.TheVariants as call
use Rattle.rmm_spec.specs.declared.call.Removal.{Removal}
use Rattle.rmm_spec.specs.declared.call.Removal.TheVariants.{Destroy, Fold}
use Rattle.rmm_spec.specs.declared.command.Command.{Command}
use Rattle.rmm_spec.specs.declared.entry.Entry.{Entry}
use Rattle.rmm_spec.specs.declared.entry.Entry.TheVariants.{Unassigned, UnassignedNs}
use Rattle.rmm_spec.specs.declared.function_id.FunctionId.{FunctionId}
use Rattle.rmm_spec.specs.declared.function_id.FunctionId.TheVariants as function
use Rattle.rmm_spec.specs.declared.refusal.Refusal.{Refusal}
use Rattle.rmm_spec.specs.declared.refusal.Refusal.TheVariants as refusal
use Rattle.rmm_spec.specs.declared.reply.Reply.{Reply}
use Rattle.rmm_spec.specs.declared.reply.Reply.TheVariants as reply
use Rattle.rmm_spec.specs.declared.tag.Ripas.{Ripas}
use Rattle.rmm_spec.specs.declared.tag.Ripas.TheVariants.{Empty}
use Rattle.rmm_spec.specs.CommandText.{IsReply, AreWords}
use Rattle.rmm_spec.specs.Call.{call_from, call_of, class_of}
use Rattle.rmm_spec.specs.declared.measurement.Measurement.{Measurement}
use Rattle.rmm_spec.specs.declared.measurement.Measurement.TheVariants.{Sha256, Sha512}
use Rattle.rmm_spec.specs.Measure.{first_words, measurement_words}
use Rattle.rmm_spec.specs.State.{State, RealmRecord, Request, Pending, Psci, RipasChange}
use Rattle.rmm_spec.specs.Lookup.{is_inside, realm_at, rec_at, rec_inside, ripas_number}
use Rattle.rmm_spec.specs.Walk.{entry_state, reach, half}
use Rattle.rmm_spec.specs.Rows.{Row, Needed, Word, decided, inputs, reply_of, tagged, input_error, ok}
use Rattle.spec_lemmas.proofs.Behind.{behind}
use Rattle.rmm_spec.specs.Step.{Step, CarriesOut, answer_of, outcome, is_placed, misplacement}
use Rattle.rmm_spec.specs.Step.Front.{with_front}
use Rattle.rmm_spec.specs.Step.Terms.{named, words_of}
use Rattle.rmm_spec.specs.Step.Table.{entry_after_table}
use Rattle.rmm_spec.specs.Step.Ripas.{reached_change, stretch_change}
use Rattle.rmm_spec.specs.Step.RealmCall.{exit_words}
use Rattle.spec_lemmas.proofs.WalkLaws.{reach-le}
use Rattle.world_laws.proofs.Told.{EntryFits, RequestFits, PendingFits, EachIn, ChangeFits, StateFits, either, slice_index_or-each, realm_at-fits, rec_at-fits, request_of-fits, entry_at-fits, AreWords-measurement, StateFits-changed}

-- ---- what is answered has a text

-- what is found for a command has a text and fits, where it is carried out
abbrev HasText : Result Accepted Refusal → Type 0
HasText (Err refused) = IsReply (reply_of refused)
HasText (Ok (Done words change)) = IsReply (reply.Ok words) × ChangeFits change
HasText (Ok (Reaches stretch)) = stretch.top < 2 ^ 64

ChangeFits-stretch : (purpose : StretchUse) (rd level base first last top : ℕ) → top < 2 ^ 64
    → ChangeFits (stretch_change purpose rd level base first last top)
ChangeFits-stretch Init rd level base first last top fits = (tt, tt)
ChangeFits-stretch (Requested rec ripas) rd level base first last top fits = (tt, fits)

-- what is carried out gives a reply with a text, and keeps what fits
IsReply-carried : (found : Result Accepted Refusal) (old : State) (given : Reply) (new : State) → StateFits old → HasText found
    → CarriesOut found old given new → IsReply given × StateFits new
unfolding reached_change
IsReply-carried (Err refused) old given new fits has carried = (subst IsReply (sym carried.0) has, subst StateFits (sym carried.1) fits)
IsReply-carried (Ok (Done words change)) old given new fits has carried =
    (subst IsReply (sym carried.0) has.0, subst StateFits (sym carried.1) (StateFits-changed old change has.1 fits))
IsReply-carried (Ok (Reaches stretch)) old given new fits has (top, (reached, is_ok, is_next)) =
    let word : top < 2 ^ 64 = omega (arith, reached.within, has) in (
      subst IsReply (sym is_ok) (omega arith, (word, tt)),
      subst StateFits (sym is_next) (StateFits-changed old (reached_change stretch top)
          (ChangeFits-stretch stretch.purpose stretch.rd stretch.level stretch.base _ _ top word) fits),
    )

-- ---- rows

-- each row's refusal has a text
abbrev AllHaveTexts : List Row → Type 0
AllHaveTexts rows = AllByRecursion (λ (r : Row). IsReply (reply_of r.otherwise)) rows

HasText-decided : (rows : List Row) (accepted : Accepted) → AllHaveTexts rows → HasText (Ok accepted) → HasText (decided rows accepted)
HasText-decided [] accepted have last = last
HasText-decided (row ∷ rows) accepted have last = by row.holds (HasText-decided rows accepted have.1 last)
  where
    by : (b : Bool) → HasText (decided rows accepted) → HasText (if b then decided rows accepted else Err row.otherwise)
    by true later = later
    by false later = have.0

IsReply-input_error : IsReply input_error
IsReply-input_error = (omega arith, omega arith)

IsReply-realm_error : IsReply (reply.Err 2 0)
IsReply-realm_error = (omega arith, omega arith)

IsReply-rec_error : IsReply (reply.Err 3 0)
IsReply-rec_error = (omega arith, omega arith)

IsReply-table_error : (level : ℕ) → level ≤ 3 → IsReply (reply.Err 4 level)
IsReply-table_error level within = (omega arith, omega (arith, within))

-- where a walk ends is a level
IsReply-walk : (s : State) (rd ipa max : ℕ) → max ≤ 3 → IsReply (reply.Err 4 (reach s rd ipa max))
IsReply-walk s rd ipa max within = IsReply-table_error (reach s rd ipa max) (omega (arith, reach-le s rd ipa max, within))

AllHaveTexts-tagged : (s : State) (names : List Needed) (rows : List Row) → AllHaveTexts rows → AllHaveTexts (tagged s names rows)
AllHaveTexts-tagged s [] rows have = have
AllHaveTexts-tagged s (n ∷ names) rows have = (IsReply-input_error, AllHaveTexts-tagged s names rows have)

-- rows behind tests are read where the tests hold
HasText-inputs : (tests : List Word) (rows : List Row) (accepted : Accepted)
    → (AllByRecursion (λ (w : Word). IsTrue w.allowed) tests → HasText (decided rows accepted))
    → HasText (decided (inputs tests rows) accepted)
HasText-inputs [] rows accepted have = have tt
HasText-inputs (test ∷ tests) rows accepted have = by test.allowed refl (λ holds. HasText-inputs tests rows accepted (λ others. have (holds, others)))
  where
    by : (b : Bool) → test.allowed ≡ b → (IsTrue test.allowed → HasText (decided (inputs tests rows) accepted))
        → HasText (if b then decided (inputs tests rows) accepted else Err (refusal.Input test.condition))
    by true holds later = later holds
    by false fails later = IsReply-input_error

-- a command whose rows and whose end have texts, where its words are allowed
HasText-front : (s : State) (c : Call) (rows : List Row) (accepted : Accepted)
    → (AllByRecursion (λ (w : Word). IsTrue w.allowed) (words_of c) → AllHaveTexts rows × HasText (Ok accepted))
    → HasText (decided (with_front s c rows) accepted)
HasText-front s c rows accepted have =
    HasText-inputs (words_of c) (tagged s (named c) rows) accepted (λ tests.
    let both = have tests in
    HasText-decided (tagged s (named c) rows) accepted (AllHaveTexts-tagged s (named c) rows both.0) both.1)

-- ---- replies with words

-- how a reply tells a RIPAS, an entry and an exit is words
ripas_number-word : (ripas : Ripas) → ripas_number ripas < 2 ^ 64
ripas_number-word Empty = omega arith
ripas_number-word _ = omega arith

entry_state-word : (entry : Entry) → entry_state entry < 2 ^ 64
entry_state-word (Unassigned ripas) = omega arith
entry_state-word _ = omega arith

IsReply-exit : (request : Request) (pending : Option Pending) → RequestFits request → EachIn PendingFits pending
    → IsReply (ok (exit_words request pending))
IsReply-exit request None asked waits = (omega arith, (omega arith, (omega arith, (omega arith, (omega arith, tt)))))
IsReply-exit request (Some (Psci function)) asked waits = (omega arith, (omega arith, (waits, (omega arith, (omega arith, tt)))))
IsReply-exit request (Some RipasChange) asked waits =
    (omega arith, (omega arith, (asked.0, (asked.1, (ripas_number-word request.ripas, tt)))))
IsReply-exit request (Some _) asked waits = (omega arith, (omega arith, (waits, (omega arith, (omega arith, tt)))))

-- a measurement is four words or eight
IsReply-measurement : (measurement : Measurement) → AreWords (measurement_words measurement) → IsReply (ok (measurement_words measurement))
unfolding measurement_words first_words
IsReply-measurement (Sha256 bytes) words = (omega arith, words)
IsReply-measurement (Sha512 bytes) words = (omega arith, words)

-- each of a command's words
word : (w : List ℕ) (i : ℕ) → AreWords w → slice_index w i < 2 ^ 64
word w i words = slice_index_or-each (λ x. x < 2 ^ 64) w i 0 words (omega arith)

-- a leaf with no granule names none
EntryFits-after_table : (realm : RealmRecord) (ipa : ℕ) (ripas : Ripas) → EntryFits (entry_after_table realm ipa ripas)
EntryFits-after_table realm ipa ripas = either EntryFits (nat_lt ipa (half realm)) (Unassigned ripas) UnassignedNs (omega arith) (omega arith)

-- ---- functions

-- a table that is taken out
HasText-remove : (removal : Removal) (s : State) (cpu rd ipa level : ℕ)
    → StateFits s → AllByRecursion (λ (w : Word). IsTrue w.allowed) (words_of (call.RttRemove removal rd ipa level))
    → AllHaveTexts (behind s cpu (call.RttRemove removal rd ipa level)).0 × HasText (Ok (behind s cpu (call.RttRemove removal rd ipa level)).1)
unfolding behind words_of
HasText-remove removal s cpu rd ipa level fits tests =
    let last = leb-true level 3 tests.0 in (
      (
        IsReply-input_error,
        (
          IsReply-input_error,
          (IsReply-walk s rd ipa _ (omega (arith, last)), (IsReply-walk s rd ipa _ (omega (arith, last)), (IsReply-table_error _ last, tt))),
        ),
      ),
      ((omega arith, (entry_at-fits s rd _ _ fits, tt)), EntryFits-after_table (realm_at s rd) ipa _),
    )

-- where its words are allowed, what stands behind the rows of each function has texts and fits
HasText-behind : (f : FunctionId) (w : List ℕ) (s : State) (cpu : ℕ)
    → StateFits s → AreWords w → AllByRecursion (λ (w : Word). IsTrue w.allowed) (words_of (call_from f w))
    → AllHaveTexts (behind s cpu (call_from f w)).0 × HasText (Ok (behind s cpu (call_from f w)).1)
unfolding behind call_from words_of
HasText-behind function.DataCreate w s cpu fits words tests = (
  (
    IsReply-input_error,
    (
      IsReply-realm_error,
      (
        IsReply-walk s (slice_index w 0) (slice_index w 2) 3 (omega arith),
        (IsReply-table_error 3 (omega arith), (IsReply-table_error 3 (omega arith), tt)),
      ),
    ),
  ),
  ((omega arith, tt), (word w 1 words, tt)),
)
HasText-behind function.DataCreateUnknown w s cpu fits words tests = (
  (IsReply-input_error, (IsReply-walk s (slice_index w 0) (slice_index w 2) 3 (omega arith), (IsReply-table_error 3 (omega arith), tt))),
  ((omega arith, tt), (word w 1 words, tt)),
)
HasText-behind function.DataDestroy w s cpu fits words tests = (
  (IsReply-input_error, (IsReply-walk s (slice_index w 0) (slice_index w 1) 3 (omega arith), (IsReply-table_error 3 (omega arith), tt))),
  ((omega arith, (entry_at-fits s (slice_index w 0) _ _ fits, tt)), (omega arith, tt)),
)
HasText-behind function.RealmActivate w s cpu fits words tests = ((IsReply-realm_error, tt), ((omega arith, tt), tt))
HasText-behind function.RealmCreate w s cpu fits words tests = (
  (IsReply-input_error, (IsReply-input_error, tt)),
  ((omega arith, tt), (word w 1 words, word w 2 words, word w 5 words)),
)
HasText-behind function.RealmDestroy w s cpu fits words tests = ((IsReply-realm_error, (IsReply-realm_error, tt)), ((omega arith, tt), tt))
HasText-behind function.RecCreate w s cpu fits words tests =
    ((IsReply-realm_error, (IsReply-input_error, (IsReply-input_error, tt))), ((omega arith, tt), tt))
HasText-behind function.RecDestroy w s cpu fits words tests = ((IsReply-rec_error, tt), ((omega arith, tt), tt))
HasText-behind function.RecEnter w s cpu fits words tests = (
  (IsReply-realm_error, ((omega arith, omega arith), (IsReply-rec_error, (IsReply-rec_error, tt)))),
  ((omega arith, ((request_of-fits (rec_at s (slice_index w 0)) (rec_at-fits s (slice_index w 0) fits)).0, tt)), tt),
)
HasText-behind function.RttCreate w s cpu fits words tests =
    let level = leb-true (slice_index w 3) 3 tests.0 in (
      (
        IsReply-input_error,
        (
          IsReply-input_error,
          (IsReply-walk s (slice_index w 0) (slice_index w 2) _ (omega (arith, level)), (IsReply-table_error _ (omega (arith, level)), tt)),
        ),
      ),
      ((omega arith, tt), (word w 1 words, entry_at-fits s (slice_index w 0) _ _ fits)),
    )
HasText-behind function.RttDestroy w s cpu fits words tests =
    HasText-remove Destroy s cpu (slice_index w 0) (slice_index w 1) (slice_index w 2) fits tests
HasText-behind function.RttFold w s cpu fits words tests = HasText-remove Fold s cpu (slice_index w 0) (slice_index w 1) (slice_index w 2) fits tests
HasText-behind function.RttMapUnprotected w s cpu fits words tests = (
  (IsReply-input_error, (IsReply-walk s (slice_index w 0) (slice_index w 1) 3 (omega arith), (IsReply-table_error 3 (omega arith), tt))),
  ((omega arith, tt), (word w 2 words, tt)),
)
HasText-behind function.RttReadEntry w s cpu fits words tests =
    let level = leb-true (slice_index w 2) 3 tests.0 in (
      (IsReply-input_error, (IsReply-input_error, tt)),
      (
        (
          omega arith,
          (
            omega (arith, level, reach-le s (slice_index w 0) (slice_index w 1) (slice_index w 2)),
            (entry_state-word _, (entry_at-fits s (slice_index w 0) _ _ fits, (ripas_number-word _, tt))),
          ),
        ),
        tt,
      ),
    )
HasText-behind function.RttUnmapUnprotected w s cpu fits words tests = (
  (IsReply-input_error, (IsReply-walk s (slice_index w 0) (slice_index w 1) 3 (omega arith), (IsReply-table_error 3 (omega arith), tt))),
  ((omega arith, tt), (omega arith, tt)),
)
HasText-behind function.RttInitRipas w s cpu fits words tests = (
  (let walk = IsReply-walk s (slice_index w 0) (slice_index w 1) 3 (omega arith) in
      (IsReply-input_error, (IsReply-realm_error, (walk, (walk, (walk, tt)))))),
  word w 2 words,
)
HasText-behind function.RttSetRipas w s cpu fits words tests = (
  (let walk = IsReply-walk s (slice_index w 0) (slice_index w 2) 3 (omega arith) in (
    IsReply-rec_error,
    (
      IsReply-rec_error,
      (IsReply-input_error, (IsReply-input_error, (IsReply-input_error, (IsReply-input_error, (IsReply-input_error, (walk, (walk, tt))))))),
    ),
  )),
  word w 3 words,
)
HasText-behind function.MeasurementRead w s cpu fits words tests = (
  tt,
  (IsReply-measurement _ (AreWords-measurement _ (slice_index w 0) (realm_at-fits s _ fits)), tt),
)
HasText-behind function.RealmConfig w s cpu fits words tests =
    let realm = realm_at-fits s (rec_at s (rec_inside s cpu)).owner fits in (
      tt,
      ((omega arith, (realm.width, (realm.algo, tt))), tt),
    )
HasText-behind function.IpaStateSet w s cpu fits words tests = (
  (IsReply-input_error, tt),
  ((omega arith, tt), (word w 0 words, word w 1 words)),
)
HasText-behind function.IpaStateGet w s cpu fits words tests = ((IsReply-input_error, tt), ((omega arith, (ripas_number-word _, tt)), tt))
HasText-behind function.Exit w s cpu fits words tests =
    let rec = rec_at-fits s (rec_inside s cpu) fits in (
      tt,
      (IsReply-exit _ _ (request_of-fits (rec_at s (rec_inside s cpu)) rec) rec.1, tt),
    )
HasText-behind _ w s cpu fits words tests = (tt, ((omega arith, tt), assumption (word w 0 words)))

-- what each is answered with has a text and fits
HasText-answer_of : (f : FunctionId) (w : List ℕ) (s : State) (cpu : ℕ) → StateFits s → AreWords w → HasText (answer_of s cpu (call_from f w))
HasText-answer_of f w s cpu fits words =
    let c = call_from f w in
    let rest = behind s cpu c in
    subst HasText (sym rest.2) (HasText-front s c rest.0 rest.1 (HasText-behind f w s cpu fits words))

-- what the machine replies has a text, and its next state fits, where the command's words are words and the state before fits
pub IsReply-Step : (old : State) (cpu : ℕ) (command : Command) (given : Reply) (new : State) → StateFits old → AreWords command.words.items
    → Step old cpu command given new → IsReply given × StateFits new
unfolding outcome
IsReply-Step old cpu command given new fits words step =
    IsReply-carried (outcome old cpu (call_of command)) old given new fits
    (by (is_placed old cpu (class_of (call_of command))) (HasText-answer_of command.function command.words.items old cpu fits words)) step
  where
    by : (b : Bool) → HasText (answer_of old cpu (call_of command)) → HasText (if b then answer_of old cpu (call_of command)
        else Err (refusal.Misplaced (misplacement (is_inside old cpu) (class_of (call_of command)))))
    by true answered = answered
    by false answered = tt
