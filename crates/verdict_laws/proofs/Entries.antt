-- A call that changes a REC alone, and a call that works on tables or lends a granule, on two CPUs, come either way round.
use Rattle.verdict_laws.proofs.Common.{arith, ◌≡◌, ℕ, suc, ◌==◌, Bool, true, false, not, if◌then◌else◌, [], ◌∷◌, inl, Option, Some, None, refl, sym, ◌∙◌, ap, subst, Result, Ok, Err, is_none, unwrap_or, ne_eqb, Accepted, Done, Reaches, Call, Change, RecordsChanged, RealmChange, RecChange, Command, Refusal, Misplaced, Reply, call_of, changed, realm_updated, rec_updated, State, RealmRecord, RecRecord, IsSound, is_named, has_tag, is_inside, no_realm, no_rec, realm_at, rec_at, rec_inside, decided, with_front, reached_change, named, CarriesOut, Step, answer_of, is_placed, misplacement, outcome, both_ways, behind, outcome-leads, lent, is_local}
use Rattle.std.specs.Prelude.{nat_le}
use Rattle.rmm_spec.specs.declared.call.Call.TheVariants as call
use Rattle.rmm_spec.specs.declared.condition.Condition.TheVariants as condition
use Rattle.rmm_spec.specs.declared.refusal.Refusal.TheVariants.{Realm}
use Rattle.rmm_spec.specs.Lookup.{is_new_state, is_system_off_state}
use Rattle.rmm_spec.specs.Walk.{half}
use Rattle.rmm_spec.specs.Rows.{input, realm_row, rec_row, row}
use Rattle.rmm_spec.specs.Step.Terms.{Class, ByHost, ByRealm, ByExit, class_of}
use Rattle.verdict_laws.specs.Apart.{frees_unnamed}
use Rattle.verdict_laws.specs.Beside.{AreBeside, entered, is_entry, is_work}
use Rattle.verdict_laws.specs.Separate.{table_realm, works_on}
use Rattle.verdict_laws.proofs.Patches.{IsChangeOf, IsWithin, Patch, changed-patched, is_own, patched, put_realm, realm_of_change}
use Rattle.verdict_laws.proofs.Retags.{AreKeptAt, outcome-tags}
use Rattle.verdict_laws.proofs.SeparateCalls.{IsAcceptedOf, IsWorkOf, behind_work, step_patching}
use Rattle.verdict_laws.proofs.SeparateLooks.{AgreeOn, with_recs}
use Rattle.verdict_laws.proofs.SparedCalls.{step_leaves}

-- the record is in the state of the other, of a realm as wide
abbrev IsLike : RealmRecord → RealmRecord → Type 0
IsLike new old = (new.state ≡ old.state) × (new.width ≡ old.width)

-- each realm's record is so in the one state as in the other
abbrev AreStill : State → State → Type 0
AreStill s t = (rd : ℕ) → IsLike (realm_at t rd) (realm_at s rd)

-- ---- what an entry leads to

-- the state with the realms, tables and leaves of another
abbrev with_realms : State → State → State
with_realms s t = record s { realm = t.realm; table = t.table; leaf = t.leaf }

-- what stands behind the rows on words and tags is the same
abbrev BehindRealms : State → State → ℕ → Call → Type 0
BehindRealms s t cpu c = ((behind (with_realms s t) cpu c).0 ≡ (behind s cpu c).0) × ((behind (with_realms s t) cpu c).1 ≡ (behind s cpu c).1)

-- for each entry, which reads of realms no more than each one's state and width
behind-realms : (s t : State) (cpu : ℕ) (c : Call) → is_entry c ≡ true → AreStill s t → BehindRealms s t cpu c
unfolding is_entry behind realm_at rec_at rec_inside
behind-realms s t cpu (call.RecEnter rec) enters still =
    let old = unwrap_or (s.rec rec) no_rec in (
      λ i.
          realm_row condition.RealmNew (not (is_new_state ((still old.owner).0 i)))
          ∷ row (Realm condition.SystemOff 1) (not (is_system_off_state ((still old.owner).0 i)))
          ∷ rec_row condition.RecState (is_none old.cpu)
          ∷ rec_row condition.RecRunnable old.runnable
          ∷ [],
      refl,
    )
behind-realms s t cpu call.Exit enters still = (refl, refl)
behind-realms s t cpu (call.IpaStateSet base top ripas) enters still =
    let owner = (unwrap_or (s.rec (rec_inside s cpu)) no_rec).owner in (
      λ i. input condition.RgnBound (nat_le top (half (record (unwrap_or (s.realm owner) no_realm) { width = (still owner).1 i }))) ∷ [],
      refl,
    )
behind-realms s t cpu (call.HostCall imm) enters still = (refl, refl)
behind-realms s t cpu call.CpuOff enters still = (refl, refl)
behind-realms s t cpu _ enters still = both_ways enters refl

-- so what is answered where the call is placed
answer-realms : (s t : State) (cpu : ℕ) (c : Call) → is_entry c ≡ true → AreStill s t → answer_of (with_realms s t) cpu c ≡ answer_of s cpu c
unfolding has_tag
answer-realms s t cpu c enters still =
    let same = behind-realms s t cpu c enters still in
    (behind (with_realms s t) cpu c).2 ∙ (λ i. decided (with_front s c (same.0 i)) (same.1 i)) ∙ sym (behind s cpu c).2

-- and whether it is
placed-realms : (s t : State) (cpu : ℕ) (class : Class) → is_placed (with_realms s t) cpu class ≡ is_placed s cpu class
unfolding is_inside rec_inside rec_at
placed-realms s t cpu ByHost = refl
placed-realms s t cpu ByRealm = refl
placed-realms s t cpu ByExit = refl

-- with such realms the call leads to the same
outcome-realms : (s t : State) (cpu : ℕ) (c : Call) → is_entry c ≡ true → AreStill s t → outcome (with_realms s t) cpu c ≡ outcome s cpu c
unfolding outcome is_inside
outcome-realms s t cpu c enters still = λ i.
    if placed-realms s t cpu (class_of c) i then answer-realms s t cpu c enters still i
    else Err (Misplaced (misplacement (is_inside s cpu) (class_of c)))

-- the granule that an entry names has its tag
entered_kept : (s t : State) (c : Call) → is_entry c ≡ true → ((rec : ℕ) → entered c ≡ Some rec → t.tag rec ≡ s.tag rec)
    → AreKeptAt t s.tag (named c)
unfolding is_entry entered named
entered_kept s t (call.RecEnter rec) enters same = (sym (same rec refl), tt)
entered_kept s t call.Exit enters same = tt
entered_kept s t (call.IpaStateSet base top ripas) enters same = tt
entered_kept s t (call.HostCall imm) enters same = tt
entered_kept s t call.CpuOff enters same = tt
entered_kept s t _ enters same = both_ways enters refl

-- a patch that leaves that tag, and each realm's state, leaves what the call leads to
outcome-still : (s : State) (p : Patch) (cpu : ℕ) (c : Call) → is_entry c ≡ true → AreStill s (patched s p)
    → ((rec : ℕ) → entered c ≡ Some rec → p.tag rec (s.tag rec) ≡ s.tag rec) → outcome (patched s p) cpu c ≡ outcome s cpu c
outcome-still s p cpu c enters still same =
    let t = patched s p in
    sym (outcome-tags t s.tag cpu c (entered_kept s t c enters same)) ∙ outcome-realms s t cpu c enters still

-- ---- what an entry changes

-- what is accepted is a change of a REC's record
abbrev IsOfRec : Accepted → Type 0
IsOfRec (Done words (RecordsChanged None (Some change))) = Unit {0}
IsOfRec _ = ⊥

-- for each entry
behind_of_rec : (s : State) (cpu : ℕ) (c : Call) → is_entry c ≡ true → IsOfRec (behind s cpu c).1
unfolding is_entry behind
behind_of_rec s cpu (call.RecEnter rec) enters = tt
behind_of_rec s cpu call.Exit enters = tt
behind_of_rec s cpu (call.IpaStateSet base top ripas) enters = tt
behind_of_rec s cpu (call.HostCall imm) enters = tt
behind_of_rec s cpu call.CpuOff enters = tt
behind_of_rec s cpu _ enters = both_ways enters refl

-- the RECs behind such a change
abbrev recs_changed : (ℕ → Option RecRecord) → RecChange → ℕ → Option RecRecord
recs_changed recs change other =
    if other == change.rec then Some (rec_updated change.update (unwrap_or (recs change.rec) no_rec)) else recs other

module _ (s : State) (cpu : ℕ) (command : Command) (given : Reply) (new : State) (enters : is_entry (call_of command) ≡ true) where
  -- An entry puts RECs alone, and the same ones in a state with the same RECs, where it leads to the same.
  abbrev Enters : Type 0
  Enters = (new ≡ with_recs s new.rec) × ((t : State) → t.rec ≡ s.rec → outcome t cpu (call_of command) ≡ outcome s cpu (call_of command)
      → Step t cpu command given (with_recs t new.rec))

  -- by what it leads to
  enters_by : (found : Result Accepted Refusal) → outcome s cpu (call_of command) ≡ found → CarriesOut found s given new → Enters
  unfolding changed rec_at
  enters_by (Err refused) is carried = (
    carried.1 ∙ (λ i. with_recs s (sym carried.1 i).rec),
    λ t same alike. subst (λ (r : Result Accepted Refusal). CarriesOut r t given (with_recs t new.rec)) (sym (alike ∙ is))
        (carried.0, λ i. with_recs t (((λ j. (carried.1 j).rec) ∙ sym same) i)),
  )
  enters_by (Ok (Done words (RecordsChanged None (Some change)))) is carried = (
    carried.1 ∙ (λ i. with_recs s (sym carried.1 i).rec),
    λ t same alike. subst (λ (r : Result Accepted Refusal). CarriesOut r t given (with_recs t new.rec)) (sym (alike ∙ is))
        (carried.0, λ i. with_recs t (((λ j. (carried.1 j).rec) ∙ (λ j. recs_changed (sym same j) change)) i)),
  )
  enters_by (Ok accepted) is carried = absurd (let all = outcome-leads s cpu (call_of command) (Ok accepted) is in
      subst IsOfRec all.1 (behind_of_rec s cpu (call_of command) enters))

  -- so does a step
  step_enters : Step s cpu command given new → Enters
  step_enters step = enters_by (outcome s cpu (call_of command)) refl step

-- a granule that an entry doesn't name
abbrev unnamed_by : Call → ℕ
unnamed_by (call.RecEnter rec) = suc rec
unnamed_by _ = 0

-- it doesn't, nor gives granules back
unnamed_by-unnamed : (c : Call) → is_entry c ≡ true → (is_named (named c) (unnamed_by c) ≡ false) × (frees_unnamed c ≡ false)
unfolding is_entry named frees_unnamed
unnamed_by-unnamed (call.RecEnter rec) enters = (rw (ne_eqb rec (suc rec) (λ same. omega (arith, same))) refl, refl)
unnamed_by-unnamed call.Exit enters = (refl, refl)
unnamed_by-unnamed (call.IpaStateSet base top ripas) enters = (refl, refl)
unnamed_by-unnamed (call.HostCall imm) enters = (refl, refl)
unnamed_by-unnamed call.CpuOff enters = (refl, refl)
unnamed_by-unnamed _ enters = both_ways enters refl

-- another CPU stays inside of a REC, or outside
entry_inside : (s : State) (cpu other : ℕ) (command : Command) (given : Reply) (new : State) → IsSound s → ¬ (cpu ≡ other)
    → is_entry (call_of command) ≡ true → Step s cpu command given new → is_inside new other ≡ is_inside s other
entry_inside s cpu other command given new sound differ enters step =
    let c = call_of command in
    let unnamed = unnamed_by-unnamed c enters in
    (step_leaves s (unnamed_by c) other cpu sound (λ same. differ (sym same)) command given new unnamed.0 (inl unnamed.1) step).inside

-- ---- what a work leaves

-- works are calls of realms' tables, or lend granules
is_local-from_work : (c : Call) → is_work c ≡ true → is_local c ≡ true
unfolding is_work table_realm lent
is_local-from_work (call.GranuleDelegate granule) works = refl
is_local-from_work (call.GranuleUndelegate granule) works = refl
is_local-from_work (call.DataCreate rd granule ipa source flags digest) works = refl
is_local-from_work (call.DataCreateUnknown rd granule ipa) works = refl
is_local-from_work (call.DataDestroy rd ipa) works = refl
is_local-from_work (call.RttCreate rd rtt ipa level) works = refl
is_local-from_work (call.RttRemove removal rd ipa level) works = refl
is_local-from_work (call.RttMapUnprotected rd ipa page) works = refl
is_local-from_work (call.RttReadEntry rd ipa level) works = refl
is_local-from_work (call.RttUnmapUnprotected rd ipa) works = refl
is_local-from_work (call.RttInitRipas rd base top) works = refl
is_local-from_work _ works = both_ways works refl

-- the record that replaces a realm's, if one does, is like that
abbrev IsStill : Option RealmChange → Type 0
IsStill None = Unit {0}
IsStill (Some change) = (realm : RealmRecord) → IsLike (realm_updated change.update realm) realm

-- so is what is accepted, whatever end a reply gives
abbrev IsAcceptedStill : Accepted → Type 0
IsAcceptedStill (Done words change) = IsStill (realm_of_change change)
IsAcceptedStill (Reaches stretch) = (top : ℕ) → IsStill (realm_of_change (reached_change stretch top))

-- each work accepts such changes
behind_still : (s : State) (cpu : ℕ) (c : Call) → is_work c ≡ true → IsAcceptedStill (behind s cpu c).1
unfolding is_work behind reached_change realm_updated
behind_still s cpu (call.GranuleDelegate granule) works = tt
behind_still s cpu (call.GranuleUndelegate granule) works = tt
behind_still s cpu (call.DataCreate rd granule ipa source flags digest) works = λ realm. (refl, refl)
behind_still s cpu (call.DataCreateUnknown rd granule ipa) works = tt
behind_still s cpu (call.DataDestroy rd ipa) works = tt
behind_still s cpu (call.RttCreate rd rtt ipa level) works = tt
behind_still s cpu (call.RttRemove removal rd ipa level) works = tt
behind_still s cpu (call.RttMapUnprotected rd ipa page) works = tt
behind_still s cpu (call.RttReadEntry rd ipa level) works = tt
behind_still s cpu (call.RttUnmapUnprotected rd ipa) works = tt
behind_still s cpu (call.RttInitRipas rd base top) works = λ end realm. (refl, refl)
behind_still s cpu _ works = both_ways works refl

-- where such a record is put, the realm's is like it was
put_realm-still : (change : Option RealmChange) → IsStill change → (rd : ℕ) (old : Option RealmRecord)
    → IsLike (unwrap_or (put_realm change rd old) no_realm) (unwrap_or old no_realm)
put_realm-still None still rd old = (refl, refl)
put_realm-still (Some change) still rd old = by (rd == change.rd) refl
  where
    by : (b : Bool) → (rd == change.rd) ≡ b → IsLike (unwrap_or (put_realm (Some change) rd old) no_realm) (unwrap_or old no_realm)
    by true is = rw is (still (unwrap_or old no_realm))
    by false is = rw is (refl, refl)

-- so are all behind such a change
changed-still : (s : State) (own : Option ℕ) (change : Change) → IsChangeOf own change → IsStill (realm_of_change change)
    → AreStill s (changed s change)
unfolding realm_at
changed-still s own change is still rd =
    let same = changed-patched s own change is in
    let kept = put_realm-still (realm_of_change change) still rd (s.realm rd) in
    (ap (λ (t : State). (realm_at t rd).state) same ∙ kept.0, ap (λ (t : State). (realm_at t rd).width) same ∙ kept.1)

module _ (s : State) (cpu : ℕ) (command : Command) (given : Reply) (new : State) (works : is_work (call_of command) ≡ true) where
  -- what is behind a work's rows is of its realm, and leaves realms' states
  leads_still : (accepted : Accepted) → outcome s cpu (call_of command) ≡ Ok accepted
      → IsAcceptedOf (IsWorkOf (call_of command)) (table_realm (call_of command)) accepted × IsAcceptedStill accepted
  leads_still accepted is =
      let c = call_of command in
      subst (λ (a : Accepted). IsAcceptedOf (IsWorkOf c) (table_realm c) a × IsAcceptedStill a) (outcome-leads s cpu c (Ok accepted) is).1
      (behind_work s cpu c (is_local-from_work c works), behind_still s cpu c works)

  -- by what the work leads to
  still_by : (found : Result Accepted Refusal) → outcome s cpu (call_of command) ≡ found → CarriesOut found s given new → AreStill s new
  still_by (Err refused) is carried = subst (AreStill s) (sym carried.1) (λ rd. (refl, refl))
  still_by (Ok (Done words change)) is carried =
      let all = leads_still (Done words change) is in
      subst (AreStill s) (sym carried.1) (changed-still s (table_realm (call_of command)) change all.0.0 all.1)
  still_by (Ok (Reaches stretch)) is carried =
      let all = leads_still (Reaches stretch) is in
      let top = carried.0 in
      subst (AreStill s) (sym carried.1.2)
      (changed-still s (table_realm (call_of command)) (reached_change stretch top) (all.0.1 top).0 (all.1 top))

  -- so a step leaves them
  step_still : Step s cpu command given new → AreStill s new
  step_still step = still_by (outcome s cpu (call_of command)) refl step

-- ---- both

-- what a work leads to reads no RECs but whether its CPU is inside of one
AgreeOn-recs : (s : State) (recs : ℕ → Option RecRecord) (cpu : ℕ) (c : Call) → is_inside (with_recs s recs) cpu ≡ is_inside s cpu
    → AgreeOn cpu c s (with_recs s recs)
AgreeOn-recs s recs cpu c inside = record {
  config = refl;
  inside = inside;
  tag = λ granule is. refl;
  realm = λ rd is. refl;
  table = λ rd is. refl;
  leaf = λ rd is. refl;
}

-- the patch of a work leaves what an entry beside it leads to
beside-still : (old : State) (recs : ℕ → Option RecRecord) (p : Patch) (cpu other : ℕ) (entry work : Command) (answered : Reply)
    → AreBeside (call_of entry) (call_of work) answered
    → IsWithin (works_on (call_of work) answered) (is_own (table_realm (call_of work))) p
    → Step (with_recs old recs) other work answered (patched (with_recs old recs) p)
    → outcome (patched old p) cpu (call_of entry) ≡ outcome old cpu (call_of entry)
unfolding realm_at
beside-still old recs p cpu other entry work answered beside within step =
    outcome-still old p cpu (call_of entry) beside.enters
    (step_still (with_recs old recs) other work answered (patched (with_recs old recs) p) beside.works step)
    (λ rec is. within.tag rec (beside.apart rec is) (old.tag rec))

-- an entry and then a work come the other way round
pub entry_turned : (old middle new : State) (cpu other : ℕ) (one two : Command) (given answered : Reply)
    → IsSound old → ¬ (cpu ≡ other) → AreBeside (call_of one) (call_of two) answered
    → Step old cpu one given middle → Step middle other two answered new
    → (between : State) × Step old other two answered between × Step between cpu one given new
entry_turned old middle new cpu other one two given answered sound differ beside first second =
    let recs = middle.rec in
    let s = with_recs old recs in
    let before = step_enters old cpu one given middle beside.enters first in
    let inside : is_inside old other ≡ is_inside s other =
    sym (entry_inside old cpu other one given middle sound differ beside.enters first) ∙ ap (λ (t : State). is_inside t other) before.0 in
    let later : Step s other two answered new = subst (λ (t : State). Step t other two answered new) before.0 second in
    let after = step_patching s other two answered new (is_local-from_work (call_of two) beside.works) later in
    let p = after.patch in
    let alike = beside-still old recs p cpu other one two answered beside after.within
    (subst (λ (t : State). Step s other two answered t) after.is_new later) in (
      patched old p,
      after.again old (AgreeOn-recs s old.rec other (call_of two) inside),
      subst (λ (t : State). Step (patched old p) cpu one given t) (sym after.is_new) (before.1 (patched old p) refl alike),
    )

-- so do a work and then an entry
pub work_turned : (old middle new : State) (cpu other : ℕ) (one two : Command) (given answered : Reply)
    → IsSound old → ¬ (cpu ≡ other) → AreBeside (call_of two) (call_of one) given
    → Step old cpu one given middle → Step middle other two answered new
    → (between : State) × Step old other two answered between × Step between cpu one given new
work_turned old middle new cpu other one two given answered sound differ beside first second =
    let before = step_patching old cpu one given middle (is_local-from_work (call_of one) beside.works) first in
    let p = before.patch in
    let alike = beside-still old old.rec p other cpu two one given beside before.within
    (subst (λ (t : State). Step old cpu one given t) before.is_new first) in
    let later : Step (patched old p) other two answered new =
    subst (λ (t : State). Step t other two answered new) before.is_new second in
    let after = step_enters (patched old p) other two answered new beside.enters later in
    let recs = new.rec in
    let s = with_recs old recs in
    let earlier : Step old other two answered s = after.1 old refl (sym alike) in
    let inside = entry_inside old other cpu two answered s sound (λ same. differ (sym same)) beside.enters earlier in (
      s,
      earlier,
      subst (λ (t : State). Step s cpu one given t) (sym after.0) (before.again s (AgreeOn-recs old recs cpu (call_of one) inside)),
    )
