-- What an accepted command does is a change that the state can take; and what is known of the REC that a command is about.
use Rattle.rmm_laws.proofs.SoundCommon.{◌∙◌, ◌≡◌, IsRequest, IsSound, IsTrue, None, Option, Rd, Rec, RecRecord, Request, Some, State, ap, both_ways, has_tag, is_some, realm_at, rec_at, refl, runs_on, subst, sym, ℕ}
use Rattle.std.proofs.Common.{Ok, is_none, unwrap_or}
use Rattle.rmm_spec.specs.declared.accepted.Accepted.{Accepted}
use Rattle.rmm_spec.specs.declared.accepted.Accepted.TheVariants.{Done, Reaches}
use Rattle.rmm_spec.specs.declared.call.Call.{Call}
use Rattle.rmm_spec.specs.State.{Pending}
use Rattle.rmm_spec.specs.Lookup.{no_request, is_cpu, is_inside, rec_inside, request_of}
use Rattle.rmm_spec.specs.Step.Ripas.{IsReached, reached_change}
use Rattle.rmm_spec.specs.Applicable.{CanApply}
use Rattle.rmm_spec.specs.Step.{answer_of}
use Rattle.rmm_spec.specs.Step.Front.{with_front}
use Rattle.spec_lemmas.proofs.Behind.{behind}
use Rattle.rmm_laws.proofs.ByRows.{AllHold, decided-accepted}
use Rattle.rmm_laws.proofs.Searches.{inside_runs, realm_there, rec_there, rec_at-is}

-- what is done can be applied, and so can each end that a stretch may reach
abbrev pub Applies : State → Accepted → Type 0
Applies s (Done words change) = CanApply s change
Applies s (Reaches stretch) = (top : ℕ) → IsReached s stretch top → CanApply s (reached_change stretch top)

-- all of a command's rows hold
abbrev pub Holds : State → ℕ → Call → Type 0
Holds s cpu c = AllHold (with_front s c (behind s cpu c).0)

-- where they hold, the state can take what is done
abbrev pub Follows : State → ℕ → Call → Type 0
Follows s cpu c = Holds s cpu c → Applies s (behind s cpu c).1

-- then it can take what is accepted
pub answer_applies : (s : State) (cpu : ℕ) (c : Call) (a : Accepted) → Follows s cpu c → answer_of s cpu c ≡ Ok a → Applies s a
answer_applies s cpu c a follows is =
    let rest = behind s cpu c in
    let all = decided-accepted (with_front s c rest.0) rest.1 a (sym rest.2 ∙ is) in
    subst (Applies s) all.1 (follows all.0)

-- ---- the REC that a CPU is inside of

-- a REC of a realm that stands, on a CPU
pub record IsRunning (s : State) (rec : ℕ) : Type 0 where
  pub tag : IsTrue (has_tag s rec Rec)
  pub owner : IsTrue (has_tag s (rec_at s rec).owner Rd)
  pub cpu : IsTrue (is_some (rec_at s rec).cpu)

-- what is some CPU is one
cpu_there : (cpu : ℕ) (found : Option ℕ) → IsTrue (is_cpu cpu found) → IsTrue (is_some found)
cpu_there cpu None on = both_ways on refl
cpu_there cpu (Some other) on = refl

-- a REC that runs on a CPU, by what stands at its address
running_at : (s : State) (cpu rec : ℕ) (found : Option RecRecord) → IsSound s → s.rec rec ≡ found → IsTrue (runs_on cpu found) → IsRunning s rec
running_at s cpu rec None sound at runs = both_ways runs refl
running_at s cpu rec (Some c) sound at runs =
    let is : c ≡ rec_at s rec = sym (rec_at-is s rec c at) in
    record {
      tag = sym (sound.recs.tagged rec) ∙ ap is_some at;
      owner = subst (λ (x : RecRecord). IsTrue (has_tag s x.owner Rd)) is (sound.recs.owned rec c at);
      cpu = subst (λ (x : RecRecord). IsTrue (is_some x.cpu)) is (cpu_there cpu c.cpu runs);
    }

-- the REC that a CPU is inside of runs
pub inside_running : (s : State) (cpu : ℕ) → IsSound s → IsTrue (is_inside s cpu) → IsRunning s (rec_inside s cpu)
inside_running s cpu sound inside = running_at s cpu (rec_inside s cpu) _ sound refl (inside_runs s cpu inside)

-- ---- a REC that a command names

-- what is there is not absent
not_both : {A B : Type 0} (found : Option A) → IsTrue (is_none found) → IsTrue (is_some found) → B
not_both None none some = both_ways some refl
not_both (Some x) none some = both_ways none refl

-- what waits to leave runs, so nothing is pending where none runs
awaits_by : (s : State) (rec : ℕ) (c : RecRecord) (found : Option Pending) → IsSound s → s.rec rec ≡ Some c → c.pending ≡ found
    → IsTrue (is_none c.cpu) → IsTrue (is_none found)
awaits_by s rec c None sound at is idle = refl
awaits_by s rec c (Some p) sound at is idle = not_both c.cpu idle (sound.recs.running rec c p at is)

-- a REC that does not run waits for nothing
pub idle_awaits_nothing : (s : State) (rec : ℕ)
    → IsSound s → IsTrue (has_tag s rec Rec) → IsTrue (is_none (rec_at s rec).cpu) → IsTrue (is_none (rec_at s rec).pending)
idle_awaits_nothing s rec sound tag idle = awaits_by s rec (rec_at s rec) _ sound (rec_there s rec sound tag) refl idle

-- a request that there is
request_read : (found : Option Request) → IsTrue (is_some found) → found ≡ Some (unwrap_or found no_request)
request_read None there = both_ways there refl
request_read (Some request) there = refl

-- is of pages of its realm
pub request_there : (s : State) (rec : ℕ) → IsSound s → IsTrue (has_tag s rec Rec) → IsTrue (is_some (rec_at s rec).request)
    → IsRequest (realm_at s (rec_at s rec).owner) (request_of (rec_at s rec))
request_there s rec sound tag there =
    let c : RecRecord = rec_at s rec in
    let at : s.rec rec ≡ Some c = rec_there s rec sound tag in
    sound.recs.requests rec c (realm_at s c.owner)
    (request_of c) at (realm_there s c.owner sound (sound.recs.owned rec c at)) (request_read c.request there)
