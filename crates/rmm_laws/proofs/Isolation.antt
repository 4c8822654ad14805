-- Along a run the state is sound, the open claims are its ties, and the commits say what made its realms and RECs.
use Rattle.rmm_laws.proofs.Common.{◌++◌, ◌∙◌, ◌∷◌, ◌≡◌, Accepted, Change, Claim, Err, IsRun, IsSound, JournalEntry, List, None, Ok, Rd, RealmDestroyed, RecDestroyed, Refusal, Reply, Result, Rtt, Some, State, Step, [], ap, both_ways, changed, claim, false, inl, is_accepted, ok, opening, outcome, reached_change, realm_at, rec_at, refl, subst, sym, ℕ}
use Rattle.std.proofs.Common.{take}
use Rattle.rmm_spec.specs.declared.accepted.Accepted.TheVariants.{Done, Reaches}
use Rattle.rmm_spec.specs.declared.reply.Reply.TheVariants as reply
use Rattle.rmm_spec.specs.Applicable.{CanApply}
use Rattle.rmm_spec.specs.Call.{call_of}
use Rattle.rmm_spec.specs.HistoryText.{Config, History}
use Rattle.rmm_spec.specs.Judgement.{IsIsolatedThroughout}
use Rattle.rmm_spec.specs.Ownership.{latest_root, latest_rec, rec_claims, claims, claims_closed, claims_after, claims_from, without_claims, IsIsolated}
use Rattle.rmm_spec.specs.Step.{CarriesOut}
use Rattle.rmm_laws.proofs.Changes.{changed_sound}
use Rattle.rmm_laws.proofs.Opening.{opening_sound}
use Rattle.rmm_laws.proofs.Runs.{done_applies, reached_applies}
use Rattle.rmm_laws.proofs.Searches.{realm_there, rec_there}
use Rattle.rmm_laws.proofs.ChangeAccounts.{roots_at, recs_at, change-accounts}
use Rattle.rmm_laws.proofs.ChangeWords.{opened, closed}
use Rattle.rmm_laws.proofs.CommandFacts.{Tells, OutcomeTells, outcome-tells}
use Rattle.rmm_laws.proofs.Owners.{AreOwned, changed-owned, owned-isolated}
use Rattle.rmm_laws.proofs.Recorded.{IsRecorded, root_in, parts_in, roots-after, recs-after}

-- Of the commits so far (latest first), the open claims and the state.
pub record IsAccounted (earlier : List JournalEntry) (held : List Claim) (s : State) : Type 0 where
  pub sound : IsSound s
  pub owned : AreOwned held s
  pub roots : IsRecorded root_in (λ rd. latest_root rd earlier) s.realm
  pub recs : IsRecorded parts_in (λ rec. latest_rec rec earlier) s.rec

-- what the commits say is closed is what the state says
closed-same : (earlier : List JournalEntry) (held : List Claim) (s : State) (change : Change) → IsAccounted earlier held s → CanApply s change
    → closed (λ rd. latest_root rd earlier) (λ rec. latest_rec rec earlier) change ≡ closed (roots_at s) (recs_at s) change
closed-same earlier held s (RealmDestroyed rd root) a can =
    ap (λ r. claim rd Rd rd ∷ claim r Rtt rd ∷ []) (a.roots rd (realm_at s rd) (realm_there s rd a.sound can.rd_tag))
closed-same earlier held s (RecDestroyed rec aux0 aux1) a can = ap (rec_claims rec) (a.recs rec (rec_at s rec) (rec_there s rec a.sound can.rec_tag))
closed-same earlier held s _ a can = refl

module _ (earlier : List JournalEntry) (held : List Claim) (old : State) (entry : JournalEntry) (a : IsAccounted earlier held old) where
  -- a refusal leaves all as it is
  refused-accounted : (given : Reply)
      → entry.given ≡ given → is_accepted given ≡ false → IsAccounted (entry ∷ earlier) (claims_after given entry earlier held) old
  refused-accounted (reply.Ok words) is refused = both_ways refl refused
  refused-accounted (reply.Err status index) is refused = record {
    sound = a.sound;
    owned = a.owned;
    roots = rw is a.roots;
    recs = rw is a.recs;
  }
  refused-accounted reply.Misplaced is refused = record {
    sound = a.sound;
    owned = a.owned;
    roots = rw is a.roots;
    recs = rw is a.recs;
  }

  -- an acceptance makes a change that opens and closes claims
  accepted-accounted : (words : List ℕ) (change : Change)
      → entry.given ≡ ok words → Tells entry.command.function entry.command.words.items words change → CanApply old change
      → IsAccounted (entry ∷ earlier) (claims_after (ok words) entry earlier held) (changed old change)
  accepted-accounted words change is tells can =
      let call = call_of entry.command in
      let closes : claims_closed call words earlier ≡ closed (roots_at old) (recs_at old) change =
      tells.closes earlier ∙ closed-same earlier held old change a can in
      let owned = changed-owned old (changed old change) (opened change)
      (closed (roots_at old) (recs_at old) change) held a.sound (change-accounts old change a.sound can) a.owned in
      record {
        sound = changed_sound old change a.sound can;
        owned = subst (λ opens. AreOwned (opens ++ without_claims (claims_closed call words earlier) held) (changed old change)) (sym tells.opens)
            (subst (λ cs. AreOwned (opened change ++ without_claims cs held) (changed old change)) (sym closes) owned);
        roots = λ rd realm there. rw (is, tells.roots rd) (roots-after old change (λ x. latest_root x earlier) a.sound can a.roots rd realm there);
        recs = λ rec r there. rw (is, tells.recs rec) (recs-after old change (λ x. latest_rec x earlier) a.sound can a.recs rec r there);
      }

  -- whatever is carried out
  carried-accounted : (found : Result Accepted Refusal) (new : State) → outcome old entry.cpu (call_of entry.command) ≡ found
      → OutcomeTells old entry.command.function entry.command.words.items found → CarriesOut found old entry.given new
      → IsAccounted (entry ∷ earlier) (claims_after entry.given entry earlier held) new
  carried-accounted (Err refusal) new is tells p = rw p.1 (refused-accounted entry.given refl (rw p.0 tells))
  carried-accounted (Ok (Done words change)) new is tells p =
      subst (λ given. IsAccounted (entry ∷ earlier) (claims_after given entry earlier held) new) (sym p.0)
      (rw p.1 (accepted-accounted words.items change p.0 tells (done_applies old entry.cpu entry.command words.items change a.sound is)))
  carried-accounted (Ok (Reaches stretch)) new is tells (top, (reached, is_ok, is_next)) =
      subst (λ given. IsAccounted (entry ∷ earlier) (claims_after given entry earlier held) new) (sym is_ok)
      (rw is_next (accepted-accounted (top ∷ []) (reached_change stretch top) is_ok (tells.1 top)
      (reached_applies old entry.cpu entry.command stretch top a.sound is reached)))

-- each commit stays accounted for
step-accounted : (earlier : List JournalEntry) (held : List Claim) (old new : State) (entry : JournalEntry) → IsAccounted earlier held old
    → Step old entry.cpu entry.command entry.given new → IsAccounted (entry ∷ earlier) (claims_after entry.given entry earlier held) new
step-accounted earlier held old new entry a step =
    let found = outcome old entry.cpu (call_of entry.command) in
    carried-accounted earlier held old entry a found new refl (outcome-tells entry.command old entry.cpu found refl) step

-- and so a run
run-accounted : (entries earlier : List JournalEntry) (held : List Claim) (old last : State) → IsAccounted earlier held old → IsRun old entries last
    → (all : List JournalEntry) × IsAccounted all (claims_from earlier held entries) last
run-accounted [] earlier held old last a run = (earlier, rw run a)
run-accounted (entry ∷ entries) earlier held old last a (next, step, run) =
    run-accounted entries (entry ∷ earlier) (claims_after entry.given entry earlier held) next last
    (step-accounted earlier held old next entry a step) run

-- at the opening nothing is claimed, and nothing is there
opening-accounted : (config : Config) → IsAccounted [] [] (opening config)
unfolding opening
opening-accounted config = record {
  sound = opening_sound config;
  owned = record { each = λ granule. inl (refl, inl refl) };
  roots = λ rd realm there. absurd (let bad : None ≡ Some realm = there in cc);
  recs = λ rec r there. absurd (let bad : None ≡ Some r = there in cc);
}

-- what a run leaves is sound, and its ties are the open claims
pub run-owned : (config : Config) (entries : List JournalEntry) (last : State)
    → IsRun (opening config) entries last → IsSound last × AreOwned (claims entries) last
unfolding claims
run-owned config entries last run =
    let kept = run-accounted entries [] [] (opening config) last (opening-accounted config) run in (kept.1.sound, kept.1.owned)

-- whatever a run leaves, every granule is at most one realm's, in one role
pub run-isolated : (config : Config) (entries : List JournalEntry) (last : State) → IsRun (opening config) entries last → IsIsolated entries last
run-isolated config entries last run = let kept = run-owned config entries last run in owned-isolated entries last kept.0 kept.1

-- and so after each first part of its commits
pub isolated_throughout : (history : History) (entries : List JournalEntry) → IsIsolatedThroughout history entries
isolated_throughout history entries count s _ run = run-isolated history.config (take count entries) s run
