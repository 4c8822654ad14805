-- What each accepted command changes, told from its words: the one place where the laws look at commands.
use Rattle.rmm_laws.proofs.Common.{◌+◌, ◌∷◌, ◌≡◌, Accepted, Change, Err, JournalEntry, List, Ok, Refusal, Result, State, [], both_ways, false, is_accepted, outcome, reached_change, rec_at, refl, subst, true, ℕ}
use Rattle.std.proofs.Common.{nat_le, slice_index}
use Rattle.rmm_spec.specs.declared.accepted.Accepted.TheVariants.{Done, Reaches}
use Rattle.rmm_spec.specs.declared.accepted.StretchUse.{StretchUse}
use Rattle.rmm_spec.specs.declared.accepted.StretchUse.TheVariants.{Init, Requested}
use Rattle.rmm_spec.specs.declared.command.Command.{Command}
use Rattle.rmm_spec.specs.declared.entry.Entry.{Entry}
use Rattle.rmm_spec.specs.declared.entry.Entry.TheVariants.{Unassigned}
use Rattle.rmm_spec.specs.declared.function_id.FunctionId.{FunctionId}
use Rattle.rmm_spec.specs.declared.function_id.FunctionId.TheVariants.{RttInitRipas, RttSetRipas}
use Rattle.rmm_spec.specs.Call.{call_from, call_of}
use Rattle.rmm_spec.specs.Footprint.{changed_parts}
use Rattle.rmm_spec.specs.Ownership.{claims_opened, claims_closed, root_made, rec_made, latest_root, latest_rec}
use Rattle.rmm_spec.specs.Rows.{reply_of}
use Rattle.rmm_spec.specs.Lookup.{request_of}
use Rattle.rmm_spec.specs.Walk.{entry_size, entry_for, is_multiple, reach, is_unassigned}
use Rattle.rmm_spec.specs.Step.Ripas.{can_be_set, IsReached}
use Rattle.spec_lemmas.proofs.WalkLaws.{reach-le, walk_ends_unlinked, first_reached}
use Rattle.rmm_laws.proofs.ChangeWords.{is_within, opened, closed, root_of, rec_of}
use Rattle.rmm_laws.proofs.ByRows.{AllHold}
use Rattle.spec_lemmas.proofs.Behind.{behind}
use Rattle.rmm_laws.proofs.RowLaws.{Leads, front-rest, outcome-leads}

-- The change says what the function does to claims with these words and reply words, and is within the function's maps.
pub record Tells (function : FunctionId) (words given : List ℕ) (change : Change) : Type 0 where
  pub within : is_within change (changed_parts function) ≡ true
  pub opens : claims_opened (call_from function words) ≡ opened change
  pub closes : (earlier : List JournalEntry)
      → claims_closed (call_from function words) given earlier ≡ closed (λ rd. latest_root rd earlier) (λ rec. latest_rec rec earlier) change
  pub roots : (rd : ℕ) → root_made rd (call_from function words) ≡ root_of rd change
  pub recs : (rec : ℕ) → rec_made rec (call_from function words) ≡ rec_of rec change

-- what is accepted says so, and a stretch has an end and says so whatever end its reply gives
abbrev pub AcceptedTells : State → FunctionId → List ℕ → Accepted → Type 0
AcceptedTells s function words (Done given change) = Tells function words given.items change
AcceptedTells s function words (Reaches stretch) =
    ((top : ℕ) × IsReached s stretch top) × ((top : ℕ) → Tells function words (top ∷ []) (reached_change stretch top))

-- what a command leads to: a refusal, or what says so
abbrev pub OutcomeTells : State → FunctionId → List ℕ → Result Accepted Refusal → Type 0
OutcomeTells s function words (Ok accepted) = AcceptedTells s function words accepted
OutcomeTells s function words (Err refusal) = is_accepted (reply_of refusal) ≡ false

-- ---- stretches end by their first entry at least

-- an unassigned entry may be set before a realm runs
unassigned-set : (entry : Entry) → is_unassigned entry ≡ true → can_be_set Init entry ≡ true
unassigned-set (Unassigned ripas) is = refl
unassigned-set _ is = both_ways is refl

-- the end of the first entry
first_end : (s : State) (rd base top : ℕ) (purpose : StretchUse) → is_multiple base (entry_size (reach s rd base 3)) ≡ true
    → nat_le (base + entry_size (reach s rd base 3)) top ≡ true → can_be_set purpose (entry_for s rd (reach s rd base 3) base) ≡ true
    → (end : ℕ) × IsReached s (record { rd = rd; base = base; top = top; level = reach s rd base 3; purpose = purpose }) end
first_end s rd base top purpose first ends here = (
  base + entry_size (reach s rd base 3),
  first_reached s (record { rd = rd; base = base; top = top; level = reach s rd base 3; purpose = purpose }) (reach-le s rd base 3) first ends here,
)

-- a stretch that a realm is told of
init-end : (s : State) (rd base top : ℕ) → is_unassigned (entry_for s rd (reach s rd base 3) base) ≡ true
    → is_multiple base (entry_size (reach s rd base 3)) ≡ true → nat_le (base + entry_size (reach s rd base 3)) top ≡ true
    → (end : ℕ) × IsReached s (record { rd = rd; base = base; top = top; level = reach s rd base 3; purpose = Init }) end
init-end s rd base top free first ends = first_end s rd base top Init first ends (unassigned-set (entry_for s rd (reach s rd base 3) base) free)

-- ---- each command

-- where its rows hold, what is done is told by the words
done-tells : (function : FunctionId) (w : List ℕ) (s : State) (cpu : ℕ)
    → AllHold (behind s cpu (call_from function w)).0 → AcceptedTells s function w (behind s cpu (call_from function w)).1
unfolding behind call_from changed_parts claims_opened claims_closed reached_change
done-tells RttInitRipas w s cpu rows = (
  init-end s (slice_index w 0) (slice_index w 1) (slice_index w 2) rows.1.1.0 rows.1.1.1.0 rows.1.1.1.1.0,
  λ top. record { within = refl; opens = refl; closes = λ _. refl; roots = λ _. refl; recs = λ _. refl },
)
done-tells RttSetRipas w s cpu rows = (
  first_end s (slice_index w 0) (slice_index w 2) (slice_index w 3)
      (Requested (slice_index w 1) (request_of (rec_at s (slice_index w 1))).ripas) rows.1.1.1.1.1.1.1.0 rows.1.1.1.1.1.1.1.1.0
      (rw (walk_ends_unlinked s (slice_index w 0) (slice_index w 2)) refl),
  λ top. record { within = refl; opens = refl; closes = λ _. refl; roots = λ _. refl; recs = λ _. refl },
)
done-tells _ w s cpu rows = record { within = refl; opens = refl; closes = λ _. refl; roots = λ _. refl; recs = λ _. refl }

-- what leads to something that is done is told by the words
leads-tells : (function : FunctionId) (w : List ℕ) (s : State) (cpu : ℕ) (found : Result Accepted Refusal)
    → Leads s cpu (call_from function w) found → OutcomeTells s function w found
leads-tells function w s cpu (Ok found) all =
    let c = call_from function w in
    subst (AcceptedTells s function w) all.1 (done-tells function w s cpu (front-rest s c (behind s cpu c).0 all.0).2)
leads-tells function w s cpu (Err refusal) refused = refused

-- what a command leads to is told by its words
pub outcome-tells : (command : Command) (s : State) (cpu : ℕ) (found : Result Accepted Refusal) → outcome s cpu (call_of command) ≡ found
    → OutcomeTells s command.function command.words.items found
outcome-tells command s cpu found is = leads-tells command.function command.words.items s cpu found (outcome-leads s cpu (call_of command) found is)
