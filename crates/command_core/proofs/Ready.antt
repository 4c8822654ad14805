-- Where what is held settles a command, it allows a local step, whatever the side table has and whichever CPU it is.
use Rattle.command_core.proofs.Common.{◌||◌, ◌∙◌, ◌∷◌, ◌≡◌, ◌≤◌, Accepted, Bool, ByHost, Call, Change, Command, Config, Done, Err, HeldCell, Hold, Inside, IsAnswer, List, None, Ok, Option, Outside, Reaches, Refusal, Result, Some, State, Unchanged, [], ap, are_recs_counted, call_of, can_make, class_of, false, false≢true, has_wrong, if◌then◌else◌, inl, inr, is_settled, is_unshaped, is_vmid_listed, misshaped, named, not, outside_answer, refl, seen_state, subst, sym, true, way_taken, words_fit, ℕ}
use Rattle.rmm_spec.specs.HistoryText.{granule_limit}
use Rattle.rmm_spec.specs.declared.version.Version.TheVariants.{Large}
use Rattle.rmm_spec.specs.declared.call.Call.TheVariants as call
use Rattle.rmm_spec.specs.declared.condition.Condition.TheVariants.{OwnInside}
use Rattle.rmm_spec.specs.declared.refusal.Refusal.TheVariants as of
use Rattle.rmm_spec.specs.declared.reply.Reply.TheVariants as reply
use Rattle.rmm_spec.specs.Call.{Class, ByRealm, ByExit}
use Rattle.rmm_spec.specs.Rows.{done, reply_of}
use Rattle.rmm_spec.specs.Shape.{CpuPlace}
use Rattle.spec_lemmas.proofs.Placed.{is_inside-outside, is_inside-inside}
use Rattle.world_laws.proofs.Refusals.{outside-is_local}
use Rattle.command_rows.specs.Answers.{host_answer, inside_answer}
use Rattle.command_rows.proofs.Outcomes.{outcome-outside, outcome-inside}
use Rattle.rmm_spec.specs.Step.Ripas.{reached_change}
use Rattle.command_core.proofs.Walked.{walk-ready, taken-way, untaken-way}
use Rattle.command_core.proofs.Made.{refused, no_whole, made-answered}
use Rattle.command_core.specs.Furthest.{furthest}
use Rattle.command_core.specs.Changed.{hold_changed, Answers, CanMakeAnswer}
use Rattle.command_core.specs.Unshaped.{is_misfit, is_unshaped_outside}
use Rattle.command_core.specs.Settled.{is_all_held, is_settled_outside, is_settled_inside}
use Rattle.world_laws.specs.Walking.{Way}
use Rattle.command_core.specs.Plan.{AllowsStep, IsReady}
use Rattle.command_core.specs.Decided.{rows_answer, made_answer, settled_answer, made_change}
use Rattle.command_core.proofs.Fits.{makes}
use Rattle.command_core.proofs.Fronts.{refused-answer}
use Rattle.command_core.proofs.Outside.{told_outside, complete-told}
use Rattle.command_core.proofs.Inside.{fitting-told}
use Rattle.command_core.proofs.NoWholes.{unshaped-none}
use Rattle.command_core.proofs.Wholes.{state, rec_inside-place}

-- ---- any answer

allowed : (config : Config) (cpu : ℕ) (command : Command) (hold : Hold) (answer : Result Accepted Refusal) → Answers config cpu command hold answer
    → AllowsStep config cpu command hold
allowed config cpu command hold (Err refusal) step = record { given = reply_of refusal; new = hold_changed hold Unchanged; step = step }
allowed config cpu command hold (Ok (Done words change)) step = record { given = reply.Ok words; new = hold_changed hold change; step = step }
allowed config cpu command hold (Ok (Reaches stretch)) step = absurd step

-- ---- outside of RECs

-- a host's command that is settled and meets no unshaped cells is refused in front, or all is held that its rows look up
settled_by : (fits wrong unshaped complete : Bool) → unshaped ≡ false → (not fits || wrong || unshaped || complete) ≡ true
    → (not fits || wrong) ≡ false → (fits ≡ true) × (complete ≡ true)
settled_by true false false true shaped is front = (refl, refl)
settled_by true false false false shaped is front = absurd (false≢true is)
settled_by true false true complete shaped is front = absurd (false≢true (sym shaped))
settled_by true true unshaped complete shaped is front = absurd (false≢true (sym front))
settled_by false wrong unshaped complete shaped is front = absurd (false≢true (sym front))

host-ready : (config : Config) (cpu : ℕ) (command : Command) (hold : Hold) → class_of (call_of command) ≡ ByHost → hold.place ≡ Outside
    → is_unshaped_outside config (call_of command) hold.cells ≡ false
    → (not (words_fit config (call_of command)) || has_wrong (named (call_of command)) hold.cells
    || is_unshaped_outside config (call_of command) hold.cells
    || is_all_held config (call_of command) hold.cells (way_taken (call_of command))) ≡ true
    → IsAnswer config cpu command hold (made_answer config hold.cells hold.side (told_outside config cpu hold (call_of command)))
host-ready config cpu command hold host place shaped settled =
    by (not (words_fit config (call_of command)) || has_wrong (named (call_of command)) hold.cells) refl
  where
    by : (b : Bool) → (not (words_fit config (call_of command)) || has_wrong (named (call_of command)) hold.cells) ≡ b
        → IsAnswer config cpu command hold (made_answer config hold.cells hold.side (told_outside config cpu hold (call_of command)))
    by true front =
        let refusal = refused-answer config cpu command hold (is_vmid_listed hold.side) (are_recs_counted hold.side) host place front in
        subst (λ (answer : Result Accepted Refusal). IsAnswer config cpu command hold (made_answer config hold.cells hold.side answer))
        (sym refusal.0.1) (refused config cpu command hold (of.Input refusal.0.0) (λ end same. cc) refusal.1)
    by false front =
        let parts = settled_by (words_fit config (call_of command)) (has_wrong (named (call_of command)) hold.cells)
        (is_unshaped_outside config (call_of command) hold.cells)
        (is_all_held config (call_of command) hold.cells (way_taken (call_of command))) shaped settled front in
        all_held (way_taken (call_of command)) refl parts.0 parts.1
      where
        all_held : (o : Option Way) → way_taken (call_of command) ≡ o → words_fit config (call_of command) ≡ true
            → is_all_held config (call_of command) hold.cells o ≡ true
            → IsAnswer config cpu command hold (made_answer config hold.cells hold.side (told_outside config cpu hold (call_of command)))
        all_held (Some way) is fit over = walk-ready config cpu command hold way (taken-way (call_of command) way is) place over
        all_held None is fit complete =
            let told = complete-told config cpu hold (call_of command) (untaken-way config (call_of command) fit is) host fit complete in
            made-answered config cpu command hold (told_outside config cpu hold (call_of command)) told.can
            (λ w. sym (outcome-outside (state config cpu hold w) cpu (call_of command)
            (is_inside-outside config hold.side w.places w.cells w.shaped cpu (w.placed ∙ place))) ∙ told.same w)

-- no other command is given there
other-answer : (vmids recs : ℕ → Bool) (s : State) (cpu : ℕ) (c : Call) (k : Class) → class_of c ≡ k → (k ≡ ByHost → ⊥)
    → outside_answer vmids recs s cpu c ≡ host_answer k s cpu c
unfolding outside_answer class_of
other-answer vmids recs s cpu (call.RealmCreate rd root width level vmid algo) k is other = absurd (other (sym is))
other-answer vmids recs s cpu (call.RealmDestroy rd) k is other = absurd (other (sym is))
other-answer vmids recs s cpu c k is other = ap (λ x. host_answer x s cpu c) is

-- ---- any command

pub settled-answered : (config : Config) (cpu : ℕ) (command : Command) (hold : Hold)
    → is_settled config (call_of command) hold.place hold.cells ≡ true
    → IsAnswer config cpu command hold (settled_answer config cpu (call_of command) hold.cells hold.side hold.place)
unfolding is_settled settled_answer is_unshaped
settled-answered config cpu command hold settled = by (is_unshaped config (call_of command) hold.place hold.cells) refl
  where
    c : Call
    c = call_of command

    told : CpuPlace → Result Accepted Refusal
    told p = made_answer config hold.cells hold.side (rows_answer config cpu c hold.cells (Some hold.side) p)

    outside : (k : Class) → class_of c ≡ k → hold.place ≡ Outside → is_unshaped_outside config c hold.cells ≡ false
        → is_settled_outside k config c hold.cells ≡ true → IsAnswer config cpu command hold (told Outside)
    outside ByHost host place shaped is = host-ready config cpu command hold host place shaped is
    outside ByRealm realm place shaped is =
        subst (λ (answer : Result Accepted Refusal). IsAnswer config cpu command hold (made_answer config hold.cells hold.side answer))
        (sym (other-answer (is_vmid_listed hold.side) (are_recs_counted hold.side) (seen_state config hold.cells) cpu c ByRealm realm (λ same. cc)))
        (refused config cpu command hold (of.Misplaced OwnInside) (λ end same. cc) (outside-is_local config cpu command hold (inl realm) place))
    outside ByExit exit place shaped is =
        subst (λ (answer : Result Accepted Refusal). IsAnswer config cpu command hold (made_answer config hold.cells hold.side answer))
        (sym (other-answer (is_vmid_listed hold.side) (are_recs_counted hold.side) (seen_state config hold.cells) cpu c ByExit exit (λ same. cc)))
        (refused config cpu command hold (of.Misplaced OwnInside) (λ end same. cc) (outside-is_local config cpu command hold (inr exit) place))

    inside : (rec rd : ℕ) → hold.place ≡ Inside rec rd → is_misfit config c rec rd hold.cells ≡ false
        → is_settled_inside (class_of c) config c rec rd hold.cells ≡ true → IsAnswer config cpu command hold (told (Inside rec rd))
    inside rec rd place fits is =
        let answer = fitting-told config cpu hold rec rd c place fits is in
        made-answered config cpu command hold (inside_answer (seen_state config hold.cells) rec c) answer.can
        (λ w.
        let s = state config cpu hold w in
        sym (outcome-inside s cpu c (is_inside-inside config hold.side w.places w.cells w.shaped cpu rec rd (w.placed ∙ place)))
        ∙ (ap (λ x. inside_answer s x c) (rec_inside-place config cpu hold w rec rd place) ∙ answer.same w))

    at : (p : CpuPlace) → hold.place ≡ p → is_settled config c p hold.cells ≡ true → is_unshaped config c p hold.cells ≡ false
        → IsAnswer config cpu command hold (told p)
    at Outside place is shaped = outside (class_of c) refl place shaped is
    at (Inside rec rd) place is shaped = inside rec rd place shaped is

    by : (b : Bool) → is_unshaped config c hold.place hold.cells ≡ b
        → IsAnswer config cpu command hold (if b then Err misshaped else told hold.place)
    by true unshaped = no_whole config cpu command hold (unshaped-none config cpu hold c unshaped)
    by false shaped = at hold.place refl settled shaped

-- what was decided, under another name
pub decision : (config : Config) (cpu : ℕ) (command : Command) (hold : Hold) (c : Call) (given answer : Result Accepted Refusal) → c ≡ call_of command
    → is_settled config (call_of command) hold.place hold.cells ≡ true
    → given ≡ settled_answer config cpu c hold.cells hold.side hold.place → given ≡ answer → IsAnswer config cpu command hold answer
decision config cpu command hold c given answer is settled decided_so same =
    subst (IsAnswer config cpu command hold)
    (ap (λ (x : Call). settled_answer config cpu x hold.cells hold.side hold.place) (sym is) ∙ (sym decided_so ∙ same))
    (settled-answered config cpu command hold settled)

change-makes : (config : Config) (hold : Hold) (words : List ℕ) (change : Change) → config.granules ≤ granule_limit Large
    → CanMakeAnswer hold (made_change config hold.cells hold.side (done words change) change)
change-makes config hold words change few = by (can_make config hold.cells hold.side change) refl
  where
    by : (b : Bool) → can_make config hold.cells hold.side change ≡ b
        → CanMakeAnswer hold (if b then Ok (done words change) else Err misshaped)
    by true fits = makes config hold.cells hold.side hold.place change few fits
    by false unfit = tt

-- an answer that stands can be made of what is held
pub answer-makes : (config : Config) (hold : Hold) (rows : Result Accepted Refusal) → config.granules ≤ granule_limit Large
    → CanMakeAnswer hold (made_answer config hold.cells hold.side rows)
answer-makes config hold (Err refusal) few = tt
answer-makes config hold (Ok (Done words change)) few = change-makes config hold words.items change few
answer-makes config hold (Ok (Reaches stretch)) few =
    let top = furthest (seen_state config hold.cells) stretch in
    change-makes config hold (top ∷ []) (reached_change stretch top) few

-- cells that are unshaped are answered as misplaced
pub decision-unshaped : (config : Config) (cpu : ℕ) (command : Command) (hold : Hold) (c : Call) (given : Result Accepted Refusal)
    → c ≡ call_of command
    → given ≡ settled_answer config cpu c hold.cells hold.side hold.place → is_unshaped config (call_of command) hold.place hold.cells ≡ true
    → given ≡ Err misshaped
unfolding settled_answer
decision-unshaped config cpu command hold c given is decided_so unshaped =
    decided_so ∙ (ap (λ (x : Call). settled_answer config cpu x hold.cells hold.side hold.place) is ∙ rw unshaped refl)

pub settled-ready : (config : Config) (command : Command) (place : CpuPlace) (held : List HeldCell)
    → is_settled config (call_of command) place held ≡ true → IsReady config command place held
settled-ready config command place held settled = record {
  allows = λ cpu side.
      let hold : Hold = record { cells = held; side = side; place = place } in
      allowed config cpu command hold (settled_answer config cpu (call_of command) held side place)
      (settled-answered config cpu command hold settled).is_local;
}
