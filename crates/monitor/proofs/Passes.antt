-- The pass of a CPU beside the journal, over an entry.
use Rattle.monitor.proofs.Common.{◌≡◌, ℕ, [], ◌∷◌, ◌++◌, length, inl, inr, sym, ap, ◌∙◌, arith, Result, Ok, Err, IfOk, OnErr, Command, JournalEntry, CommitFault, JournalView, CpuView, committed}
use Rattle.rmm_spec.specs.declared.reply.Reply.{Reply}
use Rattle.std.proofs.Common.{length-append}
use Rattle.std.specs.Prelude.{OnOk}
use Rattle.std.proofs.lemmas.List.{append_cancel_left}
use Rattle.commit_tickets.specs.Left.{HasGained, HasGainedNone}
use Rattle.commit_tickets.specs.View.{entry}
use Rattle.event_queue.specs.Stages.{Stage, entry_at}
use Rattle.event_queue.specs.Stages as stages
use Rattle.monitor.specs.Ordered.{IsInStep}

module _ (command : Command) (old new : CpuView) (before after : JournalView) (deciding : old.stage ≡ stages.Open command) where
  entry_is : (given : Reply) → entry_at old.stage old.cpu given ≡ entry old.cpu command given ∷ []
  entry_is given = ap (λ (s : Stage). entry_at s old.cpu given) deciding

  gained_by : (given : Reply) (cpu : ℕ) → old.cpu ≡ cpu → HasGained cpu command given before after
      → after.entries ≡ before.entries ++ entry_at old.stage old.cpu given
  gained_by given cpu own gained = ap (λ (j : JournalView). j.entries) gained ∙ ap (λ c. before.entries ++ entry c command given ∷ []) (sym own)
      ∙ ap (λ es. before.entries ++ es) (sym (entry_is given))

  -- one entry more is another list
  longer : {A : Type 0} (given : Reply) → after.entries ≡ before.entries → after.entries ≡ before.entries ++ entry_at old.stage old.cpu given → A
  longer given same more =
      absurd
      (omega (arith, ap length same, ap length more, ap length (entry_is given), length-append before.entries (entry_at old.stage old.cpu given)))

  -- an entry with the pass's commit, and none without
  pub in_step : {T : Type 0} (result : Result T CommitFault) (cpu : ℕ) (given : Reply)
      → old.cpu ≡ cpu → OnOk result (HasGained cpu command given before after)
      → OnErr result (HasGainedNone before after) → OnOk result (new ≡ committed old given) → OnErr result (new ≡ old)
      → IsInStep old new before.entries after.entries
  in_step (Ok x) cpu given own gained none made kept = inl (given, gained_by given cpu own gained, made)
  in_step (Err fault) cpu given own gained none made kept = inr (ap (λ (j : JournalView). j.entries) none, kept)

  -- so that the pass has committed where the journal has gained
  pub stepped : {T : Type 0} (result : Result T CommitFault) (given : T → Reply) (cpu : ℕ) → old.cpu ≡ cpu
      → IfOk result (λ done. HasGained cpu command (given done) before after) → OnErr result (HasGainedNone before after)
      → IsInStep old new before.entries after.entries → IfOk result (λ done. new ≡ committed old (given done)) × OnErr result (new ≡ old)
  stepped (Ok done) given cpu own gained none (inl made) =
      let same : entry old.cpu command made.0 ∷ [] ≡ entry old.cpu command (given done) ∷ [] = sym (entry_is made.0)
      ∙ append_cancel_left before.entries _ _ (sym made.1 ∙ gained_by (given done) cpu own gained) ∙ entry_is (given done) in
      let is : entry old.cpu command made.0 ≡ entry old.cpu command (given done) = cc in
      (made.2 ∙ ap (λ (e : JournalEntry). committed old e.given) is, tt)
  stepped (Ok done) given cpu own gained none (inr kept) = longer (given done) kept.0 (gained_by (given done) cpu own gained)
  stepped (Err fault) given cpu own gained none (inl made) = longer made.0 (ap (λ (j : JournalView). j.entries) none) made.1
  stepped (Err fault) given cpu own gained none (inr kept) = (tt, kept.1)
