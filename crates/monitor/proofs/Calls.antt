-- Token and pass of a CPU, after an execution.
use Rattle.monitor.proofs.Common.{◌≡◌, true, [], ◌∷◌, ◌++◌, length, refl, sym, ap, ◌∙◌, subst, arith, Result, Ok, Err, IfOk, OnErr, length_push, Command, Done, Committed, CommitFault, TokenView, CpuView, MonitorView, Refused, Unrecorded, ArePaired, committed, returned, unreturned}
use Rattle.std.proofs.Common.{◌-◌, false}
use Rattle.std.proofs.lemmas.Bool.{false≢true}
use Rattle.rmm_spec.specs.declared.event.Event.TheVariants.{Called, Returned}
use Rattle.monitor.specs.Executed.{called, HasCommitted, HasFailed}

-- ---- an execution

-- of a token that was stopped nothing is asked that holds while it isn't
stopped : {A : Type 0} (old new : TokenView) → new ≡ record old { is_stopped = true } → new.is_stopped ≡ false → A
stopped old new is runs = absurd (false≢true (sym runs ∙ ap (λ (t : TokenView). t.is_stopped) is))

module _ (monitor : MonitorView) (command : Command) (token : TokenView) (pass : CpuView) (pair : ArePaired monitor token pass)
    (running : token.is_stopped ≡ false) where
  abbrev commit_of : Done → Committed
  commit_of done = record { ticket = done.ticket; command = command; reply = done.reply }

  -- committed and returned from
  pub paired-returned : (done : Done) (new : TokenView) (new_pass : CpuView) → HasCommitted token command done new
      → new_pass ≡ returned (called pass command) done.reply → ArePaired monitor new new_pass
  paired-returned done new new_pass is_committed is_pass =
      let mine : new.mine ≡ token.mine ++ commit_of done ∷ [] = ap (λ (t : TokenView). t.mine) is_committed in
      let cpu : new.cpu ≡ token.cpu = ap (λ (t : TokenView). t.cpu) is_committed in
      subst (ArePaired monitor new) (sym is_pass) (record {
        same_queue = pair.same_queue;
        same_cpus = pair.same_cpus;
        same_cpu = pair.same_cpu ∙ sym cpu;
        closed = λ _. refl;
        running = λ _. pair.running running;
        counted = λ _. omega (arith, pair.counted running, ap length mine, length_push token.mine (commit_of done));
        faultless = λ _. ap (λ (t : TokenView). t.fault) is_committed;
        few = omega (
          arith,
          pair.few,
          ap length mine,
          length_push token.mine (commit_of done),
          length_push pass.events (Called pass.cpu pass.stand.next command),
          length_push (called pass command).events (Returned pass.cpu ((called pass command).stand.next - 1) done.reply),
        );
      })

  -- committed, and stopped at the return
  pub paired-unreturned : (done : Done) (made new : TokenView) (new_pass : CpuView) → HasCommitted token command done made
      → new ≡ record made { is_stopped = true } → new_pass ≡ unreturned (committed (called pass command) done.reply) → ArePaired monitor new new_pass
  paired-unreturned done made new new_pass is_committed is_new is_pass =
      let mine : new.mine ≡ token.mine ++ commit_of done ∷ [] = ap (λ (t : TokenView). t.mine) is_new ∙ ap (λ (t : TokenView). t.mine) is_committed in
      let cpu : new.cpu ≡ token.cpu = ap (λ (t : TokenView). t.cpu) is_new ∙ ap (λ (t : TokenView). t.cpu) is_committed in
      subst (ArePaired monitor new) (sym is_pass) (record {
        same_queue = pair.same_queue;
        same_cpus = pair.same_cpus;
        same_cpu = pair.same_cpu ∙ sym cpu;
        closed = stopped made new is_new;
        running = stopped made new is_new;
        counted = stopped made new is_new;
        faultless = stopped made new is_new;
        few = omega (
          arith,
          pair.few,
          ap length mine,
          length_push token.mine (commit_of done),
          length_push pass.events (Called pass.cpu pass.stand.next command),
        );
      })

  -- refused behind its call
  pub paired-failed : (fault : CommitFault) (failed new : TokenView) (new_pass : CpuView) → HasFailed token fault failed
      → new ≡ record failed { is_stopped = true } → new_pass ≡ called pass command → ArePaired monitor new new_pass
  paired-failed fault failed new new_pass is_failed is_new is_pass =
      let mine : new.mine ≡ token.mine = ap (λ (t : TokenView). t.mine) is_new ∙ ap (λ (t : TokenView). t.mine) is_failed in
      let cpu : new.cpu ≡ token.cpu = ap (λ (t : TokenView). t.cpu) is_new ∙ ap (λ (t : TokenView). t.cpu) is_failed in
      subst (ArePaired monitor new) (sym is_pass) (record {
        same_queue = pair.same_queue;
        same_cpus = pair.same_cpus;
        same_cpu = pair.same_cpu ∙ sym cpu;
        closed = stopped failed new is_new;
        running = stopped failed new is_new;
        counted = stopped failed new is_new;
        faultless = stopped failed new is_new;
        few = omega (arith, pair.few, ap length mine, length_push pass.events (Called pass.cpu pass.stand.next command));
      })

  -- whatever came of the return
  pub paired-recorded : (result : Result Done Refused) (done : Done) (made new : TokenView) (open_pass new_pass : CpuView)
      → open_pass ≡ committed (called pass command) done.reply → HasCommitted token command done made
      → IfOk result (λ told. (told ≡ done) × (new ≡ made) × (new_pass ≡ returned open_pass done.reply))
      → OnErr result ((result ≡ Err (Unrecorded done)) × (new ≡ record made { is_stopped = true }) × (new_pass ≡ unreturned open_pass))
      → ArePaired monitor new new_pass
  paired-recorded (Ok told) done made new open_pass new_pass is_open is_committed ok err =
      subst (λ t. ArePaired monitor t new_pass) (sym ok.1)
      (paired-returned done made new_pass is_committed (ok.2 ∙ ap (λ p. returned p done.reply) is_open))
  paired-recorded (Err refused) done made new open_pass new_pass is_open is_committed ok err =
      paired-unreturned done made new new_pass is_committed err.1 (err.2 ∙ ap unreturned is_open)
