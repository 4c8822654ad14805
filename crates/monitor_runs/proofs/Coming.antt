-- How a CPU comes through its program: what it has called and committed after each of its commands.
use Rattle.std.proofs.Common.{◌≡◌, ℕ, zero, suc, ◌+◌, ◌-◌, ◌<◌, ◌≤◌, inl, inr, true, false, List, [], ◌∷◌, ◌++◌, length, map, take, get_or, refl, sym, ap, ◌∙◌, subst, arith}
use Rattle.std.specs.Prelude.{Ok, Err, Option, Some, None, MatchOption, IsTrue}
use Rattle.std.specs.List.{AllByRecursion}
use Rattle.std.proofs.lemmas.List.{append-nil, length_push, map_push, take_more}
use Rattle.rmm_spec.specs.declared.command.Command.{Command}
use Rattle.rmm_spec.specs.declared.event.Event.{Event}
use Rattle.rmm_spec.specs.declared.event.Event.TheVariants.{Called, Returned}
use Rattle.rmm_spec.specs.CommandText.{IsCommand}
use Rattle.commit_tickets.specs.declared.committing.Done.{Done}
use Rattle.commit_tickets.specs.declared.fault.CommitFault.{CommitFault}
use Rattle.commit_tickets.specs.declared.fault.CommitFault.TheVariants as commit
use Rattle.commit_tickets.specs.Entries.{Committed}
use Rattle.commit_tickets.specs.View.{TokenView}
use Rattle.event_queue.specs.Records.{WasFull}
use Rattle.event_queue.specs.View.{CpuView}
use Rattle.monitor.specs.Executed.{ArePaired, FullAtSomeMoment, Leaves, HasCommitted, called, returned}
use Rattle.monitor.specs.View.{MonitorView}
use Rattle.monitor.specs.declared.refused.Refused.{Refused}
use Rattle.monitor.specs.declared.refused.Refused.TheVariants.{Full, NoMemory, Unrecorded, Stopped, Disagrees}
use Rattle.monitor.proofs.CpuLists.{cpu-left}
use Rattle.monitor_runs.specs.Worked.{commands_called, commands_committed, CanWork, HasWorked}

commands_called-append : (events more : List Event) → commands_called (events ++ more) ≡ commands_called events ++ commands_called more
commands_called-append [] more = refl
commands_called-append (Called cpu number command ∷ events) more = ap (λ commands. command ∷ commands) (commands_called-append events more)
commands_called-append (Returned cpu number given ∷ events) more = commands_called-append events more

-- a call more
commands_called-called : (pass : CpuView) (command : Command)
    → commands_called (called pass command).events ≡ commands_called pass.events ++ command ∷ []
commands_called-called pass command = commands_called-append pass.events (Called pass.cpu pass.stand.next command ∷ [])

-- each command of a program has a text
pub IsCommand-at : (program : List Command) (place : ℕ) (command : Command) → AllByRecursion IsCommand program → place < length program
    → IsCommand (get_or program place command)
IsCommand-at [] place command have within = absurd (omega (arith, within))
IsCommand-at (first ∷ program) zero command have within = have.0
IsCommand-at (first ∷ program) (suc place) command have within = IsCommand-at program place command have.1 (omega (arith, within))

-- The CPU has called so many commands of its program, the first, and has committed them and returned from them. It isn't stopped,
-- and has no fault.
pub record HasCome (monitor : MonitorView) (cpu : ℕ) (program : List Command) (count : ℕ) (token : TokenView) (pass : CpuView) : Type 0 where
  pub paired : ArePaired monitor token pass
  pub same_cpu : token.cpu ≡ cpu
  pub running : token.is_stopped ≡ false
  pub unfailed : token.fault ≡ None
  pub called : commands_called pass.events ≡ take count program
  pub committed : commands_committed token ≡ take count program
  pub few : length pass.events ≤ count + count
  pub next : pass.stand.next ≡ count

-- a token's fault that is known
fault-is : (fault known : Option CommitFault) (commits calls : ℕ) → fault ≡ known → MatchOption known (commits ≡ calls) (λ _. commits < calls)
    → MatchOption fault (commits ≡ calls) (λ _. commits < calls)
fault-is fault known commits calls same is = subst (λ f. MatchOption f (commits ≡ calls) (λ _. commits < calls)) (sym same) is

-- before its first command
pub come-first : (monitor : MonitorView) (program : List Command) (token : TokenView) (pass : CpuView) → CanWork monitor program token pass
    → HasCome monitor token.cpu program 0 token pass
come-first monitor program token pass can = record {
  paired = can.paired;
  same_cpu = refl;
  running = ap (λ (t : TokenView). t.is_stopped) can.fresh;
  unfailed = ap (λ (t : TokenView). t.fault) can.fresh;
  called = ap (λ (p : CpuView). commands_called p.events) can.before;
  committed = ap commands_committed can.fresh;
  few = omega (arith, ap (λ (p : CpuView). length p.events) can.before);
  next = ap (λ (p : CpuView). p.stand.next) can.before;
}

-- after all commands
pub come-worked : (monitor : MonitorView) (cpu : ℕ) (program : List Command) (count : ℕ) (token : TokenView) (pass : CpuView) → count ≡ length program
    → HasCome monitor cpu program count token pass → HasWorked monitor cpu program token pass
come-worked monitor cpu program count token pass all come = record {
  paired = come.paired;
  same_cpu = come.same_cpu;
  begun = record {
    calls = count;
    commits = count;
    within = (omega arith, omega arith, omega (arith, all));
    called = come.called;
    committed = come.committed;
    fault = fault-is token.fault None count count come.unfailed refl;
    heard = pass.heard;
    ends = inl all;
  };
  few = come.few;
}

module _ (monitor : MonitorView) (cpu : ℕ) (program : List Command) (count : ℕ) (command : Command) (token : TokenView) (pass : CpuView)
    (new_token : TokenView) (new_pass : CpuView) (come : HasCome monitor cpu program count token pass) (within : count < length program)
    (is_next : get_or program count command ≡ command) (paired : ArePaired monitor new_token new_pass) where
  one_more : take count program ++ command ∷ [] ≡ take (count + 1) program
  one_more = ap (λ next. take count program ++ next ∷ []) (sym is_next) ∙ sym (take_more program count command within)

  called_more : commands_called (called pass command).events ≡ take (count + 1) program
  called_more = commands_called-called pass command ∙ ap (λ commands. commands ++ command ∷ []) come.called ∙ one_more

  few_more : length (called pass command).events ≤ (count + 1) + count
  few_more = omega (arith, length_push pass.events (Called pass.cpu pass.stand.next command), come.few)

  committed_more : (old : TokenView) (done : Done) → old.mine ≡ token.mine → HasCommitted old command done new_token
      → commands_committed new_token ≡ take (count + 1) program
  committed_more old done same is =
      let commit : Committed = record { ticket = done.ticket; command = command; reply = done.reply } in
      ap commands_committed is ∙ ap (λ mine. map (λ (c : Committed). c.command) (mine ++ commit ∷ [])) same
      ∙ map_push (λ (c : Committed). c.command) token.mine commit ∙ ap (λ commands. commands ++ command ∷ []) come.committed ∙ one_more

  -- it returned from the next command
  pub come-more : (done : Done) → Leaves command token pass (Ok done) new_token new_pass → HasCome monitor cpu program (count + 1) new_token new_pass
  come-more done left =
      let after : CpuView = returned (called pass command) done.reply in
      let event = Returned pass.cpu ((called pass command).stand.next - 1) done.reply in record {
        paired = paired;
        same_cpu = cpu-left command token new_token pass new_pass (Ok done) left ∙ come.same_cpu;
        running = ap (λ (t : TokenView). t.is_stopped) left.0 ∙ come.running;
        unfailed = ap (λ (t : TokenView). t.fault) left.0;
        called = ap (λ (p : CpuView). commands_called p.events) left.1 ∙ commands_called-append (called pass command).events (event ∷ [])
            ∙ append-nil (commands_called (called pass command).events) ∙ called_more;
        committed = committed_more token done refl left.0;
        few = subst (λ (p : CpuView). length p.events ≤ (count + 1) + (count + 1)) (sym left.1)
            (omega (arith, length_push (called pass command).events event, few_more));
        next = ap (λ (p : CpuView). p.stand.next) left.1 ∙ ap (λ n. n + 1) come.next;
      }

  -- the queue was full for this CPU, whose number is known
  full-for : new_token.cpu ≡ cpu → WasFull monitor.capacity new_pass.cpus new_pass.cpu new_pass.events new_pass.heard
      → WasFull monitor.capacity monitor.config.cpus cpu new_pass.events new_pass.heard
  full-for same_cpu full =
      subst (λ n. WasFull monitor.capacity n cpu new_pass.events new_pass.heard) paired.same_cpus
      (subst (λ n. WasFull monitor.capacity new_pass.cpus n new_pass.events new_pass.heard) (paired.same_cpu ∙ same_cpu) full)

  -- the call stands, and was not committed
  called-only : (fault : CommitFault) → new_token.cpu ≡ token.cpu → new_token.mine ≡ token.mine → new_token.fault ≡ Some fault
      → new_pass ≡ called pass command → HasWorked monitor cpu program new_token new_pass
  called-only fault same_cpu same_mine failed is = record {
    paired = paired;
    same_cpu = same_cpu ∙ come.same_cpu;
    begun = record {
      calls = count + 1;
      commits = count;
      within = (omega arith, omega arith, omega (arith, within));
      called = ap (λ (p : CpuView). commands_called p.events) is ∙ called_more;
      committed = ap (λ mine. map (λ (c : Committed). c.command) mine) same_mine ∙ come.committed;
      fault = fault-is new_token.fault (Some fault) count (count + 1) failed (omega arith);
      heard = new_pass.heard;
      ends = inr (inl (omega arith));
    };
    few = subst (λ (p : CpuView). length p.events ≤ (count + 1) + (count + 1)) (sym is) (omega (arith, few_more));
  }

  -- it was refused
  pub come-refused : (refused : Refused) → Leaves command token pass (Err refused) new_token new_pass
      → (refused ≡ Stopped → IsTrue token.is_stopped) → FullAtSomeMoment monitor.capacity new_pass (Err refused)
      → HasWorked monitor cpu program new_token new_pass
  come-refused (Unrecorded done) left stopped full =
      let same = cpu-left command token new_token pass new_pass (Err (Unrecorded done)) left ∙ come.same_cpu in record {
        paired = paired;
        same_cpu = same;
        begun = record {
          calls = count + 1;
          commits = count + 1;
          within = (omega arith, omega arith, omega (arith, within));
          called = ap (λ (p : CpuView). commands_called p.events) left.1 ∙ called_more;
          committed = committed_more (record token { is_stopped = true }) done refl left.0;
          fault = fault-is new_token.fault None (count + 1) (count + 1) (ap (λ (t : TokenView). t.fault) left.0) refl;
          heard = new_pass.heard;
          ends = inr (inr (full-for same full));
        };
        few = subst (λ (p : CpuView). length p.events ≤ (count + 1) + (count + 1)) (sym left.1) (omega (arith, few_more));
      }
  come-refused NoMemory left stopped full =
      called-only commit.NoMemory (ap (λ (t : TokenView). t.cpu) left.0)
      (ap (λ (t : TokenView). t.mine) left.0) (ap (λ (t : TokenView). t.fault) left.0) left.1
  come-refused Disagrees left stopped full =
      called-only commit.Disagrees (ap (λ (t : TokenView). t.cpu) left.0)
      (ap (λ (t : TokenView). t.mine) left.0) (ap (λ (t : TokenView). t.fault) left.0) left.1
  come-refused Full left stopped full =
      let same = ap (λ (t : TokenView). t.cpu) left.0 ∙ come.same_cpu in record {
        paired = paired;
        same_cpu = same;
        begun = record {
          calls = count;
          commits = count;
          within = (omega arith, omega arith, omega (arith, within));
          called = ap (λ (p : CpuView). commands_called p.events) left.1 ∙ come.called;
          committed = ap commands_committed left.0 ∙ come.committed;
          fault = fault-is new_token.fault None count count (ap (λ (t : TokenView). t.fault) left.0 ∙ come.unfailed) refl;
          heard = new_pass.heard;
          ends = inr (inr (full-for same full));
        };
        few = subst (λ (p : CpuView). length p.events ≤ count + count) (sym left.1) come.few;
      }
  come-refused Stopped left stopped full = absurd (let bad : true ≡ false = sym (stopped refl) ∙ come.running in cc)
