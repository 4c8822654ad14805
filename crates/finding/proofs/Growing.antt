-- An order that grows by the next call of a CPU.
use Rattle.finding.proofs.Common.{◌<◌, ◌^◌, ◌∙◌, ◌≡◌, Choice, History, IsHistory, IsNextCall, Line, List, Reply, State, ap, arith, cpu_named, number_named, rank_of, refl, sym, ℕ}
use Rattle.rmm_spec.specs.declared.command.Command.{Command}
use Rattle.rmm_spec.specs.declared.line.Line.TheVariants.{Keep}
use Rattle.rmm_spec.specs.Linearization.{IsCalled, IsOfItsKind, IsReturned}
use Rattle.rmm_spec.specs.Step.{Step}
use Rattle.verdict_laws.specs.Order.{Grows, ReturnBehind, count_of}
use Rattle.finding.specs.Counts.{AreCounts}
use Rattle.finding.specs.Offering.{IsGiven}
use Rattle.finding.specs.Settled.{IsRefusedHere}
use Rattle.finding.proofs.Attempts.{of_a_line}
use Rattle.finding.proofs.Choices.{rank_small}

-- a call that is given its reply makes the order longer
pub Grows-given : (history : History) → IsHistory history
    → (lines : List Line) (state later : State) (counts : List ℕ) (from : ℕ) (choice : Choice) (line : Line)
    → AreCounts counts lines → IsNextCall history counts from choice → cpu_named line ≡ choice.cpu → number_named line ≡ choice.number
    → IsOfItsKind history.events line → ReturnBehind history.events lines choice.places.called
    → IsGiven history.events line choice.places.called state later → Grows history lines state line later
Grows-given history is_history lines state later counts from choice line are next of_cpu numbered kind soon given = record {
  next = record {
    known = (choice.places.called, given.command, given.is_called);
    kind = kind;
    numbered = numbered ∙ next.numbered
        ∙ are.each choice.cpu (let most = is_history.config.most_cpus in let within = next.of_machine in omega (arith, within, most))
        ∙ ap (λ (c : ℕ). count_of c lines) (sym of_cpu);
  };
  called = choice.places.called;
  command = given.command;
  is_called = given.is_called;
  soon = soon;
  entry = given.entry;
  is_entry = given.is_entry;
  step = given.step;
}

-- a call that is given here what it returned makes the order longer
unfoldable pub Grows-returned : (history : History) → IsHistory history
    → (lines : List Line) (state new : State) (counts : List ℕ) (choice : Choice) → AreCounts counts lines
    → IsNextCall history counts 0 choice → ReturnBehind history.events lines choice.places.called → (place : ℕ) (given : Reply)
    → IsReturned history.events place choice.cpu choice.number given → (command : Command)
    → IsCalled history.events choice.places.called choice.cpu choice.number command → Step state choice.cpu command given new
    → Grows history lines state (Keep choice.cpu choice.number) new
Grows-returned history is_history lines state new counts choice are next soon place given is_returned command is_called step = record {
  next = record {
    known = (choice.places.called, command, is_called);
    kind = (place, given, is_returned);
    numbered = next.numbered
        ∙ are.each choice.cpu (let most = is_history.config.most_cpus in let within = next.of_machine in omega (arith, within, most));
  };
  called = choice.places.called;
  command = command;
  is_called = is_called;
  soon = soon;
  entry = record { cpu = choice.cpu; command = command; given = given };
  is_entry = record { cpu = refl; called = choice.places.called; is_called = is_called; given = (place, is_returned) };
  step = step;
}

-- one that is refused here changes nothing
unfoldable pub Grows-refused : (history : History) → IsHistory history
    → (lines : List Line) (state : State) (counts : List ℕ) (choice : Choice) → AreCounts counts lines
    → IsNextCall history counts 0 choice → ReturnBehind history.events lines choice.places.called → IsRefusedHere history state choice
    → Grows history lines state (Keep choice.cpu choice.number) state
unfolding Grows-returned
Grows-refused history is_history lines state counts choice are next soon refused =
    Grows-returned history is_history lines state state counts choice are next soon refused.place refused.given refused.is_returned refused.command
    refused.is_called refused.step

-- what is tried at a rank or behind it is tried at some rank
pub IsNextCall-0 : (history : History) (counts : List ℕ) (from : ℕ) (choice : Choice)
    → IsNextCall history counts from choice → IsNextCall history counts 0 choice
IsNextCall-0 history counts from choice next =
    record { of_machine = next.of_machine; numbered = next.numbered; places = next.places; ranked = omega arith }

pub rank_of_next : (history : History) → IsHistory history → (counts : List ℕ) (from : ℕ) (choice : Choice) → IsNextCall history counts from choice
    → rank_of choice < 2 ^ 31
rank_of_next history is_history counts from choice next =
    rank_small history is_history choice next.places (of_a_line history is_history choice next.places).0

pub number_of_next : (history : History) → IsHistory history → (counts : List ℕ) (from : ℕ) (choice : Choice) → IsNextCall history counts from choice
    → choice.number < 1000000
number_of_next history is_history counts from choice next = (of_a_line history is_history choice next.places).1
