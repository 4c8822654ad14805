use Rattle.world.proofs.Common.{◌<◌, ◌==◌, ◌∙◌, ◌≡◌, Decided, IsDeciding, IsGoing, ap, arith, eqb-true, false, inl, inr, is_deciding, length, phase_in, subst, sym, true, world_from, world_of, ℕ}
use Rattle.std.proofs.Common.{◌⊎◌, Result, Ok, Err}
use Rattle.std.specs.Prelude.{IfOk}
use Rattle.std.proofs.lemmas.Bool.Decides.{nat_tests}
use Rattle.std.proofs.lemmas.List.{nil_from_length}
use Rattle.rmm_spec.specs.World as spec
use Rattle.world.specs.declared.phase.Phase.{Phase}
use Rattle.world.specs.declared.phase.Phase.TheVariants.{GivenUp, Stopped}
use Rattle.world.specs.declared.turned.Turned.{Turned}
use Rattle.world.specs.Next.{DoesPlanned}
use Rattle.world.specs.Told.{report_of}
use Rattle.world.specs.Cpus.{is_decided}
use Rattle.world.proofs.Phases.{deciding-false}
use Rattle.world.proofs.world.World.go.Goals as goal

-- where no call is open and uncommitted, nothing is planned
unplanned : {E : Type 0} (old new : spec.World) (cpu : ℕ) (r : Result Turned E) → is_deciding (old.phase cpu) ≡ false
    → IfOk r (λ turned. IsDeciding old cpu → DoesPlanned old cpu (report_of turned) new)
unplanned old new cpu (Ok turned) none = λ deciding. absurd (deciding-false old cpu none deciding)
unplanned old new cpu (Err e) none = tt

-- a CPU that gave up or was stopped has ended
ended : (p : Phase) → (p ≡ GivenUp) ⊎ (p ≡ Stopped) → IsGoing (phase_in p) → ⊥
ended p (inl is) going = subst (λ q. IsGoing (phase_in q)) is going
ended p (inr is) going = subst (λ q. IsGoing (phase_in q)) is going

pub call-requires-clause-between : goal.call-requires-clause-between
unfolding world_of world_from
call-requires-clause-between c = sym c.phase.ensures ∙ ap phase_in c.in-Between.is

pub go_on-requires-clause-deciding : goal.go_on-requires-clause-deciding
unfolding world_of world_from
go_on-requires-clause-deciding c =
    record {
      number = c.in-Deciding.number;
      command = c.in-Deciding.command;
      learnt = c.in-Deciding.learnt;
      is_deciding = sym c.phase.ensures ∙ ap phase_in c.in-Deciding.is;
    }

pub free_last-requires-clause-decided : goal.free_last-requires-clause-decided
unfolding world_of world_from
free_last-requires-clause-decided c = ap is_decided (sym c.phase.ensures ∙ ap phase_in c.in-Decided.is)

pub free_last-requires-clause-held : goal.free_last-requires-clause-held
unfolding world_of world_from
free_last-requires-clause-held c =
    let some : (length c.taken.result.now == 0) ≡ false = sym c.is_empty.ensures ∙ c.if-not-is_empty.true in
    subst (λ locks. 0 < length locks) c.taken.ensures.taken (grind (arith, nat_tests, some))

pub return_reply-requires-clause-decided : goal.return_reply-requires-clause-decided
unfolding world_of world_from
return_reply-requires-clause-decided c = (
  c.in-Decided.command,
  sym c.phase.ensures ∙ ap phase_in c.in-Decided.is
      ∙ ap (λ reply. Decided c.in-Decided.number c.in-Decided.command reply) (sym c.copied_reply-reply.ensures),
)

pub return_reply-requires-clause-none : goal.return_reply-requires-clause-none
unfolding world_of world_from
return_reply-requires-clause-none c =
    let none : (length c.taken.result.now == 0) ≡ true = sym c.is_empty.ensures ∙ c.if-not-is_empty.false in
    sym c.taken.ensures.taken ∙ nil_from_length c.taken.result.now (eqb-true (length c.taken.result.now) 0 none)

pub rest-requires-clause-ended : goal.rest-requires-clause-ended
unfolding world_of world_from
rest-requires-clause-ended c = λ going. ended c.phase.result.now c.in-GivenUp.is (subst IsGoing (sym c.phase.ensures) going)

pub returns-in-Between-clause-planned : goal.returns-in-Between-clause-planned
unfolding world_of world_from
returns-in-Between-clause-planned c =
    unplanned (world_of c.args.self.now) (world_of c.call.new.self) c.args.cpu c.call.result
    (ap is_deciding (sym c.phase.ensures ∙ ap phase_in c.in-Between.is))

pub returns-then-not-is_empty-clause-planned : goal.returns-then-not-is_empty-clause-planned
unfolding world_of world_from
returns-then-not-is_empty-clause-planned c = λ deciding.
    absurd (deciding-false (world_of c.args.self.now) c.args.cpu (ap is_deciding (sym c.phase.ensures ∙ ap phase_in c.in-Decided.is)) deciding)

pub returns-else-not-is_empty-clause-planned : goal.returns-else-not-is_empty-clause-planned
unfolding world_of world_from
returns-else-not-is_empty-clause-planned c =
    unplanned (world_of c.args.self.now) (world_of c.return_reply.new.self) c.args.cpu c.return_reply.result
    (ap is_deciding (sym c.phase.ensures ∙ ap phase_in c.in-Decided.is))

pub returns-in-GivenUp-clause-planned : goal.returns-in-GivenUp-clause-planned
unfolding world_of world_from
returns-in-GivenUp-clause-planned c = λ deciding.
    absurd (ended c.phase.result.now c.in-GivenUp.is (subst IsGoing (sym (c.phase.ensures ∙ deciding.is_deciding)) tt))
