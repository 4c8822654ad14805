use Rattle.world.proofs.Common.{◌∙◌, ◌≡◌, Bool, IsDeciding, Turns, Will, World, ap, false, false≢true, refl, subst, sym, true, world_of, ℕ}
use Rattle.std.proofs.Common.{Result, Ok, Err}
use Rattle.std.specs.Prelude.{IfOk, OnErr}
use Rattle.std.proofs.lemmas.Result.{IfOk-weaker}
use Rattle.rmm_spec.specs.declared.turn.Will.TheVariants.{Go, GiveUp, Stop}
use Rattle.world.specs.Next.{DoesPlanned, go_report}
use Rattle.world.specs.Told.{report_of}
use Rattle.world.specs.declared.turned.Turned.{Turned}
use Rattle.world.specs.TurnedWorld.{turned_world}
use Rattle.world.proofs.TurnedWorld.{turned-world}
use Rattle.world.proofs.world.World.turn.Goals as goal

-- whether a CPU is told to do its next step
abbrev goes : Will → Bool
goes Go = true
goes GiveUp = false
goes Stop = false

pub returns-in-Go-clause-planned : goal.returns-in-Go-clause-planned
returns-in-Go-clause-planned c =
    let old = world_of c.args.self.now in
    let new = world_of c.go.new.self in
    IfOk-weaker c.go.result (λ turned. IsDeciding old c.args.cpu → DoesPlanned old c.args.cpu (report_of turned) new) _
    (λ turned planned is. planned) c.go.ensures.planned

pub returns-in-GiveUp-clause-planned : goal.returns-in-GiveUp-clause-planned
returns-in-GiveUp-clause-planned c = λ is. absurd (false≢true (sym (ap goes c.in-GiveUp.is) ∙ ap goes is))

pub returns-in-Stop-clause-planned : goal.returns-in-Stop-clause-planned
returns-in-Stop-clause-planned c = λ is. absurd (false≢true (sym (ap goes c.in-Stop.is) ∙ ap goes is))

pub returns-in-Go-clause-exact : goal.returns-in-Go-clause-exact
returns-in-Go-clause-exact c =
    let report = go_report (world_of c.args.self.now) c.args.cpu in
    IfOk-weaker c.go.result (λ turned. report_of turned ≡ report) _ (λ turned exact is. exact) c.go.ensures.exact

pub returns-in-GiveUp-clause-exact : goal.returns-in-GiveUp-clause-exact
returns-in-GiveUp-clause-exact c = λ is. absurd (false≢true (sym (ap goes c.in-GiveUp.is) ∙ ap goes is))

pub returns-in-Stop-clause-exact : goal.returns-in-Stop-clause-exact
returns-in-Stop-clause-exact c = λ is. absurd (false≢true (sym (ap goes c.in-Stop.is) ∙ ap goes is))

-- what holds whatever is returned holds of an error
of_error : {T E P : Type 0} (r : Result T E) → P → OnErr r P
of_error (Ok value) holds = tt
of_error (Err e) holds = holds

pub returns-in-Go-clause-only_go : goal.returns-in-Go-clause-only_go
returns-in-Go-clause-only_go c = of_error c.go.result c.in-Go.is

-- a go that isn't refused memory makes the one world
gone : {E : Type 0} (old new : World) (cpu : ℕ) (r : Result Turned E) → IfOk r (λ turned. Turns old cpu Go (report_of turned) new)
    → IfOk r (λ turned. report_of turned ≡ go_report old cpu) → IfOk r (λ turned. IsDeciding old cpu → DoesPlanned old cpu (report_of turned) new)
    → IfOk r (λ turned. new ≡ turned_world old cpu Go)
gone old new cpu (Ok turned) turns exact planned = turned-world old cpu Go (report_of turned) new turns (λ is. exact) (λ is. planned)
gone old new cpu (Err e) turns exact planned = tt

pub returns-in-Go-clause-world : goal.returns-in-Go-clause-world
returns-in-Go-clause-world c =
    let old = world_of c.args.self.now in
    let new = world_of c.go.new.self in
    subst (λ will. IfOk c.go.result (λ turned. new ≡ turned_world old c.args.cpu will)) (sym c.in-Go.is)
    (gone old new c.args.cpu c.go.result c.go.ensures.turned c.go.ensures.exact c.go.ensures.planned)

-- no other will goes
none_goes : (will : Will) → goes will ≡ false → {A : Type 0} → will ≡ Go → A
none_goes will other is = absurd (false≢true (sym other ∙ ap goes is))

pub returns-in-GiveUp-clause-world : goal.returns-in-GiveUp-clause-world
returns-in-GiveUp-clause-world c =
    let old = world_of c.args.self.now in
    let new = world_of c.give_up.new.self in
    subst (λ will. new ≡ turned_world old c.args.cpu will) (sym c.in-GiveUp.is)
    (turned-world old c.args.cpu GiveUp (report_of c.give_up.result) new c.give_up.ensures.turned (none_goes GiveUp refl) (none_goes GiveUp refl))

pub returns-in-Stop-clause-world : goal.returns-in-Stop-clause-world
returns-in-Stop-clause-world c =
    let old = world_of c.args.self.now in
    let new = world_of c.stop.new.self in
    subst (λ will. new ≡ turned_world old c.args.cpu will) (sym c.in-Stop.is)
    (turned-world old c.args.cpu Stop (report_of c.stop.result) new c.stop.ensures.turned (none_goes Stop refl) (none_goes Stop refl))
