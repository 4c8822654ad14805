-- What is looked at of calls for facts, in the words of the law.
use Rattle.std.proofs.Common.{◌≡◌, ◌∙◌, ◌⊎◌, ℕ, ◌<◌, List, None, Option, Some, ap, inl, inr, subst, sym}
use Rattle.std.specs.Option.{IfSome}
use Rattle.rmi_view.specs.Seen.{reply_seen}
use Rattle.rmm_spec.specs.declared.command.Command.{Command}
use Rattle.rmm_spec.specs.declared.event.Event.{Event}
use Rattle.rmm_spec.specs.declared.event.Event.TheVariants.{Called}
use Rattle.rmm_spec.specs.declared.reply.Reply.{Reply}
use Rattle.rmm_spec.specs.Call.{call_of}
use Rattle.rmm_spec.specs.Linearization.{IsCalled, IsReturned}
use Rattle.verdict_laws.specs.declared.facts.Fact.{Fact}
use Rattle.verdict_laws.specs.HeldFacts as laws
use Rattle.verdict_laws.specs.declared.facts.InTurn.{InTurn}
use Rattle.verdict_laws.specs.Facts.{leaves_with, makes, makes_with, may_end, stays_with}
use Rattle.verdict_laws.specs.HeldFacts.{IsLeftAt, IsLeftSince, IsLeftSinceWith, IsOver}
use Rattle.verdict_laws.specs.Placing.{StandsBefore}
use Rattle.verdict_laws.specs.Looking.{is_looking_function}
use Rattle.verdict_laws.specs.Slices as slices
use Rattle.slicing.specs.declared.call_at.Answer.{Answer}
use Rattle.slicing.specs.declared.call_at.CallAt.{CallAt}
use Rattle.slicing.specs.Calls.{ChangesNothing, HasAnswer, IsCallAt}
use Rattle.slicing.specs.declared.done.Done.{Done}
use Rattle.slicing.specs.Facts.{IsLeftOrBeside, IsLeftOrEarly, IsMadeBy, IsPassedBy, LeavesAt, LeavesElsewhere, MakesWith}
use Rattle.slicing.specs.Unused.{IsDone}
use Rattle.slicing.proofs.CallLaws.{made_at}

-- what a reply has to be, whatever it was, is what the call was answered
answer_is : (events : List Event) (cpu number : ℕ) (answer : Option Answer) (given : Reply) → HasAnswer events cpu number answer
    → ((returned : ℕ) (told : Reply) → IsReturned events returned cpu number told → told ≡ given) → IfSome answer (λ a. reply_seen a.reply ≡ given)
answer_is events cpu number None given has only = tt
answer_is events cpu number (Some a) given has only = only a.place (reply_seen a.reply) has

module _ (turn : Option InTurn) (events : List Event) (at cpu number : ℕ) (command : Command) (c : CallAt) (is_at : IsCallAt events at c)
    (is_called : IsCalled events at cpu number command) where
  -- the call that is made at a place is the one that is found there
  both : Some (Called c.cpu c.number is_at.1.0) ≡ Some (Called cpu number command)
  both = sym (made_at events at c is_at) ∙ is_called

  same_cpu : c.cpu ≡ cpu
  same_cpu = cc

  same_number : c.number ≡ number
  same_number = cc

  same_command : is_at.1.0 ≡ command
  same_command = cc

  same_call : c.call ≡ call_of command
  same_call = is_at.1.1.call ∙ ap call_of same_command

  -- with its answer
  answered : HasAnswer events cpu number c.answer
  answered = subst (λ k. HasAnswer events k number c.answer) same_cpu
      (subst (λ n. HasAnswer events c.cpu n c.answer) same_number is_at.1.1.answer)

  -- what changes nothing does so by the law
  nothing_changed : ChangesNothing c → slices.ChangesNothing events cpu number command
  nothing_changed nothing =
      elim nothing [
        | inl looks ↦ inl (sym (ap is_looking_function (is_at.1.1.function ∙ ap (λ (d : Command). d.function) same_command)) ∙ looks)
        | inr refused ↦
            let a = refused.0 in inr (a.place, reply_seen a.reply, subst (HasAnswer events cpu number) refused.1 answered, refused.2)
      ]

  -- a call that leaves a fact by itself does so by the law
  IsLeftAt-call : (fact : Fact) (place : ℕ) → LeavesAt fact place c → IsLeftAt turn fact events place at cpu number command
  IsLeftAt-call fact place leaves =
      elim leaves [
        | inl nothing ↦ inl (nothing_changed nothing)
        | inr rest ↦ elim rest [
          | inl there ↦ inr (inl (sym is_at.0 ∙ there))
          | inr keeps ↦
              inr (inr (inr (inr (inl (λ given only.
              (λ i. may_end fact (sym same_cpu i) (sym same_call i) given)
              ∙ keeps given (answer_is events cpu number c.answer given answered only))))))
        ]
      ]

  -- so does one that leaves it where its CPU stands
  IsLeftAt-elsewhere : (fact : Fact) (place : ℕ) → LeavesElsewhere fact events c → IsLeftAt turn fact events place at cpu number command
  IsLeftAt-elsewhere fact place (standing, stands, stays) =
      inr (inr (inr (inr (inr (
        standing,
        subst (λ k. StandsBefore events k number standing) same_cpu
            (subst (λ n. StandsBefore events c.cpu n standing) same_number stands),
        ap (λ called. stays_with fact called standing) (sym same_call) ∙ stays,
      )))))

  -- so does one that is passed by
  pub IsLeftAt-passed : (fact : Fact) (place : ℕ) → IsPassedBy fact events place c → IsLeftAt turn fact events place at cpu number command
  IsLeftAt-passed fact place passed =
      elim passed [ inl leaves ↦ IsLeftAt-call fact place leaves | inr elsewhere ↦ IsLeftAt-elsewhere fact place elsewhere ]

-- what makes a fact does so by the law
pub IsMadeBy-done : (events : List Event) (place called : ℕ) (done : Done) (fact : Fact) (is_done : IsDone events called place done)
    → IsMadeBy fact events done → laws.IsMadeBy fact events is_done.0
IsMadeBy-done events place called done fact is_done made =
    let d = is_done.0 in
    elim made [
      | inl makes_it ↦ inl ((λ i. makes fact (is_done.5 i) (is_done.3 i) (is_done.4 i)) ∙ makes_it)
      | inr (standing, stands, leaves) ↦
          inr (
            standing,
            subst (λ k. StandsBefore events k d.number standing) (sym is_done.5)
                (subst (λ n. StandsBefore events done.cpu n standing) (sym is_done.6) stands),
            ap (λ called. leaves_with fact called standing) is_done.3 ∙ leaves,
          )
    ]

-- each call leaves a fact since the one that made it, where each that is no earlier does
pub IsLeftSince-early : (turn : Option InTurn) (fact : Fact) (events : List Event) (place maker made : ℕ) → made ≡ maker
    → ((at : ℕ) → IsLeftOrEarly turn fact events place (Some maker) at) → IsLeftSince turn fact events made place
IsLeftSince-early turn fact events place maker made same early = subst (λ m. IsLeftSince turn fact events m place) (sym same) early

-- so it is where others leave it beside another fact
pub IsLeftSinceWith-early : (turn : Option InTurn) (fact : Fact) (events : List Event) (place maker made : ℕ) → made ≡ maker
    → ((at : ℕ) → IsLeftOrBeside turn fact events place maker at) → IsLeftSinceWith turn fact events made place
IsLeftSinceWith-early turn fact events place maker made same early = subst (λ m. IsLeftSinceWith turn fact events m place) (sym same) early

-- what was carried out and comes first does so by the law
pub IsFirst-done : (events : List Event) (turn : Option InTurn) (end called place : ℕ) (done : Done) (is_done : IsDone events called end done)
    → (done.returned < place) ⊎ laws.IsInTurn turn called place → (is_done.0.returned < place) ⊎ laws.IsInTurn turn is_done.0.called place
IsFirst-done events turn end called place done is_done (inl before) = inl (subst (λ r. r < place) (sym is_done.2) before)
IsFirst-done events turn end called place done is_done (inr supposed) =
    inr (subst (λ c. laws.IsInTurn turn c place) (sym is_done.1) supposed)

-- what makes a fact by itself or beside another does so by the law
pub IsMadeWith-done : (turn : Option InTurn) (events : List Event) (place called : ℕ) (done : Done) (fact : Fact)
    (is_done : IsDone events called place done) → MakesWith turn fact events called done → laws.IsMadeWith turn fact events is_done.0
IsMadeWith-done turn events place called done fact is_done (inl made) = inl (IsMadeBy-done events place called done fact is_done made)
IsMadeWith-done turn events place called done fact is_done (inr (other, alone, makes)) =
    inr (
      other,
      subst (laws.IsHeldAlone turn other events) (sym is_done.1) alone,
      (λ i. makes_with other fact (is_done.3 i) (is_done.4 i)) ∙ makes,
    )

-- what a call at a place was answered with comes before what is made after that
pub IsOver-answered : (events : List Event) (place at : ℕ) (c : CallAt) (a : Answer) → IsCallAt events place c → c.answer ≡ Some a → a.place < at
    → IsOver events place at
IsOver-answered events place at c a is answered before = record {
  cpu = c.cpu;
  number = c.number;
  command = is.1.0;
  is_called = made_at events place c is;
  returned = a.place;
  given = reply_seen a.reply;
  is_returned = subst (HasAnswer events c.cpu c.number) answered is.1.1.answer;
  before = before;
}
