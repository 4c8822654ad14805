-- Where calls that move their CPU leave it, in the words of the law.
use Rattle.std.proofs.Common.{◌≡◌, ◌∙◌, ℕ, ◌+◌, suc, true, List, Some, refl, sym, ap, subst, inr, arith}
use Rattle.std.proofs.lemmas.Bool.{and_from}
use Rattle.rmi_view.specs.Seen.{reply_seen}
use Rattle.rmm_spec.specs.declared.call.Call.{Call}
use Rattle.rmm_spec.specs.declared.event.Event.{Event}
use Rattle.rmm_spec.specs.declared.reply.Reply.{Reply}
use Rattle.rmm_spec.specs.declared.reply.Reply.TheVariants as reply
use Rattle.rmm_spec.specs.Call.{call_of}
use Rattle.rmm_spec.specs.Linearization.{IsCalled, IsReturned}
use Rattle.rmm_spec.specs.Ownership.{is_accepted}
use Rattle.lemmas.proofs.Tests.{both_ways}
use Rattle.verdict_laws.specs.declared.placing.Standing.{Standing}
use Rattle.verdict_laws.specs.declared.placing.Standing.TheVariants.{Outside}
use Rattle.verdict_laws.specs.Placing.{Leaves, StandsBefore, left_standing, moves, stands_after}
use Rattle.slicing.specs.declared.call_at.Answer.{Answer}
use Rattle.slicing.specs.declared.call_at.CallAt.{CallAt}
use Rattle.slicing.specs.Calls.{HasAnswer, IsCallOf}

-- a call that is carried out leaves its CPU where such a call does
left-accepted : (c : Call) (given : Reply) (before : Standing) → is_accepted given ≡ true → left_standing c given before ≡ stands_after c before
left-accepted c (reply.Ok words) before accepted = refl
left-accepted c (reply.Err status index) before accepted = both_ways accepted refl
left-accepted c reply.Misplaced before accepted = both_ways accepted refl

-- so does the CPU's call of a number, if it moves that
pub StandsBefore-moved : (events : List Event) (cpu number : ℕ) (c : CallAt) (a : Answer) → IsCallOf events cpu number c → c.answer ≡ Some a
    → is_accepted (reply_seen a.reply) ≡ true → moves c.call ≡ true → StandsBefore events cpu (number + 1) (stands_after c.call Outside)
StandsBefore-moved events cpu number c a is answered accepted moved =
    let next : suc number ≡ number + 1 = omega arith in
    subst (λ n. StandsBefore events cpu n (stands_after c.call Outside)) next (Outside, leaves, inr (and_from _ _ accepted moves_it))
  where
    returns : IsReturned events a.place c.cpu c.number (reply_seen a.reply)
    returns = subst (HasAnswer events c.cpu c.number) answered is.1.answer

    leaves : Leaves events cpu number Outside (stands_after c.call Outside)
    leaves = record {
      called = c.place;
      command = is.0;
      is_called = subst (λ k. IsCalled events c.place k number is.0) is.2
          (subst (λ n. IsCalled events c.place c.cpu n is.0) is.3 is.1.is_called);
      returned = a.place;
      given = reply_seen a.reply;
      is_returned = subst (λ k. IsReturned events a.place k number (reply_seen a.reply)) is.2
          (subst (λ n. IsReturned events a.place c.cpu n (reply_seen a.reply)) is.3 returns);
      is_left = left-accepted (call_of is.0) (reply_seen a.reply) Outside accepted ∙ ap (λ called. stands_after called Outside) (sym is.1.call);
    }

    moves_it : moves (call_of is.0) ≡ true
    moves_it = ap moves (sym is.1.call) ∙ moved
