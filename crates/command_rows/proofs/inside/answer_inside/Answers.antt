use Rattle.std.proofs.Common.{ap, subst, sym, ◌∙◌}
use Rattle.command_rows.specs.Answers.{IsInside, IsInsideBy, class_answer, inside_answer}
use Rattle.command_rows.proofs.inside.answer_inside.Goals as goal

pub realm_called-requires : goal.realm_called-requires
unfolding IsInside
realm_called-requires g c =
    let s = g.S.Sight.state c.args.sight.now in
    let there = subst (λ class. IsInsideBy class s c.args.rec) (sym c.in-Realm.ensures) c.requires.inside in
    record { rec = there.0; realm = there.1 }

pub left-requires : goal.left-requires
unfolding IsInside
left-requires g c =
    let s = g.S.Sight.state c.args.sight.now in
    subst (λ class. IsInsideBy class s c.args.rec) (sym c.in-Rec.ensures) c.requires.inside

pub returns-in-Host : goal.returns-in-Host
unfolding inside_answer
returns-in-Host g c = ap (λ class. class_answer class (g.S.Sight.state c.args.sight.now) c.args.rec c.args.call.now) c.in-Host.ensures

pub returns-in-Realm : goal.returns-in-Realm
unfolding inside_answer
returns-in-Realm g c =
    c.realm_called.ensures ∙ ap (λ class. class_answer class (g.S.Sight.state c.args.sight.now) c.args.rec c.args.call.now) c.in-Realm.ensures

pub returns-in-Rec : goal.returns-in-Rec
unfolding inside_answer
returns-in-Rec g c = c.left.ensures ∙ ap (λ class. class_answer class (g.S.Sight.state c.args.sight.now) c.args.rec c.args.call.now) c.in-Rec.ensures
