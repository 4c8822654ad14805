use Rattle.std.proofs.Common.{◌≡◌, ◌<◌, ◌++◌, ◌∷◌, [], length, sym, ap, ◌∙◌, subst, arith}
use Rattle.certificate.proofs.HeldLemmas.{IsHeld-claim, lines_of-claim}
use Rattle.certificate.proofs.certificate.Certificate.claim.Goals as goal
use Rattle.certificate.specs.View.{lines_of}
use Rattle.certificate.specs.declared.certificate.Claim.{Claim}
use Rattle.certificate.specs.declared.certificate.Named.TheVariants as named
use Rattle.rmm_spec.specs.declared.line.Line.TheVariants as line

-- the name behind the others has the claim behind the others
names_are : (c : goal.After-push_reserved)
    → c.push_reserved.new.self.items ≡ c.self.inside.names.items ++ named.Unfinished c.args.cpu (length c.self.inside.claims.items) ∷ []
names_are c =
    let index_is : c.len-index.result ≡ length c.self.inside.claims.items = omega (arith, c.len-index.ensures, c.self.inside.claims.ok.0) in
    c.push_reserved.ensures.items ∙ ap (λ xs. xs ++ named.Unfinished c.args.cpu c.len-index.result ∷ []) c.in_ok-reserve.ensures.items
    ∙ ap (λ n. c.self.inside.names.items ++ named.Unfinished c.args.cpu n ∷ []) index_is

pub invariant_of-self-2 : goal.invariant_of-self-2
invariant_of-self-2 c =
    let claimed : Claim = record { number = c.args.number; reply = c.args.reply } in
    let room : length (lines_of c.self.inside.names.items c.self.inside.claims.items) < 1000000 =
    subst (λ held. length held.lines < 1000000) (sym c.self.view_is) c.requires.room in
    rw (names_are c, c.in_ok-push.ensures.items)
    (IsHeld-claim c.self.inside.names.items c.self.inside.claims.items c.args.cpu claimed c.self.invariant c.requires.is_line room)

pub returns-clause-ok : goal.returns-clause-ok
returns-clause-ok c =
    let claimed : Claim = record { number = c.args.number; reply = c.args.reply } in
    rw (names_are c, c.in_ok-push.ensures.items)
    (lines_of-claim c.self.inside.names.items c.self.inside.claims.items c.args.cpu claimed c.self.invariant.each_claim
    ∙ ap (λ held. held.lines ++ line.Unfinished c.args.cpu c.args.number c.args.reply ∷ []) c.self.view_is)
