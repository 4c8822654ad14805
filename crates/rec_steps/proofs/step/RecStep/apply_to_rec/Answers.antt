use Rattle.std.proofs.Common.{subst}
use Rattle.std.specs.Prelude.{IfSome}
use Rattle.realm_desc.specs.Updates.{IsRecUpdate}
use Rattle.rec_steps.proofs.step.RecStep.apply_to_rec.Goals as goal

pub update-requires : goal.update-requires
update-requires c = subst (λ update. IfSome update (IsRecUpdate c.args.rec.now)) c.in-Some.is (c.requires.of_rec c.args.rec.now)
