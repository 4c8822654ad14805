use Rattle.std.proofs.Common.{refl, sym, ◌∙◌}
use Rattle.rmm_spec.specs.CommandText.{reply_parts}
use Rattle.rmi_codec.proofs.FrontLaws.{pair_front, same_from_ne}
use Rattle.rmi_codec.proofs.front.err_at.Goals as goal

pub returns-clause-found : goal.returns-clause-found
unfolding reply_parts
returns-clause-found c =
    pair_front c.args.text.now c.args.at c.in_ok-status.middle c.in_ok-index.end c.in_ok-status.status c.in_ok-index.index
    (rw c.split_at.ensures.back at (sym c.split_at-2.ensures.front ∙ same_from_ne _ _ _ refl c.if-ne.ensures ∙ c.as_slice.ensures))
    c.in_ok-status.ensures.found c.in_ok-status.ensures.inside c.if-text-middle-ne32.false
    c.in_ok-index.ensures.found c.in_ok-index.ensures.inside c.if-text-end-ne10.false
