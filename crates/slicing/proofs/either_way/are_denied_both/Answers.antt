-- Both calls are made and returned, and a reply is denied either way.
use Rattle.std.proofs.Common.{refl}
use Rattle.rmi_view.specs.Seen.{reply_seen}
use Rattle.slicing.proofs.either_way.are_denied_both.Goals as goal

pub returns-then-is_denied_after : goal.returns-then-is_denied_after
returns-then-is_denied_after c otherwise =
    let one = c.args.one.now in
    let other = c.args.other.now in
    let of_one = c.requires.one in
    let of_other = c.requires.other in record {
      turn = record { first = one.called; second = other.called };
      is_made = (one.cpu, one.number, of_one.command, of_one.is_called);
      is_other = (other.cpu, other.number, of_other.command, of_other.is_called);
      is_finished = (of_other.returned, reply_seen other.reply, of_other.is_returned);
      apart = λ same. c.if-one-other.false same;
      so = c.if-is_denied_after.ensures refl;
      otherwise = c.is_denied_after-then-is_denied_after.ensures otherwise;
    }
