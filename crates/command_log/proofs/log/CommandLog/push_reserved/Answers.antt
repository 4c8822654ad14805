use Rattle.std.proofs.Common.{◌++◌, [], ◌∷◌, ap, subst, ◌∙◌, arith, ◌+◌, ◌≤◌}
use Rattle.rmi_view.specs.Seen.{command_seen, reply_seen}
use Rattle.command_log.specs.Log.{words_of, spare, room_of}
use Rattle.command_log.proofs.Pushed.{IsPushed, length-lines, length-words, words_of-few, HasWords-pushed, logged_in-pushed, room_of-pushed}
use Rattle.command_log.proofs.log.CommandLog.push_reserved.Given.{Over}
use Rattle.command_log.proofs.log.CommandLog.push_reserved.Goals as goal

is_pushed : (g : Over) (c : goal.After-push_reserved g) → IsPushed c.args.mark c.args.command.function c.args.command.words.now
    (reply_seen c.args.reply) c.self.inside.words.items c.append_given-given.new.words.items c.self.inside.lines.items c.push_reserved.new.self.items
is_pushed g c = record {
  first = c.len-first.result;
  kept = c.append_given-given.result;
  is_words = c.append_given-given.ensures.items ∙ ap (λ ws. ws ++ words_of (reply_seen c.args.reply)) c.append.ensures.items;
  is_lines = c.push_reserved.ensures.items;
  is_first = omega (arith, c.len-first.ensures, c.self.inside.words.ok.0);
  is_kept = c.append_given-given.ensures.given;
}

pub invariant_of-self : goal.invariant_of-self
invariant_of-self g c =
    HasWords-pushed _ _ _ _ _ _ _ _ (is_pushed g c) c.self.invariant c.requires.command c.requires.reply

pub returns-clause-pushed : goal.returns-clause-pushed
returns-clause-pushed g c =
    logged_in-pushed _ _ _ _ _ _ _ _ (is_pushed g c) c.self.invariant
    ∙ ap (λ log. log.logged ++ record { mark = c.args.mark; command = command_seen c.args.command; given = reply_seen c.args.reply } ∷ [])
    c.self.view_is

pub returns-clause-left : goal.returns-clause-left
returns-clause-left g c =
    let pushed = is_pushed g c in
    let lines : spare c.self.inside.lines ≤ spare c.push_reserved.new.self + 1
    = omega (
      arith,
      length-lines _ _ _ _ _ _ _ _ pushed c.self.invariant,
      c.push_reserved.ensures.capacity,
      c.push_reserved.new.self.ok.0,
      c.self.inside.lines.ok.0,
    ) in
    let words : spare c.self.inside.words ≤ spare c.append_given-given.new.words + 20
    = omega (
      arith,
      length-words _ _ _ _ _ _ _ _ pushed c.self.invariant,
      c.requires.command,
      words_of-few (reply_seen c.args.reply) c.requires.reply,
      c.append.ensures.capacity,
      c.append_given-given.ensures.capacity,
      c.append_given-given.new.words.ok.0,
      c.self.inside.words.ok.0,
    ) in
    subst (λ log. log.room ≤ room_of (spare c.push_reserved.new.self) (spare c.append_given-given.new.words) + 1)
    c.self.view_is (room_of-pushed _ _ _ _ lines words)
