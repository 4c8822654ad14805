use Rattle.std.proofs.Common.{◌≤◌, length, drop, sym, ◌∙◌, arith}
use Rattle.rmi_codec.proofs.PartLaws.{parts_from-within, parts_of-first}
use Rattle.rmi_codec.proofs.parts.Parts.next_part.Goals as goal

pub returns-clause-next : goal.returns-clause-next
returns-clause-next c =
    let line = c.self.inside.line.now in
    let at = c.self.inside.at in
    let within : at ≤ length line = omega (arith, c.if-self.false) in
    sym c.self.view_is ∙ parts_from-within line at within
    ∙ rw (c.split_at-2.ensures.front, c.self-2.view_is, c.behind.ensures, c.unwrap_or-end.ensures, c.first_space.ensures, c.split_at.ensures.back)
    (parts_of-first (drop at line))
