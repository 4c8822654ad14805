-- A byte that has no room: what stands before it and its own escaped form are within the escaped text.
use Rattle.std.proofs.Common.{◌<◌, ◌+◌, length, take, ap, arith, length-append, vec_len, vec_capacity}
use Rattle.std.proofs.lemmas.Grind.{common_steps}
use Rattle.explain_page.specs.Escaped.{escaped, escaped_byte}
use Rattle.explain_page.proofs.Lengths.{flat_map_within}
use Rattle.explain_page.proofs.escaping.push_escaped.Goals as goal

pub returns-in_err-push_escaped_byte-clause-full : goal.returns-in_err-push_escaped_byte-clause-full
unfolding escaped
returns-in_err-push_escaped_byte-clause-full c =
    let within = flat_map_within escaped_byte c.args.bytes.now c.loop-byte.byte-index 0 c.loop-byte-test.true in
    let longer = ap length c.loop-byte.invariant.written in
    let full : vec_capacity c.args.out.now < vec_len c.args.out.now + length (escaped c.args.bytes.now) =
    omega (
      arith,
      within,
      longer,
      c.loop-byte.invariant.capacity,
      c.in_err-push_escaped_byte.ensures.full,
      length-append c.args.out.now.items (escaped (take c.loop-byte.byte-index c.args.bytes.now)),
      c.args.out.now.ok.0,
      c.loop-byte.out.ok.0,
    ) in
    grind (arith, common_steps, full)
