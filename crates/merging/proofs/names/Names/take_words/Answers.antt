use Rattle.std.proofs.Common.{◌≡◌, ◌+◌, ◌<◌, drop, get_or, length, ap, ◌∙◌, arith}
use Rattle.std.proofs.lemmas.Result.{err_from_is_err_and}
use Rattle.merging.specs.Names.{addresses_among, addresses_of, names_from}
use Rattle.merging.proofs.NameLaws.{length-names_from}
use Rattle.merging.proofs.RoleLaws.{names_from-next}
use Rattle.merging.proofs.names.Names.take_words.Goals as goal

pub returns-in_err-take_word-clause-too_many : goal.returns-in_err-take_word-clause-too_many
returns-in_err-take_word-clause-too_many c =
    let p = err_from_is_err_and c.from_residual.result c.from_residual.ensures.1 in
    let place = c.loop-place.place in
    let words = c.args.words.now in
    let memory = c.args.limits.memory in
    let roles = c.args.roles.now in
    let more = names_from c.loop-place.self (addresses_of memory c.role_at.result (get_or words place 0)) in
    let rest = addresses_among memory roles (place + 1) (drop (place + 1) words) in
    let all : names_from more rest ≡ names_from c.args.self.now (addresses_among memory roles 0 words) =
    ap (λ r. names_from (names_from c.loop-place.self (addresses_of memory r (get_or words place 0))) rest) c.role_at.ensures
    ∙ names_from-next c.loop-place.self memory roles words place c.loop-place-test.true ∙ c.loop-place.invariant.so_far in
    rw (p.1, p.2) (λ is.
    let many : c.args.limits.most < length more = c.in_err-take_word.ensures.too_many is in
    omega (arith, many, length-names_from more rest, ap length all))
