use Rattle.std.proofs.Common.{◌+◌, ◌*◌, ◌++◌, drop, ap, ◌∙◌, append_assoc}
use Rattle.std.proofs.lemmas.Result.{on_ok_weaker}
use Rattle.merging.specs.Map.{map_from, map_line}
use Rattle.merging.proofs.RoleLaws.{map_from-next}
use Rattle.merging.proofs.map.push_next.Goals as goal

pub returns : goal.returns
returns c =
    let number = c.args.number in
    let before = c.args.text.now.items in
    let rest = map_from (number + 1) (drop (number + 1) c.args.names.now) in
    let whole = append_assoc before (map_line c.address-address.result (4096 * number)) rest
    ∙ ap (λ more. before ++ more) (map_from-next c.args.names.now number c.address-address.result c.address-address.ensures)
    ∙ c.requires.so_far in
    on_ok_weaker c.push_line.result (λ own. ap (λ text. text ++ rest) own ∙ whole) c.push_line.ensures
