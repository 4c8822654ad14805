use Rattle.std.proofs.Common.{◌≡◌, ◌≤◌, length, false, sym, ap, ◌∙◌, arith, nat_eq}
use Rattle.std.specs.Prelude.{is_some}
use Rattle.std.specs.HashMap.{get}
use Rattle.std.proofs.lemmas.List.{length_push}
use Rattle.rmm_spec.specs.declared.version.Version.TheVariants.{Large}
use Rattle.rmm_spec.specs.HistoryText.{granule_limit}
use Rattle.merging.specs.Names.{number_in}
use Rattle.merging.proofs.NameLaws.{numbers-push}
use Rattle.merging.proofs.names.Names.take.Goals as goal
use Rattle.lemmas.proofs.Options.{none_of}

pub invariant_of-self-2 : goal.invariant_of-self-2
invariant_of-self-2 c =
    let names = c.self.inside.addresses.items in
    let address = c.args.address in
    let unnamed : is_some (number_in names address) ≡ false =
    ap (λ ns. is_some (number_in ns address)) c.self.view_is ∙ ap is_some (sym c.number.ensures) ∙ sym c.is_some.ensures ∙ c.if-is_some.false in
    let longer : length c.enter.new.addresses.items ≤ granule_limit Large =
    omega (
      arith,
      ap length c.in_ok-enter.ensures.ok,
      length_push names address,
      c.if-most-len.false,
      c.len.ensures,
      c.self.inside.addresses.ok.0,
      c.requires,
    ) in (
      λ a. numbers-push names address (get nat_eq c.self.inside.numbers) (get nat_eq c.enter.new.numbers) c.self.invariant.0
          (none_of (number_in names address) unnamed) c.in_ok-enter.ensures.numbers a
          ∙ ap (λ ns. number_in ns a) (sym c.in_ok-enter.ensures.ok),
      longer,
    )
