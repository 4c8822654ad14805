use Rattle.command_core.proofs.Common.{◌&&◌, ◌==◌, ◌∙◌, ◌≡◌, ap, subst, sym}
use Rattle.rmm_spec.specs.declared.place.Place.{Place}
use Rattle.world_laws.specs.Misfits.{is_place}
use Rattle.command_core.proofs.Places.{shaped-base}
use Rattle.command_core.proofs.misfits.is_table_at.Goals as goal

pub returns-else-is_at : goal.returns-else-is_at
returns-else-is_at c =
    let a = c.args in
    let place = c.place-place.result in
    let other = sym (shaped-base place a.rd a.level a.number c.place-place.ensures.shaped) ∙ (sym c.is_at.ensures ∙ c.if-is_at.false) in
    subst (λ (p : Place). c.is_at.result ≡ is_place a.rd a.level a.number a.width p) c.place-place.ensures.place
    (c.if-is_at.false ∙ sym (ap (λ test. test && place.width == a.width) other))
