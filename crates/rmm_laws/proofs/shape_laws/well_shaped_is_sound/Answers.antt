use Rattle.rmm_laws.proofs.ShapeTies.{well_shaped-is_sound}
use Rattle.rmm_laws.proofs.shape_laws.well_shaped_is_sound.Goals as goal

pub returns : goal.returns
returns c = λ config w shaped. well_shaped-is_sound config w.side w.places w.cells shaped
