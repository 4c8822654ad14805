use Rattle.rmm_laws.proofs.ShapeChanges.{changes-keep_shape}
use Rattle.rmm_laws.proofs.shape_laws.changes_keep_shape.Goals as goal

pub returns-clause-shaped : goal.returns-clause-shaped
returns-clause-shaped c = λ config w change shaped can. (changes-keep_shape config w change shaped can).0

pub returns-clause-flat : goal.returns-clause-flat
returns-clause-flat c = λ config w change shaped can. (changes-keep_shape config w change shaped can).1
