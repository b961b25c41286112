-- The numbers stand at their indices of the map.
use Rattle.model.specs.Sound.{main_at, ptr_at, inner_at}
use Rattle.audit_places.proofs.Passed.at.Goals as goal

pub returns : goal.returns
unfolding main_at ptr_at inner_at
returns c = record { main = c.number.ensures; ptr = c.number-2.ensures; inner = c.number-3.ensures }
