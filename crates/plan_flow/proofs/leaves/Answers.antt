-- `plan_flow::leaves`: the return place is read from the frame's record.
use Rattle.std.proofs.Common.{ap}
use Rattle.model.specs.Control.{Frame}
use Rattle.model.specs.File.{ins_of}
use Rattle.plan_meaning.specs.Planned.{plan_of, planned}
use Rattle.plan_flow.proofs.leaves.Goals as goal

pub returns : goal.returns
unfolding planned plan_of ins_of
returns c = λ f m. rw (c.writes.ensures, ap (λ (w : Frame). w.returns) c.frame_of-place.ensures)
