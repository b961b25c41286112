-- `real_steps::point_at`: both reals by `real_at`.
use Rattle.real_steps.proofs.point_at.Goals as goal

pub returns : goal.returns
returns c = cc
