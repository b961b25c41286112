-- `plan_flow::exits`: the definition computes.
use Rattle.model.specs.File.{ins_of}
use Rattle.plan_meaning.specs.Planned.{plan_of, planned}
use Rattle.plan_flow.proofs.exits.Goals as goal

pub returns : goal.returns
unfolding planned plan_of ins_of
returns c = λ f m. c.writes.ensures
