-- `plan_objects::push_root`: the definition computes.
use Rattle.model.specs.File.{ins_of}
use Rattle.plan_meaning.specs.Planned.{basic_plan, plan_of, planned}
use Rattle.plan_objects.proofs.push_root.Goals as goal

pub returns : goal.returns
unfolding planned plan_of basic_plan ins_of
returns c = λ f m. c.pushes.ensures
