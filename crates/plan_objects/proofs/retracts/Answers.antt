-- `plan_objects::retracts`: at each of the three codes the definition computes.
use mathlib.Core.Path.{◌≡◌}
use native.Mathlib.Omega.{arith}
use Rattle.model.specs.File.{ins_of}
use Rattle.plan_meaning.specs.Planned.{basic_plan, plan_of, planned}
use Rattle.plan_objects.proofs.retracts.Goals as goal

pub returns-in-60 : goal.returns-in-60
unfolding planned plan_of basic_plan ins_of
returns-in-60 c = λ m. rw (c.writes.ensures, c.in-60.is, c.operand2.ensures.is, c.operand.ensures.is)

pub returns-in-62 : goal.returns-in-62
unfolding planned plan_of basic_plan ins_of
returns-in-62 c = λ m. rw (c.writes-in-62.ensures, c.in-62.is, c.operand2.ensures.is, c.operand.ensures.is)

pub returns-in_default : goal.returns-in_default
unfolding planned plan_of basic_plan ins_of
returns-in_default c =
    λ m.
    let e : c.args.kind ≡ 64 = omega arith in
    rw (c.writes-in_default.ensures, e, c.operand2.ensures.is, c.operand.ensures.is)
