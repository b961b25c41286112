-- `plan_flow::jumps`: at each of the two codes the definition computes.
use mathlib.Core.Path.{◌≡◌}
use native.Mathlib.Omega.{arith}
use Rattle.model.specs.File.{ins_of}
use Rattle.plan_meaning.specs.Planned.{plan_of, planned}
use Rattle.plan_flow.proofs.jumps.Goals as goal
use Rattle.plan_flow.proofs.jumps.Goals.{in-1, in_default}

pub returns : goal.returns
unfolding planned plan_of ins_of
returns c =
    λ m.
    elim c.match-kind.branch [
      | in-1 w ↦ rw (c.writes.ensures, w.target-is, w.in-1.is, w.forwards-target.ensures.is)
      | in_default w ↦
          let e : c.args.kind ≡ 3 = omega arith in
          rw (c.writes.ensures, w.target-is, e, w.backwards-target.ensures.is)
    ]
