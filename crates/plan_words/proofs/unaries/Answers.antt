-- `plan_words::unaries`: at each of the two codes the definition computes, and the operation is the one that `arithmetic` ensures.
use mathlib.Core.Path.{◌≡◌}
use native.Mathlib.Omega.{arith}
use Rattle.model.specs.File.{ins_of}
use Rattle.plan_meaning.specs.Planned.{basic_plan, plan_of, planned}
use Rattle.plan_words.proofs.unaries.Goals as goal
use Rattle.plan_words.proofs.unaries.Goals.{in-144, in_default}

pub returns : goal.returns
unfolding planned plan_of basic_plan ins_of
returns c =
    λ f m.
    elim c.match-kind.branch [
      | in-144 w ↦ rw (c.result.ensures, w.value-is, w.neg-value.ensures, w.in-144.is)
      | in_default w ↦
          let e : c.args.kind ≡ 146 = omega arith in
          rw (c.result.ensures, w.value-is, e, ← w.not.ensures)
    ]
