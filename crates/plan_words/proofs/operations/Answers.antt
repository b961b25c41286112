-- `plan_words::operations`: at each of the five codes the definition computes, and the operation is the one that `arithmetic` ensures.
use mathlib.Core.Path.{◌≡◌, ◌∙◌}
use native.Mathlib.Omega.{arith}
use mir.Syntax.{w64}
use mir.ValLaws.{to_z-of_z}
use Rattle.model.specs.File.{ins_of}
use Rattle.model.specs.Words.{operate}
use Rattle.plan_meaning.specs.Planned.{basic_plan, plan_of, planned}
use Rattle.plan_words.proofs.operations.Goals as goal
use Rattle.plan_words.proofs.operations.Goals.{in-140, in-141, in-142, in-143, in_default}

pub returns : goal.returns
unfolding planned plan_of basic_plan ins_of operate
returns c =
    λ f m.
    elim c.match-kind.branch [
      | in-140 w ↦
          let z = w.plus in
          rw (c.result.ensures, w.value-is, w.narrow-value.ensures, w.in-140.is, to_z-of_z w64 _ (record { sfits = z.type_inv }) ∙ z.ensures)
      | in-141 w ↦
          let z = w.times in
          rw (c.result.ensures, w.value-is, w.narrow-value-in-141.ensures, w.in-141.is, to_z-of_z w64 _ (record { sfits = z.type_inv }) ∙ z.ensures)
      | in-142 w ↦
          let z = w.minus in
          rw (c.result.ensures, w.value-is, w.narrow-value-in-142.ensures, w.in-142.is, to_z-of_z w64 _ (record { sfits = z.type_inv }) ∙ z.ensures)
      | in-143 w ↦ rw (c.result.ensures, w.value-is, w.div-value.ensures, w.in-143.is)
      | in_default w ↦
          let e : c.args.kind ≡ 145 = omega arith in
          rw (c.result.ensures, w.value-is, w.rem-value.ensures, e)
    ]
