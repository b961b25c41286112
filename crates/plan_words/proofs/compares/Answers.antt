-- `plan_words::compares`: at each of the five codes the definition computes, and the comparison is the one that `arithmetic` ensures.
use mathlib.Core.Path.{◌≡◌}
use native.Mathlib.Omega.{arith}
use Rattle.model.specs.File.{ins_of}
use Rattle.plan_meaning.specs.Planned.{basic_plan, plan_of, planned}
use Rattle.plan_words.proofs.compares.Goals as goal
use Rattle.plan_words.proofs.compares.Goals.{in-130, in-195, in-198, in-201, in_default}

pub returns : goal.returns
unfolding planned plan_of basic_plan ins_of
returns c =
    λ f m.
    elim c.match-kind.branch [
      | in-130 w ↦ rw (c.writes.ensures, w.word-is, w.in-130.is, ← w.eq_w-word.ensures)
      | in-195 w ↦ rw (c.writes.ensures, w.word-is, w.in-195.is, ← w.lt-word.ensures)
      | in-198 w ↦ rw (c.writes.ensures, w.word-is, w.in-198.is, ← w.le-word.ensures)
      | in-201 w ↦ rw (c.writes.ensures, w.word-is, w.in-201.is, ← w.gt-word.ensures)
      | in_default w ↦
          let e : c.args.kind ≡ 204 = omega arith in
          rw (c.writes.ensures, w.word-is, e, ← w.ge-word.ensures)
    ]
