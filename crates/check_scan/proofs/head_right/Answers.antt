-- `check_scan::head_right` meets its contract: the rules stack by stack, in the model's order.
use mathlib.Core.Bool.{true≢false}
use mathlib.Core.Path.{sym, ◌∙◌}
use Rattle.check_scan.specs.Heading.{head-stacks}
use Rattle.check_scan.proofs.head_right.Goals as goal
use Rattle.check_scan.proofs.head_right.Goals.{then-within, else-within}

pub returns-then-within-2 : goal.returns-then-within-2
returns-then-within-2 c =
    elim c.if-within.branch [
      | then-within w ↦
          c.number_right.ensures
          ∙ sym (head-stacks c.args.head c.args.k ∙ rw (sym c.within.ensures ∙ w.if-within.true, sym w.within-then-within.ensures ∙ sym w.value-is ∙ c.if-within-2.true))
      | else-within w ↦ absurd (true≢false (sym c.if-within-2.true ∙ w.value-is ∙ w.if-within.false))
    ]

pub returns-else-within-2 : goal.returns-else-within-2
returns-else-within-2 c =
    elim c.if-within.branch [
      | then-within w ↦
          c.if-within-2.false
          ∙ sym (head-stacks c.args.head c.args.k ∙ rw (sym c.within.ensures ∙ w.if-within.true, sym w.within-then-within.ensures ∙ sym w.value-is ∙ c.if-within-2.false))
      | else-within w ↦ c.if-within-2.false ∙ sym (head-stacks c.args.head c.args.k ∙ rw (sym c.within.ensures ∙ w.if-within.false))
    ]
