-- `run_steps::go_on` meets its contract: each turn is one step of the model, done without a loop; soundness, kept by each step, gives what the plan and its writes ask.
use mathlib.Core.Path.{◌≡◌}
use Rattle.run_steps.specs.Going.{Going}
use Rattle.run_steps.proofs.go_on.Given as goal

abbrev pub invariant-loop-left : goal.invariant-loop-left
invariant-loop-left l =
    Going l.file l.table l.budget (record { regs = l.initial.r; main = l.initial.main; ptr = l.initial.ptr; ctl = l.initial.ctl; heap = l.initial.heap })
    l.left (record { regs = l.r; main = l.main; ptr = l.ptr; ctl = l.ctl; heap = l.heap })
    × (l.r.state ≡ 1 → ⊥)

abbrev pub decreases-loop-left : goal.decreases-loop-left
decreases-loop-left l = l.left
