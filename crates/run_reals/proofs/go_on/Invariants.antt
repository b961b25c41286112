-- `run_reals::go_on` meets its contract: instructions on reals and the steps between them are steps of the run; it ends where neither goes on.
use Rattle.run_steps.specs.Going.{Paused}
use Rattle.run_reals.proofs.go_on.Given as goal

abbrev pub invariant-loop-at : goal.invariant-loop-at
invariant-loop-at l =
    Paused l.file l.table l.initial.at.left (record { regs = l.initial.at.regs; main = l.initial.main; ptr = l.initial.ptr; ctl = l.initial.ctl; heap = l.initial.heap })
    l.at.left (record { regs = l.at.regs; main = l.main; ptr = l.ptr; ctl = l.ctl; heap = l.heap }) l.at.plan

abbrev pub decreases-loop-at : goal.decreases-loop-at
decreases-loop-at l = l.at.left
