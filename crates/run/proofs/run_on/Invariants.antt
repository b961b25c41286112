-- `run::run_on` meets its contract: the steps pause at a plan that is settled apart, which is one step more; the rest of the run stays the same.
use Prim.Native.Nat.{◌-◌}
use Rattle.run_reals.specs.Reckoning.{Rests}
use Rattle.run.proofs.run_on.Given as goal

abbrev pub invariant-loop-pause : goal.invariant-loop-pause
invariant-loop-pause l =
    Rests l.file l.table l.budget (record { regs = l.fn.regs; main = l.fn.main; ptr = l.fn.ptr; ctl = l.fn.ctl; heap = l.fn.heap })
    l.pause.left (record { regs = l.pause.regs; main = l.main; ptr = l.ptr; ctl = l.ctl; heap = l.heap }) l.pause.plan

abbrev pub decreases-loop-pause : goal.decreases-loop-pause
decreases-loop-pause l = l.pause.left
