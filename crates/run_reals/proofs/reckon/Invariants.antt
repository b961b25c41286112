-- `run_reals::reckon` meets its contract: each turn is one step of the model, in a run of every state that has these registers and this main stack.
use Rattle.run_reals.specs.Reckoning.{AtReal, Reckons}
use Rattle.run_reals.proofs.reckon.Given as goal

abbrev pub invariant-loop-left : goal.invariant-loop-left
invariant-loop-left l = AtReal l.file l.main l.r l.at × Reckons l.file l.initial.main l.initial.r l.initial.left l.main l.r l.left

abbrev pub decreases-loop-left : goal.decreases-loop-left
decreases-loop-left l = l.left
