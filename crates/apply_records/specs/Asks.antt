-- What the functions for control records ask for.
use Rattle.std.specs.Prelude.{ℕ, ◌<◌, ◌≤◌, List}
use Rattle.model.specs.File.{file_most}
use Rattle.model.specs.Calls.{ctl_most}
use Rattle.model.specs.declared.Regs.{Regs}
use Rattle.control_stack.specs.Layout.{Onto}

-- a record is pushed on the control stack
pub record PushesRecord (r : Regs) (ctl : List ℕ) : Type 0 where
  pub place : r.place < file_most
  pub frame : r.frame ≤ ctl_most
  pub handler : r.handler ≤ ctl_most
  pub top : r.ctop ≤ ctl_most
  pub onto : Onto ctl r.ctop
