-- `plan_flow::enters`: the definition's test of the room is the code's.
use borrow.Author.Tests.{le-leb, lt-leb}
use Rattle.model.specs.File.{ins_of}
use Rattle.plan_meaning.specs.Planned.{plan_of, planned}
use Rattle.plan_flow.proofs.enters.Goals as goal

pub returns-then-ctl-regs : goal.returns-then-ctl-regs
unfolding planned plan_of ins_of
returns-then-ctl-regs c = λ f m. rw (lt-leb _ _ c.if-ctl-regs.true)

pub returns : goal.returns
unfolding planned plan_of ins_of
returns c = λ f m. rw (c.writes.ensures, le-leb _ _ c.if-ctl-regs.false)
