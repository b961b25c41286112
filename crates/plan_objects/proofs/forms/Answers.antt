-- `plan_objects::forms`: the definition's test of the room is the code's.
use borrow.Author.Tests.{le-leb, lt-leb}
use Rattle.model.specs.File.{ins_of}
use Rattle.plan_meaning.specs.Planned.{basic_plan, plan_of, planned}
use Rattle.plan_objects.proofs.forms.Goals as goal

pub returns-then-heap-mark : goal.returns-then-heap-mark
unfolding planned plan_of basic_plan ins_of
returns-then-heap-mark c = λ m. rw (← c.operand-plain.ensures.is, ← c.operand2-ptrs.ensures.is, lt-leb _ _ c.if-heap-mark.true)

pub returns : goal.returns
unfolding planned plan_of basic_plan ins_of
returns c = λ m. rw (c.writes.ensures, ← c.operand-plain.ensures.is, ← c.operand2-ptrs.ensures.is, le-leb _ _ c.if-heap-mark.false)
