-- `plan_flow::calls`: the table has the callee's head, where its numbers stand (`numbers`); the definition's tests of the room are the code's.
use mathlib.Core.Path.{◌∙◌}
use native.Mathlib.Omega.{arith}
use lib.ListN.{get_or}
use Rattle.model.specs.Control.{set_regs, set_main, set_ptr, set_ctl}
use Rattle.model.specs.File.{operand, ins_of}
use Rattle.plan_meaning.specs.Planned.{planned}
use Rattle.plan_flow.specs.Given.{Numbers, numbers, no_main, no-ptr, no-ctl, frame-room}
use Rattle.plan_flow.proofs.calls.Goals as goal
use Rattle.plan_flow.proofs.calls.Goals.{After-head_at-head}

-- the numbers of the callee, whose head has been read
head_read : (c : After-head_at-head) →
    let a = c.args in
    Numbers a.file.now (operand a.file.now a.regs.place) (get_or a.table.now c.operand-s.result 0) c.head_at-head.result
head_read c = numbers _ c.requires.4 c.operand-s.ensures.is c.head_at-head.ensures

pub overflow_sub-m : goal.overflow_sub-m
overflow_sub-m c = omega (arith, head_read (goal.at.overflow_sub-m c).After-head_at-head, c.requires.4)

pub overflow_sub-q : goal.overflow_sub-q
overflow_sub-q c = omega (arith, head_read (goal.at.overflow_sub-q c).After-head_at-head, c.requires.4)

pub returns-then-main-m : goal.returns-then-main-m
unfolding planned ins_of
returns-then-main-m c = λ m. no_main (head_read (goal.at.returns-then-main-m c).After-head_at-head) (set_regs _ (set_main _ (set_ptr _ (set_ctl _ m)))) _ c.if-main-m.true

pub returns-then-ptr-q : goal.returns-then-ptr-q
unfolding planned ins_of
returns-then-ptr-q c =
    let H = head_read (goal.at.returns-then-ptr-q c).After-head_at-head in
    λ m. no-ptr H (set_regs _ (set_main _ (set_ptr _ (set_ctl _ m)))) _ c.if-main-m.false c.if-ptr-q.true

pub returns-then-ctl-regs : goal.returns-then-ctl-regs
unfolding planned ins_of
returns-then-ctl-regs c =
    let H = head_read (goal.at.returns-then-ctl-regs c).After-head_at-head in
    λ m. no-ctl H (set_regs _ (set_main _ (set_ptr _ (set_ctl _ m)))) _ c.if-main-m.false c.if-ptr-q.false c.if-ctl-regs.true

pub returns : goal.returns
unfolding planned ins_of
returns c =
    let H = head_read (goal.at.returns c).After-head_at-head in
    λ m. c.writes.ensures ∙ frame-room H (set_regs _ (set_main _ (set_ptr _ (set_ctl _ m)))) _ c.if-main-m.false c.if-ptr-q.false c.if-ctl-regs.false
