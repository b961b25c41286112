-- `check_rows::Instruction::calls`: the table has the callee's head, where its numbers stand (`head-of`); a procedure that there is not is 5.
use Prim.Native.Nat.{suc}
use mathlib.Core.Path.{◌∙◌}
use lib.ListN.{length}
use native.Mathlib.Omega.{arith}
use borrow.Author.Tests.{le-leb, lt-leb}
use Rattle.model.specs.Checker.{effect_of}
use Rattle.code_file.specs.Heads.{proc_head, head-of}
use Rattle.check_rows.specs.Shape.{shape_of}
use Rattle.check_rows.specs.Rows.{plainly}
use Rattle.check_rows.proofs.Instruction.calls.Goals as goal

pub returns-then-heads-n : goal.returns-then-heads-n
unfolding shape_of plainly
returns-then-heads-n c =
    let t = c.requires.0 in
    rw (← c.operand-n.ensures.is, ← t.count, lt-leb (suc c.operand-n.result) (length c.args.heads.now) (omega arith))

pub returns : goal.returns
unfolding shape_of proc_head effect_of
returns c =
    let t = c.requires.0 in
    let n = c.operand-n.result in
    let at = t.heads n (omega (arith, t.few)) in
    rw (c.step.ensures, ← c.operand-n.ensures.is, c.head_at-head.ensures.is ∙ head-of _ n _ at, ← t.count, le-leb (suc n) (length c.args.heads.now) (omega arith))
