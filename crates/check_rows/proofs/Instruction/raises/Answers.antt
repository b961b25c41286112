-- `check_rows::Instruction::raises`: as `moves`, but nothing is asked of a next instruction.
use mathlib.Core.Path.{sym, ◌∙◌, refl}
use Prim.Native.Nat.{◌+◌}
use native.Mathlib.Nat.{add-zero, sub-zero}
use Rattle.check_rows.specs.Shape.{Raise}
use Rattle.check_rows.specs.Tests.{as_state, stacks_ok, stacks-fit}
use Rattle.check_rows.specs.Rows.{row, unreached-refused, deep, onward}
use Rattle.check_rows.proofs.Instruction.raises.Goals as goal

pub returns-then-self-ge-UNREACHED_DEPTH : goal.returns-then-self-ge-UNREACHED_DEPTH
returns-then-self-ge-UNREACHED_DEPTH c = unreached-refused _ _ _ _ _ _ c.if-self-ge-UNREACHED_DEPTH.true

pub overflow_sub-main : goal.overflow_sub-main
overflow_sub-main c = let w = (stacks-fit _ _ _ _ _ (sym c.depths_ok.ensures ∙ c.if-depths_ok.true)).main in rw c.effect.ensures at w

pub returns-then-depths_ok : goal.returns-then-depths_ok
unfolding stacks_ok
returns-then-depths_ok c =
    let i = c.args.self in
    simp (sub-zero, add-zero) at (onward Raise (row 1 0 0 0 0 0) (as_state i.state) (as_state i.outer) i.procedure (i.place + 1)
    c.if-self-ge-UNREACHED_DEPTH.false refl _ (rw c.effect.ensures at c.depths_ok.ensures) c.if-depths_ok.true)

pub returns : goal.returns
unfolding stacks_ok
returns c =
    let i = c.args.self in
    deep Raise (row 1 0 0 0 0 0) (as_state i.state) (as_state i.outer) i.procedure (i.place + 1)
    c.if-self-ge-UNREACHED_DEPTH.false refl _ (rw c.effect.ensures at c.depths_ok.ensures) c.if-depths_ok.false
