-- `check_rows::Instruction::moves`: each way out is one law; passed tests of the depths show that nothing goes below 0 (`stacks-fit`).
use mathlib.Core.Path.{sym, ◌∙◌, refl}
use borrow.Author.Tests.{lt-ltb}
use Rattle.check_rows.specs.Shape.{Next}
use Rattle.check_rows.specs.Tests.{stacks-fit}
use Rattle.check_rows.specs.Rows.{unreached-refused, past, deep, onward}
use Rattle.check_rows.proofs.Instruction.moves.Goals as goal

pub returns-then-self-ge-UNREACHED_DEPTH : goal.returns-then-self-ge-UNREACHED_DEPTH
returns-then-self-ge-UNREACHED_DEPTH c = unreached-refused _ _ _ _ _ _ c.if-self-ge-UNREACHED_DEPTH.true

pub returns-then-self-next : goal.returns-then-self-next
returns-then-self-next c = past _ _ _ _ _ _ c.if-self-ge-UNREACHED_DEPTH.false refl c.if-self-next.true

pub overflow_sub-main : goal.overflow_sub-main
overflow_sub-main c = (stacks-fit _ _ _ _ _ (sym c.depths_ok.ensures ∙ c.if-depths_ok.true)).main

pub overflow_sub-ptr : goal.overflow_sub-ptr
overflow_sub-ptr c = (stacks-fit _ _ _ _ _ (sym c.depths_ok.ensures ∙ c.if-depths_ok.true)).ptr

pub returns-then-depths_ok : goal.returns-then-depths_ok
returns-then-depths_ok c =
    onward Next _ _ _ _ _ c.if-self-ge-UNREACHED_DEPTH.false (lt-ltb _ _ c.if-self-next.false) _ c.depths_ok.ensures c.if-depths_ok.true

pub returns : goal.returns
returns c =
    deep Next _ _ _ _ _ c.if-self-ge-UNREACHED_DEPTH.false (lt-ltb _ _ c.if-self-next.false) _ c.depths_ok.ensures c.if-depths_ok.false
