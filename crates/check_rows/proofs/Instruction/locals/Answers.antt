-- `check_rows::Instruction::locals`: at each code the definition computes; the last is 23, being none of the others.
use mathlib.Core.Path.{◌≡◌}
use native.Mathlib.Numerals.{add-one}
use native.Mathlib.Omega.{arith}
use Rattle.model.specs.File.{ins_of}
use Rattle.model.specs.Checker.{basic_effect}
use Rattle.check_rows.specs.Shape.{shape_of}
use Rattle.check_rows.proofs.Instruction.locals.Goals as goal

pub returns-in-20 : goal.returns-in-20
unfolding shape_of ins_of basic_effect
returns-in-20 c = rw (c.moves.ensures, c.frame.ensures, c.in-20.is, c.operand-word.ensures.is, add-one)

pub returns-in-22 : goal.returns-in-22
unfolding shape_of ins_of basic_effect
returns-in-22 c = rw (c.moves-in-22.ensures, c.frame-in-22.ensures, c.in-22.is, c.operand-word.ensures.is, add-one)

pub returns-in-21 : goal.returns-in-21
unfolding shape_of ins_of basic_effect
returns-in-21 c = rw (c.moves-in-21.ensures, c.frame-in-21.ensures, c.in-21.is, c.operand-word.ensures.is, add-one)

pub returns-in_default : goal.returns-in_default
unfolding shape_of ins_of basic_effect
returns-in_default c =
    let e : c.args.kind ≡ 23 = omega arith in rw (c.moves-in_default.ensures, c.frame-in_default.ensures, e, c.operand-word.ensures.is, add-one)
