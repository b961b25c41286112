-- `check_rows::Instruction::blocks`: at each code the definition computes; the last is 64, being none of the others.
use mathlib.Core.Logic.{⊎_elim}
use mathlib.Core.Path.{◌≡◌}
use Rattle.model.specs.Checker.{basic_effect}
use Rattle.model.specs.File.{maker_pops, ins_of}
use Rattle.check_rows.specs.Shape.{shape_of}
use Rattle.check_rows.proofs.Instruction.blocks.Goals as goal

pub returns-in-36 : goal.returns-in-36
unfolding shape_of ins_of basic_effect maker_pops
returns-in-36 c = rw (c.step.ensures, c.in-36.is, c.operand-k.ensures.is, c.operand2-n.ensures.is)

pub returns-in-60 : goal.returns-in-60
unfolding shape_of ins_of basic_effect
returns-in-60 c = rw (c.step-in-60.ensures, c.in-60.is, c.operand-k.ensures.is, c.operand2-n.ensures.is)

pub returns-in-62 : goal.returns-in-62
unfolding shape_of ins_of basic_effect
returns-in-62 c = rw (c.step-in-62.ensures, c.in-62.is, c.operand-k.ensures.is, c.operand2-n.ensures.is)

pub returns-in_default : goal.returns-in_default
unfolding shape_of ins_of basic_effect
returns-in_default c =
    let n = c.in_default.in_default-own.rest in
    let e : c.args.kind ≡ 64 =
    ⊎_elim (λ e. absurd (n.0.0.1 e)) (⊎_elim (λ e. absurd (n.0.1 e)) (⊎_elim (λ e. absurd (n.1 e)) (λ e. e)))
    c.requires.1
    in
    rw (c.step-in_default.ensures, e, c.operand-k.ensures.is, c.operand2-n.ensures.is)
