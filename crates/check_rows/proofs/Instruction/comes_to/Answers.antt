-- `check_rows::Instruction::comes_to`: in each row the code is known, and the definition computes; a code with no row pops reals (`last_row`).
use mathlib.Core.List.{[], ◌∷◌}
use mathlib.Core.Logic.{◌⊎◌, inl, inr}
use Prim.Native.Nat.{suc, ◌<◌}
use mathlib.Core.Path.{◌∙◌, refl, ap}
use native.Mathlib.Omega.{arith}
use Rattle.model.specs.File.{codes, bodies, body_of, maker_pops, ins_of}
use Rattle.model.specs.Checker.{basic_effect}
use Rattle.check_rows.specs.Shape.{Next, shape_of}
use Rattle.check_rows.specs.Site.{body-room}
use Rattle.check_rows.specs.Kinds.{body-locals, body-blocks, last_row}
use Rattle.check_rows.specs.Rows.{row, row_shape, at_row, at_rows}
use Rattle.check_rows.proofs.Instruction.comes_to.Goals as goal
use Rattle.check_rows.proofs.Instruction.comes_to.Goals.{in_default-via-then-kind-lt20, in_default-via-else-kind-lt20+else-kind-lt24}

pub blocks-requires : goal.blocks-requires
blocks-requires c = (body-room c.requires.1 4 (ap body_of c.requires.2 ∙ body-blocks _ c.in-36.is), c.in-36.is)

pub calls-requires : goal.calls-requires
unfolding body_of bodies codes
calls-requires c = (c.requires.0, body-room c.requires.1 2 (ap body_of (c.requires.2 ∙ c.in-72.is)))

pub locals-requires : goal.locals-requires
locals-requires c =
    (body-room c.requires.1 2 (ap body_of c.requires.2 ∙ body-locals _ (omega arith) (omega arith)), omega arith, omega arith)

pub reals-requires : goal.reals-requires
reals-requires c =
    let k = c.args.kind in
    let out : (k < 20) ⊎ (23 < k) = elim c.in_default.branch [ in_default-via-then-kind-lt20 w ↦ inl (omega arith) | in_default-via-else-kind-lt20+else-kind-lt24 w ↦ inr (omega arith) ] in
    last_row k c.requires.3 c.requires.4 out c.in_default-1.rest (λ e. c.requires.1.known (ap body_of c.requires.2 ∙ e))

pub returns-in-30 : goal.returns-in-30
unfolding ins_of shape_of basic_effect body_of bodies codes
returns-in-30 c = at_row _ _ _ _ _ (c.requires.2 ∙ c.in-30.is) refl refl c.step.ensures

pub returns-in-31 : goal.returns-in-31
unfolding ins_of shape_of basic_effect body_of bodies codes
returns-in-31 c = at_row _ _ _ _ _ (c.requires.2 ∙ c.in-31.is) refl refl c.step-in-31.ensures

pub returns-in-32 : goal.returns-in-32
unfolding ins_of shape_of basic_effect body_of bodies codes
returns-in-32 c = at_row _ _ _ _ _ (c.requires.2 ∙ c.in-32.is) refl refl c.step-in-32.ensures

pub returns-in-33 : goal.returns-in-33
unfolding ins_of shape_of basic_effect body_of bodies codes
returns-in-33 c = at_row _ _ _ _ _ (c.requires.2 ∙ c.in-33.is) refl refl c.step-in-33.ensures

pub returns-in-36 : goal.returns-in-36
returns-in-36 c = at_row _ _ _ _ _ c.requires.2 (ap suc (body-blocks _ c.in-36.is)) refl c.blocks-in-36.ensures

pub returns-in-54 : goal.returns-in-54
unfolding ins_of shape_of basic_effect body_of bodies codes
returns-in-54 c = at_row _ _ _ _ _ (c.requires.2 ∙ c.in-54.is) refl refl c.step-in-54.ensures

pub returns-in-56 : goal.returns-in-56
unfolding ins_of shape_of basic_effect body_of bodies codes
returns-in-56 c = at_row _ _ _ _ _ (c.requires.2 ∙ c.in-56.is) refl refl c.step-in-56.ensures

pub returns-in-57 : goal.returns-in-57
unfolding ins_of shape_of basic_effect body_of bodies codes
returns-in-57 c = at_row _ _ _ _ _ (c.requires.2 ∙ c.in-57.is) refl refl c.step-in-57.ensures

pub returns-in-58 : goal.returns-in-58
unfolding ins_of shape_of basic_effect body_of bodies codes
returns-in-58 c = at_row _ _ _ _ _ (c.requires.2 ∙ c.in-58.is) refl refl c.step-in-58.ensures

pub returns-in-59 : goal.returns-in-59
unfolding ins_of shape_of basic_effect body_of bodies codes
returns-in-59 c = at_row _ _ _ _ _ (c.requires.2 ∙ c.in-59.is) refl refl c.step-in-59.ensures

pub returns-in-72 : goal.returns-in-72
unfolding ins_of body_of bodies codes
returns-in-72 c = at_row _ _ _ _ _ (c.requires.2 ∙ c.in-72.is) refl refl c.calls.ensures

pub returns-in-80 : goal.returns-in-80
unfolding ins_of shape_of basic_effect maker_pops body_of bodies codes
returns-in-80 c = at_row _ _ _ _ _ (c.requires.2 ∙ c.in-80.is) refl refl c.step-in-80.ensures

pub returns-in-81 : goal.returns-in-81
unfolding ins_of shape_of basic_effect maker_pops body_of bodies codes
returns-in-81 c = at_row _ _ _ _ _ (c.requires.2 ∙ c.in-81.is) refl refl c.step-in-81.ensures

pub returns-in-82 : goal.returns-in-82
unfolding ins_of shape_of basic_effect body_of bodies codes
returns-in-82 c = at_row _ _ _ _ _ (c.requires.2 ∙ c.in-82.is) refl refl c.step-in-82.ensures

pub returns-in-83 : goal.returns-in-83
unfolding ins_of shape_of basic_effect body_of bodies codes
returns-in-83 c = at_row _ _ _ _ _ (c.requires.2 ∙ c.in-83.is) refl refl c.step-in-83.ensures

pub returns-in-84 : goal.returns-in-84
unfolding ins_of shape_of basic_effect body_of bodies codes
returns-in-84 c = at_row _ _ _ _ _ (c.requires.2 ∙ c.in-84.is) refl refl c.step-in-84.ensures

pub returns-in-85 : goal.returns-in-85
unfolding ins_of shape_of basic_effect body_of bodies codes
returns-in-85 c = at_row _ _ _ _ _ (c.requires.2 ∙ c.in-85.is) refl refl c.step-in-85.ensures

pub returns-in-131 : goal.returns-in-131
unfolding ins_of shape_of basic_effect body_of bodies codes
returns-in-131 c = at_row _ _ _ _ _ (c.requires.2 ∙ c.in-131.is) refl refl c.step-in-131.ensures

pub returns-in-144 : goal.returns-in-144
unfolding ins_of shape_of basic_effect body_of bodies codes
returns-in-144 c =
    at_rows _ _ _ _ _ 1 (row_shape Next (row 1 0 1 0 0 0)) (144 ∷ 146 ∷ [])
    ((refl, refl), ((refl, refl), tt))
    c.requires.2 c.in-144.is c.step-in-144.ensures

pub returns-in-130 : goal.returns-in-130
unfolding ins_of shape_of basic_effect body_of bodies codes
returns-in-130 c =
    at_rows _ _ _ _ _ 1 (row_shape Next (row 2 0 1 0 0 0)) (130 ∷ 140 ∷ 142 ∷ 145 ∷ 195 ∷ 198 ∷ 201 ∷ 204 ∷ [])
    ((refl, refl), ((refl, refl), ((refl, refl), ((refl, refl), ((refl, refl), ((refl, refl), ((refl, refl), ((refl, refl), tt))))))))
    c.requires.2 c.in-130.is c.step-in-130.ensures

pub returns-in-141 : goal.returns-in-141
unfolding ins_of shape_of basic_effect body_of bodies codes
returns-in-141 c =
    at_rows _ _ _ _ _ 1 (row_shape Next (row 2 0 1 0 0 0)) (141 ∷ 143 ∷ [])
    ((refl, refl), ((refl, refl), tt))
    c.requires.2 c.in-141.is c.step-in-141.ensures

pub returns-in-53 : goal.returns-in-53
unfolding ins_of shape_of basic_effect body_of bodies codes
returns-in-53 c = at_row _ _ _ _ _ (c.requires.2 ∙ c.in-53.is) refl refl c.step-in-53.ensures

pub returns-in-162 : goal.returns-in-162
unfolding ins_of shape_of basic_effect body_of bodies codes
returns-in-162 c = at_row _ _ _ _ _ (c.requires.2 ∙ c.in-162.is) refl refl c.raises.ensures

pub returns-in-20-to-23 : goal.returns-in-20-to-23
returns-in-20-to-23 c =
    at_row _ _ _ _ _ c.requires.2 (ap suc (body-locals _ (omega arith) (omega arith))) refl c.locals.ensures

pub returns-in_default : goal.returns-in_default
returns-in_default c = at_row _ _ _ _ _ c.requires.2 refl refl (c.reals.ensures _)
