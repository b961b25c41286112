-- `check_rows::Instruction::reals`: at each code the definition computes; the last arm's are 150 to 153, being none of the others.
use Prim.Native.Nat.{suc, ◌+◌}
use mathlib.Core.List.{[], ◌∷◌}
use mathlib.Core.Path.{◌≡◌, refl}
use Rattle.model.specs.Checker.{basic_effect}
use Rattle.model.specs.File.{codes, bodies, body_of, ins_of}
use Rattle.laws_file.specs.Kinds.{NoneOf, at_each}
use Rattle.check_rows.specs.Kinds.{pops_reals}
use Rattle.check_rows.specs.Shape.{shape_of}
use Rattle.check_rows.specs.Tests.{as_state}
use Rattle.check_rows.specs.Rows.{plainly}
use Rattle.check_rows.proofs.Instruction.reals.Goals as goal

pub returns-in-155 : goal.returns-in-155
unfolding shape_of ins_of basic_effect body_of bodies codes
returns-in-155 c f = rw (c.step.ensures, c.in-155.is)

pub returns-in-156 : goal.returns-in-156
unfolding shape_of ins_of basic_effect body_of bodies codes
returns-in-156 c f = rw (c.step-in-156.ensures, c.in-156.is)

pub returns-in_default : goal.returns-in_default
unfolding shape_of ins_of basic_effect body_of bodies codes
returns-in_default c f =
    let a = c.args in
    let is = c.step-in_default.ensures in
    at_each
    (λ k. NoneOf ((156 ∷ []) ∷ (155 ∷ []) ∷ []) k →
    c.step-in_default.result ≡ plainly (as_state a.self.state) (as_state a.self.outer) a.self.procedure (a.self.place + suc (body_of k)) (shape_of f a.self.place (ins_of f a.self.place k)))
    pops_reals _
    (λ u. is, (λ u. is, (λ u. is, (λ u. is, (λ u. absurd (u.0.1 refl), (λ u. absurd (u.1 refl), tt))))))
    c.requires c.in_default.in_default-own.rest
