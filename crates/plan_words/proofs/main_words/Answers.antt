-- `plan_words::main_words`: at each of the four codes by what the function called ensures.
use mathlib.Core.Logic.{inl, inr}
use mathlib.Core.Path.{◌≡◌, refl}
use native.Mathlib.Omega.{arith}
use Rattle.model.specs.File.{codes, bodies, body_of}
use Rattle.model.specs.Control.{set_main, set_ctl}
use Rattle.plan_words.proofs.main_words.Goals as goal

pub main_locals-requires : goal.main_locals-requires
unfolding body_of bodies codes
main_locals-requires c =
    let a = c.requires in
    (rw c.in-20.is at a.0, a.1, a.2, a.3 (inl c.in-20.is), inl refl)

pub main_locals-requires-in-22 : goal.main_locals-requires-in-22
unfolding body_of bodies codes
main_locals-requires-in-22 c =
    let a = c.requires in
    (rw c.in-22.is at a.0, a.1, a.2, a.3 (inr c.in-22.is), inr refl)

pub returns-in-20 : goal.returns-in-20
unfolding body_of bodies codes
returns-in-20 c = λ m. rw c.in-20.is (c.main_locals.ensures m)

pub returns-in-22 : goal.returns-in-22
unfolding body_of bodies codes
returns-in-22 c = λ m. rw c.in-22.is (c.main_locals-in-22.ensures m)

pub returns-in-54 : goal.returns-in-54
returns-in-54 c = λ m. rw c.in-54.is (c.literals.ensures (set_main _ (set_ctl _ m)))

pub returns-in_default : goal.returns-in_default
returns-in_default c =
    λ m.
    let e : c.args.kind ≡ 56 = omega arith in
    rw e (c.literals-in_default.ensures (set_main _ (set_ctl _ m)))
