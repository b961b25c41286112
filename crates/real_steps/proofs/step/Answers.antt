-- `real_steps::step`: each code by its function; what that asks follows from what is asked here.
use Rattle.model.specs.File.{ins_of, ins_at}
use native.Mathlib.Omega.{arith}
use mathlib.Core.List.{[]}
use mathlib.Core.Logic.{inl, inr}
use mathlib.Core.Path.{refl}
use Rattle.real_steps.specs.Does.{real-place, literal-ready, operation-four, operation-code, four-ready, ten-ready, operation-ready, after-literal, after-code}
use Rattle.real_steps.proofs.step.Goals as goal

pub bounds-file-place : goal.bounds-file-place
bounds-file-place c = real-place c.requires.0

pub overflow_add-body : goal.overflow_add-body
overflow_add-body c = omega (arith, c.requires.1, (literal-ready c.requires.0 c.in-53.is).0)

pub literal-requires : goal.literal-requires
literal-requires c = literal-ready c.requires.0 c.in-53.is

pub less-requires : goal.less-requires
less-requires c =
    let R = c.requires.0 in
    (R.topped, four-ready R _ (inr (inr (inr (inr refl)))) c.in-155.is)

pub hoop-requires : goal.hoop-requires
hoop-requires c =
    let R = c.requires.0 in
    (R.topped, ten-ready R c.in-156.is, R.few)

pub operation-requires : goal.operation-requires
operation-requires c =
    let R = c.requires.0 in
    let n = c.in_default.in_default-own.rest in
    let o = operation-ready R _ refl n.0.0.1 n.0.1 n.1 in
    (R.topped, four-ready R _ (operation-four R o) refl, o)

pub returns-in-53-clause-does : goal.returns-in-53-clause-does
unfolding ins_at
returns-in-53-clause-does c =
    let e = c.in-53.is in
    rw (← after-literal _ _ _ e c.requires.1, e) c.literal.ensures.does

pub returns-in-155-clause-does : goal.returns-in-155-clause-does
unfolding ins_at ins_of
returns-in-155-clause-does c =
    let e = c.in-155.is in
    rw (← after-code _ _ _ _ (inr (inr (inr (inr (inl refl))))) e c.requires.1, e) c.less.ensures.does

pub returns-in-156-clause-does : goal.returns-in-156-clause-does
unfolding ins_at ins_of
returns-in-156-clause-does c =
    let e = c.in-156.is in
    rw (← after-code _ _ _ _ (inr (inr (inr (inr (inr refl))))) e c.requires.1, e) c.hoop.ensures.does

pub returns-in_default-clause-does : goal.returns-in_default-clause-does
unfolding ins_at
returns-in_default-clause-does c =
    let n = c.in_default.in_default-own.rest in
    let o = operation-ready c.requires.0 _ refl n.0.0.1 n.0.1 n.1 in
    rw (← after-code _ _ _ _ (operation-code c.requires.0 o) refl c.requires.1) (c.operation.ensures _ _).does

pub returns-in_default-clause-kept : goal.returns-in_default-clause-kept
returns-in_default-clause-kept c = (c.operation.ensures [] 0).kept

pub returns-in_default-clause-running : goal.returns-in_default-clause-running
returns-in_default-clause-running c = (c.operation.ensures [] 0).running
