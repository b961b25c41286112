-- `run_reals::reckon` meets its contract: each turn is one step of the model, in a run of every state that has these registers and this main stack.
use Rattle.run_reals.specs.Reckoning.{with, AtReal, Reckons, real-ready, reckons-step, reals-on, reals-raise}
use native.Mathlib.Omega.{arith}
use mathlib.Core.Bool.{true≢false}
use mathlib.Core.Path.{◌≡◌, refl, sym, ◌∙◌}
use Prim.Native.Nat.{◌-◌, ◌≤◌}
use Rattle.model.specs.File.{ins_at}
use Rattle.plan.specs.Arms.{place_in, place-small}
use Rattle.theory_step.specs.Planning.{alive-ready}
use Rattle.run_steps.specs.Going.{Runs}
use Rattle.run_reals.proofs.reckon.Goals as goal
use Rattle.run_reals.proofs.reckon.Goals.{In-Some, At-loop-left}

-- behind the step of a turn, where its result is finite
module _ (c : In-Some) where
  abbrev now-at : let L = c.loop-left in AtReal c.args.file.now L.main L.r L.at
  now-at = c.loop-left.invariant.0

  further-on : let S = c.args in Reckons S.file.now S.main.now S.regs S.budget c.step.new.main c.in-Some.next (c.loop-left.left - 1)
  further-on =
      let E = c.in-Some.ensures in
      reckons-step now-at _ _ E.does c.loop-left.invariant.1 c.loop-left-test.true E.running c.step.auto.main

  still-on : c.in-Some.next.state ≡ 1 → ⊥
  still-on u = now-at.on? (sym c.in-Some.ensures.running ∙ u)

  still-runs : Runs c.args.file.now now-at.rest.table (with now-at.rest c.in-Some.next c.step.new.main)
  still-runs = let E = c.in-Some.ensures in reals-on now-at _ _ E.does E.running c.step.auto.main

-- no more is left than at first
left-most : (c : At-loop-left) → c.loop-left.left ≤ c.args.budget
left-most c = let A = c.requires.0 in (c.loop-left.invariant.1.going A.rest A.runs).less

pub step-requires : goal.step-requires
step-requires c = real-ready c.loop-left.invariant.0

pub returns-in_default : goal.returns-in_default
returns-in_default c =
    let I = c.loop-left.invariant in
    let E = c.in_default.ensures in
    rw E.kept
    (record {
      reckons = I.1;
      further = λ e. absurd (true≢false (sym e));
      real = λ e. I.0.real;
      raises = λ e. reals-raise I.0 c.step.new.main E.does;
    })

pub bounds-file-place : goal.bounds-file-place
bounds-file-place c =
    let S = (goal.at.bounds-file-place c).In-Some in
    place_in (alive-ready (still-runs S).alive (still-on S))

pub returns-then-not-is_real : goal.returns-then-not-is_real
returns-then-not-is_real c =
    let some = c.loop-left-test.true in
    record {
      reckons = further-on (goal.at.returns-then-not-is_real c).In-Some;
      further = λ e. omega (arith, some, left-most (goal.at.returns-then-not-is_real c).At-loop-left);
      real = λ e. absurd (true≢false e);
      raises = λ e. absurd (true≢false e);
    }

pub overflow_add-at : goal.overflow_add-at
overflow_add-at c =
    let S = (goal.at.overflow_add-at c).In-Some in
    omega (arith, place-small (alive-ready (still-runs S).alive (still-on S)))

pub loop-left-preserved : goal.loop-left-preserved
unfolding ins_at
loop-left-preserved c =
    let S = (goal.at.loop-left-preserved c).In-Some in (
      record {
        rest = (now-at S).rest;
        runs = still-runs S;
        on? = still-on S;
        real = sym (c.is_real.ensures _ _) ∙ c.if-not-is_real.false;
        body = refl;
      },
      further-on S,
    )
