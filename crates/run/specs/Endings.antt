-- What a run comes to, told by the steps that are left of its budget: finished, spent or uncaught, with the steps done.
use Prim.Native.Nat.{ℕ, zero, suc, ◌+◌, ◌-◌, ◌<◌, ◌≤◌}
use Rattle.std.specs.Prelude.{true, false, List, ◌≡◌}
use Rattle.std.proofs.Math.Path.{ap, sym}
use Rattle.std.proofs.Common.{◌∙◌}
use native.Mathlib.Omega.{arith}
use borrow.Author.Tests.{eq-eqb, ne_eqb}
use Rattle.model.specs.Control.{Machine}
use Rattle.model.specs.Step.{Stepped, step, ran, run_on}
use Rattle.plan_meaning.specs.Settled.{settle}
use Rattle.apply.specs.Ended.{ended_of, went_on, went-off}
use Rattle.apply.specs.declared.Outcome.{Outcome}
use Rattle.theory_step.specs.Settling.{alive-plan}
use Rattle.run_steps.specs.Going.{SameLengths, Going, Paused, going_step}
use Rattle.run.specs.declared.Ended.{Ended}
use Rattle.model.specs.declared.Regs.{Regs}
use Rattle.plan_meaning.specs.declared.Plan.{Plan}
use Rattle.model.specs.declared.Answer.{Answer}
use Rattle.model.specs.declared.Answer.TheVariants.{Finished, Spent, Uncaught}

abbrev pub ended_with : Answer → Regs → Ended
ended_with a r = record { answer = a; regs = r }

pub run-finished : (f : List ℕ) (n : ℕ) {k : ℕ} {m : Machine} → m.regs.state ≡ 1 → run_on f n k m ≡ ran (Finished k) m
unfolding run_on
run-finished f zero {m = m} e = rw (eq-eqb m.regs.state 1 e)
run-finished f (suc n) {m = m} e = rw (eq-eqb m.regs.state 1 e)

-- from the start of a run: what it comes to at m, with n steps of the budget left
module _ {f table : List ℕ} {budget n : ℕ} {m₀ m : Machine} where
  done : Going f table budget m₀ n m → run_on f budget 0 m₀ ≡ run_on f n (budget - n) m
  done G = let e : 0 + (budget - n) ≡ budget - n = omega arith in G.same 0 ∙ ap (λ (i : ℕ). run_on f n i m) e

  pub going-finished : Going f table budget m₀ n m → m.regs.state ≡ 1 → ran (Finished (budget - n)) m ≡ run_on f budget 0 m₀
  going-finished G e = sym (done G ∙ run-finished f n e)

  module _ {plan : Plan} (P : Paused f table budget m₀ n m plan) where
    pub paused-spent : n ≤ 0 → ran (Spent budget) m ≡ run_on f budget 0 m₀
    unfolding run_on
    paused-spent l =
        let z : n ≡ 0 = omega arith in
        let b : budget - 0 ≡ budget = omega arith in
        sym (done P.going ∙ rw (z, b, ne_eqb m.regs.state 1 P.on?))

    -- one step further, by the plan that is settled apart; m' is the state then
    module _ (some : 0 < n) (o : Outcome) {m' : Machine} (e : record { on = o.on; code = o.code; state = m' } ≡ ended_of (settle f m plan)) where
      step_is : (s : Stepped) → settle f m plan ≡ s → step f m ≡ s
      step_is s w = sym (alive-plan P.going.runs.alive P.on?) ∙ rw (← (P.stopped some).is) w

      pub paused-uncaught : o.on ≡ false → ran (Uncaught o.code m'.regs.place (budget - n)) m' ≡ run_on f budget 0 m₀
      unfolding run_on
      paused-uncaught t =
          let w = step_is _ (went-off o m' (settle f m plan) e t) in
          let left : n ≡ suc (n - 1) = omega arith in
          sym (done P.going ∙ ap (λ (i : ℕ). run_on f i (budget - n) m) left ∙ rw (ne_eqb m.regs.state 1 P.on?, w))

      pub paused-on : o.on ≡ true → SameLengths m' m → Going f table budget m₀ (n - 1) m'
      paused-on t a = going_step P.going some P.on? (step_is _ (went_on o m' (settle f m plan) e t)) a
