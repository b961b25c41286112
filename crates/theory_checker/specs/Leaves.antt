-- A run leaves the state after as many steps as it answers: `run_on` and `after_steps` take the same steps, by induction over the
-- budget. That k steps were done before is only counted.
use Prim.Native.Nat.{ℕ, zero, suc, ◌-◌}
use Rattle.std.specs.Prelude.{Bool, List, ◌≡◌}
use Rattle.std.proofs.Math.Bool.{true, false}
use Rattle.std.proofs.Math.Path.{refl}
use native.Mathlib.Omega.{arith}
use Rattle.std.proofs.Math.Dec.{eqb}
use borrow.Author.Tests.{eqb-true, eqb-false}
use Rattle.model.specs.Choice.{when◌then◌else◌}
use Rattle.model.specs.File.{after, ins_at}
use Rattle.model.specs.Control.{Machine, handler_of}
use Rattle.model.specs.Instructions.{Result, done, throws, rule}
use Rattle.model.specs.Step.{Stepped, next, uncaught, caught, raised, outcome, instruct, step, ran, and_run, run_on}
use Rattle.model.specs.Claim.{after_steps, Stopped, Leaves, RunLeaves}
use Rattle.model.specs.declared.Answer.{Answer}
use Rattle.model.specs.declared.Answer.TheVariants.{Passed, Ready, Finished, Spent, Uncaught, Refused}

module _ (f : List ℕ) where
  -- what stays is the state before the instruction
  pub uncaught-stays : (m x : Machine) (c : ℕ) → step f m ≡ uncaught c x → x ≡ m
  unfolding step instruct raised
  uncaught-stays m x c e = go (rule f m (after f m.regs.place) (ins_at f m.regs.place)) e
    where
      raise : (t : Bool) (code : ℕ) (y : Machine) → (when t then uncaught code m else next y) ≡ uncaught c x → x ≡ m
      raise true code y e = cc
      raise false code y e = cc

      go : (r : Result) → outcome f m r ≡ uncaught c x → x ≡ m
      go (done y) e = cc
      go (throws code) e =
          raise (eqb m.regs.handler 0) code (caught f m (m.regs.handler - 1) (handler_of m.ctl m.regs.handler) code) e

  -- it stops before its first step
  stops : (n k : ℕ) (m : Machine) (a : Answer) → Stopped f n k 0 m a → Leaves f n k m (ran a m)
  unfolding after_steps
  stops n k m a s = record { steps = 0; within = omega arith; state_is = refl; stopped = s }

  -- one step more
  on : (n k j : ℕ) (m : Machine) (a : Answer) → Stopped f n (suc k) j m a → Stopped f (suc n) k (suc j) m a
  on n k j m Passed s = s
  on n k j m Ready s = s
  on n k j m (Finished i) s = (omega (arith, s.0), s.1)
  on n k j m (Spent i) s = (omega (arith, s.0), omega (arith, s.1), s.2)
  on n k j m (Uncaught code p i) s = (omega (arith, s.0), omega (arith, s.1), s.2, s.3, s.4)
  on n k j m (Refused i p) s = s

  went : (n k : ℕ) (m : Machine) → Leaves f n k m (run_on f n k m)
  unfolding run_on
  went zero k m = go (eqb m.regs.state 1) refl
    where
      go : (t : Bool) → eqb m.regs.state 1 ≡ t → Leaves f zero k m (when t then ran (Finished k) m else ran (Spent k) m)
      go true u = stops zero k m (Finished k) (omega arith, eqb-true m.regs.state 1 u)
      go false u = stops zero k m (Spent k) (omega arith, refl, eqb-false m.regs.state 1 u)
  went (suc n) k m = go (eqb m.regs.state 1) refl (step f m) refl (went n (suc k))
    where
      go : (t : Bool) → eqb m.regs.state 1 ≡ t → (o : Stepped) → step f m ≡ o →
          ((x : Machine) → Leaves f n (suc k) x (run_on f n (suc k) x)) →
          Leaves f (suc n) k m (when t then ran (Finished k) m else and_run (run_on f n (suc k)) k o)
      go true u o d r = stops (suc n) k m (Finished k) (omega arith, eqb-true m.regs.state 1 u)
      go false u (next x) d r =
          let W = r x in
          let a = W.within in
          record {
            steps = suc W.steps;
            within = omega arith;
            state_is = unfold after_steps in rw (u, d) W.state_is;
            stopped = on n k W.steps (run_on f n (suc k) x).state (run_on f n (suc k) x).answer W.stopped;
          }
      go false u (uncaught c x) d r =
          let e = uncaught-stays m x c d in
          let w : step f m ≡ uncaught c m = rw e at d in
          rw e
          (stops (suc n) k m (Uncaught c m.regs.place k)
          (omega arith, omega arith, eqb-false m.regs.state 1 u, w, refl))

-- a run leaves the state after as many steps as it answers
pub run-leaves : RunLeaves
run-leaves f n k m = went f n k m
