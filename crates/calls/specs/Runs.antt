-- Run: what its tests let through is a sound state, and the answer and every list are the model's.
use Rattle.std.specs.Prelude.{ℕ, List, ◌≡◌, Result, Ok, Err}
use Rattle.std.proofs.Common.{sym, ◌∙◌}
use Rattle.model.specs.Heap.{objects_of}
use Rattle.model.specs.Control.{Machine, set_regs, sums_from, reg_bytes}
use Rattle.model.specs.Step.{ran, run_on}
use Rattle.model.specs.Claim.{Bytes}
use Rattle.model.specs.Calls.{Lent, with_map, leaving, answers, machine_of, ran_from, run_of}
use Rattle.theory_step.specs.Alive.{alive-run}
use Rattle.run_steps.specs.Going.{Runs}
use Rattle.call_tests.specs.Tested.{Through, TestedAs, for-run-refused, for-run-on}
use Rattle.call_tests.specs.declared.Sound.{Sound}
use Rattle.model.specs.Refusals.{refused_as}
use Rattle.model.specs.declared.RefusedAt.{RefusedAt}
use Rattle.model.specs.declared.Answer.{Answer}

module _ (l : Lent) (map table : List ℕ) (t : Result Sound RefusedAt) (T : TestedAs l map table t) (budget : ℕ) where
  pub run-refused : (r : RefusedAt) → t ≡ Err r → answers (refused_as r) (with_map map l) ≡ run_of budget l
  unfolding run_of
  run-refused r e = for-run-refused l map table t T (ran_from budget) r e

  module _ (s : Sound) (e : t ≡ Ok s) where
    S : Through l map table s.procedures s.regs
    S = T.through s e

    pub run-runs : Bytes l.file → Runs l.file table (set_regs s.regs (machine_of l))
    run-runs B =
        let W = S.shown in
        record {
          map = map;
          alive =
              alive-run (with_map map l) l.map table (objects_of l.heap) s.regs B W.passes (rw W.placed.count at W.placed) W.lengths
              W.heap_clean
              (rw S.regs_are S.sound);
        }

    -- m is the state that the run leaves
    pub run_ran : (answer : Answer) (m : Machine) (bytes : List ℕ) → ran answer m ≡ run_on l.file budget 0 (set_regs s.regs (machine_of l)) →
        bytes ≡ reg_bytes (sums_from l.bytes) m.regs →
        answers answer
        (record { file = l.file; map = map; main = m.main; ptr = m.ptr; ctl = m.ctl; heap = m.heap; bytes = bytes }) ≡ run_of budget l
    unfolding run_of
    run_ran answer m bytes g eb =
        let g' : run_on l.file budget 0 (machine_of (with_map map l)) ≡ ran answer m = rw (← S.regs_are) (sym g) in
        rw eb (at g' ∙ for-run-on l map table t T (ran_from budget) s e)
      where
        at : run_on l.file budget 0 (machine_of (with_map map l)) ≡ ran answer m →
            answers answer (leaving (sums_from l.bytes) (with_map map l) m) ≡ ran_from budget (with_map map l)
        at q = rw q
