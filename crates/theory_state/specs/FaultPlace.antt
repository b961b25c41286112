-- The place of refusal 11: start and run answer 11 at q exactly where tests 1 to 9, 13 and 10 find nothing and q is the heap's first fault
-- (`refused-eleven`), so that two calls with one heap name one word (`one-dump`). The tests are met in their order; no other answers 11.
use Rattle.std.specs.Prelude.{ℕ, List, ◌≡◌, refl}
use Rattle.std.proofs.Common.{arith}
use Rattle.model.specs.Choice.{Test, All, true-all}
use Rattle.model.specs.Faults.{FirstFault}
use Rattle.model.specs.Calls.{Verdict, pass, refuse, verdict_of, answered, check_of, Lent, with_map, length_tests, register_tests, belong_tests}
use Rattle.model.specs.Calls.{After, after_check, tested, start_of, run_of}
use Rattle.model.specs.Claim.{Call, check, start, run, call_of, HeapFault, RefusedEleven, OneDump}
use Rattle.model.specs.declared.Answer.TheVariants.{Passed, Refused}
use Rattle.theory_checker.specs.Numbers.{verdict-number}
use Rattle.audit_heap.specs.Audited.{fault-exact}
use Rattle.audit_heap.specs.Faults.{one-fault}
use Rattle.theory_state.specs.Testing.{test-cases, start-asks, asks-start, run-asks, asks-run, refused-number, refused-place, Never, ready-never}
use Rattle.theory_state.specs.Testing.{run-never, start_rest, run_rest}

-- ts are the tests for 13, which say what it asks
module _ {Registers : Type 0} (ts : List Test) (says : All ts → Registers) (said : Registers → All ts) (l : Lent) (q : ℕ) (rest : Lent → After) where
  tested-eleven : Never 11 rest → (tested ts l rest).answer ≡ Refused 11 q → HeapFault Registers l q
  unfolding check_of length_tests
  tested-eleven B =
      test-cases {P = λ a. a.answer ≡ Refused 11 q → HeapFault Registers l q} {ts = ts} {l = l} {rest = rest}
      (record {
        by_check = λ n p map v e. absurd (omega (arith, verdict-number l.file l.map map n p v, refused-number n 11 p q e));
        by_registers = λ map v n e. absurd (omega (arith, refused-number 13 11 0 q e));
        by_lengths = λ map v T e. absurd (omega (arith, refused-number 10 11 0 q e));
        by-heap = λ map p v T L h e.
            let g = refused-place 11 11 p q e in
            record { passes = rw v; registers = says T; lengths = L; first = (fault-exact l.heap q).0 (rw g at h) };
        by-none = λ map os v T L h e. absurd (B (with_map map l) q e);
      })

  eleven-tested : HeapFault Registers l q → (tested ts l rest).answer ≡ Refused 11 q
  unfolding check_of length_tests
  eleven-tested F = go (verdict_of l.file l.map) F.passes
    where
      go : (v : Verdict) → (answered v).answer ≡ Passed → (after_check ts l rest v).answer ≡ Refused 11 q
      go (pass m) e = rw (true-all ts (said F.registers), true-all (length_tests l) F.lengths, (fault-exact l.heap q).1 F.first)
      go (refuse n p m) e = cc

pub refused-eleven : RefusedEleven
unfolding start_of run_of
refused-eleven l q =
    let S = register_tests l in
    let R = belong_tests l in (
      (tested-eleven S (asks-start l) (start-asks l) l q start_rest (ready-never 11), eleven-tested S (asks-start l) (start-asks l) l q start_rest),
      λ n. (tested-eleven R (asks-run l) (run-asks l) l q (run_rest n) (run-never 11 n (λ e. omega arith)), eleven-tested R (asks-run l) (run-asks l) l q (run_rest n)),
    )

-- check does not answer 11
check-not-eleven : (l : Lent) (q : ℕ) → (check_of l.file l.map).answer ≡ Refused 11 q → ⊥
unfolding check_of
check-not-eleven l q e = go (verdict_of l.file l.map) refl e
  where
    go : (v : Verdict) → verdict_of l.file l.map ≡ v → (answered v).answer ≡ Refused 11 q → ⊥
    go (pass m) f e = let z : ◌≡◌ {A = ℕ} 0 1 = cc in omega arith
    go (refuse n p m) f e = omega (arith, verdict-number l.file l.map m n p f, refused-number n 11 p q e)

call-eleven : (c : Call) (l : Lent) (q : ℕ) → (call_of c l).answer ≡ Refused 11 q → FirstFault l.heap q
unfolding call_of
call-eleven check l q e = absurd (check-not-eleven l q e)
call-eleven start l q e = ((refused-eleven l q).0.0 e).first
call-eleven (run n) l q e = (((refused-eleven l q).1 n).0 e).first

pub one-dump : OneDump
one-dump c d l k p q h e f = one-fault k.heap p q (rw h at (call-eleven c l p e)) (call-eleven d k q f)
