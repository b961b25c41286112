-- What the tests of start and run come to, in their order: one of four refusals, or what follows them, with all that was found. What
-- follows them refuses with 12 at most.
use Rattle.std.specs.Prelude.{ℕ, Bool, true, false, List, ◌≡◌, refl}
use Rattle.std.proofs.Common.{true≢false, ap, sym, ◌∙◌, subst, arith}
use Rattle.model.specs.Choice.{when◌then◌else◌, Test, all, All, all_true, true-all}
use Rattle.model.specs.Heap.{Audit, fault, clean, heap_of}
use Rattle.model.specs.Sums.{sums_of}
use Rattle.model.specs.Step.{run_on}
use Rattle.model.specs.Calls.{Verdict, pass, refuse, verdict_of, Lent, machine_of, with_map, length_tests, register_tests, belong_tests, sound_tests}
use Rattle.model.specs.Calls.{After, answers, demand, audited, after_check, tested, leaving, started, ran_from}
use Rattle.model.specs.Claim.{Stopped, StartRegisters, RunRegisters}
use Rattle.model.specs.declared.Sums.{Sums}
use Rattle.model.specs.declared.Answer.TheVariants.{Ready, Refused}
use Rattle.theory_checker.specs.Leaves.{run-leaves}

-- ts being the tests for 13, which start and run have each their own
pub record TestCases (P : After → Type 0) (ts : List Test) (l : Lent) (rest : Lent → After) : Type 0 where
  pub by_check : (n p : ℕ) (map : List ℕ) → verdict_of l.file l.map ≡ refuse n p map → P (answers (Refused n p) (with_map map l))
  pub by_registers : (map : List ℕ) → verdict_of l.file l.map ≡ pass map → (All ts → ⊥) → P (answers (Refused 13 0) (with_map map l))
  pub by_lengths : (map : List ℕ) → verdict_of l.file l.map ≡ pass map → All ts → P (answers (Refused 10 0) (with_map map l))
  pub by-heap :
      (map : List ℕ) (q : ℕ) → verdict_of l.file l.map ≡ pass map → All ts → All (length_tests (with_map map l)) → heap_of l.heap ≡ fault q →
      P (answers (Refused 11 q) (with_map map l))
  pub by-none :
      (map os : List ℕ) → verdict_of l.file l.map ≡ pass map → All ts → All (length_tests (with_map map l)) → heap_of l.heap ≡ clean os →
      P (rest (with_map map l))

-- a list of tests does not hold
failed : (ts : List Test) → all ts ≡ false → All ts → ⊥
failed ts e T = true≢false (sym (true-all ts T) ∙ e)

module _ {P : After → Type 0} {ts : List Test} {l : Lent} {rest : Lent → After} (C : TestCases P ts l rest) where
  module _ (map : List ℕ) (v : verdict_of l.file l.map ≡ pass map) where
    abbrev now : Lent
    now = with_map map l

    heap : All ts → All (length_tests now) → (a : Audit) → heap_of l.heap ≡ a → P (audited a now (rest now))
    heap T L (fault q) e = C.by-heap map q v T L e
    heap T L (clean os) e = C.by-none map os v T L e

    lengths : All ts → (t : Bool) → all (length_tests now) ≡ t →
        P (when t then audited (heap_of l.heap) now (rest now) else answers (Refused 10 0) now)
    lengths T true e = heap T (all_true (length_tests now) e) (heap_of l.heap) refl
    lengths T false e = C.by_lengths map v T

    registers : (t : Bool) → all ts ≡ t →
        P (when t then demand (length_tests now) 10 now (audited (heap_of l.heap) now (rest now)) else answers (Refused 13 0) now)
    registers true e = lengths (all_true ts e) (all (length_tests now)) refl
    registers false e = C.by_registers map v (failed ts e)

  pub test-cases : P (tested ts l rest)
  test-cases = go (verdict_of l.file l.map) refl
    where
      go : (v : Verdict) → verdict_of l.file l.map ≡ v → P (after_check ts l rest v)
      go (pass map) e = registers map e (all ts) refl
      go (refuse n p map) e = C.by_check n p map e

-- what follows the tests, in start and in run
abbrev pub start_rest : Lent → After
start_rest l = answers Ready (leaving (sums_of l.file) l (started l))

abbrev pub run_rest : ℕ → Lent → After
run_rest n l = demand (sound_tests l) 12 l (ran_from n l)

-- what 13 asks, as its tests and as statements
pub start-asks : (l : Lent) → StartRegisters l → All (register_tests l)
start-asks l I = (I, tt)

pub asks-start : (l : Lent) → All (register_tests l) → StartRegisters l
asks-start l T = T.0

pub run-asks : (l : Lent) → RunRegisters l → All (belong_tests l)
run-asks l I = (I.0, (ap (λ (s : Sums). s.first) I.1, (ap (λ (s : Sums). s.second) I.1, tt)))

pub asks-run : (l : Lent) → All (belong_tests l) → RunRegisters l
asks-run l T = let e = T.1.0 in let g = T.1.1.0 in (T.0, λ i. record { first = e i; second = g i })

-- equal refusals have equal numbers and places
pub refused-number : (n m p q : ℕ) → Refused n p ≡ Refused m q → n ≡ m
refused-number n m p q e = cc

pub refused-place : (n m p q : ℕ) → Refused n p ≡ Refused m q → p ≡ q
refused-place n m p q e = cc

-- what comes behind the tests does not refuse with this number
abbrev pub Never : ℕ → (Lent → After) → Type 0
Never k rest = (l : Lent) (p : ℕ) → (rest l).answer ≡ Refused k p → ⊥

-- what follows a start's tests
abbrev pub readied : Lent → After
readied l = answers Ready (leaving (sums_of l.file) l (started l))

pub ready-never : (k : ℕ) → Never k readied
ready-never k l p e = let z : ◌≡◌ {A = ℕ} 0 1 = cc in omega arith

-- a run never refuses
ran-never : (k n : ℕ) → Never k (ran_from n)
ran-never k n l p e =
    let r = run_on l.file n 0 (machine_of l) in
    let L = run-leaves l.file n 0 (machine_of l) in
    subst (Stopped l.file n 0 L.steps r.state) e L.stopped

pub run-never : (k n : ℕ) → (k ≡ 12 → ⊥) → Never k (λ l. demand (sound_tests l) 12 l (ran_from n l))
run-never k n h l p e = go (all (sound_tests l)) e
  where
    go : (t : Bool) → (when t then ran_from n l else answers (Refused 12 0) l).answer ≡ Refused k p → ⊥
    go true e = ran-never k n l p e
    go false e = h (sym (refused-number 12 k 0 p e))
