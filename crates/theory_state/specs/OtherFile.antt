-- Refusal 13: start and run answer it exactly where the check passes and the registers are not what it asks for (`refused-thirteen`). The
-- registers of a start have its file's sums, and no run changes a sum, so that a state is refused by every file with other sums
-- (`other-file`). The tests are met in their order; no other answers 13.
use Rattle.std.specs.Prelude.{ℕ, Bool, List, [], ◌∷◌, ◌≡◌, length}
use Rattle.std.proofs.Math.Bool.{true, false}
use Rattle.std.proofs.Common.{true≢false, ap, ◌∙◌, arith}
use Rattle.std.proofs.Math.Path.{refl, sym}
use Rattle.model.specs.Choice.{when◌then◌else◌, Test, all, All, all_true}
use Rattle.model.specs.Sums.{sums_of}
use Rattle.model.specs.Control.{sums_from, reg_bytes}
use Rattle.model.specs.Calls.{Verdict, pass, refuse, verdict_of, answered, check_of, Lent, with_map, register_tests, belong_tests, sound_tests}
use Rattle.model.specs.Calls.{After, answers, after_check, tested, start_of, ran_from, run_of}
use Rattle.model.specs.Claim.{Bytes, RunRegisters, WrongRegisters, turned_away, RefusedThirteen, StartSums, RunSums, HandedOn, OtherFile}
use Rattle.model.specs.declared.Regs.{Regs}
use Rattle.model.specs.declared.Sums.{Sums}
use Rattle.model.specs.declared.Answer.TheVariants.{Passed, Ready, Refused}
use Rattle.file_sums.proofs.Fitting.{sums-fit}
use Rattle.theory_checker.proofs.Exact.{passed-as}
use Rattle.theory_checker.specs.Numbers.{verdict-number}
use Rattle.registers.specs.Registers.{registers-length}
use Rattle.theory_state.specs.Registers.{sums-back}
use Rattle.theory_state.specs.Testing.{test-cases, start-asks, asks-start, run-asks, asks-run, refused-number, refused-place, Never, ready-never}
use Rattle.theory_state.specs.Testing.{run-never, start_rest, run_rest}

-- ts are the tests for 13, which say what it asks
module _ {Registers : Type 0} (ts : List Test) (says : All ts → Registers) (said : Registers → All ts) (l : Lent) (rest : Lent → After) where
  tested-thirteen : (p : ℕ) → Never 13 rest → (tested ts l rest).answer ≡ Refused 13 p → WrongRegisters Registers l p
  unfolding check_of
  tested-thirteen p B =
      test-cases {P = λ a. a.answer ≡ Refused 13 p → WrongRegisters Registers l p} {ts = ts} {l = l} {rest = rest}
      (record {
        by_check = λ n q map v e. absurd (omega (arith, verdict-number l.file l.map map n q v, refused-number n 13 q p e));
        by_registers = λ map v n e. record { passes = rw v; wrong = λ I. n (said I); place = sym (refused-place 13 13 0 p e) };
        by_lengths = λ map v T e. absurd (omega (arith, refused-number 10 13 0 p e));
        by-heap = λ map q v T L h e. absurd (omega (arith, refused-number 11 13 q p e));
        by-none = λ map os v T L h e. absurd (B (with_map map l) p e);
      })

  thirteen-tested : (p : ℕ) → WrongRegisters Registers l p → tested ts l rest ≡ turned_away 13 p l
  unfolding check_of
  thirteen-tested p F = go (verdict_of l.file l.map) refl F.passes
    where
      fails : (t : Bool) → all ts ≡ t → t ≡ false
      fails true e = absurd (F.wrong (says (all_true ts e)))
      fails false e = refl

      go : (v : Verdict) → verdict_of l.file l.map ≡ v → (answered v).answer ≡ Passed → after_check ts l rest v ≡ turned_away 13 p l
      go (pass map) v e = rw (v, fails (all ts) refl, F.place)
      go (refuse n q map) v e = cc

pub refused-thirteen : RefusedThirteen
unfolding start_of run_of
refused-thirteen l =
    let S = register_tests l in
    let R = belong_tests l in (
      λ p. (tested-thirteen S (asks-start l) (start-asks l) l start_rest p (ready-never 13), thirteen-tested S (asks-start l) (start-asks l) l start_rest p),
      λ n p. (
        tested-thirteen R (asks-run l) (run-asks l) l (run_rest n) p (run-never 13 n (λ e. omega arith)),
        thirteen-tested R (asks-run l) (run-asks l) l (run_rest n) p,
      ),
    )

-- a file's sums come back from the registers that they travel in
sums-left : (f map new : List ℕ) → Bytes f → verdict_of f map ≡ pass new → (s : Sums) → s ≡ sums_of f → (r : Regs) → sums_from (reg_bytes s r) ≡ s
sums-left f map new B v s e r =
    let fit = sums-fit f B (passed-as f map new v).formed.few in
    let first = ap (λ (x : Sums). x.first) e in
    let second = ap (λ (x : Sums). x.second) e in
    sums-back s r (omega arith) (omega arith)

pub start-sums : StartSums
unfolding start_of
start-sums l B =
    test-cases {P = λ a. a.answer ≡ Ready → (length a.lists.bytes ≡ 36) × (sums_from a.lists.bytes ≡ sums_of l.file)} {ts = register_tests l}
    {l = l} {rest = start_rest}
    (record {
      by_check = λ n p map v e. absurd (true≢false (cc));
      by_registers = λ map v n e. absurd (true≢false (cc));
      by_lengths = λ map v T e. absurd (true≢false (cc));
      by-heap = λ map q v T L h e. absurd (true≢false (cc));
      by-none = λ map os v T L h e. (registers-length _ _, sums-left l.file l.map map B v (sums_of l.file) refl _);
    })

pub run-sums : RunSums
unfolding run_of
run-sums n l B =
    test-cases {P = λ a. (length a.lists.bytes ≡ length l.bytes) × (sums_from a.lists.bytes ≡ sums_from l.bytes)} {ts = belong_tests l} {l = l}
    {rest = run_rest n}
    (record {
      by_check = λ k p map v. (refl, refl);
      by_registers = λ map v k. (refl, refl);
      by_lengths = λ map v T. (refl, refl);
      by-heap = λ map q v T L h. (refl, refl);
      by-none = λ map os v T L h. go map v (asks-run l T) (all (sound_tests (with_map map l)));
    })
  where
    go : (map : List ℕ) → verdict_of l.file l.map ≡ pass map → RunRegisters l → (t : Bool) →
        let a = when t then ran_from n (with_map map l) else answers (Refused 12 0) (with_map map l) in
        (length a.lists.bytes ≡ length l.bytes) × (sums_from a.lists.bytes ≡ sums_from l.bytes)
    go map v I true = (registers-length _ _ ∙ sym I.0, sums-left l.file l.map map B v (sums_from l.bytes) I.1 _)
    go map v I false = (refl, refl)

-- so do runs, one after the other
handed-on : (b : List ℕ) (rs : List (ℕ × Lent)) (c : List ℕ) → HandedOn b rs c → (length c ≡ length b) × (sums_from c ≡ sums_from b)
handed-on b [] c e = (ap length e, ap sums_from e)
handed-on b ((n, l) ∷ rs) c P =
    let e = P.0 in
    let r = run-sums n l P.1 in
    let q = handed-on (run_of n l).lists.bytes rs c P.2 in
    (q.0 ∙ r.0 ∙ ap length e, q.1 ∙ r.1 ∙ ap sums_from e)

pub other-file : OtherFile
other-file l B e rs k p c n =
    let S = start-sums l B e in
    let R = handed-on (start_of l).lists.bytes rs k.bytes p in
    let its = R.1 ∙ S.1 in
    let T = (refused-thirteen k).1 n in
    record {
      differ = λ h. (T 0).1 (record { passes = c; wrong = λ I. h (sym I.1 ∙ its); place = refl });
      agree = λ h q z. ((T q).0 z).wrong (R.0 ∙ S.0, its ∙ sym h);
    }
