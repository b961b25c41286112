-- All that run tests, 1 to 13: behind what start tests too, with the sums, the state is sound or refused as 12. What the code finds decides what the
-- model's `tested_for_run` comes to, whatever follows.
use Rattle.std.specs.Prelude.{ℕ, ◌≤◌, Bool, true, false, List, ◌≡◌, length, Result, Ok, Err}
use Rattle.std.proofs.Common.{ap, sym, ◌∙◌, arith}
use Rattle.model.specs.Heap.{objects_of}
use Rattle.model.specs.Control.{regs_from}
use Rattle.model.specs.Sound.{sound?}
use Rattle.model.specs.Claim.{Bytes}
use Rattle.model.specs.Calls.{Lent, with_map, machine_of, After, answers, length_tests, belong_tests, sound_tests, demand, tested_for_run, main_most, ptr_most}
use Rattle.audit_words.specs.Table.{Marks}
use Rattle.audit_places.specs.Places.{AuditReady, passed-ready}
use Rattle.call_tests.specs.Admit.{AdmitShows, AdmittedMarks, tested-refused, tested-on}
use Rattle.model.specs.Refusals.{refused_as}
use Rattle.model.specs.declared.Refusal.TheVariants.{State}
use Rattle.model.specs.declared.RefusedAt.{RefusedAt}
use Rattle.call_tests.specs.declared.Sound.{Sound}
use Rattle.model.specs.declared.Regs.{Regs}

abbrev pub judged_for : Result Sound RefusedAt → (Lent → After) → Lent → After
judged_for (Ok s) rest l = rest l
judged_for (Err e) rest l = answers (refused_as e) l

-- a state that was let through: the file has k procedures, and these are the registers
pub record Through (l : Lent) (map table : List ℕ) (k : ℕ) (r : Regs) : Type 0 where
  pub shown : AdmitShows (belong_tests l) l map table k
  pub regs_are : r ≡ regs_from l.bytes
  pub sound : sound? l.file map (machine_of (with_map map l)) ≡ true

pub record TestedAs (l : Lent) (map table : List ℕ) (t : Result Sound RefusedAt) : Type 0 where
  pub is : (rest : Lent → After) → tested_for_run l rest ≡ judged_for t rest (with_map map l)
  pub through : (s : Sound) → t ≡ Ok s → Through l map table s.procedures s.regs

unfit-sound : {A : Type 0} (e : RefusedAt) (s : Sound) → Err e ≡ Ok s → A
unfit-sound e s z = let y : ◌≡◌ {A = ℕ} 0 1 = cc in absurd (omega arith)

-- the tests on the state, then the rest
abbrev then : (Lent → After) → Lent → After
then rest l = demand (sound_tests l) 12 l (rest l)

module _ {l : Lent} {map table : List ℕ} {marks : List Bool} {v : Result ℕ RefusedAt} (A : AdmittedMarks (belong_tests l) l map table marks v) where
  pub test-refused : {r : RefusedAt} → v ≡ Err r → TestedAs l map table (Err r)
  test-refused {r = r} e =
      record { is = λ rest. sym (tested-refused (belong_tests l) l map table v A.found (then rest) r e); through = λ s z. unfit-sound r s z }

  module _ {k : ℕ} (e : v ≡ Ok k) where
    S : AdmitShows (belong_tests l) l map table k
    S = A.found.shown k e

    pub test-ready : Bytes l.file → AuditReady l.file map table k
    test-ready B = passed-ready l.file l.map map table k B S.passes S.placed

    pub test-lengths : (length l.main ≤ main_most) × (length l.ptr ≤ ptr_most)
    unfolding length_tests
    test-lengths = (S.lengths.1.0, S.lengths.1.1.1.0)

    module _ {r : Regs} (r_is : r ≡ regs_from l.bytes) {t : Bool}
        (t-is : (h : List ℕ) → Marks (objects_of h) marks →
        t ≡ sound? l.file map (record { regs = r; main = l.main; ptr = l.ptr; ctl = l.ctl; heap = h })) where
      sound-is : t ≡ sound? l.file map (machine_of (with_map map l))
      sound-is = t-is l.heap (A.marks_are k e) ∙ rw r_is

      pub test-unsound : t ≡ false → TestedAs l map table (Err (record { refusal = State; place = 0 }))
      test-unsound w =
          record {
            is = λ rest. sym (tested-on (belong_tests l) l map table v A.found (then rest) k e) ∙ rw (sym sound-is ∙ w);
            through = λ s z. unfit-sound (record { refusal = State; place = 0 }) s z;
          }

      pub test-sound : t ≡ true → TestedAs l map table (Ok (record { procedures = k; regs = r }))
      test-sound w =
          record {
            is = λ rest. sym (tested-on (belong_tests l) l map table v A.found (then rest) k e) ∙ rw (sym sound-is ∙ w);
            through = λ s z. go s z;
          }
        where
          go : (s : Sound) → ◌≡◌ {A = Result Sound RefusedAt} (Ok (record { procedures = k; regs = r })) (Ok s) → Through l map table s.procedures s.regs
          go s z =
              let e : ◌≡◌ {A = Sound} (record { procedures = k; regs = r }) s = cc in
              let a : k ≡ s.procedures = ap (λ (x : Sound). x.procedures) e in
              let b : r ≡ s.regs = ap (λ (x : Sound). x.regs) e in
              record { shown = rw a at S; regs_are = sym b ∙ r_is; sound = sym sound-is ∙ w }

-- what a call comes to that begins with these tests
module _ (l : Lent) (map table : List ℕ) (t : Result Sound RefusedAt) (T : TestedAs l map table t) (rest : Lent → After) where
  pub for-run-refused : (r : RefusedAt) → t ≡ Err r → answers (refused_as r) (with_map map l) ≡ tested_for_run l rest
  for-run-refused r e = sym (T.is rest ∙ ap (λ (x : Result Sound RefusedAt). judged_for x rest (with_map map l)) e)

  pub for-run-on : (s : Sound) → t ≡ Ok s → rest (with_map map l) ≡ tested_for_run l rest
  for-run-on s e = sym (T.is rest ∙ ap (λ (x : Result Sound RefusedAt). judged_for x rest (with_map map l)) e)
