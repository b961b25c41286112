-- Tests 1 to 9, 13, 10 and 11, which start and run share but for what they ask of 13: what the code finds of them decides what the model's
-- `tested` comes to, whatever follows.
use Rattle.std.specs.Prelude.{ℕ, ◌<◌, ◌≤◌, Bool, true, false, List, ◌≡◌, refl, length, replicate, Result, Ok, Err}
use Rattle.std.proofs.Common.{ap, sym, ◌∙◌, arith, le-leb}
use Rattle.std.proofs.lemmas.List.{length-replicate}
use Rattle.model.specs.Choice.{Test, all, All, all_true}
use Rattle.model.specs.File.{head_of, file_most, procs_most}
use Rattle.model.specs.Heap.{clean, heap_of, objects_of}
use Rattle.model.specs.Calls.{pass, refuse, verdict_of, Checked, checked, answered, check_of, Lent, with_map, After, answers, demand, audited, register_tests, length_tests}
use Rattle.model.specs.Calls.{after_check, tested, heap_most}
use Rattle.model.specs.Calls as model
use Rattle.theory_checker.proofs.Exact.{passed-as}
use Rattle.laws_file.specs.Procedures.{head-zero, head_whole}
use Rattle.check_scan.specs.Heading.{Placed}
use Rattle.checker.specs.Parts.{answer_of, Checks}
use Rattle.code_file.specs.Heads.{HeadIs, proc_head, head-of}
use Rattle.code_file.specs.declared.Head.{Head}
use Rattle.call_lists.specs.Lists.{belong_list, belong_short, length_list}
use Rattle.audit_words.specs.Table.{Unmarked, unmarked-fresh, Marks}
use Rattle.audit_heap.specs.Found.{Audited}
use Rattle.audit_heap.specs.Answers.{audited-clean, audited-fault}
use Rattle.audit_heap.specs.declared.BadWord.{BadWord}
use Rattle.model.specs.Refusals.{number_of, refused_as}
use Rattle.model.specs.declared.Refusal.{Refusal}
use Rattle.model.specs.declared.Refusal.TheVariants.{ListLengths, Heap, OtherFile}
use Rattle.model.specs.declared.RefusedAt.{RefusedAt}
use Rattle.model.specs.declared.Answer.TheVariants.{Passed, Refused}

-- these are the tests for 13, and their outcome; it matters for a file that is not too long
abbrev pub Asks : List Test → List ℕ → Bool → Type 0
Asks ts f its = length f ≤ file_most → its ≡ all ts

-- run's tests for 13 with the file's length ahead come to the same for a file that is not too long
pub short-belongs : (t : Bool) (f b : List ℕ) → t ≡ all (belong_short f b) → Asks (belong_list f b) f t
short-belongs t f b e = λ m. e ∙ rw (le-leb (length f) file_most m)

-- an empty table of heads, and one of marks, fresh and long enough for any heap that is not too long
pub record Tables (table : List ℕ) (marks : List Bool) (heap : List ℕ) : Type 0 where
  pub empty : table ≡ replicate procs_most 0
  pub fresh : Unmarked marks
  pub room : length heap ≤ heap_most → length heap ≤ length marks

-- tables as the code makes them
pub tables-fresh : (n : ℕ) (table : List ℕ) (marks : List Bool) (heap : List ℕ) → table ≡ replicate procs_most 0 → marks ≡ replicate n false →
    (length heap ≤ heap_most → length heap ≤ n) → Tables table marks heap
tables-fresh n table marks heap e f r =
    record { empty = e; fresh = rw f (unmarked-fresh n); room = rw (f, length-replicate {A = Bool} n false) r }

-- what goes on where the tests found nothing, and what is answered where they did
abbrev pub admitted : Result ℕ RefusedAt → (Lent → After) → Lent → After
admitted (Ok k) rest l = rest l
admitted (Err e) rest l = answers (refused_as e) l

-- a refusal is no number of procedures
pub err-ok : {A : Type 0} (e : RefusedAt) (k : ℕ) → Err e ≡ Ok k → A
err-ok e k z = let y : ◌≡◌ {A = ℕ} 0 1 = cc in absurd (omega arith)

-- what the tests show where they found nothing, ts being those for 13; the file has k procedures
pub record AdmitShows (ts : List Test) (l : Lent) (map table : List ℕ) (k : ℕ) : Type 0 where
  pub its : All ts
  pub passes : verdict_of l.file l.map ≡ pass map
  pub placed : Placed l.file table k
  pub lengths : All (length_tests (with_map map l))
  pub heap_clean : heap_of l.heap ≡ clean (objects_of l.heap)

pub record Admitted (ts : List Test) (l : Lent) (map table : List ℕ) (v : Result ℕ RefusedAt) : Type 0 where
  pub is : (rest : Lent → After) → tested ts l rest ≡ admitted v rest (with_map map l)
  pub shown : (k : ℕ) → v ≡ Ok k → AdmitShows ts l map table k

-- in start
abbrev pub Started : Lent → List ℕ → List ℕ → Result ℕ RefusedAt → Type 0
Started l = Admitted (register_tests l) l

-- the same, with the table of marks that is left behind
pub record AdmittedMarks (ts : List Test) (l : Lent) (map table : List ℕ) (marks : List Bool) (v : Result ℕ RefusedAt) : Type 0 where
  pub found : Admitted ts l map table v
  pub marks_are : (k : ℕ) → v ≡ Ok k → Marks (objects_of l.heap) marks

-- the first head of a passed file stands at place 0, and is whole; the file is not too long
pub first-whole : (f map new : List ℕ) → verdict_of f map ≡ pass new → (head_of f 0 ≡ 0) × (6 < length f) × (length f ≤ file_most)
first-whole f map new e =
    let P = (passed-as f map new e).formed in
    let z = head-zero f P.places P.records in
    let w = head_whole f P.places P.records 0 in
    (z, omega arith, P.few)

-- the check refused the file
not-passed : (ts : List Test) (l : Lent) (map : List ℕ) (w : model.Verdict) (v : Result ℕ RefusedAt) → checked (answer_of v) map ≡ answered w →
    ((k : ℕ) → v ≡ Ok k → ⊥) → (rest : Lent → After) → after_check ts l rest w ≡ admitted v rest (with_map map l)
not-passed ts l map w (Ok k) e n rest = absurd (n k refl)
not-passed ts l map (pass new) (Err r) e n rest =
    let a : refused_as r ≡ Passed = ap (λ (c : Checked). c.answer) e in
    let y : ◌≡◌ {A = ℕ} 0 1 = cc in absurd (omega arith)
not-passed ts l map (refuse j q new) (Err r) e n rest =
    let a : refused_as r ≡ Refused j q = ap (λ (c : Checked). c.answer) e in
    let b : map ≡ new = ap (λ (c : Checked). c.map) e in
    rw (a, b)

pub admit-refused : {ts : List Test} {l : Lent} {map table : List ℕ} {marks : List Bool} {v : Result ℕ RefusedAt} → Checks l.file l.map map table v →
    ((k : ℕ) → v ≡ Ok k → ⊥) → AdmittedMarks ts l map table marks v
unfolding check_of
admit-refused {ts = ts} {l = l} {map = map} {v = v} C n =
    record {
      found = record { is = not-passed ts l map (verdict_of l.file l.map) v C.is n; shown = λ k e. absurd (n k e) };
      marks_are = λ k e. absurd (n k e);
    }

-- the check passed the file
passes-with : (map : List ℕ) (w : model.Verdict) → checked Passed map ≡ answered w → w ≡ pass map
passes-with map (pass new) e = ap pass (sym (ap (λ (c : Checked). c.map) e))
passes-with map (refuse j p new) e =
    let w : Passed ≡ Refused j p = ap (λ (c : Checked). c.answer) e in
    let y : ◌≡◌ {A = ℕ} 0 1 = cc in absurd (omega arith)

pub admit-passes : {f map₀ map table : List ℕ} {v : Result ℕ RefusedAt} {k : ℕ} → Checks f map₀ map table v → v ≡ Ok k → verdict_of f map₀ ≡ pass map
unfolding check_of
admit-passes {f = f} {map₀ = map₀} {map = map} C z = passes-with map (verdict_of f map₀) (sym (ap (λ (x : Result ℕ RefusedAt). checked (answer_of x) map) z) ∙ C.is)

-- what a refusal behind the check comes to
refused : {ts : List Test} {l : Lent} {map table : List ℕ} {marks : List Bool} (r : Refusal) (p : ℕ) →
    ((rest : Lent → After) → tested ts l rest ≡ answers (Refused (number_of r) p) (with_map map l)) →
    AdmittedMarks ts l map table marks (Err (record { refusal = r; place = p }))
refused r p e =
    let at : RefusedAt = record { refusal = r; place = p } in
    record { found = record { is = e; shown = λ j z. err-ok at j z }; marks_are = λ j z. err-ok at j z }

pub admit-foreign : {ts : List Test} {l : Lent} {map table : List ℕ} {marks : List Bool} {v : Result ℕ RefusedAt} {k : ℕ} {its? : Bool} →
    Checks l.file l.map map table v → v ≡ Ok k → Asks ts l.file its? → its? ≡ false →
    AdmittedMarks ts l map table marks (Err (record { refusal = OtherFile; place = 0 }))
admit-foreign {l = l} {map = map} C z t w =
    let p = admit-passes C z in
    refused OtherFile 0 (λ rest. rw (p, sym (t (first-whole l.file l.map map p).2) ∙ w))

-- what is known of a passed file that the state belongs to, before its heap is looked at
pub record Measured (ts : List Test) (l : Lent) (map table : List ℕ) (k : ℕ) (right? : Bool) : Type 0 where
  pub passes : verdict_of l.file l.map ≡ pass map
  pub placed : Placed l.file table k
  pub its : all ts ≡ true
  pub tests : right? ≡ all (length_tests (with_map map l))

pub measured : {ts : List Test} {l : Lent} {map table : List ℕ} {v : Result ℕ RefusedAt} {k : ℕ} {its? : Bool} {head : Head} {right? : Bool} →
    Checks l.file l.map map table v → v ≡ Ok k → Asks ts l.file its? → its? ≡ true → HeadIs l.file 0 head →
    right? ≡ all (length_list head (length l.main) (length l.ptr) (length l.ctl) (length l.heap)) →
    Measured ts l map table k right?
unfolding length_tests proc_head
measured {l = l} {map = map} {k = k} C z t w H r =
    let p = admit-passes C z in
    let whole = first-whole l.file l.map map p in
    let e : _ ≡ proc_head l.file 0 = H.is ∙ head-of l.file 0 0 (sym whole.0) in
    record {
      passes = p;
      placed = C.placed k z;
      its = sym (t whole.2) ∙ w;
      tests = r ∙ ap (λ (w : Head). all (length_list w (length l.main) (length l.ptr) (length l.ctl) (length l.heap))) e;
    }

module _ {ts : List Test} {l : Lent} {map table : List ℕ} {k : ℕ} {right? : Bool} (M : Measured ts l map table k right?) where
  go-on : (rest : Lent → After) →
      tested ts l rest
      ≡ demand (length_tests (with_map map l)) 10 (with_map map l) (audited (heap_of l.heap) (with_map map l) (rest (with_map map l)))
  go-on rest = rw (M.passes, M.its)

  right : right? ≡ true → all (length_tests (with_map map l)) ≡ true
  right w = sym M.tests ∙ w

  pub heap-measured : right? ≡ true → (2 ≤ length l.heap) × (length l.heap ≤ heap_most)
  unfolding length_tests
  heap-measured w =
      let T = all_true (length_tests (with_map map l)) (right w) in
      (T.1.1.1.1.1.1.0, T.1.1.1.1.1.1.1.0)

  pub admit-lengths : {marks : List Bool} → right? ≡ false →
      AdmittedMarks ts l map table marks (Err (record { refusal = ListLengths; place = 0 }))
  admit-lengths w = refused ListLengths 0 (λ rest. go-on rest ∙ rw (sym M.tests ∙ w))

  module _ (w : right? ≡ true) {h : Result Unit BadWord} {marks : List Bool} (h-is : Audited l.heap h marks) where
    pub admit-heap : {b : BadWord} → h ≡ Err b → AdmittedMarks ts l map table marks (Err (record { refusal = Heap; place = b.at }))
    admit-heap {b = b} e = refused Heap b.at (λ rest. go-on rest ∙ rw (right w, audited-fault b h-is e))

    pub admit-all : h ≡ Ok tt → AdmittedMarks ts l map table marks (Ok k)
    admit-all e =
        let clean_is = audited-clean h-is e in
        record {
          found = record {
            is = λ rest. go-on rest ∙ rw (right w, clean_is);
            shown = λ j y.
                let x : k ≡ j = cc in
                record {
                  its = all_true ts M.its;
                  passes = M.passes;
                  placed = rw x at M.placed;
                  lengths = all_true (length_tests (with_map map l)) (right w);
                  heap_clean = clean_is;
                };
          };
          marks_are = λ j y. h-is.marks e;
        }

-- what start and run come to, once admitted or not
module _ (ts : List Test) (l : Lent) (map table : List ℕ) (v : Result ℕ RefusedAt) (A : Admitted ts l map table v) (rest : Lent → After) where
  pub tested-refused : (r : RefusedAt) → v ≡ Err r → answers (refused_as r) (with_map map l) ≡ tested ts l rest
  tested-refused r e = sym (A.is rest ∙ ap (λ (x : Result ℕ RefusedAt). admitted x rest (with_map map l)) e)

  pub tested-on : (k : ℕ) → v ≡ Ok k → rest (with_map map l) ≡ tested ts l rest
  tested-on k e = sym (A.is rest ∙ ap (λ (x : Result ℕ RefusedAt). admitted x rest (with_map map l)) e)
