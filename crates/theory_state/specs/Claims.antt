-- Demand 3 on calls, over what is proved of heaps elsewhere: after a start that answered ready, every list of check, start and run calls
-- keeps `HeldLists`, from which each call's claim follows. By one induction on the calls.
use Rattle.std.specs.Prelude.{ℕ, ◌≡◌, true, List, [], ◌∷◌, length}
use Rattle.std.proofs.Math.Path.{refl, ap, subst}
use Rattle.std.proofs.Common.{sym, ◌∙◌, true≢false, inr, arith}
use Rattle.std.proofs.Math.Logic.{inl}
use Rattle.model.specs.Choice.{Test, All, true-all}
use Rattle.model.specs.Words.{word_at, cut}
use Rattle.model.specs.Heap.{Heap, Pointer, objects_of}
use Rattle.model.specs.Sums.{sums_of}
use Rattle.model.specs.Control.{Machine, set_regs, register_bytes, sums_from}
use Rattle.model.specs.Step.{next, uncaught, step}
use Rattle.model.specs.Sound.{sound?}
use Rattle.model.specs.Calls.{told_of, pass, verdict_of, check_of, Lent, machine_of, leaving, with_map, length_tests, register_tests, belong_tests}
use Rattle.model.specs.Calls.{sound_tests, After, demand, tested, started, start_of, ran_from, run_of}
use Rattle.model.specs.Claim.{Call, check, start, run, call_of, NotRefused, Depths, Pointers, Before, Claim, Bytes, CallsHold}
use Rattle.model.specs.declared.Sums.{Sums}
use Rattle.model.specs.declared.Answer.TheVariants as answer
use Rattle.file_sums.proofs.Fitting.{sums-fit}
use Rattle.registers.specs.Registers.{registers-length}
use Rattle.theory_checker.proofs.Exact.{passed-as, passed-again}
use Rattle.theory_checker.specs.Leaves.{uncaught-stays}
use Rattle.heap.specs.Pointers.{true-pointer}
use Rattle.laws.specs.Cuts.{length_cut}
use Rattle.laws.specs.Records.{length-put}
use Rattle.theory_state.specs.Laws.{CodeLaws, code_laws}
use Rattle.theory_state.specs.Sound.{Sound, TestedPointer, sound-with, true-sound?, running-depths}
use Rattle.theory_state.specs.Keep.{start-sound}
use Rattle.theory_state.specs.Rules.{HeapLaws, KeptSound, kept_here, kept_on, step_keeps}
use Rattle.theory_state.specs.Runs.{after-keeps, run-keeps}
use Rattle.theory_state.specs.Registers.{sums-back, registers-back, sound-small}
use Rattle.theory_state.specs.Testing.{test-cases, start-asks, run-asks, readied, start_rest}

-- a state between the steps of a run on the lists l
abbrev pub Between : Lent → Machine → Type 0
Between l m = KeptSound l.file l.map (machine_of l) m

passed-told : NotRefused answer.Passed
unfolding told_of
passed-told e = omega arith

ready-told : NotRefused answer.Ready
unfolding told_of
ready-told e = omega arith

-- what holds of the lists from a ready start on
pub record HeldLists (l : Lent) : Type 0 where
  pub bytes : Bytes l.file
  pub passes : verdict_of l.file l.map ≡ pass l.map
  pub sizes : All (length_tests l)
  pub registers : length l.bytes ≡ register_bytes
  pub sums : sums_from l.bytes ≡ sums_of l.file
  pub state : Between l (machine_of l)

pointers-of : (l : Lent) (m : Machine) → Between l m → Pointers m
pointers-of l m B = record { objects = B.objects; heap = B.heap; stack = go B.sound }
  where
    go : Sound l.file l.map (Pointer B.objects) m → (i : ℕ) → Pointer B.objects (word_at m.ptr i)
    go (inl S) = S.3.words.pointers
    go (inr D) = D.words.pointers

depths-of : (l : Lent) (m : Machine) → Between l m → (m.regs.state ≡ 1 → ⊥) → Depths l.map m
depths-of l m B u = go B.sound
  where
    go : Sound l.file l.map (Pointer B.objects) m → Depths l.map m
    go (inl S) = running-depths l.file l.map (Pointer B.objects) m S.0 S.1 S.2 S.3
    go (inr D) = absurd (u D.state_is)

module _ (H : HeapLaws) where
  module _ (l : Lent) (B : Bytes l.file) (P : verdict_of l.file l.map ≡ pass l.map) (T : All (length_tests l)) where
    L : CodeLaws l.file l.map
    L = code_laws l.file l.map l.map B P

    -- a step, hence a run, stays between
    pub between_step : (m m' : Machine) → Between l m → (m.regs.state ≡ 1 → ⊥) → step l.file m ≡ next m' → Between l m'
    unfolding length_tests
    between_step m m' S u e = go S.sound
      where
        go : Sound l.file l.map (Pointer S.objects) m → Between l m'
        go (inl R) =
            let h = S.same_heap in
            kept_on S
            (step_keeps l.file l.map m S.objects R.1 R.2 R.0 L H R.3 S.heap (omega arith) m' e)
        go (inr D) = absurd (u D.state_is)

    -- an uncaught instruction leaves the state as it was
    pub between_stays : (m m' : Machine) (code : ℕ) → Between l m → step l.file m ≡ uncaught code m' → Between l m'
    between_stays m m' code S e = subst (Between l) (sym (uncaught-stays l.file m m' code e)) S

    -- what a state leaves with the file's sums is held: registers and sums come back from their bytes
    left-held : (s : Sums) → s ≡ sums_of l.file → (m : Machine) → Between l m → HeldLists (leaving s l m)
    unfolding length_tests
    left-held s z m S =
        let e1 = S.same_main in
        let e2 = S.same_ptr in
        let e3 = S.same_ctl in
        let small =
        sound-small l.file l.map (Pointer S.objects) m L (omega arith) (omega arith) (omega arith) (omega arith) (omega arith)
        S.sound in
        let r = registers-back s m.regs small in
        let w : m ≡ machine_of (leaving s l m) = λ i. set_regs (sym r i) m in
        let fit = sums-fit l.file B (passed-as l.file l.map l.map P).formed.few in
        let first = ap (λ (x : Sums). x.first) z in
        let second = ap (λ (x : Sums). x.second) z in
        record {
          bytes = B;
          passes = P;
          sizes = rw (S.same_main, S.same_ptr, S.same_ctl, S.same_heap) T;
          registers = registers-length s m.regs;
          sums = sums-back s m.regs (omega arith) (omega arith) ∙ z;
          state = subst (λ (x : Machine). KeptSound l.file l.map x x) w (kept_here m S.objects S.heap S.sound);
        }

    start-held : (os : List ℕ) → Heap l.heap os → HeldLists (leaving (sums_of l.file) l (started l))
    unfolding length_tests started
    start-held os K =
        left-held (sums_of l.file) refl (started l)
        (record {
          objects = os;
          heap = K;
          sound =
              inl (
                1,
                0,
                0,
                start-sound (Pointer os) l L (inl refl) T.1.1.1.1.1.1.1.1.0 T.1.1.1.1.1.1.1.1.1.0 T.1.1.1.1.0,
              );
          same_main = length_cut 0 l.main;
          same_ptr = length_cut 0 l.ptr;
          same_ctl = length-put (cut 0 l.ctl) 0 _ ∙ length_cut 0 l.ctl;
          same_heap = refl;
        })

  -- the tests of start and run pass, ts being those for 13
  tests-pass : (ts : List Test) (l : Lent) → HeldLists l → All ts → (rest : Lent → After) → tested ts l rest ≡ rest l
  tests-pass ts l I T rest =
      rw (
        I.passes,
        true-all ts T,
        true-all (length_tests l) I.sizes,
        H.clean_audit l.heap I.state.objects I.state.heap,
      )

  audited-sound : (l : Lent) → HeldLists l → sound? l.file l.map (machine_of l) ≡ true
  unfolding objects_of
  audited-sound l I =
      true-sound? l.file l.map (machine_of l)
      (sound-with l.file l.map (Pointer I.state.objects) (TestedPointer (machine_of l)) (machine_of l)
      (λ v p. rw (H.clean_audit l.heap I.state.objects I.state.heap) (true-pointer I.state.objects v p))
      I.state.sound)

  -- a run's tests pass, and the run follows, by the map that they left
  run_is : (n : ℕ) (l : Lent) → HeldLists l → run_of n l ≡ ran_from n l
  unfolding run_of
  run_is n l I = tests-pass (belong_tests l) l I (run-asks l (I.registers, I.sums)) (λ l'. demand (sound_tests l') 12 l' (ran_from n l')) ∙ rw (audited-sound l I)

  call-held : (c : Call) (l : Lent) → HeldLists l → NotRefused (call_of c l).answer × HeldLists (call_of c l).lists
  unfolding call_of check_of start_of
  call-held check l I = rw I.passes (passed-told, I)
  call-held start l I =
      rw (tests-pass (register_tests l) l I (start-asks l I.registers) readied)
      (ready-told, start-held l I.bytes I.passes I.sizes I.state.objects I.state.heap)
  call-held (run n) l I =
      let B = between_step l I.bytes I.passes I.sizes in
      let S = between_stays l I.bytes I.passes I.sizes in
      let R = run-keeps l.file (Between l) B S n 0 (machine_of l) I.state in
      rw (run_is n l I) (R.1, left-held l I.bytes I.passes I.sizes (sums_from l.bytes) I.sums _ R.0)

  before : (c : Call) (l : Lent) → HeldLists l → Before c l
  before check l I = tt
  before start l I = tt
  before (run n) l I =
      let B = between_step l I.bytes I.passes I.sizes in
      let S = between_stays l I.bytes I.passes I.sizes in
      rw (run_is n l I)
      (record {
        right =
            λ k m h e u.
            let T = after-keeps l.file (Between l) B S k (machine_of l) m I.state e in
            record { depths = depths-of l m T u; pointers = pointers-of l m T };
      })

  pub claims : (cs : List Call) (l : Lent) → HeldLists l → Claim cs l
  claims [] l I = tt
  claims (c ∷ cs) l I =
      let r = call-held c l I in
      let l' = (call_of c l).lists in (
        record { not_refused = r.0; before = before c l I; pointers = pointers-of l' (machine_of l') r.1.state },
        claims cs l' r.1,
      )

  -- a start that answers ready passed each test
  ready_held : (l : Lent) → Bytes l.file → (start_of l).answer ≡ answer.Ready → HeldLists (start_of l).lists
  unfolding start_of
  ready_held l B =
      test-cases {P = λ a. a.answer ≡ answer.Ready → HeldLists a.lists} {ts = register_tests l} {l = l} {rest = start_rest}
      (record {
        by_check = λ n p map v e. absurd (true≢false (cc));
        by_registers = λ map v n e. absurd (true≢false (cc));
        by_lengths = λ map v T e. absurd (true≢false (cc));
        by-heap = λ map q v T L h e. absurd (true≢false (cc));
        by-none = λ map os v T L h e. start-held (with_map map l) B (passed-again l.file l.map map v) L os (H.audit_clean l.heap os h);
      })

  pub calls : CallsHold
  calls l B e =
      let I = ready_held l B e in
      (pointers-of (start_of l).lists (machine_of (start_of l).lists) I.state, λ cs. claims cs (start_of l).lists I)
