-- What holds of every state of a run, `Alive`: run's tests let nothing else through, and a step keeps it. Its registers are small. Each
-- follows from the soundness theory, since a passed check gives the laws of the code.
use Rattle.std.specs.Prelude.{ℕ, ◌≤◌, ◌≡◌, true, List, length}
use Rattle.std.proofs.Common.{inl, inr, arith}
use Rattle.model.specs.Choice.{All}
use Rattle.model.specs.File.{file_most, procs, greatest_main, greatest_ptr}
use Rattle.model.specs.Heap.{Heap, Pointer, clean, heap_of, objects_of}
use Rattle.model.specs.Control.{Machine, set_regs}
use Rattle.model.specs.Step.{next, step}
use Rattle.model.specs.Sound.{sound?}
use Rattle.model.specs.Calls.{main_most, ptr_most, ctl_most, heap_most, pass, verdict_of, Lent, machine_of, length_tests}
use Rattle.model.specs.Claim.{Bytes}
use Rattle.model.specs.declared.Regs.{Regs}
use Rattle.theory_checker.proofs.Exact.{passed-as, passed-again}
use Rattle.check_scan.specs.Heading.{Placed}
use Rattle.heap.specs.Pointers.{pointer-true}
use Rattle.theory_state.specs.Laws.{CodeLaws, code_laws}
use Rattle.theory_state.specs.Sound.{Running, Sound, TestedPointer, sound-with, sound?-true}
use Rattle.theory_state.specs.Rules.{step_keeps}
use Rattle.audit_heap.specs.Audited.{heap_clean}
use Rattle.theory_state.specs.Demand.{heap-laws}

-- the lists' lengths: refusal 10
pub record Sizes (f : List ℕ) (m : Machine) : Type 0 where
  pub main_at_most : length m.main ≤ main_most
  pub ptr_at_most : length m.ptr ≤ ptr_most
  pub ctl_at_most : length m.ctl ≤ ctl_most
  pub heap_least : 2 ≤ length m.heap
  pub heap_at_most : length m.heap ≤ heap_most
  pub main_fits : greatest_main f 0 ≤ length m.main
  pub ptr_fits : greatest_ptr f 0 ≤ length m.ptr

pub record Alive (f map table : List ℕ) (m : Machine) : Type 0 where
  -- the file passed its check, and this is its finished map
  pub bytes : Bytes f
  pub short : length f ≤ file_most
  pub passes : verdict_of f map ≡ pass map
  -- the table has the heads
  pub placed : Placed f table (procs f)
  pub sizes : Sizes f m
  pub objects : List ℕ
  pub heap : Heap m.heap objects
  pub sound : Sound f map (Pointer objects) m

-- a state that run's tests let through; map₀ is the map lent, l has the one that the check left
pub alive-run : (l : Lent) (map₀ table os : List ℕ) (r : Regs) → Bytes l.file → verdict_of l.file map₀ ≡ pass l.map →
    Placed l.file table (procs l.file) → All (length_tests l) → heap_of l.heap ≡ clean os →
    sound? l.file l.map (set_regs r (machine_of l)) ≡ true → Alive l.file l.map table (set_regs r (machine_of l))
unfolding length_tests objects_of
alive-run l map₀ table os r B P H T c s =
    let m = set_regs r (machine_of l) in
    record {
      bytes = B;
      short = (passed-as l.file map₀ l.map P).formed.few;
      passes = passed-again l.file map₀ l.map P;
      placed = H;
      sizes =
          record {
            main_at_most = omega arith;
            ptr_at_most = omega arith;
            ctl_at_most = omega arith;
            heap_least = omega arith;
            heap_at_most = omega arith;
            main_fits = omega arith;
            ptr_fits = omega arith;
          };
      objects = os;
      heap = heap_clean l.heap os c;
      sound =
          sound-with l.file l.map (TestedPointer m) (Pointer os) m (λ v p. pointer-true os v (rw c at p)) (sound?-true l.file l.map m s);
    }

module _ {f map table : List ℕ} {m : Machine} (A : Alive f map table m) where
  pub alive-laws : CodeLaws f map
  alive-laws = code_laws f map map A.bytes A.passes

  -- not finished is running
  pub alive-running : (m.regs.state ≡ 1 → ⊥) → (n : ℕ) × (i : ℕ) × (j : ℕ) × Running f map (Pointer A.objects) m n i j
  alive-running u = go A.sound
    where
      go : Sound f map (Pointer A.objects) m → (n : ℕ) × (i : ℕ) × (j : ℕ) × Running f map (Pointer A.objects) m n i j
      go (inl S) = S
      go (inr D) = absurd (u D.state_is)

  pub alive-step : {m' : Machine} → (m.regs.state ≡ 1 → ⊥) → step f m ≡ next m' → Alive f map table m'
  alive-step {m'} u e =
      let S = alive-running u in
      let z = A.sizes in
      let K =
      step_keeps f map m A.objects S.1 S.2 S.0 alive-laws heap-laws S.3 A.heap (omega arith) m' e in
      let e0 = K.same_main in
      let e1 = K.same_ptr in
      let e2 = K.same_ctl in
      let e3 = K.same_heap in
      record {
        bytes = A.bytes;
        short = A.short;
        passes = A.passes;
        placed = A.placed;
        sizes =
            record {
              main_at_most = omega arith;
              ptr_at_most = omega arith;
              ctl_at_most = omega arith;
              heap_least = omega arith;
              heap_at_most = omega arith;
              main_fits = omega arith;
              ptr_fits = omega arith;
            };
        objects = K.objects;
        heap = K.heap;
        sound = K.sound;
      }
