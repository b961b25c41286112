-- An alive state that is not finished is ready to be planned: `StepReady`, which `plan_at` asks for. The instruction's pops, pushes and frame
-- words are in its frame by the rules at its place, and the frame lies in the lists.
use Rattle.std.specs.Prelude.{ℕ, ◌+◌, ◌-◌, ◌<◌, ◌≤◌, ◌≡◌, true, List, length}
use Rattle.std.proofs.Math.Path.{refl, ap}
use native.Mathlib.Omega.{arith}
use Rattle.model.specs.Choice.{All, Mem}
use Rattle.model.specs.File.{local, assign, on_main, on_ptr, call, procs, records_of, starts_in, is_instruction, instructions, greatest_main, greatest_ptr}
use Rattle.model.specs.Checker.{effect_of, depth_tests, target_tests}
use Rattle.model.specs.Heap.{Pointer}
use Rattle.model.specs.Control.{Machine, running, down}
use Rattle.model.specs.Moves.{mtop, ptop}
use Rattle.model.specs.Sound.{is_ins, frame_tests}
use Rattle.laws.specs.Members.{member-in, select_in}
use Rattle.laws_file.specs.Walk.{instruction-whole}
use Rattle.laws_file.specs.Procedures.{head_whole}
use Rattle.theory_state.specs.Stack.{stack-frame, stack-numbers}
use Rattle.theory_state.specs.Laws.{CodeLaws, rules, pops}
use Rattle.theory_state.specs.Sound.{looking, Running}
use Rattle.theory_state.specs.Keep.{running-here, running-fits}
use Rattle.theory_state.specs.Rules.{bases, frame-words}
use Rattle.theory_state.specs.Demand.{heap-laws}
use Rattle.plan.specs.Ready.{StepReady, place_of, here}
use Rattle.theory_step.specs.Alive.{Alive, alive-laws, alive-running}

pub instruction-at : (f : List ℕ) (p : ℕ) → is_ins f p ≡ true → Mem p (instructions f)
unfolding is_ins
instruction-at f p h = member-in p (instructions f) h

module _ {f map table : List ℕ} {m : Machine} (A : Alive f map table m) (n i j : ℕ)
    (R : Running f map (Pointer A.objects) m n i j) where
  L : CodeLaws f map
  L = alive-laws A

  pub at_place : is_ins f (place_of m) ≡ true
  at_place = running-here f map (Pointer A.objects) m n i j R

  pub in_file : Mem (place_of m) (instructions f)
  unfolding is_ins
  in_file = member-in (place_of m) (instructions f) at_place

  is_code : is_instruction f (place_of m) ≡ true
  unfolding instructions
  is_code = (select_in (is_instruction f) (starts_in (records_of f)) (place_of m) in_file).1

  frame_is : All (frame_tests f map (length m.main) (length m.ptr) (running m) (down m.ctl (m.regs.frame - 1)) (looking map m i j))
  frame_is = stack-frame f map (length m.main) (length m.ptr) m.ctl n R.stack

  -- what the instruction takes from the stacks and puts on them
  record Taken : Type 0 where
    pop-main : (effect_of f (here f m)).pop_main ≤ mtop m
    pop-ptr : (effect_of f (here f m)).pop_ptr ≤ ptop m
    push-main : mtop m - (effect_of f (here f m)).pop_main + (effect_of f (here f m)).push_main ≤ length m.main
    push-ptr : ptop m - (effect_of f (here f m)).pop_ptr + (effect_of f (here f m)).push_ptr ≤ length m.ptr

  taken : Taken
  unfolding depth_tests
  taken =
      let D = (rules f map L (place_of m) at_place).depths in
      let P = pops f map L (place_of m) (here f m) at_place refl in
      let F = frame_is in
      let x = ap (greatest_main f) F.1.1.1.1.0 in
      let y = ap (greatest_ptr f) F.1.1.1.1.0 in
      let e1 = R.main_top in
      let e2 = R.ptr_top in
      record { pop-main = omega arith; pop-ptr = omega arith; push-main = omega arith; push-ptr = omega arith }

  based : ((running m).main_base ≡ i) × ((running m).ptr_base ≡ j)
  based = bases f map m A.objects i j n L heap-laws R A.heap (let z = A.sizes in omega arith)

  callee : (k : ℕ) → here f m ≡ call k → k < procs f
  unfolding target_tests
  callee k e = let T = rw e at (rules f map L (place_of m) at_place).targets in T.0

  pub running-ready : StepReady f table m
  running-ready =
      let z = A.sizes in
      let T = taken in
      let F = frame_is in
      let B = based in
      let N = stack-numbers f map (length m.main) (length m.ptr) m.ctl n R.stack in
      let W = running-fits f map L (Pointer A.objects) m n i j R in
      let words = frame-words f map m A.objects i j n L heap-laws R A.heap (omega arith) in
      let e1 = R.main_top in
      let e2 = R.ptr_top in
      let e3 = R.ctl_top in
      record {
        short = A.short;
        code = is_code;
        whole = instruction-whole f L.formed.places L.formed.records (place_of m) in_file;
        few = A.placed.few;
        heads = A.placed.heads;
        bytes = λ n l. head_whole f L.formed.places L.formed.records n;
        callee = callee;
        main_at_most = z.main_at_most;
        ptr_at_most = z.ptr_at_most;
        ctl_at_most = z.ctl_at_most;
        heap_least = z.heap_least;
        heap_at_most = z.heap_at_most;
        main_top = W.0;
        ptr_top = W.1;
        ctl_top = R.room;
        pop-main = T.pop-main;
        pop-ptr = T.pop-ptr;
        push-main = T.push-main;
        push-ptr = T.push-ptr;
        local_main = λ s e. let w = words (local on_main s) e in omega arith;
        local_ptr = λ s e. let w = words (local on_ptr s) e in omega arith;
        assign_main = λ s e. let w = words (assign on_main s) e in omega arith;
        assign_ptr = λ s e. let w = words (assign on_ptr s) e in omega arith;
        frame_some = omega arith;
        frame_in = omega arith;
        objects = A.objects;
        heap = A.heap;
        pointers = R.words.pointers;
      }

pub alive-ready : {f map table : List ℕ} {m : Machine} → Alive f map table m → (m.regs.state ≡ 1 → ⊥) → StepReady f table m
alive-ready A u = let S = alive-running A u in running-ready A S.0 S.1 S.2 S.3
