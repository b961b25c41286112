-- What the machine gives when it plans a step, `StepReady`: of a file that the checker passed and a sound state of it.
use Rattle.std.specs.Prelude.{ℕ, ◌+◌, ◌-◌, ◌*◌, ◌<◌, ◌≤◌, true, List, ◌≡◌, length, get_or}
use Rattle.model.specs.Words.{word_at}
use Rattle.model.specs.File.{Ins, basic, local, assign, on_main, on_ptr, call, after, is_instruction, procs, head_of, ins_at, file_most, procs_most}
use Rattle.model.specs.Checker.{effect_of}
use Rattle.model.specs.Heap.{Heap, Pointer}
use Rattle.model.specs.Control.{Machine, running, record_words}
use Rattle.model.specs.Moves.{mtop, ptop}
use Rattle.model.specs.Calls.{main_most, ptr_most, ctl_most, heap_most}

-- where the machine is
abbrev pub place_of : Machine → ℕ
place_of m = m.regs.place

abbrev pub here : List ℕ → Machine → Ins
here f m = ins_at f (place_of m)

pub record StepReady (f table : List ℕ) (m : Machine) : Type 0 where
  -- refusal 1: the file has at most 4,096 bytes
  pub short : length f ≤ file_most
  -- the place is an instruction's: refusal 12; and the records are whole: refusal 3
  pub code : is_instruction f (place_of m) ≡ true
  pub whole : after f (place_of m) ≤ length f
  -- the table holds the heads, each of six bytes and its kind: refusals 3 and 4
  pub few : procs f ≤ procs_most
  pub heads : (n : ℕ) → n < procs_most → get_or table n 0 ≡ head_of f n
  pub bytes : (n : ℕ) → n < procs f → head_of f n + 6 < length f
  -- a call names a procedure: refusal 5
  pub callee : (n : ℕ) → here f m ≡ call n → n < procs f
  -- the lists have at most these lengths, the heap at least its mark and root: refusal 10
  pub main_at_most : length m.main ≤ main_most
  pub ptr_at_most : length m.ptr ≤ ptr_most
  pub ctl_at_most : length m.ctl ≤ ctl_most
  pub heap_least : 2 ≤ length m.heap
  pub heap_at_most : length m.heap ≤ heap_most
  -- a top is the frame's base with a depth that is at most the procedure's, and the frame fits the list
  pub main_top : mtop m ≤ length m.main
  pub ptr_top : ptop m ≤ length m.ptr
  pub ctl_top : m.regs.ctop ≤ length m.ctl
  -- what the instruction pops is in the frame, and what it pushes fits it: refusal 7
  pub pop-main : (effect_of f (here f m)).pop_main ≤ mtop m
  pub pop-ptr : (effect_of f (here f m)).pop_ptr ≤ ptop m
  pub push-main : mtop m - (effect_of f (here f m)).pop_main + (effect_of f (here f m)).push_main ≤ length m.main
  pub push-ptr : ptop m - (effect_of f (here f m)).pop_ptr + (effect_of f (here f m)).push_ptr ≤ length m.ptr
  -- so is the frame word that it names: refusal 7
  pub local_main : (s : ℕ) → here f m ≡ basic (local on_main s) → (running m).main_base + s < mtop m
  pub local_ptr : (s : ℕ) → here f m ≡ basic (local on_ptr s) → (running m).ptr_base + s < ptop m
  pub assign_main : (s : ℕ) → here f m ≡ basic (assign on_main s) → (running m).main_base + s < mtop m - 1
  pub assign_ptr : (s : ℕ) → here f m ≡ basic (assign on_ptr s) → (running m).ptr_base + s < ptop m - 1
  -- the running frame has a record: refusal 12
  pub frame_some : 1 ≤ m.regs.frame
  pub frame_in : record_words * m.regs.frame ≤ m.regs.ctop
  -- the heap is sound with these objects, and the pointer stack's words are pointers: refusals 11 and 12
  pub objects : List ℕ
  pub heap : Heap m.heap objects
  pub pointers : (i : ℕ) → Pointer objects (word_at m.ptr i)
