-- What is asked of the machine where a plan is to come to the step of the model (proofs/Bridge.antt): it holds of every sound state that runs.
use Rattle.std.specs.Prelude.{ℕ, ◌+◌, ◌-◌, ◌*◌, ◌<◌, ◌≤◌, ◌≡◌, ◌≢◌}
use Rattle.std.proofs.Math.Bool.{true}
use mathlib.Core.List.{List}
use Rattle.std.proofs.Math.ListN.{length}
use Rattle.model.specs.Words.{word_at}
use Rattle.model.specs.File.{Side, on_main, on_ptr, assign}
use Rattle.model.specs.File.{Ins, basic, exit, after}
use Rattle.model.specs.Checker.{effect_of}
use Rattle.model.specs.Heap.{in_ptrs, in_plain, may_set_ptr}
use Rattle.model.specs.Vectors.{found, element_of}
use Rattle.model.specs.Control.{Machine, running, records, record_words}
use Rattle.model.specs.Moves.{mtop, ptop, main_word, ptr_word}

-- what is asked of the machine, at the instruction x: all of it holds of every sound state that runs
pub record Apt (f : List ℕ) (m : Machine) (x : Ins) : Type 0 where
  -- what it pops is there, and what it pushes fits
  pub pop-main : (effect_of f x).pop_main ≤ mtop m
  pub pop-ptr : (effect_of f x).pop_ptr ≤ ptop m
  pub push-main : mtop m - (effect_of f x).pop_main + (effect_of f x).push_main ≤ length m.main
  pub push-ptr : ptop m - (effect_of f x).pop_ptr + (effect_of f x).push_ptr ≤ length m.ptr
  -- the tops lie in the lists, and the words above them are 0
  pub main_fits : mtop m ≤ length m.main
  pub ptr_fits : ptop m ≤ length m.ptr
  pub main_zero : (i : ℕ) → mtop m ≤ i → word_at m.main i ≡ 0
  pub ptr_zero : (i : ℕ) → ptop m ≤ i → word_at m.ptr i ≡ 0
  -- the frame word that 22 or 23 names
  pub assign_main : (s : ℕ) → x ≡ basic (assign on_main s) → (running m).main_base + s < mtop m
  pub assign_ptr : (s : ℕ) → x ≡ basic (assign on_ptr s) → (running m).ptr_base + s < ptop m
  -- the topmost pointer, if it is not nil, is an object whose pointer words 33 may store in; its words lie in the heap, as the root does, and
  -- so does an element that is found
  pub may_ptr : (s : ℕ) → ptr_word m 1 ≢ 0 → may_set_ptr m.heap (ptr_word m 1) s ≡ in_ptrs m.heap (ptr_word m 1) s
  pub plain_in : (s : ℕ) → ptr_word m 1 ≢ 0 → in_plain m.heap (ptr_word m 1) s ≡ true → ptr_word m 1 + s < length m.heap
  pub ptr_in : (s : ℕ) → ptr_word m 1 ≢ 0 → in_ptrs m.heap (ptr_word m 1) s ≡ true → ptr_word m 1 + s < length m.heap
  pub element_within : (d : Side) (a : ℕ) → element_of d m.heap (ptr_word m 1) (main_word m 1) ≡ found a → a < length m.heap
  pub root_in : 2 ≤ length m.heap
  -- the instruction is not cut short; the control records are whole; at a 161 the topmost is the innermost handler's
  pub in_file : after f m.regs.place ≤ length f
  pub whole : m.regs.ctop ≡ record_words * records m
  pub handler_top : x ≡ exit → m.regs.handler ≡ records m
