-- What a plan comes to: its writes applied, or its exception raised.
use Rattle.std.specs.Prelude.{ℕ, ◌-◌, List, [], ◌∷◌, eqb, set, replicate}
use Rattle.std.proofs.Math.Seq.{slice}
use Rattle.model.specs.Choice.{when◌then◌else◌}
use Rattle.model.specs.Words.{cut}
use Rattle.model.specs.File.{operand, after, ins_at}
use Rattle.model.specs.Heap.{view_kind, word_vector_kind, ptr_vector_kind, made}
use Rattle.model.specs.Control.{Machine, handler_of, running, record_words, mtop_reg, ptop_reg, ctop_reg, set_reg, set_main, set_ptr, set_ctl, set_heap}
use Rattle.model.specs.Moves.{mtop, ptop, main_word, ptr_word, go_to, in_frame, in_handler, cut_main, cut_ptr, open_frame, open_handler, finished}
use Rattle.model.specs.Instructions.{code_of, out_of_range, nil_object, no_such_word, heap_full, no_room, vector_fault, rule}
use Rattle.model.specs.Step.{Stepped, next, raised, outcome}
use Rattle.plan_meaning.specs.declared.Into.{Into}
use Rattle.plan_meaning.specs.declared.Into.TheVariants.{Nothing, Pop, Push, Main, Pointer, Heap, Read, Drop, DropMain, DropPointer, View, Frame, Return, Handler, Close}
use Rattle.plan_meaning.specs.declared.Into.TheVariants.{ReadPointer, Store, WordVector, PtrVector, StoreWord, StorePointer}
use Rattle.plan_meaning.specs.declared.Put.{Put}
use Rattle.plan_meaning.specs.declared.Plan.{Plan}
use Rattle.plan_meaning.specs.declared.Plan.TheVariants.{Write, OutOfRange, NilObject, NoSuchWord, HeapFull, NoRoom, VectorFault, Thrown, Real}

-- the stacks are cut, and the place is the next one
abbrev pub cut_only : Put → Machine → Machine
cut_only p m = go_to p.place (cut_main p.mtop (cut_ptr p.ptop m))

-- then a word of the main stack is written, of the pointer stack, of the heap
abbrev pub main_set : Put → Machine → Machine
main_set p m = set_main (set (cut p.mtop m.main) p.at p.word) (cut_only p m)

abbrev pub ptr_set : Put → Machine → Machine
ptr_set p m = set_ptr (set (cut p.ptop m.ptr) p.at p.word) (cut_only p m)

abbrev pub heap_set : Put → Machine → Machine
heap_set p m = set_heap (set m.heap p.at p.word) (cut_only p m)

-- 36: the words and pointers that are popped, lowest first
abbrev pub formed_from : Put → Machine → List ℕ
formed_from p m = made view_kind (slice p.at (ptop m) m.ptr) (slice p.mtop (mtop m) m.main) m.heap

-- 80, 81: so many elements as the length, each the initial value, and the lower bound
abbrev pub words_from : Machine → List ℕ
words_from m = made word_vector_kind [] (main_word m 3 ∷ replicate (main_word m 2) (main_word m 1)) m.heap

abbrev pub pointers_from : Machine → List ℕ
pointers_from m = made ptr_vector_kind (replicate (main_word m 1) (ptr_word m 1)) (main_word m 2 ∷ []) m.heap

-- a new object, its index on the pointer stack
abbrev pub new_set : List ℕ → Put → Machine → Machine
new_set h p m = set_heap h (ptr_set p m)

-- 72: a new frame, which the 72 at the machine's place opens
abbrev pub called_by : List ℕ → Put → Machine → Machine
called_by f p m =
    go_to p.place
    (open_frame
    (record {
      main_base = p.at;
      ptr_base = p.word;
      proc = operand f m.regs.place;
      returns = after f m.regs.place;
      caller = m.regs.frame;
    })
    (set_reg mtop_reg p.mtop (set_reg ptop_reg p.ptop m)))

-- the topmost control record goes
abbrev pub pop_rec : Machine → Machine
pop_rec m = set_reg ctop_reg (m.regs.ctop - record_words) (set_ctl (cut (m.regs.ctop - record_words) m.ctl) m)

-- 73: leave the frame; from the first one the machine is finished
abbrev pub returned : Put → Machine → Machine
returned p m = go_to p.place (in_frame (running m).caller (pop_rec m))

-- 160: a handler's record; 161: the innermost handler's record goes. In a sound state that is the topmost record, as the frame's is
-- at 73
abbrev pub opened : Put → Machine → Machine
opened p m =
    go_to p.place
    (open_handler
    (record {
      opened = m.regs.place;
      main_top = mtop m;
      ptr_top = ptop m;
      frame = m.regs.frame;
      outer = m.regs.handler;
    })
    m)

abbrev pub closed : Put → Machine → Machine
closed p m = go_to p.place (in_handler (handler_of m.ctl m.regs.handler).outer (pop_rec m))

-- what a plan writes
unfoldable pub apply_into : List ℕ → Into → Put → Machine → Machine
apply_into f Nothing p m = cut_only p m
apply_into f Pop p m = cut_only p m
apply_into f Push p m = main_set p m
apply_into f Main p m = main_set p m
apply_into f Pointer p m = ptr_set p m
apply_into f Heap p m = heap_set p m
apply_into f Read p m = main_set p m
apply_into f Drop p m = cut_only p m
apply_into f DropMain p m = main_set p m
apply_into f DropPointer p m = ptr_set p m
apply_into f View p m = new_set (formed_from p m) p m
apply_into f Frame p m = called_by f p m
apply_into f Return p m = when eqb m.regs.frame 1 then finished m else returned p m
apply_into f Handler p m = opened p m
apply_into f Close p m = closed p m
apply_into f ReadPointer p m = ptr_set p m
apply_into f Store p m = heap_set p m
apply_into f WordVector p m = new_set (words_from m) p m
apply_into f PtrVector p m = new_set (pointers_from m) p m
apply_into f StoreWord p m = heap_set p m
apply_into f StorePointer p m = heap_set p m

unfoldable pub applied : List ℕ → Put → Machine → Machine
applied f p m = apply_into f p.into p m

-- the exceptions; 162 raises the word that it pops. What an instruction on reals comes to is not split into a plan and its writes
unfoldable pub settle : List ℕ → Machine → Plan → Stepped
settle f m (Write p) = next (applied f p m)
settle f m OutOfRange = raised f m (code_of out_of_range)
settle f m NilObject = raised f m (code_of nil_object)
settle f m NoSuchWord = raised f m (code_of no_such_word)
settle f m HeapFull = raised f m (code_of heap_full)
settle f m NoRoom = raised f m (code_of no_room)
settle f m VectorFault = raised f m (code_of vector_fault)
settle f m Thrown = raised f m (main_word m 1)
settle f m (Real p) = outcome f m (rule f m (after f m.regs.place) (ins_at f m.regs.place))
