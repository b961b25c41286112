-- What the code plans for each instruction: its writes or the exception that it raises.
use Rattle.std.specs.Prelude.{ℕ, ◌+◌, ◌-◌, Bool, true, false, Option, Some, None, List, ltb, leb, eqb, length}
use Rattle.model.specs.Choice.{when◌then◌else◌, all}
use Rattle.model.specs.Words.{word_at, truth, bit, operate, operate1}
use Rattle.model.specs.File.{on_main, on_ptr, keep_main, keep_ptr, keep_none, Basic, local, assign, field, set_field, make, form, vector, literal, nil, root}
use Rattle.model.specs.File.{set_root, retract, binary, same_ptr, unary, element, set_element, real_literal, real, real_less, hoop}
use Rattle.model.specs.File.{Ins, basic, jump, branch, branch_keep, call, return, enter, exit, raise, after, entry, ins_of, ins_at, params_main, params_ptr}
use Rattle.model.specs.Heap.{mark_of, root_of, in_ptrs, in_plain, may_set_plain}
use Rattle.model.specs.Vectors.{Element, found, of_nil, nowhere, element_of}
use Rattle.model.specs.Control.{Machine, running, record_words}
use Rattle.model.specs.Moves.{mtop, ptop, main_word, ptr_word}
use Rattle.model.specs.Instructions.{callee_tests}
use Rattle.plan_meaning.specs.declared.Into.{Into}
use Rattle.plan_meaning.specs.declared.Into.TheVariants.{Nothing, Pop, Push, Main, Pointer, Heap, Read, Drop, DropMain, DropPointer, View, Frame, Return, Handler, Close}
use Rattle.plan_meaning.specs.declared.Into.TheVariants.{ReadPointer, Store, WordVector, PtrVector, StoreWord, StorePointer}
use Rattle.plan_meaning.specs.declared.Put.{Put}
use Rattle.plan_meaning.specs.declared.Plan.{Plan}
use Rattle.plan_meaning.specs.declared.Plan.TheVariants.{Write, OutOfRange, NilObject, NoSuchWord, HeapFull, NoRoom, VectorFault, Thrown, Real}

-- the next place, the tops of the main and the pointer stack, and the word that is written into a list at an index
abbrev pub write : Into → ℕ → ℕ → ℕ → ℕ → ℕ → Plan
write i q m p at w = Write (record { into = i; place = q; mtop = m; ptop = p; at = at; word = w })

-- exception 2 for a nil object, then 3 where the word is not in the part asked for, or no store's, else the plan
abbrev pub plan_object : ℕ → Bool → Plan → Plan
plan_object o allowed plan = when eqb o 0 then NilObject else when allowed then plan else NoSuchWord

-- exception 1, or the plan for the word
abbrev pub plan_value : Option ℕ → (ℕ → Plan) → Plan
plan_value (Some w) plan = plan w
plan_value None plan = OutOfRange

-- exception 2 or 6, or the plan for the heap index of the element's word
abbrev pub plan_element : Element → (ℕ → Plan) → Plan
plan_element (found a) plan = plan a
plan_element of_nil plan = NilObject
plan_element nowhere plan = VectorFault

-- exception 4, or a new object of n words in all in the place of a main words and b pointers
abbrev pub plan_new : Machine → ℕ → Into → ℕ → ℕ → ℕ → Plan
plan_new m q i n a b =
    when leb (mark_of m.heap + n) (length m.heap)
    then write i q (mtop m - a) (ptop m - b + 1) (ptop m - b) (mark_of m.heap)
    else HeapFull

-- exception 6 for a negative length, before that
abbrev pub plan_length : ℕ → Plan → Plan
plan_length n plan = when ltb n 2147483648 then plan else VectorFault

-- an instruction that works on words, with q the next place: 20, 21; 22, 23; 30, 31; 32, 33; 36; 80, 81; 54, 56, 57; 58, 59; 60, 62, 64; 130,
-- 140 to 143, 145, 195 to 204; 131; 144, 146; 82, 83; 84, 85 (Manual 4.7 to 4.14, 4.17 to 4.20, 4.28 to 4.30)
unfoldable pub basic_plan : Machine → ℕ → Basic → Plan
basic_plan m q (local on_main s) = write Push q (mtop m + 1) (ptop m) (mtop m) (word_at m.main ((running m).main_base + s))
basic_plan m q (local on_ptr s) = write Pointer q (mtop m) (ptop m + 1) (ptop m) (word_at m.ptr ((running m).ptr_base + s))
basic_plan m q (assign on_main s) = write Main q (mtop m - 1) (ptop m) ((running m).main_base + s) (main_word m 1)
basic_plan m q (assign on_ptr s) = write Pointer q (mtop m) (ptop m - 1) ((running m).ptr_base + s) (ptr_word m 1)
basic_plan m q (field on_main s) =
    plan_object (ptr_word m 1) (in_plain m.heap (ptr_word m 1) s)
    (write Read q (mtop m + 1) (ptop m - 1) (mtop m) (word_at m.heap (ptr_word m 1 + s)))
basic_plan m q (field on_ptr s) =
    plan_object (ptr_word m 1) (in_ptrs m.heap (ptr_word m 1) s)
    (write Pointer q (mtop m) (ptop m) (ptop m - 1) (word_at m.heap (ptr_word m 1 + s)))
basic_plan m q (set_field on_main s) =
    plan_object (ptr_word m 1) (may_set_plain m.heap (ptr_word m 1) s)
    (write Store q (mtop m - 1) (ptop m - 1) (ptr_word m 1 + s) (main_word m 1))
basic_plan m q (set_field on_ptr s) =
    plan_object (ptr_word m 1) (in_ptrs m.heap (ptr_word m 1) s)
    (write Heap q (mtop m) (ptop m - 2) (ptr_word m 1 + s) (ptr_word m 2))
basic_plan m q (make (form k n)) = plan_new m q View (2 + k + n) k n
basic_plan m q (make (vector on_main)) = plan_length (main_word m 2) (plan_new m q WordVector (3 + main_word m 2) 3 0)
basic_plan m q (make (vector on_ptr)) = plan_length (main_word m 1) (plan_new m q PtrVector (3 + main_word m 1) 2 1)
basic_plan m q (literal w) = write Push q (mtop m + 1) (ptop m) (mtop m) w
basic_plan m q nil = write Pointer q (mtop m) (ptop m + 1) (ptop m) 0
basic_plan m q root = write Pointer q (mtop m) (ptop m + 1) (ptop m) (root_of m.heap)
basic_plan m q set_root = write Heap q (mtop m) (ptop m - 1) 1 (ptr_word m 1)
basic_plan m q (retract keep_main k n) = write DropMain q (mtop m - k) (ptop m - n) (mtop m - k - 1) (main_word m 1)
basic_plan m q (retract keep_ptr k n) = write DropPointer q (mtop m - k) (ptop m - n) (ptop m - n - 1) (ptr_word m 1)
basic_plan m q (retract keep_none k n) = write Drop q (mtop m - k) (ptop m - n) 0 0
basic_plan m q (binary o) =
    plan_value (operate o (main_word m 2) (main_word m 1)) (λ w. write Main q (mtop m - 1) (ptop m) (mtop m - 2) w)
basic_plan m q same_ptr = write Read q (mtop m + 1) (ptop m - 2) (mtop m) (bit (eqb (ptr_word m 2) (ptr_word m 1)))
basic_plan m q (unary o) = plan_value (operate1 o (main_word m 1)) (λ w. write Push q (mtop m) (ptop m) (mtop m - 1) w)
basic_plan m q (element on_main) =
    plan_element (element_of on_main m.heap (ptr_word m 1) (main_word m 1))
    (λ a. write Read q (mtop m) (ptop m - 1) (mtop m - 1) (word_at m.heap a))
basic_plan m q (element on_ptr) =
    plan_element (element_of on_ptr m.heap (ptr_word m 1) (main_word m 1))
    (λ a. write ReadPointer q (mtop m - 1) (ptop m) (ptop m - 1) (word_at m.heap a))
basic_plan m q (set_element on_main) =
    plan_element (element_of on_main m.heap (ptr_word m 1) (main_word m 1)) (λ a. write StoreWord q (mtop m - 2) (ptop m - 1) a (main_word m 2))
basic_plan m q (set_element on_ptr) =
    plan_element (element_of on_ptr m.heap (ptr_word m 1) (main_word m 1)) (λ a. write StorePointer q (mtop m - 1) (ptop m - 2) a (ptr_word m 2))
basic_plan m q (real_literal h l) = Real (m.regs.place + 1)
basic_plan m q (real o) = Real (m.regs.place + 1)
basic_plan m q real_less = Real (m.regs.place + 1)
basic_plan m q hoop = Real (m.regs.place + 1)

-- q is the next place. 1 to 6: jumps; 72: the word and the index written are the new frame's bases; 73: back to the return place;
-- 160, 161: the handler's record; 162: its word is raised
unfoldable pub plan_of : List ℕ → Machine → ℕ → Ins → Plan
plan_of f m q (basic b) = basic_plan m q b
plan_of f m q (jump t) = write Nothing t (mtop m) (ptop m) 0 0
plan_of f m q (branch false t) = write Pop (when truth (main_word m 1) then q else t) (mtop m - 1) (ptop m) 0 0
plan_of f m q (branch true t) = write Pop (when truth (main_word m 1) then t else q) (mtop m - 1) (ptop m) 0 0
plan_of f m q (branch_keep false t) =
    when truth (main_word m 1) then write Pop q (mtop m - 1) (ptop m) 0 0 else write Nothing t (mtop m) (ptop m) 0 0
plan_of f m q (branch_keep true t) =
    when truth (main_word m 1) then write Nothing t (mtop m) (ptop m) 0 0 else write Pop q (mtop m - 1) (ptop m) 0 0
plan_of f m q (call n) =
    when all (callee_tests f m n)
    then write Frame (entry f n) (mtop m) (ptop m) (mtop m - params_main f n) (ptop m - params_ptr f n)
    else NoRoom
plan_of f m q return = write Return (running m).returns (mtop m) (ptop m) 0 0
plan_of f m q (enter s) =
    when leb (m.regs.ctop + record_words) (length m.ctl) then write Handler q (mtop m) (ptop m) 0 0 else NoRoom
plan_of f m q exit = write Close q (mtop m) (ptop m) 0 0
plan_of f m q raise = Thrown

-- the plan of the instruction at the machine's place
unfoldable pub plan_at : List ℕ → Machine → Plan
plan_at f m = plan_of f m (after f m.regs.place) (ins_at f m.regs.place)

-- the plan of code k at the machine's place, its record being n bytes long
unfoldable pub planned : List ℕ → Machine → ℕ → ℕ → Plan
planned f m n k = plan_of f m (m.regs.place + n) (ins_of f m.regs.place k)

-- what a return writes, as `plan_of` has it
abbrev pub return_put : Machine → Put
return_put m =
    record { into = Return; place = (running m).returns; mtop = mtop m; ptop = ptop m; at = 0; word = 0 }
