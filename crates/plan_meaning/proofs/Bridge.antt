-- What a plan comes to is the step of the model, and its writes suit the lists: one case for each instruction. Asked of the machine is what
-- holds of every sound state that runs (`Apt`).
use Rattle.std.specs.Prelude.{ℕ, zero, suc, ◌+◌, ◌-◌, ◌*◌, ◌≤◌, ◌≡◌, Bool, ◌≢◌, Option, Some, None, set, ltb, leb, eqb}
use Rattle.std.proofs.Math.Path.{refl, ap}
use Rattle.std.proofs.Common.{◌∙◌, leb-true}
use Rattle.std.proofs.Math.Bool.{true, false}
use mathlib.Core.List.{List, [], ◌∷◌}
use native.Mathlib.Omega.{arith}
use Rattle.std.proofs.Math.IntN.{pos, negsuc}
use Rattle.std.proofs.Math.ListN.{length, replicate, length-replicate}
use Rattle.std.proofs.Math.Seq.{length-slice}
use Rattle.std.proofs.lemmas.Bool.{eqb-false}
use Rattle.model.specs.Choice.{when◌then◌else◌, all, all_true}
use Rattle.laws.specs.Choices.{both_true}
use Rattle.laws.specs.Cuts.{cut-same}
use Rattle.model.specs.Words.{signed, truth, operate, operate1, cut}
use Rattle.model.specs.File.{Side, on_main, on_ptr, keep_main, keep_ptr, keep_none, Maker, Basic, local, assign, field, set_field, make, form, vector}
use Rattle.model.specs.File.{maker_pops, literal, nil, root, set_root, retract, binary, same_ptr, unary, element, set_element, real_literal, real, real_less, hoop}
use Rattle.model.specs.File.{Ins, basic, jump, branch, branch_keep, call, return, enter, exit, raise, after, ins_at}
use Rattle.model.specs.Checker.{basic_effect, effect_of}
use Rattle.model.specs.Heap.{mark_of, view_kind, word_vector_kind, ptr_vector_kind, kind_of, ptrs_at, in_ptrs, in_plain, may_set_plain, made}
use Rattle.model.specs.Vectors.{Element, found, of_nil, nowhere, element_of}
use Rattle.model.specs.Control.{Machine, running, records, record_words}
use Rattle.model.specs.Moves.{mtop, ptop, main_word, ptr_word, main_words, ptr_words, go_to, in_frame, pop_main, pop_ptr, push_new, finished}
use Rattle.model.specs.Instructions.{code_of, nil_object, no_such_word, heap_full, no_room, Result, done, throws, fails, and_go, on_value, on_object, on_element}
use Rattle.model.specs.Instructions.{New, object, of_length, new_of, on_new, makes, callee_tests, basic_rule, rule}
use Rattle.model.specs.Step.{next, outcome, instruct, step}
use Rattle.laws_file.specs.Codes.{on_reals?, is_real?, call-byte, callee-is, call-after}
use Rattle.plan_meaning.specs.declared.Into.TheVariants.{Nothing, Pop, View, WordVector, PtrVector}
use Rattle.plan_meaning.specs.declared.Into.{Into}
use Rattle.plan_meaning.specs.declared.Put.{Put}
use Rattle.plan_meaning.specs.declared.Plan.{Plan}
use Rattle.plan_meaning.specs.declared.Plan.TheVariants.{NilObject, NoSuchWord, HeapFull, VectorFault, Real}
use Rattle.plan_meaning.specs.Planned.{basic_plan, plan_of, plan_at}
use Rattle.plan_meaning.specs.Planned as plan
use Rattle.plan_meaning.specs.Settled.{new_set, pop_rec, returned, apply_into, applied, settle}
use Rattle.plan_meaning.specs.Suits.{Pops, Suits, Suited}
use Rattle.plan_meaning.specs.Bridge.{Apt}

-- a word that is set may have been popped before
over : (l : List ℕ) (t w : ℕ) → set (cut (suc t) l) t w ≡ set (cut t l) t w
unfolding cut
over [] t w = refl
over (v ∷ l) zero w = refl
over (v ∷ l) (suc t) w = ap (λ (k : List ℕ). v ∷ k) (over l t w)

-- the word of a new top: at is under it
set-over : (l : List ℕ) (u at t w : ℕ) → at ≡ t → u ≡ suc t → set (cut u l) at w ≡ set (cut t l) t w
set-over l u at t w e d = rw (e, d) (over l t w)

-- a word that 32 may store in is a plain word
plain-set : (h : List ℕ) (o s : ℕ) → may_set_plain h o s ≡ true → in_plain h o s ≡ true
unfolding may_set_plain
plain-set h o s e = (both_true (in_plain h o s) ((kind_of h o).set_plain (s - (2 + ptrs_at h o))) e).0

-- the tops, the stacks and the heap are the same, the rest is the machine's
same : {q fr h mt mt' pt pt' c s : ℕ} {main main' ptr ptr' ctl heap : List ℕ} → mt ≡ mt' → pt ≡ pt' → main ≡ main' → ptr ≡ ptr' →
    next (record { regs = record { place = q; frame = fr; handler = h; mtop = mt; ptop = pt; ctop = c; state = s }; main = main; ptr = ptr; ctl = ctl; heap = heap })
    ≡ next (record { regs = record { place = q; frame = fr; handler = h; mtop = mt'; ptop = pt'; ctop = c; state = s }; main = main'; ptr = ptr'; ctl = ctl; heap = heap })
same {q} {fr} {h} {c} {s} {ctl} {heap} a b d e i =
    next (record { regs = record { place = q; frame = fr; handler = h; mtop = a i; ptop = b i; ctop = c; state = s }; main = d i; ptr = e i; ctl = ctl; heap = heap })

module _ (f : List ℕ) (m : Machine) (q : ℕ) where
  -- a plan comes to what the rule says, and its writes suit the lists
  record Comes (p : Plan) (r : Result) : Type 0 where
    to : settle f m p ≡ outcome f m r
    suits : Suited f m p

  comes : {p : Plan} {r : Result} → settle f m p ≡ outcome f m r → Suited f m p → Comes p r
  comes e s = record { to = e; suits = s }

  on-value : (v : Option ℕ) (p : ℕ → Plan) (r : ℕ → Result) → ((w : ℕ) → Comes (p w) (and_go q (r w))) →
      Comes (plan.plan_value v p) (and_go q (on_value v r))
  unfolding settle
  on-value (Some w) p r k = k w
  on-value None p r k = comes refl tt

  on-object : (o : ℕ) (t u : Bool) (p : Plan) (m' : Machine) → (o ≢ 0 → u ≡ t) → (o ≢ 0 → t ≡ true → Comes p (and_go q (done m'))) →
      Comes (plan.plan_object o t p) (and_go q (on_object o u m'))
  unfolding settle
  on-object o t u p m' d k = go (eqb o 0) refl
    where
      found : o ≢ 0 → (v : Bool) → t ≡ v → Comes (when v then p else NoSuchWord) (and_go q (when v then done m' else fails no_such_word))
      found n true e = k n e
      found n false e = comes refl tt

      go : (v : Bool) → eqb o 0 ≡ v →
          Comes (when v then NilObject else when t then p else NoSuchWord)
          (and_go q (when v then fails nil_object else when u then done m' else fails no_such_word))
      go true e = comes refl tt
      go false e = let n = eqb-false o 0 e in rw (d n) (found n t refl)

  on_test : (t : Bool) (p other : Plan) (m' : Machine) (code : ℕ) → Comes other (throws code) → (t ≡ true → Comes p (done m')) →
      Comes (when t then p else other) (when t then done m' else throws code)
  on_test true p other m' code e k = k refl
  on_test false p other m' code e k = e

  -- at most so many words go
  gone : {a b : ℕ} {put : Put} → mtop m ≤ put.mtop + a → ptop m ≤ put.ptop + b → Pops a b m.regs put
  gone h k = record { main = h; ptr = k }

  module _ (x : Ins) (A : Apt f m x) where
    main-same : cut (mtop m) m.main ≡ m.main
    main-same = cut-same (mtop m) m.main A.main_zero

    ptr-same : cut (ptop m) m.ptr ≡ m.ptr
    ptr-same = cut-same (ptop m) m.ptr A.ptr_zero

    -- a word pushed
    main-push : (w : ℕ) → set (cut (mtop m + 1) m.main) (mtop m) w ≡ set m.main (mtop m) w
    main-push w =
        ap (λ (l : List ℕ). set l (mtop m) w) (cut-same (mtop m + 1) m.main (λ i h. A.main_zero i (omega arith)))

    ptr-push : (w : ℕ) → set (cut (ptop m + 1) m.ptr) (ptop m) w ≡ set m.ptr (ptop m) w
    ptr-push w = ap (λ (l : List ℕ). set l (ptop m) w) (cut-same (ptop m + 1) m.ptr (λ i h. A.ptr_zero i (omega arith)))

  element-comes : (e : Element) (p : ℕ → Plan) (r : ℕ → Result) → ((a : ℕ) → e ≡ found a → Comes (p a) (and_go q (r a))) →
      Comes (plan.plan_element e p) (and_go q (on_element e r))
  unfolding settle
  element-comes (found a) p r k = k a refl
  element-comes of_nil p r k = comes refl tt
  element-comes nowhere p r k = comes refl tt

  -- what is written for a new object
  abbrev new_put : Maker → Into → Put
  new_put k i =
      record {
        into = i;
        place = q;
        mtop = mtop m - (maker_pops k).0;
        ptop = ptop m - (maker_pops k).1 + 1;
        at = ptop m - (maker_pops k).1;
        word = mark_of m.heap;
      }

  -- a new object of n words in all
  new-comes : (k : Maker) (i : Into) (kind n : ℕ) (ps ws : List ℕ) → 2 + (length ps + length ws) ≡ n →
      apply_into f i (new_put k i) m ≡ new_set (made kind ps ws m.heap) (new_put k i) m →
      (mark_of m.heap + n ≤ length m.heap → Suits f i (new_put k i) m) →
      Comes (plan.plan_new m q i n (maker_pops k).0 (maker_pops k).1) (and_go q (on_new m k (object kind ps ws)))
  unfolding settle applied
  new-comes k i kind n ps ws e d s = rw e (go (leb (mark_of m.heap + n) (length m.heap)) refl)
    where
      r : Machine
      r = push_new kind ps ws (pop_main (maker_pops k).0 (pop_ptr (maker_pops k).1 m))

      go : (t : Bool) → leb (mark_of m.heap + n) (length m.heap) ≡ t →
          Comes (when t then plan.write i q (mtop m - (maker_pops k).0) (ptop m - (maker_pops k).1 + 1) (ptop m - (maker_pops k).1) (mark_of m.heap) else HeapFull)
          (and_go q (when t then done r else fails heap_full))
      go true u =
          comes (ap next d ∙ same refl refl refl (set-over m.ptr _ _ _ _ refl (omega arith))) (s (leb-true (mark_of m.heap + n) (length m.heap) u))
      go false u = comes refl tt

  -- a view: its size is the number of words popped, and two
  form-comes : (k n : ℕ) → Apt f m (basic (make (form k n))) →
      Comes (basic_plan m q (make (form k n))) (and_go q (basic_rule m (make (form k n))))
  unfolding basic_plan basic_rule makes new_of maker_pops apply_into basic_effect effect_of
  form-comes k n A =
      let a = A.pop-main in
      let b = A.pop-ptr in
      let c = A.push-ptr in
      let lp : length (ptr_words m n) ≡ n = length-slice (ptop m - n) (ptop m) m.ptr A.ptr_fits ∙ omega arith in
      let lm : length (main_words m k) ≡ k = length-slice (mtop m - k) (mtop m) m.main A.main_fits ∙ omega arith in
      new-comes (form k n) View view_kind (2 + k + n) (ptr_words m n) (main_words m k) (omega (arith, lp, lm)) refl
      (λ r. record { words = omega arith; pointers = omega arith; below = omega arith; room = omega arith })

  -- a vector of n elements, if n is no negative number
  length-comes : (k : Maker) (n : ℕ) (p : Plan) (new : ℕ → New) → Comes p (and_go q (on_new m k (new n))) →
      Comes (plan.plan_length n p) (and_go q (on_new m k (of_length (signed n) new)))
  unfolding signed settle
  length-comes k n p new c = go (ltb n 2147483648)
    where
      go : (t : Bool) → Comes (when t then p else VectorFault) (and_go q (on_new m k (of_length (when t then pos n else negsuc (4294967295 - n)) new)))
      go true = c
      go false = comes refl tt

  vector-comes : (d : Side) → Apt f m (basic (make (vector d))) → Comes (basic_plan m q (make (vector d))) (and_go q (basic_rule m (make (vector d))))
  unfolding basic_plan basic_rule makes new_of maker_pops apply_into basic_effect effect_of
  vector-comes on_main A =
      let a = A.pop-main in
      let b = A.push-ptr in
      let n = main_word m 2 in
      length-comes (vector on_main) n _ _
      (new-comes (vector on_main) WordVector word_vector_kind (3 + n) [] (main_word m 3 ∷ replicate n (main_word m 1))
      (omega (arith, length-replicate n (main_word m 1))) refl
      (λ r. record { words = a; pointers = omega arith; below = omega arith; room = r }))
  vector-comes on_ptr A =
      let a = A.pop-main in
      let b = A.pop-ptr in
      let c = A.push-ptr in
      let n = main_word m 1 in
      length-comes (vector on_ptr) n _ _
      (new-comes (vector on_ptr) PtrVector ptr_vector_kind (3 + n) (replicate n (ptr_word m 1)) (main_word m 2 ∷ [])
      (omega (arith, length-replicate n (ptr_word m 1))) refl
      (λ r. record { words = a; pointers = b; below = omega arith; room = r }))

  -- an instruction on reals: what it comes to is the rule itself
  real-comes : (b : Basic) → on_reals? b ≡ true → after f m.regs.place ≡ q → ins_at f m.regs.place ≡ basic b → Apt f m (basic b) →
      Comes (Real (m.regs.place + 1)) (and_go q (basic_rule m b))
  unfolding settle rule
  real-comes b r d e A =
      comes (rw d (ap (λ i. outcome f m (rule f m q i)) e))
      (record { real = ap is_real? e ∙ r; body = refl; inside = A.in_file; pops = rw e A.pop-main; pushes = rw e A.push-main })

  basic-comes : (b : Basic) → after f m.regs.place ≡ q → ins_at f m.regs.place ≡ basic b → Apt f m (basic b) → Comes (basic_plan m q b) (and_go q (basic_rule m b))
  unfolding basic_plan basic_rule settle applied apply_into basic_effect effect_of
  basic-comes (local on_main s) d e A =
      let h = A.push-main in
      comes (same refl refl (main-push _ A _) (ptr-same _ A)) (omega arith, gone (omega arith) (omega arith))
  basic-comes (local on_ptr s) d e A =
      let h = A.push-ptr in
      comes (same refl refl (main-same _ A) (ptr-push _ A _)) (omega arith, gone (omega arith) (omega arith))
  basic-comes (assign on_main s) d e A =
      let b = A.pop-main in
      let h = A.assign_main s refl in
      let l = A.main_fits in
      comes (same refl refl refl (ptr-same _ A)) (omega arith, omega arith, gone (omega arith) (omega arith))
  basic-comes (assign on_ptr s) d e A =
      let h = A.assign_ptr s refl in
      let l = A.ptr_fits in
      comes (same refl refl (main-same _ A) refl) (omega arith, gone (omega arith) (omega arith))
  basic-comes (field on_main s) d e A =
      let b = A.pop-ptr in
      let h = A.push-main in
      on-object (ptr_word m 1) (in_plain m.heap (ptr_word m 1) s) _ _ _ (λ u. refl)
      (λ u v. comes (same refl refl (main-push _ A _) refl) (omega arith, omega arith, gone (omega arith) (omega arith)))
  basic-comes (field on_ptr s) d e A =
      let k = A.pop-ptr in
      let l = A.ptr_fits in
      on-object (ptr_word m 1) (in_ptrs m.heap (ptr_word m 1) s) _ _ _ (λ u. refl)
      (λ u v. comes (same refl (omega arith) (main-same _ A) (set-over m.ptr _ _ _ _ refl (omega arith)))
      (omega arith, gone (omega arith) (omega arith)))
  basic-comes (set_field on_main s) d e A =
      let h = A.pop-main in
      let k = A.pop-ptr in
      on-object (ptr_word m 1) (may_set_plain m.heap (ptr_word m 1) s) _ _ _ (λ u. refl)
      (λ u v. comes refl (A.plain_in s u (plain-set m.heap (ptr_word m 1) s v), omega arith, omega arith, gone (omega arith) (omega arith)))
  basic-comes (set_field on_ptr s) d e A =
      let h = A.pop-main in
      let k = A.pop-ptr in
      on-object (ptr_word m 1) (in_ptrs m.heap (ptr_word m 1) s) _ _ _ (A.may_ptr s)
      (λ u v. comes (same refl refl (main-same _ A) refl) (A.ptr_in s u v, omega arith, gone (omega arith) (omega arith)))
  basic-comes (make (form k n)) d e A = form-comes k n A
  basic-comes (make (vector v)) d e A = vector-comes v A
  basic-comes (literal w) d e A =
      let h = A.push-main in
      comes (same refl refl (main-push _ A _) (ptr-same _ A)) (omega arith, gone (omega arith) (omega arith))
  basic-comes nil d e A =
      let h = A.push-ptr in
      comes (same refl refl (main-same _ A) (ptr-push _ A _)) (omega arith, gone (omega arith) (omega arith))
  basic-comes root d e A =
      let h = A.push-ptr in
      comes (same refl refl (main-same _ A) (ptr-push _ A _)) (omega arith, gone (omega arith) (omega arith))
  basic-comes set_root d e A =
      let b = A.pop-ptr in
      let h = A.root_in in
      comes (same refl refl (main-same _ A) refl) (omega arith, omega arith, gone (omega arith) (omega arith))
  basic-comes (retract keep_main k n) d e A =
      let h = A.pop-main in
      let l = A.main_fits in
      comes (same (omega arith) refl (set-over m.main _ _ _ _ (omega arith) (omega arith)) refl)
      (omega arith, record { main = omega arith; ptr = omega arith })
  basic-comes (retract keep_ptr k n) d e A =
      let h = A.pop-ptr in
      let l = A.ptr_fits in
      comes (same refl (omega arith) refl (set-over m.ptr _ _ _ _ (omega arith) (omega arith)))
      (omega arith, record { main = omega arith; ptr = omega arith })
  basic-comes (retract keep_none k n) d e A = comes refl (record { main = omega arith; ptr = omega arith })
  basic-comes (binary o) d e A =
      let h = A.pop-main in
      let l = A.main_fits in
      on-value (operate o (main_word m 2) (main_word m 1)) _ _
      (λ w. comes (same (omega arith) refl (set-over m.main _ _ _ _ refl (omega arith)) (ptr-same _ A))
      (omega arith, omega arith, gone (omega arith) (omega arith)))
  basic-comes same_ptr d e A =
      let b = A.pop-ptr in
      let h = A.push-main in
      comes (same refl refl (main-push _ A _) refl) (omega arith, omega arith, gone (omega arith) (omega arith))
  basic-comes (unary o) d e A =
      let h = A.pop-main in
      let l = A.main_fits in
      on-value (operate1 o (main_word m 1)) _ _
      (λ w. comes (same (omega arith) refl (set-over m.main _ _ _ _ refl (omega arith)) (ptr-same _ A))
      (omega arith, gone (omega arith) (omega arith)))
  basic-comes (element on_main) d e A =
      let b = A.pop-ptr in
      let h = A.pop-main in
      let k = A.main_fits in
      element-comes (element_of on_main m.heap (ptr_word m 1) (main_word m 1)) _ _
      (λ a e. comes (same (omega arith) refl (set-over m.main _ _ _ _ refl (omega arith)) refl) (omega arith, omega arith, gone (omega arith) (omega arith)))
  basic-comes (element on_ptr) d e A =
      let h = A.pop-main in
      let k = A.pop-ptr in
      let l = A.ptr_fits in
      element-comes (element_of on_ptr m.heap (ptr_word m 1) (main_word m 1)) _ _
      (λ a e. comes (same refl (omega arith) refl (set-over m.ptr _ _ _ _ refl (omega arith)))
      (omega arith, omega arith, gone (omega arith) (omega arith)))
  basic-comes (set_element on_main) d e A =
      let h = A.pop-main in
      let k = A.pop-ptr in
      element-comes (element_of on_main m.heap (ptr_word m 1) (main_word m 1)) _ _
      (λ a e. comes refl (A.element_within on_main a e, omega arith, omega arith, gone (omega arith) (omega arith)))
  basic-comes (set_element on_ptr) d e A =
      let h = A.pop-main in
      let k = A.pop-ptr in
      element-comes (element_of on_ptr m.heap (ptr_word m 1) (main_word m 1)) _ _
      (λ a e. comes refl (A.element_within on_ptr a e, omega arith, omega arith, gone (omega arith) (omega arith)))
  basic-comes (real_literal h l) d e A = real-comes (real_literal h l) refl d e A
  basic-comes (real o) d e A = real-comes (real o) refl d e A
  basic-comes real_less d e A = real-comes real_less refl d e A
  basic-comes hoop d e A = real-comes hoop refl d e A

  both : (g : Bool → Plan) (r : Bool → Machine) → Comes (g true) (done (r true)) → Comes (g false) (done (r false)) →
      (t : Bool) → Comes (g t) (done (r t))
  both g r a b true = a
  both g r a b false = b

  -- the two ways of a branch: the word popped, or nothing changed
  module _ (x : Ins) (A : Apt f m x) (t : ℕ) where
    popped : 1 ≤ mtop m → Comes (plan.write Pop t (mtop m - 1) (ptop m) 0 0) (done (go_to t (pop_main 1 m)))
    unfolding settle applied apply_into
    popped h = comes (same refl refl refl (ptr-same x A)) (omega arith, gone (omega arith) (omega arith))

    stayed : Comes (plan.write Nothing t (mtop m) (ptop m) 0 0) (done (go_to t m))
    unfolding settle applied apply_into
    stayed = comes (same refl refl (main-same x A) (ptr-same x A)) (gone (omega arith) (omega arith))

  agrees : (x : Ins) → (after f m.regs.place ≡ q) → ins_at f m.regs.place ≡ x → Apt f m x → Comes (plan_of f m q x) (rule f m q x)
  unfolding plan_of rule settle applied apply_into effect_of
  agrees (basic b) d e A = basic-comes b d e A
  agrees (jump t) d e A = stayed _ A t
  agrees (branch false t) d e A = popped _ A _ A.pop-main
  agrees (branch true t) d e A = popped _ A _ A.pop-main
  agrees (branch_keep false t) d e A =
      both (λ u. when u then plan.write Pop q (mtop m - 1) (ptop m) 0 0 else plan.write Nothing t (mtop m) (ptop m) 0 0)
      (λ u. when u then go_to q (pop_main 1 m) else go_to t m)
      (popped _ A q A.pop-main)
      (stayed _ A t)
      (truth (main_word m 1))
  agrees (branch_keep true t) d e A =
      both (λ u. when u then plan.write Nothing t (mtop m) (ptop m) 0 0 else plan.write Pop q (mtop m - 1) (ptop m) 0 0)
      (λ u. when u then go_to t m else go_to q (pop_main 1 m))
      (stayed _ A t)
      (popped _ A q A.pop-main)
      (truth (main_word m 1))
  agrees (call n) d e A =
      let b = call-after f m.regs.place (call-byte f m.regs.place n e) in
      let w = A.in_file in
      on_test (all (callee_tests f m n)) _ _ _ (code_of no_room) (comes refl tt)
      (λ u. let T = all_true (callee_tests f m n) u in
      comes (rw (d, callee-is f m.regs.place n e)) (record { operand = omega arith; behind = b; base = omega arith; room = T.1.1.0 }))
  agrees return d e A =
      let w = A.whole in
      let c : record_words * (records m - 1) ≡ m.regs.ctop - record_words = omega arith in
      comes (rw c (left (eqb m.regs.frame 1))) tt
    where
      left : (t : Bool) →
          next (when t then finished m else returned (plan.return_put m) m)
          ≡ next (when t then finished m else go_to (running m).returns (in_frame (running m).caller (pop_rec m)))
      left t = refl
  agrees (enter s) d e A =
      on_test (leb (m.regs.ctop + record_words) (length m.ctl)) _ _ _ (code_of no_room) (comes refl tt)
      (λ u. comes refl (leb-true (m.regs.ctop + record_words) (length m.ctl) u))
  agrees exit d e A =
      let w = A.whole in
      let c : record_words * (records m - 1) ≡ m.regs.ctop - record_words = omega arith in
      comes (rw c refl) (A.handler_top refl)
  agrees raise d e A = comes refl A.pop-main

module _ (f : List ℕ) (m : Machine) (A : Apt f m (ins_at f m.regs.place)) where
  here : Comes f m (after f m.regs.place) (plan_at f m) (rule f m (after f m.regs.place) (ins_at f m.regs.place))
  unfolding plan_at
  here = agrees f m (after f m.regs.place) (ins_at f m.regs.place) refl refl A

  -- the plan comes to the step
  pub bridge : settle f m (plan_at f m) ≡ step f m
  unfolding step instruct
  bridge = here.to

  -- and its writes suit the lists
  pub suited : Suited f m (plan_at f m)
  suited = here.suits
