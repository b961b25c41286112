-- What an instruction's rule leaves at a sound state is sound, its heap too, and the lists are as long as they were: the rule leads where
-- the checker passes the state on, with the tops that the map has there. Each change that a rule is made of keeps the lists in order;
-- then one case for each instruction.
use Rattle.std.specs.Prelude.{ℕ, ◌+◌, ◌-◌, ◌*◌, ◌<◌, ◌≤◌, ◌≡◌, Bool, ◌≢◌, Option, Some, None, Float, ℤ, pos, negsuc, set, leb}
use Rattle.std.proofs.Math.Path.{refl, subst}
use Rattle.std.proofs.Common.{ap, ◌∙◌, true≢false, inr, arith, length-set, eq-eqb, leb-true, le-leb, ltb-true}
use Rattle.std.proofs.Math.Bool.{true, false}
use mathlib.Core.List.{List, [], ◌∷◌}
use Rattle.std.proofs.Math.Logic.{inl}
use Rattle.std.proofs.Math.ListN.{length, replicate}
use Rattle.std.proofs.Math.Dec.{eqb}
use Rattle.std.proofs.lemmas.Bool.{eqb-false}
use Rattle.model.specs.Choice.{when◌then◌else◌, all, All, all_true, Mem}
use Rattle.model.specs.Reals.{words_of, all_finite, operate_reals, reals_of, scaled, shifted}
use Rattle.model.specs.Words.{signed, word_at, truth, operate, operate1}
use Rattle.model.specs.File.{Side, on_main, on_ptr, keep_main, keep_ptr, keep_none, Basic, local, assign, field, set_field, Maker, form, vector, maker_pops, make}
use Rattle.model.specs.File.{literal, nil, root, set_root, retract, binary, same_ptr, unary, element, set_element, real_literal, real, real_less, hoop}
use Rattle.model.specs.File.{Ins, basic, jump, branch, branch_keep, call, return, enter, exit, raise, after, ins_at}
use Rattle.model.specs.Checker.{State, effect, basic_effect, effect_of, moved, innermost, passes, word_tests, depth_tests}
use Rattle.model.specs.Vectors.{Element, found, of_nil, nowhere, element_of}
use Rattle.model.specs.Heap.{Heap, Pointer, mark_of, view_kind, word_vector_kind, ptr_vector_kind, kinds, kind_in, in_ptrs, in_plain, may_set_plain, may_set_ptr, made, clean, heap_of}
use Rattle.model.specs.Control.{Machine, handler_of, running, records, record_words, place_reg, mtop_reg, ptop_reg, set_reg, set_main, set_ptr, set_heap}
use Rattle.model.specs.Moves.{mtop, ptop, main_word, ptr_word, main_words, ptr_words, main_real, main_point, go_to, pop_main, pop_ptr, push_main, push_words, push_ptr, store_main, store_ptr}
use Rattle.model.specs.Moves.{store_heap, push_new, close_frame, finished}
use Rattle.model.specs.Instructions.{out_of_range, nil_object, no_such_word, heap_full, Result, done, throws, fails, and_go, on_object, on_element, on_value, on_reals, on_room, New, object}
use Rattle.model.specs.Instructions.{of_length, new_of, on_new, makes, callee_tests, basic_rule, rule}
use Rattle.model.specs.Step.{next, uncaught, outcome, raised, caught, instruct, step}
use Rattle.model.specs.Sound.{main_at, inner_at, is_ins}
use Rattle.model.specs.Claim.{assigned}
use Rattle.laws.specs.Choices.{both_true}
use Rattle.laws.specs.Cuts.{Zero, Each, length_cut, cut-zero, cut-each, set-zero, set-each, slice-each, replicate-each}
use Rattle.laws.specs.Records.{length-put}
use Rattle.heap.specs.Pointers.{is-object}
use Rattle.heap.specs.Vectors.{Found, is_found, word_set, ptr-set, ptr-element}
use Rattle.theory_state.specs.Stack.{stack-frame}
use Rattle.theory_state.specs.Laws.{CodeLaws, leads-on, pops, rules}
use Rattle.theory_state.specs.Sound.{Running, Sound}
use Rattle.theory_state.specs.Keep.{Controlled, running-here, keep-plain, keep-call, keep-return, keep-enter, keep_exit, keep-raise}

-- an object in the place of free words of the heap h: h' with its objects, the old pointers, and the new one
pub record Formed (h os h' : List ℕ) : Type 0 where
  pub objects : List ℕ
  pub heap : Heap h' objects
  pub old : (v : ℕ) → Pointer os v → Pointer objects v
  pub new : Pointer objects (mark_of h)
  pub same_length : length h' ≡ length h

-- what is proved of heaps elsewhere: the audit is exact; a store in an object or the root, and a new object that is right by its row of
-- the table of kinds, keep the heap sound
pub record HeapLaws : Type 0 where
  pub audit_clean : (h os : List ℕ) → heap_of h ≡ clean os → Heap h os
  pub clean_audit : (h os : List ℕ) → Heap h os → heap_of h ≡ clean os
  pub plain_store : (h os : List ℕ) (q s w : ℕ) → Heap h os → Mem q os → may_set_plain h q s ≡ true → Heap (set h (q + s) w) os
  pub ptr_store : (h os : List ℕ) (q s v : ℕ) → Heap h os → Mem q os → may_set_ptr h q s ≡ true → Pointer os v → Heap (set h (q + s) v) os
  pub root_store : (h os : List ℕ) (v : ℕ) → Heap h os → Pointer os v → Heap (set h 1 v) os
  pub forms : (kind : ℕ) (h os ps ws : List ℕ) → (kind_in kinds kind).ptrs (length ps) ≡ true →
      (kind_in kinds kind).size (length ps) (2 + (length ps + length ws)) ≡ true → Heap h os →
      mark_of h + (2 + (length ps + length ws)) ≤ length h → length h < 16777216 → Each (Pointer os) ps →
      Formed h os (made kind ps ws h)

-- sound after steps from m: control records, stacks and heap, and lists as long as they were
pub record KeptSound (f map : List ℕ) (m m' : Machine) : Type 0 where
  pub objects : List ℕ
  pub heap : Heap m'.heap objects
  pub sound : Sound f map (Pointer objects) m'
  pub same_main : length m'.main ≡ length m.main
  pub same_ptr : length m'.ptr ≡ length m.ptr
  pub same_ctl : length m'.ctl ≡ length m.ctl
  pub same_heap : length m'.heap ≡ length m.heap

pub kept_here : {f map : List ℕ} (m : Machine) (os : List ℕ) → Heap m.heap os → Sound f map (Pointer os) m → KeptSound f map m m
kept_here m os K S =
    record { objects = os; heap = K; sound = S; same_main = refl; same_ptr = refl; same_ctl = refl; same_heap = refl }

pub kept_on : {f map : List ℕ} {m m' m'' : Machine} → KeptSound f map m m' → KeptSound f map m' m'' → KeptSound f map m m''
kept_on A B =
    record {
      objects = B.objects;
      heap = B.heap;
      sound = B.sound;
      same_main = B.same_main ∙ A.same_main;
      same_ptr = B.same_ptr ∙ A.same_ptr;
      same_ctl = B.same_ctl ∙ A.same_ctl;
      same_heap = B.same_heap ∙ A.same_heap;
    }

-- m' with its objects os, changed from m by a part of a rule: its stacks and heap are in order, and its control stack is as it was
record Order (m : Machine) (os : List ℕ) (m' : Machine) : Type 0 where
  control : Controlled m m'
  heap : Heap m'.heap os
  same_heap : length m'.heap ≡ length m.heap
  same_main : length m'.main ≡ length m.main
  same_ptr : length m'.ptr ≡ length m.ptr
  zero_main : Zero (mtop m') m'.main
  zero_ptr : Zero (ptop m') m'.ptr
  pointers : Each (Pointer os) m'.ptr

-- another machine with the same control stack
still : {m m' : Machine} {q mt pt : ℕ} {main ptr heap : List ℕ} → Controlled m m' →
    Controlled m (set_reg place_reg q (set_reg mtop_reg mt (set_reg ptop_reg pt (set_main main (set_ptr ptr (set_heap heap m'))))))
still C = record { frame = C.frame; handler = C.handler; ctop = C.ctop; state = C.state; ctl = C.ctl }

-- each change keeps it
module _ {m : Machine} {os : List ℕ} {m' : Machine} (O : Order m os m') where
  on-main : (t : ℕ) (l : List ℕ) → length l ≡ length m'.main → Zero t l →
      Order m os (set_reg mtop_reg t (set_main l m'))
  on-main t l e z =
      record {
        control = still O.control;
        heap = O.heap;
        same_heap = O.same_heap;
        same_main = e ∙ O.same_main;
        same_ptr = O.same_ptr;
        zero_main = z;
        zero_ptr = O.zero_ptr;
        pointers = O.pointers;
      }

  on-ptr : (t : ℕ) (l : List ℕ) → length l ≡ length m'.ptr → Zero t l → Each (Pointer os) l →
      Order m os (set_reg ptop_reg t (set_ptr l m'))
  on-ptr t l e z p =
      record {
        control = still O.control;
        heap = O.heap;
        same_heap = O.same_heap;
        same_main = O.same_main;
        same_ptr = e ∙ O.same_ptr;
        zero_main = O.zero_main;
        zero_ptr = z;
        pointers = p;
      }

  pop-main : (n : ℕ) → Order m os (pop_main n m')
  pop-main n = on-main (mtop m' - n) _ (length_cut _ m'.main) (cut-zero (mtop m' - n) m'.main)

  pop-ptr : (n : ℕ) → Order m os (pop_ptr n m')
  pop-ptr n =
      on-ptr (ptop m' - n) _ (length_cut _ m'.ptr) (cut-zero (ptop m' - n) m'.ptr)
      (cut-each (Pointer os) (ptop m' - n) m'.ptr (inl refl) O.pointers)

  push-main : (w : ℕ) → Order m os (push_main w m')
  push-main w =
      on-main (mtop m' + 1) _ (length-set m'.main (mtop m') w)
      (set-zero (mtop m' + 1) m'.main (mtop m') w (omega arith) (λ i h. O.zero_main i (omega arith)))

  push-ptr : (w : ℕ) → Pointer os w → Order m os (push_ptr w m')
  push-ptr w p =
      on-ptr (ptop m' + 1) _ (length-set m'.ptr (ptop m') w)
      (set-zero (ptop m' + 1) m'.ptr (ptop m') w (omega arith) (λ i h. O.zero_ptr i (omega arith)))
      (set-each (Pointer os) m'.ptr (ptop m') w p O.pointers)

  store-main : (s w : ℕ) → (running m').main_base + s < mtop m' → Order m os (store_main s w m')
  store-main s w h =
      on-main (mtop m') _ (length-set m'.main ((running m').main_base + s) w) (set-zero (mtop m') m'.main ((running m').main_base + s) w h O.zero_main)

  store-ptr : (s w : ℕ) → (running m').ptr_base + s < ptop m' → Pointer os w → Order m os (store_ptr s w m')
  store-ptr s w h p =
      on-ptr (ptop m') _ (length-set m'.ptr ((running m').ptr_base + s) w) (set-zero (ptop m') m'.ptr ((running m').ptr_base + s) w h O.zero_ptr)
      (set-each (Pointer os) m'.ptr ((running m').ptr_base + s) w p O.pointers)

  other-heap : (os' h : List ℕ) → Heap h os' → length h ≡ length m'.heap → ((v : ℕ) → Pointer os v → Pointer os' v) →
      Order m os' (set_heap h m')
  other-heap os' h K e old =
      record {
        control = still O.control;
        heap = K;
        same_heap = e ∙ O.same_heap;
        same_main = O.same_main;
        same_ptr = O.same_ptr;
        zero_main = O.zero_main;
        zero_ptr = O.zero_ptr;
        pointers = λ k. old _ (O.pointers k);
      }

  store-heap : (a w : ℕ) → Heap (set m'.heap a w) os → Order m os (store_heap a w m')
  store-heap a w K = other-heap os _ K (length-set m'.heap a w) (λ v p. p)

push-words : {m : Machine} {os : List ℕ} {m' : Machine} → Order m os m' → (ws : List ℕ) → Order m os (push_words ws m')
push-words O [] = O
push-words {m = m} {os = os} {m' = m'} O (w ∷ ws) = push-words {m = m} {os = os} {m' = push_main w m'} (push-main O w) ws

push-new : {m : Machine} {os : List ℕ} {m' : Machine} (kind : ℕ) (ps ws : List ℕ) → Order m os m' →
    (F : Formed m'.heap os (made kind ps ws m'.heap)) → Order m F.objects (push_new kind ps ws m')
push-new {m' = m'} kind ps ws O F =
    push-ptr (other-heap O F.objects _ F.heap F.same_length F.old) (mark_of m'.heap) F.new

module _ (f map : List ℕ) (m : Machine) (os : List ℕ) (i j : ℕ) where
  -- the instruction at the machine's place
  abbrev pub At : Ins → Type 0
  At x = ins_at f m.regs.place ≡ x

  -- what a rule gives is sound; an exception is raised apart
  abbrev Fine : Result → Type 0
  Fine (done m') = KeptSound f map m m'
  Fine (throws code) = Unit {0}

  on-object : (q o : ℕ) (t : Bool) (m' : Machine) → (o ≢ 0 → t ≡ true → Fine (done (go_to q m'))) → Fine (and_go q (on_object o t m'))
  on-object q o t m' k = go (eqb o 0) refl t refl
    where
      go : (u : Bool) → eqb o 0 ≡ u → (v : Bool) → t ≡ v →
          Fine (and_go q (when u then fails nil_object else when v then done m' else fails no_such_word))
      go true e v d = tt
      go false e true d = k (eqb-false o 0 e) d
      go false e false d = tt

  element-fine : (q : ℕ) (e : Element) (r : ℕ → Result) → ((a : ℕ) → e ≡ found a → Fine (and_go q (r a))) → Fine (and_go q (on_element e r))
  element-fine q (found a) r k = k a refl
  element-fine q of_nil r k = tt
  element-fine q nowhere r k = tt

  on-length : (q : ℕ) (b : Maker) (z : ℤ) (new : ℕ → New) → ((n : ℕ) → Fine (and_go q (on_new m b (new n)))) → Fine (and_go q (on_new m b (of_length z new)))
  on-length q b (pos n) new k = k n
  on-length q b (negsuc n) new k = tt

  on-value : (q : ℕ) (v : Option ℕ) (r : ℕ → Result) → ((w : ℕ) → Fine (and_go q (r w))) → Fine (and_go q (on_value v r))
  on-value q (Some w) r k = k w
  on-value q None r k = tt

  -- of reals only the words that they come to matter
  on-reals : (q : ℕ) (xs : List Float) (r : List ℕ → Result) → Fine (and_go q (r (words_of xs))) → Fine (and_go q (on_reals xs r))
  on-reals q xs r k = go (all_finite xs)
    where
      go : (t : Bool) → Fine (and_go q (when t then r (words_of xs) else fails out_of_range))
      go true = k
      go false = tt

  on-room : (t : Bool) (m' : Machine) → (t ≡ true → Fine (done m')) → Fine (on_room t m')
  on-room true m' k = k refl
  on-room false m' k = tt

  both : (g : Bool → Machine) → Fine (done (g true)) → Fine (done (g false)) → (t : Bool) → Fine (done (g t))
  both g a b true = a
  both g a b false = b

  module _ (n : ℕ) (L : CodeLaws f map) (H : HeapLaws) (R : Running f map (Pointer os) m n i j) (K : Heap m.heap os)
      (small : length m.heap < 16777216) where
    here : is_ins f m.regs.place ≡ true
    here = running-here f map (Pointer os) m n i j R

    abbrev now : State
    now = assigned map m.regs.place

    abbrev ahead : ℕ
    ahead = after f m.regs.place

    abbrev passed : Ins → List (ℕ × State)
    passed x = passes f m.regs.place x now (innermost (assigned map) now)

    -- the words that the instruction pops are there, above the bases
    pub above : (x : Ins) → At x → ((effect_of f x).pop_main + i ≤ mtop m) × ((effect_of f x).pop_ptr + j ≤ ptop m)
    above x e =
        let k = pops f map L m.regs.place x here e in
        let e1 = R.main_top in
        let e2 = R.ptr_top in
        (omega arith, omega arith)

    start : Order m os m
    start =
        record {
          control = record { frame = refl; handler = refl; ctop = refl; state = refl; ctl = refl };
          heap = K;
          same_heap = refl;
          same_main = refl;
          same_ptr = refl;
          zero_main = R.words.zero_main;
          zero_ptr = R.words.zero_ptr;
          pointers = R.words.pointers;
        }

    -- to a place that the instruction passes a state on to, the control stack as it is
    lands : (x : Ins) (t : State) (q : ℕ) {os' : List ℕ} (m' : Machine) → At x → Mem (q, t) (passed x) →
        t.inner ≡ inner_at map m.regs.place → mtop m' ≡ i + t.main → ptop m' ≡ j + t.ptr → Order m os' m' →
        KeptSound f map m (go_to q m')
    lands x t q {os'} m' e to same em ep O =
        record {
          objects = os';
          heap = O.heap;
          sound =
              inl (
                n,
                i,
                j,
                keep-plain f map (Pointer os) (Pointer os') m (go_to q m') n i j t R (still O.control)
                    (leads-on f map L m.regs.place x q t here e to) same em ep O.same_main O.same_ptr O.zero_main O.zero_ptr
                    O.pointers,
              );
          same_main = O.same_main;
          same_ptr = O.same_ptr;
          same_ctl = ap length O.control.ctl;
          same_heap = O.same_heap;
        }

    -- on to the next instruction
    on : (b : Basic) {os' : List ℕ} (m' : Machine) → At (basic b) → Order m os' m' →
        mtop m' ≡ mtop m - (basic_effect b).pop_main + (basic_effect b).push_main →
        ptop m' ≡ ptop m - (basic_effect b).pop_ptr + (basic_effect b).push_ptr →
        KeptSound f map m (go_to ahead m')
    unfolding passes effect_of
    on b m' e O em ep =
        let k = above (basic b) e in
        let e1 = R.main_top in
        let e2 = R.ptr_top in
        lands (basic b) (moved (basic_effect b) now) ahead m' e (inl refl) refl (omega arith) (omega arith) O

    pointer : (k : ℕ) → Pointer os (word_at m.ptr k)
    pointer k = R.words.pointers k

    -- the frame's bases, and the frame words that the instruction names
    pub bases : ((running m).main_base ≡ i) × ((running m).ptr_base ≡ j)
    bases = let F = stack-frame f map (length m.main) (length m.ptr) m.ctl n R.stack in (F.1.1.0, F.1.1.1.0)

    pub frame-words : (b : Basic) → At (basic b) → All (word_tests b now)
    unfolding depth_tests
    frame-words b e = let D = rw e at (rules f map L m.regs.place here).depths in D.1.1.1.1

    assign_main : (s : ℕ) → At (basic (assign on_main s)) → (running m).main_base + s < mtop m - 1
    assign_main s e = let W = frame-words (assign on_main s) e in let B = bases in let e1 = R.main_top in omega arith

    assign_ptr : (s : ℕ) → At (basic (assign on_ptr s)) → (running m).ptr_base + s < ptop m - 1
    assign_ptr s e = let W = frame-words (assign on_ptr s) e in let B = bases in let e2 = R.ptr_top in omega arith

    -- a new object that is right by its kind's row, whatever makes it
    new-fine : (k : Maker) (kind : ℕ) (ps ws : List ℕ) → At (basic (make k)) → (kind_in kinds kind).ptrs (length ps) ≡ true →
        (kind_in kinds kind).size (length ps) (2 + (length ps + length ws)) ≡ true → Each (Pointer os) ps →
        Fine (and_go ahead (on_new m k (object kind ps ws)))
    unfolding basic_effect
    new-fine k kind ps ws e a b each = go (leb (mark_of m.heap + (2 + (length ps + length ws))) (length m.heap)) refl
      where
        m' : Machine
        m' = pop_main (maker_pops k).0 (pop_ptr (maker_pops k).1 m)

        go : (t : Bool) → leb (mark_of m.heap + (2 + (length ps + length ws))) (length m.heap) ≡ t →
            Fine (and_go ahead (when t then done (push_new kind ps ws m') else fails heap_full))
        go true u =
            let F = H.forms kind m.heap os ps ws a b K (leb-true _ _ u) small each in
            on (make k) (push_new kind ps ws m') e (push-new kind ps ws (pop-main (pop-ptr start _) _) F) (omega arith) (omega arith)
        go false u = tt

    -- a view of the words popped; a vector with so many elements as its length, all of them the initial value
    make-fine : (k : Maker) → At (basic (make k)) → Fine (and_go ahead (makes m k))
    unfolding makes new_of kinds
    make-fine (form k l) e =
        new-fine (form k l) view_kind (ptr_words m l) (main_words m k) e refl refl
        (slice-each (Pointer os) (ptop m - l) (ptop m) m.ptr (inl refl) R.words.pointers)
    make-fine (vector on_main) e =
        on-length ahead (vector on_main) (signed (main_word m 2)) _
        (λ k. let ws = main_word m 3 ∷ replicate k (main_word m 1) in
        new-fine (vector on_main) word_vector_kind [] ws e refl (le-leb 3 (2 + (0 + length ws)) (omega arith)) (λ z. inl refl))
    make-fine (vector on_ptr) e =
        on-length ahead (vector on_ptr) (signed (main_word m 1)) _
        (λ k. let ps = replicate k (ptr_word m 1) in
        new-fine (vector on_ptr) ptr_vector_kind ps (main_word m 2 ∷ []) e refl (eq-eqb (2 + (length ps + 1)) (3 + length ps) (omega arith))
        (replicate-each (Pointer os) k (ptr_word m 1) (inl refl) (pointer _)))

    -- the element that was found: its vector is an object of the heap
    vector-here : {d : Side} {a : ℕ} → Found d m.heap (ptr_word m 1) a → Mem (ptr_word m 1) os
    vector-here F = is-object os _ (pointer _) F.some

    basic-fine : (b : Basic) → At (basic b) → Fine (and_go ahead (basic_rule m b))
    unfolding basic_rule basic_effect effect_of in_ptrs words_of
    basic-fine (local on_main s) e = on (local on_main s) _ e (push-main start _) (omega arith) (omega arith)
    basic-fine (local on_ptr s) e = on (local on_ptr s) _ e (push-ptr start _ (pointer _)) (omega arith) (omega arith)
    basic-fine (assign on_main s) e =
        on (assign on_main s) _ e (store-main (pop-main start 1) s _ (assign_main s e)) (omega arith) (omega arith)
    basic-fine (assign on_ptr s) e =
        on (assign on_ptr s) _ e (store-ptr (pop-ptr start 1) s _ (assign_ptr s e) (pointer _)) (omega arith) (omega arith)
    basic-fine (field on_main s) e =
        on-object ahead (ptr_word m 1) (in_plain m.heap (ptr_word m 1) s) _
        (λ u v. on (field on_main s) _ e (push-main (pop-ptr start 1) _) (omega arith) (omega arith))
    basic-fine (field on_ptr s) e =
        on-object ahead (ptr_word m 1) (in_ptrs m.heap (ptr_word m 1) s) _
        (λ u v. let w = both_true _ _ v in
        let p = K.inside (ptr_word m 1) s (is-object os _ (pointer _) u) (leb-true _ _ w.0) (ltb-true _ _ w.1) in
        on (field on_ptr s) _ e (push-ptr (pop-ptr start 1) _ p) (omega arith) (omega arith))
    basic-fine (set_field on_main s) e =
        on-object ahead (ptr_word m 1) (may_set_plain m.heap (ptr_word m 1) s) _
        (λ u v. let h = H.plain_store m.heap os (ptr_word m 1) s _ K (is-object os _ (pointer _) u) v in
        on (set_field on_main s) _ e (store-heap (pop-main (pop-ptr start 1) 1) _ _ h) (omega arith) (omega arith))
    basic-fine (set_field on_ptr s) e =
        on-object ahead (ptr_word m 1) (may_set_ptr m.heap (ptr_word m 1) s) _
        (λ u v. let h = H.ptr_store m.heap os (ptr_word m 1) s _ K (is-object os _ (pointer _) u) v (pointer _) in
        on (set_field on_ptr s) _ e (store-heap (pop-ptr start 2) _ _ h) (omega arith) (omega arith))
    basic-fine (make k) e = make-fine k e
    basic-fine (literal w) e = on (literal w) _ e (push-main start _) (omega arith) (omega arith)
    basic-fine nil e = on nil _ e (push-ptr start _ (inl refl)) (omega arith) (omega arith)
    basic-fine root e = on root _ e (push-ptr start _ K.root) (omega arith) (omega arith)
    basic-fine set_root e =
        on set_root _ e (store-heap (pop-ptr start 1) _ _ (H.root_store m.heap os (ptr_word m 1) K (pointer _))) (omega arith) (omega arith)
    basic-fine (retract keep_main k l) e =
        on (retract keep_main k l) _ e (push-main (pop-main (pop-ptr start l) (1 + k)) _) (omega arith) (omega arith)
    basic-fine (retract keep_ptr k l) e =
        on (retract keep_ptr k l) _ e (push-ptr (pop-main (pop-ptr start (1 + l)) k) _ (pointer _)) (omega arith) (omega arith)
    basic-fine (retract keep_none k l) e = on (retract keep_none k l) _ e (pop-main (pop-ptr start l) k) (omega arith) (omega arith)
    basic-fine (binary o) e =
        on-value ahead (operate o (main_word m 2) (main_word m 1)) _
        (λ w. on (binary o) _ e (push-main (pop-main start 2) w) (omega arith) (omega arith))
    basic-fine same_ptr e = on same_ptr _ e (push-main (pop-ptr start 2) _) (omega arith) (omega arith)
    basic-fine (unary o) e =
        on-value ahead (operate1 o (main_word m 1)) _ (λ w. on (unary o) _ e (push-main (pop-main start 1) w) (omega arith) (omega arith))
    basic-fine (element on_main) e =
        element-fine ahead (element_of on_main m.heap (ptr_word m 1) (main_word m 1)) _
        (λ a u. on (element on_main) _ e (push-main (pop-main (pop-ptr start 1) 1) _) (omega arith) (omega arith))
    basic-fine (element on_ptr) e =
        element-fine ahead (element_of on_ptr m.heap (ptr_word m 1) (main_word m 1)) _
        (λ a u. let F = is_found on_ptr m.heap (ptr_word m 1) (main_word m 1) a u in
        on (element on_ptr) _ e (push-ptr (pop-main (pop-ptr start 1) 1) _ (ptr-element K _ a (vector-here F) F)) (omega arith) (omega arith))
    basic-fine (set_element on_main) e =
        element-fine ahead (element_of on_main m.heap (ptr_word m 1) (main_word m 1)) _
        (λ a u. let F = is_found on_main m.heap (ptr_word m 1) (main_word m 1) a u in
        let h = H.plain_store m.heap os (ptr_word m 1) (3 + F.n) (main_word m 2) K (vector-here F) (word_set K _ a (vector-here F) F) in
        let i : ptr_word m 1 + (3 + F.n) ≡ a = omega (arith, F.is) in
        on (set_element on_main) _ e (store-heap (pop-main (pop-ptr start 1) 2) _ _ (rw i at h)) (omega arith) (omega arith))
    basic-fine (set_element on_ptr) e =
        element-fine ahead (element_of on_ptr m.heap (ptr_word m 1) (main_word m 1)) _
        (λ a u. let F = is_found on_ptr m.heap (ptr_word m 1) (main_word m 1) a u in
        let h = H.ptr_store m.heap os (ptr_word m 1) (2 + F.n) (ptr_word m 2) K (vector-here F) (ptr-set K _ a (vector-here F) F) (pointer _) in
        let i : ptr_word m 1 + (2 + F.n) ≡ a = omega (arith, F.is) in
        on (set_element on_ptr) _ e (store-heap (pop-main (pop-ptr start 2) 1) _ _ (rw i at h)) (omega arith) (omega arith))
    basic-fine (real_literal h l) e = on (real_literal h l) _ e (push-words start (h ∷ l ∷ [])) (omega arith) (omega arith)
    basic-fine (real o) e =
        let xs = operate_reals o (main_real m 4) (main_real m 2) ∷ [] in
        on-reals ahead xs (λ ws. done (push_words ws (pop_main 4 m))) (on (real o) _ e (push-words (pop-main start 4) (words_of xs)) (omega arith) (omega arith))
    basic-fine real_less e = on real_less _ e (push-main (pop-main start 4) _) (omega arith) (omega arith)
    basic-fine hoop e =
        let xs = reals_of (shifted (main_point m 6) (scaled (main_real m 2) (main_point m 10))) in
        on-reals ahead xs (λ ws. done (push_words ws (pop_main 10 m))) (on hoop _ e (push-words (pop-main start 10) (words_of xs)) (omega arith) (omega arith))

    -- a jump that pops a word, and one that does not
    popped : (x : Ins) (q : ℕ) → At x → 1 ≤ main_at map m.regs.place → Mem (q, moved (effect 1 0 0 0) now) (passed x) →
        Fine (done (go_to q (pop_main 1 m)))
    popped x q e one to =
        let e1 = R.main_top in
        let e2 = R.ptr_top in
        lands x (moved (effect 1 0 0 0) now) q (pop_main 1 m) e to refl (omega arith) (omega arith) (pop-main start 1)

    kept-as : (x : Ins) (q : ℕ) → At x → Mem (q, now) (passed x) → Fine (done (go_to q m))
    kept-as x q e to = lands x now q m e to refl R.main_top R.ptr_top start

    -- with the heap as it is
    same : (m' : Machine) → m'.heap ≡ m.heap → Sound f map (Pointer os) m' → length m'.main ≡ length m.main →
        length m'.ptr ≡ length m.ptr → length m'.ctl ≡ length m.ctl → KeptSound f map m m'
    same m' e S lm lp lc =
        record {
          objects = os;
          heap = rw e K;
          sound = S;
          same_main = lm;
          same_ptr = lp;
          same_ctl = lc;
          same_heap = ap length e;
        }

    return-fine : At return → Fine (rule f m ahead return)
    unfolding rule
    return-fine e = go (eqb m.regs.frame 1) (keep-return f map L (Pointer os) m n i j R e)
      where
        back : Machine
        back = go_to (running m).returns (close_frame m)

        go : (t : Bool) → Sound f map (Pointer os) (when t then finished m else back) → KeptSound f map m (when t then finished m else back)
        go true S = same _ refl S refl refl (length_cut 0 m.ctl)
        go false S = same _ refl S refl refl (length_cut (record_words * (records m - 1)) m.ctl)

    rule-fine : (x : Ins) → At x → Fine (rule f m ahead x)
    unfolding rule passes effect_of
    rule-fine (basic b) e = basic-fine b e
    rule-fine (jump t) e = kept-as (jump t) t e (inl refl)
    rule-fine (branch false t) e =
        let k = (pops f map L m.regs.place (branch false t) here e).0 in
        both (λ u. go_to (when u then ahead else t) (pop_main 1 m))
        (popped (branch false t) _ e k (inl refl)) (popped (branch false t) _ e k (inr (inl refl))) (truth (main_word m 1))
    rule-fine (branch true t) e =
        let k = (pops f map L m.regs.place (branch true t) here e).0 in
        both (λ u. go_to (when u then t else ahead) (pop_main 1 m))
        (popped (branch true t) _ e k (inr (inl refl))) (popped (branch true t) _ e k (inl refl)) (truth (main_word m 1))
    rule-fine (branch_keep false t) e =
        let k = (pops f map L m.regs.place (branch_keep false t) here e).0 in
        both (λ u. when u then go_to ahead (pop_main 1 m) else go_to t m)
        (popped (branch_keep false t) _ e k (inl refl)) (kept-as (branch_keep false t) t e (inr (inl refl))) (truth (main_word m 1))
    rule-fine (branch_keep true t) e =
        let k = (pops f map L m.regs.place (branch_keep true t) here e).0 in
        both (λ u. when u then go_to t m else go_to ahead (pop_main 1 m))
        (kept-as (branch_keep true t) t e (inr (inl refl))) (popped (branch_keep true t) _ e k (inl refl)) (truth (main_word m 1))
    rule-fine (call k) e =
        on-room (all (callee_tests f m k)) _
        (λ u. same _ refl (inl (_, _, _, keep-call f map L (Pointer os) m n i j k R e (all_true (callee_tests f m k) u))) refl refl
        (length-put m.ctl (records m) _))
    rule-fine return e = return-fine e
    rule-fine (enter s) e =
        on-room (leb (m.regs.ctop + record_words) (length m.ctl)) _
        (λ u. same _ refl
        (inl (_, _, _, keep-enter f map L (Pointer os) m n i j s R e (leb-true (m.regs.ctop + record_words) (length m.ctl) u))) refl refl
        (length-put m.ctl (records m) _))
    rule-fine exit e =
        same _ refl (inl (_, _, _, keep_exit f map L (Pointer os) m n i j R e)) refl refl
        (length_cut (record_words * (records m - 1)) m.ctl)
    rule-fine raise e = tt

    -- a raise that a handler catches
    kept-raise : (code : ℕ) (m' : Machine) → raised f m code ≡ next m' → KeptSound f map m m'
    unfolding raised caught
    kept-raise code m' e = go (eqb m.regs.handler 0) refl e
      where
        go : (t : Bool) → eqb m.regs.handler 0 ≡ t →
            (when t then uncaught code m else next (caught f m (m.regs.handler - 1) (handler_of m.ctl m.regs.handler) code)) ≡ next m' →
            KeptSound f map m m'
        go true u v = absurd (true≢false (cc))
        go false u v =
            let w : caught f m (m.regs.handler - 1) (handler_of m.ctl m.regs.handler) code ≡ m' = cc in
            subst (KeptSound f map m) w
            (same _ refl (keep-raise f map L (Pointer os) m n i j code (inl refl) R (eqb-false m.regs.handler 0 u))
            (simp (length-set, length_cut)) (simp length_cut) (simp length_cut))

    came : (r : Result) → Fine r → (m' : Machine) → outcome f m r ≡ next m' → KeptSound f map m m'
    came (done x) F m' e = subst (KeptSound f map m) (cc) F
    came (throws code) F m' e = kept-raise code m' e

    pub step_keeps : (m' : Machine) → step f m ≡ next m' → KeptSound f map m m'
    unfolding step instruct
    step_keeps m' e = came (rule f m ahead (ins_at f m.regs.place)) (rule-fine (ins_at f m.regs.place) refl) m' e
