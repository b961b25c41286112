-- The rules of the flow as tests on the shape: each of the model's lists of tests, and what an instruction passes on, by cases on it.
use Rattle.std.specs.Prelude.{ℕ, suc, ◌+◌, ◌-◌, ◌≤◌, Bool, true, false, not, List, [], ◌∷◌, ◌++◌, ◌≡◌, leb, eqb}
use Rattle.std.proofs.Math.Path.{refl}
use Rattle.std.proofs.Common.{sym, ◌∙◌, le-leb, leb-true, eqb-true, add-zero, add-one, arith}
use Rattle.std.proofs.Math.Dec.{leb-zero}
use Rattle.std.proofs.Math.Nat.{sub-zero}
use Rattle.model.specs.Choice.{when◌then◌else◌, Test, at_most, yes?, holds, all, if-both}
use Rattle.model.specs.File.{on_main, on_ptr, Basic, local, assign, field, set_field, make, literal, nil, root, set_root, retract, binary, same_ptr, unary}
use Rattle.model.specs.File.{element, set_element, real_literal, real, real_less, hoop}
use Rattle.model.specs.File.{Ins, basic, jump, branch, branch_keep, call, return, enter, exit, raise, after, proc_at, results_main, results_ptr}
use Rattle.model.specs.File.{greatest_main, greatest_ptr}
use Rattle.model.specs.Checker.{none, State, state, Effect, effect, basic_effect, effect_of, moved, goes_on, passes, own, target_tests, next_tests}
use Rattle.model.specs.Checker.{word_tests, more_tests, floor_test, depths_most, depth_tests, leave_tests}
use Rattle.check_rows.specs.declared.State.{State as Words}
use Rattle.check_rows.specs.Shape.{Way, Next, Jump, Branch, Keep, Open, Close, Return, Raise, Shape, words, shape_of}

-- the code's state as the model's
abbrev pub as_state : Words → State
as_state s = state s.main s.ptr s.inner

-- what an instruction does by its way: it goes on to the next place, jumps, opens a handler, closes one, leaves the procedure
record Does : Type 0 where
  goes : Bool
  jumps : Bool
  opens : Bool
  closes : Bool
  leaves : Bool

abbrev does : Bool → Bool → Bool → Bool → Bool → Does
does g j o c l = record { goes = g; jumps = j; opens = o; closes = c; leaves = l }

abbrev does_by : Way → Does
does_by Next = does true false false false false
does_by Jump = does false true false false false
does_by Branch = does true true false false false
does_by Keep = does true true false false false
does_by Open = does true true true false false
does_by Close = does true false false true false
does_by Return = does false false false false true
does_by Raise = does false false false false false

abbrev pub goes_by : Way → Bool
goes_by w = (does_by w).goes

abbrev pub jumps_by : Way → Bool
jumps_by w = (does_by w).jumps

abbrev pub opens_by : Way → Bool
opens_by w = (does_by w).opens

abbrev pub closes_by : Way → Bool
closes_by w = (does_by w).closes

abbrev pub leaves_by : Way → Bool
leaves_by w = (does_by w).leaves

abbrev pub and : Bool → Bool → Bool
and a b = (when a then b else false)

-- refusal 5, where `own` says that the target is an instruction of the procedure
unfoldable pub target_ok : Way → Bool → Bool → ℕ → ℕ → Bool
target_ok w known own q p = (when jumps_by w then and own (when opens_by w then leb (suc p) q else true) else known)

-- refusal 7 with the floor asked where nothing is popped too
unfoldable firm_tests : List ℕ → ℕ → Ins → State → State → List Test
firm_tests f p i s o =
    at_most (o.main + (effect_of f i).pop_main) s.main
    ∷ at_most (o.ptr + (effect_of f i).pop_ptr) s.ptr
    ∷ (depths_most (greatest_main f (proc_at f p)) (greatest_ptr f (proc_at f p)) (moved (effect_of f i) s) ++ more_tests (greatest_main f (proc_at f p)) i s)

-- where the depths lie above the floor, both come to the same
floor-same : (n floor depth : ℕ) → floor ≤ depth → holds (floor_test n floor depth) ≡ leb (floor + n) depth
floor-same n floor depth h = go (eqb n 0) refl
  where
    go : (t : Bool) → eqb n 0 ≡ t → leb (when t then 0 else floor + n) depth ≡ leb (floor + n) depth
    go true z = let w = eqb-true n 0 z in le-leb 0 depth (omega arith) ∙ sym (le-leb (floor + n) depth (omega arith))
    go false z = refl

firm-same : (f : List ℕ) (p : ℕ) (i : Ins) (s o : State) → o.main ≤ s.main → o.ptr ≤ s.ptr →
    all (depth_tests f p i s o) ≡ all (firm_tests f p i s o)
unfolding depth_tests firm_tests
firm-same f p i s o a b =
    rw (floor-same (effect_of f i).pop_main o.main s.main a, floor-same (effect_of f i).pop_ptr o.ptr s.ptr b)

-- refusal 7 on one stack: the floor, the frame word and the greatest depth
unfoldable pub stack_ok : ℕ → ℕ → ℕ → ℕ → ℕ → ℕ → Bool
stack_ok have floor pop push word x = and (leb (floor + pop) have) (and (leb word (have - pop)) (leb (have - pop + push) x))

-- a handler has the depth before its 160 and the raised word
abbrev pub open_ok : Way → ℕ → ℕ → Bool
open_ok w have x = (when opens_by w then leb (suc have) x else true)

unfoldable pub stacks_ok : Shape → State → State → ℕ → ℕ → Bool
stacks_ok sh s o x y =
    and (stack_ok s.main o.main sh.popm sh.pushm sh.wordm x) (stack_ok s.ptr o.ptr sh.popp sh.pushp sh.wordp y)

abbrev pub depth_ok : Shape → State → State → ℕ → ℕ → Bool
depth_ok sh s o x y = and (stacks_ok sh s o x y) (open_ok sh.way s.main x)

-- refusal 8
unfoldable pub leave_ok : Way → State → ℕ → ℕ → Bool
leave_ok w s r q =
    when closes_by w then not (eqb s.inner none)
    else when leaves_by w then and (eqb s.main r) (and (eqb s.ptr q) (eqb s.inner none))
    else true

abbrev pub effect_in : Shape → Effect
effect_in sh = effect sh.popm sh.popp sh.pushm sh.pushp

-- the innermost open handler behind the instruction at p
abbrev pub inner_by : Way → ℕ → ℕ → ℕ → ℕ
inner_by w p h o = (when opens_by w then p else (when closes_by w then o else h))

-- the main depth at the target: before the instruction, after it, or with a raised word
abbrev pub target_main : Way → ℕ → ℕ → ℕ → ℕ
target_main Next b a r = b
target_main Jump b a r = b
target_main Branch b a r = a
target_main Keep b a r = b
target_main Open b a r = r
target_main Close b a r = b
target_main Return b a r = b
target_main Raise b a r = b

-- what passes to the next instruction, and to the target
unfoldable pub next_state : Shape → ℕ → State → State → State
next_state sh p s o =
    state (moved (effect_in sh) s).main (moved (effect_in sh) s).ptr (inner_by sh.way p s.inner o.inner)

unfoldable pub target_state : Shape → State → State
target_state sh s =
    state (target_main sh.way s.main (moved (effect_in sh) s).main (s.main + 1)) s.ptr s.inner

pub and_right : (t : Bool) → and t true ≡ t
and_right true = refl
and_right false = refl

and-false : (t : Bool) → and t false ≡ false
and-false true = refl
and-false false = refl

-- the words left are enough, and t holds
abbrev left : ℕ → ℕ → ℕ → ℕ → Bool → Bool
left wm wp m n t = and (leb wm m) (and (leb wp n) t)

word-tests : (b : Basic) (s : State) →
    all (word_tests b s)
    ≡ left (words b).0 (words b).1 (s.main - (basic_effect b).pop_main) (s.ptr - (basic_effect b).pop_ptr) true
unfolding basic_effect
word-tests (local on_main w) s = simp (leb-zero, sub-zero)
word-tests (local on_ptr w) s = simp (leb-zero, sub-zero)
word-tests (assign on_main w) s = simp leb-zero
word-tests (assign on_ptr w) s = simp leb-zero
word-tests (field d w) s = simp leb-zero
word-tests (set_field d w) s = simp leb-zero
word-tests (make k) s = simp leb-zero
word-tests (literal w) s = simp leb-zero
word-tests nil s = simp leb-zero
word-tests root s = simp leb-zero
word-tests set_root s = simp leb-zero
word-tests (retract a k n) s = simp leb-zero
word-tests (binary o) s = simp leb-zero
word-tests same_ptr s = simp leb-zero
word-tests (unary o) s = simp leb-zero
word-tests (element d) s = simp leb-zero
word-tests (set_element d) s = simp leb-zero
word-tests (real_literal h l) s = simp leb-zero
word-tests (real o) s = simp leb-zero
word-tests real_less s = simp leb-zero
word-tests hoop s = simp leb-zero

-- the tests stack by stack: a, e and c of the one, b, g and d of the other
by-stack : (a b c d e g t : Bool) →
    and a (and b (and c (and d (and e (and g t))))) ≡ and (and (and a (and e c)) (and b (and g d))) t
by-stack false b c d e g t = refl
by-stack true false c d e g t = rw (and-false (and e c))
by-stack true true false d e g t = simp and-false
by-stack true true true false e g t = simp and-false
by-stack true true true true false g t = refl
by-stack true true true true true g t = simp and_right

-- at every place of every file
module _ (f : List ℕ) (p : ℕ) where
  abbrev at : Ins → Shape
  at i = shape_of f p i

  effect_is : (i : Ins) → effect_of f i ≡ effect_in (at i)
  unfolding effect_of shape_of
  effect_is (basic b) = refl
  effect_is (jump q) = refl
  effect_is (branch t q) = refl
  effect_is (branch_keep t q) = refl
  effect_is (call n) = refl
  effect_is return = refl
  effect_is (enter n) = refl
  effect_is exit = refl
  effect_is raise = refl

  pub target-tests : (i : Ins) →
      all (target_tests f p i) ≡ target_ok (at i).way (at i).known (own f p (at i).target) (at i).target p
  unfolding target_tests target_ok shape_of
  target-tests (basic b) = refl
  target-tests (jump q) = refl
  target-tests (branch t q) = refl
  target-tests (branch_keep t q) = refl
  target-tests (call n) = and_right _
  target-tests return = refl
  target-tests (enter n) = simp and_right
  target-tests exit = refl
  target-tests raise = refl

  pub goes-on : (i : Ins) → goes_on i ≡ goes_by (at i).way
  unfolding goes_on shape_of
  goes-on (basic b) = refl
  goes-on (jump q) = refl
  goes-on (branch t q) = refl
  goes-on (branch_keep t q) = refl
  goes-on (call n) = refl
  goes-on return = refl
  goes-on (enter n) = refl
  goes-on exit = refl
  goes-on raise = refl

  next-by : (t : Bool) → all (when t then yes? (own f p (after f p)) ∷ [] else []) ≡ (when t then own f p (after f p) else true)
  next-by true = and_right _
  next-by false = refl

  pub next-tests : (i : Ins) → all (next_tests f p i) ≡ (when goes_by (at i).way then own f p (after f p) else true)
  unfolding next_tests
  next-tests i = rw (goes-on i) (next-by (goes_by (at i).way))

  more-tests : (i : Ins) (s : State) (x : ℕ) →
      all (more_tests x i s)
      ≡ left (at i).wordm (at i).wordp (s.main - (at i).popm) (s.ptr - (at i).popp) (open_ok (at i).way s.main x)
  unfolding shape_of
  more-tests (basic b) s x = word-tests b s
  more-tests (jump q) s x = simp leb-zero
  more-tests (branch t q) s x = simp leb-zero
  more-tests (branch_keep t q) s x = simp leb-zero
  more-tests (call n) s x = simp leb-zero
  more-tests return s x = simp leb-zero
  more-tests (enter n) s x = simp (leb-zero, and_right, add-one)
  more-tests exit s x = simp leb-zero
  more-tests raise s x = simp leb-zero

  pub depth-tests : (i : Ins) (s o : State) → o.main ≤ s.main → o.ptr ≤ s.ptr →
      all (depth_tests f p i s o) ≡ depth_ok (at i) s o (greatest_main f (proc_at f p)) (greatest_ptr f (proc_at f p))
  unfolding firm_tests stacks_ok stack_ok
  depth-tests i s o a b =
      let x = greatest_main f (proc_at f p) in
      let y = greatest_ptr f (proc_at f p) in
      firm-same f p i s o a b
      ∙ rw (effect_is i, more-tests i s x)
      (by-stack
      (leb (o.main + (at i).popm) s.main)
      (leb (o.ptr + (at i).popp) s.ptr)
      (leb (s.main - (at i).popm + (at i).pushm) x)
      (leb (s.ptr - (at i).popp + (at i).pushp) y)
      (leb (at i).wordm (s.main - (at i).popm))
      (leb (at i).wordp (s.ptr - (at i).popp))
      (open_ok (at i).way s.main x))

  pub leave-tests : (i : Ins) (s : State) →
      all (leave_tests f p i s) ≡ leave_ok (at i).way s (results_main f (proc_at f p)) (results_ptr f (proc_at f p))
  unfolding leave_tests leave_ok shape_of
  leave-tests (basic b) s = refl
  leave-tests (jump q) s = refl
  leave-tests (branch t q) s = refl
  leave-tests (branch_keep t q) s = refl
  leave-tests (call n) s = refl
  leave-tests return s = simp and_right
  leave-tests (enter n) s = refl
  leave-tests exit s = and_right _
  leave-tests raise s = refl

  pub passes-are : (i : Ins) (s o : State) →
      passes f p i s o
      ≡ (when goes_by (at i).way then (after f p, next_state (at i) p s o) ∷ [] else [])
      ++ (when jumps_by (at i).way then ((at i).target, target_state (at i) s) ∷ [] else [])
  unfolding passes shape_of next_state target_state
  passes-are (basic b) s o = refl
  passes-are (jump q) s o = refl
  passes-are (branch t q) s o = simp (sub-zero, add-zero)
  passes-are (branch_keep t q) s o = refl
  passes-are (call n) s o = refl
  passes-are return s o = refl
  passes-are (enter n) s o = simp (sub-zero, add-zero)
  passes-are exit s o = simp (sub-zero, add-zero)
  passes-are raise s o = refl

-- what passed tests of the depths show: no pop from an empty stack, and depths within the greatest
stack-fits : (have floor pop push word x : ℕ) → stack_ok have floor pop push word x ≡ true → (pop ≤ have) × (have - pop + push ≤ x)
unfolding stack_ok
stack-fits have floor pop push word x e =
    let g = if-both (leb (floor + pop) have) (and (leb word (have - pop)) (leb (have - pop + push) x)) e in
    let h = if-both (leb word (have - pop)) (leb (have - pop + push) x) g.1 in
    (omega (arith, leb-true (floor + pop) have g.0), leb-true (have - pop + push) x h.1)

pub record PopsFit (sh : Shape) (s : State) (x y : ℕ) : Type 0 where
  pub main : sh.popm ≤ s.main
  pub ptr : sh.popp ≤ s.ptr
  pub main_within : s.main - sh.popm + sh.pushm ≤ x
  pub ptr_within : s.ptr - sh.popp + sh.pushp ≤ y

pub stacks-fit : (sh : Shape) (s o : State) (x y : ℕ) → stacks_ok sh s o x y ≡ true → PopsFit sh s x y
unfolding stacks_ok
stacks-fit sh s o x y e =
    let g = if-both (stack_ok s.main o.main sh.popm sh.pushm sh.wordm x) _ e in
    let m = stack-fits s.main o.main sh.popm sh.pushm sh.wordm x g.0 in
    let q = stack-fits s.ptr o.ptr sh.popp sh.pushp sh.wordp y g.1 in
    record { main = m.0; ptr = q.0; main_within = m.1; ptr_within = q.1 }
