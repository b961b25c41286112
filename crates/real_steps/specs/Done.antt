-- Each instruction on reals, done word by word, is its rule: the words read are those that the rule names from the top, and words written one above another
-- are words pushed.
use Rattle.std.specs.Prelude.{ℕ, ◌+◌, ◌-◌, ◌≤◌, Some, None, Bool, true, false, ◌&&◌, List, ◌≡◌, Float, set}
use Rattle.std.proofs.Math.Path.{refl}
use native.Mathlib.Omega.{arith}
use Rattle.std.specs.Float.Ieee.Scale.{finite}
use Rattle.model.specs.Words.{bit, cut}
use Rattle.model.specs.Reals.{words_of, all_finite, RealOp, operate_reals, less_reals, Point, reals_of, scaled, shifted}
use Rattle.model.specs.File.{operand4, operand_low, basic, real, real_less, hoop, ins_of}
use Rattle.model.specs.Control.{Machine}
use Rattle.model.specs.Moves.{pop_main, push_words}
use Rattle.model.specs.Instructions.{Result, done, and_go, on_reals, basic_rule, rule}
use Rattle.model.specs.declared.Regs.{Regs}
use Rattle.real_steps.specs.Does.{real_at, point_at, put_real, moved_on, Does}

and-true : (a b : Bool) → (a && (b && true)) ≡ (a && b)
and-true true true = refl
and-true true false = refl
and-true false b = refl

-- word k from the top, counted from ten below it
back : (t a k : ℕ) → 10 ≤ t → a + k ≡ 10 → t - k ≡ t - 10 + a
back t a k h e = omega arith

back2 : (t a b k : ℕ) → 10 ≤ t → a + b + k ≡ 10 → t - k ≡ t - 10 + a + b
back2 t a b k h e = omega arith

back3 : (t a b c k : ℕ) → 10 ≤ t → a + b + c + k ≡ 10 → t - k ≡ t - 10 + a + b + c
back3 t a b c k h e = omega arith

-- what 156 comes to with its point
abbrev hooped : Machine → ℕ → Point → Result
hooped m q p = and_go q (on_reals (reals_of p) (λ ws. done (push_words ws (pop_main 10 m))))

module _ (l : List ℕ) (r : Regs) (q : ℕ) where
  abbrev top : ℕ
  top = r.mtop

  pub literal-done : (f : List ℕ) (p h w : ℕ) → h ≡ operand4 f p → w ≡ operand_low f p →
      Does l r q (Some (moved_on r q (top + 2))) (set (set l top h) (top + 1) w) (ins_of f p 53)
  unfolding rule basic_rule ins_of
  literal-done f p h w eh ew = λ g ptr ctl heap. let e : top + 1 + 1 ≡ top + 2 = omega arith in rw (eh, ew, e)

  module _ (four : 4 ≤ top) where
    abbrev at : ℕ
    at = top - 4

    module _ (o : RealOp) (x : Float) (is : x ≡ operate_reals o (real_at l at) (real_at l (at + 2))) where
      pub operation-done : finite x ≡ true → Does l r q (Some (moved_on r q (at + 2))) (put_real (cut at l) at x) (basic (real o))
      unfolding rule basic_rule words_of all_finite
      operation-done t =
          λ f ptr ctl heap.
          let e3 : top - 3 ≡ at + 1 = omega arith in
          let e2 : top - 2 ≡ at + 2 = omega arith in
          let e1 : top - 1 ≡ at + 2 + 1 = omega arith in
          let e : at + 1 + 1 ≡ at + 2 = omega arith in
          rw (e3, e2, e1, ← is, t, e)

      pub operation-raises : finite x ≡ false → Does l r q None l (basic (real o))
      unfolding rule basic_rule all_finite
      operation-raises t =
          λ f ptr ctl heap.
          let e3 : top - 3 ≡ at + 1 = omega arith in
          let e2 : top - 2 ≡ at + 2 = omega arith in
          let e1 : top - 1 ≡ at + 2 + 1 = omega arith in
          rw (e3, e2, e1, ← is, t)

    pub less_done : (w : ℕ) → w ≡ bit (less_reals (real_at l at) (real_at l (at + 2))) →
        Does l r q (Some (moved_on r q (at + 1))) (set (cut at l) at w) (basic real_less)
    unfolding rule basic_rule
    less_done w is =
        λ f ptr ctl heap.
        let e3 : top - 3 ≡ at + 1 = omega arith in
        let e2 : top - 2 ≡ at + 2 = omega arith in
        let e1 : top - 1 ≡ at + 2 + 1 = omega arith in
        rw (e3, e2, e1, ← is)

  module _ (ten : 10 ≤ top) where
    abbrev low : ℕ
    low = top - 10

    module _ (p : Point) (is : p ≡ shifted (point_at l (low + 4)) (scaled (real_at l (low + 8)) (point_at l low))) where
      -- the point of the rule is this one
      hoop-point : (f ptr ctl heap : List ℕ) →
          rule f (record { regs = r; main = l; ptr = ptr; ctl = ctl; heap = heap }) q (basic hoop)
          ≡ hooped (record { regs = r; main = l; ptr = ptr; ctl = ctl; heap = heap }) q p
      unfolding rule basic_rule
      hoop-point f ptr ctl heap =
          rw (
            is,
            back top 1 9 ten refl,
            back top 2 8 ten refl,
            back2 top 2 1 7 ten refl,
            back top 4 6 ten refl,
            back2 top 4 1 5 ten refl,
            back2 top 4 2 4 ten refl,
            back3 top 4 2 1 3 ten refl,
            back top 8 2 ten refl,
            back2 top 8 1 1 ten refl,
          )

      pub hoop-done : (finite p.across && finite p.along) ≡ true →
          Does l r q (Some (moved_on r q (low + 4))) (put_real (put_real (cut low l) low p.across) (low + 2) p.along) (basic hoop)
      unfolding words_of all_finite
      hoop-done t =
          λ f ptr ctl heap.
          let two : low + 1 + 1 ≡ low + 2 = omega arith in
          let four : low + 2 + 1 + 1 ≡ low + 4 = omega arith in
          rw (hoop-point f ptr ctl heap, and-true (finite p.across) (finite p.along), t, two, four)

      pub hoop-raises : (finite p.across && finite p.along) ≡ false → Does l r q None l (basic hoop)
      unfolding all_finite
      hoop-raises t =
          λ f ptr ctl heap. rw (hoop-point f ptr ctl heap, and-true (finite p.across) (finite p.along), t)
