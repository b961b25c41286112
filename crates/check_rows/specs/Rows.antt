-- What an instruction comes to that leads to the next one alone, or nowhere, by its shape: a refusal, or the place behind it and the depths
-- there (`plainly`). A row of the code is such a shape.
use Rattle.std.specs.Prelude.{ℕ, suc, ◌+◌, ◌-◌, ◌<◌, ◌≤◌, Bool, true, false, Result, Ok, Err, List, ◌≡◌, ltb}
use Rattle.std.proofs.Common.{arith}
use borrow.Author.Tests.{lt-ltb, le-ltb, le-leb}
use Rattle.model.specs.Choice.{when◌then◌else◌}
use Rattle.model.specs.File.{body_of, byte_at, after, ins_of, ins_at}
use Rattle.model.specs.Checker.{State, effect, moved}
use Rattle.laws_file.specs.Kinds.{OneOf, AtEach, at_each}
use Rattle.check_scan.specs.Marks.{unreached}
use Rattle.check_rows.specs.declared.Row.{Row}
use Rattle.check_rows.specs.declared.Procedure.{Procedure}
use Rattle.check_rows.specs.declared.Onward.{Onward}
use Rattle.model.specs.declared.Refusal.{Refusal}
use Rattle.model.specs.declared.Refusal.TheVariants as refusal
use Rattle.check_rows.specs.Shape.{Way, Shape, shape, shape_of}
use Rattle.check_rows.specs.Tests.{goes_by, stack_ok, stacks_ok, effect_in}

-- a state is known where the first number is below `unreached`
abbrev pub is_set_in : State → Bool
is_set_in s = ltb s.main unreached

abbrev pub row : ℕ → ℕ → ℕ → ℕ → ℕ → ℕ → Row
row a b c d wm wp = record { popm = a; popp = b; pushm = c; pushp = d; wordm = wm; wordp = wp }

abbrev pub row_shape : Way → Row → Shape
row_shape w r = shape w (effect r.popm r.popp r.pushm r.pushp) r.wordm r.wordp 0 true

-- 5, 6 and 7 in their order
abbrev pub onward_by : Bool → Bool → Bool → Bool → Onward → Result Onward Refusal
onward_by known set on depths r =
    when known then (when set then (when on then (when depths then Ok r else Err refusal.Depths) else Err refusal.Reach) else Err refusal.Reach)
    else Err refusal.Target

-- the place q behind an instruction, the depths that its shape makes there of those of the state s, and whether they pass on
abbrev pub onward_to : State → ℕ → Shape → Onward
onward_to s q sh =
    record { next = q; depths = record { main = (moved (effect_in sh) s).main; ptr = (moved (effect_in sh) s).ptr }; goes = goes_by sh.way }

-- from the state s, with o at the innermost open 160, to the place q
unfoldable pub plainly : State → State → Procedure → ℕ → Shape → Result Onward Refusal
plainly s o l q sh =
    onward_by sh.known (is_set_in s) (when goes_by sh.way then ltb q l.end else true) (stacks_ok sh s o l.x l.y) (onward_to s q sh)

-- what the tests rest on: the depths lie above the floor and, where a state is known, within the greatest
pub record Bounded (s o : State) (l : Procedure) : Type 0 where
  pub main_floor : o.main ≤ s.main
  pub ptr_floor : o.ptr ≤ s.ptr
  pub main_within : s.main < unreached → s.main ≤ l.x
  pub ptr_within : s.main < unreached → s.ptr ≤ l.y
  pub x_byte : l.x < 256
  pub y_byte : l.y < 256

abbrev pub PushesFew : Row → Type 0
PushesFew r = (r.pushm < 256) × (r.pushp < 256)

-- depths that stay as they are pass the tests
pub still : (w : Way) (t : ℕ) (s o : State) (l : Procedure) → Bounded s o l → s.main < unreached →
    stacks_ok (shape w (effect 0 0 0 0) 0 0 t true) s o l.x l.y ≡ true
unfolding stacks_ok stack_ok
still w t s o l B a =
    let m = B.main_within a in
    let q = B.ptr_within a in
    rw (
      le-leb (o.main + 0) s.main (omega (arith, B.main_floor)),
      le-leb (o.ptr + 0) s.ptr (omega (arith, B.ptr_floor)),
      le-leb 0 (s.main - 0) (omega arith),
      le-leb 0 (s.ptr - 0) (omega arith),
      le-leb (s.main - 0 + 0) l.x (omega arith),
      le-leb (s.ptr - 0 + 0) l.y (omega arith),
    )

-- the instruction of kind k at p, whose record has n bytes; and one of the kinds ks
module _ (f : List ℕ) (p : ℕ) (s o : State) (l : Procedure) {r : Result Onward Refusal} where
  pub at_row : {k n : ℕ} {sh : Shape} → byte_at f p ≡ k → suc (body_of k) ≡ n → shape_of f p (ins_of f p k) ≡ sh →
      r ≡ plainly s o l (p + n) sh → r ≡ plainly s o l (after f p) (shape_of f p (ins_at f p))
  unfolding after ins_at
  at_row {k} {n} e b i w = let q : p + 1 + body_of k ≡ p + n = omega (arith, b) in rw (e, q, i) w

  pub at_rows : (n : ℕ) (sh : Shape) (ks : List ℕ) → AtEach (λ k. (suc (body_of k) ≡ n) × (shape_of f p (ins_of f p k) ≡ sh)) ks →
      {k : ℕ} → byte_at f p ≡ k → OneOf ks k → r ≡ plainly s o l (p + n) sh → r ≡ plainly s o l (after f p) (shape_of f p (ins_at f p))
  at_rows n sh ks h {k} e i w = let g = at_each _ ks k h i in at_row e g.0 g.1 w

-- the ways out of a row
module _ (w : Way) (r : Row) (s o : State) (l : Procedure) (q : ℕ) where
  pub unreached-refused : unreached ≤ s.main → Err refusal.Reach ≡ plainly s o l q (row_shape w r)
  unfolding plainly
  unreached-refused a = rw (le-ltb s.main unreached a)

  module _ (a : s.main < unreached) where
    pub past : goes_by w ≡ true → l.end ≤ q → Err refusal.Reach ≡ plainly s o l q (row_shape w r)
    unfolding plainly
    past g e = rw (lt-ltb s.main unreached a, g, le-ltb q l.end e)

    module _ (on : (when goes_by w then ltb q l.end else true) ≡ true) (ok : Bool) (ok-is : ok ≡ stacks_ok (row_shape w r) s o l.x l.y) where
      pub deep : ok ≡ false → Err refusal.Depths ≡ plainly s o l q (row_shape w r)
      unfolding plainly
      deep z = rw (lt-ltb s.main unreached a, on, ← ok-is, z)

      pub onward : ok ≡ true → Ok (onward_to s q (row_shape w r)) ≡ plainly s o l q (row_shape w r)
      unfolding plainly
      onward z = rw (lt-ltb s.main unreached a, on, ← ok-is, z)
