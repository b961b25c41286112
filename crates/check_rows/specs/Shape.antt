-- What the checker looks at in an instruction, as one record: the shape of an instruction. Every rule of the flow is a test on it
-- (`Tests`).
use Rattle.std.specs.Prelude.{ℕ, suc, Bool, true, List, leb}
use Rattle.model.specs.File.{on_main, on_ptr, Basic, local, assign, field, set_field, make, literal, nil, root, set_root, retract, binary, same_ptr, unary}
use Rattle.model.specs.File.{element, set_element, real_literal, real, real_less, hoop, Ins, basic, jump, branch, branch_keep, call, return, enter, exit, raise, procs}
use Rattle.model.specs.Checker.{Effect, effect, basic_effect, effect_of, handler_at}

-- where an instruction passes its state
pub data Way : Type 0 where
  Next : Way  -- to the next instruction
  Jump : Way  -- to its target
  Branch : Way  -- to both, after the pop
  Keep : Way  -- to the next after the pop, to its target before it
  Open : Way  -- opens a handler
  Close : Way  -- closes the innermost handler
  Return : Way
  Raise : Way

pub record Shape : Type 0 where
  pub way : Way
  pub popm : ℕ
  pub popp : ℕ
  pub pushm : ℕ
  pub pushp : ℕ
  pub wordm : ℕ
  pub wordp : ℕ
  pub target : ℕ
  pub known : Bool  -- the procedure that a call names is there

abbrev pub shape : Way → Effect → ℕ → ℕ → ℕ → Bool → Shape
shape w e wm wp q t =
    record {
      way = w;
      popm = e.pop_main;
      popp = e.pop_ptr;
      pushm = e.push_main;
      pushp = e.push_ptr;
      wordm = wm;
      wordp = wp;
      target = q;
      known = t;
    }

-- how many words of each stack must be left after the pops: a frame word s asks for s + 1
abbrev pub words : Basic → ℕ × ℕ
words (local on_main s) = (suc s, 0)
words (local on_ptr s) = (0, suc s)
words (assign on_main s) = (suc s, 0)
words (assign on_ptr s) = (0, suc s)
words (field d s) = (0, 0)
words (set_field d s) = (0, 0)
words (make k) = (0, 0)
words (literal w) = (0, 0)
words nil = (0, 0)
words root = (0, 0)
words set_root = (0, 0)
words (retract a k n) = (0, 0)
words (binary o) = (0, 0)
words same_ptr = (0, 0)
words (unary o) = (0, 0)
words (element d) = (0, 0)
words (set_element d) = (0, 0)
words (real_literal h l) = (0, 0)
words (real o) = (0, 0)
words real_less = (0, 0)
words hoop = (0, 0)

-- the shape of the instruction at p
unfoldable pub shape_of : List ℕ → ℕ → Ins → Shape
shape_of f p (basic b) = shape Next (basic_effect b) (words b).0 (words b).1 0 true
shape_of f p (jump q) = shape Jump (effect 0 0 0 0) 0 0 q true
shape_of f p (branch t q) = shape Branch (effect 1 0 0 0) 0 0 q true
shape_of f p (branch_keep t q) = shape Keep (effect 1 0 0 0) 0 0 q true
shape_of f p (call n) = shape Next (effect_of f (call n)) 0 0 0 (leb (suc n) (procs f))
shape_of f p return = shape Return (effect 0 0 0 0) 0 0 0 true
shape_of f p (enter s) = shape Open (effect 0 0 0 0) 0 0 (handler_at f p s) true
shape_of f p exit = shape Close (effect 0 0 0 0) 0 0 0 true
shape_of f p raise = shape Raise (effect 1 0 0 0) 0 0 0 true
