-- An operation's real by its code, and a point as the definitions have it.
use Rattle.std.specs.Prelude.{ℕ, ◌≡◌, List, Float}
use Rattle.model.specs.File.{basic, real, ins_of}
use Rattle.model.specs.Reals.{RealOp, operate_reals, Point, point}
use Rattle.reals.specs.declared.Point as declared

-- code k stands for an operation, and x is what that gives of a and b
pub record Operates (k : ℕ) (a b x : Float) : Type 0 where
  pub op : RealOp
  pub code : (f : List ℕ) (p : ℕ) → ins_of f p k ≡ basic (real op)
  pub is : x ≡ operate_reals op a b

abbrev pub as_point : declared.Point → Point
as_point p = point p.across p.along
