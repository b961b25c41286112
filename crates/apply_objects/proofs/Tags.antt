-- The last arm of `make`: what is neither a view nor a vector of words is told by its position, and is a vector of pointers.
use Prim.Native.Nat.{ℕ}
use mathlib.Core.Path.{◌≡◌}
use mathlib.Core.List.{List, [], ◌∷◌}
use mathlib.Core.Logic.{inl, inr}
use types.Run.{OneOf, miss}
use denote.Enum.Declared.{tag_of}
use Rattle.plan_meaning.specs.contracts.Into as made
use Rattle.plan_meaning.specs.declared.Into.{Into}
use Rattle.plan_meaning.specs.declared.Into.TheVariants as into
use Rattle.apply_objects.specs.Asks.{MakesNew}

-- all but View and WordVector
abbrev others : List ℕ
others = 0 ∷ 1 ∷ 2 ∷ 3 ∷ 4 ∷ 5 ∷ 6 ∷ 7 ∷ 8 ∷ 9 ∷ 11 ∷ 12 ∷ 13 ∷ 14 ∷ 15 ∷ 16 ∷ 18 ∷ 19 ∷ 20 ∷ []

pub last_one : (i : Into) → MakesNew i → OneOf others (tag_of made.the_type i) → i ≡ into.PtrVector
last_one i (inl e) k = absurd (miss others 10 tt (rw e at k))
last_one i (inr (inl e)) k = absurd (miss others 17 tt (rw e at k))
last_one i (inr (inr e)) k = e
