-- The object is begun, its pointer words are filled, and the word behind them is the bound.
use mathlib.Core.Path.{refl}
use native.Mathlib.Omega.{arith}
use lib.ListN.{length-set}
use Rattle.apply_objects.specs.Laws.{pointers-filled}
use Rattle.apply_objects.proofs.ptr_vector.Goals as goal

pub shape_of-heap : goal.shape_of-heap
shape_of-heap c =
    simp length-set (omega (arith, c.fill.auto.heap, c.begin-first.auto.heap))

pub returns : goal.returns
returns c =
    let B = c.begin-first in
    pointers-filled _ _ _ _ B.ensures.first B.ensures.begun _ _ refl refl refl c.fill.ensures
