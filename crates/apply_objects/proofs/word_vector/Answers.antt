-- The object is begun, its first plain word is the bound, and the others are filled.
use mathlib.Core.Path.{refl}
use native.Mathlib.Omega.{arith}
use lib.ListN.{length-set}
use Rattle.apply_objects.specs.Laws.{plain-filled}
use Rattle.apply_objects.proofs.word_vector.Goals as goal

pub fill-requires : goal.fill-requires
fill-requires c =
    let B = c.begin-first in
    let P = c.requires in
    simp length-set (omega (arith, P.2.free, B.ensures.first, B.auto.heap))

pub shape_of-heap : goal.shape_of-heap
shape_of-heap c =
    omega (arith, simp length-set at c.fill.auto.heap, c.begin-first.auto.heap)

pub returns : goal.returns
returns c =
    let B = c.begin-first in
    plain-filled _ _ _ _ B.ensures.first B.ensures.begun _ _ refl refl refl c.fill.ensures
