-- `arithmetic::lt` meets its contract: the machine compares what it reads from the bits, the two whole numbers.
use lib.Signed.{lt_z}
use Rattle.model.specs.Words.{operate}
use Rattle.arithmetic.proofs.Bounds.{compared}
use Rattle.arithmetic.proofs.lt.Goals as goal

pub returns : goal.returns
unfolding operate
returns c = let x = c.whole in let y = c.whole-2 in compared lt_z x.type_inv y.type_inv x.ensures y.ensures c.from.ensures
