-- `arithmetic::not` meets its contract: the test is the bit.
use mathlib.Core.Path.{◌∙◌, ap}
use Rattle.std.specs.Prelude.{Some}
use Rattle.model.specs.Words.{operate1}
use Rattle.arithmetic.proofs.Bounds.{bit_is}
use Rattle.arithmetic.proofs.not.Goals as goal

pub returns : goal.returns
unfolding operate1
returns c = ap Some (c.from.ensures ∙ bit_is _)
