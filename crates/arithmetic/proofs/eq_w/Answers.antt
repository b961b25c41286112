-- `arithmetic::eq_w` meets its contract: the test is the bit.
use mathlib.Core.Path.{◌∙◌, ap}
use Rattle.std.specs.Prelude.{Some}
use Rattle.model.specs.Words.{operate}
use Rattle.arithmetic.proofs.Bounds.{bit_is}
use Rattle.arithmetic.proofs.eq_w.Goals as goal

pub returns : goal.returns
unfolding operate
returns c = ap Some (c.from.ensures ∙ bit_is _)
