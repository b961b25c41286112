-- `reals::less`: by the test, 1 or 0.
use mathlib.Core.Bool.{Bool, true, false}
use mathlib.Core.Path.{◌≡◌, refl}
use Rattle.std.specs.Int.{from_bool}
use Rattle.model.specs.Words.{bit}
use Rattle.model.specs.Reals.{less_reals}
use Rattle.reals.proofs.less.Goals as goal

is-bit : (b : Bool) → from_bool b ≡ bit b
is-bit true = refl
is-bit false = refl

pub returns : goal.returns
unfolding less_reals
returns c = rw c.from.ensures (is-bit _)
