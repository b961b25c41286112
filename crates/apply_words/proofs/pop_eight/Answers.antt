-- `apply_words::pop_eight` meets its contract: four words go at most, or four and then the rest.
use native.Mathlib.Omega.{arith}
use mathlib.Core.Path.{◌∙◌}
use Rattle.laws.specs.Cuts.{cut-cut, cut-topped}
use Rattle.apply_words.proofs.pop_eight.Goals as goal

pub pop_four-requires-3 : goal.pop_four-requires-3
pop_four-requires-3 c =
    (rw c.pop_four-2.ensures (cut-topped _ _ (omega (arith, c.requires.0.fits))), omega arith, omega arith)

pub returns : goal.returns
returns c =
    c.pop_four-3.ensures ∙ rw c.pop_four-2.ensures (cut-cut _ _ _ (omega arith))
