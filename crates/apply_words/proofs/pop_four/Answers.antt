-- `apply_words::pop_four` meets its contract: two words go at most, or two and then the rest.
use native.Mathlib.Omega.{arith}
use mathlib.Core.Path.{◌∙◌}
use Rattle.laws.specs.Cuts.{cut-cut, cut-topped}
use Rattle.apply_words.proofs.pop_four.Goals as goal

pub pop_two-requires-3 : goal.pop_two-requires-3
pop_two-requires-3 c =
    (rw c.pop_two-2.ensures (cut-topped _ _ (omega (arith, c.requires.0.fits))), omega arith)

pub returns : goal.returns
returns c =
    c.pop_two-3.ensures ∙ rw c.pop_two-2.ensures (cut-cut _ _ _ (omega arith))
