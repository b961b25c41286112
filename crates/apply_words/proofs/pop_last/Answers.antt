-- `apply_words::pop_last` meets its contract: the one word that goes is that at the new top.
use native.Mathlib.Omega.{arith}
use Rattle.laws.specs.Cuts.{cut-one}
use Rattle.apply_words.proofs.pop_last.Goals as goal

pub returns : goal.returns
returns c = cut-one _ _ _ (omega arith) (omega arith) c.requires.0
