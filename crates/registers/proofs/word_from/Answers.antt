-- The word is the sum of its four bytes, each below 256.
use Rattle.std.proofs.Common.{arith}
use Rattle.std.proofs.lemmas.Grind.{common_steps}
use Rattle.model.specs.Control.{word_from}
use Rattle.registers.proofs.word_from.Goals as goal

pub returns : goal.returns
unfolding word_from
returns c = let read = rw c.unwrap-word.ensures at c.try_from.ensures.1 in grind (arith, common_steps)
