-- Each sum is a word of the bytes.
use Rattle.model.specs.Control.{sums_from}
use Rattle.registers.proofs.sums_from.Goals as goal

pub returns : goal.returns
unfolding sums_from
returns c = cc
