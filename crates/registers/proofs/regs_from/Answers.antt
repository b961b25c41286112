-- Each register is a word of the bytes.
use Rattle.std.proofs.Common.{arith}
use Rattle.std.proofs.lemmas.Grind.{common_steps}
use Rattle.model.specs.Control.{regs_from}
use Rattle.registers.proofs.regs_from.Goals as goal

pub returns : goal.returns
unfolding regs_from
returns c = grind (arith, common_steps)
