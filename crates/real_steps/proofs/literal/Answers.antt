-- `real_steps::literal`: the two words of the body, one above the other, are words pushed.
use Rattle.real_steps.specs.Does.{moves-on}
use Rattle.real_steps.specs.Done.{literal-done}
use Rattle.real_steps.proofs.literal.Goals as goal

pub returns : goal.returns
returns c = rw c.goes_on.ensures (moves-on (literal-done _ _ _ _ _ _ _ c.operand4.ensures.is c.operand_low.ensures.is))
