-- `arithmetic::ge` meets its contract: it is `le` the other way round.
use Rattle.model.specs.Words.{operate}
use Rattle.arithmetic.proofs.ge.Goals as goal

pub returns : goal.returns
unfolding operate
returns c = c.le.ensures
