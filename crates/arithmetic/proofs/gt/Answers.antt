-- `arithmetic::gt` meets its contract: it is `lt` the other way round.
use Rattle.model.specs.Words.{operate}
use Rattle.arithmetic.proofs.gt.Goals as goal

pub returns : goal.returns
unfolding operate
returns c = c.lt.ensures
