-- `check_scan::follows` meets its contract: past the file nothing starts, in it the map tells.
use Rattle.laws.specs.Choices.{cases}
use Rattle.check_scan.specs.Heading.{starts_at}
use Rattle.check_scan.proofs.follows.Goals as goal

pub returns-then-q-n : goal.returns-then-q-n
unfolding starts_at
returns-then-q-n c = search cases

pub returns-else-q-n : goal.returns-else-q-n
unfolding starts_at
returns-else-q-n c = search cases
