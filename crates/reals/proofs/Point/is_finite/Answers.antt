-- `reals::Point::is_finite`: std's test of each real is the model's.
use Rattle.reals.proofs.Finite.{finite-is}
use Rattle.reals.proofs.Point.is_finite.Goals as goal

pub returns-then-is_finite : goal.returns-then-is_finite
returns-then-is_finite c =
    rw (finite-is c.args.self.across, finite-is c.args.self.along, ← c.is_finite.ensures.value, c.if-is_finite.true) c.is_finite-then-is_finite.ensures.value

pub returns-else-is_finite : goal.returns-else-is_finite
returns-else-is_finite c = rw (finite-is c.args.self.across, ← c.is_finite.ensures.value, c.if-is_finite.false)
