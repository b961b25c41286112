-- What `work` is lent is what the bench lends.
use Rattle.std.proofs.Common.{refl}
use Rattle.show.proofs.on_bench.Goals as goal

pub returns : goal.returns
returns g c =
    (_, _, record { map = refl; main = refl; ptr = refl; ctl = refl; heap = refl; registers = refl }, record { shown = _; shows = refl; left = _; met = c.work.ensures; leaves = refl })
