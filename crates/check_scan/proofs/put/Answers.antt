-- `check_scan::put` meets its contract: three stores.
use mathlib.Core.Path.{refl}
use Rattle.check_scan.specs.Marks.{put_in}
use Rattle.check_scan.proofs.put.Goals as goal

pub returns : goal.returns
unfolding put_in
returns c = refl
