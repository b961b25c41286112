-- `apply::unwind` meets its contract: the topmost record goes, then the rest down to the handler's.
use native.Mathlib.Omega.{arith}
use mathlib.Core.Path.{◌∙◌}
use Rattle.laws.specs.Cuts.{cut-cut, cut-topped}
use Rattle.apply.proofs.unwind.Goals as goal

pub cut_to-requires : goal.cut_to-requires
cut_to-requires c =
    rw c.clear_record.ensures (cut-topped _ _ (omega (arith, c.requires.0.fits)))

pub returns : goal.returns
returns c =
    c.cut_to.ensures ∙ rw c.clear_record.ensures (cut-cut _ _ _ (omega arith))
