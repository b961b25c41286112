-- `reals::real_of`: the test tells the patterns of NaNs apart.
use mathlib.Core.Path.{sym, ap, ◌∙◌}
use lib.Ieee.{binary64, of_bits}
use Rattle.model.specs.Reals.{real_of}
use Rattle.std.proofs.lemmas.Float.{not_nan_f64_bits}
use Rattle.reals.proofs.Patterns.{no_number, nan-is}
use Rattle.reals.proofs.real_of.Goals as goal

pub float_from_bits-result : goal.float_from_bits-result
float_from_bits-result c = not_nan_f64_bits _ c.if-bits-le-INFINITY.true

pub returns-then-bits-le-INFINITY : goal.returns-then-bits-le-INFINITY
unfolding real_of
returns-then-bits-le-INFINITY c = ap (of_bits binary64) c.pattern-bits.ensures

pub returns-else-bits-le-INFINITY : goal.returns-else-bits-le-INFINITY
unfolding real_of
returns-else-bits-le-INFINITY c = nan-is ∙ sym (no_number _ c.if-bits-le-INFINITY.false) ∙ ap (of_bits binary64) c.pattern-bits.ensures
