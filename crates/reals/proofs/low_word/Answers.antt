-- `reals::low_word`: what is finite is no NaN, so that its bits are asked.
use Rattle.reals.proofs.Finite.{no_nan}
use Rattle.reals.proofs.low_word.Goals as goal

pub float_to_bits-result : goal.float_to_bits-result
float_to_bits-result c = no_nan _ c.requires
