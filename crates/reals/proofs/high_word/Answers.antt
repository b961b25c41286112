-- `reals::high_word`: what is finite is no NaN, so that its bits are asked; they are below 2^64.
use Rattle.reals.proofs.Finite.{no_nan, high_word}
use Rattle.reals.proofs.high_word.Goals as goal

pub float_to_bits-result : goal.float_to_bits-result
float_to_bits-result c = no_nan _ c.requires

pub overflow_cast-result : goal.overflow_cast-result
overflow_cast-result c = record { fits = high_word c.args.x c.well_formed.0.1 }
