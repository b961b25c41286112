-- `real_steps::put_real`: both words by `reals`.
use Rattle.real_steps.proofs.put_real.Goals as goal

pub returns : goal.returns
returns c = rw (c.high_word.ensures, c.low_word.ensures)
