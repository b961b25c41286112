-- `apply_words::pop_two` meets its contract: no word goes, or one or two.
use Rattle.laws.specs.Cuts.{cut-above}
use Rattle.apply_words.proofs.pop_two.Goals as goal

pub returns-then-old-new : goal.returns-then-old-new
returns-then-old-new c = cut-above _ _ _ c.if-old-new.true c.requires.0
