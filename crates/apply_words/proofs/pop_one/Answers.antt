-- `apply_words::pop_one` meets its contract: no word goes, or the one at the new top.
use Rattle.laws.specs.Cuts.{cut-above}
use Rattle.apply_words.proofs.pop_one.Goals as goal

pub returns-then-old-new : goal.returns-then-old-new
returns-then-old-new c = cut-above _ _ _ c.if-old-new.true c.requires.0
