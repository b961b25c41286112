-- `apply_words::pop_some` meets its contract: one word goes or two; a single one is zeroed twice.
use Rattle.laws.specs.Cuts.{cut-two}
use Rattle.apply_words.proofs.pop_some.Goals as goal

pub returns : goal.returns
returns c = cut-two _ _ _ c.requires.1 c.requires.2 c.requires.0
