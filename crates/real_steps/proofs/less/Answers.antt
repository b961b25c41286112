-- `real_steps::less`: the word is the rule's, in the place of four.
use mathlib.Core.Path.{◌∙◌}
use Rattle.real_steps.specs.Does.{moves-on}
use Rattle.real_steps.specs.Done.{less_done}
use Rattle.real_steps.proofs.less.Goals as goal

pub returns : goal.returns
returns c =
    rw (c.goes_on.ensures, c.cut_to.ensures) (moves-on (less_done _ _ _ c.requires.1 _ (c.less-word.ensures ∙ rw (c.real_at.ensures, c.real_at-2.ensures))))
