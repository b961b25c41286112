-- `arithmetic::word` meets its contract: std's cast gives the bits, which are the word.
use mathlib.Core.Path.{sym, ◌∙◌, ap}
use mir.Syntax.{w32}
use mir.Val.{of_z}
use mir.ValLaws.{to_z-of_z}
use Rattle.arithmetic.proofs.Bounds.{to_word_is}
use Rattle.arithmetic.proofs.word.Goals as goal

pub returns : goal.returns
returns c = c.cast_unsigned.ensures ∙ ap (of_z w32) (to_z-of_z w32 _ c.ranges.z) ∙ sym (to_word_is c.args.z)
