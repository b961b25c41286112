-- `arithmetic::whole` meets its contract: std's cast reads the bits as `signed` does.
use mathlib.Core.Path.{sym, ◌∙◌}
use mir.Syntax.{w32}
use Rattle.arithmetic.proofs.Bounds.{signed_is, read}
use Rattle.arithmetic.proofs.whole.Goals as goal

pub returns : goal.returns
returns c = read w32 c.cast_signed.type_inv (c.cast_signed.ensures ∙ sym (signed_is c.args.w))
