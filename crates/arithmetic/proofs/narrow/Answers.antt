-- `arithmetic::narrow` meets its contract: its two tests are whether the number fits 32 bits.
use mathlib.Core.Path.{◌∙◌, ap}
use native.Mathlib.Omega.{arith}
use mir.Syntax.{w32}
use mir.Val.{SFits}
use Rattle.std.proofs.lemmas.Int.{ints}
use Rattle.model.specs.Words.{to_word}
use Rattle.arithmetic.proofs.Bounds.{made, unmade}
use Rattle.arithmetic.proofs.narrow.Goals as goal

pub returns-then-z-from : goal.returns-then-z-from
returns-then-z-from c = unmade _ (λ f. grind (arith, ints))

pub returns-then-from-z : goal.returns-then-from-z
returns-then-from-z c = unmade _ (λ f. grind (arith, ints))

pub returns : goal.returns
returns c =
    let f : SFits w32 c.args.z = grind (arith, ints) in
    made f (c.word.ensures ∙ ap to_word (grind (arith, ints)))
