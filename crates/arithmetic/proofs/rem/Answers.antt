-- `arithmetic::rem` meets its contract: with B = 0 and B = -1 tested first, the machine's division is defined, and the remainder's word is its value.
use mathlib.Core.Logic.{inr}
use borrow.Author.Tests.{eq-eqb, ne_eqb}
use native.Mathlib.Omega.{arith}
use mir.Syntax.{w32}
use mir.ValLaws.{to_z-of_z}
use Rattle.model.specs.Words.{signed, to_word, in_range, value_of, operate}
use Rattle.arithmetic.proofs.Bounds.{signed-bits, read, quotient_fits, remainder-fits, remainder-by-one, made}
use Rattle.arithmetic.proofs.rem.Goals as goal

pub returns-then-b-eq0 : goal.returns-then-b-eq0
unfolding operate
returns-then-b-eq0 c = rw (eq-eqb _ 0 c.if-b-eq0.true)

pub returns-then-b-eq-MINUS_ONE : goal.returns-then-b-eq-MINUS_ONE
unfolding operate value_of in_range to_word signed
returns-then-b-eq-MINUS_ONE c = rw (c.if-b-eq-MINUS_ONE.true, remainder-by-one)

pub nonzero_rem-whole : goal.nonzero_rem-whole
nonzero_rem-whole c =
    let x = c.whole in
    let y = c.whole-2 in
    let s = c.ranges in
    let k = quotient_fits s.a.fits s.b.fits (inr c.if-b-eq-MINUS_ONE.false) in
    (rw (y.ensures, signed-bits _ s.b.fits) (omega (arith, c.if-b-eq0.false)), rw (read w32 x.type_inv x.ensures, read w32 y.type_inv y.ensures) k)

pub returns : goal.returns
unfolding operate
returns c =
    let x = c.whole in
    let y = c.whole-2 in
    let k = remainder-fits c.args.a c.args.b c.ranges.a.fits in
    let f = read w32 x.type_inv x.ensures in
    let g = read w32 y.type_inv y.ensures in
    rw (ne_eqb _ 0 c.if-b-eq0.false) (made k (rw (f, g, to_z-of_z w32 _ k) at c.word.ensures))
