-- `arithmetic::div` meets its contract: with B = 0 and -2^31 by -1 tested first, the quotient fits 32 bits, and its word is its value.
use mathlib.Core.Logic.{⊎_elim, inl, inr}
use borrow.Author.Tests.{eq-eqb, ne_eqb, eqb-true}
use native.Mathlib.Omega.{arith}
use mir.Syntax.{w32}
use Rattle.model.specs.Words.{signed, to_word, in_range, value_of, operate}
use mir.ValLaws.{to_z-of_z}
use Rattle.arithmetic.proofs.Bounds.{signed-bits, read, quotient_fits, made}
use Rattle.arithmetic.proofs.div.Goals as goal

pub returns-then-b-eq0 : goal.returns-then-b-eq0
unfolding operate
returns-then-b-eq0 c = rw (eq-eqb _ 0 c.if-b-eq0.true)

pub returns-then-b-eq-MINUS_ONE : goal.returns-then-b-eq-MINUS_ONE
unfolding operate value_of in_range to_word signed
returns-then-b-eq-MINUS_ONE c = rw (c.if-a-eq-LEAST.true, eqb-true c.args.b 4294967295 c.if-b-eq-MINUS_ONE.true-raw)

pub nonzero_div-whole : goal.nonzero_div-whole
nonzero_div-whole c =
    let x = c.whole in
    let y = c.whole-2 in
    let s = c.ranges in
    let h = ⊎_elim (λ w. inr w.1) (λ w. inl w) c.else-a-eq-LEAST.either in
    let k = quotient_fits s.a.fits s.b.fits h in
    (rw (y.ensures, signed-bits _ s.b.fits) (omega (arith, c.if-b-eq0.false)), rw (read w32 x.type_inv x.ensures, read w32 y.type_inv y.ensures) k)

pub returns : goal.returns
unfolding operate
returns c =
    let x = c.whole in
    let y = c.whole-2 in
    let s = c.ranges in
    let h = ⊎_elim (λ w. inr w.1) (λ w. inl w) c.else-a-eq-LEAST.either in
    let k = quotient_fits s.a.fits s.b.fits h in
    let f = read w32 x.type_inv x.ensures in
    let g = read w32 y.type_inv y.ensures in
    rw (ne_eqb _ 0 c.if-b-eq0.false) (made k (rw (f, g, to_z-of_z w32 _ k) at c.word.ensures))
