-- `arithmetic::neg` meets its contract: what lies in the range fits 32 bits; the machine negates by taking from 0.
use lib.IntN.{+ℤ_idl}
use mir.Syntax.{w32}
use mir.ValLaws.{to_z-of_z}
use Rattle.model.specs.Words.{signed, in_range, value_of, operate1}
use Rattle.arithmetic.proofs.Bounds.{read, negative_fits, made}
use Rattle.arithmetic.proofs.neg.Goals as goal

pub returns-then-a-eq-LEAST : goal.returns-then-a-eq-LEAST
unfolding operate1 value_of in_range signed
returns-then-a-eq-LEAST c = rw c.if-a-eq-LEAST.true

pub overflow_sub-whole : goal.overflow_sub-whole
overflow_sub-whole c =
    rw (read w32 c.whole.type_inv c.whole.ensures, +ℤ_idl) (negative_fits _ c.ranges.a.fits c.if-a-eq-LEAST.false)

pub returns : goal.returns
unfolding operate1
returns c =
    let k = negative_fits c.args.a c.ranges.a.fits c.if-a-eq-LEAST.false in
    made k (rw (read w32 c.whole.type_inv c.whole.ensures, +ℤ_idl, to_z-of_z w32 _ k) at c.word.ensures)
