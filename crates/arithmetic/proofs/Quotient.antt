-- Manual 4.19: A = B × quotient + remainder: `quotient-remainder` for all whole numbers, `words-divided` for the words that the two operations
-- give.
-- By the signs, from the same law of natural numbers; for a divisor 0 the law holds of the definitions too, though both operations raise.
use Prim.Native.Nat.{ℕ, zero, suc, ◌*◌, ◌/◌, ◌%◌, ◌<◌}
use mathlib.Core.Bool.{Bool, true, false}
use mathlib.Core.Path.{◌≡◌, refl, sym, ◌∙◌, ap}
use lib.IntN.{ℤ, pos, negsuc, neg_ℤ, nat_abs, ◌+ℤ◌, ◌*ℤ◌, neg_ℤ-+ℤ}
use lib.Dec.{eqb}
use lib.Signed.{quot_z, rem_z}
use mir.Syntax.{w32}
use mir.Val.{of_z}
use mir.ValLaws.{to_z-of_z}
use native.Mathlib.Nat.{div-add-mod, mod-lt, mul-zero}
use Rattle.model.specs.Choice.{when◌then◌else◌}
use Rattle.model.specs.Words.{signed, to_word, in_range, value_of, Op, operate}
use Rattle.std.specs.Prelude.{Option, Some, None}
use Rattle.arithmetic.proofs.Bounds.{signed_is, to_word_is, range-fits}

pos-times-neg : (b q : ℕ) → pos b *ℤ neg_ℤ (pos q) ≡ neg_ℤ (pos (b * q))
pos-times-neg b zero = rw mul-zero
pos-times-neg b (suc q) = refl

neg-times-neg : (b q : ℕ) → negsuc b *ℤ neg_ℤ (pos q) ≡ pos (suc b * q)
neg-times-neg b zero = rw mul-zero
neg-times-neg b (suc q) = refl

-- the law of natural numbers, negated
negated : (n d : ℕ) → neg_ℤ (pos n) ≡ neg_ℤ (pos (d * (n / d))) +ℤ neg_ℤ (pos (n % d))
negated n d = ap (λ (m : ℕ). neg_ℤ (pos m)) (sym (div-add-mod n d)) ∙ neg_ℤ-+ℤ (pos (d * (n / d))) (pos (n % d))

pub quotient-remainder : (x d : ℤ) → x ≡ (d *ℤ quot_z x d) +ℤ rem_z x d
quotient-remainder (pos n) (pos b) = ap pos (sym (div-add-mod n b))
quotient-remainder (pos n) (negsuc b) = rw neg-times-neg (ap pos (sym (div-add-mod n (suc b))))
quotient-remainder (negsuc n) (pos b) = rw pos-times-neg (negated (suc n) b)
quotient-remainder (negsuc n) (negsuc b) = negated (suc n) (suc b)

nat_abs-neg : (n : ℕ) → nat_abs (neg_ℤ (pos n)) ≡ n
nat_abs-neg zero = refl
nat_abs-neg (suc n) = refl

-- so the quotient is the nearest towards zero: the remainder, which has the dividend's sign, is nearer to 0 than the divisor
pub remainder-below : (x d : ℤ) → 0 < nat_abs d → nat_abs (rem_z x d) < nat_abs d
remainder-below (pos n) d h = mod-lt n h
remainder-below (negsuc n) d h = rw nat_abs-neg (mod-lt (suc n) h)

-- ---- of words

first : (t : Bool) (w : ℕ) {q : ℕ} → (when t then Some w else None) ≡ Some q → (t ≡ true) × (w ≡ q)
first true w e = (refl, cc)
first false w e = cc

second : (t : Bool) (v : Option ℕ) {q : ℕ} → (when t then None else v) ≡ Some q → v ≡ Some q
second true v e = cc
second false v e = e

-- a result's word has the result as its whole number
pub result-word : (z : ℤ) {q : ℕ} → value_of z ≡ Some q → signed q ≡ z
unfolding value_of
result-word z e =
    let p = first (in_range z) (to_word z) e in
    ap signed (sym p.1 ∙ to_word_is z) ∙ signed_is (of_z w32 z) ∙ to_z-of_z w32 z (range-fits z p.0)

pub words-divided : (a b q r : ℕ) → operate Op.div a b ≡ Some q → operate Op.rem a b ≡ Some r → signed a ≡ (signed b *ℤ signed q) +ℤ signed r
unfolding operate
words-divided a b q r d e =
    let m = result-word (quot_z (signed a) (signed b)) (second (eqb b 0) _ d) in
    let n = result-word (rem_z (signed a) (signed b)) (second (eqb b 0) _ e) in
    rw (m, n) (quotient-remainder (signed a) (signed b))
