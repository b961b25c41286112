-- Which 64 bits are a NaN's: those above the infinity's with the sign's bit taken off.
use mathlib.Core.Path.{◌≡◌, refl, sym, ◌∙◌, subst}
use Prim.Native.Nat.{ℕ, ◌%◌, ◌≤◌, ◌<◌}
use mathlib.Core.Bool.{Bool, not}
use lib.Dec.{T}
use lib.Ieee.{Float, nan, inf, fin, binary64, is_nan, nan_bits, of_bits}
use lib.Ieee.Bits.{nan_bits_is, nan_bits_above}
use borrow.Author.Tests.{le-ltb, lt-ltb}

only_nan : (v : Float) → T (is_nan v) → v ≡ nan
unfolding is_nan
only_nan nan t = refl
only_nan (inf s) t = absurd t
only_nan (fin s m e) t = absurd t

pub a-number : (n : ℕ) → n % 9223372036854775808 ≤ 9218868437227405312 → T (not (nan_bits binary64 n))
a-number n h = subst (λ (b : Bool). T (not b)) (sym (nan_bits_above binary64 n ∙ le-ltb _ _ h)) tt

pub no_number : (n : ℕ) → 9218868437227405312 < n % 9223372036854775808 → of_bits binary64 n ≡ nan
no_number n h = only_nan (of_bits binary64 n) (subst T (sym (nan_bits_above binary64 n ∙ lt-ltb _ _ h) ∙ nan_bits_is binary64 n) tt)

-- the pattern of `f64::NAN`
pub nan-is : of_bits binary64 9221120237041090560 ≡ nan
unfolding of_bits
nan-is = refl
