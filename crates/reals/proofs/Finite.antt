-- `f64::is_finite` by the model's word; a real is finite exactly if the difference with itself equals 0; and one that is finite is no NaN.
use mathlib.Core.Path.{◌≡◌, refl, sym, ap, ◌∙◌, subst}
use Prim.Native.Nat.{ℕ, ◌-◌, ◌*◌, ◌/◌, ◌^◌, ◌<◌}
use native.Mathlib.Nat.{zero-mul, mul-pos}
use native.Mathlib.Omega.{arith}
use mathlib.Core.Bool.{Bool, true, false, not, ◌&&◌, cond}
use lib.IntN.{pos}
use lib.Dec.{T, ltb, lit<}
use lib.Ieee.{Float, nan, inf, fin, binary64, up, down, round, sum, add, sub, neg, eq, of_bits, to_bits, fits, is_nan}
use lib.Ieee.Bits.{to_bits-lt}
use lib.Ieee.Fits.{down_pos}
use lib.Ieee.Scale.{finite, round_same}
use borrow.Author.Tests.{le-ltb}
use Rattle.std.specs.Float.{float_is_finite}

pub finite-is : (x : Float) → finite x ≡ float_is_finite x
unfolding float_is_finite
finite-is nan = refl
finite-is (inf s) = refl
finite-is (fin s m e) = refl

-- 0 of any unit rounds to 0
nothing : (s : Bool) (c : ℕ) → 0 < c → round binary64 s 0 c ≡ round binary64 s 0 1
nothing s c h = round_same binary64 s 0 c 0 1 h (lit< tt) (zero-mul 1 ∙ sym (zero-mul c))

self-less : (a : ℕ) → ltb a a ≡ false
self-less a = le-ltb a a (omega arith)

self-minus : (a : ℕ) → a - a ≡ 0
self-minus a = omega arith

-- a number less itself is +0
cancels : (s : Bool) (a c : ℕ) → 0 < c → sum binary64 s a (not s) a c ≡ fin false 0 (pos 0)
unfolding sum round
cancels true a c h =
    ap (λ (b : Bool). cond b (round binary64 false (a - a) c) (round binary64 (true && b) (a - a) c)) (self-less a)
    ∙ ap (λ (z : ℕ). round binary64 false z c) (self-minus a)
    ∙ nothing false c h
cancels false a c h =
    ap (λ (b : Bool). cond b (round binary64 true (a - a) c) (round binary64 (false && b) (a - a) c)) (self-less a)
    ∙ ap (λ (z : ℕ). round binary64 false z c) (self-minus a)
    ∙ nothing false c h

pub by_difference : (x : Float) → eq (sub binary64 x x) (of_bits binary64 0) ≡ finite x
unfolding sub add neg eq of_bits
by_difference nan = refl
by_difference (inf true) = refl
by_difference (inf false) = refl
by_difference (fin s m e) =
    ap (λ (z : Float). eq z (of_bits binary64 0)) (cancels s (m * up e * down e) (down e * down e) (mul-pos (down_pos e) (down_pos e)))

pub no_nan : (x : Float) → finite x ≡ true → T (not (is_nan x))
unfolding is_nan
no_nan nan h = subst T (sym h) tt
no_nan (inf s) h = tt
no_nan (fin s m e) h = tt

-- the high word of a real is a word
pub high_word : (x : Float) → fits binary64 x ≡ true → to_bits binary64 x / 4294967296 < 2 ^ 32
high_word x h = let b : to_bits binary64 x < 2 ^ 64 = to_bits-lt binary64 x (subst T (sym h) tt) in omega arith
