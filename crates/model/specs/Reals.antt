-- Manual 2.17, 2.18: reals and hoop points, by the library's account of IEEE 754. Manual 4.32 to 4.34: the operations on them.
use Rattle.std.specs.Prelude.{ℕ, ◌+◌, ◌*◌, ◌/◌, ◌%◌, Bool, true, ◌&&◌, List, [], ◌∷◌, Float}
use Rattle.std.specs.Float.{binary64}
use Rattle.std.specs.Float.Ieee.{of_bits, to_bits, add, sub, mul, div, lt}
use Rattle.std.specs.Float.Ieee.Scale.{finite}

-- Manual 2.1: how many values a word has, 2^32
abbrev pub words_many : ℕ
words_many = 4294967296

-- Manual 2.17: the real that two words are. Every pattern of a NaN is the one NaN
unfoldable pub real_of : ℕ → ℕ → Float
real_of high low = of_bits binary64 (high * words_many + low)

-- Manual 2.17: the words of reals, the first real's lowest, of each the high word lower
unfoldable pub words_of : List Float → List ℕ
words_of [] = []
words_of (x ∷ xs) = to_bits binary64 x / words_many ∷ to_bits binary64 x % words_many ∷ words_of xs

-- Manual 2.17: neither a NaN nor an infinity among them
unfoldable pub all_finite : List Float → Bool
all_finite [] = true
all_finite (x ∷ xs) = finite x && all_finite xs

-- Manual 4.32: the operations on two reals, A under B: 150 f_plus, 151 f_times, 152 f_minus, 153 f_divide
pub data RealOp : Type 0 where
  f_plus f_times f_minus f_divide : RealOp

-- Manual 4.32: each result is rounded once
unfoldable pub operate_reals : RealOp → Float → Float → Float
operate_reals f_plus a b = add binary64 a b
operate_reals f_times a b = mul binary64 a b
operate_reals f_minus a b = sub binary64 a b
operate_reals f_divide a b = div binary64 a b

-- Manual 4.33: A is less than B; where either is a NaN, it is not
unfoldable pub less_reals : Float → Float → Bool
less_reals a b = lt a b

-- Manual 2.18: a hoop point is two reals
pub record Point : Type 0 where
  pub across : Float
  pub along : Float

abbrev pub point : Float → Float → Point
point x y = record { across = x; along = y }

-- Manual 2.18: its reals, across and along above it
abbrev pub reals_of : Point → List Float
reals_of p = p.across ∷ p.along ∷ []

-- Manual 4.34: a point scaled: each product is rounded once
abbrev pub scaled : Float → Point → Point
scaled k p = point (mul binary64 p.across k) (mul binary64 p.along k)

-- Manual 4.34: a point shifted: each sum is rounded once
abbrev pub shifted : Point → Point → Point
shifted t p = point (add binary64 p.across t.across) (add binary64 p.along t.along)
