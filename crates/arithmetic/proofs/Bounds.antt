-- Whole numbers in the machine's bits: those of words fit 32 bits, and a result that fits 32 bits has its word as its value.
use native.Mathlib.Nat.{div-le_self, div-lt_iff_lt-mul}
use Prim.Native.Nat.{◌%◌, ℕ, suc, ◌-◌, ◌^◌, ◌<◌, ◌≤◌, zero, ◌*◌, ◌/◌}
use mathlib.Core.Bool.{Bool, true, false, ◌&&◌}
use mathlib.Core.Logic.{◌⊎◌, inl, inr, ⊎_elim}
use mathlib.Core.Path.{◌≡◌, refl, sym, ◌∙◌, ap}
use lib.IntN.{ℤ, pos, negsuc, neg_ℤ}
use lib.Signed.{mag, mag_rem, quot_z, rem_z}
use lib.Dec.{ltb}
use mir.Syntax.{Width, w32}
use mir.Val.{SFits, to_z, of_z, sel, hbits, bool_byte}
use mir.ValLaws.{to_z-of_z, to_z-Fits, of_z-to_z, sfits_le}
use borrow.Author.Tests.{le-leb, leb-true}
use native.Mathlib.Decide.{dec_lt}
use native.Mathlib.Omega.{arith}
use Rattle.model.specs.Choice.{when◌then◌else◌}
use Rattle.model.specs.Words.{signed, to_word, bit, in_range, value_of}
use Rattle.std.specs.Prelude.{Some, None}

pub split : (a b : ℕ) → (a < b) ⊎ (b ≤ a)
split a b = elim (dec_lt a b) [ yes h ↦ inl h | no h ↦ inr (omega arith) ]

-- ---- words

sel-if : (t : Bool) (x y z : ℤ) → y ≡ z → (when t then x else y) ≡ sel t x z
sel-if true x y z e = refl
sel-if false x y z e = e

-- the machine's reading of 32 bits
pub signed_is : (a : ℕ) → signed a ≡ to_z w32 a
unfolding signed
signed_is a =
    let e : 4294967295 - a ≡ 4294967296 - suc a = omega arith in
    sel-if (ltb a 2147483648) (pos a) (negsuc (4294967295 - a)) (negsuc (4294967296 - suc a)) (ap negsuc e)

pub signed-fits : (a : ℕ) → a < 4294967296 → SFits w32 (signed a)
signed-fits a h = rw signed_is (to_z-Fits w32 a (record { fits = h }))

pub signed-bits : (a : ℕ) → a < 4294967296 → of_z w32 (signed a) ≡ a
signed-bits a h = rw signed_is (of_z-to_z w32 a (record { fits = h }))

-- a whole number's bits are its word
pub to_word_is : (z : ℤ) → to_word z ≡ of_z w32 z
unfolding to_word
to_word_is (pos n) = refl
to_word_is (negsuc n) = omega arith

-- what the machine reads from the bits of a number that fits
pub read : (w : Width) {x s : ℤ} → mag x < 2 ^ hbits w → x ≡ s → to_z w (of_z w x) ≡ s
read w {x} f d = to_z-of_z w x (record { sfits = f }) ∙ d

-- a test as a word
pub bit_is : (t : Bool) → bool_byte t ≡ bit t
bit_is true = refl
bit_is false = refl

-- the bit of a comparison of what the machine reads from the bits of x and y
pub compared : (op : ℤ → ℤ → Bool) {x y s t : ℤ} {r : ℕ} → mag x < 2147483648 → mag y < 2147483648 → x ≡ s → y ≡ t →
    r ≡ bool_byte (op (to_z w32 (of_z w32 x)) (to_z w32 (of_z w32 y))) → Some r ≡ Some (bit (op s t))
compared op f g d e h = ap Some (rw (read w32 f d, read w32 g e) at h ∙ bit_is _)

-- a word that is not z's has another whole number than z
signed-other : (a : ℕ) (z : ℤ) → a < 4294967296 → (a ≡ of_z w32 z → ⊥) → signed a ≡ z → ⊥
signed-other a z h k e = k (sym (signed-bits a h) ∙ ap (of_z w32) e)

mag-neg : (n : ℕ) → mag (neg_ℤ (pos n)) ≤ n
mag-neg zero = omega arith
mag-neg (suc n) = omega arith

mag-neg-lt : (n k : ℕ) → 0 < k → n ≤ k → mag (neg_ℤ (pos n)) < k
mag-neg-lt zero k p h = p
mag-neg-lt (suc n) k p h = h

-- -2^31 by -1 alone does not fit
quot_fits : (x y : ℤ) → SFits w32 x → (x ≡ negsuc 2147483647 → ⊥) ⊎ (y ≡ negsuc 0 → ⊥) → SFits w32 (quot_z x y)
quot_fits (pos a) (pos b) f h = record { sfits = omega (arith, f.sfits, div-le_self a b) }
quot_fits (pos a) (negsuc b) f h = record { sfits = omega (arith, f.sfits, div-le_self a (suc b), mag-neg (a / suc b)) }
quot_fits (negsuc a) (pos b) f h = record { sfits = mag-neg-lt (suc a / b) 2147483648 (omega arith) (omega (arith, f.sfits, div-le_self (suc a) b)) }
quot_fits (negsuc a) (negsuc b) f h =
    record {
      sfits =
          ⊎_elim
          (λ (k : negsuc a ≡ negsuc 2147483647 → ⊥).
          let m : a ≡ 2147483647 → ⊥ = λ e. k (ap negsuc e) in
          omega (arith, f.sfits, div-le_self (suc a) (suc b)))
          (λ (k : negsuc b ≡ negsuc 0 → ⊥).
          let m : b ≡ 0 → ⊥ = λ e. k (ap negsuc e) in
          let p : suc a < 2147483648 * suc b = omega (arith, f.sfits) in
          (div-lt_iff_lt-mul (omega arith)).1 p)
          h;
    }

module _ {a b : ℕ} (f : a < 4294967296) (g : b < 4294967296) where
  pub quotient_fits : (a ≡ 2147483648 → ⊥) ⊎ (b ≡ 4294967295 → ⊥) → SFits w32 (quot_z (signed a) (signed b))
  quotient_fits h =
      quot_fits (signed a) (signed b) (signed-fits a f)
      (⊎_elim (λ k. inl (signed-other a (negsuc 2147483647) f k)) (λ k. inr (signed-other b (negsuc 0) g k)) h)

-- the dividend's size bounds the remainder's
pub remainder-fits : (a b : ℕ) → a < 4294967296 → SFits w32 (rem_z (signed a) (signed b))
remainder-fits a b f = sfits_le (mag_rem (signed a) (signed b)) (signed-fits a f)

-- ---- the range of a word: what fits 32 bits

pub in-range : (z : ℤ) → SFits w32 z → true ≡ in_range z
unfolding in_range
in-range (pos n) f = rw (le-leb n 2147483647 (omega (arith, f.sfits)))
in-range (negsuc n) f = rw (le-leb n 2147483647 (omega (arith, f.sfits)))

left : (t : Bool) → (t && true) ≡ true → t ≡ true
left true e = refl
left false e = e

pub range-fits : (z : ℤ) → in_range z ≡ true → SFits w32 z
unfolding in_range
range-fits (pos n) e = record { sfits = omega (arith, leb-true n 2147483647 e) }
range-fits (negsuc n) e = record { sfits = omega (arith, leb-true n 2147483647 (left _ e)) }

-- the value of a result that fits is its word
pub made : {r : ℕ} {z : ℤ} → SFits w32 z → r ≡ to_word z → Some r ≡ value_of z
unfolding value_of
made {r} {z} f e = rw (← (in-range z f)) (ap Some e)

-- any other has none
pub unmade : (z : ℤ) → (SFits w32 z → ⊥) → None ≡ value_of z
unfolding value_of
unmade z k = go (in_range z) (λ e. k (range-fits z e))
  where
    go : (t : Bool) → (t ≡ true → ⊥) → None ≡ (when t then Some (to_word z) else None)
    go true h = absurd (h refl)
    go false h = refl

-- ---- the end of the range: the remainder by -1, and the negative of every word but that of -2^31

pub remainder-by-one : (z : ℤ) → rem_z z (negsuc 0) ≡ pos 0
remainder-by-one (pos n) = ap pos (omega arith)
remainder-by-one (negsuc n) = let e : suc n % 1 ≡ 0 = omega arith in rw e

neg-fits : (z : ℤ) → SFits w32 z → (z ≡ negsuc 2147483647 → ⊥) → SFits w32 (neg_ℤ z)
neg-fits (pos n) f h = record { sfits = mag-neg-lt n 2147483648 (omega arith) (omega (arith, f.sfits)) }
neg-fits (negsuc n) f h =
    let k : n ≡ 2147483647 → ⊥ = λ e. h (ap negsuc e) in
    record { sfits = omega (arith, f.sfits) }

pub negative_fits : (a : ℕ) → a < 4294967296 → (a ≡ 2147483648 → ⊥) → SFits w32 (neg_ℤ (signed a))
negative_fits a f h = neg-fits (signed a) (signed-fits a f) (signed-other a (negsuc 2147483647) f h)
