-- Manual 2.17, 2.18, 4.31 to 4.34: single instructions on reals, in one table: the codes' rules compute to what was worked out by hand from order 4.
-- The words of the bits were worked out from IEEE 754. Assumes nothing.
use Rattle.std.specs.Prelude.{ℕ, ◌+◌, ◌-◌, List, [], ◌∷◌, ◌++◌, map, ◌≡◌, length, replicate}
use Rattle.std.proofs.Math.Path.{refl}
use Rattle.std.specs.Float.Ieee.{of_bits, to_bits, add, sub, mul, div, lt}
use Rattle.model.specs.Words.{cut}
use Rattle.model.specs.Reals.{real_of, words_of, all_finite, operate_reals, less_reals}
use Rattle.model.specs.File.{codes, bodies, body_of, unknown, after, operand, operand2, operand4, operand_low, ins_of, ins_at}
use Rattle.model.specs.Checker.{Effect, effect, basic_effect, effect_of}
use Rattle.model.specs.Control.{Machine}
use Rattle.model.specs.Instructions.{Result, done, throws, basic_rule, rule}

-- a machine at a place, with these words on a main stack of n words; all else is 0 or empty
abbrev machine : ℕ → ℕ → List ℕ → Machine
machine q n ms =
    record {
      regs = record { place = q; frame = 0; handler = 0; mtop = length ms; ptop = 0; ctop = 0; state = 0 };
      main = ms ++ replicate (n - length ms) 0;
      ptr = [];
      ctl = [];
      heap = [];
    }

-- a row: an instruction's bytes, the words on the main stack, where two more are free, and what it comes to
pub record RealRow : Type 0 where
  pub bytes : List ℕ
  pub words : List ℕ
  pub gives : Result

abbrev row : List ℕ → List ℕ → Result → RealRow
row f ms r = record { bytes = f; words = ms; gives = r }

-- what a code leaves of the words; that it raises 1; what 53 leaves, which takes nine bytes
abbrev leaves : ℕ → List ℕ → List ℕ → RealRow
leaves k ms ms' = row (k ∷ []) ms (done (machine 1 (length ms + 2) ms'))

abbrev raises : ℕ → List ℕ → RealRow
raises k ms = row (k ∷ []) ms (throws 1)

abbrev pushed : List ℕ → List ℕ → List ℕ → RealRow
pushed f ms ms' = row f ms (done (machine 9 (length ms + 2) ms'))

-- the rule of the code that stands at place 0 of the bytes
abbrev come : RealRow → Result
come r = rule r.bytes (machine 0 (length r.words + 2) r.words) (after r.bytes 0) (ins_at r.bytes 0)

unfoldable pub real_rows : List RealRow
real_rows =
    -- 150: sums, at both sides of the greatest real, of zeros, infinities and NaNs; ties go to the even one
    leaves 150 (11 ∷ 0x3fb9_9999 ∷ 0x9999_999a ∷ 0x3fc9_9999 ∷ 0x9999_999a ∷ []) (11 ∷ 0x3fd3_3333 ∷ 0x3333_3334 ∷ [])
    ∷ raises 150 (11 ∷ 0x7fef_ffff ∷ 0xffff_ffff ∷ 0x7fef_ffff ∷ 0xffff_ffff ∷ [])
    ∷ raises 150 (11 ∷ 0x7fef_ffff ∷ 0xffff_ffff ∷ 0x7c90_0000 ∷ 0 ∷ [])
    ∷ leaves 150 (11 ∷ 0x7fef_ffff ∷ 0xffff_ffff ∷ 0x7c8f_ffff ∷ 0xffff_ffff ∷ []) (11 ∷ 0x7fef_ffff ∷ 0xffff_ffff ∷ [])
    ∷ leaves 150 (0x8000_0001 ∷ 11 ∷ 0x8000_0000 ∷ 0 ∷ 0 ∷ 0 ∷ []) (0x8000_0001 ∷ 11 ∷ 0 ∷ 0 ∷ [])
    ∷ leaves 150 (11 ∷ 0x8000_0000 ∷ 0 ∷ 0x8000_0000 ∷ 0 ∷ []) (11 ∷ 0x8000_0000 ∷ 0 ∷ [])
    ∷ raises 150 (11 ∷ 0x7ff0_0000 ∷ 0 ∷ 0x3ff0_0000 ∷ 0 ∷ [])
    ∷ raises 150 (11 ∷ 0x7ff8_0000 ∷ 0 ∷ 0x3ff0_0000 ∷ 0 ∷ [])
    ∷ raises 150 (11 ∷ 0x3ff0_0000 ∷ 0 ∷ 0xfff0_0000 ∷ 1 ∷ [])
    ∷ leaves 150 (11 ∷ 0x4340_0000 ∷ 0 ∷ 0x3ff0_0000 ∷ 0 ∷ []) (11 ∷ 0x4340_0000 ∷ 0 ∷ [])
    ∷ leaves 150 (11 ∷ 0xc340_0000 ∷ 1 ∷ 0xbff0_0000 ∷ 0 ∷ []) (11 ∷ 0xc340_0000 ∷ 2 ∷ [])
    ∷ leaves 150 (11 ∷ 0x3ff0_0000 ∷ 0 ∷ 0x3ca0_0008 ∷ 0 ∷ []) (11 ∷ 0x3ff0_0000 ∷ 1 ∷ [])
    ∷ leaves 150 (11 ∷ 0x000f_ffff ∷ 0xffff_ffff ∷ 0 ∷ 1 ∷ []) (11 ∷ 0x0010_0000 ∷ 0 ∷ [])
    -- 151: products; beyond the greatest real, of an infinity and 0, subnormal ones
    ∷ raises 151 (11 ∷ 0xffef_ffff ∷ 0xffff_ffff ∷ 0x4000_0000 ∷ 0 ∷ [])
    ∷ raises 151 (11 ∷ 0x7ca8_0000 ∷ 0 ∷ 0x4335_5555 ∷ 0x5555_5555 ∷ [])
    ∷ leaves 151 (11 ∷ 0 ∷ 0 ∷ 0xbff0_0000 ∷ 0 ∷ []) (11 ∷ 0x8000_0000 ∷ 0 ∷ [])
    ∷ raises 151 (11 ∷ 0 ∷ 0 ∷ 0x7ff0_0000 ∷ 0 ∷ [])
    ∷ leaves 151 (11 ∷ 0x1e60_0000 ∷ 1 ∷ 0x1e4f_ffff ∷ 0xffff_ffff ∷ []) (11 ∷ 0 ∷ 1 ∷ [])
    ∷ leaves 151 (11 ∷ 0 ∷ 3 ∷ 0x3fe0_0000 ∷ 0 ∷ []) (11 ∷ 0 ∷ 2 ∷ [])
    ∷ leaves 151 (11 ∷ 0 ∷ 1 ∷ 0x3fe0_0000 ∷ 0 ∷ []) (11 ∷ 0 ∷ 0 ∷ [])
    ∷ leaves 151 (11 ∷ 0x8000_0000 ∷ 1 ∷ 0x3fe0_0000 ∷ 0 ∷ []) (11 ∷ 0x8000_0000 ∷ 0 ∷ [])
    -- 152: B is subtracted from A
    ∷ leaves 152 (11 ∷ 0x3ff8_0000 ∷ 0 ∷ 0x4008_0000 ∷ 0 ∷ []) (11 ∷ 0xbff8_0000 ∷ 0 ∷ [])
    ∷ leaves 152 (11 ∷ 0xbff8_0000 ∷ 0 ∷ 0xbff8_0000 ∷ 0 ∷ []) (11 ∷ 0 ∷ 0 ∷ [])
    ∷ leaves 152 (11 ∷ 0x8000_0000 ∷ 0 ∷ 0 ∷ 0 ∷ []) (11 ∷ 0x8000_0000 ∷ 0 ∷ [])
    ∷ raises 152 (11 ∷ 0x7ff0_0000 ∷ 0 ∷ 0x7ff0_0000 ∷ 0 ∷ [])
    ∷ leaves 152 (11 ∷ 0x0010_0000 ∷ 0 ∷ 0 ∷ 1 ∷ []) (11 ∷ 0x000f_ffff ∷ 0xffff_ffff ∷ [])
    -- 153: A is divided by B; by an infinity, by 0
    ∷ leaves 153 (0x8000_0001 ∷ 11 ∷ 0xbff0_0000 ∷ 0 ∷ 0x4008_0000 ∷ 0 ∷ []) (0x8000_0001 ∷ 11 ∷ 0xbfd5_5555 ∷ 0x5555_5555 ∷ [])
    ∷ leaves 153 (11 ∷ 0x4008_0000 ∷ 0 ∷ 0x4024_0000 ∷ 0 ∷ []) (11 ∷ 0x3fd3_3333 ∷ 0x3333_3333 ∷ [])
    ∷ leaves 153 (11 ∷ 0x3ff0_0000 ∷ 0 ∷ 0x7ff0_0000 ∷ 0 ∷ []) (11 ∷ 0 ∷ 0 ∷ [])
    ∷ leaves 153 (11 ∷ 0x3ff0_0000 ∷ 0 ∷ 0xfff0_0000 ∷ 0 ∷ []) (11 ∷ 0x8000_0000 ∷ 0 ∷ [])
    ∷ raises 153 (11 ∷ 0x3ff0_0000 ∷ 0 ∷ 0x7ff0_0000 ∷ 1 ∷ [])
    ∷ raises 153 (11 ∷ 0 ∷ 0 ∷ 0 ∷ 0 ∷ [])
    ∷ raises 153 (11 ∷ 0x3ff0_0000 ∷ 0 ∷ 0 ∷ 0 ∷ [])
    -- 155: less, equal, greater; zeros, subnormals, NaNs on either side, infinities
    ∷ leaves 155 (0x8000_0001 ∷ 11 ∷ 0x3ff0_0000 ∷ 0 ∷ 0x3ff0_0000 ∷ 1 ∷ []) (0x8000_0001 ∷ 11 ∷ 1 ∷ [])
    ∷ leaves 155 (11 ∷ 0x3ff8_0000 ∷ 0 ∷ 0x3ff8_0000 ∷ 0 ∷ []) (11 ∷ 0 ∷ [])
    ∷ leaves 155 (11 ∷ 0x3ff0_0000 ∷ 0x8000_0000 ∷ 0x3ff0_0000 ∷ 0x7fff_ffff ∷ []) (11 ∷ 0 ∷ [])
    ∷ leaves 155 (11 ∷ 0xc000_0000 ∷ 0 ∷ 0xbff0_0000 ∷ 0 ∷ []) (11 ∷ 1 ∷ [])
    ∷ leaves 155 (11 ∷ 0x8000_0000 ∷ 0 ∷ 0 ∷ 0 ∷ []) (11 ∷ 0 ∷ [])
    ∷ leaves 155 (11 ∷ 0 ∷ 0 ∷ 0x8000_0000 ∷ 0 ∷ []) (11 ∷ 0 ∷ [])
    ∷ leaves 155 (11 ∷ 0 ∷ 0 ∷ 0 ∷ 1 ∷ []) (11 ∷ 1 ∷ [])
    ∷ leaves 155 (11 ∷ 0xfff8_0000 ∷ 0 ∷ 0x3ff0_0000 ∷ 0 ∷ []) (11 ∷ 0 ∷ [])
    ∷ leaves 155 (11 ∷ 0x3ff0_0000 ∷ 0 ∷ 0x7ff0_0000 ∷ 1 ∷ []) (11 ∷ 0 ∷ [])
    ∷ leaves 155 (11 ∷ 0xfff0_0000 ∷ 1 ∷ 0x7ff8_0000 ∷ 0x0000_002a ∷ []) (11 ∷ 0 ∷ [])
    ∷ leaves 155 (11 ∷ 0xfff0_0000 ∷ 0 ∷ 0x7ff0_0000 ∷ 0 ∷ []) (11 ∷ 1 ∷ [])
    ∷ leaves 155 (11 ∷ 0x7ff0_0000 ∷ 0 ∷ 0x7fef_ffff ∷ 0xffff_ffff ∷ []) (11 ∷ 0 ∷ [])
    -- 156: five different reals; scales of 0 and -1; where one rounding of product and sum would leave another word, across and along; products and sums
    -- that are not finite; subnormals
    ∷ leaves 156 (0x8000_0001 ∷ 11 ∷ 0x4024_0000 ∷ 0 ∷ 0xc010_0000 ∷ 0 ∷ 0x3ff8_0000 ∷ 0 ∷ 0x3fd0_0000 ∷ 0 ∷ 0x3fe0_0000 ∷ 0 ∷ [])
    (0x8000_0001 ∷ 11 ∷ 0x401a_0000 ∷ 0 ∷ 0xbffc_0000 ∷ 0 ∷ [])
    ∷ leaves 156 (11 ∷ 0x4024_0000 ∷ 0 ∷ 0x4010_0000 ∷ 0 ∷ 0x3ff8_0000 ∷ 0 ∷ 0x8000_0000 ∷ 0 ∷ 0 ∷ 0 ∷ []) (11 ∷ 0x3ff8_0000 ∷ 0 ∷ 0 ∷ 0 ∷ [])
    ∷ leaves 156 (11 ∷ 0 ∷ 0 ∷ 0 ∷ 0 ∷ 0x8000_0000 ∷ 0 ∷ 0 ∷ 0 ∷ 0xbff0_0000 ∷ 0 ∷ []) (11 ∷ 0x8000_0000 ∷ 0 ∷ 0 ∷ 0 ∷ [])
    ∷ leaves 156 (11 ∷ 0x3ff0_0000 ∷ 0x0200_0000 ∷ 0x4000_0000 ∷ 0 ∷ 0xbff0_0000 ∷ 0x0400_0000 ∷ 0x4008_0000 ∷ 0 ∷ 0x3ff0_0000 ∷ 0x0200_0000 ∷ [])
    (11 ∷ 0 ∷ 0 ∷ 0x4014_0000 ∷ 0x0100_0000 ∷ [])
    ∷ leaves 156 (11 ∷ 0x4000_0000 ∷ 0 ∷ 0x3ff0_0000 ∷ 0x0200_0000 ∷ 0x4008_0000 ∷ 0 ∷ 0xbff0_0000 ∷ 0x0400_0000 ∷ 0x3ff0_0000 ∷ 0x0200_0000 ∷ [])
    (11 ∷ 0x4014_0000 ∷ 0x0100_0000 ∷ 0 ∷ 0 ∷ [])
    ∷ raises 156 (11 ∷ 0x7fef_ffff ∷ 0xffff_ffff ∷ 0x3ff0_0000 ∷ 0 ∷ 0xffef_ffff ∷ 0xffff_ffff ∷ 0x4008_0000 ∷ 0 ∷ 0x4000_0000 ∷ 0 ∷ [])
    ∷ raises 156 (11 ∷ 0x4000_0000 ∷ 0 ∷ 0x7fef_ffff ∷ 0xffff_ffff ∷ 0x4008_0000 ∷ 0 ∷ 0x7c90_0000 ∷ 0 ∷ 0x3ff0_0000 ∷ 0 ∷ [])
    ∷ raises 156 (11 ∷ 0x4024_0000 ∷ 0 ∷ 0xc010_0000 ∷ 0 ∷ 0x7ff0_0000 ∷ 0 ∷ 0x3fd0_0000 ∷ 0 ∷ 0x3fe0_0000 ∷ 0 ∷ [])
    ∷ raises 156 (11 ∷ 0x4024_0000 ∷ 0 ∷ 0xc010_0000 ∷ 0 ∷ 0x3ff8_0000 ∷ 0 ∷ 0x3fd0_0000 ∷ 0 ∷ 0x7ff8_0000 ∷ 1 ∷ [])
    ∷ leaves 156 (11 ∷ 0 ∷ 3 ∷ 0x8000_0000 ∷ 1 ∷ 0 ∷ 1 ∷ 0x8000_0000 ∷ 0 ∷ 0x3fe0_0000 ∷ 0 ∷ []) (11 ∷ 0 ∷ 3 ∷ 0x8000_0000 ∷ 0 ∷ [])
    -- 53: eight different bytes; NaNs with their payloads, an infinity, -0
    ∷ pushed (53 ∷ 1 ∷ 2 ∷ 3 ∷ 4 ∷ 5 ∷ 6 ∷ 7 ∷ 8 ∷ []) (0x8000_0001 ∷ 11 ∷ []) (0x8000_0001 ∷ 11 ∷ 0x0102_0304 ∷ 0x0506_0708 ∷ [])
    ∷ pushed (53 ∷ 127 ∷ 248 ∷ 0 ∷ 0 ∷ 0 ∷ 0 ∷ 0 ∷ 42 ∷ []) (11 ∷ []) (11 ∷ 0x7ff8_0000 ∷ 0x0000_002a ∷ [])
    ∷ pushed (53 ∷ 255 ∷ 240 ∷ 0 ∷ 0 ∷ 0 ∷ 0 ∷ 0 ∷ 1 ∷ []) (11 ∷ []) (11 ∷ 0xfff0_0000 ∷ 1 ∷ [])
    ∷ pushed (53 ∷ 127 ∷ 240 ∷ 0 ∷ 0 ∷ 0 ∷ 0 ∷ 0 ∷ 0 ∷ []) (11 ∷ []) (11 ∷ 0x7ff0_0000 ∷ 0 ∷ [])
    ∷ pushed (53 ∷ 128 ∷ 0 ∷ 0 ∷ 0 ∷ 0 ∷ 0 ∷ 0 ∷ 0 ∷ []) (11 ∷ []) (11 ∷ 0x8000_0000 ∷ 0 ∷ [])
    ∷ []

pub real-rows-hold : map come real_rows ≡ map (λ r. r.gives) real_rows
real-rows-hold =
    unfold real_rows cut codes bodies body_of after operand operand2 operand4 operand_low ins_of ins_at in
    unfold of_bits to_bits add sub mul div lt real_of words_of all_finite operate_reals less_reals basic_rule rule in
    refl

-- Manual 4.2: what the codes pop and push. Manual 3.2: their bodies; 154 has none
abbrev pops : ℕ → Effect
pops k = effect_of [] (ins_of [] 0 k)

effects-are : map pops (53 ∷ 150 ∷ 151 ∷ 152 ∷ 153 ∷ 155 ∷ 156 ∷ [])
    ≡ effect 0 0 2 0 ∷ effect 4 0 2 0 ∷ effect 4 0 2 0 ∷ effect 4 0 2 0 ∷ effect 4 0 2 0 ∷ effect 4 0 1 0 ∷ effect 10 0 4 0 ∷ []
effects-are = unfold ins_of effect_of basic_effect in refl

bodies-are : map body_of (53 ∷ 150 ∷ 151 ∷ 152 ∷ 153 ∷ 154 ∷ 155 ∷ 156 ∷ []) ≡ 8 ∷ 0 ∷ 0 ∷ 0 ∷ 0 ∷ unknown ∷ 0 ∷ 0 ∷ []
bodies-are = unfold codes bodies body_of in refl
