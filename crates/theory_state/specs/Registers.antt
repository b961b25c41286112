-- Registers and sums travel as bytes and come back the same: a word below 2^32 is the sum of its four bytes. A sound state's registers are
-- small.
use Rattle.std.specs.Prelude.{ℕ, ◌+◌, ◌*◌, ◌/◌, ◌%◌, ◌<◌, ◌≤◌, ◌≡◌, List, length}
use Rattle.std.proofs.Common.{arith, div-add-mod', inl, inr}
use Rattle.std.proofs.Math.Nat.{div-div-eq-div-mul}
use Rattle.model.specs.File.{greatest_main, greatest_ptr}
use Rattle.model.specs.Control.{Machine, word_from, regs_from, sums_from, reg_bytes}
use Rattle.model.specs.declared.Regs.{Regs}
use Rattle.model.specs.declared.Sums.{Sums}
use Rattle.registers.specs.Registers.{RegsWords}
use Rattle.theory_state.specs.Stack.{stack-numbers}
use Rattle.theory_state.specs.Laws.{CodeLaws, small, results-most}
use Rattle.theory_state.specs.Sound.{Sound}
use Rattle.theory_state.specs.Keep.{running-here, running-fits}

abbrev words : ℕ
words = 4294967296

digits : (w a b c r₀ r₁ r₂ : ℕ) → a * 256 + r₀ ≡ w → b * 256 + r₁ ≡ a → c * 256 + r₂ ≡ b →
    c * 16777216 + r₂ * 65536 + r₁ * 256 + r₀ ≡ w
digits w a b c r₀ r₁ r₂ e₀ e₁ e₂ = omega arith

four_bytes : (w : ℕ) → w < words →
    (w / 16777216 % 256) * 16777216 + (w / 65536 % 256) * 65536 + (w / 256 % 256) * 256 + w % 256 ≡ w
four_bytes w h =
    let a : w / 256 / 256 ≡ w / 65536 = div-div-eq-div-mul w 256 256 in
    let b : w / 65536 / 256 ≡ w / 16777216 = div-div-eq-div-mul w 65536 256 in
    let c : w / 16777216 % 256 ≡ w / 16777216 = omega arith in
    rw c
    (digits w (w / 256) (w / 65536) (w / 16777216) (w % 256) (w / 256 % 256) (w / 65536 % 256) (div-add-mod' w 256)
    (rw a at (div-add-mod' (w / 256) 256))
    (rw b at (div-add-mod' (w / 65536) 256)))

pub sums-back : (s : Sums) (r : Regs) → s.first < words → s.second < words → sums_from (reg_bytes s r) ≡ s
unfolding sums_from reg_bytes word_from
sums-back s r h g =
    let e = four_bytes s.first h in
    let f = four_bytes s.second g in
    λ i. record { first = e i; second = f i }

pub registers-back : (t : Sums) (r : Regs) → RegsWords r → regs_from (reg_bytes t r) ≡ r
unfolding regs_from reg_bytes word_from
registers-back t r s =
    let e0 = four_bytes r.place s.place in
    let e1 = four_bytes r.frame s.frame in
    let e2 = four_bytes r.handler s.handler in
    let e3 = four_bytes r.mtop s.mtop in
    let e4 = four_bytes r.ptop s.ptop in
    let e5 = four_bytes r.ctop s.ctop in
    let e6 = four_bytes r.state s.state in
    λ i. record { place = e0 i; frame = e1 i; handler = e2 i; mtop = e3 i; ptop = e4 i; ctop = e5 i; state = e6 i }

-- where the lists are short enough, with room for procedure 0
pub sound-small : (f map : List ℕ) (Ptr : ℕ → Type 0) (m : Machine) → CodeLaws f map → length m.main < words → length m.ptr < words →
    length m.ctl < words → greatest_main f 0 ≤ length m.main → greatest_ptr f 0 ≤ length m.ptr → Sound f map Ptr m → RegsWords m.regs
sound-small f map Ptr m L lm lp lc xm yp (inl S) =
    let R = S.3 in
    let N = stack-numbers f map (length m.main) (length m.ptr) m.ctl S.0 R.stack in
    let T = running-fits f map L Ptr m S.0 S.1 S.2 R in
    let P = small f map L m.regs.place (running-here f map Ptr m S.0 S.1 S.2 R) in
    let e = R.ctl_top in
    let r = R.room in
    let s = R.state_is in
    record {
      place = omega arith;
      frame = omega arith;
      handler = omega arith;
      mtop = omega arith;
      ptop = omega arith;
      ctop = omega arith;
      state = omega arith;
    }
sound-small f map Ptr m L lm lp lc xm yp (inr D) =
    let H = results-most f map L in
    let d0 = D.place_is in
    let d1 = D.frame_is in
    let d2 = D.handler_is in
    let d3 = D.main_top in
    let d4 = D.ptr_top in
    let d5 = D.ctl_top in
    let d6 = D.state_is in
    record {
      place = omega arith;
      frame = omega arith;
      handler = omega arith;
      mtop = omega arith;
      ptop = omega arith;
      ctop = omega arith;
      state = omega arith;
    }
