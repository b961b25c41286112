-- The sums after some bytes, with what the bytes behind them add: one byte more is the definitions' own step.
use Rattle.std.specs.Prelude.{ℕ, ◌+◌, ◌<◌, ◌≡◌, length}
use mathlib.Core.List.{List, [], ◌∷◌}
use Rattle.std.proofs.Math.Path.{ap}
use Rattle.std.proofs.Common.{◌∙◌, drop-cons}
use Rattle.std.proofs.Math.Numerals.{add-one}
use native.Mathlib.Omega.{arith}
use Rattle.std.proofs.Math.ListN.{drop}
use Rattle.std.proofs.Math.Seq.{drop-length}
use Rattle.model.specs.File.{byte_at}
use Rattle.model.specs.Sums.{total, totals, sums_of}

-- i bytes are summed: b is their sum, s the sum of sums
pub record Summing (f : List ℕ) (i b s : ℕ) : Type 0 where
  pub first : total f ≡ b + total (drop i f)
  pub second : total (totals 0 f) ≡ s + total (totals b (drop i f))

pub none-summed : (f : List ℕ) → Summing f 0 0 0
none-summed f = record { first = omega arith; second = omega arith }

module _ {f : List ℕ} {i b s : ℕ} (S : Summing f i b s) where
  -- a byte more
  pub one-summed : (w : ℕ) → w ≡ byte_at f i → i < length f → Summing f (i + 1) (b + w) (s + (b + w))
  unfolding total totals
  one-summed w z h =
      let e : drop i f ≡ w ∷ drop (i + 1) f = rw (z, add-one i) (drop-cons f i 0 h) in
      let x = ap total e in
      let y = ap (λ (l : List ℕ). total (totals b l)) e in
      let u = S.first in
      let v = S.second in
      record { first = omega arith; second = omega arith }

  pub all-summed : i ≡ length f → record { first = b; second = s } ≡ sums_of f
  unfolding sums_of total totals
  all-summed h =
      let e : drop i f ≡ [] = ap (λ (n : ℕ). drop n f) h ∙ drop-length f in
      let x = S.first ∙ ap (λ (l : List ℕ). b + total l) e in
      let y = S.second ∙ ap (λ (l : List ℕ). s + total (totals b l)) e in
      let u : b ≡ total f = omega arith in
      let v : s ≡ total (totals 0 f) = omega arith in
      λ j. record { first = u j; second = v j }
