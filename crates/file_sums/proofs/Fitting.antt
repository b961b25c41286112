-- The sums of a file, and the sums after some of its bytes, are words.
use Rattle.std.specs.Prelude.{ℕ, ◌-◌, ◌<◌, ◌≤◌, List, length}
use Rattle.std.proofs.Common.{zero-mul, arith}
use Rattle.model.specs.File.{file_most}
use Rattle.model.specs.Sums.{sums_of}
use Rattle.model.specs.Claim.{Bytes, SumsFit}
use Rattle.file_sums.specs.Fits.{total-most, totals-most, few-upTo}
use Rattle.file_sums.specs.Summing.{Summing}

pub sums-fit : SumsFit
unfolding sums_of
sums-fit f B h =
    let t = total-most f B in
    let u = totals-most 0 f B in
    let z = zero-mul (length f) in
    let w = few-upTo (4096 - length f) (length f) (omega arith) in
    (omega arith, omega arith)

module _ {f : List ℕ} {i b s : ℕ} (S : Summing f i b s) where
  -- the sums so far are words, as the sums of the file are
  pub summed-fit : Bytes f → length f ≤ file_most → (b < 4294967296) × (s < 4294967296)
  unfolding sums_of
  summed-fit B h =
      let w = sums-fit f B h in
      let u = S.first in
      let v = S.second in
      (omega arith, omega arith)
