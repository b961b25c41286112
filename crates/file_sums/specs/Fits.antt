-- How great a file's sums may be: n bytes come to at most 255 * n, and the sums after each of them to at most 255 * (1 + 2 + .. + n).
use Rattle.std.specs.Prelude.{ℕ, zero, suc, ◌+◌, ◌*◌, ◌≤◌, List, [], ◌∷◌, ◌≡◌, length}
use Rattle.std.proofs.Common.{add-mul, mul-suc, mul-le-mul_right, arith}
use Rattle.model.specs.Sums.{total, totals}
use Rattle.model.specs.Claim.{Bytes}

pub total-most : (f : List ℕ) → Bytes f → total f ≤ 255 * length f
unfolding total
total-most [] B = omega arith
total-most (b ∷ f) B = let h = total-most f (λ p. B (suc p)) in let g = B 0 in omega arith

-- 1 + 2 + .. + n
unfoldable pub up_to : ℕ → ℕ
up_to zero = 0
up_to (suc n) = suc n + up_to n

-- s being the sum of the bytes before these
pub totals-most : (s : ℕ) (f : List ℕ) → Bytes f → total (totals s f) ≤ s * length f + 255 * up_to (length f)
unfolding total totals up_to
totals-most s [] B = omega arith
totals-most s (b ∷ f) B =
    let n = length f in
    let r = totals-most (s + b) f (λ p. B (suc p)) in
    let g = B 0 in
    let x = add-mul s b n in
    let y = mul-suc s n in
    let z = mul-le-mul_right {m = b} {n = 255} n (omega arith) in
    omega arith

-- so many bytes fewer
pub few-upTo : (d n : ℕ) → d + n ≡ 4096 → up_to n ≤ 8390656
unfolding up_to
few-upTo zero n e = let h : n ≡ 4096 = omega arith in rw h (omega arith)
few-upTo (suc d) n e = let h = few-upTo d (suc n) (omega arith) in omega arith
