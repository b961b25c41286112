-- What is known of the instruction at p when the checker comes to it.
use Rattle.std.specs.Prelude.{ℕ, ◌+◌, ◌<◌, ◌≤◌, List, ◌≡◌, length, get_or}
use Rattle.std.proofs.Common.{arith}
use Rattle.model.specs.File.{unknown, body_of, byte_at, after, head_of, procs, file_most}

-- the table has the heads of the procedures, 0 past their number, and each head is whole
pub record Table (f : List ℕ) (table : List ℕ) (k : ℕ) : Type 0 where
  pub count : k ≡ procs f
  pub few : k ≤ 64
  pub heads : (n : ℕ) → n < 64 → get_or table n 0 ≡ head_of f n
  pub none : (n : ℕ) → k ≤ n → head_of f n ≡ 0
  pub whole : (n : ℕ) → head_of f n + 6 < length f

-- the record at p is whole, and of a kind that there is
pub record Site (f : List ℕ) (p : ℕ) : Type 0 where
  pub known : body_of (byte_at f p) ≡ unknown → ⊥
  pub inside : after f p ≤ length f
  pub small : length f ≤ file_most

-- a body of n bytes lies in the file
pub body-room : {f : List ℕ} {p : ℕ} → Site f p → (n : ℕ) → body_of (byte_at f p) ≡ n → p + n < length f
unfolding after
body-room s n e = omega (arith, s.inside)

pub low : {f : List ℕ} {p : ℕ} → Site f p → p < file_most
unfolding after
low s = omega (arith, s.inside, s.small)
