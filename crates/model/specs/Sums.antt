-- Manual 2.16: a file's two sums, by which a state belongs to it.
use Rattle.std.specs.Prelude.{ℕ, ◌+◌, List, [], ◌∷◌}
use Rattle.model.specs.declared.Sums.{Sums}

-- the sum of the numbers of a list
unfoldable pub total : List ℕ → ℕ
total [] = 0
total (b ∷ l) = b + total l

-- that sum after each of them, s being the sum of those before the first
unfoldable pub totals : ℕ → List ℕ → List ℕ
totals s [] = []
totals s (b ∷ l) = (s + b) ∷ totals (s + b) l

-- Manual 2.16: the sum of the file's bytes, and the sum of that sum after each byte
unfoldable pub sums_of : List ℕ → Sums
sums_of f = record { first = total f; second = total (totals 0 f) }
