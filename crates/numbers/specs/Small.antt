-- What is said of a number that a function hands out.
use Rattle.std.specs.Prelude.{ℕ, ◌<◌, ◌≡◌}

-- the answer is the value, and lies below the bound
pub record Small (bound value r : ℕ) : Type 0 where
  pub is : r ≡ value
  pub small : r < bound
