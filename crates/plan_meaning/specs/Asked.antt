-- What planning asks for of the file and of a stack, and which code of a family it is.
use Rattle.std.specs.Prelude.{ℕ, ◌+◌, ◌<◌, ◌≤◌, List, length}
use Rattle.model.specs.File.{file_most}
use Rattle.model.specs.Calls.{main_most}

-- n bytes behind p are the file's
pub record Body (f : List ℕ) (p n : ℕ) : Type 0 where
  pub inside : p + n < length f
  pub short : length f ≤ file_most

-- a top of a stack
pub record TopWithin (l : List ℕ) (top : ℕ) : Type 0 where
  pub below : top ≤ length l
  pub few : length l ≤ main_most
