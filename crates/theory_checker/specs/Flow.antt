-- What is so of the states that the checker's pass over a file passes on, and of an assignment's states: proofs/Flow.antt has the theorems.
use Prim.Native.Nat.{ℕ, ◌<◌, ◌≤◌}
use Rattle.std.specs.Prelude.{List, ◌⊎◌, ◌≡◌}
use Rattle.model.specs.Choice.{All, Mem}
use Rattle.model.specs.File.{byte_at, ins_at}
use Rattle.model.specs.File.{proc_at, instructions}
use Rattle.model.specs.Checker.{none, State}
use Rattle.model.specs.Checker.{target_tests, next_tests, depth_tests, leave_tests}
use Rattle.model.specs.Rules.{Assignment, Opens}
use Rattle.laws_file.specs.Procedures.{DepthsWithin}

-- what the tests of refusals 5 to 8 say of the instruction at p, with its state and its handler's
pub record TestsHold (f : List ℕ) (p : ℕ) (s o : State) : Type 0 where
  pub targets : All (target_tests f p (ins_at f p))
  pub nexts : All (next_tests f p (ins_at f p))
  pub depths : All (depth_tests f p (ins_at f p) s o)
  pub leaves : All (leave_tests f p (ins_at f p) s)

-- a passed state has depths within the procedure's, or those of the state that it comes from
abbrev pub DepthsFrom : List ℕ → ℕ → State → State → Type 0
DepthsFrom f p s u = DepthsWithin f p u ⊎ ((u.main ≡ s.main) × (u.ptr ≡ s.ptr))

-- its innermost open handler is the one of the state that it comes from, the 160 itself, or the one that was open there
abbrev pub InnerFrom : List ℕ → ℕ → State → State → State → Type 0
InnerFrom f p s o u = (u.inner ≡ s.inner) ⊎ (((u.inner ≡ p) × (byte_at f p ≡ 160)) ⊎ (u.inner ≡ o.inner))

-- it lies above the floor o if the state that it comes from does, and where its innermost open handler is another its depths are not
pub record High (s o u : State) : Type 0 where
  pub main : o.main ≤ s.main → o.main ≤ u.main
  pub ptr : o.ptr ≤ s.ptr → o.ptr ≤ u.ptr
  pub alike : (u.inner ≡ s.inner) ⊎ ((u.main ≡ s.main) × (u.ptr ≡ s.ptr))

-- what is so of a state u that the instruction at p then passes to q
pub record Moves (f : List ℕ) (p : ℕ) (s o : State) (q : ℕ) (u : State) : Type 0 where
  pub there : Mem q (instructions f)
  pub same_proc : proc_at f q ≡ proc_at f p
  pub depths : DepthsFrom f p s u
  pub inner : InnerFrom f p s o u
  pub high : High s o u

-- at q no handler is open, or the one opened at h, a 160 of the procedure below q
abbrev pub OpenHandler : List ℕ → ℕ → ℕ → Type 0
OpenHandler f q h = (h ≡ none) ⊎ (Opens f q h × (h < q))

pub record StateShape (f : List ℕ) (A : Assignment) (q : ℕ) : Type 0 where
  pub within : DepthsWithin f q (A q)
  pub third : OpenHandler f q (A q).inner
