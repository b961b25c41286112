-- Lists of tests as code makes them, one after the other, not always in the list's order: one test that fails decides, and behind tests
-- that hold the last one does.
use Rattle.std.specs.Prelude.{ℕ, zero, suc, ◌<◌, Bool, true, false, List, [], ◌∷◌, ◌++◌, ◌≡◌, refl, get_or}
use Rattle.std.proofs.Common.{sym, ne_eqb}
use Rattle.std.proofs.lemmas.Bool.{lt-leb}
use Rattle.model.specs.Choice.{Test, same, at_most, yes?, holds, all, All, true-all, when◌then◌else◌}

-- a test fails
abbrev pub Fails : Test → Type 0
Fails (same m n) = m ≡ n → ⊥
Fails (at_most m n) = n < m
Fails (yes? t) = t ≡ false

fails-false : (t : Test) → Fails t → holds t ≡ false
fails-false (same m n) h = ne_eqb m n h
fails-false (at_most m n) h = lt-leb m n h
fails-false (yes? t) h = h

abbrev pub test : ℕ → List Test → Test
test k ts = get_or ts k (yes? true)

pub fails-at : (k : ℕ) (ts : List Test) → holds (test k ts) ≡ false → false ≡ all ts
fails-at k [] h = sym h
fails-at zero (t ∷ ts) h = rw h
fails-at (suc k) (t ∷ ts) h = go (holds t) (fails-at k ts h)
  where
    go : (b : Bool) → false ≡ all ts → false ≡ (when b then all ts else false)
    go true e = e
    go false e = refl

pub fails-all : (k : ℕ) (ts : List Test) → Fails (test k ts) → false ≡ all ts
fails-all k ts h = fails-at k ts (fails-false (test k ts) h)

-- the test that is made last decides, wherever it stands in the list
pub decided : (k : ℕ) (ts : List Test) (r : Bool) → r ≡ holds (test k ts) → (r ≡ true → All ts) → r ≡ all ts
decided k ts true e h = sym (true-all ts (h refl))
decided k ts false e h = fails-at k ts (sym e)

pub all_both : (ts us : List Test) → all (ts ++ us) ≡ (when all ts then all us else false)
all_both [] us = refl
all_both (t ∷ ts) us = go (holds t) (all_both ts us)
  where
    go : (b : Bool) → all (ts ++ us) ≡ (when all ts then all us else false) →
        (when b then all (ts ++ us) else false) ≡ (when (when b then all ts else false) then all us else false)
    go true e = e
    go false e = refl
