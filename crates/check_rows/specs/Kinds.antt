-- What the families of codes have in common: the lengths of their bodies, and that a code in no arm pops reals.
use Rattle.std.specs.Prelude.{ℕ, zero, suc, ◌+◌, ◌<◌, ◌≤◌, List, [], ◌∷◌, ◌++◌, map, ◌⊎◌, Bool, true, false, ◌≡◌, refl, eqb}
use Rattle.std.proofs.Common.{arith, eq-or-lt_of_le, ⊎_elim, subst, ne_eqb}
use Rattle.model.specs.File.{codes, bodies, unknown, body_of, Ins, basic, jump, branch, branch_keep, call, return, enter, exit, raise, ins_of, head_kind}
use Rattle.laws_file.specs.Codes.{ins-if, if-same}
use Rattle.laws_file.specs.Kinds.{OneOf, NoneOf, at_each, last_code}
use Rattle.laws_file.specs.Walk.{found-listed}

-- what holds at each of n numbers from a on
abbrev pub EachFrom : (ℕ → Type 0) → ℕ → ℕ → Type 0
EachFrom P a zero = Unit {0}
EachFrom P a (suc n) = P a × EachFrom P (suc a) n

pub each_from : (P : ℕ → Type 0) (n a : ℕ) → EachFrom P a n → (k : ℕ) → a ≤ k → k < a + n → P k
each_from P zero a h k low high = absurd (omega arith)
each_from P (suc n) a h k low high =
    ⊎_elim
    (λ e. subst P e h.0)
    (λ l. each_from P n (suc a) h.1 k l (omega arith))
    (eq-or-lt_of_le low)

pub body-jumps : (k : ℕ) → 1 ≤ k → k ≤ 6 → body_of k ≡ 2
unfolding body_of bodies codes
body-jumps k low high = each_from (λ n. body_of n ≡ 2) 6 1 (refl, (refl, (refl, (refl, (refl, (refl, tt)))))) k low (omega arith)

pub body-locals : (k : ℕ) → 20 ≤ k → k ≤ 23 → body_of k ≡ 2
unfolding body_of bodies codes
body-locals k low high = each_from (λ n. body_of n ≡ 2) 4 20 (refl, (refl, (refl, (refl, tt)))) k low (omega arith)

pub body-blocks : (k : ℕ) → OneOf (36 ∷ 60 ∷ 62 ∷ 64 ∷ []) k → body_of k ≡ 4
unfolding body_of bodies codes
body-blocks k o = at_each (λ n. body_of n ≡ 4) (36 ∷ 60 ∷ 62 ∷ 64 ∷ []) k (refl, (refl, (refl, (refl, tt)))) o

-- the codes with functions of their own, which lead elsewhere: 1 to 6, and those of the list
abbrev pub NoJump : ℕ → Type 0
NoJump k = (k < 1) ⊎ (6 < k)

abbrev pub elsewhere : List (List ℕ)
elsewhere = (161 ∷ []) ∷ (160 ∷ []) ∷ (73 ∷ []) ∷ (head_kind ∷ []) ∷ []

-- the arms of `comes_to`, the last one first; 20 to 23 are told by a range
abbrev pub row_arms : List (List ℕ)
row_arms =
    (162 ∷ [])
    ∷ (53 ∷ [])
    ∷ (141 ∷ 143 ∷ [])
    ∷ (130 ∷ 140 ∷ 142 ∷ 145 ∷ 195 ∷ 198 ∷ 201 ∷ 204 ∷ [])
    ∷ (144 ∷ 146 ∷ [])
    ∷ (131 ∷ [])
    ∷ (85 ∷ [])
    ∷ (84 ∷ [])
    ∷ (83 ∷ [])
    ∷ (82 ∷ [])
    ∷ (81 ∷ [])
    ∷ (80 ∷ [])
    ∷ (72 ∷ [])
    ∷ (59 ∷ [])
    ∷ (58 ∷ [])
    ∷ (57 ∷ [])
    ∷ (56 ∷ [])
    ∷ (54 ∷ [])
    ∷ (36 ∷ 60 ∷ 62 ∷ 64 ∷ [])
    ∷ (33 ∷ [])
    ∷ (32 ∷ [])
    ∷ (31 ∷ [])
    ∷ (30 ∷ [])
    ∷ []

-- the codes that ranges tell
abbrev ranged : List (List ℕ)
ranged = map (λ n. n ∷ []) (1 ∷ 2 ∷ 3 ∷ 4 ∷ 5 ∷ 6 ∷ 20 ∷ 21 ∷ 22 ∷ 23 ∷ [])

ranged-none : (k : ℕ) → NoJump k → (k < 20) ⊎ (23 < k) → NoneOf ranged k
ranged-none k a b = ⊎_elim (λ l. omega arith) (λ l. ⊎_elim (λ r. omega arith) (λ r. omega arith) b) a

none-on : (nss mss : List (List ℕ)) (k : ℕ) → NoneOf nss k → NoneOf mss k → NoneOf (nss ++ mss) k
none-on [] mss k h g = g
none-on (ns ∷ nss) mss k h g = (none-on nss mss k h.0 g, h.1)

-- the codes that pop reals
abbrev pub pops_reals : List ℕ
pops_reals = 150 ∷ 151 ∷ 152 ∷ 153 ∷ 155 ∷ 156 ∷ []

-- of the codes only those have no row
pub last_row : (k : ℕ) → NoJump k → NoneOf elsewhere k → (k < 20) ⊎ (23 < k) → NoneOf row_arms k → (body_of k ≡ unknown → ⊥) → OneOf pops_reals k
unfolding body_of bodies codes
last_row k a e b h some =
    let none = none-on row_arms (elsewhere ++ ranged) k h (none-on elsewhere ranged k e (ranged-none k a b)) in
    last_code (row_arms ++ elsewhere ++ ranged) pops_reals tt k none (found-listed codes k (rw (ne_eqb k head_kind e.0.0.0.1) at some))

-- every other code leads to the next instruction alone, or nowhere
abbrev pub straight? : Ins → Bool
straight? (basic b) = true
straight? (jump q) = false
straight? (branch t q) = false
straight? (branch_keep t q) = false
straight? (call n) = true
straight? return = false
straight? (enter s) = false
straight? exit = false
straight? raise = true

pub straight : (k : ℕ) → NoJump k → NoneOf elsewhere k → (f : List ℕ) (p : ℕ) → straight? (ins_of f p k) ≡ true
unfolding ins_of
straight k a e f p =
    let no : (n : ℕ) → 1 ≤ n → n ≤ 6 → eqb k n ≡ false =
    λ n l h. ne_eqb k n (λ z. ⊎_elim (λ t. omega arith) (λ t. omega arith) a) in
    simp (
      ins-if straight?,
      if-same,
      no 1 (omega arith) (omega arith),
      no 2 (omega arith) (omega arith),
      no 3 (omega arith) (omega arith),
      no 4 (omega arith) (omega arith),
      no 5 (omega arith) (omega arith),
      no 6 (omega arith) (omega arith),
      ne_eqb k 161 e.1,
      ne_eqb k 160 e.0.1,
      ne_eqb k 73 e.0.0.1,
    )
