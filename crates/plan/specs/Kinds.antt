-- The arms of the match on the code but its last: of the codes only those of the instructions on reals are in none of them, and 0, which is in one, is no code.
use Rattle.std.specs.Prelude.{ℕ, suc, ◌+◌, true, List, [], ◌∷◌, ◌≡◌, refl}
use Rattle.std.proofs.Common.{true≢false, ap, sym, ◌∙◌}
use Rattle.model.specs.File.{byte_at, body_of, codes, listed, ins_of, is_instruction}
use Rattle.model.specs.Control.{Machine}
use Rattle.laws_file.specs.Codes.{real_codes}
use Rattle.laws_file.specs.Kinds.{OneOf, NoneOf, other, at_each, last_code}
use Rattle.plan_meaning.specs.Planned.{basic_plan, plan_of, planned}
use Rattle.plan_meaning.specs.declared.Plan.TheVariants.{Real}

-- from behind: the first arm's comes last
abbrev plan_arms : List (List ℕ)
plan_arms =
    (162 ∷ []) ∷ (85 ∷ []) ∷ (0 ∷ 83 ∷ []) ∷ (84 ∷ []) ∷ (82 ∷ []) ∷ (81 ∷ []) ∷ (80 ∷ []) ∷ (131 ∷ []) ∷ (59 ∷ [])
    ∷ (58 ∷ []) ∷ (57 ∷ []) ∷ (36 ∷ 60 ∷ 62 ∷ 64 ∷ []) ∷ (33 ∷ []) ∷ (31 ∷ []) ∷ (32 ∷ []) ∷ (30 ∷ []) ∷ (146 ∷ []) ∷ (144 ∷ [])
    ∷ (145 ∷ []) ∷ (143 ∷ []) ∷ (142 ∷ []) ∷ (141 ∷ []) ∷ (140 ∷ []) ∷ (204 ∷ []) ∷ (201 ∷ []) ∷ (198 ∷ []) ∷ (195 ∷ [])
    ∷ (130 ∷ []) ∷ (23 ∷ []) ∷ (21 ∷ []) ∷ (20 ∷ 22 ∷ 54 ∷ 56 ∷ []) ∷ (73 ∷ 161 ∷ []) ∷ (72 ∷ 160 ∷ []) ∷ (6 ∷ []) ∷ (4 ∷ [])
    ∷ (5 ∷ []) ∷ (2 ∷ []) ∷ (3 ∷ []) ∷ (1 ∷ []) ∷ []

pub last_arm : (f : List ℕ) (p : ℕ) → is_instruction f p ≡ true → NoneOf plan_arms (byte_at f p) → OneOf real_codes (byte_at f p)
unfolding is_instruction codes
last_arm f p is h = last_code plan_arms real_codes tt (byte_at f p) h is

-- in the arm of 0 and another code it is the other: 0 is none
pub not-zero : (f : List ℕ) (p : ℕ) {n : ℕ} → is_instruction f p ≡ true → OneOf (0 ∷ n ∷ []) (byte_at f p) → byte_at f p ≡ n
unfolding is_instruction codes
not-zero f p is o = other o (λ e. true≢false (sym is ∙ ap (listed codes) e))

-- each is planned alike
pub last-planned : (f : List ℕ) (m : Machine) (k : ℕ) → OneOf real_codes k → Real (m.regs.place + 1) ≡ planned f m (suc (body_of k)) k
unfolding planned plan_of basic_plan ins_of
last-planned f m k o =
    at_each (λ n. Real (m.regs.place + 1) ≡ planned f m (suc (body_of n)) n) real_codes k (refl, (refl, (refl, (refl, (refl, (refl, (refl, tt))))))) o
