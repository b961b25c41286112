-- What doing an instruction on reals comes to is its rule, and what is asked for it. The words written one after another are words pushed.
use Rattle.std.specs.Prelude.{ℕ, ◌+◌, ◌-◌, ◌/◌, ◌%◌, ◌<◌, ◌≤◌, Option, Some, None, true, List, [], ◌∷◌, ◌≡◌, refl, Float, length, set, IfNone, IfSome}
use Rattle.std.proofs.Math.Logic.{inl, inr}
use native.Mathlib.Omega.{arith}
use Rattle.std.specs.Float.{binary64}
use Rattle.std.specs.Float.Ieee.{to_bits}
use Rattle.model.specs.Words.{word_at}
use Rattle.model.specs.Reals.{words_many, real_of, Point, point}
use Rattle.model.specs.File.{Ins, byte_at, codes, bodies, body_of, after, ins_of, ins_at}
use Rattle.model.specs.Checker.{basic_effect, effect_of}
use Rattle.model.specs.Control.{Machine}
use Rattle.model.specs.Calls.{main_most}
use Rattle.model.specs.Instructions.{Result, done, fails, out_of_range, rule}
use Rattle.model.specs.declared.Regs.{Regs}
use Rattle.laws.specs.Cuts.{Topped}
use Rattle.laws_file.specs.Codes.{is_real?, real_codes, real-code}
use Rattle.laws_file.specs.Kinds.{OneOf, at_each}
use Rattle.laws_file.specs.Walk.{after-above}

-- the real whose high word is number i of a list, and the point whose lower real that is
abbrev pub real_at : List ℕ → ℕ → Float
real_at l i = real_of (word_at l i) (word_at l (i + 1))

abbrev pub point_at : List ℕ → ℕ → Point
point_at l i = point (real_at l i) (real_at l (i + 2))

-- a real's words, the high word at i
abbrev pub put_real : List ℕ → ℕ → Float → List ℕ
put_real l i x = set (set l i (to_bits binary64 x / words_many)) (i + 1) (to_bits binary64 x % words_many)

-- on to another place, with another top
abbrev pub moved_on : Regs → ℕ → ℕ → Regs
moved_on r q t =
    record { place = q; frame = r.frame; handler = r.handler; mtop = t; ptop = r.ptop; ctop = r.ctop; state = r.state }

-- done, with the registers then, or 1 is raised
abbrev pub came_to : Option Regs → (Regs → Machine) → Result
came_to (Some r) m = done (m r)
came_to None m = fails out_of_range

-- from the main stack l and the registers r to l' and the registers given, or to exception 1: as the rule of i says, whatever the other lists are
abbrev pub Does : List ℕ → Regs → ℕ → Option Regs → List ℕ → Ins → Type 0
Does l r q t l' i =
    (f ptr ctl heap : List ℕ) →
    came_to t (λ r'. record { regs = r'; main = l'; ptr = ptr; ctl = ctl; heap = heap })
    ≡ rule f (record { regs = r; main = l; ptr = ptr; ctl = ctl; heap = heap }) q i

-- that; and where 1 is raised the main stack stays, where it is not the state register
pub record RealStepped (l : List ℕ) (r : Regs) (q : ℕ) (t : Option Regs) (l' : List ℕ) (i : Ins) : Type 0 where
  pub does : Does l r q t l' i
  pub kept : IfNone t (l' ≡ l)
  pub running : IfSome t (λ r'. r'.state ≡ r.state)

-- both follow where the registers are those moved on, and where nothing is written
module _ {l : List ℕ} {r : Regs} {q : ℕ} {i : Ins} where
  pub moves-on : {t : ℕ} {l' : List ℕ} → Does l r q (Some (moved_on r q t)) l' i → RealStepped l r q (Some (moved_on r q t)) l' i
  moves-on d = record { does = d; kept = tt; running = refl }

  pub raises : Does l r q None l i → RealStepped l r q None l i
  raises d = record { does = d; kept = refl; running = tt }

-- what is asked: an instruction on reals stands at the place, its record is in the file, the words popped are there, and those pushed fit
pub record RealHere (f l : List ℕ) (r : Regs) : Type 0 where
  pub real : is_real? (ins_at f r.place) ≡ true
  pub inside : after f r.place ≤ length f
  pub pops : (effect_of f (ins_at f r.place)).pop_main ≤ r.mtop
  pub pushes : r.mtop - (effect_of f (ins_at f r.place)).pop_main + (effect_of f (ins_at f r.place)).push_main ≤ length l
  pub topped : Topped r.mtop l
  pub few : length l ≤ main_most

-- what that gives where the code is known
module _ {f l : List ℕ} {r : Regs} (R : RealHere f l r) where
  pub real-place : r.place < length f
  real-place = omega (arith, R.inside, after-above f r.place)

  pub literal-ready : byte_at f r.place ≡ 53 → (r.place + 8 < length f) × (r.mtop + 1 < length l)
  unfolding after ins_at ins_of body_of bodies codes effect_of basic_effect
  literal-ready e = let i = rw e at R.inside in let p = rw e at R.pushes in (omega arith, omega arith)

  pops-four : (k : ℕ) → OneOf (150 ∷ 151 ∷ 152 ∷ 153 ∷ 155 ∷ []) k → (effect_of f (ins_of f r.place k)).pop_main ≡ 4
  unfolding ins_of effect_of basic_effect
  pops-four k o =
      at_each (λ n. (effect_of f (ins_of f r.place n)).pop_main ≡ 4) (150 ∷ 151 ∷ 152 ∷ 153 ∷ 155 ∷ []) k (refl, (refl, (refl, (refl, (refl, tt))))) o

  -- of the codes on two reals the first four, and of those without a body
  pub operation-four : {k : ℕ} → OneOf (150 ∷ 151 ∷ 152 ∷ 153 ∷ []) k → OneOf (150 ∷ 151 ∷ 152 ∷ 153 ∷ 155 ∷ []) k
  operation-four (inl z) = inl z
  operation-four (inr (inl z)) = inr (inl z)
  operation-four (inr (inr (inl z))) = inr (inr (inl z))
  operation-four (inr (inr (inr z))) = inr (inr (inr (inl z)))

  pub operation-code : {k : ℕ} → OneOf (150 ∷ 151 ∷ 152 ∷ 153 ∷ []) k → OneOf (150 ∷ 151 ∷ 152 ∷ 153 ∷ 155 ∷ 156 ∷ []) k
  operation-code (inl z) = inl z
  operation-code (inr (inl z)) = inr (inl z)
  operation-code (inr (inr (inl z))) = inr (inr (inl z))
  operation-code (inr (inr (inr z))) = inr (inr (inr (inl z)))

  pub four-ready : (k : ℕ) → OneOf (150 ∷ 151 ∷ 152 ∷ 153 ∷ 155 ∷ []) k → byte_at f r.place ≡ k → 4 ≤ r.mtop
  unfolding ins_at
  four-ready k o e = let p = rw e at R.pops in rw (pops-four k o) at p

  pub ten-ready : byte_at f r.place ≡ 156 → 10 ≤ r.mtop
  unfolding ins_at ins_of effect_of basic_effect
  ten-ready e = rw e at R.pops

  -- a code that is none of the three others is an operation's
  pub operation-ready : (k : ℕ) → byte_at f r.place ≡ k → (k ≡ 53 → ⊥) → (k ≡ 155 → ⊥) → (k ≡ 156 → ⊥) →
      OneOf (150 ∷ 151 ∷ 152 ∷ 153 ∷ []) k
  unfolding ins_at
  operation-ready k e a b c = go (real-code f r.place k (rw e at R.real))
    where
      go : OneOf real_codes k → OneOf (150 ∷ 151 ∷ 152 ∷ 153 ∷ []) k
      go (inl z) = absurd (a z)
      go (inr (inl z)) = inl z
      go (inr (inr (inl z))) = inr (inl z)
      go (inr (inr (inr (inl z)))) = inr (inr (inl z))
      go (inr (inr (inr (inr (inl z))))) = inr (inr (inr z))
      go (inr (inr (inr (inr (inr (inl z)))))) = absurd (b z)
      go (inr (inr (inr (inr (inr (inr z)))))) = absurd (c z)

-- the place behind the record of a 53, and of a code without a body
pub after-literal : (f : List ℕ) (p b : ℕ) → byte_at f p ≡ 53 → b ≡ p + 1 → b + 8 ≡ after f p
unfolding after body_of bodies codes
after-literal f p b e d = rw e (omega arith)

pub after-code : (f : List ℕ) (p b k : ℕ) → OneOf (150 ∷ 151 ∷ 152 ∷ 153 ∷ 155 ∷ 156 ∷ []) k → byte_at f p ≡ k → b ≡ p + 1 → b ≡ after f p
unfolding after body_of bodies codes
after-code f p b k o e d =
    let z = at_each (λ n. body_of n ≡ 0) (150 ∷ 151 ∷ 152 ∷ 153 ∷ 155 ∷ 156 ∷ []) k (refl, (refl, (refl, (refl, (refl, (refl, tt)))))) o in
    rw (e, z) (omega arith)
