-- Start: a refusal is the model's, and zeroed stacks with the first registers and the file's sums are the state that it begins with.
use Rattle.std.specs.Prelude.{ℕ, List, [], ◌∷◌, ◌≡◌, refl, length, replicate, set, Result, Ok, Err}
use Rattle.std.proofs.Common.{ap, sym, ◌∙◌, arith}
use Rattle.std.proofs.lemmas.List.{set-get_or}
use Rattle.model.specs.Words.{cut}
use Rattle.laws.specs.Cuts.{cut-zero}
use Rattle.model.specs.File.{entry}
use Rattle.model.specs.Sums.{sums_of}
use Rattle.model.specs.Control.{frame_rec, put_rec, word_from, regs_from, reg_bytes}
use Rattle.model.specs.Calls.{Lent, with_map, answers, register_tests, first_frame, started, start_of, leaving}
use Rattle.call_tests.specs.Admit.{Started, tested-refused, tested-on, first-whole}
use Rattle.model.specs.Refusals.{refused_as}
use Rattle.model.specs.declared.RefusedAt.{RefusedAt}
use Rattle.model.specs.declared.Regs.{Regs}
use Rattle.model.specs.declared.Sums.{Sums}
use Rattle.model.specs.declared.Answer.TheVariants.{Ready}

-- the first frame's record is five zeros, as the stack is already
zeroed : (l : List ℕ) (i : ℕ) → set (cut 0 l) i 0 ≡ cut 0 l
zeroed l i = ap (λ (w : ℕ). set (cut 0 l) i w) (sym (cut-zero 0 l i (omega arith))) ∙ set-get_or (cut 0 l) i 0

first-record : (l : List ℕ) → put_rec (cut 0 l) 0 (frame_rec first_frame) ≡ cut 0 l
unfolding put_rec
first-record l = rw (zeroed l 0, zeroed l 1, zeroed l 2, zeroed l 3, zeroed l 4)

-- a list that is filled with zeros is cut to 0
pub filled-cut : (l : List ℕ) → replicate (length l) 0 ≡ cut 0 l
unfolding cut
filled-cut [] = refl
filled-cut (w ∷ l) = ap (λ (k : List ℕ). 0 ∷ k) (filled-cut l)

-- the first registers, in numbers
abbrev pub first_regs : Regs
first_regs = record { place = 7; frame = 1; handler = 0; mtop = 0; ptop = 0; ctop = 5; state = 0 }

-- they come back from their bytes
first_back : (s : Sums) → regs_from (reg_bytes s first_regs) ≡ first_regs
unfolding regs_from reg_bytes word_from
first_back s = refl

module _ (l : Lent) (map table : List ℕ) (v : Result ℕ RefusedAt) (A : Started l map table v) where
  pub start-refused : (r : RefusedAt) → v ≡ Err r → answers (refused_as r) (with_map map l) ≡ start_of l
  unfolding start_of
  start-refused r e = tested-refused (register_tests l) l map table v A (λ l'. answers Ready (leaving (sums_of l'.file) l' (started l'))) r e

  -- the registers are put first, then the sums
  pub start-ready : (k : ℕ) → v ≡ Ok k → (main ptr ctl put bytes : List ℕ) (s t : Sums) → main ≡ cut 0 l.main →
      ptr ≡ cut 0 l.ptr → ctl ≡ cut 0 l.ctl → put ≡ reg_bytes s first_regs → t ≡ sums_of l.file → bytes ≡ reg_bytes t (regs_from put) →
      answers Ready
      (record { file = l.file; map = map; main = main; ptr = ptr; ctl = ctl; heap = l.heap; bytes = bytes }) ≡ start_of l
  unfolding start_of started entry
  start-ready k e main ptr ctl put bytes s t em ep ec er es eb =
      let z = (first-whole l.file l.map map (A.shown k e).passes).0 in
      rw (em, ep, ec, eb, er, es, first_back s)
      (rw (
        ← tested-on (register_tests l) l map table v A (λ l'. answers Ready (leaving (sums_of l'.file) l' (started l'))) k e,
        z,
        first-record l.ctl,
      ))
