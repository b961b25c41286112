-- The records one after the other, from the top downwards: what all of them come to is what those that are left come to.
use Prim.Native.Nat.{ℕ, suc, ◌-◌, ◌<◌, ◌≤◌}
use Rattle.std.specs.Prelude.{Bool, false, List, ◌≡◌}
use Rattle.std.proofs.Math.Path.{ap, sym}
use Rattle.std.proofs.Common.{◌∙◌, ControlFlow, Continue, Break}
use native.Mathlib.Omega.{arith}
use Rattle.model.specs.Control.{rec_at, down}
use Rattle.model.specs.Sound.{Look, stack?}
use Rattle.audit_records.specs.declared.Look.{Look as LookRead}
use Rattle.audit_records.specs.Records.{the_look, RecordTells, tells}

module _ (f map : List ℕ) (lm lp : ℕ) (l : List ℕ) where
  -- the n lowest records, with what those above tell
  unfoldable pub lowest : ℕ → Look → Bool
  lowest n k = stack? f map lm lp (down l n) k

  module _ (count left : ℕ) (top k : Look) (so_far : lowest count top ≡ lowest left k) where
    pub read_none : left ≤ 0 → false ≡ lowest count top
    unfolding lowest stack?
    read_none h = let e : left ≡ 0 = omega arith in sym (so_far ∙ ap (λ (n : ℕ). lowest n k) e)

    module _ (r : ControlFlow Bool LookRead) (some : 0 < left) (reading : RecordTells f map lm lp (rec_at l (left - 1)) (down l (left - 1)) k r) where
      -- what the records below come to
      abbrev below : LookRead → Bool
      below s = lowest (left - 1) (the_look s)

      read : lowest count top ≡ tells r below
      unfolding lowest
      read = let e : left ≡ suc (left - 1) = omega arith in so_far ∙ ap (λ (n : ℕ). lowest n k) e ∙ reading.is

      pub read-end : (t : Bool) → r ≡ Break t → t ≡ lowest count top
      read-end t e = sym (read ∙ ap (λ (b : ControlFlow Bool LookRead). tells b below) e)

      pub read-on : (s : LookRead) → r ≡ Continue s → lowest count top ≡ lowest (left - 1) (the_look s)
      read-on s e = read ∙ ap (λ (b : ControlFlow Bool LookRead). tells b below) e
