-- The checker is exact: the statements of demand 2 (second sentence) and demand 3 (last two sentences), as the model has them. What
-- check answers is the verdict's, which past refusals 1 to 4 is what the pass comes to; and the pass goes through exactly where an
-- assignment keeps the rules.
use Rattle.std.specs.Prelude.{ℕ, ◌≤◌, List, ◌≡◌, length}
use Rattle.std.proofs.Math.Path.{refl, ap}
use Rattle.std.proofs.Common.{sym, ◌∙◌, arith}
use Rattle.model.specs.Checker.{Known, state_at, Flow, refused, passed, flow}
use Rattle.model.specs.Rules.{Assignment, Keeps}
use Rattle.model.specs.Calls.{map_size, Verdict, pass, refuse, flowed, verdict_of, answered, check_of}
use Rattle.model.specs.Claim.{Bytes, assigned, InOrder, MapKeeps, MapAlone, RefusedExactly, RightCode, PassedExactly}
use Rattle.model.specs.declared.Answer.TheVariants.{Passed, Refused}
use Rattle.theory_checker.proofs.Flow.{flow-keeps, keeps-flow}
use Rattle.theory_checker.proofs.Exact.{passed-as, flow-verdict, passed-keeps, keeps-unique}

never : (n p : ℕ) → Refused n p ≡ Passed → ⊥
never n p e = let c : ◌≡◌ {A = ℕ} 0 1 = cc in omega arith

module _ (f map : List ℕ) where
  passes : (check_of f map).answer ≡ Passed → verdict_of f map ≡ pass (check_of f map).map
  unfolding check_of
  passes e = go (verdict_of f map) e
    where
      go : (v : Verdict) → (answered v).answer ≡ Passed → v ≡ pass (answered v).map
      go (pass new) e = refl
      go (refuse n p new) e = absurd (never n p e)

  -- past refusals 1 to 4 the answer is the pass's
  answer-is : InOrder f → map_size f ≤ length map → (r : Flow Known) → flow f ≡ r → (check_of f map).answer ≡ (answered (flowed f map r)).answer
  unfolding check_of
  answer-is W room r e = ap (λ (v : Verdict). (answered v).answer) (flow-verdict f map W room ∙ ap (flowed f map) e)

  answer-passed : Bytes f → map_size f ≤ length map → RightCode f → (check_of f map).answer ≡ Passed
  answer-passed B room R =
      let W = R.in_order in
      let F = keeps-flow f W.places B W.records W.heads R.assignment R.keeps in
      answer-is W room (passed F.known) F.passes

-- Manual 5.16.2: the map of a file that passes keeps the rules
pub map-keeps : MapKeeps
map-keeps f map B e = passed-keeps f map B (check_of f map).map (passes f map e)

-- Manual 5.16.2: no other assignment does
pub map-alone : MapAlone
map-alone f map B e = keeps-unique f map B (check_of f map).map (passes f map e)

-- Manual 5.16.3: refused exactly when no assignment keeps the rules
pub refused-exactly : RefusedExactly
refused-exactly f map B W room = (
  λ r A K. never r.0 r.1 (sym r.2 ∙ answer-passed f map B room (record { in_order = W; assignment = A; keeps = K })),
  λ w. go w (flow f) refl,
)
  where
    go : ((A : Assignment) → Keeps f A → ⊥) → (r : Flow Known) → flow f ≡ r → (n : ℕ) × (p : ℕ) × ((check_of f map).answer ≡ Refused n p)
    go w (refused n p) e = (n, p, answer-is f map W room (refused n p) e)
    go w (passed k) e = absurd (w (state_at k) (flow-keeps f W.places B W.records W.heads k e))

-- Manual 5.16.1: passed exactly when the rules for code hold of it
pub passed-exactly : PassedExactly
passed-exactly f map B room = (
  λ e.
      record {
        in_order = (passed-as f map (check_of f map).map (passes f map e)).formed;
        assignment = assigned (check_of f map).map;
        keeps = map-keeps f map B e;
      },
  answer-passed f map B room,
)
