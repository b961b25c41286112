-- A file that passes is in order, and the finished map is the one assignment that keeps the rules: the pass finds the
-- assignment if there is one, and its states are what the map has at every place of the file.
use Rattle.std.specs.Prelude.{ℕ, ◌<◌, ◌≤◌, Bool, true, false, ◌&&◌, List, [], ◌≡◌, refl, length}
use Rattle.std.proofs.Math.Path.{ap}
use Rattle.std.proofs.Common.{sym, ◌∙◌}
use native.Mathlib.Omega.{arith}
use Rattle.std.proofs.Math.Dec.{leb}
use borrow.Author.Tests.{leb-true, le-leb}
use Rattle.model.specs.Choice.{when◌then◌else◌, Mem}
use Rattle.model.specs.File.{file_most, Records, broken, starts, records_of, Heads, wrong, right, heads_of, procs, instructions}
use Rattle.model.specs.Checker.{unset, Known, state_at, firsts, Flow, refused, passed, flow}
use Rattle.model.specs.Rules.{Assignment, Keeps}
use Rattle.model.specs.Calls.{map_size, Verdict, pass, refuse, flowed, headed, scanned, verdict_of}
use Rattle.model.specs.Claim.{Bytes, assigned, InOrder}
use Rattle.laws.specs.Choices.{both_true}
use Rattle.laws_file.specs.Walk.{heads-right, right-heads, instruction-below}
use Rattle.theory_checker.specs.Flow.{StateShape}
use Rattle.theory_checker.proofs.Flow.{taken-targets, keeps-shape, keeps_same, flow-rest, flow-keeps, keeps-flow}
use Rattle.theory_checker.specs.Exact.{finished_map, finished-map-at, finished-length, finished-again, Passed}

module _ (f map : List ℕ) where
  if-pass : (t : Bool) (v : Verdict) (n : ℕ) (new : List ℕ) → (when t then v else refuse n 0 map) ≡ pass new → (t ≡ true) × (v ≡ pass new)
  if-pass true v n new e = (refl, e)
  if-pass false v n new e = (cc, cc)

  scanned-pass : (r : Records) (new : List ℕ) → scanned f map r ≡ pass new →
      (ps : List ℕ) × (r ≡ starts ps) × (headed f map (heads_of f) ≡ pass new)
  scanned-pass (broken p) new e = ([], cc, cc)
  scanned-pass (starts ps) new e = (ps, refl, e)

  headed-pass : (h : Heads) (new : List ℕ) → headed f map h ≡ pass new → (h ≡ right) × (flowed f map (flow f) ≡ pass new)
  headed-pass (wrong p) new e = (cc, cc)
  headed-pass right new e = (refl, e)

  flowed-pass : (r : Flow Known) (new : List ℕ) → flowed f map r ≡ pass new → (k : Known) × (r ≡ passed k) × (new ≡ finished_map f map k)
  flowed-pass (refused n p) new e = ([], cc, cc)
  flowed-pass (passed k) new e = (k, refl, cc)

  pub passed-as : (new : List ℕ) → verdict_of f map ≡ pass new → Passed f map new
  unfolding verdict_of flow
  passed-as new e =
      let v : Verdict = when leb (map_size f) (length map) then scanned f map (records_of f) else refuse 2 0 map in
      let a = if-pass (leb 1 (length f) && leb (length f) file_most) v 1 new e in
      let l = both_true (leb 1 (length f)) (leb (length f) file_most) a.0 in
      let b = if-pass (leb (map_size f) (length map)) (scanned f map (records_of f)) 2 new a.1 in
      let c = scanned-pass (records_of f) new b.1 in
      let d = headed-pass (heads_of f) new c.2 in
      let w = flowed-pass (flow f) new d.1 in
      record {
        formed =
            record {
              some = leb-true 1 (length f) l.0;
              few = leb-true (length f) file_most l.1;
              places = c.0;
              records = c.1;
              heads = heads-right f d.0;
              targets = taken-targets f (instructions f) (firsts f (procs f)) w.0 w.1;
            };
        room = leb-true (map_size f) (length map) b.0;
        known = w.0;
        flows = w.1;
        is = w.2;
      }

  -- past refusals 1 to 4 the verdict is the pass's
  pub flow-verdict : InOrder f → map_size f ≤ length map → verdict_of f map ≡ flowed f map (flow f)
  unfolding verdict_of
  flow-verdict F l =
      rw (
        le-leb 1 (length f) F.some,
        le-leb (length f) file_most F.few,
        le-leb (map_size f) (length map) l,
        F.records,
        right-heads f F.heads,
      )

-- the map of a file that passes, handed in again, passes and stays
module _ (f map new : List ℕ) (e : verdict_of f map ≡ pass new) where
  pub passed_length : length new ≡ length map
  passed_length = let P = passed-as f map new e in ap length P.is ∙ finished-length f map P.known P.room

  pub passed-again : verdict_of f new ≡ pass new
  passed-again =
      let P = passed-as f map new e in
      let l = passed_length in
      let r = P.room in
      let w = P.is in
      flow-verdict f new P.formed (omega arith)
      ∙ ap (flowed f new) P.flows
      ∙ ap pass (ap (λ (x : List ℕ). finished_map f x P.known) w ∙ finished-again f map P.known ∙ sym w)

module _ (f map : List ℕ) (B : Bytes f) (new : List ℕ) (e : verdict_of f map ≡ pass new) where
  P : Passed f map new
  P = passed-as f map new e

  W : InOrder f
  W = P.formed

  map_is : (p : ℕ) → p < length f → state_at P.known p ≡ assigned new p
  map_is p l = sym (finished-map-at f map P.known p l) ∙ ap (λ (m : List ℕ). assigned m p) (sym P.is)

  known_is : (p : ℕ) → Mem p (instructions f) → state_at P.known p ≡ assigned new p
  known_is p m = map_is p (instruction-below f W.places W.records p m)

  -- the map of a file that passes keeps the rules
  pub passed-keeps : Keeps f (assigned new)
  passed-keeps =
      keeps_same f W.places B W.records W.heads (state_at P.known) (assigned new) known_is
      (flow-keeps f W.places B W.records W.heads P.known P.flows)

  -- its depths lie within the procedure's, and its third numbers are below their places
  pub passed-shape : (p : ℕ) → Mem p (instructions f) → StateShape f (assigned new) p
  passed-shape = keeps-shape f W.places B W.records W.heads (assigned new) passed-keeps

  -- 65,535 three times where no instruction starts
  pub passed-rest : (p : ℕ) → p < length f → (Mem p (instructions f) → ⊥) → assigned new p ≡ unset
  passed-rest p l n = sym (map_is p l) ∙ flow-rest f W.places B W.records W.heads P.known P.flows p n

  -- no other assignment keeps the rules
  pub keeps-unique : (A : Assignment) → Keeps f A → (p : ℕ) → Mem p (instructions f) → A p ≡ assigned new p
  keeps-unique A K p m =
      let F = keeps-flow f W.places B W.records W.heads A K in
      let w : F.known ≡ P.known = let a = F.passes in let b = P.flows in cc in
      F.same p m ∙ ap (λ (k : Known). state_at k p) w ∙ known_is p m
