-- Tests 1 to 9 refuse with a number of at most 9 (`verdict-number`): each test carries its own.
use Rattle.std.specs.Prelude.{ℕ, ◌≤◌, Bool, true, false, ◌&&◌, List, [], ◌∷◌, ◌≡◌, leb, length}
use Rattle.std.proofs.Common.{subst, arith}
use Rattle.model.specs.Choice.{when◌then◌else◌, all}
use Rattle.model.specs.File.{Ins, file_most, Records, broken, starts, records_of, Heads, wrong, right, heads_of, ins_at, instructions, procs}
use Rattle.model.specs.Checker.{State, Known, is_set, state_at, same_state, firsts, innermost, Taking, bad, good, Flow, refused, passed, need, meet, and_take}
use Rattle.model.specs.Checker.{go_on, pass_all, passes, target_tests, next_tests, depth_tests, leave_tests, take_with, take_one, take_all, flow}
use Rattle.model.specs.Calls.{Verdict, pass, refuse, map_size, flowed, headed, scanned, verdict_of}

abbrev TakenFew : Taking Known → Type 0
TakenFew (bad n) = n ≤ 9
TakenFew (good k) = Unit {0}

abbrev FlowFew : Flow Known → Type 0
FlowFew (refused n p) = n ≤ 9
FlowFew (passed k) = Unit {0}

abbrev VerdictFew : Verdict → Type 0
VerdictFew (pass map) = Unit {0}
VerdictFew (refuse n p map) = n ≤ 9

need-few : (t : Bool) (n : ℕ) (k : Taking Known) → n ≤ 9 → TakenFew k → TakenFew (need t n k)
need-few true n k l r = r
need-few false n k l r = l

pass-few : (os : List (ℕ × State)) (k : Known) → TakenFew (pass_all os k)
pass-few [] k = tt
pass-few (o ∷ os) k = go (is_set (state_at k o.0)) (same_state (state_at k o.0) o.1) (pass-few os)
  where
    go : (s t : Bool) → ((k' : Known) → TakenFew (pass_all os k')) → TakenFew (and_take (meet s t k ((o.0, o.1) ∷ k)) (λ k'. pass_all os k'))
    go false t rest = rest ((o.0, o.1) ∷ k)
    go true true rest = rest k
    go true false rest = omega arith

take-few : (f : List ℕ) (p : ℕ) (i : Ins) (k : Known) (s o : State) → TakenFew (take_with f p i k s o)
unfolding take_with
take-few f p i k s o =
    need-few (all (target_tests f p i)) 5 _ (omega arith)
    (need-few (is_set s && all (next_tests f p i)) 6 _ (omega arith)
    (need-few (all (depth_tests f p i s o)) 7 _ (omega arith)
    (need-few (all (leave_tests f p i s)) 8 _ (omega arith) (pass-few (passes f p i s o) k))))

all-few : (f ps : List ℕ) (k : Known) → FlowFew (take_all f ps k)
unfolding take_all take_one
all-few f [] k = tt
all-few f (p ∷ ps) k = go (take_one f p k) (take-few f p (ins_at f p) k (state_at k p) (innermost (state_at k) (state_at k p))) (all-few f ps)
  where
    go : (r : Taking Known) → TakenFew r → ((k' : Known) → FlowFew (take_all f ps k')) → FlowFew (go_on p r (λ k'. take_all f ps k'))
    go (bad n) l rest = l
    go (good k') l rest = rest k'

verdict-few : (f map : List ℕ) → VerdictFew (verdict_of f map)
unfolding verdict_of flow
verdict-few f map = long (leb 1 (length f) && leb (length f) file_most) (leb (map_size f) (length map))
  where
    flows : (r : Flow Known) → FlowFew r → VerdictFew (flowed f map r)
    flows (refused n p) l = l
    flows (passed k) l = tt

    heads : (r : Heads) → VerdictFew (headed f map r)
    heads (wrong p) = omega arith
    heads right = flows (flow f) (all-few f (instructions f) (firsts f (procs f)))

    records : (r : Records) → VerdictFew (scanned f map r)
    records (broken p) = omega arith
    records (starts ps) = heads (heads_of f)

    long : (s t : Bool) → VerdictFew (when s then (when t then scanned f map (records_of f) else refuse 2 0 map) else refuse 1 0 map)
    long true true = records (records_of f)
    long true false = omega arith
    long false t = omega arith

pub verdict-number : (f map new : List ℕ) (n p : ℕ) → verdict_of f map ≡ refuse n p new → n ≤ 9
verdict-number f map new n p e = subst VerdictFew e (verdict-few f map)
