-- Taking an instruction on the part of the map that is the file's: the tests of refusals 5 to 8, then the states that it passes on (9).
use Rattle.std.specs.Prelude.{ℕ, ◌*◌, Bool, false, not, ◌&&◌, List, [], ◌∷◌, ltb, eqb, get_or}
use Rattle.model.specs.Choice.{when◌then◌else◌, all}
use Rattle.model.specs.File.{Ins, ins_at}
use Rattle.model.specs.Checker.{none, State, same_state, innermost, passes, target_tests, next_tests, depth_tests, leave_tests, Taking, good, need, meet, and_take}
use Rattle.check_scan.specs.Marks.{state_in, put_in}
use Rattle.check_rows.specs.Rows.{is_set_in}

-- an instruction starts at q, between a procedure's head h and its end e
abbrev pub own_in : List ℕ → ℕ → ℕ → ℕ → Bool
own_in m h e q = when ltb h q then (when ltb q e then not (eqb (get_or m (3 * q) 0) none) else false) else false

abbrev pub pass_one_in : List ℕ → ℕ → State → Taking (List ℕ)
pass_one_in m q s = meet (is_set_in (state_in m q)) (same_state (state_in m q) s) m (put_in m q s)

abbrev pub pass_all_in : List (ℕ × State) → List ℕ → Taking (List ℕ)
pass_all_in [] m = good m
pass_all_in (o ∷ os) m = and_take (pass_one_in m o.0 o.1) (λ m'. pass_all_in os m')

unfoldable pub take_in_with : List ℕ → ℕ → Ins → List ℕ → State → State → Taking (List ℕ)
take_in_with f p i m s o =
    need (all (target_tests f p i)) 5
    (need (is_set_in s && all (next_tests f p i)) 6
    (need (all (depth_tests f p i s o)) 7
    (need (all (leave_tests f p i s)) 8
    (pass_all_in (passes f p i s o) m))))

unfoldable pub take_in : List ℕ → ℕ → List ℕ → Taking (List ℕ)
take_in f p m = take_in_with f p (ins_at f p) m (state_in m p) (innermost (state_in m) (state_in m p))
