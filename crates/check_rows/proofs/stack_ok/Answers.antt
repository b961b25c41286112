-- `check_rows::stack_ok`: by the definition's own tests; a depth that does not rise stays within the greatest.
use mathlib.Core.Bool.{true, false}
use mathlib.Core.Path.{◌≡◌, ◌∙◌}
use Prim.Native.Nat.{ℕ, ◌+◌, ◌-◌, ◌<◌, ◌≤◌}
use native.Mathlib.Omega.{arith}
use lib.Dec.{leb}
use borrow.Author.Tests.{le-leb, lt-leb}
use Rattle.check_rows.specs.Tests.{stack_ok}
use Rattle.check_rows.proofs.stack_ok.Goals as goal

module _ (have floor pop push word x : ℕ) where
  under : have < floor + pop → false ≡ stack_ok have floor pop push word x
  unfolding stack_ok
  under h = rw (lt-leb (floor + pop) have h)

  short : floor + pop ≤ have → have - pop < word → false ≡ stack_ok have floor pop push word x
  unfolding stack_ok
  short h l = rw (le-leb (floor + pop) have h, lt-leb word (have - pop) l)

  enough : floor + pop ≤ have → word ≤ have - pop → leb (have - pop + push) x ≡ stack_ok have floor pop push word x
  unfolding stack_ok
  enough h l = rw (le-leb (floor + pop) have h, le-leb word (have - pop) l)

  lower : floor + pop ≤ have → word ≤ have - pop → have - pop + push ≤ x → true ≡ stack_ok have floor pop push word x
  lower h l m = rw (le-leb (have - pop + push) x m) at (enough h l)

pub returns-then-have-floor : goal.returns-then-have-floor
returns-then-have-floor c = under _ _ _ _ _ _ (omega arith)

pub returns-else-word-rest : goal.returns-else-word-rest
returns-else-word-rest c = lt-leb _ _ (omega arith) ∙ short _ _ _ _ _ _ (omega arith) (omega arith)

pub returns-then-push-pop : goal.returns-then-push-pop
returns-then-push-pop c = le-leb _ _ (omega arith) ∙ lower _ _ _ _ _ _ (omega arith) (omega arith) (omega arith)

pub returns-else-push-pop : goal.returns-else-push-pop
returns-else-push-pop c = enough _ _ _ _ _ _ (omega arith) (omega arith)
