-- `check_scan::list` meets its contract: each branch decides the two choices.
use native.Mathlib.Omega.{arith}
use borrow.Author.Tests.{ne_eqb}
use Rattle.laws.specs.Choices.{cases}
use Rattle.check_scan.specs.Scanning.{list_in, last_in}
use Rattle.check_scan.proofs.list.Goals as goal

pub returns-then-k-lt-PROCS_MOST : goal.returns-then-k-lt-PROCS_MOST
unfolding list_in last_in
returns-then-k-lt-PROCS_MOST c =
    record { heads = search cases; later = rw (ne_eqb c.args.k 64 (λ z. omega arith)) }

pub returns-then-k-eq-PROCS_MOST : goal.returns-then-k-eq-PROCS_MOST
unfolding list_in last_in
returns-then-k-eq-PROCS_MOST c =
    record { heads = search cases; later = search cases }

pub returns-else-k-eq-PROCS_MOST : goal.returns-else-k-eq-PROCS_MOST
unfolding list_in last_in
returns-else-k-eq-PROCS_MOST c =
    record { heads = search cases; later = search cases }
