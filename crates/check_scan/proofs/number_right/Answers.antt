-- `check_scan::number_right` meets its contract: each way out is one law.
use mathlib.Core.Bool.{not}
use mathlib.Core.Path.{ap, ◌∙◌}
use native.Mathlib.Omega.{arith}
use borrow.Author.Tests.{ne_eqb, le-ltb}
use Rattle.check_scan.specs.Heading.{number-many, number-later, number-first, number-last}
use Rattle.check_scan.proofs.number_right.Goals as goal

pub returns-then-k-ne0 : goal.returns-then-k-ne0
returns-then-k-ne0 c = ap not (ne_eqb c.args.k 0 c.if-k-ne0.true) ∙ number-later c.args.head c.args.k (omega arith) c.if-k-ne0.true

pub returns-then-head-eq0 : goal.returns-then-head-eq0
returns-then-head-eq0 c = search (number-last)

pub returns-else-head-eq0 : goal.returns-else-head-eq0
returns-else-head-eq0 c = ne_eqb c.args.head.a 0 c.if-head-eq0.false ∙ number-first c.args.head c.args.k (omega arith) c.if-k-ne0.false c.if-head-eq0.false

pub returns-else-k-lt-PROCS_MOST : goal.returns-else-k-lt-PROCS_MOST
returns-else-k-lt-PROCS_MOST c = le-ltb c.args.k _ (omega arith) ∙ number-many c.args.head c.args.k (omega arith)
