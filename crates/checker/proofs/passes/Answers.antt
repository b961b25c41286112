-- `checker::passes` meets its contract: the records decide, or else the heads and the flow.
use mathlib.Core.Path.{◌≡◌, refl}
use native.Mathlib.Omega.{arith}
use lib.ListN.{length, replicate}
use Rattle.model.specs.Checker.{none}
use Rattle.check_scan.specs.Heading.{ScanMarked}
use Rattle.std.proofs.lemmas.Result.{err_from_is_err_and}
use Rattle.checker.specs.Parts.{look-broken, look-whole, look-wrong, look-begun-cut}
use Rattle.checker.proofs.passes.Goals as goal
use Rattle.checker.proofs.passes.Goals.{In_ok-found}

-- behind the scan: what the marked part shows
marked-at : (c : In_ok-found) → ScanMarked c.args.file.now c.scan.new.m c.scan.new.table c.in_ok-found.found.heads c.in_ok-found.found.later
marked-at c =
    let a = c.args in
    let filled : c.fill.new.self ≡ replicate (length a.m.now) none = c.fill.ensures.after (λ y e. e) in
    look-whole a.file.now a.m.now c.fill.new.self c.scan.new.m a.table.now c.scan.new.table c.requires filled _ c.in_ok-found.ensures c.in_ok-found.found refl

pub heads_of-requires : goal.heads_of-requires
heads_of-requires c = marked-at (goal.at.heads_of-requires c).In_ok-found

pub flow-requires : goal.flow-requires
flow-requires c =
    let H = c.in_ok-k.ensures in
    look-begun-cut c.args.file.now c.scan.new.m c.scan.new.table _ _ (marked-at (goal.at.flow-requires c).In_ok-found) c.heads_of.new.m c.in_ok-k.k (omega (arith, H.1.few)) H

-- the records are broken: refusal 3
pub returns-in_err-found : goal.returns-in_err-found
returns-in_err-found c =
    let a = c.args in
    let filled : c.fill.new.self ≡ replicate (length a.m.now) none = c.fill.ensures.after (λ y e. e) in
    let p = err_from_is_err_and c.from_residual.result c.from_residual.ensures.1 in
    let w = look-broken a.file.now a.m.now c.fill.new.self c.scan.new.m a.table.now c.scan.new.table c.requires filled _ c.in_err-found.ensures _ refl in
    rw (p.1, p.2) w.1

-- the heads are wrong: refusal 4
pub returns-in_err-k : goal.returns-in_err-k
returns-in_err-k c =
    let a = c.args in
    let M = marked-at (goal.at.returns-in_err-k c).In_ok-found in
    let p = err_from_is_err_and c.from_residual-in_err-k.result c.from_residual-in_err-k.ensures.1 in
    let H = c.in_err-k.ensures in
    rw (p.1, p.2, H.0) (look-wrong a.file.now c.scan.new.m c.scan.new.table _ _ M c.heads_of.new.m _ H.1)
