-- `file_sums::sums_of` meets its contract: before each turn the bytes already taken are summed, and all sums on the way are words.
use Rattle.std.proofs.Common.{refl, arith}
use Rattle.file_sums.specs.Summing.{one-summed, all-summed}
use Rattle.file_sums.proofs.Fitting.{summed-fit}
use Rattle.file_sums.proofs.sums_of.Goals as goal

pub loop-byte-preserved : goal.loop-byte-preserved
loop-byte-preserved c =
    let more = one-summed c.loop-byte.invariant.0 _ refl (omega arith) in
    let fit = summed-fit more (λ i. omega (arith, c.type_inv.file i)) c.requires in
    (more, fit.0, fit.1)

pub returns : goal.returns
returns c = all-summed c.loop-byte.invariant.0 (omega arith)
