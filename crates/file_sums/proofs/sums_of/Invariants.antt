-- `file_sums::sums_of` meets its contract: before each turn the bytes already taken are summed, and all sums on the way are words.
use Prim.Native.Nat.{◌<◌}
use Rattle.file_sums.specs.Summing.{Summing}
use Rattle.file_sums.proofs.sums_of.Given as goal

abbrev pub invariant-loop-byte : goal.invariant-loop-byte
invariant-loop-byte l = Summing l.file l.byte-index l.first l.second × (l.first < 4294967296) × (l.second < 4294967296)
