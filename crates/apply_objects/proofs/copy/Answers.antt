-- A turn copies one word more.
use Rattle.std.proofs.Common.{ℕ, ◌+◌, ◌∙◌, List, ap, set, length-set, get_or, arith}
use Rattle.laws.specs.Stores.{copy_more}
use Rattle.apply_objects.proofs.copy.Goals as goal

pub loop-i-preserved : goal.loop-i-preserved
loop-i-preserved c =
    let L = c.loop-i in
    let A = c.args in
    record {
      long = length-set L.heap (A.to + L.i) _ ∙ L.invariant.long;
      copied =
          ap (λ (h : List ℕ). set h (A.to + L.i) (get_or A.words.now L.i 0)) L.invariant.copied
          ∙ copy_more A.heap.now A.words.now A.to 0 L.i (A.to + L.i) (omega arith) (omega arith) (omega arith);
    }
