-- A turn fills one word more.
use Rattle.std.proofs.Common.{ℕ, ◌≡◌, ◌+◌, ◌-◌, ◌∙◌, List, ap, set, length-set, arith}
use Rattle.apply_objects.specs.Laws.{fill_more}
use Rattle.apply_objects.proofs.fill.Goals as goal

pub loop-i-preserved : goal.loop-i-preserved
loop-i-preserved c =
    let L = c.loop-i in
    let A = c.args in
    let e : L.i + 1 - A.from ≡ L.i - A.from + 1 = omega arith in
    record {
      long = length-set L.heap L.i _ ∙ L.invariant.long;
      filled =
          ap (λ (h : List ℕ). set h L.i A.word) L.invariant.filled
          ∙ rw e (fill_more A.heap.now A.from L.i (L.i - A.from) A.word (omega arith));
    }
