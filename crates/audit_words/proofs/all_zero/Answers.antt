-- What the words join to is 0 exactly where each of them is.
use Rattle.std.proofs.Common.{rules, tests, arith, eqb}
use Rattle.std.specs.List.{between}
use Rattle.std.specs.Int.Bits.{bit_or}
use Rattle.std.proofs.lemmas.Iterator.{YieldsList-from_slice}
use Rattle.std.proofs.lemmas.Iterator.Consumers.{fold_from_yields_List}
use Rattle.audit_words.specs.Every.{zero_at, every-between, joined}
use Rattle.audit_words.proofs.all_zero.Goals as goal

pub returns-else-end-from : goal.returns-else-end-from
unfolding zero_at
returns-else-end-from c =
    let l = between c.args.from c.args.end c.args.words.now in
    rw (
      fold_from_yields_List _ bit_or 0 c.fold.result c.fold.ensures.ran (YieldsList-from_slice l cc) (λ a x b q k. search (rules, tests)),
      joined 0 l,
    )
    (every-between (λ w. eqb w 0) c.args.words.now c.args.from c.args.end (omega arith) (omega arith))
