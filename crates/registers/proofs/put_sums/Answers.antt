-- The two words stored behind the others, which stay, are with them all of the bytes.
use borrow.Author.Rules.{rules}
use Rattle.registers.specs.Registers.{sums-put}
use Rattle.registers.proofs.put_sums.Goals as goal

pub returns : goal.returns
returns c =
    sums-put c.args.bytes.now (search rules) c.requires c.args.sums c.put_word.ensures c.put_word-2.ensures
