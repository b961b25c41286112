-- Seven words stored one behind the other, and the two behind them, which stay, are all of the bytes.
use borrow.Author.Rules.{rules}
use Rattle.registers.specs.Registers.{regs-put}
use Rattle.registers.proofs.put_regs.Goals as goal

pub returns : goal.returns
returns c =
    regs-put c.args.bytes.now (search rules) c.requires c.args.regs c.put_word.ensures c.put_word-2.ensures
    c.put_word-3.ensures c.put_word-4.ensures c.put_word-5.ensures c.put_word-6.ensures c.put_word-7.ensures
