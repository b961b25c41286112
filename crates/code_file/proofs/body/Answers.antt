-- `code_file::body`: the entry read is the kind's entry of `lengths`, whose rule holds at every kind (`lengths-are`).
use Rattle.std.proofs.Common.{◌∙◌, ap, List, ℕ, get_or}
use Rattle.code_file.specs.Table.{lengths-are}
use borrow.Author.Rules.{rules}
use Rattle.code_file.proofs.body.Goals as goal

pub returns : goal.returns
returns c = record {
  is = ap (λ (l : List ℕ). get_or l c.args.kind 0) c.requires ∙ lengths-are c.args.kind (search rules);
  small = search rules;
}
