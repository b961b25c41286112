-- `checker::check_part` meets its contract: a refused file has its part filled.
use mathlib.Core.Path.{sym, ◌∙◌}
use Rattle.checker.specs.Parts.{fill-refused}
use Rattle.checker.proofs.check_part.Goals as goal

pub returns-then-is_err : goal.returns-then-is_err
returns-then-is_err c =
    let v = c.passes-verdict in
    fill-refused c.args.file.now v.new.m c.fill.new.self v.new.table v.result (sym c.is_err.ensures.value ∙ c.if-is_err.true) v.ensures
    (c.fill.ensures.after (λ y e. e)) (v.auto.m ∙ c.requires.part)
