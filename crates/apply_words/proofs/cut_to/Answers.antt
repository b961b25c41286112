-- `apply_words::cut_to` meets its contract: a cut to above the top changes nothing, below it the words between go, few without a loop.
use native.Mathlib.Omega.{arith}
use mathlib.Core.Path.{◌≡◌, ap, ◌∙◌}
use Prim.Native.Nat.{ℕ, ◌-◌}
use Rattle.std.proofs.lemmas.Grind.{common_steps}
use Rattle.std.specs.Prelude.{replicate, take, drop, length}
use Rattle.laws.specs.Cuts.{cut-above}
use Rattle.apply_words.specs.Laws.{fill-cuts}
use Rattle.apply_words.proofs.cut_to.Goals as goal

pub returns-then-old-new : goal.returns-then-old-new
returns-then-old-new c = cut-above _ _ _ c.if-old-new.true c.requires

pub returns : goal.returns
returns c =
    let k = c.args.old - c.args.new in
    let d : length (take k (drop c.args.new c.args.l.now)) ≡ k = grind (arith, common_steps) in
    let e : c.fill.new.self ≡ replicate k 0 = c.fill.ensures.after (λ y h. h) ∙ ap (λ (n : ℕ). replicate n 0) d in
    rw e (fill-cuts c.args.new k c.args.l.now (omega arith) (λ i h. c.requires.zero i (omega arith)))
