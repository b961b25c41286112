-- Heads rise, so that the heads around a place tell its procedure, and the map tells whether an instruction starts there.
use Rattle.std.proofs.Common.{arith}
use Rattle.std.proofs.lemmas.Bool.Decides.{nat_tests}
use Rattle.audit_places.specs.Places.{within_none, within_low, within-high, within-here}
use Rattle.audit_places.proofs.Passed.within.Goals as goal

pub returns-then-p-end_of : goal.returns-then-p-end_of
returns-then-p-end_of c =
    let h = within-here _ _ _ _ c.args.self.now.ready c.args.n c.args.p in
    let m = c.at.ensures.main.is in
    grind (arith, nat_tests)

pub returns-else-p-end_of : goal.returns-else-p-end_of
returns-else-p-end_of c =
    let a = within_none _ _ _ _ c.args.self.now.ready c.args.n c.args.p in
    let b = within_low _ _ _ _ c.args.self.now.ready c.args.n c.args.p in
    let d = within-high _ _ _ _ c.args.self.now.ready c.args.n c.args.p in
    grind (arith, nat_tests)
