-- Where every free word is 0 there is no fault. Else the search for the first that is not tells it.
use Rattle.std.proofs.Common.{ℕ, ◌≡◌, true, false, eqb, length, subst, rules, tests, arith}
use Rattle.std.specs.List.{between}
use Rattle.std.proofs.lemmas.Iterator.{IsFirst-from_position, YieldsList-from_slice}
use Rattle.model.specs.Heap.{mark_of}
use Rattle.audit_words.specs.Every.{Every, zero_at}
use Rattle.audit_heap.specs.First.{first_bad, free_words}
use Rattle.audit_heap.specs.Turns.{every-clean, searched, search-told}
use Rattle.audit_heap.proofs.free_zero.Goals as goal
use Rattle.audit_heap.proofs.free_zero.Goals.{After-position}

pub returns-then-all_zero : goal.returns-then-all_zero
returns-then-all_zero c =
    let h = c.args.heap.now in
    every-clean (zero_at h) (mark_of h) (length h) c.requires.high (subst (Every (zero_at h) (mark_of h) (length h)) c.if-all_zero.true c.all_zero.ensures)

found : (c : After-position) →
    let h = c.args.heap.now in
    searched (mark_of h) c.position.result ≡ first_bad (zero_at h) (free_words h)
unfolding zero_at
found c =
    let h = c.args.heap.now in
    let Q = λ (w : ℕ). eqb w 0 in
    search-told Q h (mark_of h) (length h) c.position.result c.requires.high (omega arith)
    (IsFirst-from_position _ _ c.position.result (λ w. Q w ≡ false) (λ w. Q w ≡ true) c.position.ensures.ran
    (YieldsList-from_slice (between (mark_of h) (length h) h) cc) (λ x q k. search (rules, tests)) (λ x q k. search (rules, tests)))

pub returns-in-Some : goal.returns-in-Some
returns-in-Some c = rw c.in-Some.is at (found (goal.at.returns-in-Some c).After-position)

pub returns-in-None : goal.returns-in-None
returns-in-None c = rw c.in-None.is at (found (goal.at.returns-in-None c).After-position)
