-- Where every word is a pointer there is no fault. Else the search for the first that is none tells it.
use Rattle.std.proofs.Common.{◌-◌, ◌≡◌, true, false, length, subst, rules, tests, arith}
use Rattle.std.specs.List.{between}
use Rattle.std.proofs.lemmas.Iterator.{IsFirst-from_position, YieldsList-from_slice}
use Rattle.audit_words.specs.Every.{Every, every-within}
use Rattle.audit_words.specs.Table.{is_marked, marked_at}
use Rattle.model.specs.Heap.{range}
use Rattle.audit_heap.specs.First.{first_bad}
use Rattle.audit_heap.specs.Turns.{every-clean, searched, search-told}
use Rattle.audit_heap.proofs.check_pointers.Goals as goal
use Rattle.audit_heap.proofs.check_pointers.Goals.{After-position}

pub returns-then-all_pointers : goal.returns-then-all_pointers
unfolding marked_at
returns-then-all_pointers c =
    let a = c.args in
    let words = between a.from a.end a.heap.now in
    every-clean _ a.from a.end (omega arith)
    (every-within (is_marked a.marks.now) a.heap.now a.from a.end true (omega arith) (omega arith)
    (subst (Every (marked_at a.marks.now words) 0 (length words)) c.if-all_pointers.true c.all_pointers.ensures))

found : (c : After-position) →
    let a = c.args in
    searched a.from c.position.result ≡ first_bad (marked_at a.marks.now a.heap.now) (range a.from (a.end - a.from))
unfolding marked_at
found c =
    let a = c.args in
    let Q = is_marked a.marks.now in
    search-told Q a.heap.now a.from a.end c.position.result (omega arith) (omega arith)
    (IsFirst-from_position _ _ c.position.result (λ w. Q w ≡ false) (λ w. Q w ≡ true) c.position.ensures.ran
    (YieldsList-from_slice (between a.from a.end a.heap.now) cc) (λ x q k. search (rules, tests)) (λ x q k. search (rules, tests)))

pub returns-in-Some : goal.returns-in-Some
returns-in-Some c = rw c.in-Some.is at (found (goal.at.returns-in-Some c).After-position)

pub returns-in-None : goal.returns-in-None
returns-in-None c = rw c.in-None.is at (found (goal.at.returns-in-None c).After-position)
