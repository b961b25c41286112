-- `apply_words::plain` meets its contract: an arm knows where the word goes, and a stack that it leaves alone is cut at or above its top.
use mathlib.Core.Path.{refl}
use Rattle.apply_words.specs.Laws.{fits-at, main-kept, ptr-kept, plainly-cut, plainly-main, plainly-ptr, plainly-heap}
use Rattle.apply_words.proofs.plain.Goals as goal

pub returns-in-Nothing-clause-state : goal.returns-in-Nothing-clause-state
returns-in-Nothing-clause-state c =
    let P = c.requires in
    let e = c.in-Nothing.is in
    let F = fits-at P e in
    plainly-cut P (main-kept P F) (ptr-kept P F) e refl

pub returns-in-Pop-clause-state : goal.returns-in-Pop-clause-state
returns-in-Pop-clause-state c =
    let P = c.requires in
    let e = c.in-Pop.is in
    plainly-cut P c.pop_last.ensures (ptr-kept P (fits-at P e).1) e refl

pub returns-in-Push-clause-state : goal.returns-in-Push-clause-state
returns-in-Push-clause-state c =
    let P = c.requires in
    let e = c.in-Push.is in
    let F = (fits-at P e).1 in
    plainly-main P (main-kept P F) (ptr-kept P F) e refl

pub returns-in-Main-clause-state : goal.returns-in-Main-clause-state
returns-in-Main-clause-state c =
    let P = c.requires in
    let e = c.in-Main.is in
    plainly-main P c.pop_last-in-Main.ensures (ptr-kept P (fits-at P e).2) e refl

pub returns-in-Pointer-clause-state : goal.returns-in-Pointer-clause-state
returns-in-Pointer-clause-state c =
    let P = c.requires in
    let e = c.in-Pointer.is in
    plainly-ptr P (main-kept P (fits-at P e).1) c.pop_one.ensures e refl

pub returns-in-Heap-clause-state : goal.returns-in-Heap-clause-state
returns-in-Heap-clause-state c =
    let P = c.requires in
    let e = c.in-Heap.is in
    plainly-heap P (main-kept P (fits-at P e).2) c.pop_some.ensures e refl _

pub returns-in-Read-clause-state : goal.returns-in-Read-clause-state
returns-in-Read-clause-state c =
    let P = c.requires in
    let e = c.in-Read.is in
    plainly-main P (main-kept P (fits-at P e).2) c.pop_some-in-Read.ensures e refl

pub returns-in-ReadPointer-clause-state : goal.returns-in-ReadPointer-clause-state
returns-in-ReadPointer-clause-state c =
    let P = c.requires in
    let e = c.in-ReadPointer.is in
    plainly-ptr P c.pop_last-in-ReadPointer.ensures (ptr-kept P (fits-at P e).2) e refl
