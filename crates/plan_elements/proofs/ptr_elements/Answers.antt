-- `plan_elements::ptr_elements`: as `word_elements`; the elements are the pointer words, of which the size has three more, and the bound lies behind them.
use Rattle.std.proofs.Common.{ℕ, ◌+◌, ◌-◌, ◌≡◌, ◌≢◌, ◌∙◌, List, Option, Some, None, ◌-ℤ◌, sym, ap, ⊎_elim, refl, rules, tests, arith}
use Rattle.model.specs.declared.ObjectKind.TheVariants.{PtrVector}
use Rattle.model.specs.Words.{signed, word_at}
use Rattle.model.specs.File.{on_ptr, ins_of}
use Rattle.model.specs.Heap.{kind_at, ptrs_at, size_at, ptr_vector_kind}
use Rattle.model.specs.ObjectKinds.{named-number}
use Rattle.model.specs.Vectors.{elements_at, found, element_in, element_of}
use Rattle.heap.specs.Stores.{Lies, lies}
use Rattle.plan_meaning.specs.Planned.{basic_plan, plan_of, planned}
use Rattle.laws_file.specs.Kinds as kinds
use Rattle.plan_elements.specs.Sought.{heap_from, word-heap-from, bound-behind, place, nil-sought, other-kind, sought}
use Rattle.plan_elements.proofs.ptr_elements.Goals as goal
use Rattle.plan_elements.proofs.ptr_elements.Goals.{Then-ne, Else-ne, Else-object-eq0}

-- the object is no nil, and so lies in the heap; it is a vector of pointers or not
object : (c : Else-object-eq0) → Lies c.args.heap.now (word_at c.args.ptr.now (c.args.regs.ptop - 1))
object c = lies c.requires.5 refl c.if-object-eq0.false

not-pointers : (c : Then-ne) → kind_at c.args.heap.now (word_at c.args.ptr.now (c.args.regs.ptop - 1)) ≢ ptr_vector_kind
not-pointers c = search (rules, tests)

pointers : (c : Else-ne) → kind_at c.args.heap.now (word_at c.args.ptr.now (c.args.regs.ptop - 1)) ≡ ptr_vector_kind
pointers c = named-number _ PtrVector (sym c.kind_of.ensures ∙ search (rules, tests))

shape : (c : Else-ne) →
    let h = c.args.heap.now in
    let o = word_at c.args.ptr.now (c.args.regs.ptop - 1) in
    size_at h o ≡ 3 + ptrs_at h o
shape c = (lies c.requires.5 refl c.if-object-eq0.false).of_pointers (pointers c)

-- so its size tells the number of its elements
counted : (h : List ℕ) (o : ℕ) {size : ℕ} → size ≡ size_at h o → size_at h o ≡ 3 + ptrs_at h o → size - 3 ≡ elements_at on_ptr h o
unfolding elements_at
counted h o e s = omega (arith, e, s)

-- what is found of it, where the search says r
element : (c : Else-ne) (size : ℕ) → size ≡ size_at c.args.heap.now (word_at c.args.ptr.now (c.args.regs.ptop - 1)) →
    let S = c.args in
    let o = word_at S.ptr.now (S.regs.ptop - 1) in
    (r : Option ℕ) →
    ((first : ℕ) → element_in first (size - 3) (signed (word_at S.main.now (S.regs.mtop - 1)) -ℤ signed (word_at (heap_from S.heap.now o) (size - 1))) ≡ place first r) →
    element_of on_ptr S.heap.now o (word_at S.main.now (S.regs.mtop - 1)) ≡ place (o + 2) r
element c size e r f =
    sought on_ptr _ _ _ c.if-object-eq0.false (pointers c) (counted _ _ e (shape c)) (bound-behind _ _ (e ∙ shape c)) ∙ f _

by_two : (o far : ℕ) → found (o + 2 + far) ≡ found (o + (2 + far))
by_two o far = let e : o + 2 + far ≡ o + (2 + far) = omega arith in ap found e

pub returns-then-object-eq0 : goal.returns-then-object-eq0
unfolding planned plan_of basic_plan ins_of
returns-then-object-eq0 c =
    let S = c.args in
    let n = nil-sought on_ptr S.heap.now (word_at S.ptr.now (S.regs.ptop - 1)) (word_at S.main.now (S.regs.mtop - 1)) refl c.if-object-eq0.true in
    λ f m. ⊎_elim (λ e. rw e (rw n)) (λ e. rw e (rw n)) c.requires.7

pub returns-then-ne : goal.returns-then-ne
unfolding planned plan_of basic_plan ins_of
returns-then-ne c =
    let S = c.args in
    let o = other-kind on_ptr S.heap.now (word_at S.ptr.now (S.regs.ptop - 1)) (word_at S.main.now (S.regs.mtop - 1)) refl c.if-object-eq0.false refl (not-pointers c) in
    λ f m. ⊎_elim (λ e. rw e (rw o)) (λ e. rw e (rw o)) c.requires.7

pub returns-in_default : goal.returns-in_default
unfolding planned plan_of basic_plan ins_of
returns-in_default c =
    let n = element (goal.at.returns-in_default c).Else-ne _ c.size_at-size.ensures.is None c.in_default.ensures.place in
    λ f m. ⊎_elim (λ e. rw e (rw n)) (λ e. rw e (rw n)) c.requires.7

pub returns-in-83 : goal.returns-in-83
unfolding planned plan_of basic_plan ins_of
returns-in-83 c =
    let S = c.args in
    let o = word_at S.ptr.now (S.regs.ptop - 1) in
    let w = word-heap-from S.heap.now o (2 + c.in-Some.far) in
    let n = element (goal.at.returns-in-83 c).Else-ne _ c.size_at-size.ensures.is (Some c.in-Some.far) c.in-Some.ensures.place ∙ by_two o c.in-Some.far in
    λ f m. rw (c.writes.ensures, c.in-83.is, w) (rw n)

pub returns-in_default-kind : goal.returns-in_default-kind
unfolding planned plan_of basic_plan ins_of
returns-in_default-kind c =
    let o = word_at c.args.ptr.now (c.args.regs.ptop - 1) in
    let n = element (goal.at.returns-in_default-kind c).Else-ne _ c.size_at-size.ensures.is (Some c.in-Some.far) c.in-Some.ensures.place ∙ by_two o c.in-Some.far in
    λ f m. rw (c.writes-in_default-kind.ensures, kinds.other c.requires.7 (λ e. omega arith)) (rw n)
