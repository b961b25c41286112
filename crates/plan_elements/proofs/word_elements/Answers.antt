-- `plan_elements::word_elements`: what the code finds is the element that the definition finds; at each of the two codes that computes.
use Rattle.std.proofs.Common.{ℕ, ◌+◌, ◌-◌, ◌≡◌, ◌≢◌, ◌≤◌, ◌∙◌, List, Option, Some, None, ◌-ℤ◌, sym, ap, ⊎_elim, refl, rules, tests, arith}
use Rattle.model.specs.declared.ObjectKind.TheVariants.{WordVector}
use Rattle.model.specs.Words.{signed, word_at}
use Rattle.model.specs.File.{on_main, ins_of}
use Rattle.model.specs.Heap.{kind_at, ptrs_at, size_at, word_vector_kind}
use Rattle.model.specs.ObjectKinds.{named-number}
use Rattle.model.specs.Vectors.{bound_at, elements_at, element_in, element_of}
use Rattle.heap.specs.Stores.{Lies, lies}
use Rattle.plan_meaning.specs.Planned.{basic_plan, plan_of, planned}
use Rattle.laws_file.specs.Kinds as kinds
use Rattle.plan_elements.specs.Sought.{place, nil-sought, other-kind, sought}
use Rattle.plan_elements.proofs.word_elements.Goals as goal
use Rattle.plan_elements.proofs.word_elements.Goals.{Then-ne, Else-ne, Else-object-eq0}

-- the object is no nil, and so lies in the heap; it is a vector of words or not
object : (c : Else-object-eq0) → Lies c.args.heap.now (word_at c.args.ptr.now (c.args.regs.ptop - 1))
object c = lies c.requires.5 refl c.if-object-eq0.false

not-words : (c : Then-ne) → kind_at c.args.heap.now (word_at c.args.ptr.now (c.args.regs.ptop - 1)) ≢ word_vector_kind
not-words c = search (rules, tests)

words : (c : Else-ne) → kind_at c.args.heap.now (word_at c.args.ptr.now (c.args.regs.ptop - 1)) ≡ word_vector_kind
words c = named-number _ WordVector (sym c.kind_of.ensures ∙ search (rules, tests))

shape : (c : Else-ne) →
    let h = c.args.heap.now in
    let o = word_at c.args.ptr.now (c.args.regs.ptop - 1) in
    (ptrs_at h o ≡ 0) × (3 ≤ size_at h o)
shape c = (lies c.requires.5 refl c.if-object-eq0.false).of_words (words c)

bound_at-first : (h : List ℕ) (o : ℕ) → ptrs_at h o ≡ 0 → word_at h (o + 2) ≡ bound_at h o
unfolding bound_at
bound_at-first h o e = rw e

-- what is found of it, where the search says r
element : (c : Else-ne) (count : ℕ) → count ≡ size_at c.args.heap.now (word_at c.args.ptr.now (c.args.regs.ptop - 1)) →
    let S = c.args in
    let o = word_at S.ptr.now (S.regs.ptop - 1) in
    (r : Option ℕ) → ((first : ℕ) → element_in first (count - 3) (signed (word_at S.main.now (S.regs.mtop - 1)) -ℤ signed (word_at S.heap.now (o + 2))) ≡ place first r) →
    element_of on_main S.heap.now o (word_at S.main.now (S.regs.mtop - 1)) ≡ place (o + 3) r
unfolding elements_at
element c count e r f =
    sought on_main _ _ _ c.if-object-eq0.false (words c) (ap (λ (n : ℕ). n - 3) e) (bound_at-first _ _ (shape c).0) ∙ f _

pub returns-then-object-eq0 : goal.returns-then-object-eq0
unfolding planned plan_of basic_plan ins_of
returns-then-object-eq0 c =
    let S = c.args in
    let n = nil-sought on_main S.heap.now (word_at S.ptr.now (S.regs.ptop - 1)) (word_at S.main.now (S.regs.mtop - 1)) refl c.if-object-eq0.true in
    λ f m. ⊎_elim (λ e. rw e (rw n)) (λ e. rw e (rw n)) c.requires.7

pub returns-then-ne : goal.returns-then-ne
unfolding planned plan_of basic_plan ins_of
returns-then-ne c =
    let S = c.args in
    let o = other-kind on_main S.heap.now (word_at S.ptr.now (S.regs.ptop - 1)) (word_at S.main.now (S.regs.mtop - 1)) refl c.if-object-eq0.false refl (not-words c) in
    λ f m. ⊎_elim (λ e. rw e (rw o)) (λ e. rw e (rw o)) c.requires.7

pub returns-in_default : goal.returns-in_default
unfolding planned plan_of basic_plan ins_of
returns-in_default c =
    let n = element (goal.at.returns-in_default c).Else-ne _ c.size_at-elements.ensures.is None c.in_default.ensures.place in
    λ f m. ⊎_elim (λ e. rw e (rw n)) (λ e. rw e (rw n)) c.requires.7

pub returns-in-82 : goal.returns-in-82
unfolding planned plan_of basic_plan ins_of
returns-in-82 c =
    let n = element (goal.at.returns-in-82 c).Else-ne _ c.size_at-elements.ensures.is (Some c.in-Some.far) c.in-Some.ensures.place in
    λ f m. rw (c.writes.ensures, c.in-82.is) (rw n)

pub returns-in_default-kind : goal.returns-in_default-kind
unfolding planned plan_of basic_plan ins_of
returns-in_default-kind c =
    let n = element (goal.at.returns-in_default-kind c).Else-ne _ c.size_at-elements.ensures.is (Some c.in-Some.far) c.in-Some.ensures.place in
    λ f m. rw (c.writes-in_default-kind.ensures, kinds.other c.requires.7 (λ e. omega arith)) (rw n)
