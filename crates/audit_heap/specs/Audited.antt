-- The audit is the statement: `heap_of` answers the objects exactly of a sound heap (`heap_clean`, `clean-heap`), and otherwise the first
-- fault (`fault-exact`), so that there is one (`fault-unsound`). The walk finds the only objects that there can be, each later test is a
-- field of `Heap`, and the indices that are tested rise.
use Rattle.std.specs.Prelude.{ℕ, zero, suc, ◌+◌, ◌-◌, ◌<◌, ◌≤◌, ◌≡◌, refl, Bool, true, false, not, ◌&&◌, ◌||◌, List, [], ◌∷◌, ◌++◌, ◌⊎◌, leb, ltb}
use Rattle.std.proofs.Common.{Ok, Err, sym, ◌∙◌, ap, true≢false, inl, inr}
use Rattle.std.proofs.Math.Decide.{dec_lt}
use native.Mathlib.Omega.{arith}
use Rattle.std.proofs.Math.ListN.{length, get_or-eq_default}
use borrow.Author.Tests.{eqb-true, eqb-false, leb-true, leb-false, le-leb, lt-leb, ltb-true, ltb-false, not-true, not-false}
use Rattle.model.specs.Choice.{when◌then◌else◌, Mem}
use Rattle.model.specs.Words.{word_at}
use Rattle.laws.specs.Members.{Rising, mem-append, mem-more, mem-right, rising-append}
use Rattle.model.specs.Heap.{mark_of, root_of, first_object, ptrs_at, size_at, kind_of, Object, Objects, Pointer, Heap, Audit, fault, clean, and_object}
use Rattle.model.specs.Heap.{bad_header, bad_size, walk, is_pointer, range, pointer_words, zeros_first, judge, heap_of}
use Rattle.model.specs.Faults.{MarkInRange, WalkTo, HeaderFault, SizeFault, WalkFault, header, size_word, InPointerPart, BadPointer, NonzeroFree}
use Rattle.model.specs.Faults.{FirstFault, mark_word, on_walk, after_walk}
use Rattle.model.specs.Claim.{FaultExactly, FaultUnsound}
use Rattle.heap.specs.Objects.{object-of, objects-snoc, same-objects}
use Rattle.heap.specs.Pointers.{pointer-true, true-pointer}
use Rattle.audit_heap.specs.Judgement.{Judgement, faultless, faulty}
use Rattle.audit_words.specs.Every.{zero_at}
use Rattle.audit_heap.specs.First.{first_bad, walked, free_words, or_audit, pointer_at, pointers-first, zeros-first, all-good}
use Rattle.audit_heap.specs.First.{bad-in, good-below, range-mem, range-rising, mem-range}
use Rattle.audit_heap.specs.Faults.{pointer-below, one-fault, fault-not-sound}

-- The walk

or-false : (s t : Bool) → s || t ≡ false → (s ≡ false) × (t ≡ false)
or-false true t e = absurd (true≢false e)
or-false false t e = (refl, e)

pub good-object : (h : List ℕ) (q mark : ℕ) → bad_header h q mark ≡ false → bad_size h q mark ≡ false → Object h q mark
unfolding bad_header bad_size
good-object h q mark e f =
    let a = or-false (not ((kind_of h q).ptrs (ptrs_at h q))) (leb mark (q + 1)) e in
    let b = or-false (ltb (size_at h q) (2 + ptrs_at h q) || ltb mark (q + size_at h q)) (not ((kind_of h q).size (ptrs_at h q) (size_at h q))) f in
    let c = or-false (ltb (size_at h q) (2 + ptrs_at h q)) (ltb mark (q + size_at h q)) b.0 in
    record {
      ptrs = not-false ((kind_of h q).ptrs (ptrs_at h q)) a.0;
      holds = ltb-false (size_at h q) (2 + ptrs_at h q) c.0;
      ends = ltb-false mark (q + size_at h q) c.1;
      size = not-false ((kind_of h q).size (ptrs_at h q) (size_at h q)) b.1;
    }

or-true : (s t : Bool) → s || t ≡ true → (s ≡ true) ⊎ (t ≡ true)
or-true true t e = inl refl
or-true false t e = inr e

header-bad : (h : List ℕ) (q : ℕ) → bad_header h q (mark_of h) ≡ true → HeaderFault h q
unfolding bad_header
header-bad h q e = go (or-true (not ((kind_of h q).ptrs (ptrs_at h q))) (leb (mark_of h) (q + 1)) e)
  where
    go : (not ((kind_of h q).ptrs (ptrs_at h q)) ≡ true) ⊎ (leb (mark_of h) (q + 1) ≡ true) → HeaderFault h q
    go (inl f) = inl (not-true ((kind_of h q).ptrs (ptrs_at h q)) f)
    go (inr f) = inr (leb-true (mark_of h) (q + 1) f)

bad-header : (h : List ℕ) (q : ℕ) → HeaderFault h q → bad_header h q (mark_of h) ≡ true
unfolding bad_header
bad-header h q (inl e) = rw e
bad-header h q (inr l) = rw (le-leb (mark_of h) (q + 1) l) (go (not ((kind_of h q).ptrs (ptrs_at h q))))
  where
    go : (t : Bool) → t || true ≡ true
    go true = refl
    go false = refl

size-bad : (h : List ℕ) (q : ℕ) → bad_size h q (mark_of h) ≡ true → SizeFault h q
unfolding bad_size
size-bad h q e =
    go (or-true (ltb (size_at h q) (2 + ptrs_at h q) || ltb (mark_of h) (q + size_at h q)) (not ((kind_of h q).size (ptrs_at h q) (size_at h q))) e)
  where
    bounds : (ltb (size_at h q) (2 + ptrs_at h q) ≡ true) ⊎ (ltb (mark_of h) (q + size_at h q) ≡ true) → SizeFault h q
    bounds (inl f) = inl (ltb-true (size_at h q) (2 + ptrs_at h q) f)
    bounds (inr f) = inr (inl (ltb-true (mark_of h) (q + size_at h q) f))

    go : (ltb (size_at h q) (2 + ptrs_at h q) || ltb (mark_of h) (q + size_at h q) ≡ true) ⊎ (not ((kind_of h q).size (ptrs_at h q) (size_at h q)) ≡ true) →
        SizeFault h q
    go (inl f) = bounds (or-true (ltb (size_at h q) (2 + ptrs_at h q)) (ltb (mark_of h) (q + size_at h q)) f)
    go (inr f) = inr (inr (not-true ((kind_of h q).size (ptrs_at h q) (size_at h q)) f))

-- what an answer of the walk shows
abbrev Shows : List ℕ → ℕ → Audit → Type 0
Shows h q (clean os) = Objects h q (mark_of h) os
Shows h q (fault p) = WalkFault h p

shows_more : (h : List ℕ) (q : ℕ) (r : Audit) → Object h q (mark_of h) → Shows h (q + size_at h q) r → Shows h q (and_object q r)
shows_more h q (fault p) O s = s
shows_more h q (clean os) O s = (refl, O, s)

-- ps being the objects before q
pub walk-shows : (n : ℕ) (h : List ℕ) (q : ℕ) (ps : List ℕ) → Objects h first_object q ps → q ≤ mark_of h → mark_of h ≤ q + n → Shows h q (walk n h q (mark_of h))
unfolding walk
walk-shows zero h q ps W a b = omega arith
walk-shows (suc n) h q ps W a b =
    go (leb (mark_of h) q) refl (bad_header h q (mark_of h)) refl (bad_size h q (mark_of h)) refl (walk-shows n h (q + size_at h q) (ps ++ q ∷ []))
  where
    next : ℕ
    next = q + size_at h q

    to : leb (mark_of h) q ≡ false → WalkTo h q
    to e = record { below = leb-false (mark_of h) q e; passed = ps; objects = W }

    go : (s : Bool) → leb (mark_of h) q ≡ s → (t : Bool) → bad_header h q (mark_of h) ≡ t → (u : Bool) → bad_size h q (mark_of h) ≡ u →
        (Objects h first_object next (ps ++ q ∷ []) → next ≤ mark_of h → mark_of h ≤ next + n → Shows h next (walk n h next (mark_of h))) →
        Shows h q (when s then clean [] else when t then fault q else when u then fault (q + 1) else and_object q (walk n h next (mark_of h)))
    go true e t f u g rest = omega (arith, leb-true (mark_of h) q e)
    go false e true f u g rest = header (to e) (header-bad h q f)
    go false e false f true g rest = size_word q (to e) (λ F. true≢false (sym (bad-header h q F) ∙ f)) (size-bad h q g) refl
    go false e false f false g rest =
        let O = good-object h q (mark_of h) f g in
        let own : Object h q next = record { ptrs = O.ptrs; holds = O.holds; ends = omega arith; size = O.size } in
        let more = objects-snoc h first_object q next ps W own refl in
        shows_more h q (walk n h next (mark_of h)) O (rest more O.ends (omega (arith, O.holds)))

-- Pointers

not-pointer : (os : List ℕ) (v : ℕ) → is_pointer os v ≡ false → Pointer os v → ⊥
not-pointer os v e p = true≢false (sym (true-pointer os v p) ∙ e)

-- the words of the objects' pointer parts
words_inside : (h os : List ℕ) (i : ℕ) → Mem i (pointer_words h os) → InPointerPart h os i
unfolding pointer_words
words_inside h (q ∷ os) i m = go (mem-append i (range (q + 2) (ptrs_at h q)) (pointer_words h os) m) (words_inside h os i)
  where
    go : Mem i (range (q + 2) (ptrs_at h q)) ⊎ Mem i (pointer_words h os) → (Mem i (pointer_words h os) → InPointerPart h os i) → InPointerPart h (q ∷ os) i
    go (inl m) f =
        let r = range-mem (q + 2) (ptrs_at h q) i m in
        record { object = q; mem = inl refl; from = r.0; below = r.1 }
    go (inr m) f =
        let r = f m in
        record { object = r.object; mem = inr r.mem; from = r.from; below = r.below }
words_inside h [] i m = elim m [ ]

inside-words : (h os : List ℕ) (i : ℕ) → InPointerPart h os i → Mem i (pointer_words h os)
unfolding pointer_words
inside-words h os i I = go os I.object I.mem I.from I.below
  where
    go : (os : List ℕ) (q : ℕ) → Mem q os → q + 2 ≤ i → i < q + 2 + ptrs_at h q → Mem i (pointer_words h os)
    go (o ∷ os) q (inl e) a b =
        let b' : i < o + 2 + ptrs_at h o = rw e at b in
        mem-more i (range (o + 2) (ptrs_at h o)) (pointer_words h os) (mem-range (o + 2) (ptrs_at h o) i (omega arith) b')
    go (o ∷ os) q (inr m) a b = mem-right i (range (o + 2) (ptrs_at h o)) (pointer_words h os) (go os q m a b)
    go [] q x3 a b = elim x3 [ ]

pointer-words : (h os : List ℕ) (i : ℕ) → (i ≡ 1) ⊎ InPointerPart h os i → Mem i (1 ∷ pointer_words h os)
pointer-words h os i (inl e) = inl e
pointer-words h os i (inr I) = inr (inside-words h os i I)

words-pointer : (h os : List ℕ) (i : ℕ) → Mem i (1 ∷ pointer_words h os) → (i ≡ 1) ⊎ InPointerPart h os i
words-pointer h os i (inl e) = inl e
words-pointer h os i (inr m) = inr (words_inside h os i m)

-- they rise, since object follows object
words-rising : (h : List ℕ) (p mark : ℕ) (os : List ℕ) → Objects h p mark os → Rising (pointer_words h os)
unfolding pointer_words
words-rising h p mark [] W = tt
words-rising h p mark (q ∷ os) W =
    let O = W.1 in
    rising-append (range (q + 2) (ptrs_at h q)) (pointer_words h os) (range-rising (q + 2) (ptrs_at h q)) (words-rising h (p + size_at h p) mark os W.2)
    (λ i j m n.
    let I = words_inside h os j n in
    let r = range-mem (q + 2) (ptrs_at h q) i m in
    let a = (object-of h (p + size_at h p) mark os I.object W.2 I.mem).0 in
    let e : ptrs_at h q ≡ ptrs_at h p = rw W.0 in
    omega (arith, W.0, O.holds, I.from, r.1, a, e))

-- The whole audit

-- the audit of a heap whose mark is in range and whose objects the walk found
pub heap-judged : (h os : List ℕ) → first_object ≤ mark_of h → mark_of h ≤ length h → walked h ≡ clean os →
    heap_of h
    ≡ or_audit (first_bad (pointer_at h os) (1 ∷ pointer_words h os)) (or_audit (first_bad (zero_at h) (free_words h)) (clean os))
unfolding heap_of judge
heap-judged h os a b e =
    rw (
      le-leb first_object (mark_of h) a,
      le-leb (mark_of h) (length h) b,
      e,
      pointers-first h os (1 ∷ pointer_words h os) (zeros_first h (free_words h) (clean os)),
      zeros-first h (free_words h) (clean os),
    )

-- the walk's fault is the audit's
pub heap-walk-fault : (h : List ℕ) (q : ℕ) → first_object ≤ mark_of h → mark_of h ≤ length h → walked h ≡ fault q → heap_of h ≡ fault q
unfolding heap_of judge
heap-walk-fault h q a b e = rw (le-leb first_object (mark_of h) a, le-leb (mark_of h) (length h) b, e)

pub heap-mark-fault : (h : List ℕ) → (mark_of h < first_object) ⊎ (length h < mark_of h) → heap_of h ≡ fault 0
unfolding heap_of
heap-mark-fault h (inl e) = rw (lt-leb first_object (mark_of h) e)
heap-mark-fault h (inr e) = rw (lt-leb (mark_of h) (length h) e) (go (leb first_object (mark_of h)))
  where
    go : (t : Bool) → (when t && false then judge h (walked h) else fault 0) ≡ fault 0
    go true = refl
    go false = refl

-- what an answer of the audit shows
abbrev pub Says : List ℕ → Audit → Type 0
Says h (clean os) = Heap h os
Says h (fault q) = FirstFault h q

-- the mark is in range, and the walk found the objects
module _ (h os : List ℕ) (R : MarkInRange h) (W : Objects h first_object (mark_of h) os) where
  pointers-rising : Rising (1 ∷ pointer_words h os)
  pointers-rising = (λ i m. above i (words_inside h os i m), words-rising h first_object (mark_of h) os W)
    where
      above : (i : ℕ) → InPointerPart h os i → 1 < i
      above i I = omega (arith, (object-of h first_object (mark_of h) os I.object W I.mem).0, I.from)

  free-words : (i : ℕ) → mark_of h ≤ i → i < length h → Mem i (free_words h)
  free-words i a b = mem-range (mark_of h) (length h - mark_of h) i a (omega arith)

  -- every word passes
  all_pass : first_bad (pointer_at h os) (1 ∷ pointer_words h os) ≡ faultless → first_bad (zero_at h) (free_words h) ≡ faultless → Heap h os
  unfolding zero_at
  all_pass e f =
      let good = all-good (pointer_at h os) (1 ∷ pointer_words h os) e in
      record {
        low = R.0;
        high = R.1;
        objects = W;
        root = pointer-true os (root_of h) (good 1 (inl refl));
        inside = λ q k m a b.
            let I : InPointerPart h os (q + k) = record { object = q; mem = m; from = omega arith; below = omega arith } in
            pointer-true os (word_at h (q + k)) (good (q + k) (pointer-words h os (q + k) (inr I)));
        free = λ i a. free i a (dec_lt i (length h));
      }
    where
      free : (i : ℕ) → mark_of h ≤ i → Dec (i < length h) → word_at h i ≡ 0
      free i a (yes b) = eqb-true (word_at h i) 0 (all-good (zero_at h) (free_words h) f i (free-words i a b))
      free i a (no b) = let c : length h ≤ i = omega arith in get_or-eq_default h 0 c

  -- the lowest that does not pass
  first-pointer : (q : ℕ) → first_bad (pointer_at h os) (1 ∷ pointer_words h os) ≡ faulty q → FirstFault h q
  first-pointer q e =
      let b = bad-in (pointer_at h os) (1 ∷ pointer_words h os) q e in
      let at = words-pointer h os q b.0 in
      after_walk R os W (inl (at, not-pointer os (word_at h q) b.1), lowest (pointer-below h q os R.0 W at))
    where
      pointer : (i : ℕ) → BadPointer h os i → Dec (i < q) → q ≤ i
      pointer i B (yes l) =
          let good = good-below (pointer_at h os) (1 ∷ pointer_words h os) q pointers-rising e i (pointer-words h os i B.0) l in
          absurd (B.1 (pointer-true os (word_at h i) good))
      pointer i B (no l) = omega arith

      lowest : q < mark_of h → (i : ℕ) → BadPointer h os i ⊎ NonzeroFree h i → q ≤ i
      lowest l i (inl B) = pointer i B (dec_lt i q)
      lowest l i (inr F) = omega (arith, F.0)

  first-free : (q : ℕ) → first_bad (pointer_at h os) (1 ∷ pointer_words h os) ≡ faultless → first_bad (zero_at h) (free_words h) ≡ faulty q → FirstFault h q
  unfolding zero_at
  first-free q e f =
      let b = bad-in (zero_at h) (free_words h) q f in
      let r = range-mem (mark_of h) (length h - mark_of h) q b.0 in
      after_walk R os W (inr (r.0, omega arith, eqb-false (word_at h q) 0 b.1), lowest)
    where
      free : (i : ℕ) → NonzeroFree h i → Dec (i < q) → q ≤ i
      free i F (yes l) =
          let rises = range-rising (mark_of h) (length h - mark_of h) in
          let zero-at = good-below (zero_at h) (free_words h) q rises f i (free-words i F.0 F.1) l in
          absurd (F.2 (eqb-true (word_at h i) 0 zero-at))
      free i F (no l) = omega arith

      lowest : (i : ℕ) → BadPointer h os i ⊎ NonzeroFree h i → q ≤ i
      lowest i (inl B) =
          let good = all-good (pointer_at h os) (1 ∷ pointer_words h os) e i (pointer-words h os i B.0) in
          absurd (B.1 (pointer-true os (word_at h i) good))
      lowest i (inr F) = free i F (dec_lt i q)

  words-say : (a : Judgement) → first_bad (pointer_at h os) (1 ∷ pointer_words h os) ≡ a → (b : Judgement) → first_bad (zero_at h) (free_words h) ≡ b →
      Says h (or_audit a (or_audit b (clean os)))
  words-say (Ok u) e (Ok v) f = all_pass e f
  words-say (Ok u) e (Err w) f = first-free w.at e f
  words-say (Err w) e b f = first-pointer w.at e

pub heap-says : (h : List ℕ) → Says h (heap_of h)
heap-says h = go (dec_lt (mark_of h) first_object) (dec_lt (length h) (mark_of h))
  where
    walk-says : MarkInRange h → (r : Audit) → walked h ≡ r → Shows h first_object r → Says h (heap_of h)
    walk-says R (fault q) e s = rw (heap-walk-fault h q R.0 R.1 e) (on_walk R s)
    walk-says R (clean os) e s =
        rw (heap-judged h os R.0 R.1 e)
        (words-say h os R s (first_bad (pointer_at h os) (1 ∷ pointer_words h os)) refl (first_bad (zero_at h) (free_words h)) refl)

    go : Dec (mark_of h < first_object) → Dec (length h < mark_of h) → Says h (heap_of h)
    go (yes a) b = rw (heap-mark-fault h (inl a)) (mark_word (λ R. omega (arith, R.0)) refl)
    go (no a) (yes b) = rw (heap-mark-fault h (inr b)) (mark_word (λ R. omega (arith, R.1)) refl)
    go (no a) (no b) =
        let R : MarkInRange h = (omega arith, omega arith) in
        walk-says R (walked h) refl (walk-shows (length h) h first_object [] refl R.0 (omega (arith, R.1)))

-- the audit lets through what is sound, with its objects
pub heap_clean : (h os : List ℕ) → heap_of h ≡ clean os → Heap h os
heap_clean h os e = rw e at (heap-says h)

pub clean-heap : (h os : List ℕ) → Heap h os → heap_of h ≡ clean os
clean-heap h os H = go (heap_of h) (heap-says h)
  where
    go : (r : Audit) → Says h r → r ≡ clean os
    go (clean os') H' = ap clean (same-objects h first_object (mark_of h) os' os H'.objects H.objects)
    go (fault q) F = absurd (fault-not-sound h q F os H)

-- and names the first fault of what is not
pub fault-exact : FaultExactly
fault-exact h q = (λ e. rw e at (heap-says h), λ F. go (heap_of h) (heap-says h) F)
  where
    go : (r : Audit) → Says h r → FirstFault h q → r ≡ fault q
    go (clean os) H F = absurd (fault-not-sound h q F os H)
    go (fault p) F' F = ap fault (one-fault h p q F' F)

pub fault-unsound : FaultUnsound
fault-unsound h = (λ F. fault-not-sound h F.0 F.1, λ n. go (heap_of h) (heap-says h) n)
  where
    go : (r : Audit) → Says h r → ((os : List ℕ) → Heap h os → ⊥) → (q : ℕ) × FirstFault h q
    go (clean os) H n = absurd (n os H)
    go (fault q) F n = (q, F)
