-- What a turn of each loop of the audit shows. A loop's invariant says that the definition gives for the whole what it gives for the
-- part still to come; each turn takes one step of the definition.
use Prim.Native.Nat.{ℕ, zero, suc, ◌+◌, ◌-◌, ◌<◌, ◌≤◌}
use Rattle.std.proofs.Math.Path.{◌≡◌, refl, sym}
use Rattle.std.proofs.Common.{Option, Some, None, Err, ◌∙◌, length-set}
use Rattle.std.specs.List.{between, AllWithin, HoldsAt}
use Rattle.std.specs.Option.{MatchOption}
use Rattle.std.proofs.lemmas.List.Edits.{length-between, get_or-between}
use Rattle.std.specs.Prelude.{Bool, ◌||◌, ◌≢◌, eqb, ltb, length, set}
use Rattle.std.proofs.Math.Bool.{true, false, not}
use mathlib.Core.List.{List, [], ◌∷◌, ◌++◌}
use Rattle.std.proofs.Math.Decide.{ℕ_discrete}
use native.Mathlib.Omega.{arith}
use Rattle.std.proofs.Math.ListN.{get_or}
use Rattle.std.proofs.Math.Seq.{get_or-set_same, get_or-set_other}
use borrow.Author.Tests.{eq-eqb, ne_eqb, le-leb, lt-leb, le-ltb, lt-ltb, not-true, not-false}
use Rattle.model.specs.Choice.{when◌then◌else◌, member}
use Rattle.model.specs.Words.{word_at}
use Rattle.model.specs.Heap.{mark_of, first_object, ptrs_at, size_at, kind_of, Object, Objects, Audit, fault, clean, and_object, bad_header}
use Rattle.model.specs.Heap.{bad_size, walk, is_pointer, range, pointer_words}
use Rattle.audit_heap.specs.declared.BadWord.{BadWord}
use Rattle.audit_heap.specs.Judgement.{Judgement, faultless, faulty}
use Rattle.audit_words.specs.Every.{zero_at, Passing}
use Rattle.audit_words.specs.Table.{Unmarked, Marks, is_marked, marked_at}
use Rattle.audit_heap.specs.First.{first_bad, walked, or_else, or_audit, bad-append, none-bad, range-mem}
use Rattle.audit_heap.specs.Audited.{good-object}
use Rattle.audit_heap.specs.Found.{Range, fault_at, objects_found, LinksCounted}
use Rattle.numbers.specs.Small.{Small}

-- A range of words

-- a walk of the range: what fails first in it fails first in what is left, from i on; a step on, the end, and a word that fails
unfoldable pub Scan : (ℕ → Bool) → ℕ → ℕ → ℕ → Type 0
Scan P from end i = first_bad P (range from (end - from)) ≡ first_bad P (range i (end - i))

range-next : (i end : ℕ) → i < end → range i (end - i) ≡ i ∷ range (i + 1) (end - (i + 1))
range-next i end a =
    let e : end - i ≡ suc (end - (i + 1)) = omega arith in
    let f : suc i ≡ i + 1 = omega arith in
    rw (e, f)

module _ (P : ℕ → Bool) (from end : ℕ) where
  pub scan-none : Scan P from end from
  unfolding Scan
  scan-none = refl

  pub scan-more : (i : ℕ) → Scan P from end i → i < end → P i ≡ true → Scan P from end (i + 1)
  unfolding Scan first_bad
  scan-more i S a e = S ∙ rw (range-next i end a, e)

  pub scan-bad : (i : ℕ) → Scan P from end i → i < end → P i ≡ false → faulty i ≡ first_bad P (range from (end - from))
  unfolding Scan first_bad
  scan-bad i S a e = sym (S ∙ rw (range-next i end a, e))

  pub scan-end : (i : ℕ) → Scan P from end i → end ≤ i → faultless ≡ first_bad P (range from (end - from))
  unfolding Scan first_bad
  scan-end i S a = let e : end - i ≡ 0 = omega arith in sym (S ∙ rw e)

-- the first that fails, told by how many pass before it
pub first-found : (P : ℕ → Bool) (k from n : ℕ) → k < n → P (from + k) ≡ false → ((j : ℕ) → j < k → P (from + j) ≡ true) → faulty (from + k) ≡ first_bad P (range from n)
unfolding first_bad
first-found P k from zero a e f = absurd (omega arith)
first-found P zero from (suc n) a e f =
    let z : from + 0 ≡ from = omega arith in
    let e' : P from ≡ false = rw z at e in
    rw (z, e')
first-found P (suc k) from (suc n) a e f =
    let z : from + 0 ≡ from = omega arith in
    let y : from + suc k ≡ suc from + k = omega arith in
    let p : P from ≡ true = rw z at (f 0 (omega arith)) in
    let e' : P (suc from + k) ≡ false = rw y at e in
    rw (y, p)
    (first-found P k (suc from) n (omega arith) e'
    (λ j b. let x : suc from + j ≡ from + suc j = omega arith in rw x (f (suc j) (omega arith))))

-- every index passes
pub every-clean : (P : ℕ → Bool) (from end : ℕ) → from ≤ end → Passing P from end → faultless ≡ first_bad P (range from (end - from))
every-clean P from end a A =
    sym (none-bad P (range from (end - from)) (λ j m. let r = range-mem from (end - from) j m in A j r.0 (omega arith)))

-- the tests of a word, as code makes them: whether it is a marked pointer, and whether it is 0
pub pointer-bad : (h : List ℕ) (t : List Bool) (i : ℕ) (r : Bool) → r ≡ is_marked t (word_at h i) → not r ≡ true → marked_at t h i ≡ false
unfolding marked_at
pointer-bad h t i r e f = sym e ∙ not-true r f

pub pointer-good : (h : List ℕ) (t : List Bool) (i : ℕ) (r : Bool) → r ≡ is_marked t (word_at h i) → not r ≡ false → marked_at t h i ≡ true
unfolding marked_at
pointer-good h t i r e f = sym e ∙ not-false r f

pub zero-bad : (h : List ℕ) (i : ℕ) → word_at h i ≢ 0 → zero_at h i ≡ false
unfolding zero_at
zero-bad h i e = ne_eqb (word_at h i) 0 e

pub zero-good : (h : List ℕ) (i : ℕ) → word_at h i ≡ 0 → zero_at h i ≡ true
unfolding zero_at
zero-good h i e = eq-eqb (word_at h i) 0 e

-- the search for the first of the words from `from` up to `end` that fails
abbrev pub searched : ℕ → Option ℕ → Judgement
searched from None = faultless
searched from (Some k) = faulty (from + k)

pub search-told : (Q : ℕ → Bool) (h : List ℕ) (from end : ℕ) (r : Option ℕ) → from ≤ end → end ≤ length h →
    MatchOption r (AllWithin (λ w. Q w ≡ true) (between from end h) 0 (length (between from end h)))
    (λ k. (k < length (between from end h)) × HoldsAt (λ w. Q w ≡ false) (between from end h) k × AllWithin (λ w. Q w ≡ true) (between from end h) 0 k) →
    searched from r ≡ first_bad (λ i. Q (word_at h i)) (range from (end - from))
search-told Q h from end None a b E =
    let n = length-between h from end b in
    every-clean (λ i. Q (word_at h i)) from end a
    (λ j c d.
    let k : ℕ = j - from in
    let e : from + k ≡ j = omega arith in
    rw (← e) (rw (get_or-between h from end k 0 (omega arith)) at (E k 0 (omega arith) (omega arith))))
search-told Q h from end (Some k) a b E =
    let n = length-between h from end b in
    let l = E.0 in
    first-found (λ i. Q (word_at h i)) k from (end - from) (omega arith)
    (rw (get_or-between h from end k 0 (omega arith)) at (E.1 0))
    (λ j c. rw (get_or-between h from end j 0 (omega arith)) at (E.2 j 0 (omega arith) c))

-- One object

module _ (h : List ℕ) (q mark : ℕ) where
  -- the object's fault, told by one test after another; r tells whether the header is right for its kind
  module _ (r : Bool) (e : r ≡ (kind_of h q).ptrs (ptrs_at h q)) where
    pub judged-kind : not r ≡ true → faulty q ≡ fault_at h q mark
    unfolding fault_at bad_header
    judged-kind f = rw (← e, not-true r f)

    module _ (f : not r ≡ false) (a : q + 1 < mark) where
      judged-size : fault_at h q mark ≡ (when bad_size h q mark then faulty (q + 1) else faultless)
      unfolding fault_at bad_header
      judged-size = rw (← e, not-false r f, lt-leb mark (q + 1) a)

      -- the size, and what else the kind asks of it
      module _ (size b : ℕ) (S : Small b (size_at h q) size) where
        pub judged-small : (ptrs d : ℕ) → Small d (ptrs_at h q) ptrs → size < 2 + ptrs → faulty (q + 1) ≡ fault_at h q mark
        unfolding bad_size
        judged-small ptrs d T w =
            let w' : size_at h q < 2 + ptrs_at h q = rw (S.is, T.is) at w in
            sym (judged-size ∙ rw (lt-ltb (size_at h q) (2 + ptrs_at h q) w'))

        pub judged-long : mark < q + size → faulty (q + 1) ≡ fault_at h q mark
        unfolding bad_size
        judged-long w =
            let w' : mark < q + size_at h q = rw S.is at w in
            sym (judged-size ∙ rw (lt-ltb mark (q + size_at h q) w') (go (ltb (size_at h q) (2 + ptrs_at h q))))
          where
            go : (t : Bool) → (when t || true || not ((kind_of h q).size (ptrs_at h q) (size_at h q)) then faulty (q + 1) else faultless) ≡ faulty (q + 1)
            go true = refl
            go false = refl

        module _ (ptrs d : ℕ) (T : Small d (ptrs_at h q) ptrs) (w : 2 + ptrs ≤ size) (v : q + size ≤ mark)
            (u : Bool) (g : u ≡ (kind_of h q).size (ptrs_at h q) (size_at h q)) where
          judged-row : fault_at h q mark ≡ (when not u then faulty (q + 1) else faultless)
          unfolding bad_size
          judged-row =
              let w' : 2 + ptrs_at h q ≤ size_at h q = rw (S.is, T.is) at w in
              let v' : q + size_at h q ≤ mark = rw S.is at v in
              judged-size ∙ rw (le-ltb (size_at h q) (2 + ptrs_at h q) w', le-ltb mark (q + size_at h q) v', g)

          pub judged-wrong : not u ≡ true → faulty (q + 1) ≡ fault_at h q mark
          judged-wrong z = sym (judged-row ∙ rw z)

          pub judged-right : not u ≡ false → faultless ≡ fault_at h q mark
          judged-right z = sym (judged-row ∙ rw z)

  pub judged-cut : mark ≤ q + 1 → faulty q ≡ fault_at h q mark
  unfolding fault_at bad_header
  judged-cut a = rw (le-leb mark (q + 1) a) (go (not ((kind_of h q).ptrs (ptrs_at h q))))
    where
      go : (t : Bool) → faulty q ≡ (when t || true then faulty q else when bad_size h q mark then faulty (q + 1) else faultless)
      go true = refl
      go false = refl

  pub judged-object : fault_at h q mark ≡ faultless → Object h q mark
  unfolding fault_at
  judged-object e = go (bad_header h q mark) refl (bad_size h q mark) refl e
    where
      go : (s : Bool) → bad_header h q mark ≡ s → (t : Bool) → bad_size h q mark ≡ t →
          (when s then faulty q else when t then faulty (q + 1) else faultless) ≡ faultless → Object h q mark
      go true f t g e = let z : ◌≡◌ {A = ℕ} 0 1 = cc in absurd (omega arith)
      go false f true g e = let z : ◌≡◌ {A = ℕ} 0 1 = cc in absurd (omega arith)
      go false f false g e = good-object h q mark f g

  pub walk_step : (n : ℕ) → q < mark → walk (suc n) h q mark ≡ or_audit (fault_at h q mark) (and_object q (walk n h (q + size_at h q) mark))
  unfolding walk fault_at
  walk_step n a = rw (lt-leb mark q a) (go (bad_header h q mark) (bad_size h q mark) (and_object q (walk n h (q + size_at h q) mark)))
    where
      go : (s t : Bool) (r : Audit) →
          (when s then fault q else when t then fault (q + 1) else r) ≡ or_audit (when s then faulty q else when t then faulty (q + 1) else faultless) r
      go true t r = refl
      go false true r = refl
      go false false r = refl

-- The table

member-last : (q o : ℕ) (os : List ℕ) → member q (os ++ o ∷ []) ≡ member q os || eqb q o
member-last q o [] = go (eqb q o)
  where
    go : (t : Bool) → (when t then true else false) ≡ t
    go true = refl
    go false = refl
member-last q o (p ∷ os) = go (eqb q p) (member-last q o os)
  where
    go : (t : Bool) → member q (os ++ o ∷ []) ≡ member q os || eqb q o →
        (when t then true else member q (os ++ o ∷ [])) ≡ (when t then true else member q os) || eqb q o
    go true e = refl
    go false e = e

-- nil's mark is set first, then one for each object
module _ (t : List Bool) (o : ℕ) (a : o < length t) where
  marked-set : (q : ℕ) (b : Bool) → (q ≡ o → true ≡ b) → ((q ≡ o → ⊥) → is_marked t q ≡ b) → is_marked (set t o true) q ≡ b
  unfolding is_marked
  marked-set q b same other = go (ℕ_discrete q o)
    where
      go : Dec (q ≡ o) → get_or (set t o true) q false ≡ b
      go (yes e) = rw (e, get_or-set_same t o true false a) (same e)
      go (no e) = get_or-set_other t o q true false e ∙ other e

  pub marks-none : Unmarked t → o ≡ 0 → Marks [] (set t o true)
  unfolding Unmarked Marks is_pointer
  marks-none U z q = marked-set q (eqb q 0 || false) (λ e. rw (eq-eqb q 0 (e ∙ z))) (λ e. U q ∙ rw (ne_eqb q 0 (λ f. e (f ∙ sym z))))

  pub marks-more : (os : List ℕ) → Marks os t → Marks (os ++ o ∷ []) (set t o true)
  unfolding Marks is_pointer
  marks-more os M q =
      marked-set q (eqb q 0 || member q (os ++ o ∷ []))
      (λ e. rw (member-last q o os, eq-eqb q o e) (or-true (eqb q 0) (member q os)))
      (λ e. M q ∙ rw (member-last q o os, ne_eqb q o e) (or-none (eqb q 0) (member q os)))
    where
      or-true : (r s : Bool) → true ≡ r || (s || true)
      or-true true s = refl
      or-true false true = refl
      or-true false false = refl

      or-none : (r s : Bool) → r || s ≡ r || (s || false)
      or-none true s = refl
      or-none false true = refl
      or-none false false = refl

-- The walk that marks

abbrev and_objects : List ℕ → Audit → Audit
and_objects [] r = r
and_objects (o ∷ os) r = and_object o (and_objects os r)

pub objects-fault : (os : List ℕ) (p : ℕ) → and_objects os (fault p) ≡ fault p
objects-fault [] p = refl
objects-fault (o ∷ os) p = rw (objects-fault os p)

pub objects-clean : (os : List ℕ) → and_objects os (clean []) ≡ clean os
objects-clean [] = refl
objects-clean (o ∷ os) = rw (objects-clean os)

pub objects-last : (os : List ℕ) (o : ℕ) (r : Audit) → and_objects os (and_object o r) ≡ and_objects (os ++ o ∷ []) r
objects-last [] o r = refl
objects-last (p ∷ os) o r = rw (objects-last os o r)

-- a count of pointer words, one object after the other
append-none : (a b : List ℕ) → a ++ b ≡ [] → (a ≡ []) × (b ≡ [])
append-none [] b e = (refl, e)
append-none (i ∷ a) b e = let z : ◌≡◌ {A = ℕ} 0 1 = cc in absurd (omega arith)

words-none : (h : List ℕ) (o : ℕ) (os : List ℕ) → ptrs_at h o ≡ 0 → pointer_words h os ≡ [] → pointer_words h (os ++ o ∷ []) ≡ []
unfolding pointer_words
words-none h o [] e f = rw e
words-none h o (p ∷ os) e f =
    let n = append-none (range (p + 2) (ptrs_at h p)) (pointer_words h os) f in
    rw n.0 (words-none h o os e n.1)

pub linked-more : (h : List ℕ) (o : ℕ) (os : List ℕ) (links ptrs b : ℕ) → Small b (ptrs_at h o) ptrs → LinksCounted h os links →
    LinksCounted h (os ++ o ∷ []) (links + ptrs)
unfolding LinksCounted
linked-more h o os links ptrs b S L z = words-none h o os (omega (arith, S.is)) (L (omega arith))

-- the objects before q are marked, and have so many pointer words
pub record Marking (h : List ℕ) (q links : ℕ) (t : List Bool) : Type 0 where
  pub done : List ℕ
  pub left : ℕ
  pub same : walked h ≡ and_objects done (walk left h q (mark_of h))
  pub marks : Marks done t
  pub linked : LinksCounted h done links
  pub enough : mark_of h ≤ q + left
  pub reach : q ≤ mark_of h
  pub room : length h ≤ length t
  pub few : links ≤ q

pub marking-none : (h : List ℕ) (t : List Bool) → Range h → length h ≤ length t → Unmarked t → Marking h 2 0 (set t 0 true)
unfolding LinksCounted pointer_words
marking-none h t R l U =
    record {
      done = [];
      left = length h;
      same = refl;
      marks = marks-none t 0 (omega (arith, R.low, R.high)) U refl;
      linked = λ z. refl;
      enough = omega (arith, R.high);
      reach = R.low;
      room = rw (length-set t 0 true) l;
      few = omega arith;
    }

-- The walk that tests pointer words

-- the pointer words of the objects before q are pointers
pub record Pointing (h : List ℕ) (q : ℕ) (t : List Bool) : Type 0 where
  rest : List ℕ
  objects : Objects h q (mark_of h) rest
  same : first_bad (marked_at t h) (pointer_words h (objects_found h)) ≡ first_bad (marked_at t h) (pointer_words h rest)
  pub reach : q ≤ mark_of h

pub pointing-nothing : (h : List ℕ) (t : List Bool) (links : ℕ) → LinksCounted h (objects_found h) links → links ≡ 0 →
    faultless ≡ first_bad (marked_at t h) (pointer_words h (objects_found h))
unfolding first_bad LinksCounted
pointing-nothing h t links L z = rw (L z)

pub pointing-none : (h : List ℕ) (t : List Bool) → Range h → Objects h first_object (mark_of h) (objects_found h) → Pointing h 2 t
pointing-none h t R W = record { rest = objects_found h; objects = W; same = refl; reach = R.low }

words-first : (P : ℕ → Bool) (h : List ℕ) (q o : ℕ) (os : List ℕ) → o ≡ q →
    first_bad P (pointer_words h (o ∷ os)) ≡ or_else (first_bad P (range (q + 2) (ptrs_at h q))) (first_bad P (pointer_words h os))
unfolding pointer_words
words-first P h q o os e = rw e (bad-append P (range (q + 2) (ptrs_at h q)) (pointer_words h os))

module _ (h : List ℕ) (q : ℕ) (t : List Bool) (M : Pointing h q t) where
  -- an object at q, and those behind it
  record Next : Type 0 where
    object : Object h q (mark_of h)
    others : List ℕ
    behind : Objects h (q + size_at h q) (mark_of h) others
    words : first_bad (marked_at t h) (pointer_words h (objects_found h))
        ≡ or_else (first_bad (marked_at t h) (range (q + 2) (ptrs_at h q))) (first_bad (marked_at t h) (pointer_words h others))

  next : q < mark_of h → Next
  next w = go M.rest M.objects M.same
    where
      go : (os : List ℕ) → Objects h q (mark_of h) os →
          first_bad (marked_at t h) (pointer_words h (objects_found h)) ≡ first_bad (marked_at t h) (pointer_words h os) → Next
      go [] W e = absurd (omega arith)
      go (o ∷ os) W e = record {
        object = W.1;
        others = os;
        behind = W.2;
        words = e ∙ words-first (marked_at t h) h q o os W.0;
      }

  pub pointing-object : q < mark_of h → Object h q (mark_of h)
  pointing-object w = (next w).object

  -- the object's pointer words, as the code counts them
  pub own-words : (ptrs d : ℕ) (a : Judgement) → Small d (ptrs_at h q) ptrs → a ≡ first_bad (marked_at t h) (range (q + 2) (q + 2 + ptrs - (q + 2))) →
      first_bad (marked_at t h) (range (q + 2) (ptrs_at h q)) ≡ a
  own-words ptrs d a D e = let z : ptrs_at h q ≡ q + 2 + ptrs - (q + 2) = omega (arith, D.is) in rw z (sym e)

  pub pointing-bad : (ptrs d : ℕ) (a : Judgement) (p : BadWord) → q < mark_of h → Small d (ptrs_at h q) ptrs →
      a ≡ first_bad (marked_at t h) (range (q + 2) (q + 2 + ptrs - (q + 2))) → a ≡ Err p →
      Err p ≡ first_bad (marked_at t h) (pointer_words h (objects_found h))
  pointing-bad ptrs d a p w D e f = sym ((next w).words ∙ rw (own-words ptrs d a D e, f))

  pub pointing-more : (ptrs d : ℕ) (a : Judgement) (size g : ℕ) → q < mark_of h → Small d (ptrs_at h q) ptrs →
      a ≡ first_bad (marked_at t h) (range (q + 2) (q + 2 + ptrs - (q + 2))) → a ≡ faultless → Small g (size_at h q) size → Pointing h (q + size) t
  pointing-more ptrs d a size g w D e f G =
      let N = next w in
      rw G.is record {
        rest = N.others;
        objects = N.behind;
        same = N.words ∙ rw (own-words ptrs d a D e, f);
        reach = N.object.ends;
      }

  pub pointing-end : mark_of h ≤ q → faultless ≡ first_bad (marked_at t h) (pointer_words h (objects_found h))
  unfolding first_bad pointer_words
  pointing-end w = sym (M.same ∙ none M.rest M.objects)
    where
      none : (os : List ℕ) → Objects h q (mark_of h) os → first_bad (marked_at t h) (pointer_words h os) ≡ faultless
      none [] W = refl
      none (o ∷ os) W = absurd (omega (arith, W.1.holds, W.1.ends))
