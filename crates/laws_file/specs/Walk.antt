-- The records of a file lie end to end, so their starts rise, and so do the heads and the instructions among them; the instructions
-- are all but the heads, since the table of codes has every other known kind. A place's procedure counts the heads up to it: behind
-- head n, at the first instruction of procedure n, those are the heads 0 to n.
use Rattle.std.specs.Prelude.{ℕ, zero, suc, ◌+◌, ◌-◌, ◌<◌, ◌≤◌, Bool, true, not, List, [], ◌∷◌, ◌⊎◌, ◌≡◌, refl, ltb, leb, eqb, length, get_or}
use Rattle.std.proofs.Math.Bool.{false}
use Rattle.std.proofs.Common.{true≢false, inl, inr, ap, sym, ◌∙◌, subst}
use Rattle.std.proofs.Math.Decide.{ℕ_discrete}
use native.Mathlib.Omega.{arith}
use borrow.Author.Tests.{ltb-true, ltb-false, leb-true, eqb-true, eqb-false, not-true, le-leb, lt-leb, eq-eqb}
use Rattle.model.specs.Choice.{all, All, all_true, true-all, Mem, when◌then◌else◌}
use Rattle.model.specs.File.{byte_at, head_kind, head_size, codes, bodies, body_in, body_of, unknown, after, whole?, Records, broken, starts, more}
use Rattle.model.specs.File.{records_from, records_of, starts_in, is_head, listed, is_instruction, select, heads, instructions, procs, head_of, entry, up_to}
use Rattle.model.specs.File.{proc_at, head_tests, wrong, right, heads_from, heads_of}
use Rattle.laws.specs.Choices.{both_true}
use Rattle.laws.specs.Members.{Rising, get_or-in, select_in, member-in, select-rising, has_some, in-select}

-- the records from p on: each begins where the last one ends
abbrev pub Walk : List ℕ → ℕ → List ℕ → Type 0
Walk f p [] = length f ≤ p
Walk f p (q ∷ qs) = (q ≡ p) × (p < length f) × (after f p ≤ length f) × Walk f (after f p) qs

records-inv : (a b : Bool) (p : ℕ) (r : Records) (ps : List ℕ) → (when a then (when b then more p r else broken p) else starts []) ≡ starts ps →
    ((a ≡ false) × (ps ≡ [])) ⊎ ((a ≡ true) × (b ≡ true) × ((qs : List ℕ) × (r ≡ starts qs) × (ps ≡ p ∷ qs)))
records-inv false b p r ps e = inl (refl, cc)
records-inv true false p r ps e = inr (refl, cc, ([], cc, cc))
records-inv true true p (broken q) ps e = inr (refl, refl, ([], cc, cc))
records-inv true true p (starts qs) ps e = inr (refl, refl, (qs, refl, cc))

pub after-above : (f : List ℕ) (p : ℕ) → p < after f p
unfolding after
after-above f p = omega arith

pub after-head : (f : List ℕ) (h : ℕ) → byte_at f h ≡ head_kind → after f h ≡ h + head_size
unfolding after body_of bodies
after-head f h b = rw b (omega arith)

pub records-walk : (f : List ℕ) (n p : ℕ) (ps : List ℕ) → length f ≤ p + n → records_from f n p ≡ starts ps → Walk f p ps
unfolding records_from whole?
records-walk f zero p ps h e = let w : [] ≡ ps = cc in subst (λ (l : List ℕ). Walk f p l) w (omega arith)
records-walk f (suc n) p ps h e =
    let a = after-above f p in
    go (λ qs. records-walk f n (after f p) qs (omega arith))
    (records-inv (ltb p (length f)) (whole? f p) p (records_from f n (after f p)) ps e)
  where
    go : ((qs : List ℕ) → records_from f n (after f p) ≡ starts qs → Walk f (after f p) qs) →
        ((ltb p (length f) ≡ false) × (ps ≡ [])) ⊎
        ((ltb p (length f) ≡ true) × (whole? f p ≡ true) × ((qs : List ℕ) × (records_from f n (after f p) ≡ starts qs) × (ps ≡ p ∷ qs))) →
        Walk f p ps
    go r (inl w) = rw w.1 (ltb-false p (length f) w.0)
    go r (inr w) =
        rw w.2.2 (
          refl,
          ltb-true p (length f) w.0,
          leb-true (after f p) (length f) (both_true (not (eqb (body_of (byte_at f p)) unknown)) (leb (after f p) (length f)) w.1).1,
          r w.2.0 w.2.1,
        )

pub walk-above : (f : List ℕ) (p : ℕ) (ps : List ℕ) → Walk f p ps → (q : ℕ) → Mem q ps → (p ≤ q) × (after f q ≤ length f)
walk-above f p (r ∷ ps) w q (inl e) =
    let a : q ≡ p = e ∙ w.0 in
    (omega arith, rw a w.2)
walk-above f p (r ∷ ps) w q (inr h) =
    let a = walk-above f (after f p) ps w.3 q h in
    let b = after-above f p in
    (omega arith, a.1)
walk-above f p [] w q x'' = elim x'' [ ]

walk-rising : (f : List ℕ) (p : ℕ) (ps : List ℕ) → Walk f p ps → Rising ps
walk-rising f p [] w = tt
walk-rising f p (r ∷ ps) w = (
  λ q h.
      let a = walk-above f (after f p) ps w.3 q h in
      let b = after-above f p in
      let c = w.0 in
      omega arith,
  walk-rising f (after f p) ps w.3,
)

-- no record begins within another
pub walk-gap : (f : List ℕ) (p : ℕ) (ps : List ℕ) → Walk f p ps → (q r : ℕ) → Mem q ps → Mem r ps → q < r → after f q ≤ r
walk-gap f p (t ∷ ps) w q r (inl e) (inl h) l = absurd (omega arith)
walk-gap f p (t ∷ ps) w q r (inl e) (inr h) l =
    let a : q ≡ p = e ∙ w.0 in
    rw a (walk-above f (after f p) ps w.3 r h).0
walk-gap f p (t ∷ ps) w q r (inr e) (inl h) l =
    let a = walk-above f (after f p) ps w.3 q e in
    let b = after-above f p in
    let c = w.0 in
    absurd (omega arith)
walk-gap f p (t ∷ ps) w q r (inr e) (inr h) l = walk-gap f (after f p) ps w.3 q r e h l
walk-gap f p [] w q r x4 _ l = elim x4 [ ]

-- the number of heads up to a place
pub up_to-most : (p : ℕ) (hs : List ℕ) → up_to p hs ≤ length hs
up_to-most p [] = omega arith
up_to-most p (h ∷ hs) = go (leb h p) (up_to-most p hs)
  where
    go : (t : Bool) → up_to p hs ≤ length hs → (when t then suc (up_to p hs) else up_to p hs) ≤ suc (length hs)
    go true l = omega arith
    go false l = omega arith

pub up_to-none : (p : ℕ) (hs : List ℕ) → ((h : ℕ) → Mem h hs → p < h) → up_to p hs ≡ 0
up_to-none p [] w = refl
up_to-none p (h ∷ hs) w = rw (lt-leb h p (w h (inl refl))) (up_to-none p hs (λ g m. w g (inr m)))

-- head j lies at or before q, or behind it
pub up_to-least : (q : ℕ) (hs : List ℕ) (j : ℕ) → Rising hs → j < length hs → get_or hs j 0 ≤ q → suc j ≤ up_to q hs
up_to-least q [] j r l b = absurd (omega arith)
up_to-least q (h ∷ hs) zero r l b = rw (le-leb h q b) (omega arith)
up_to-least q (h ∷ hs) (suc j) r l b =
    let a = r.0 (get_or hs j 0) (get_or-in hs j 0 (omega arith)) in
    let w = up_to-least q hs j r.1 (omega arith) b in
    rw (le-leb h q (omega arith)) (omega arith)

pub up_to-less : (q : ℕ) (hs : List ℕ) (j : ℕ) → Rising hs → j < length hs → q < get_or hs j 0 → up_to q hs ≤ j
up_to-less q [] j r l b = absurd (omega arith)
up_to-less q (h ∷ hs) zero r l b = rw (lt-leb h q b, up_to-none q hs (λ g i. let a = r.0 g i in omega arith)) (omega arith)
up_to-less q (h ∷ hs) (suc j) r l b = go (leb h q) (up_to-less q hs j r.1 (omega arith) b)
  where
    go : (t : Bool) → up_to q hs ≤ j → (when t then suc (up_to q hs) else up_to q hs) ≤ suc j
    go true w = omega arith
    go false w = omega arith

-- q is at or behind head n, and before the next one
pub up_to-at : (q : ℕ) (hs : List ℕ) (n : ℕ) → Rising hs → n < length hs → get_or hs n 0 ≤ q →
    ((h : ℕ) → Mem h hs → get_or hs n 0 < h → q < h) → up_to q hs ≡ suc n
up_to-at q [] n r l b w = absurd (omega arith)
up_to-at q (h ∷ hs) zero r l b w = rw (le-leb h q b, up_to-none q hs (λ g m. w g (inr m) (r.0 g m)))
up_to-at q (h ∷ hs) (suc n) r l b w =
    let a = r.0 (get_or hs n 0) (get_or-in hs n 0 (omega arith)) in
    rw (le-leb h q (omega arith)) (ap suc (up_to-at q hs n r.1 (omega arith) b (λ g m. w g (inr m))))

-- Manual 3.1: a kind with a body of known length is the head's, or the table of codes has it
pub found-listed : (rs : List (ℕ × ℕ)) (k : ℕ) → (body_in rs k ≡ unknown → ⊥) → listed rs k ≡ true
found-listed [] k h = absurd (h refl)
found-listed (r ∷ rs) k h = go (eqb k r.0) h (found-listed rs k)
  where
    go : (t : Bool) → ((when t then r.1 else body_in rs k) ≡ unknown → ⊥) → ((body_in rs k ≡ unknown → ⊥) → listed rs k ≡ true) →
        (when t then true else listed rs k) ≡ true
    go true h i = refl
    go false h i = i h

known-listed : (k : ℕ) → (body_of k ≡ unknown → ⊥) → listed codes k ≡ not (eqb k head_kind)
unfolding body_of bodies
known-listed k h = go (eqb k head_kind) refl h
  where
    go : (t : Bool) → eqb k head_kind ≡ t → ((when t then head_size - 1 else body_in codes k) ≡ unknown → ⊥) → listed codes k ≡ not t
    go true e h = rw (eqb-true k head_kind e) (unfold codes in refl)
    go false e h = found-listed codes k h

whole-listed : (f : List ℕ) (p : ℕ) → whole? f p ≡ true → is_instruction f p ≡ not (is_head f p)
unfolding whole? is_instruction is_head
whole-listed f p e =
    let b = body_of (byte_at f p) in
    let w = (both_true (not (eqb b unknown)) (leb (after f p) (length f)) e).0 in
    known-listed (byte_at f p) (eqb-false b unknown (not-true (eqb b unknown) w))

-- so the instructions of a file are its records but the heads
abbrev other : List ℕ → ℕ → Bool
other f p = not (is_head f p)

rest-others : (f : List ℕ) (n p : ℕ) →
    select (is_instruction f) (starts_in (records_from f n p)) ≡ select (other f) (starts_in (records_from f n p))
unfolding records_from
rest-others f zero p = refl
rest-others f (suc n) p = go (ltb p (length f)) (whole? f p) refl (records_from f n (after f p)) (rest-others f n (after f p))
  where
    go : (a b : Bool) → whole? f p ≡ b → (r : Records) → select (is_instruction f) (starts_in r) ≡ select (other f) (starts_in r) →
        select (is_instruction f) (starts_in (when a then (when b then more p r else broken p) else starts [])) ≡
        select (other f) (starts_in (when a then (when b then more p r else broken p) else starts []))
    go false b w r e = refl
    go true false w r e = refl
    go true true w (broken q) e = refl
    go true true w (starts ps) e = rw (whole-listed f p w) (ap (λ (l : List ℕ). when not (is_head f p) then p ∷ l else l) e)

pub instructions-others : (f : List ℕ) → instructions f ≡ select (λ p. not (is_head f p)) (starts_in (records_of f))
unfolding instructions records_of
instructions-others f = go (eqb (byte_at f 0) head_kind)
  where
    go : (t : Bool) → select (is_instruction f) (starts_in (when t then records_from f (length f) 0 else broken 0)) ≡
        select (other f) (starts_in (when t then records_from f (length f) 0 else broken 0))
    go true = rest-others f (length f) 0
    go false = refl

-- a file with no fault in its records
module _ (f ps : List ℕ) (e : records_of f ≡ starts ps) where
  first-inv : (t : Bool) (r : Records) → (when t then r else broken 0) ≡ starts ps → (t ≡ true) × (r ≡ starts ps)
  first-inv true r h = (refl, h)
  first-inv false r h = (cc, cc)

  pub first_head : byte_at f 0 ≡ head_kind
  unfolding records_of
  first_head = eqb-true (byte_at f 0) head_kind (first-inv (eqb (byte_at f 0) head_kind) (records_from f (length f) 0) e).0

  pub file-walk : Walk f 0 ps
  unfolding records_of
  file-walk = records-walk f (length f) 0 ps (omega arith) (first-inv (eqb (byte_at f 0) head_kind) (records_from f (length f) 0) e).1

  pub head_in : (p : ℕ) → Mem p (heads f) → Mem p ps × (byte_at f p ≡ head_kind)
  unfolding heads is_head
  head_in p h =
      let w : Mem p ps × (is_head f p ≡ true) = select_in (is_head f) ps p (rw e at h) in
      (w.0, eqb-true (byte_at f p) head_kind w.1)

  pub instructions-are : instructions f ≡ select (λ p. not (is_head f p)) ps
  instructions-are = instructions-others f ∙ ap (λ (r : Records). select (other f) (starts_in r)) e

  pub ins-in : (p : ℕ) → Mem p (instructions f) → Mem p ps × (byte_at f p ≡ head_kind → ⊥)
  unfolding is_head
  ins-in p h =
      let w : Mem p ps × (not (is_head f p) ≡ true) = select_in (other f) ps p (rw instructions-are at h) in
      (w.0, eqb-false (byte_at f p) head_kind (not-true (is_head f p) w.1))

  pub heads-rise : Rising (heads f)
  unfolding heads
  heads-rise = rw e (select-rising (is_head f) ps (walk-rising f 0 ps file-walk))

  pub instructions-rise : Rising (instructions f)
  instructions-rise = rw instructions-are (select-rising (other f) ps (walk-rising f 0 ps file-walk))

  -- an instruction lies in the file, whole, behind the first head
  pub instruction-whole : (p : ℕ) → Mem p (instructions f) → after f p ≤ length f
  instruction-whole p h = (walk-above f 0 ps file-walk p (ins-in p h).0).1

  pub instruction-below : (p : ℕ) → Mem p (instructions f) → p < length f
  instruction-below p h = let a = instruction-whole p h in let b = after-above f p in omega arith

  -- procedures
  zero_in : (qs : List ℕ) → Walk f 0 qs → Mem 0 qs
  zero_in [] w = absurd (empty f w first_head)
    where
      empty : (g : List ℕ) → length g ≤ 0 → byte_at g 0 ≡ head_kind → ⊥
      empty [] l h = omega arith
      empty (b ∷ g) l h = omega arith
  zero_in (q ∷ qs) w = inl (sym w.0)

  pub procs-some : 0 < procs f
  unfolding procs heads is_head
  procs-some = rw e (has_some 0 (select (is_head f) ps) (in-select (is_head f) ps 0 (zero_in ps file-walk) (eq-eqb (byte_at f 0) head_kind first_head)))

  pub proc-below : (p : ℕ) → proc_at f p < procs f
  unfolding procs proc_at
  proc-below p = let a = up_to-most p (heads f) in let b = procs-some in omega arith

  -- the first instruction of a procedure is the procedure's
  pub entry_in : (n : ℕ) → All (head_tests f n) → Mem (entry f n) (instructions f)
  unfolding head_tests
  entry_in n h = member-in (entry f n) (instructions f) h.1.1.1.1.0

  pub entry-proc : (n : ℕ) → n < procs f → All (head_tests f n) → proc_at f (entry f n) ≡ n
  unfolding proc_at procs head_of entry
  entry-proc n l h = rw (up_to-at (entry f n) (heads f) n heads-rise l (omega arith) next) (omega arith)
    where
      next : (g : ℕ) → Mem g (heads f) → head_of f n < g → entry f n < g
      next g m b = pick (ℕ_discrete g (entry f n))
        where
          H : Mem (head_of f n) ps × (byte_at f (head_of f n) ≡ head_kind)
          H = head_in (head_of f n) (get_or-in (heads f) n 0 l)

          pick : Dec (g ≡ entry f n) → entry f n < g
          pick (yes z) = absurd ((ins-in (entry f n) (entry_in n h)).1 (rw (← z) (head_in g m).1))
          pick (no z) =
              let a = walk-gap f 0 ps file-walk (head_of f n) g H.0 (head_in g m).0 b in
              let c = after-head f (head_of f n) H.1 in
              omega arith

-- what is tested of every head
heads_hold : (f : List ℕ) (k n : ℕ) → heads_from f k n ≡ right → (m : ℕ) → n ≤ m → m < n + k → All (head_tests f m)
unfolding heads_from
heads_hold f zero n e m a b = absurd (omega arith)
heads_hold f (suc k) n e m a b = go (all (head_tests f n)) refl (heads_hold f k (suc n)) e (ℕ_discrete n m)
  where
    go : (t : Bool) → all (head_tests f n) ≡ t → (heads_from f k (suc n) ≡ right → (j : ℕ) → suc n ≤ j → j < suc n + k → All (head_tests f j)) →
        (when t then heads_from f k (suc n) else wrong (head_of f n)) ≡ right → Dec (n ≡ m) → All (head_tests f m)
    go true h r e (yes z) = rw (← z) (all_true (head_tests f n) h)
    go true h r e (no z) = r e m (omega arith) (omega arith)
    go false h r e d = let z : true ≡ false = cc in absurd (true≢false z)

hold-heads : (f : List ℕ) (k n : ℕ) → ((m : ℕ) → n ≤ m → m < n + k → All (head_tests f m)) → heads_from f k n ≡ right
unfolding heads_from
hold-heads f zero n h = refl
hold-heads f (suc k) n h =
    rw (true-all (head_tests f n) (h n (omega arith) (omega arith))) (hold-heads f k (suc n) (λ m a b. h m (omega arith) (omega arith)))

-- the heads pass exactly when the rules hold of each
abbrev pub HeadsHold : List ℕ → Type 0
HeadsHold f = (n : ℕ) → n < procs f → All (head_tests f n)

pub heads-right : (f : List ℕ) → heads_of f ≡ right → HeadsHold f
unfolding heads_of
heads-right f e n l = heads_hold f (procs f) 0 e n (omega arith) (omega arith)

pub right-heads : (f : List ℕ) → HeadsHold f → heads_of f ≡ right
unfolding heads_of
right-heads f h = hold-heads f (procs f) 0 (λ m a b. h m (omega arith))
