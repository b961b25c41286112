-- The records of a file from a place on, and how they go on behind the record there. The fuel of `records_from` is hidden here: any
-- that reaches the file's end gives the same records.
use Rattle.std.specs.Prelude.{ℕ, zero, suc, ◌+◌, ◌<◌, ◌≤◌, Bool, true, false, not, ◌&&◌, List, [], ◌∷◌, ◌≡◌, leb, eqb, length}
use Rattle.std.proofs.Common.{true≢false, sym, ◌∙◌, arith, lt-ltb, le-ltb, eq-eqb, ne_eqb, le-leb, leb-true}
use Rattle.std.proofs.Math.Path.{refl}
use Rattle.std.proofs.lemmas.Bool.{lt-leb}
use Rattle.model.specs.File.{byte_at, body_of, unknown, after, whole?, Records, broken, starts, more, records_from, records_of, head_kind}
use Rattle.laws_file.specs.Walk.{after-above}
use Rattle.model.specs.Choice.{when◌then◌else◌}

-- the records from p on
unfoldable pub rest_of : List ℕ → ℕ → Records
rest_of f p = records_from f (length f) p

-- enough fuel is enough
fuel : (f : List ℕ) (n m p : ℕ) → length f ≤ p + n → length f ≤ p + m → records_from f n p ≡ records_from f m p
unfolding records_from
fuel f zero zero p a b = refl
fuel f zero (suc m) p a b = rw (le-ltb p (length f) (omega arith))
fuel f (suc n) zero p a b = rw (le-ltb p (length f) (omega arith))
fuel f (suc n) (suc m) p a b =
    let h = after-above f p in
    rw (fuel f n m (after f p) (omega arith) (omega arith))

pub rest_end : (f : List ℕ) (p : ℕ) → length f ≤ p → rest_of f p ≡ starts []
unfolding rest_of
rest_end f p h = fuel f (length f) 0 p (omega arith) (omega arith) ∙ unfold records_from in refl

rest-step : (f : List ℕ) (p : ℕ) → p < length f → rest_of f p ≡ (when whole? f p then more p (rest_of f (after f p)) else broken p)
unfolding rest_of records_from
rest-step f p h =
    let a = after-above f p in
    fuel f (length f) (suc (length f)) p (omega arith) (omega arith) ∙ rw (lt-ltb p (length f) h)

pub rest_more : (f : List ℕ) (p : ℕ) → p < length f → whole? f p ≡ true → rest_of f p ≡ more p (rest_of f (after f p))
rest_more f p h w = rest-step f p h ∙ rw w

pub rest-broken : (f : List ℕ) (p : ℕ) → p < length f → whole? f p ≡ false → rest_of f p ≡ broken p
rest-broken f p h w = rest-step f p h ∙ rw w

-- the test of a record, as the code makes it
pub whole-yes : (f : List ℕ) (p : ℕ) → (body_of (byte_at f p) ≡ 255 → ⊥) → after f p ≤ length f → whole? f p ≡ true
unfolding whole?
whole-yes f p a b = rw (ne_eqb (body_of (byte_at f p)) 255 a, le-leb (after f p) (length f) b)

pub whole-unknown : (f : List ℕ) (p : ℕ) → body_of (byte_at f p) ≡ 255 → whole? f p ≡ false
unfolding whole?
whole-unknown f p a = rw (eq-eqb (body_of (byte_at f p)) 255 a)

and_right : (t : Bool) → (t && false) ≡ false
and_right true = refl
and_right false = refl

pub whole-cut : (f : List ℕ) (p : ℕ) → length f < after f p → whole? f p ≡ false
unfolding whole?
whole-cut f p a = rw (lt-leb (after f p) (length f) a) (and_right (not (eqb (body_of (byte_at f p)) unknown)))

pub records-first : (f : List ℕ) → byte_at f 0 ≡ head_kind → records_of f ≡ rest_of f 0
unfolding records_of rest_of
records-first f h = rw (eq-eqb (byte_at f 0) head_kind h)

pub records-other : (f : List ℕ) → (byte_at f 0 ≡ head_kind → ⊥) → records_of f ≡ broken 0
unfolding records_of
records-other f h = rw (ne_eqb (byte_at f 0) head_kind h)

-- a record of a file whose records are whole
more-inv : (p : ℕ) (r : Records) (ps : List ℕ) → more p r ≡ starts ps → (qs : List ℕ) × (r ≡ starts qs) × (ps ≡ p ∷ qs)
more-inv p (broken q) ps e = ([], cc, cc)
more-inv p (starts qs) ps e = (qs, refl, cc)

pub rest-inv : (f : List ℕ) (p : ℕ) (ps : List ℕ) → p < length f → rest_of f p ≡ starts ps →
    (whole? f p ≡ true) × ((qs : List ℕ) × (rest_of f (after f p) ≡ starts qs) × (ps ≡ p ∷ qs))
rest-inv f p ps h e = go (whole? f p) refl
  where
    go : (t : Bool) → whole? f p ≡ t → (whole? f p ≡ true) × ((qs : List ℕ) × (rest_of f (after f p) ≡ starts qs) × (ps ≡ p ∷ qs))
    go true w = (w, more-inv p (rest_of f (after f p)) ps (sym (rest_more f p h w) ∙ e))
    go false w = let x : broken p ≡ starts ps = sym (rest-broken f p h w) ∙ e in let z : true ≡ false = cc in absurd (true≢false z)

pub whole-inside : (f : List ℕ) (p : ℕ) → whole? f p ≡ true → after f p ≤ length f
unfolding whole?
whole-inside f p e = go (eqb (body_of (byte_at f p)) unknown) e
  where
    go : (t : Bool) → (not t && leb (after f p) (length f)) ≡ true → after f p ≤ length f
    go true w = absurd (true≢false (sym w))
    go false w = leb-true (after f p) (length f) w
