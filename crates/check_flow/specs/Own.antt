-- A place is an instruction of the procedure with head h and end e exactly when it lies between them and the map shows that an
-- instruction starts there.
use Rattle.std.specs.Prelude.{ℕ, ◌+◌, ◌*◌, ◌<◌, ◌≤◌, Bool, not, ◌&&◌, List, ◌≡◌, ltb, get_or}
use Rattle.std.proofs.Math.Bool.{true, false}
use Rattle.std.proofs.Math.Path.{refl}
use Rattle.std.proofs.Common.{ap, sym, arith, lt-ltb, le-ltb, eq-eqb, ne_eqb}
use Rattle.std.proofs.Math.Decide.{dec_lt}
use Rattle.std.proofs.Math.Dec.{eqb}
use Rattle.std.proofs.Math.ListN.{length}
use Rattle.model.specs.Choice.{when◌then◌else◌, Mem, member}
use Rattle.model.specs.File.{instructions, procs, head_of, proc_at, records_of, starts}
use Rattle.model.specs.Checker.{none, Known, own}
use Rattle.laws.specs.Members.{member-in}
use Rattle.laws_file.specs.Walk.{instruction-below}
use Rattle.laws_file.specs.Procedures.{end_of, end_low, own-head, own-end, between}
use Rattle.check_scan.specs.Marks.{PartShows, starts-here}
use Rattle.check_ways.specs.Takes.{own_in}

module _ (f ps : List ℕ) (e : records_of f ≡ starts ps)
    (k : Known) (m : List ℕ) (S : PartShows f k m) (p : ℕ) (n : ℕ) (n-is : proc_at f p ≡ n) (n-low : n < procs f) where
  outside : (q : ℕ) → length f ≤ q → own_in m (head_of f n) (end_of f (n + 1)) q ≡ false
  outside q h = go (ltb (head_of f n) q)
    where
      go : (t : Bool) → (when t then (when ltb q (end_of f (n + 1)) then not (eqb (get_or m (3 * q) 0) none) else false) else false) ≡ false
      go true = let a = end_low f ps e (n + 1) in rw (le-ltb q (end_of f (n + 1)) (omega arith))
      go false = refl

  no_start : (q : ℕ) → q < length f → member q (instructions f) ≡ false → own_in m (head_of f n) (end_of f (n + 1)) q ≡ false
  no_start q h w = rw (starts-here f k m S q h, w) (go (ltb (head_of f n) q) (ltb q (end_of f (n + 1))))
    where
      go : (t u : Bool) → (when t then (when u then false else false) else false) ≡ false
      go true true = refl
      go true false = refl
      go false u = refl

  start : (q : ℕ) → q < length f → member q (instructions f) ≡ true → own_in m (head_of f n) (end_of f (n + 1)) q ≡ eqb (proc_at f q) (proc_at f p)
  start q h w = rw (starts-here f k m S q h, w, n-is) (go (dec_lt (head_of f n) q) (dec_lt q (end_of f (n + 1))))
    where
      i : Mem q (instructions f)
      i = member-in q (instructions f) w

      far : (proc_at f q ≡ n → ⊥) → false ≡ eqb (proc_at f q) n
      far h = sym (ne_eqb (proc_at f q) n h)

      go : Dec (head_of f n < q) → Dec (q < end_of f (n + 1)) → (when ltb (head_of f n) q then (when ltb q (end_of f (n + 1)) then true else false) else false) ≡ eqb (proc_at f q) n
      go (yes a) (yes b) = rw (lt-ltb (head_of f n) q a, lt-ltb q (end_of f (n + 1)) b) (sym (eq-eqb (proc_at f q) n (between f ps e n q n-low (omega arith) b)))
      go (yes a) (no b) = rw (lt-ltb (head_of f n) q a, le-ltb q (end_of f (n + 1)) (omega arith)) (far (λ z. let v = own-end f ps e q i in let u = ap (λ (j : ℕ). end_of f (j + 1)) z in omega arith))
      go (no a) d = rw (le-ltb (head_of f n) q (omega arith)) (far (λ z. let v = own-head f ps e q i in let u = ap (head_of f) z in omega arith))

  pub own-alike : (q : ℕ) → own_in m (head_of f n) (end_of f (n + 1)) q ≡ own f p q
  unfolding own
  own-alike q = go (member q (instructions f)) refl (dec_lt q (length f))
    where
      go : (t : Bool) → member q (instructions f) ≡ t → Dec (q < length f) → own_in m (head_of f n) (end_of f (n + 1)) q ≡ (member q (instructions f) && eqb (proc_at f q) (proc_at f p))
      go true w (yes h) = rw w (start q h w)
      go true w (no h) = absurd (h (instruction-below f ps e q (member-in q (instructions f) w)))
      go false w (yes h) = rw w (no_start q h w)
      go false w (no h) = rw w (outside q (omega arith))
