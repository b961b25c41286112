-- The scan of the records: what is still to be scanned decides what all the records come to (`ScanAt`), unless a record is cut short by
-- the file's end (`Behind`); at the end the marks are those of
-- all the instructions (`marked-shows` in Marks.antt says what they show), and the table has the places of the heads (`Listed`).
use Rattle.std.specs.Prelude.{ℕ, zero, suc, ◌+◌, ◌-◌, ◌*◌, ◌<◌, ◌≤◌, Bool, true, false, Result, Ok, Err, ◌≡◌, refl, set, replicate, drop}
use mathlib.Core.List.{List, [], ◌∷◌}
use Rattle.std.proofs.Math.Path.{ap}
use Rattle.std.proofs.Common.{sym, ◌∙◌, arith, length-set, length-drop, get_or-set_same, get_or-set_other, get_or-drop, drop-drop}
use Rattle.std.proofs.Math.Decide.{ℕ_discrete, dec_lt}
use Rattle.std.proofs.Math.Dec.{ltb, eqb}
use Rattle.std.proofs.Math.ListN.{length, get_or, get_or-eq_default}
use Rattle.std.proofs.lemmas.List.{length-replicate}
use borrow.Author.Tests.{eq-eqb, ne_eqb, lt-ltb, le-ltb}
use Rattle.model.specs.Choice.{when◌then◌else◌}
use Rattle.model.specs.File.{byte_at, body_of, bodies, after, whole?, broken, starts, more, records_of, is_head, select, head_kind, procs_most}
use Rattle.laws_file.specs.Rest.{rest_of, rest_end, rest_more, rest-broken, whole-yes, whole-unknown, whole-cut, records-first, records-other}
use Rattle.check_scan.specs.Marks.{unreached, marked}
use Rattle.model.specs.declared.Refusal.TheVariants as refusal
use Rattle.model.specs.declared.RefusedAt.{RefusedAt}
use Rattle.check_scan.specs.declared.Found.{Found}

-- head k at p: the table has room for 64, and the place of the one behind them is kept by itself
unfoldable pub list_in : List ℕ → ℕ → ℕ → List ℕ
list_in table k p = when ltb k 64 then set table k p else table

unfoldable pub last_in : ℕ → ℕ → ℕ → ℕ
last_in last k p = when eqb k 64 then p else last

list-long : (table : List ℕ) (k p : ℕ) → length (list_in table k p) ≡ length table
unfolding list_in
list-long table k p = go (ltb k 64)
  where
    go : (t : Bool) → length (when t then set table k p else table) ≡ length table
    go true = length-set table k p
    go false = refl

-- of the heads hs, the first k are in the table; more are to come
pub record Listed (table : List ℕ) (k last : ℕ) (hs to_come : List ℕ) : Type 0 where
  pub rest : drop k hs ≡ to_come
  pub counted : k ≤ length hs
  pub placed : (n : ℕ) → n < 64 → get_or table n 0 ≡ (when ltb n k then get_or hs n 0 else 0)
  pub later : 64 < k → last ≡ get_or hs 64 0

empty-at : (k n : ℕ) → ◌≡◌ {A = ℕ} (get_or (replicate k 0) n 0) 0
empty-at zero n = refl
empty-at (suc k) zero = refl
empty-at (suc k) (suc n) = empty-at k n

listed-first : (table hs : List ℕ) (last : ℕ) → table ≡ replicate procs_most 0 → Listed table 0 last hs hs
listed-first table hs last e =
    record {
      rest = refl;
      counted = omega arith;
      placed = λ n l. rw (e, le-ltb n 0 (omega arith)) (empty-at 64 n);
      later = λ l. absurd (omega arith);
    }

module _ (table hs to_come : List ℕ) (k last p : ℕ) (L : Listed table k last hs (p ∷ to_come)) (long : length table ≡ 64) where
  one_more : k < length hs
  one_more =
      let a : length hs - k ≡ suc (length to_come) = sym (length-drop k hs) ∙ ap length L.rest in
      omega arith

  head-is : get_or hs k 0 ≡ p
  head-is =
      let z : k ≡ k + 0 = omega arith in
      ap (λ (n : ℕ). get_or hs n 0) z ∙ sym (get_or-drop k hs 0 0) ∙ ap (λ (l : List ℕ). get_or l 0 0) L.rest

  placed-more : (n : ℕ) → n < 64 → get_or (list_in table k p) n 0 ≡ (when ltb n (suc k) then get_or hs n 0 else 0)
  unfolding list_in
  placed-more n l = go (dec_lt k 64) (ℕ_discrete n k)
    where
      near : (n ≡ k → ⊥) → Dec (n < k) → (when ltb n k then get_or hs n 0 else 0) ≡ (when ltb n (suc k) then get_or hs n 0 else 0)
      near z (yes b) = rw (lt-ltb n k b, lt-ltb n (suc k) (omega arith))
      near z (no b) = rw (le-ltb n k (omega arith), le-ltb n (suc k) (omega arith))

      go : Dec (k < 64) → Dec (n ≡ k) → get_or (when ltb k 64 then set table k p else table) n 0 ≡ (when ltb n (suc k) then get_or hs n 0 else 0)
      go (yes b) (yes z) = rw (lt-ltb k 64 b, z, lt-ltb k (suc k) (omega arith), head-is) (get_or-set_same table k p 0 (omega arith))
      go (yes b) (no z) = rw (lt-ltb k 64 b) (get_or-set_other table k n p 0 z ∙ L.placed n l ∙ near z (dec_lt n k))
      go (no b) (yes z) = absurd (omega arith)
      go (no b) (no z) = rw (le-ltb k 64 (omega arith)) (L.placed n l ∙ near z (dec_lt n k))

  last_more : 64 < suc k → last_in last k p ≡ get_or hs 64 0
  unfolding last_in
  last_more l = go (ℕ_discrete k 64)
    where
      go : Dec (k ≡ 64) → (when eqb k 64 then p else last) ≡ get_or hs 64 0
      go (yes z) = rw (eq-eqb k 64 z) (sym head-is ∙ ap (λ (n : ℕ). get_or hs n 0) z)
      go (no z) = rw (ne_eqb k 64 z) (L.later (omega arith))

  listed_more : Listed (list_in table k p) (suc k) (last_in last k p) hs to_come
  listed_more =
      let one = one_more in
      let z : suc k ≡ k + 1 = omega arith in
      record {
        rest = rw z (sym (drop-drop 1 k hs) ∙ ap (drop 1) L.rest);
        counted = omega arith;
        placed = placed-more;
        later = last_more;
      }

-- where no more come, the table has them all
module _ (table hs : List ℕ) (k last : ℕ) (L : Listed table k last hs []) where
  pub listed-count : k ≡ length hs
  listed-count =
      let a : length hs - k ≡ 0 = sym (length-drop k hs) ∙ ap length L.rest in
      let b = L.counted in
      omega arith

  pub listed-all : (n : ℕ) → n < 64 → get_or table n 0 ≡ get_or hs n 0
  listed-all n l = L.placed n l ∙ at (dec_lt n k)
    where
      at : Dec (n < k) → (when ltb n k then get_or hs n 0 else 0) ≡ get_or hs n 0
      at (yes b) = rw (lt-ltb n k b)
      at (no b) = let c = listed-count in rw (le-ltb n k (omega arith)) (sym (get_or-eq_default hs 0 (omega arith)))

-- what a scan finds: refusal 3 at p, or k heads and the place of the 65th
abbrev pub broken_at : ℕ → Result Found RefusedAt
broken_at p = Err (record { refusal = refusal.Records; place = p })

abbrev pub whole_with : ℕ → ℕ → Result Found RefusedAt
whole_with k last = Ok (record { heads = k; later = last })

-- what a scan comes to
abbrev pub Comes : List ℕ → List ℕ → List ℕ → List ℕ → Result Found RefusedAt → Type 0
Comes f m m' table (Err r) = (r.refusal ≡ refusal.Records) × (records_of f ≡ broken r.place)
Comes f m m' table (Ok found) =
    (ps : List ℕ) × (records_of f ≡ starts ps) × (m' ≡ marked f m ps) × Listed table found.heads found.later (select (is_head f) ps) []

pub record Scanned (f m m' table : List ℕ) (r : Result Found RefusedAt) : Type 0 where
  pub long : length m' ≡ length m
  pub comes : Comes f m m' table r

-- at p, with the map m and k heads in the table, of a scan that began with the map m₀
pub record ScanAt (f m₀ m table : List ℕ) (p k last : ℕ) : Type 0 where
  pub first : records_of f ≡ rest_of f 0
  pub long : length m ≡ length m₀
  pub table_long : length table ≡ 64
  pub few : k ≤ p
  pub broke : (q : ℕ) → rest_of f p ≡ broken q → rest_of f 0 ≡ broken q
  pub went : (ps : List ℕ) → rest_of f p ≡ starts ps →
      (qs : List ℕ) × (rest_of f 0 ≡ starts qs) × (marked f m₀ qs ≡ marked f m ps)
      × Listed table k last (select (is_head f) qs) (select (is_head f) ps)

going-first : (f m table : List ℕ) → byte_at f 0 ≡ head_kind → table ≡ replicate procs_most 0 → ScanAt f m m table 0 0 0
going-first f m table h t =
    record {
      first = records-first f h;
      long = refl;
      table_long = rw t (length-replicate {A = ℕ} 64 0);
      few = omega arith;
      broke = λ q e. e;
      went = λ ps e. (ps, e, refl, listed-first table (select (is_head f) ps) 0 t);
    }

pub scanned-other : (f m table : List ℕ) → (byte_at f 0 ≡ head_kind → ⊥) → Scanned f m m table (broken_at 0)
scanned-other f m table h = record { long = refl; comes = (refl, records-other f h) }

pub scanned-end : {f m₀ m table : List ℕ} {p k last : ℕ} → ScanAt f m₀ m table p k last → length f ≤ p → Scanned f m₀ m table (whole_with k last)
scanned-end {f} {m₀} {m} {table} {p} G h =
    let g = G.went [] (rest_end f p h) in
    record { long = G.long; comes = (g.0, G.first ∙ g.1, sym (g.2 ∙ (unfold marked in refl)), g.3) }

-- at p, behind the record at q: the scan goes on, or that record was cut short and decides
pub record Behind (f m₀ m table : List ℕ) (p k last q : ℕ) : Type 0 where
  pub long : length m ≡ length m₀
  pub here : p ≤ length f → ScanAt f m₀ m table p k last
  pub cut : length f < p → Scanned f m₀ m table (broken_at q)

pub behind-first : (f m table : List ℕ) → byte_at f 0 ≡ head_kind → table ≡ replicate procs_most 0 → Behind f m m table 0 0 0 0
behind-first f m table h t = record { long = refl; here = λ l. going-first f m table h t; cut = λ l. absurd (omega arith) }

-- the record at p as the code yields it: b is the body's length
pub record RecordAt (f m₀ m table : List ℕ) (p k last b : ℕ) : Type 0 where
  pub scan : ScanAt f m₀ m table p k last
  pub inside : p < length f
  pub is : b ≡ body_of (get_or f p 0)

module _ {f m₀ m table : List ℕ} {p k last b : ℕ} (R : RecordAt f m₀ m table p k last b) where
  G : ScanAt f m₀ m table p k last
  G = R.scan

  going-broken : (m' table' : List ℕ) → length m' ≡ length m₀ → whole? f p ≡ false → Scanned f m₀ m' table' (broken_at p)
  going-broken m' table' l w = record { long = l; comes = (refl, G.first ∙ G.broke p (rest-broken f p R.inside w)) }

  pub scan-unknown : b ≡ 255 → Scanned f m₀ m table (broken_at p)
  scan-unknown e = going-broken m table G.long (whole-unknown f p (sym R.is ∙ e))

  pub head-body : get_or f p 0 ≡ head_kind → b ≡ 6
  unfolding body_of bodies
  head-body z = R.is ∙ ap body_of z

  module _ {q : ℕ} (u : b ≡ 255 → ⊥) (q-is : q ≡ p + 1 + b) where
    here : after f p ≡ q
    unfolding after
    here = rw (← R.is) (sym q-is)

    cut-here : (m' table' : List ℕ) → length m' ≡ length m₀ → length f < q → Scanned f m₀ m' table' (broken_at p)
    cut-here m' table' e l = going-broken m' table' e (whole-cut f p (rw here l))

    goes-on : q ≤ length f → rest_of f p ≡ more p (rest_of f q)
    goes-on l = rest_more f p R.inside (whole-yes f p (λ z. u (R.is ∙ z)) (rw here l)) ∙ ap (λ (r : ℕ). more p (rest_of f r)) here

    pub scan-mark : {m' : List ℕ} → (get_or f p 0 ≡ head_kind → ⊥) → m' ≡ set m (3 * p) unreached → Behind f m₀ m' table q k last p
    unfolding marked is_head
    scan-mark {m'} other e = record { long = long; here = on; cut = cut-here m' table long }
      where
        long : length m' ≡ length m₀
        long = rw e (length-set m (3 * p) unreached) ∙ G.long

        marks : (ps : List ℕ) → marked f m (p ∷ ps) ≡ marked f m' ps
        marks ps = rw (ne_eqb (byte_at f p) head_kind other, e)

        passed : (ps hs : List ℕ) → Listed table k last hs (select (is_head f) (p ∷ ps)) → Listed table k last hs (select (is_head f) ps)
        passed ps hs L = rw (ne_eqb (byte_at f p) head_kind other) at L

        on : q ≤ length f → ScanAt f m₀ m' table q k last
        on l =
            let few = G.few in
            record {
              first = G.first;
              long = long;
              table_long = G.table_long;
              few = omega arith;
              broke = λ r w. G.broke r (goes-on l ∙ ap (more p) w);
              went = λ ps w.
                  let g = G.went (p ∷ ps) (goes-on l ∙ ap (more p) w) in
                  (g.0, g.1, g.2 ∙ marks ps, passed ps (select (is_head f) g.0) g.3);
            }

    pub scan-head : {table' : List ℕ} {last' : ℕ} → get_or f p 0 ≡ head_kind → table' ≡ list_in table k p → last' ≡ last_in last k p →
        Behind f m₀ m table' q (k + 1) last' p
    unfolding marked is_head
    scan-head {table'} {last'} is-head te le = record { long = G.long; here = on; cut = cut-here m table' G.long }
      where
        marks : (ps : List ℕ) → marked f m (p ∷ ps) ≡ marked f m ps
        marks ps = rw (eq-eqb (byte_at f p) head_kind is-head)

        noted : (ps hs : List ℕ) → Listed table k last hs (select (is_head f) (p ∷ ps)) → Listed table' (k + 1) last' hs (select (is_head f) ps)
        noted ps hs L =
            let s : k + 1 ≡ suc k = omega arith in
            let M : Listed table k last hs (p ∷ select (is_head f) ps) = rw (eq-eqb (byte_at f p) head_kind is-head) at L in
            rw (te, le, s) (listed_more table hs (select (is_head f) ps) k last p M G.table_long)

        on : q ≤ length f → ScanAt f m₀ m table' q (k + 1) last'
        on l =
            let few = G.few in
            record {
              first = G.first;
              long = G.long;
              table_long = rw te (list-long table k p ∙ G.table_long);
              few = omega arith;
              broke = λ r w. G.broke r (goes-on l ∙ ap (more p) w);
              went = λ ps w.
                  let g = G.went (p ∷ ps) (goes-on l ∙ ap (more p) w) in
                  (g.0, g.1, g.2 ∙ marks ps, noted ps (select (is_head f) g.0) g.3);
            }

  -- a short body is no head's, and no unknown kind's
  pub scan-short : {q : ℕ} {m' : List ℕ} → b < 5 → q ≡ p + 1 + b → m' ≡ set m (3 * p) unreached → Behind f m₀ m' table q k last p
  scan-short s q-is e = scan-mark (λ z. omega arith) q-is (λ z. let w = head-body z in omega arith) e
