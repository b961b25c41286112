-- The checker's answer and map from those of its passes: the part of the map that is the file's is overwritten, the rest is kept.
use Prim.Native.Nat.{ℕ, zero, suc, ◌+◌, ◌*◌, ◌<◌, ◌≤◌}
use Rattle.std.specs.Prelude.{Bool, Result, Ok, Err, ◌≡◌, take, drop}
use Rattle.std.specs.Result.{is_err}
use Rattle.std.proofs.Math.Bool.{true, false, ◌&&◌}
use Rattle.std.proofs.Common.{true≢false, inl, sym, ◌∙◌, arith}
use mathlib.Core.List.{List, ◌++◌}
use Rattle.std.proofs.Math.Path.{refl, ap}
use Rattle.std.proofs.Math.Dec.{eqb, leb}
use Rattle.std.proofs.Math.ListN.{length, get_or, get_or-eq_default, replicate}
use Rattle.std.proofs.Math.Decide.{dec_lt}
use Rattle.std.proofs.lemmas.List.{get_or-take, length-take-le}
use borrow.Author.Tests.{eq-eqb, eqb-true, le-leb, lt-leb}
use Rattle.model.specs.Choice.{when◌then◌else◌}
use Rattle.model.specs.File.{byte_at, Records, records_of, starts_in, is_head, select, heads, wrong, right, heads_of, head_of, entry, procs, params_main}
use Rattle.model.specs.File.{params_ptr, head_tests, file_most, procs_most}
use Rattle.model.specs.Checker.{none, Known, state_at, is_set, firsts, first, map_from}
use Rattle.model.specs.Calls.{over_map, wiped, pass, refuse, scanned, verdict_of, checked, answered, check_of}
use Rattle.laws_file.specs.Procedures.{DepthsWithin, head-none}
use Rattle.laws_file.specs.Walk.{HeadsHold, heads-right, entry-proc, file-walk, walk-above, after-above}
use Rattle.check_scan.specs.Marks.{PartShows, marked, marked-shows}
use Rattle.check_scan.specs.Scanning.{Comes, Scanned, listed-count, listed-all}
use Rattle.check_scan.specs.Heading.{ScanMarked, Placed}
use Rattle.check_flow.specs.Alike.{Fit}
use Rattle.check_flow.specs.Flowing.{Begun, Flowed, refuse-pass}
use Rattle.check_scan.specs.declared.Found.{Found}
use Rattle.model.specs.Refusals.{number_of}
use Rattle.model.specs.declared.Refusal.TheVariants as refusal
use Rattle.model.specs.declared.Refusal.TheVariants.{FileLength, MapLength}
use Rattle.model.specs.declared.RefusedAt.{RefusedAt}
use Rattle.model.specs.declared.Answer.{Answer}
use Rattle.model.specs.declared.Answer.TheVariants.{Passed, Refused}

-- a file, its part of the map and an empty table
pub record Lengths (f m table : List ℕ) : Type 0 where
  pub some : 1 ≤ length f
  pub few : length f ≤ file_most
  pub bytes : (i : ℕ) → byte_at f i < 256
  pub part : length m ≡ 3 * length f
  pub empty : table ≡ replicate procs_most 0

-- what refusals 3 to 9 come to, whatever the map was
abbrev pub Looked : List ℕ → List ℕ → List ℕ → Result ℕ RefusedAt → Type 0
Looked f m table (Ok n) =
    (k : Known) × ((map : List ℕ) → scanned f map (records_of f) ≡ pass (over_map f map (map_from k (length f) 0))) × (m ≡ map_from k (length f) 0)
    × Placed f table n
Looked f m table (Err r) = (map : List ℕ) → scanned f map (records_of f) ≡ refuse (number_of r.refusal) r.place (wiped f map)

-- the answer that a verdict is
abbrev pub answer_of : Result ℕ RefusedAt → Answer
answer_of (Ok n) = Passed
answer_of (Err r) = Refused (number_of r.refusal) r.place

-- the same, with the part filled where the file is refused
pub record Filled (f m table : List ℕ) (v : Result ℕ RefusedAt) : Type 0 where
  pub is : (map : List ℕ) → answered (scanned f map (records_of f)) ≡ checked (answer_of v) (over_map f map m)
  pub placed : (n : ℕ) → v ≡ Ok n → Placed f table n

pub record Checks (f map map' table : List ℕ) (v : Result ℕ RefusedAt) : Type 0 where
  pub is : checked (answer_of v) map' ≡ check_of f map
  pub placed : (n : ℕ) → v ≡ Ok n → Placed f table n

-- refusal 3, and what the marked part shows
module _ (f m m₁ m₂ table table₂ : List ℕ) (L : Lengths f m table) (one : m₁ ≡ replicate (length m) none) (r : Result Found RefusedAt) (S : Scanned f m₁ m₂ table₂ r) where
  pub look-broken : (e : RefusedAt) → r ≡ Err e → (e.refusal ≡ refusal.Records) × Looked f m₂ table₂ (Err e)
  look-broken e h = let w : Comes f m₁ m₂ table₂ (Err e) = rw h at S.comes in (w.0, λ map. rw (w.1, w.0))

  pub look-whole : (found : Found) → r ≡ Ok found → ScanMarked f m₂ table₂ found.heads found.later
  unfolding procs head_of heads
  look-whole found e =
      let n = found.heads in
      let last = found.later in
      let C : Comes f m₁ m₂ table₂ (Ok found) = rw e at S.comes in
      let hs = select (is_head f) C.0 in
      let same : heads f ≡ hs = ap (λ (s : Records). select (is_head f) (starts_in s)) C.1 in
      let a : m₂ ≡ marked f (replicate (3 * length f) none) C.0 = C.2 ∙ ap (λ (x : List ℕ). marked f x C.0) (one ∙ ap (λ (k : ℕ). replicate k none) L.part) in
      record {
        some = L.some;
        few = L.few;
        bytes = L.bytes;
        places = C.0;
        whole = C.1;
        shows = rw a
            (marked-shows f C.0 C.1 (λ p i. let b = (walk-above f 0 C.0 (file-walk f C.0 C.1) p i).1 in let c = after-above f p in omega arith));
        count = listed-count table₂ hs n last C.3 ∙ ap length (sym same);
        listed = λ i l. listed-all table₂ hs n last C.3 i l ∙ ap (λ (h : List ℕ). get_or h i 0) (sym same);
        later = λ l. C.3.later l ∙ ap (λ (h : List ℕ). get_or h 64 0) (sym same);
      }

-- refusal 4, and what the flow begins with
module _ (f m table : List ℕ) (n last : ℕ) (M : ScanMarked f m table n last) where
  pub look-wrong : (m₁ : List ℕ) (p : ℕ) → heads_of f ≡ wrong p → Looked f m₁ table (Err (record { refusal = refusal.Heads; place = p }))
  look-wrong m₁ p e map = rw (M.whole, e)

  -- the first states fit the map
  abbrev Small : Known → ℕ → Type 0
  Small k q = ((state_at k q).main < 256) × ((state_at k q).ptr < 256) × ((state_at k q).inner ≡ none)

  firsts-small : (n q : ℕ) → is_set (state_at (firsts f n) q) ≡ true → Small (firsts f n) q
  unfolding firsts params_main params_ptr
  firsts-small zero q h = absurd (true≢false (sym h))
  firsts-small (suc n) q h = go (eqb q (entry f n)) h (firsts-small n q)
    where
      go : (t : Bool) → is_set (when t then (first f n).1 else state_at (firsts f n) q) ≡ true → (is_set (state_at (firsts f n) q) ≡ true → Small (firsts f n) q) →
          ((when t then (first f n).1 else state_at (firsts f n) q).main < 256) × ((when t then (first f n).1 else state_at (firsts f n) q).ptr < 256)
          × ((when t then (first f n).1 else state_at (firsts f n) q).inner ≡ none)
      go true z r = (M.bytes (head_of f n + 1), M.bytes (head_of f n + 2), refl)
      go false z r = r z

  firsts-fit : (n q : ℕ) → is_set (state_at (firsts f n) q) ≡ true → Fit (firsts f n) (state_at (firsts f n) q)
  firsts-fit n q h =
      let w = firsts-small n q h in
      let z = eq-eqb (state_at (firsts f n) q).inner none w.2 in
      record { main_byte = w.0; ptr_byte = w.1; held = inl w.2; main_above = rw z (omega arith); ptr_above = rw z (omega arith) }

  -- and have depths within their procedures'
  firsts-within : HeadsHold f → (n q : ℕ) → n ≤ procs f → is_set (state_at (firsts f n) q) ≡ true → DepthsWithin f q (state_at (firsts f n) q)
  unfolding firsts head_tests
  firsts-within hs zero q l h = absurd (true≢false (sym h))
  firsts-within hs (suc n) q l h = go (eqb q (entry f n)) refl h (firsts-within hs n q (omega arith))
    where
      go : (t : Bool) → eqb q (entry f n) ≡ t → is_set (when t then (first f n).1 else state_at (firsts f n) q) ≡ true →
          (is_set (state_at (firsts f n) q) ≡ true → DepthsWithin f q (state_at (firsts f n) q)) →
          DepthsWithin f q (when t then (first f n).1 else state_at (firsts f n) q)
      go true e z r =
          let w = hs n (omega arith) in
          rw (eqb-true q (entry f n) e, entry-proc f M.places M.whole n (omega arith) w) (w.0, w.1.1.0)
      go false e z r = r z

  -- the table cut to the file's heads
  cut : (k : ℕ) → k ≤ length table → Placed f table k → Placed f (take k table) k
  cut k l P = record { count = P.count; few = P.few; heads = λ n b. at n b (dec_lt n k) }
    where
      at : (n : ℕ) → n < 64 → Dec (n < k) → get_or (take k table) n 0 ≡ head_of f n
      at n b (yes z) = get_or-take k table n 0 z ∙ P.heads n b
      at n b (no z) =
          let e = length-take-le k table l in
          let c = P.count in
          get_or-eq_default (take k table) 0 (omega arith) ∙ sym (head-none f M.places M.whole n (omega arith))

  begun : (t m₁ : List ℕ) (k : ℕ) → heads_of f ≡ right → Placed f t k → PartShows f (firsts f k) m₁ → Begun f m₁ t k
  begun t m₁ k R P S =
      record {
        some = M.some;
        few = M.few;
        bytes = M.bytes;
        places = M.places;
        records = M.whole;
        heads_hold = heads-right f R;
        placed = P;
        good = record { shows = S; within = λ q. firsts-within (heads-right f R) k q (let z = P.count in omega arith); fits = firsts-fit k };
      }

  pub look-begun : (m₁ : List ℕ) (k : ℕ) → (heads_of f ≡ right) × Placed f table k × PartShows f (firsts f k) m₁ → Begun f m₁ table k
  look-begun m₁ k H = begun table m₁ k H.0 H.1 H.2

  -- the same of the table cut to the file's heads
  pub look-begun-cut : (m₁ : List ℕ) (k : ℕ) → k ≤ length table → (heads_of f ≡ right) × Placed f table k × PartShows f (firsts f k) m₁ →
      Begun f m₁ (take k table) (length (take k table))
  look-begun-cut m₁ k l H = rw (length-take-le k table l) (begun (take k table) m₁ k H.0 (cut k l H.1) H.2)

  -- the heads are right, and what the flow comes to decides
  pub look-flow : (m₁ m₂ : List ℕ) (k : ℕ) (v : Result ℕ RefusedAt) → (heads_of f ≡ right) × Placed f table k × PartShows f (firsts f k) m₁ →
      Flowed f m₂ k v → Looked f m₂ table v
  look-flow m₁ m₂ k (Ok j) H F =
      (F.1.0, (λ map. rw (M.whole, H.0, F.1.1)), F.1.2, rw F.0 H.1)
  look-flow m₁ m₂ k (Err r) H F = λ map. rw (M.whole, H.0, F)

  -- the same with the number of heads that the cut table has
  pub look-flow-cut : (m₁ m₂ : List ℕ) (k : ℕ) (v : Result ℕ RefusedAt) → k ≤ length table → (heads_of f ≡ right) × Placed f table k × PartShows f (firsts f k) m₁ →
      Flowed f m₂ (length (take k table)) v → Looked f m₂ table v
  look-flow-cut m₁ m₂ k v l H F = look-flow m₁ m₂ k v H (rw (length-take-le k table l) at F)

-- a passed file keeps its part, a refused one has it filled
pub fill-kept : (f m table : List ℕ) (v : Result ℕ RefusedAt) → is_err v ≡ false → Looked f m table v → Filled f m table v
fill-kept f m table (Ok n) h L =
    record { is = λ map. rw (L.1 map, ← L.2); placed = λ k e. let w : n ≡ k = cc in rw w at L.3 }
fill-kept f m table (Err r) h L = absurd (true≢false h)

pub fill-refused : (f m m' table : List ℕ) (v : Result ℕ RefusedAt) → is_err v ≡ true → Looked f m table v → m' ≡ replicate (length m) none →
    length m ≡ 3 * length f → Filled f m' table v
fill-refused f m m' table (Ok n) h L w l = absurd (true≢false (sym h))
fill-refused f m m' table (Err r) h L w l =
    record { is = λ map. rw (L map, w, l) (unfold wiped in refl); placed = λ k z. refuse-pass r k z }

-- refusals 1 and 2 write nothing; the rest is the passes'
module _ (f map table : List ℕ) where
  pub check-none : length f < 1 → Checks f map map table (Err (record { refusal = FileLength; place = 0 }))
  unfolding check_of verdict_of
  check-none l = record { is = rw (lt-leb 1 (length f) l); placed = λ k z. refuse-pass _ k z }

  pub check-long : 1 ≤ length f → file_most < length f → Checks f map map table (Err (record { refusal = FileLength; place = 0 }))
  unfolding check_of verdict_of
  check-long a l = record { is = rw (le-leb 1 (length f) a, lt-leb (length f) file_most l); placed = λ k z. refuse-pass _ k z }

  pub check-length : (leb 1 (length f) && leb (length f) file_most) ≡ false → Checks f map map table (Err (record { refusal = FileLength; place = 0 }))
  unfolding check_of verdict_of
  check-length l = record { is = rw l; placed = λ k z. refuse-pass _ k z }

  module _ (a : 1 ≤ length f) (b : length f ≤ file_most) where
    pub check-map : length map < 3 * length f → Checks f map map table (Err (record { refusal = MapLength; place = 0 }))
    unfolding check_of verdict_of
    check-map l =
        record { is = rw (le-leb 1 (length f) a, le-leb (length f) file_most b, lt-leb (3 * length f) (length map) l); placed = λ k z. refuse-pass _ k z }

    pub check-rest : (m map' : List ℕ) (r : Result ℕ RefusedAt) → 3 * length f ≤ length map → Filled f m table r → map' ≡ m ++ drop (3 * length f) map → Checks f map map' table r
    unfolding check_of verdict_of
    check-rest m map' r l F e =
        record {
          is =
              rw (le-leb 1 (length f) a, le-leb (length f) file_most b, le-leb (3 * length f) (length map) l, e)
              (sym (F.is map ∙ (unfold over_map in refl)));
          placed = F.placed;
        }
