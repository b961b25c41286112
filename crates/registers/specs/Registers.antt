-- Registers as bytes: nine words stored one after the other are all the bytes, and a word that is not stored stays.
use Rattle.std.specs.Prelude.{ℕ, zero, suc, ◌+◌, ◌*◌, ◌/◌, ◌%◌, ◌<◌, ◌≤◌, ◌≡◌, refl, List, [], ◌∷◌, ◌++◌, length, take, drop, set, get_or}
use Rattle.std.proofs.Common.{ap, sym, ◌∙◌, get_or-set_other, add-one, arith, length-append, take_all, take_at, length-take-le, lit<}
use Rattle.std.proofs.lemmas.Grind.{common_steps}
use Rattle.std.proofs.lemmas.Nat.{be_bytes_4}
use Rattle.std.proofs.lemmas.List.Edits.{sets, sets-eq}
use Rattle.std.proofs.Math.Seq.{length-sets}
use Rattle.std.proofs.lemmas.List.{set-get_or}
use Rattle.model.specs.Words.{word_at}
use Rattle.model.specs.Control.{register_bytes, word_from, regs_from, sums_from, bytes_of, reg_bytes}
use Rattle.model.specs.declared.Regs.{Regs}
use Rattle.model.specs.declared.Sums.{Sums}

-- the registers that the steps work on are words
pub record RegsWords (r : Regs) : Type 0 where
  pub place : r.place < 4294967296
  pub frame : r.frame < 4294967296
  pub handler : r.handler < 4294967296
  pub mtop : r.mtop < 4294967296
  pub ptop : r.ptop < 4294967296
  pub ctop : r.ctop < 4294967296
  pub state : r.state < 4294967296

-- register i is stored behind those before it, and the bytes behind it stay
pub record Stored (b : List ℕ) (i w : ℕ) (b' : List ℕ) : Type 0 where
  pub long : length b' ≡ length b
  pub front : take (4 * i + 4) b' ≡ take (4 * i) b ++ bytes_of w
  pub behind : (p : ℕ) → 4 * i + 4 ≤ p → word_at b' p ≡ word_at b p

-- four bytes stored one behind another are a register stored
pub stored : (b : List ℕ) (i w at : ℕ) → 4 * i + 4 ≤ length b → at ≡ 4 * i →
    Stored b i w
    (set (set (set (set b at (w / 16777216 % 256)) (at + 1) (w / 65536 % 256)) (at + 2) (w / 256 % 256)) (at + 3) (w % 256))
stored b i w at h e =
    rw (add-one at, two, three, e)
    (record {
      long = length-sets b (4 * i) (bytes_of w);
      front = front;
      behind = λ p g. behind (bytes_of w) b (4 * i) p g;
    })
  where
    two : at + 2 ≡ suc (suc at)
    two = omega arith

    three : at + 3 ≡ suc (suc (suc at))
    three = omega arith

    behind : (vs l : List ℕ) (a p : ℕ) → a + length vs ≤ p → word_at (sets l a vs) p ≡ word_at l p
    behind [] l a p h = refl
    behind (v ∷ vs) l a p h = behind vs (set l a v) (suc a) p (omega arith) ∙ get_or-set_other l a p v 0 (λ u. absurd (omega arith))

    front : take (4 * i + 4) (sets b (4 * i) (bytes_of w)) ≡ take (4 * i) b ++ bytes_of w
    front =
        ap (take (4 * i + 4)) (sets-eq (bytes_of w) b (4 * i) h)
        ∙ take_at (take (4 * i) b ++ bytes_of w) (drop (4 * i + 4) b) (4 * i + 4)
        (length-append (take (4 * i) b) (bytes_of w) ∙ ap (λ (n : ℕ). n + 4) (length-take-le (4 * i) b (omega arith)))

pub registers-length : (s : Sums) (r : Regs) → length (reg_bytes s r) ≡ register_bytes
unfolding reg_bytes
registers-length s r = refl

-- all nine
pub registers-stored : {b₀ b₁ b₂ b₃ b₄ b₅ b₆ b₇ b₈ b₉ : List ℕ} (s : Sums) (r : Regs) → length b₀ ≡ register_bytes →
    Stored b₀ 0 r.place b₁ → Stored b₁ 1 r.frame b₂ → Stored b₂ 2 r.handler b₃ → Stored b₃ 3 r.mtop b₄ →
    Stored b₄ 4 r.ptop b₅ → Stored b₅ 5 r.ctop b₆ → Stored b₆ 6 r.state b₇ → Stored b₇ 7 s.first b₈ →
    Stored b₈ 8 s.second b₉ → b₉ ≡ reg_bytes s r
unfolding reg_bytes
registers-stored {b₉ = b₉} s r h s₀ s₁ s₂ s₃ s₄ s₅ s₆ s₇ s₈ =
    let e₂ = s₁.front ∙ on r.frame s₀.front in
    let e₃ = s₂.front ∙ on r.handler e₂ in
    let e₄ = s₃.front ∙ on r.mtop e₃ in
    let e₅ = s₄.front ∙ on r.ptop e₄ in
    let e₆ = s₅.front ∙ on r.ctop e₅ in
    let e₇ = s₆.front ∙ on r.state e₆ in
    let e₈ = s₇.front ∙ on s.first e₇ in
    sym (take_all register_bytes b₉ (omega arith)) ∙ s₈.front ∙ on s.second e₈
  where
    on : (w : ℕ) {x y : List ℕ} → x ≡ y → x ++ bytes_of w ≡ y ++ bytes_of w
    on w e = ap (λ (l : List ℕ). l ++ bytes_of w) e

-- the bytes of a list, as far as the code keeps them
abbrev pub ByteList : List ℕ → Type 0
ByteList b = (p : ℕ) → word_at b p < 256

four-small : (x y z t : ℕ) → x < 256 → y < 256 → z < 256 → t < 256 → (p : ℕ) → get_or (x ∷ y ∷ z ∷ t ∷ []) p 0 < 256
four-small x y z t hx hy hz ht zero = hx
four-small x y z t hx hy hz ht (suc zero) = hy
four-small x y z t hx hy hz ht (suc (suc zero)) = hz
four-small x y z t hx hy hz ht (suc (suc (suc zero))) = ht
four-small x y z t hx hy hz ht (suc (suc (suc (suc p)))) = lit< tt

-- bytes stored that are there already
same-stored : (b : List ℕ) (at x y z t : ℕ) → x ≡ word_at b at → y ≡ word_at b (at + 1) → z ≡ word_at b (at + 2) → t ≡ word_at b (at + 3) →
    set (set (set (set b at x) (at + 1) y) (at + 2) z) (at + 3) t ≡ b
same-stored b at x y z t ex ey ez et =
    rw (ex, set-get_or b at 0, ey, set-get_or b (at + 1) 0, ez, set-get_or b (at + 2) 0, et, set-get_or b (at + 3) 0)

-- a register that has stayed since b₀ is as if it were stored anew
pub stays : (b₀ b : List ℕ) (i : ℕ) → ByteList b₀ → 4 * i + 4 ≤ length b → ((p : ℕ) → 4 * i ≤ p → word_at b p ≡ word_at b₀ p) →
    Stored b i (word_from b₀ i) b
unfolding word_from
stays b₀ b i B h k =
    let at = 4 * i in
    let w0 = k at (omega arith) in
    let w1 = k (at + 1) (omega arith) in
    let w2 = k (at + 2) (omega arith) in
    let w3 = k (at + 3) (omega arith) in
    let word = word_at b₀ at ∷ word_at b₀ (at + 1) ∷ word_at b₀ (at + 2) ∷ word_at b₀ (at + 3) ∷ [] in
    let same : bytes_of (word_from b₀ i) ≡ word = be_bytes_4 word (word_from b₀ i) refl (four-small _ _ _ _ (B at) (B (at + 1)) (B (at + 2)) (B (at + 3))) (omega arith) in
    let read : take (at + 4) b ≡ take at b ++ word = grind (arith, common_steps) in
    record { long = refl; front = rw same read; behind = λ p g. refl }

-- the seven that the steps work on are stored, and the sums stay; the sums are stored, and those seven stay
module _ (b₀ : List ℕ) (B : ByteList b₀) (long : length b₀ ≡ register_bytes) where
  pub regs-put : {b₁ b₂ b₃ b₄ b₅ b₆ b₇ : List ℕ} (r : Regs) → Stored b₀ 0 r.place b₁ → Stored b₁ 1 r.frame b₂ →
      Stored b₂ 2 r.handler b₃ → Stored b₃ 3 r.mtop b₄ → Stored b₄ 4 r.ptop b₅ → Stored b₅ 5 r.ctop b₆ →
      Stored b₆ 6 r.state b₇ → b₇ ≡ reg_bytes (sums_from b₀) r
  unfolding sums_from
  regs-put {b₇ = b₇} r s₀ s₁ s₂ s₃ s₄ s₅ s₆ =
      registers-stored (sums_from b₀) r long s₀ s₁ s₂ s₃ s₄ s₅ s₆ (stays b₀ b₇ 7 B (omega arith) kept)
      (stays b₀ b₇ 8 B (omega arith) (λ p h. kept p (omega arith)))
    where
      kept : (p : ℕ) → 28 ≤ p → word_at b₇ p ≡ word_at b₀ p
      kept p h =
          s₆.behind p (omega arith) ∙ s₅.behind p (omega arith) ∙ s₄.behind p (omega arith) ∙ s₃.behind p (omega arith)
          ∙ s₂.behind p (omega arith) ∙ s₁.behind p (omega arith) ∙ s₀.behind p (omega arith)

  pub sums-put : {b₁ b₂ : List ℕ} (s : Sums) → Stored b₀ 7 s.first b₁ → Stored b₁ 8 s.second b₂ → b₂ ≡ reg_bytes s (regs_from b₀)
  unfolding regs_from
  sums-put s s₇ s₈ =
      registers-stored s (regs_from b₀) long (here 0 (omega arith)) (here 1 (omega arith)) (here 2 (omega arith))
      (here 3 (omega arith)) (here 4 (omega arith)) (here 5 (omega arith)) (here 6 (omega arith)) s₇ s₈
    where
      here : (i : ℕ) → i < 7 → Stored b₀ i (word_from b₀ i) b₀
      here i h = stays b₀ b₀ i B (omega arith) (λ p g. refl)
