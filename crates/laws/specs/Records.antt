-- Control records in a list of words, read from the top: what a cut and a stored record leave of them.
use Rattle.std.specs.Prelude.{ℕ, zero, suc, ◌+◌, ◌<◌, ◌≤◌, ◌*◌, ◌-◌, List, [], ◌∷◌, ◌⊎◌, ◌≡◌, refl, length}
use Rattle.std.proofs.Common.{inl, inr, ap, ◌∙◌, arith}
use Rattle.std.proofs.Math.Seq.{length-sets}
use Rattle.model.specs.Words.{word_at, cut}
use Rattle.laws.specs.Stores.{sets-other, sets-at}
use Rattle.model.specs.Control.{Rec, record_words, rec_at, down, put_rec}
use Rattle.laws.specs.Cuts.{cut_word, Zero}

-- records: the same words, the same records
pub rec-same : {r s : Rec} → r.w0 ≡ s.w0 → r.w1 ≡ s.w1 → r.w2 ≡ s.w2 → r.w3 ≡ s.w3 → r.w4 ≡ s.w4 → r ≡ s
rec-same a b c d e i = record { w0 = a i; w1 = b i; w2 = c i; w3 = d i; w4 = e i }

pub down-alike : (l l' : List ℕ) (n : ℕ) → ((i : ℕ) → i < record_words * n → word_at l i ≡ word_at l' i) → down l n ≡ down l' n
unfolding rec_at
down-alike l l' zero h = refl
down-alike l l' (suc k) h =
    let at = record_words * k in
    let r : rec_at l k ≡ rec_at l' k =
    rec-same (h (at + 0) (omega arith)) (h (at + 1) (omega arith)) (h (at + 2) (omega arith)) (h (at + 3) (omega arith))
    (h (at + 4) (omega arith)) in
    let rs = down-alike l l' k (λ i w. h i (omega arith)) in
    λ i. r i ∷ rs i

pub down-cut : (l : List ℕ) (n t : ℕ) → record_words * n ≤ t → down (cut t l) n ≡ down l n
down-cut l n t h = down-alike (cut t l) l n (λ i w. cut_word t l i (omega arith))

pub down-length : (l : List ℕ) (n : ℕ) → length (down l n) ≡ n
down-length l zero = refl
down-length l (suc k) = ap suc (down-length l k)

-- a record put on top of k others
abbrev words_of : Rec → List ℕ
words_of r = r.w0 ∷ r.w1 ∷ r.w2 ∷ r.w3 ∷ r.w4 ∷ []

pub length-put : (l : List ℕ) (k : ℕ) (r : Rec) → length (put_rec l k r) ≡ length l
unfolding put_rec
length-put l k r = length-sets l (record_words * k) (words_of r)

put_other : (l : List ℕ) (k : ℕ) (r : Rec) (i : ℕ) → (i < record_words * k) ⊎ (record_words * k + record_words ≤ i) →
    word_at (put_rec l k r) i ≡ word_at l i
unfolding put_rec
put_other l k r i h = sets-other (words_of r) l (record_words * k) i h

pub put-zero : (l : List ℕ) (k t : ℕ) (r : Rec) → t ≡ record_words * k → Zero t l → Zero (t + record_words) (put_rec l k r)
put-zero l k t r e z i h = put_other l k r i (inr (omega arith)) ∙ z i (omega arith)

rec-put : (l : List ℕ) (k : ℕ) (r : Rec) → record_words * k + record_words ≤ length l → rec_at (put_rec l k r) k ≡ r
unfolding rec_at put_rec
rec-put l k r h =
    let vs = words_of r in
    let at = record_words * k in
    rec-same (sets-at vs l at 0 h (omega arith)) (sets-at vs l at 1 h (omega arith)) (sets-at vs l at 2 h (omega arith))
    (sets-at vs l at 3 h (omega arith))
    (sets-at vs l at 4 h (omega arith))

pub down-put : (l : List ℕ) (k n : ℕ) (r : Rec) → k ≡ n → record_words * n + record_words ≤ length l →
    down (put_rec l k r) (suc n) ≡ r ∷ down l n
down-put l k n r e h =
    let a : rec_at (put_rec l k r) n ≡ r = rw e (rec-put l n r h) in
    let b : down (put_rec l k r) n ≡ down l n = down-alike (put_rec l k r) l n (λ i w. put_other l k r i (inl (omega arith))) in
    λ i. a i ∷ b i
