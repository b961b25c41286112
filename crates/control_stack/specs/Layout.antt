-- A control record's words by name: the structs of the code as the model's records, and what five words read, written and zeroed are of the
-- control stack.
use Rattle.std.specs.Prelude.{ℕ, zero, suc, ◌+◌, ◌*◌, ◌/◌, ◌<◌, ◌≤◌, List, [], ◌∷◌, ◌≡◌, refl, length, set, replicate, take, drop}
use Rattle.std.proofs.Math.Path.{ap}
use Rattle.std.proofs.Common.{sym, ◌∙◌, arith, get_or-set_other}
use Rattle.std.proofs.lemmas.Grind.{common_steps}
use borrow.Rule.Slice.PartMut.{put_mid}
use Rattle.std.proofs.lemmas.List.Edits.{sets, sets-eq}
use Rattle.model.specs.Words.{word_at, cut}
use Rattle.laws.specs.Cuts.{cut-same}
use Rattle.model.specs.Control.{Rec, Frame, Handler, as_frame, frame_rec, handler_rec, rec_at, put_rec, record_words}
use Rattle.control_stack.specs.declared.Frame.{Frame as FrameRead}
use Rattle.control_stack.specs.declared.Handler.{Handler as HandlerRead}

-- the structs of the code as the model's records
abbrev pub the_frame : FrameRead → Frame
the_frame w =
    record {
      main_base = w.main_base;
      ptr_base = w.ptr_base;
      proc = w.proc;
      returns = w.returns;
      caller = w.caller;
    }

abbrev pub the_handler : HandlerRead → Handler
the_handler w =
    record {
      opened = w.opened;
      main_top = w.main_top;
      ptr_top = w.ptr_top;
      frame = w.frame;
      outer = w.outer;
    }

-- the fields are words
pub record FrameWords (w : FrameRead) : Type 0 where
  pub main_base : w.main_base < 4294967296
  pub ptr_base : w.ptr_base < 4294967296
  pub proc : w.proc < 4294967296
  pub returns : w.returns < 4294967296
  pub caller : w.caller < 4294967296

pub record HandlerWords (w : HandlerRead) : Type 0 where
  pub opened : w.opened < 4294967296
  pub main_top : w.main_top < 4294967296
  pub ptr_top : w.ptr_top < 4294967296
  pub frame : w.frame < 4294967296
  pub outer : w.outer < 4294967296

-- five words as a record
abbrev pub rec_of : List ℕ → Rec
rec_of l = record { w0 = word_at l 0; w1 = word_at l 1; w2 = word_at l 2; w3 = word_at l 3; w4 = word_at l 4 }

-- a record's words by a frame's names
pub record IsFrame (r : Rec) (w : FrameRead) : Type 0 where
  pub is : the_frame w ≡ as_frame r
  pub words : FrameWords w

-- the frame on top of k records, as it is read
abbrev pub FrameIs : List ℕ → ℕ → FrameRead → Type 0
FrameIs l k w = IsFrame (rec_at l k) w

-- record number n, counted from 1, lies in the control stack
pub record Numbered (l : List ℕ) (n : ℕ) : Type 0 where
  pub some : 1 ≤ n
  pub inside : record_words * n ≤ length l

-- a record finds room on the records under the top t
pub record Onto (l : List ℕ) (t : ℕ) : Type 0 where
  pub whole : t ≡ record_words * (t / record_words)
  pub room : t + record_words ≤ length l

-- the words from t on are the record that starts there
pub words-read : (l y : List ℕ) (t n : ℕ) → y ≡ take n (drop t l) → n ≡ record_words → (k : ℕ) → t ≡ record_words * k →
    rec_of y ≡ rec_at l k
unfolding rec_at
words-read l y t n e five k at =
    rw (e, five, at) (grind (arith, common_steps))

-- the words of a record written from the top on are the record on top of the others
pub words-put : (l ws : List ℕ) (t i : ℕ) → length ws ≡ record_words → record_words ≤ i → t ≡ record_words * (t / record_words) →
    sets l t (take i ws) ≡ put_rec l (t / record_words) (rec_of ws)
unfolding put_rec
words-put l ws t i long all whole =
    let r = rec_of ws in
    let five : take i ws ≡ r.w0 ∷ r.w1 ∷ r.w2 ∷ r.w3 ∷ r.w4 ∷ [] = grind (arith, common_steps) in
    rw five (ap (λ (u : ℕ). sets l u (r.w0 ∷ r.w1 ∷ r.w2 ∷ r.w3 ∷ r.w4 ∷ [])) whole)

-- five stores, one behind another
stored : (l : List ℕ) (t a b c d e : ℕ) →
    set (set (set (set (set l (t + 0) a) (t + 1) b) (t + 2) c) (t + 3) d) (t + 4) e ≡ sets l t (a ∷ b ∷ c ∷ d ∷ e ∷ [])
stored l t a b c d e =
    let e0 : t + 0 ≡ t = omega arith in
    let e1 : t + 1 ≡ suc t = omega arith in
    let e2 : t + 2 ≡ suc (suc t) = omega arith in
    let e3 : t + 3 ≡ suc (suc (suc t)) = omega arith in
    let e4 : t + 4 ≡ suc (suc (suc (suc t))) = omega arith in
    rw (e0, e1, e2, e3, e4)

-- a record's words, stored from the top on, are the record on top of the others
module _ (l : List ℕ) (t : ℕ) (whole : t ≡ record_words * (t / record_words)) where
  pub frame-put : (w : Frame) →
      set (set (set (set (set l (t + 0) w.main_base) (t + 1) w.ptr_base) (t + 2) w.proc) (t + 3) w.returns) (t + 4) w.caller
      ≡ put_rec l (t / record_words) (frame_rec w)
  unfolding put_rec
  frame-put w =
      stored l t w.main_base w.ptr_base w.proc w.returns w.caller
      ∙ ap (λ (u : ℕ). sets l u (w.main_base ∷ w.ptr_base ∷ w.proc ∷ w.returns ∷ w.caller ∷ [])) whole

  pub handler-put : (w : Handler) →
      set (set (set (set (set l (t + 0) w.opened) (t + 1) w.main_top) (t + 2) w.ptr_top) (t + 3) w.frame) (t + 4) w.outer
      ≡ put_rec l (t / record_words) (handler_rec w)
  unfolding put_rec
  handler-put w =
      stored l t w.opened w.main_top w.ptr_top w.frame w.outer
      ∙ ap (λ (u : ℕ). sets l u (w.opened ∷ w.main_top ∷ w.ptr_top ∷ w.frame ∷ w.outer ∷ [])) whole

-- the word at the new top zeroed before the cut
cut-set : (i : ℕ) (l : List ℕ) → cut (suc i) (set l i 0) ≡ cut i l
unfolding cut
cut-set i [] = refl
cut-set zero (w ∷ l) = refl
cut-set (suc i) (w ∷ l) = ap (λ (k : List ℕ). w ∷ k) (cut-set i l)

-- n words are zeroed, up to the top
cut-zeros : (n i : ℕ) (l : List ℕ) → ((k : ℕ) → i + n ≤ k → word_at l k ≡ 0) → sets l i (replicate n 0) ≡ cut i l
cut-zeros zero i l z = sym (cut-same i l (λ k h. z k (omega arith)))
cut-zeros (suc n) i l z =
    cut-zeros n (suc i) (set l i 0) (λ k h. get_or-set_other l i k 0 0 (λ e. absurd (omega arith)) ∙ z k (omega arith)) ∙ cut-set i l

-- n words written behind t others
mid-sets : (t n : ℕ) (l vs : List ℕ) → length vs ≡ n → t + n ≤ length l → put_mid t n l vs ≡ sets l t vs
mid-sets t n l vs h room = grind (arith, common_steps, sets-eq)

-- a record's words zeroed, one behind another
pub cleared : (l : List ℕ) (t : ℕ) → ((i : ℕ) → t + record_words ≤ i → word_at l i ≡ 0) →
    set (set (set (set (set l t 0) (t + 1) 0) (t + 2) 0) (t + 3) 0) (t + 4) 0 ≡ cut t l
cleared l t z = let e0 : t + 0 ≡ t = omega arith in rw e0 at (stored l t 0 0 0 0 0) ∙ cut-zeros 5 t l z

-- the same, all at once
pub cleared-at-once : (l : List ℕ) (t n : ℕ) → n ≡ record_words → t + record_words ≤ length l → ((i : ℕ) → t + record_words ≤ i → word_at l i ≡ 0) →
    put_mid t n l (replicate (length (take n (drop t l))) 0) ≡ cut t l
cleared-at-once l t n five room z =
    let long : length (take n (drop t l)) ≡ n = grind (arith, common_steps) in
    rw long (mid-sets t n l (replicate n 0) (grind (arith, common_steps)) (omega arith) ∙ cut-zeros n t l (λ k h. z k (omega arith)))
