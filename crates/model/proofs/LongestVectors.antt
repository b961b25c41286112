-- Manual 4.28: vectors that do not fit, of any length, by the definition alone. Assumes nothing.
use Rattle.std.specs.Prelude.{ℕ, suc, ◌+◌, ◌<◌, [], ◌∷◌, ◌≡◌, pos, length}
use Rattle.std.proofs.Math.Path.{refl}
use Rattle.std.proofs.Common.{arith}
use Rattle.std.proofs.lemmas.List.{length-replicate}
use Rattle.std.proofs.lemmas.Bool.{lt-leb}
use Rattle.model.specs.Words.{signed}
use Rattle.model.specs.Heap.{mark_of}
use Rattle.model.specs.Control.{Machine}
use Rattle.model.specs.Moves.{main_word, ptr_word}
use Rattle.model.specs.Instructions.{throws, new_of, makes, basic_rule}
use Rattle.model.specs.VectorSamples.{machine, greatest, room, i80, i81}

-- Manual 4.28: any length that is not negative raises 4 where the vector does not fit; its words are not written out, so that 2^31 - 1 is one
words-full : (m : Machine) (n : ℕ) → signed (main_word m 2) ≡ pos n → length m.heap < mark_of m.heap + (3 + n) → basic_rule m i80 ≡ throws 4
unfolding basic_rule makes new_of
words-full m n e l =
    rw e (rw (length-replicate n (main_word m 1)) (rw (lt-leb (mark_of m.heap + (2 + (0 + suc n))) (length m.heap) (omega (arith, l))) refl))

pointers-full : (m : Machine) (n : ℕ) → signed (main_word m 1) ≡ pos n → length m.heap < mark_of m.heap + (3 + n) → basic_rule m i81 ≡ throws 4
unfolding basic_rule makes new_of
pointers-full m n e l =
    rw e (rw (length-replicate n (ptr_word m 1)) (rw (lt-leb (mark_of m.heap + (2 + (n + 1))) (length m.heap) (omega (arith, l))) refl))

longest-words : basic_rule (machine 5 2 (11 ∷ 30 ∷ greatest ∷ 76 ∷ []) (4 ∷ []) (room 9)) i80 ≡ throws 4
unfolding signed
longest-words = words-full (machine 5 2 (11 ∷ 30 ∷ greatest ∷ 76 ∷ []) (4 ∷ []) (room 9)) greatest refl (omega arith)

longest-pointers : basic_rule (machine 4 3 (11 ∷ 30 ∷ greatest ∷ []) (4 ∷ 2 ∷ []) (room 9)) i81 ≡ throws 4
unfolding signed
longest-pointers = pointers-full (machine 4 3 (11 ∷ 30 ∷ greatest ∷ []) (4 ∷ 2 ∷ []) (room 9)) greatest refl (omega arith)
