-- Manual 2.7, 4.9, 4.10, 4.28 to 4.30: single instructions on vectors, in one table: the rules compute to what was worked out by hand from
-- order 2. Vectors that do not fit, of any length, stand in proofs/LongestVectors.antt. Assumes nothing.
use Rattle.std.specs.Prelude.{ℕ, ◌+◌, ◌-◌, List, [], ◌∷◌, ◌++◌, map, ◌≡◌, length, replicate}
use Rattle.std.proofs.Math.Path.{refl}
use Rattle.model.specs.Words.{signed, cut}
use Rattle.model.specs.File.{on_main, on_ptr, vector, maker_pops, Basic, make, field, set_field, element, set_element}
use Rattle.model.specs.Heap.{kind_at, ptrs_at, size_at, in_ptrs, in_plain, kinds, kind_of, may_set_plain, may_set_ptr, made}
use Rattle.model.specs.Vectors.{bound_at, elements_at, element_of}
use Rattle.model.specs.Control.{Machine}
use Rattle.model.specs.Instructions.{Result, done, throws, new_of, makes, basic_rule}

-- the words of a stack, the rest of its n words being free
abbrev stack : ℕ → List ℕ → List ℕ
stack n ws = ws ++ replicate (n - length ws) 0

-- a machine with these words on stacks of n and k words, and with this heap; all else is 0 or empty
abbrev pub machine : ℕ → ℕ → List ℕ → List ℕ → List ℕ → Machine
machine n k ms ps h =
    record {
      regs = record { place = 0; frame = 0; handler = 0; mtop = length ms; ptop = length ps; ctop = 0; state = 0 };
      main = stack n ms;
      ptr = stack k ps;
      ctl = [];
      heap = h;
    }

-- a row: a machine, an instruction, and what it comes to
pub record VectorRow : Type 0 where
  pub before : Machine
  pub ins : Basic
  pub gives : Result

-- before it the stacks have one free word each
abbrev row : Basic → List ℕ → List ℕ → List ℕ → Result → VectorRow
row b h ms ps r = record { before = machine (length ms + 1) (length ps + 1) ms ps h; ins = b; gives = r }

-- the heap and the words of both stacks, and what becomes of them; the same with the heap unchanged; the exception's code
abbrev leaves : Basic → List ℕ → List ℕ → List ℕ → List ℕ → List ℕ → List ℕ → VectorRow
leaves b h ms ps h' ms' ps' = row b h ms ps (done (machine (length ms + 1) (length ps + 1) ms' ps' h'))

abbrev reads : Basic → List ℕ → List ℕ → List ℕ → List ℕ → List ℕ → VectorRow
reads b h ms ps ms' ps' = leaves b h ms ps h ms' ps'

abbrev raises : Basic → List ℕ → List ℕ → List ℕ → ℕ → VectorRow
raises b h ms ps code = row b h ms ps (throws code)

-- the word of -n; 2^31 - 1, and the word of -2^31
abbrev minus : ℕ → ℕ
minus n = 4294967296 - n

abbrev pub greatest : ℕ
greatest = 2147483647

abbrev least : ℕ
least = 2147483648

-- the header of a view with n pointer words, of a vector of words, of a vector of n pointers
abbrev view_of : ℕ → ℕ
view_of n = 16777216 + n

abbrev of_words : ℕ
of_words = 33554432

abbrev of_pointers : ℕ → ℕ
of_pointers n = 50331648 + n

-- two empty views at 2 and 4, and what lies from 6 on; there a mark of 6 and n free words
abbrev behind : ℕ → List ℕ → List ℕ
behind mark ws = mark ∷ 0 ∷ view_of 0 ∷ 2 ∷ view_of 0 ∷ 2 ∷ ws

abbrev pub room : ℕ → List ℕ
room n = behind 6 (replicate n 0)

-- at 2 the words x, y, z from index b on, at 8 the pointers p, q from index c on, at 13 a view of a pointer and a word
abbrev objects : ℕ → ℕ → ℕ → ℕ → ℕ → ℕ → ℕ → List ℕ
objects b x y z c p q =
    17 ∷ 0 ∷ of_words ∷ 6 ∷ b ∷ x ∷ y ∷ z ∷ of_pointers 2 ∷ 5 ∷ p ∷ q ∷ c ∷ view_of 1 ∷ 4 ∷ 8 ∷ 77 ∷ []

-- the words 71, 72, 73 from 20 on, the pointers 2, 13 from 40 on; the same elements from other indices on
abbrev three : List ℕ
three = objects 20 71 72 73 40 2 13

abbrev from : ℕ → ℕ → List ℕ
from b c = objects b 71 72 73 c 2 13

-- a vector without elements at 6, its bound 30
abbrev no_words : List ℕ
no_words = behind 9 (of_words ∷ 3 ∷ 30 ∷ [])

abbrev no_pointers : List ℕ
no_pointers = behind 9 (of_pointers 0 ∷ 3 ∷ 30 ∷ [])

-- the instructions, by their codes
abbrev pub i80 : Basic
i80 = make (vector on_main)

abbrev pub i81 : Basic
i81 = make (vector on_ptr)

abbrev i82 : Basic
i82 = element on_main

abbrev i83 : Basic
i83 = element on_ptr

abbrev i84 : Basic
i84 = set_element on_main

abbrev i85 : Basic
i85 = set_element on_ptr

pub vector_rows : List VectorRow
vector_rows =
    -- 80: the value 3 above the length 2 above the bound 1; negative bound and value. 81: the value 2, the length 3 above the bound 1; nil
    leaves i80 (room 7) (11 ∷ 1 ∷ 2 ∷ 3 ∷ []) (4 ∷ []) (behind 11 (of_words ∷ 5 ∷ 1 ∷ 3 ∷ 3 ∷ 0 ∷ 0 ∷ [])) (11 ∷ []) (4 ∷ 6 ∷ [])
    ∷ leaves i80 (room 5) (minus 30 ∷ 1 ∷ minus 7 ∷ []) [] (behind 10 (of_words ∷ 4 ∷ minus 30 ∷ minus 7 ∷ 0 ∷ [])) [] (6 ∷ [])
    ∷ leaves i81 (room 7) (11 ∷ 1 ∷ 3 ∷ []) (4 ∷ 2 ∷ []) (behind 12 (of_pointers 3 ∷ 6 ∷ 2 ∷ 2 ∷ 2 ∷ 1 ∷ 0 ∷ [])) (11 ∷ []) (4 ∷ 6 ∷ [])
    ∷ leaves i81 (room 6) (11 ∷ 30 ∷ 2 ∷ []) (4 ∷ 0 ∷ []) (behind 11 (of_pointers 2 ∷ 5 ∷ 0 ∷ 0 ∷ 30 ∷ 0 ∷ [])) (11 ∷ []) (4 ∷ 6 ∷ [])
    -- an exact fit, and one word short of it
    ∷ leaves i80 (room 6) (11 ∷ 30 ∷ 3 ∷ 76 ∷ []) (4 ∷ []) (behind 12 (of_words ∷ 6 ∷ 30 ∷ 76 ∷ 76 ∷ 76 ∷ [])) (11 ∷ []) (4 ∷ 6 ∷ [])
    ∷ raises i80 (room 5) (11 ∷ 30 ∷ 3 ∷ 76 ∷ []) (4 ∷ []) 4
    ∷ leaves i81 (room 5) (11 ∷ 30 ∷ 2 ∷ []) (4 ∷ 2 ∷ []) (behind 11 (of_pointers 2 ∷ 5 ∷ 2 ∷ 2 ∷ 30 ∷ [])) (11 ∷ []) (4 ∷ 6 ∷ [])
    ∷ raises i81 (room 4) (11 ∷ 30 ∷ 2 ∷ []) (4 ∷ 2 ∷ []) 4
    -- length 0, which fits exactly, and one word short of it
    ∷ leaves i80 (room 3) (11 ∷ 30 ∷ 0 ∷ 76 ∷ []) (4 ∷ []) no_words (11 ∷ []) (4 ∷ 6 ∷ [])
    ∷ raises i80 (room 2) (11 ∷ 30 ∷ 0 ∷ 76 ∷ []) (4 ∷ []) 4
    ∷ leaves i81 (room 3) (11 ∷ 30 ∷ 0 ∷ []) (4 ∷ 2 ∷ []) no_pointers (11 ∷ []) (4 ∷ 6 ∷ [])
    ∷ raises i81 (room 2) (11 ∷ 30 ∷ 0 ∷ []) (4 ∷ 2 ∷ []) 4
    -- bound + length past 2^31
    ∷ leaves i80 (room 6) (greatest ∷ 3 ∷ 76 ∷ []) (4 ∷ []) (behind 12 (of_words ∷ 6 ∷ greatest ∷ 76 ∷ 76 ∷ 76 ∷ [])) [] (4 ∷ 6 ∷ [])
    ∷ leaves i81 (room 5) (greatest ∷ 2 ∷ []) (4 ∷ 2 ∷ []) (behind 11 (of_pointers 2 ∷ 5 ∷ 2 ∷ 2 ∷ greatest ∷ [])) [] (4 ∷ 6 ∷ [])
    -- a negative length, also in a heap without room: 6 comes before 4
    ∷ raises i80 (room 9) (11 ∷ 30 ∷ minus 1 ∷ 76 ∷ []) (4 ∷ []) 6
    ∷ raises i80 (room 0) (11 ∷ 30 ∷ minus 1 ∷ 76 ∷ []) (4 ∷ []) 6
    ∷ raises i80 (room 9) (11 ∷ 30 ∷ least ∷ 76 ∷ []) (4 ∷ []) 6
    ∷ raises i81 (room 9) (11 ∷ 30 ∷ minus 1 ∷ []) (4 ∷ 2 ∷ []) 6
    ∷ raises i81 (room 0) (11 ∷ 30 ∷ minus 1 ∷ []) (4 ∷ 2 ∷ []) 6
    ∷ raises i81 (room 9) (11 ∷ 30 ∷ least ∷ []) (4 ∷ 0 ∷ []) 6
    -- 82: the index is the bound; the next; the last; one below, one past, and counted from 0
    ∷ reads i82 three (11 ∷ 20 ∷ []) (13 ∷ 2 ∷ []) (11 ∷ 71 ∷ []) (13 ∷ [])
    ∷ reads i82 three (11 ∷ 21 ∷ []) (13 ∷ 2 ∷ []) (11 ∷ 72 ∷ []) (13 ∷ [])
    ∷ reads i82 three (11 ∷ 22 ∷ []) (13 ∷ 2 ∷ []) (11 ∷ 73 ∷ []) (13 ∷ [])
    ∷ raises i82 three (11 ∷ 19 ∷ []) (13 ∷ 2 ∷ []) 6
    ∷ raises i82 three (11 ∷ 23 ∷ []) (13 ∷ 2 ∷ []) 6
    ∷ raises i82 three (11 ∷ 0 ∷ []) (13 ∷ 2 ∷ []) 6
    -- 83
    ∷ reads i83 three (11 ∷ 40 ∷ []) (13 ∷ 8 ∷ []) (11 ∷ []) (13 ∷ 2 ∷ [])
    ∷ reads i83 three (11 ∷ 41 ∷ []) (13 ∷ 8 ∷ []) (11 ∷ []) (13 ∷ 13 ∷ [])
    ∷ raises i83 three (11 ∷ 39 ∷ []) (13 ∷ 8 ∷ []) 6
    ∷ raises i83 three (11 ∷ 42 ∷ []) (13 ∷ 8 ∷ []) 6
    ∷ raises i83 three (11 ∷ 0 ∷ []) (13 ∷ 8 ∷ []) 6
    -- 84: the index above the value, also where both are indices
    ∷ leaves i84 three (11 ∷ 99 ∷ 20 ∷ []) (13 ∷ 2 ∷ []) (objects 20 99 72 73 40 2 13) (11 ∷ []) (13 ∷ [])
    ∷ leaves i84 three (11 ∷ 99 ∷ 21 ∷ []) (13 ∷ 2 ∷ []) (objects 20 71 99 73 40 2 13) (11 ∷ []) (13 ∷ [])
    ∷ leaves i84 three (11 ∷ 20 ∷ 22 ∷ []) (13 ∷ 2 ∷ []) (objects 20 71 72 20 40 2 13) (11 ∷ []) (13 ∷ [])
    ∷ raises i84 three (11 ∷ 99 ∷ 19 ∷ []) (13 ∷ 2 ∷ []) 6
    ∷ raises i84 three (11 ∷ 99 ∷ 23 ∷ []) (13 ∷ 2 ∷ []) 6
    ∷ raises i84 three (11 ∷ 20 ∷ 0 ∷ []) (13 ∷ 2 ∷ []) 6
    -- 85: the vector above the value, which may be nil
    ∷ leaves i85 three (11 ∷ 40 ∷ []) (4 ∷ 13 ∷ 8 ∷ []) (objects 20 71 72 73 40 13 13) (11 ∷ []) (4 ∷ [])
    ∷ leaves i85 three (11 ∷ 41 ∷ []) (4 ∷ 2 ∷ 8 ∷ []) (objects 20 71 72 73 40 2 2) (11 ∷ []) (4 ∷ [])
    ∷ leaves i85 three (11 ∷ 41 ∷ []) (4 ∷ 0 ∷ 8 ∷ []) (objects 20 71 72 73 40 2 0) (11 ∷ []) (4 ∷ [])
    ∷ raises i85 three (11 ∷ 39 ∷ []) (4 ∷ 2 ∷ 8 ∷ []) 6
    ∷ raises i85 three (11 ∷ 42 ∷ []) (4 ∷ 2 ∷ 8 ∷ []) 6
    ∷ raises i85 three (11 ∷ 0 ∷ []) (4 ∷ 0 ∷ 8 ∷ []) 6
    -- bound 2^31 - 1: the first element alone has an index; those behind do not wrap to -2^31
    ∷ reads i82 (from greatest 40) (11 ∷ greatest ∷ []) (13 ∷ 2 ∷ []) (11 ∷ 71 ∷ []) (13 ∷ [])
    ∷ raises i82 (from greatest 40) (11 ∷ least ∷ []) (13 ∷ 2 ∷ []) 6
    ∷ raises i82 (from greatest 40) (11 ∷ (least + 1) ∷ []) (13 ∷ 2 ∷ []) 6
    ∷ raises i82 (from greatest 40) (11 ∷ (greatest - 1) ∷ []) (13 ∷ 2 ∷ []) 6
    ∷ reads i83 (from 20 greatest) (11 ∷ greatest ∷ []) (13 ∷ 8 ∷ []) (11 ∷ []) (13 ∷ 2 ∷ [])
    ∷ raises i83 (from 20 greatest) (11 ∷ least ∷ []) (13 ∷ 8 ∷ []) 6
    ∷ raises i84 (from greatest 40) (11 ∷ 99 ∷ least ∷ []) (13 ∷ 2 ∷ []) 6
    ∷ raises i85 (from 20 greatest) (11 ∷ least ∷ []) (4 ∷ 2 ∷ 8 ∷ []) 6
    -- bound -2^31: the first, the last, one past, and 2^31 - 1, which is not one below
    ∷ reads i82 (from least 40) (11 ∷ least ∷ []) (13 ∷ 2 ∷ []) (11 ∷ 71 ∷ []) (13 ∷ [])
    ∷ reads i82 (from least 40) (11 ∷ (least + 2) ∷ []) (13 ∷ 2 ∷ []) (11 ∷ 73 ∷ []) (13 ∷ [])
    ∷ raises i82 (from least 40) (11 ∷ (least + 3) ∷ []) (13 ∷ 2 ∷ []) 6
    ∷ raises i82 (from least 40) (11 ∷ greatest ∷ []) (13 ∷ 2 ∷ []) 6
    ∷ reads i83 (from 20 least) (11 ∷ least ∷ []) (13 ∷ 8 ∷ []) (11 ∷ []) (13 ∷ 2 ∷ [])
    ∷ raises i83 (from 20 least) (11 ∷ greatest ∷ []) (13 ∷ 8 ∷ []) 6
    ∷ raises i84 (from least 40) (11 ∷ 99 ∷ greatest ∷ []) (13 ∷ 2 ∷ []) 6
    ∷ raises i85 (from 20 least) (11 ∷ greatest ∷ []) (4 ∷ 2 ∷ 8 ∷ []) 6
    -- bound -1: the indices -1, 0, 1 alone
    ∷ reads i82 (from (minus 1) 40) (11 ∷ minus 1 ∷ []) (13 ∷ 2 ∷ []) (11 ∷ 71 ∷ []) (13 ∷ [])
    ∷ reads i82 (from (minus 1) 40) (11 ∷ 0 ∷ []) (13 ∷ 2 ∷ []) (11 ∷ 72 ∷ []) (13 ∷ [])
    ∷ reads i82 (from (minus 1) 40) (11 ∷ 1 ∷ []) (13 ∷ 2 ∷ []) (11 ∷ 73 ∷ []) (13 ∷ [])
    ∷ raises i82 (from (minus 1) 40) (11 ∷ minus 2 ∷ []) (13 ∷ 2 ∷ []) 6
    ∷ raises i82 (from (minus 1) 40) (11 ∷ 2 ∷ []) (13 ∷ 2 ∷ []) 6
    -- length 0: no index
    ∷ raises i82 no_words (11 ∷ 30 ∷ []) (4 ∷ 6 ∷ []) 6
    ∷ raises i82 no_words (11 ∷ 29 ∷ []) (4 ∷ 6 ∷ []) 6
    ∷ raises i82 no_words (11 ∷ 0 ∷ []) (4 ∷ 6 ∷ []) 6
    ∷ raises i84 no_words (11 ∷ 99 ∷ 30 ∷ []) (4 ∷ 6 ∷ []) 6
    ∷ raises i83 no_pointers (11 ∷ 30 ∷ []) (4 ∷ 6 ∷ []) 6
    ∷ raises i83 no_pointers (11 ∷ 29 ∷ []) (4 ∷ 6 ∷ []) 6
    ∷ raises i83 no_pointers (11 ∷ 0 ∷ []) (4 ∷ 6 ∷ []) 6
    ∷ raises i85 no_pointers (11 ∷ 30 ∷ []) (4 ∷ 2 ∷ 6 ∷ []) 6
    -- nil: 2 comes before 6
    ∷ raises i82 three (11 ∷ 20 ∷ []) (13 ∷ 0 ∷ []) 2
    ∷ raises i83 three (11 ∷ 40 ∷ []) (13 ∷ 0 ∷ []) 2
    ∷ raises i84 three (11 ∷ 99 ∷ 20 ∷ []) (13 ∷ 0 ∷ []) 2
    ∷ raises i85 three (11 ∷ 40 ∷ []) (13 ∷ 8 ∷ 0 ∷ []) 2
    -- another kind: the other vector, and a view, whose words would be a vector's with bound 77
    ∷ raises i82 three (11 ∷ 40 ∷ []) (13 ∷ 8 ∷ []) 6
    ∷ raises i82 three (11 ∷ 77 ∷ []) (2 ∷ 13 ∷ []) 6
    ∷ raises i83 three (11 ∷ 20 ∷ []) (13 ∷ 2 ∷ []) 6
    ∷ raises i83 three (11 ∷ 77 ∷ []) (2 ∷ 13 ∷ []) 6
    ∷ raises i84 three (11 ∷ 99 ∷ 40 ∷ []) (13 ∷ 8 ∷ []) 6
    ∷ raises i84 three (11 ∷ 99 ∷ 77 ∷ []) (2 ∷ 13 ∷ []) 6
    ∷ raises i85 three (11 ∷ 20 ∷ []) (4 ∷ 13 ∷ 2 ∷ []) 6
    ∷ raises i85 three (11 ∷ 77 ∷ []) (4 ∷ 8 ∷ 13 ∷ []) 6
    -- 32: neither bound; the elements of a vector of words, first and last, and no word past them; no pointer; a view's first word
    ∷ raises (set_field on_main 2) three (11 ∷ 99 ∷ []) (13 ∷ 2 ∷ []) 3
    ∷ raises (set_field on_main 4) three (11 ∷ 99 ∷ []) (13 ∷ 8 ∷ []) 3
    ∷ leaves (set_field on_main 3) three (11 ∷ 99 ∷ []) (13 ∷ 2 ∷ []) (objects 20 99 72 73 40 2 13) (11 ∷ []) (13 ∷ [])
    ∷ leaves (set_field on_main 5) three (11 ∷ 99 ∷ []) (13 ∷ 2 ∷ []) (objects 20 71 72 99 40 2 13) (11 ∷ []) (13 ∷ [])
    ∷ raises (set_field on_main 6) three (11 ∷ 99 ∷ []) (13 ∷ 2 ∷ []) 3
    ∷ raises (set_field on_main 1) three (11 ∷ 99 ∷ []) (13 ∷ 2 ∷ []) 3
    ∷ raises (set_field on_main 3) three (11 ∷ 99 ∷ []) (13 ∷ 8 ∷ []) 3
    ∷ raises (set_field on_main 2) no_words (11 ∷ 99 ∷ []) (4 ∷ 6 ∷ []) 3
    ∷ raises (set_field on_main 2) no_pointers (11 ∷ 99 ∷ []) (4 ∷ 6 ∷ []) 3
    ∷ leaves (set_field on_main 2) (5 ∷ 0 ∷ view_of 0 ∷ 3 ∷ 7 ∷ []) (99 ∷ []) (2 ∷ []) (5 ∷ 0 ∷ view_of 0 ∷ 3 ∷ 99 ∷ []) [] []
    ∷ raises (set_field on_main 2) three (11 ∷ 99 ∷ []) (13 ∷ 0 ∷ []) 2
    -- 33: the elements of a vector of pointers, not its bound; no word of a vector of words
    ∷ leaves (set_field on_ptr 2) three (11 ∷ []) (4 ∷ 13 ∷ 8 ∷ []) (objects 20 71 72 73 40 13 13) (11 ∷ []) (4 ∷ [])
    ∷ leaves (set_field on_ptr 3) three (11 ∷ []) (4 ∷ 0 ∷ 8 ∷ []) (objects 20 71 72 73 40 2 0) (11 ∷ []) (4 ∷ [])
    ∷ raises (set_field on_ptr 4) three (11 ∷ []) (4 ∷ 13 ∷ 8 ∷ []) 3
    ∷ raises (set_field on_ptr 2) three (11 ∷ []) (4 ∷ 13 ∷ 2 ∷ []) 3
    ∷ raises (set_field on_ptr 3) three (11 ∷ []) (4 ∷ 13 ∷ 2 ∷ []) 3
    ∷ raises (set_field on_ptr 2) three (11 ∷ []) (4 ∷ 13 ∷ 0 ∷ []) 2
    -- 30: both bounds, and an element that is a word; 31: an element that is a pointer
    ∷ reads (field on_main 2) three (11 ∷ []) (13 ∷ 2 ∷ []) (11 ∷ 20 ∷ []) (13 ∷ [])
    ∷ reads (field on_main 3) three (11 ∷ []) (13 ∷ 2 ∷ []) (11 ∷ 71 ∷ []) (13 ∷ [])
    ∷ reads (field on_main 5) three (11 ∷ []) (13 ∷ 2 ∷ []) (11 ∷ 73 ∷ []) (13 ∷ [])
    ∷ raises (field on_main 6) three (11 ∷ []) (13 ∷ 2 ∷ []) 3
    ∷ reads (field on_main 4) three (11 ∷ []) (13 ∷ 8 ∷ []) (11 ∷ 40 ∷ []) (13 ∷ [])
    ∷ raises (field on_main 3) three (11 ∷ []) (13 ∷ 8 ∷ []) 3
    ∷ reads (field on_ptr 2) three (11 ∷ []) (4 ∷ 8 ∷ []) (11 ∷ []) (4 ∷ 2 ∷ [])
    ∷ reads (field on_ptr 3) three (11 ∷ []) (4 ∷ 8 ∷ []) (11 ∷ []) (4 ∷ 13 ∷ [])
    ∷ raises (field on_ptr 4) three (11 ∷ []) (4 ∷ 8 ∷ []) 3
    ∷ raises (field on_ptr 3) three (11 ∷ []) (4 ∷ 2 ∷ []) 3
    ∷ []

-- the table: what each instruction comes to was worked out by hand
pub vector-rows-hold : map (λ r. basic_rule r.before r.ins) vector_rows ≡ map (λ r. r.gives) vector_rows
vector-rows-hold =
    unfold vector_rows signed cut maker_pops kind_at ptrs_at size_at in_ptrs in_plain kinds kind_of may_set_plain may_set_ptr made bound_at elements_at in
    unfold element_of new_of makes basic_rule in
    refl
