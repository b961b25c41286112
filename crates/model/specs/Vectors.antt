-- Manual 2.7, 4.29, 4.30: the elements of vectors, and which one an index names.
use Rattle.std.specs.Prelude.{ℕ, ◌+◌, ◌-◌, List, ltb, eqb, ℤ, pos, negsuc, ◌-ℤ◌}
use Rattle.model.specs.Choice.{when◌then◌else◌}
use Rattle.model.specs.Words.{signed, word_at}
use Rattle.model.specs.File.{Side, on_main, on_ptr}
use Rattle.model.specs.Heap.{ptrs_at, size_at, kind_at, word_vector_kind, ptr_vector_kind}

-- Manual 2.7: the kind of a vector whose elements are of a side: words, or pointers
abbrev pub vector_kind : Side → ℕ
vector_kind on_main = word_vector_kind
vector_kind on_ptr = ptr_vector_kind

-- Manual 2.7: the lower bound of the vector at q: its plain part begins with it
unfoldable pub bound_at : List ℕ → ℕ → ℕ
bound_at h q = word_at h (q + (2 + ptrs_at h q))

-- Manual 2.7: the first element's word, counted from the header: words lie behind the bound, pointers in the pointer part
abbrev pub first_element : Side → ℕ
first_element on_main = 3
first_element on_ptr = 2

-- Manual 2.7: how many elements the vector at q has
unfoldable pub elements_at : Side → List ℕ → ℕ → ℕ
elements_at on_main h q = size_at h q - first_element on_main
elements_at on_ptr h q = ptrs_at h q

-- Manual 4.29, 4.30: what 82 to 85 find: the heap index of the element's word; a nil vector; no such element
pub data Element : Type 0 where
  found : ℕ → Element
  of_nil : Element
  nowhere : Element

-- Manual 4.29: the element with n others before it has the index bound + n. An index less the bound, as whole numbers, is negative if the index
-- is below the bound, and at least the number of elements if it is past the last one
abbrev pub element_in : ℕ → ℕ → ℤ → Element
element_in first count (pos n) = when ltb n count then found (first + n) else nowhere
element_in first count (negsuc n) = nowhere

-- Manual 4.29, 4.30: the element with index i of the vector at q; an object of another kind has none
unfoldable pub element_of : Side → List ℕ → ℕ → ℕ → Element
element_of d h q i =
    when eqb q 0 then of_nil
    else when eqb (kind_at h q) (vector_kind d)
    then element_in (q + first_element d) (elements_at d h q) (signed i -ℤ signed (bound_at h q))
    else nowhere
