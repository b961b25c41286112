-- What the audit finds: the fault of one object, the objects that the walk marks, and the answers of walk and audit.
use Rattle.std.specs.Prelude.{ℕ, ◌+◌, ◌≤◌, ◌≡◌, Bool, List, [], length, Result, Ok}
use Rattle.model.specs.Choice.{when◌then◌else◌}
use Rattle.model.specs.Heap.{mark_of, first_object, bad_header, bad_size, pointer_words, objects_in, heap_of, objects_of}
use Rattle.audit_heap.specs.declared.BadWord.{BadWord}
use Rattle.audit_heap.specs.Judgement.{Judgement, faultless, faulty, uncounted}
use Rattle.audit_heap.specs.First.{walked, audit_answer}
use Rattle.audit_words.specs.Table.{Marks}
use Rattle.model.specs.Calls.{heap_most}

-- the mark is in range
pub record Range (h : List ℕ) : Type 0 where
  pub low : first_object ≤ mark_of h
  pub high : mark_of h ≤ length h
  pub long : length h ≤ heap_most

-- the fault of one object
unfoldable pub fault_at : List ℕ → ℕ → ℕ → Judgement
fault_at h q mark = when bad_header h q mark then faulty q else when bad_size h q mark then faulty (q + 1) else faultless

-- the objects that the walk finds
unfoldable pub objects_found : List ℕ → List ℕ
objects_found h = objects_in (walked h)

-- objects of which a count says that they have no pointer words have none
unfoldable pub LinksCounted : List ℕ → List ℕ → ℕ → Type 0
LinksCounted h os links = links ≡ 0 → pointer_words h os ≡ []

-- the walk's answer with its count, and the table behind it
pub record Walked (h : List ℕ) (r : Result ℕ BadWord) (t : List Bool) : Type 0 where
  pub is : uncounted r ≡ audit_answer (walked h)
  pub marks : (links : ℕ) → r ≡ Ok links → Marks (objects_found h) t
  pub linked : (links : ℕ) → r ≡ Ok links → LinksCounted h (objects_found h) links

-- the audit's answer, and the table behind it
pub record Audited (h : List ℕ) (r : Judgement) (t : List Bool) : Type 0 where
  pub is : r ≡ audit_answer (heap_of h)
  pub marks : r ≡ faultless → Marks (objects_of h) t
