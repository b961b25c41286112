-- Manual 2.7: the kinds of objects by their numbers.
use Rattle.std.specs.Prelude.{ℕ, ◌≡◌, refl, Bool, true, false, Option, Some, None, eqb}
use Rattle.std.proofs.Common.{eqb-true}
use Rattle.model.specs.declared.ObjectKind.{ObjectKind}
use Rattle.model.specs.declared.ObjectKind.TheVariants.{View, WordVector, PtrVector}
use Rattle.model.specs.Choice.{when◌then◌else◌}
use Rattle.model.specs.Heap.{view_kind, word_vector_kind, ptr_vector_kind}

abbrev pub kind_number : ObjectKind → ℕ
kind_number View = view_kind
kind_number WordVector = word_vector_kind
kind_number PtrVector = ptr_vector_kind

-- the kind of a number, where there is one
abbrev pub kind_named : ℕ → Option ObjectKind
kind_named k =
    when eqb k view_kind then Some View
    else when eqb k word_vector_kind then Some WordVector
    else when eqb k ptr_vector_kind then Some PtrVector
    else None

-- a number's kind has that number
pub named-number : (k : ℕ) (K : ObjectKind) → kind_named k ≡ Some K → k ≡ kind_number K
named-number k K e = go (eqb k view_kind) refl (eqb k word_vector_kind) refl (eqb k ptr_vector_kind) refl e
  where
    go : (a : Bool) → eqb k view_kind ≡ a → (b : Bool) → eqb k word_vector_kind ≡ b → (c : Bool) → eqb k ptr_vector_kind ≡ c →
        (when a then Some View else when b then Some WordVector else when c then Some PtrVector else None) ≡ Some K → k ≡ kind_number K
    go true p b q c r e = let f : K ≡ View = cc in rw f (eqb-true k view_kind p)
    go false p true q c r e = let f : K ≡ WordVector = cc in rw f (eqb-true k word_vector_kind q)
    go false p false q true r e = let f : K ≡ PtrVector = cc in rw f (eqb-true k ptr_vector_kind r)
    go false p false q false r e = cc

pub number-named : (K : ObjectKind) → kind_named (kind_number K) ≡ Some K
number-named View = refl
number-named WordVector = refl
number-named PtrVector = refl
