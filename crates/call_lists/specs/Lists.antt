-- Refusals 10 and 13 as lists of tests on numbers and bytes, and what decides them.
use Rattle.std.specs.Prelude.{ℕ, ◌<◌, ◌≤◌, Bool, false, List, [], ◌∷◌, ◌≡◌, refl, length, eqb}
use Rattle.std.proofs.Common.{◌∙◌, eq-eqb, eqb-true, le-leb}
use Rattle.model.specs.Choice.{Test, same, at_most, all}
use Rattle.model.specs.File.{file_most}
use Rattle.model.specs.Sums.{sums_of}
use Rattle.model.specs.Control.{register_bytes, record_words, sums_from}
use Rattle.model.specs.Calls.{sum_tests, main_most, ptr_most, ctl_most, heap_most}
use Rattle.laws.specs.Tests.{fails-all, decided}
use Rattle.code_file.specs.declared.Head.{Head}
use Rattle.model.specs.declared.Sums.{Sums}

-- refusal 13 in run, as the model's belong_tests has it
abbrev pub belong_list : List ℕ → List ℕ → List Test
belong_list f b = same (length b) register_bytes ∷ sum_tests (sums_from b) (sums_of f)

pub sums-differ : {s t s' t' : Sums} → s ≡ s' → t ≡ t' → (s.first ≡ t.first → ⊥) → false ≡ all (sum_tests s' t')
sums-differ {s' = s'} {t' = t'} e g h = fails-all 0 (sum_tests s' t') (rw (e, g) at h)

pub sums-decide : {s t s' t' : Sums} → s ≡ s' → t ≡ t' → s.first ≡ t.first → eqb s.second t.second ≡ all (sum_tests s' t')
sums-decide {s = s} {t = t} e g h = rw (← e, ← g) (decided 1 (sum_tests s t) _ refl (λ w. (h, (eqb-true _ _ w, tt))))

-- `belong_list` with the file's length ahead
abbrev pub belong_short : List ℕ → List ℕ → List Test
belong_short f b = at_most (length f) file_most ∷ belong_list f b

pub file-long : (f b : List ℕ) → file_most < length f → false ≡ all (belong_short f b)
file-long f b h = fails-all 0 (belong_short f b) h

pub length-wrong : (f b : List ℕ) → (length b ≡ register_bytes → ⊥) → false ≡ all (belong_short f b)
length-wrong f b h = fails-all 1 (belong_short f b) h

pub length-right : (t : Bool) (f b : List ℕ) → length f ≤ file_most → length b ≡ register_bytes → t ≡ all (sum_tests (sums_from b) (sums_of f)) →
    t ≡ all (belong_short f b)
length-right t f b m h e = e ∙ rw (le-leb (length f) file_most m, eq-eqb (length b) register_bytes h)

-- refusal 10 on numbers, as the model's length_tests has it
abbrev pub length_list : Head → ℕ → ℕ → ℕ → ℕ → List Test
length_list v main ptr ctl heap =
    at_most 1 main ∷ at_most main main_most ∷ at_most 1 ptr ∷ at_most ptr ptr_most ∷ at_most record_words ctl ∷ at_most ctl ctl_most ∷ at_most 2 heap ∷ at_most heap heap_most ∷ at_most v.x main
    ∷ at_most v.y ptr ∷ []
