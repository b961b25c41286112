-- What a test of a heap answers: no fault, or the index of the word at fault.
use Rattle.std.specs.Prelude.{ℕ, ◌≡◌, Result, Ok, Err}
use Rattle.std.proofs.Common.{ap}
use Rattle.audit_heap.specs.declared.BadWord.{BadWord}

abbrev pub Judgement : Type 0
Judgement = Result (Unit {0}) BadWord

abbrev pub faultless : Judgement
faultless = Ok tt

abbrev pub faulty : ℕ → Judgement
faulty q = Err (record { at = q })

place : Judgement → ℕ
place (Ok u) = 0
place (Err b) = b.at

pub same-fault : (p q : ℕ) → faulty p ≡ faulty q → p ≡ q
unfolding place
same-fault p q e = ap place e

-- an answer that counts, without its count
abbrev pub uncounted : Result ℕ BadWord → Judgement
uncounted (Ok n) = faultless
uncounted (Err b) = Err b
