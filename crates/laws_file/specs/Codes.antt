-- A 72 is a call of its operand, a 160 opens a handler, both take three bytes, and nothing else is a call; which codes stand for instructions on reals: the
-- table of codes, read there.
use Rattle.std.specs.Prelude.{ℕ, ◌+◌, ◌≡◌, Bool, List, [], ◌∷◌}
use Rattle.std.proofs.Math.Path.{refl}
use Rattle.std.proofs.Common.{ap, sym, ◌∙◌, true≢false, inl, inr, arith}
use Rattle.std.proofs.Math.Bool.{true, false}
use Rattle.std.proofs.Math.Dec.{eqb}
use borrow.Author.Tests.{eqb-true, ne_eqb}
use Rattle.model.specs.File.{Basic, local, assign, field, set_field, make, literal, nil, root, set_root, retract, binary, same_ptr, unary, element, set_element}
use Rattle.model.specs.File.{real_literal, real, real_less, hoop, Ins, basic, jump, branch, branch_keep, call, return, enter, exit, raise}
use Rattle.model.specs.File.{byte_at, codes, body_of, bodies, after, operand, ins_of, ins_at}
use Rattle.model.specs.Choice.{when◌then◌else◌}
use Rattle.laws_file.specs.Kinds.{OneOf, one_of?}

-- a property of an instruction that is chosen by a test
pub ins-if : (is? : Ins → Bool) (t : Bool) (i j : Ins) → is? (when t then i else j) ≡ (when t then is? i else is? j)
ins-if is? true i j = refl
ins-if is? false i j = refl

pub if-same : (t b : Bool) → (when t then b else b) ≡ b
if-same true b = refl
if-same false b = refl

-- whether an instruction is a call; opens a handler
calls? : Ins → Bool
calls? (basic b) = false
calls? (jump q) = false
calls? (branch t q) = false
calls? (branch_keep t q) = false
calls? (call n) = true
calls? return = false
calls? (enter s) = false
calls? exit = false
calls? raise = false

opens? : Ins → Bool
opens? (basic b) = false
opens? (jump q) = false
opens? (branch t q) = false
opens? (branch_keep t q) = false
opens? (call n) = false
opens? return = false
opens? (enter s) = true
opens? exit = false
opens? raise = false

-- whether an instruction works on reals
abbrev pub on_reals? : Basic → Bool
on_reals? (local d s) = false
on_reals? (assign d s) = false
on_reals? (field d s) = false
on_reals? (set_field d s) = false
on_reals? (make k) = false
on_reals? (literal w) = false
on_reals? nil = false
on_reals? root = false
on_reals? set_root = false
on_reals? (retract a k n) = false
on_reals? (binary o) = false
on_reals? same_ptr = false
on_reals? (unary o) = false
on_reals? (element d) = false
on_reals? (set_element d) = false
on_reals? (real_literal h l) = true
on_reals? (real o) = true
on_reals? real_less = true
on_reals? hoop = true

abbrev pub is_real? : Ins → Bool
is_real? (basic b) = on_reals? b
is_real? (jump q) = false
is_real? (branch t q) = false
is_real? (branch_keep t q) = false
is_real? (call n) = false
is_real? return = false
is_real? (enter s) = false
is_real? exit = false
is_real? raise = false

not_call : (f : List ℕ) (p k : ℕ) → eqb k 72 ≡ false → calls? (ins_of f p k) ≡ false
unfolding ins_of calls?
not_call f p k e = rw e (simp (ins-if calls?, if-same))

not-enter : (f : List ℕ) (p k : ℕ) → eqb k 160 ≡ false → opens? (ins_of f p k) ≡ false
unfolding ins_of opens?
not-enter f p k e = rw e (simp (ins-if opens?, if-same))

module _ (f : List ℕ) (p : ℕ) where
  -- a property that the instructions of all codes but k lack tells the code
  code-byte : (is? : Ins → Bool) (k : ℕ) → ((j : ℕ) → eqb j k ≡ false → is? (ins_of f p j) ≡ false) → is? (ins_at f p) ≡ true → byte_at f p ≡ k
  unfolding ins_at
  code-byte is? k others e = go (eqb (byte_at f p) k) refl
    where
      go : (t : Bool) → eqb (byte_at f p) k ≡ t → byte_at f p ≡ k
      go true u = eqb-true (byte_at f p) k u
      go false u = absurd (true≢false (sym e ∙ others (byte_at f p) u))

  pub call-byte : (n : ℕ) → ins_at f p ≡ call n → byte_at f p ≡ 72
  unfolding calls?
  call-byte n e = code-byte calls? 72 (not_call f p) (ap calls? e)

  pub enter-byte : (n : ℕ) → ins_at f p ≡ enter n → byte_at f p ≡ 160
  unfolding opens?
  enter-byte n e = code-byte opens? 160 (not-enter f p) (ap opens? e)

  pub byte-call : byte_at f p ≡ 72 → ins_at f p ≡ call (operand f p)
  unfolding ins_at ins_of
  byte-call e = rw e

  pub byte-enter : byte_at f p ≡ 160 → ins_at f p ≡ enter (operand f p)
  unfolding ins_at ins_of
  byte-enter e = rw e

  -- a call's operand is its callee
  pub callee-is : (n : ℕ) → ins_at f p ≡ call n → operand f p ≡ n
  callee-is n e = let g = byte-call (call-byte n e) in cc

  pub call-after : byte_at f p ≡ 72 → after f p ≡ p + 3
  unfolding after body_of bodies codes
  call-after e = rw e (omega arith)

  pub enter-after : byte_at f p ≡ 160 → after f p ≡ p + 3
  unfolding after body_of bodies codes
  enter-after e = rw e (omega arith)

-- the codes of the instructions on reals
abbrev pub real_codes : List ℕ
real_codes = 53 ∷ 150 ∷ 151 ∷ 152 ∷ 153 ∷ 155 ∷ 156 ∷ []

pub real-code : (f : List ℕ) (p k : ℕ) → is_real? (ins_of f p k) ≡ true → OneOf real_codes k
unfolding ins_of
real-code f p k e = go (one_of? real_codes k)
  where
    go : Dec (OneOf real_codes k) → OneOf real_codes k
    go (yes o) = o
    go (no u) =
        let none : is_real? (ins_of f p k) ≡ false =
        rw (
          ne_eqb k 53 (λ z. u (inl z)),
          ne_eqb k 150 (λ z. u (inr (inl z))),
          ne_eqb k 151 (λ z. u (inr (inr (inl z)))),
          ne_eqb k 152 (λ z. u (inr (inr (inr (inl z))))),
          ne_eqb k 153 (λ z. u (inr (inr (inr (inr (inl z)))))),
          ne_eqb k 155 (λ z. u (inr (inr (inr (inr (inr (inl z))))))),
          ne_eqb k 156 (λ z. u (inr (inr (inr (inr (inr (inr z))))))),
        )
        (simp (ins-if is_real?, if-same))
        in
        absurd (true≢false (sym e ∙ none))
