-- Words that are all nil are pointers; else their marks tell. Those from the top on are 0, so nil.
use Rattle.std.proofs.Common.{subst, ℕ, ◌≡◌, ◌⊎◌, true, length, inl, inr, arith, min}
use Rattle.std.proofs.Math.Decide.{dec_lt}
use Rattle.audit_words.specs.Every.{zero_at, Every, every-first}
use Rattle.audit_words.specs.Table.{is_marked, marked_at}
use Rattle.audit_words.specs.Stack.{nil-marked, stack-told}
use Rattle.audit_words.proofs.audit_pointers.Goals as goal

either : (a b n : ℕ) → n ≡ min a b → (n ≡ a) ⊎ (n ≡ b)
either a b n e = elim (dec_lt a b) [ yes l ↦ inl (omega arith) | no l ↦ inr (omega arith) ]

pub returns-then-all_zero : goal.returns-then-all_zero
returns-then-all_zero c = λ os M z.
    let l = c.args.ptr.now in
    let n = c.min-n.result in
    let A = subst (Every (zero_at l) 0 n) c.if-all_zero.true c.all_zero.ensures in
    rw c.if-all_zero.true (stack-told l _ os M _ n true (omega arith) (either c.args.top (length l) n c.min-n.ensures) (nil-marked l _ os M n A) z)

pub returns-else-all_zero : goal.returns-else-all_zero
unfolding marked_at
returns-else-all_zero c = λ os M z.
    let l = c.args.ptr.now in
    let n = c.min-n.result in
    let E = every-first (is_marked c.args.marks.now) l n c.all_pointers.result (omega arith) c.all_pointers.ensures in
    stack-told l _ os M _ n c.all_pointers.result (omega arith) (either c.args.top (length l) n c.min-n.ensures) E z
