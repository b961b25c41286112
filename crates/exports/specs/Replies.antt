-- A call's answer in numbers, with every list then.
use Rattle.std.specs.Prelude.{List, ◌≡◌, ℕ}
use Rattle.std.proofs.Common.{ap, ◌∙◌}
use Rattle.model.specs.Calls.{Told, told, told_of, Checked, checked, Lent, After, answers}
use Rattle.model.specs.declared.Answer.{Answer}
use Rattle.exports.specs.declared.Reply.{Reply}

abbrev pub as_told : Reply → Told
as_told r = told r.kind r.number r.place r.steps

-- check: the answer and the map
pub record CheckReply : Type 0 where
  pub told_is : Told
  pub map : List ℕ

abbrev pub checks : Reply → List ℕ → CheckReply
checks r map = record { told_is = as_told r; map = map }

abbrev pub checks_to : Checked → CheckReply
checks_to c = record { told_is = told_of c.answer; map = c.map }

-- start and run: the answer and all lists
pub record Replies : Type 0 where
  pub told_is : Told
  pub lists : Lent

abbrev pub replies : Reply → Lent → Replies
replies r l = record { told_is = as_told r; lists = l }

abbrev pub replies_to : After → Replies
replies_to a = record { told_is = told_of a.answer; lists = a.lists }

pub check-replies : (r : Reply) (a : Answer) (map : List ℕ) (c : Checked) → as_told r ≡ told_of a → checked a map ≡ c → checks r map ≡ checks_to c
check-replies r a map c e h = (λ i. record { told_is = e i; map = map }) ∙ ap checks_to h

pub call-replies : (r : Reply) (a : Answer) (l : Lent) (c : After) → as_told r ≡ told_of a → answers a l ≡ c → replies r l ≡ replies_to c
call-replies r a l c e h = (λ i. record { told_is = e i; lists = l }) ∙ ap replies_to h
