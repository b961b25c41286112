-- Manual 7.4: the text of the line, as bytes.
use Rattle.std.specs.Prelude.{ℕ, List, [], ◌∷◌, ◌++◌, codes}
use Rattle.std.specs.List.{flat_map}
use Rattle.std.specs.Fmt.{decimal, signed_decimal}
use Rattle.std.specs.Int.{cast_signed}
use Rattle.std.proofs.Common.{w32}
use Rattle.model.specs.declared.Answer.{Answer}
use Rattle.model.specs.declared.Answer.TheVariants.{Passed, Ready, Finished, Spent, Uncaught, Refused}

abbrev pub word_text : ℕ → List ℕ
word_text w = signed_decimal (cast_signed w32 w)

-- a comma before each word
abbrev pub more_text : ℕ → List ℕ
more_text w = 44 ∷ word_text w

abbrev pub words_text : List ℕ → List ℕ
words_text [] = []
words_text (w ∷ ws) = word_text w ++ flat_map more_text ws

abbrev pub ending_text : ℕ → List ℕ → List ℕ
ending_text steps main = codes " steps=" ++ decimal steps ++ codes " main=" ++ words_text main

abbrev pub line_text : Answer → List ℕ → List ℕ
line_text Passed main = codes "passed"
line_text Ready main = codes "ready"
line_text (Finished steps) main = codes "finished" ++ ending_text steps main
line_text (Spent steps) main = codes "spent" ++ ending_text steps main
line_text (Uncaught code place steps) main = codes "uncaught " ++ word_text code ++ codes " at " ++ decimal place ++ ending_text steps main
line_text (Refused number place) main = codes "refused " ++ decimal number ++ codes " at " ++ decimal place
