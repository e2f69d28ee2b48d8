-- The variables of written signs, numbered as they are read.
use Rattle.std.specs.Prelude.{ℕ, List, [], ◌∷◌}
use Rattle.plread.specs.Signs.{Sign}
use Rattle.plread.specs.Signs as tok
use Rattle.plread.specs.Spelling.{number_of, seen_with}
use Rattle.plwrite.specs.Words.{variable}

-- a variable's name
abbrev pub written_name : ℕ → List ℕ
written_name n = (variable n).text

-- a sign behind variables of these names
abbrev pub numbered : List (List ℕ) → Sign → Sign
numbered seen (tok.Variable n) = tok.Variable (number_of seen (written_name n))
numbered seen s = s

abbrev pub seen_behind : List (List ℕ) → Sign → List (List ℕ)
seen_behind seen (tok.Variable n) = seen_with seen (written_name n)
seen_behind seen s = seen

-- signs whose variables have the numbers of their names' first occurrences
abbrev pub all_numbered : List (List ℕ) → List Sign → List Sign
all_numbered seen [] = []
all_numbered seen (s ∷ ss) = numbered seen s ∷ all_numbered (seen_behind seen s) ss
