-- What the names of a clause's variables tell.
use Rattle.std.specs.Prelude.{◌≡◌, ◌<◌, ℕ, List, [], ◌∷◌, length, get_or}
use Rattle.pllex.specs.declared.token.Token as lex
use Rattle.pllex.specs.Named.{bytes_of}
use Rattle.plread.specs.Signs.{Sign}
use Rattle.plread.specs.Signs as signs

-- where a sign is a variable, this is the name at its number
abbrev pub NameStands : List (List ℕ) → List ℕ → Sign → Type 0
NameStands names name (signs.Variable n) = (n < length names) × (get_or names n [] ≡ name)
NameStands names name s = Unit {0}

-- for each token and its sign, the name of the token stands at the number of the sign
abbrev pub NamesStand : List ℕ → List (List ℕ) → List lex.Token → List Sign → Type 0
NamesStand text names (t ∷ ts) (s ∷ ss) = NameStands names (bytes_of text t) s × NamesStand text names ts ss
NamesStand text names [] [] = Unit {0}
NamesStand text names ts ss = ⊥
