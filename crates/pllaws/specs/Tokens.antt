-- The tokens of the text of words, with their places.
use Rattle.std.specs.Prelude.{ℕ, ◌+◌, List, [], ◌∷◌, ◌++◌, length, map, Bool, true, false}
use Rattle.std.specs.List.{flat_map}
use Rattle.pllex.specs.declared.token.Token.{Token}
use Rattle.pllex.specs.declared.token.Kind.TheVariants as kinds
use Rattle.plwrite.specs.declared.style.Style.{Style}
use Rattle.plwrite.specs.declared.text.Edge.{Edge}
use Rattle.plwrite.specs.Words.{Word, first_byte, edge_of, touches, spaced, start, text_of}
use Rattle.pllaws.specs.Pieces.{Piece, Part, word, parts}

-- the tokens of parts from a place on, each directly behind the one before it
abbrev pub tokens_at : ℕ → List Part → List Token
tokens_at place [] = []
tokens_at place (part ∷ rest) = record { kind = part.kind; start = place; end = place + length part.text } ∷ tokens_at (place + length part.text) rest

abbrev pub spaces : Bool → ℕ
spaces true = 1
spaces false = 0

-- the tokens of words behind an edge, from a place on: a word's first token stands directly behind the last one of
-- the word before it exactly where no space is put
abbrev pub tokens_behind : Style → Edge → ℕ → List Piece → List Token
tokens_behind style edge place [] = []
tokens_behind style edge place (p ∷ ps) =
    let begin = place + spaces (touches edge (first_byte (word style p).text)) in
    tokens_at begin (parts p) ++ tokens_behind style (edge_of (word style p)) (begin + length (word style p).text) ps

abbrev pub words_of : Style → List Piece → List Word
words_of style ps = map (word style) ps

-- the text of words that nothing stands before, and its tokens
abbrev pub text : Style → List Piece → List ℕ
text style ps = text_of (words_of style ps)

abbrev pub tokens : Style → ℕ → List Piece → List Token
tokens style from ps = tokens_behind style start from ps

-- their values
abbrev pub values : List Piece → List (List ℕ)
values ps = map (λ part. part.value) (flat_map parts ps)

-- a full stop, apart from what stands before it or not, and what stands behind it
abbrev pub ending : Bool → List ℕ → List ℕ
ending is_apart rest = spaced is_apart (46 ∷ rest)

-- the full stop behind bytes that end at a place
abbrev pub end_at : Bool → ℕ → Token
end_at is_apart place = record { kind = kinds.End; start = place + spaces is_apart; end = place + spaces is_apart + 1 }
