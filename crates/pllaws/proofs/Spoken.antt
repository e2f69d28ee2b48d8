-- The tokens of words that tell signs have these signs.
use Rattle.std.proofs.Common.{◌≡◌, ◌<◌, ◌==◌, ◌+◌, not, ◌||◌, ◌&&◌, ℕ, pos, negsuc, List, [], ◌∷◌, ◌++◌, map, length, Bool, true, false, cond, Option, Some, None, codes, append_assoc, length-append, refl, sym, ap, ◌∙◌, arith}
use Rattle.std.specs.List.{flat_map}
use Rattle.std.specs.Str.{bytes_eq}
use Rattle.std.proofs.lemmas.Bool.{false≢true, eq-eqb, eqb-true, false_from_ne_true}
use Rattle.std.proofs.lemmas.List.{map-append}
use Rattle.plops.specs.Sane.{comma, is_reserved}
use Rattle.pllex.specs.declared.token.Kind.{Kind}
use Rattle.pllex.specs.declared.token.Kind.TheVariants as kinds
use Rattle.pllex.specs.declared.token.Token.{Token}
use Rattle.pllex.specs.Named.{bytes_of, value_as, value_of}
use Rattle.plops.specs.declared.flag.Quotes.{Quotes}
use Rattle.plread.specs.Texts.{nil, curly, text_tree}
use Rattle.plread.specs.Signs.{Sign}
use Rattle.plread.specs.Signs as tok
use Rattle.plread.specs.Spelling as spelling
use Rattle.plread.specs.Spelling.{number_of, seen_with, is_joined, signs_behind}
use Rattle.plwrite.specs.declared.style.Style.{Style}
use Rattle.plwrite.specs.declared.text.Edge.{Edge}
use Rattle.plwrite.specs.Names.{is_bare, is_empty_brackets}
use Rattle.plwrite.specs.Words.{Word, first_byte, edge_of, touches, start}
use Rattle.pllaws.specs.Pieces.{Piece, Prefix, Part, word, itself, quoted_part, name_part, parts, QuotesNames, Fits, AllFit}
use Rattle.pllaws.specs.Tokens.{tokens_at, tokens_behind, spaces, words_of, values, end_at}
use Rattle.pllaws.proofs.Parts.{text_of_parts}
use Rattle.pllaws.proofs.Words.{word_read}
use Rattle.pllaws.specs.Written.{is_direct, paren, name_sign}
use Rattle.pllaws.specs.Numbered.{numbered, seen_behind, all_numbered}
use Rattle.pllaws.specs.Told.{Tells, tells_variable, tells_integer, tells_atom, tells_functor, tells_prefix, tells_operator, tells_open, tells_close, tells_open_square, tells_close_square, tells_open_curly, tells_close_curly, tells_comma, tells_bar, Tell, no_word, one_word}

abbrev Names : Type 0
Names = List (List ℕ)

-- ---- signs one after another

all_seen : Names → List Sign → Names
all_seen seen [] = seen
all_seen seen (s ∷ ss) = all_seen (seen_behind seen s) ss

numbered-append : (seen : Names) (xs ys : List Sign) → all_numbered seen (xs ++ ys) ≡ all_numbered seen xs ++ all_numbered (all_seen seen xs) ys
unfolding all_seen
numbered-append seen [] ys = refl
numbered-append seen (s ∷ xs) ys = ap (λ l. numbered seen s ∷ l) (numbered-append (seen_behind seen s) xs ys)

module _ (quotes : Quotes) (all : List ℕ) where
  -- ---- a token is told by its kind and its value

  abbrev kind_sign : Kind → List ℕ → Names → Bool → Sign
  kind_sign k value seen joined = spelling.sign quotes k value value seen joined

  token_sign : (k : Kind) (t : Token) (value : List ℕ) (seen : Names) (joined : Bool) → value_as k all t ≡ value → spelling.sign quotes k (bytes_of all t) (value_as k all t) seen joined ≡ kind_sign k value seen joined
  token_sign kinds.Name t value seen joined e = ap (λ b. tok.Name b true) e
  token_sign kinds.QuotedName t value seen joined e = ap (λ b. tok.Name b false) e
  token_sign kinds.Variable t value seen joined e = ap (λ b. tok.Variable (number_of seen b)) e
  token_sign kinds.DoubleQuoted t value seen joined e = ap (λ b. tok.Text (text_tree quotes b)) e
  token_sign k t value seen joined e = refl

  token_seen : (k : Kind) (t : Token) (value : List ℕ) (seen : Names) → value_as k all t ≡ value → spelling.seen_after k seen (bytes_of all t) ≡ spelling.seen_after k seen value
  token_seen kinds.Variable t value seen e = ap (seen_with seen) e
  token_seen k t value seen e = refl

  -- ---- the signs of the tokens of parts

  -- the first stands directly behind the token before it, or not, and each other directly behind the one before it
  abbrev parts_signs : Names → Bool → List Part → List Sign
  parts_signs seen joined [] = []
  parts_signs seen joined (p ∷ ps) = kind_sign p.kind p.value seen joined ∷ parts_signs (spelling.seen_after p.kind seen p.value) true ps

  abbrev parts_seen : Names → List Part → Names
  parts_seen seen [] = seen
  parts_seen seen (p ∷ ps) = parts_seen (spelling.seen_after p.kind seen p.value) ps

  -- where the last token ends
  abbrev parts_end : Option ℕ → ℕ → List Part → Option ℕ
  parts_end last place [] = last
  parts_end last place (p ∷ ps) = parts_end (Some (place + length p.text)) (place + length p.text) ps

  abbrev part_values : List Part → List (List ℕ)
  part_values ps = map (λ p. p.value) ps

  parts_say : (ps : List Part) (last : Option ℕ) (place : ℕ) (seen : Names) (ts : List Token) (vs : List (List ℕ)) → map (value_of all) (tokens_at place ps ++ ts) ≡ part_values ps ++ vs →
      signs_behind quotes all seen last (tokens_at place ps ++ ts) ≡ parts_signs seen (is_joined last place) ps ++ signs_behind quotes all (parts_seen seen ps) (parts_end last place ps) ts
  parts_say [] last place seen ts vs e = refl
  parts_say (p ∷ ps) last place seen ts vs e =
      let end : ℕ = place + length p.text in
      let t : Token = record { kind = p.kind; start = place; end = end } in
      let value : value_as p.kind all t ≡ p.value = cc in
      let others : map (value_of all) (tokens_at end ps ++ ts) ≡ part_values ps ++ vs = cc in
      ap (λ s. s ∷ signs_behind quotes all (spelling.seen_after p.kind seen (bytes_of all t)) (Some end) (tokens_at end ps ++ ts)) (token_sign p.kind t p.value seen (is_joined last place) value)
      ∙ ap (λ l. kind_sign p.kind p.value seen (is_joined last place) ∷ signs_behind quotes all l (Some end) (tokens_at end ps ++ ts)) (token_seen p.kind t p.value seen value)
      ∙ ap (λ l. kind_sign p.kind p.value seen (is_joined last place) ∷ l)
      (parts_say ps (Some end) end (spelling.seen_after p.kind seen p.value) ts vs others
      ∙ ap (λ b. parts_signs (spelling.seen_after p.kind seen p.value) b ps ++ signs_behind quotes all (parts_seen (spelling.seen_after p.kind seen p.value) ps) (parts_end (Some end) end ps) ts) (eq-eqb end end refl))

  others_values : (ps : List Part) (place : ℕ) (ts : List Token) (vs : List (List ℕ)) → map (value_of all) (tokens_at place ps ++ ts) ≡ part_values ps ++ vs → map (value_of all) ts ≡ vs
  others_values [] place ts vs e = e
  others_values (p ∷ ps) place ts vs e = others_values ps (place + length p.text) ts vs (let others : map (value_of all) (tokens_at (place + length p.text) ps ++ ts) ≡ part_values ps ++ vs = cc in others)

  parts_end_is : (ps : List Part) (place : ℕ) → parts_end (Some place) place ps ≡ Some (place + length (text_of_parts ps))
  parts_end_is [] place = ap Some (omega arith)
  parts_end_is (p ∷ ps) place =
      parts_end_is ps (place + length p.text) ∙ ap Some (omega (arith, length-append p.text (text_of_parts ps)))

  some_parts_end : (ps : List Part) (last : Option ℕ) (place : ℕ) → 0 < length ps → parts_end last place ps ≡ Some (place + length (text_of_parts ps))
  some_parts_end [] last place h = absurd (omega arith)
  some_parts_end (p ∷ ps) last place h = parts_end_is ps (place + length p.text) ∙ ap Some (omega (arith, length-append p.text (text_of_parts ps)))

  -- ---- a word's tokens have the signs that it tells

  record SpeaksAs (before : Option Word) (first : ℕ) (p : Piece) (front : List Sign) : Type 0 where
    signs : (seen : Names) → parts_signs seen (is_direct before first) (parts p) ≡ all_numbered seen front
    then : (seen : Names) → parts_seen seen (parts p) ≡ all_seen seen front

  one_name : (c : Bool) (s : List ℕ) (d : Bool) (seen : Names) → parts_signs seen d (cond c (itself kinds.Name s) (quoted_part s) ∷ []) ≡ all_numbered seen (tok.Name s c ∷ [])
  one_name true s d seen = refl
  one_name false s d seen = refl

  one_name_seen : (c : Bool) (s : List ℕ) (seen : Names) → parts_seen seen (cond c (itself kinds.Name s) (quoted_part s) ∷ []) ≡ seen
  one_name_seen true s seen = refl
  one_name_seen false s seen = refl

  abbrev two_parts : Kind → List ℕ → Kind → List ℕ → List Part
  two_parts k s l t = itself k s ∷ itself l t ∷ []

  abbrev atom_parts : Bool → Bool → List ℕ → List Part
  atom_parts a b s =
      cond a (two_parts kinds.OpenSquare (codes "[") kinds.CloseSquare (codes "]"))
      (cond b (two_parts kinds.OpenCurly (codes "{") kinds.CloseCurly (codes "}")) (name_part s ∷ []))

  atom_says : (a b : Bool) (s : List ℕ) (d : Bool) (seen : Names) → parts_signs seen d (atom_parts a b s) ≡ all_numbered seen (cond a (tok.OpenSquare ∷ tok.CloseSquare ∷ []) (cond b (tok.OpenCurly ∷ tok.CloseCurly ∷ []) (name_sign s ∷ [])))
  atom_says true b s d seen = refl
  atom_says false true s d seen = refl
  atom_says false false s d seen = one_name (is_bare s) s d seen

  atom_seen : (a b : Bool) (s : List ℕ) (seen : Names) → parts_seen seen (atom_parts a b s) ≡ all_seen seen (cond a (tok.OpenSquare ∷ tok.CloseSquare ∷ []) (cond b (tok.OpenCurly ∷ tok.CloseCurly ∷ []) (name_sign s ∷ [])))
  unfolding all_seen
  atom_seen true b s seen = refl
  atom_seen false true s seen = refl
  atom_seen false false s seen = one_name_seen (is_bare s) s seen

  -- a name that is not reserved is one token
  one_part : (x a b : Bool) (s : List ℕ) → (x || (a || b)) ≡ false → atom_parts a b s ≡ name_part s ∷ []
  one_part true a b s h = absurd (false≢true (sym h))
  one_part false true b s h = absurd (false≢true (sym h))
  one_part false false true s h = absurd (false≢true (sym h))
  one_part false false false s h = refl

  free_part : (s : List ℕ) → is_reserved s ≡ false → parts (Prefix s) ≡ name_part s ∷ []
  free_part s h = one_part (bytes_eq s (codes "|")) (bytes_eq s nil) (bytes_eq s curly) s h

  operator_says : (c : Bool) (ps : List Part) (s : List ℕ) → ps ≡ name_part s ∷ [] → (d : Bool) (seen : Names) → parts_signs seen d (cond c (itself kinds.Comma (codes ",") ∷ []) ps) ≡ all_numbered seen (cond c tok.Comma (name_sign s) ∷ [])
  operator_says true ps s e d seen = refl
  operator_says false ps s e d seen = ap (parts_signs seen d) e ∙ one_name (is_bare s) s d seen

  operator_seen : (c : Bool) (ps : List Part) (s : List ℕ) → ps ≡ name_part s ∷ [] → (seen : Names) → parts_seen seen (cond c (itself kinds.Comma (codes ",") ∷ []) ps) ≡ all_seen seen (cond c tok.Comma (name_sign s) ∷ [])
  unfolding all_seen
  operator_seen true ps s e seen = refl
  operator_seen false ps s e seen = ap (parts_seen seen) e ∙ one_name_seen (is_bare s) s seen

  open_says : (d : Bool) (seen : Names) → cond d tok.OpenCall tok.Open ∷ [] ≡ all_numbered seen (paren d ∷ [])
  open_says true seen = refl
  open_says false seen = refl

  open_seen : (d : Bool) (seen : Names) → seen ≡ all_seen seen (paren d ∷ [])
  unfolding all_seen
  open_seen true seen = refl
  open_seen false seen = refl

  word_says : (style : Style) (before : Option Word) (p : Piece) (front : List Sign) → Tells before p front → SpeaksAs before (first_byte (word style p).text) p front
  unfolding all_seen
  word_says style before p front (tells_variable n) = record { signs = λ seen. refl; then = λ seen. refl }
  word_says style before p front (tells_integer (pos n)) = record { signs = λ seen. refl; then = λ seen. refl }
  word_says style before p front (tells_integer (negsuc n)) = record { signs = λ seen. refl; then = λ seen. refl }
  word_says style before p front (tells_atom s) = record { signs = λ seen. atom_says (bytes_eq s nil) (bytes_eq s curly) s _ seen; then = λ seen. atom_seen (bytes_eq s nil) (bytes_eq s curly) s seen }
  word_says style before p front (tells_functor s) = record { signs = λ seen. one_name (is_bare s && not (is_empty_brackets s)) s _ seen; then = λ seen. one_name_seen (is_bare s && not (is_empty_brackets s)) s seen }
  word_says style before p front (tells_prefix s h) = record { signs = λ seen. ap (parts_signs seen _) (free_part s h) ∙ one_name (is_bare s) s _ seen; then = λ seen. ap (parts_seen seen) (free_part s h) ∙ one_name_seen (is_bare s) s seen }
  word_says style before p front (tells_operator s h) = record { signs = λ seen. operator_says (bytes_eq s comma) (parts (Prefix s)) s (free_part s h) _ seen; then = λ seen. operator_seen (bytes_eq s comma) (parts (Prefix s)) s (free_part s h) seen }
  word_says style before p front tells_open = record { signs = λ seen. open_says (is_direct before 40) seen; then = λ seen. open_seen (is_direct before 40) seen }
  word_says style before p front tells_close = record { signs = λ seen. refl; then = λ seen. refl }
  word_says style before p front tells_open_square = record { signs = λ seen. refl; then = λ seen. refl }
  word_says style before p front tells_close_square = record { signs = λ seen. refl; then = λ seen. refl }
  word_says style before p front tells_open_curly = record { signs = λ seen. refl; then = λ seen. refl }
  word_says style before p front tells_close_curly = record { signs = λ seen. refl; then = λ seen. refl }
  word_says style before p front tells_comma = record { signs = λ seen. refl; then = λ seen. refl }
  word_says style before p front tells_bar = record { signs = λ seen. refl; then = λ seen. refl }

-- ---- words that tell signs

-- how what stands before ends
abbrev pub edge_behind : Option Word → Edge
edge_behind None = start
edge_behind (Some w) = edge_of w

abbrev pub last_of : Option Word → ℕ → Option ℕ
last_of None place = None
last_of (Some w) place = Some place

-- a word's first token stands directly behind the last one where no space is put
joined_is : (before : Option Word) (place first : ℕ) → is_joined (last_of before place) (place + spaces (touches (edge_behind before) first)) ≡ is_direct before first
joined_is None place first = refl
joined_is (Some w) place first = by (touches (edge_of w) first)
  where
    by : (b : Bool) → (place == (place + spaces b)) ≡ not b
    by true = false_from_ne_true (place == (place + 1)) (λ t. let e = eqb-true place (place + 1) t in absurd (omega arith))
    by false = eq-eqb place (place + 0) (omega arith)

-- their pieces, and that the tokens of these, with an end, have the signs
pub record Spoken (style : Style) (before : Option Word) (ws : List Word) (ss : List Sign) : Type 0 where
  pub pieces : List Piece
  pub fit : AllFit pieces
  pub are : ws ≡ words_of style pieces
  pub says : (quotes : Quotes) (all : List ℕ) (place : ℕ) (seen : Names) (is_apart : Bool) (n : ℕ) → map (value_of all) (tokens_behind style (edge_behind before) place pieces) ≡ values pieces →
      signs_behind quotes all seen (last_of before place) (tokens_behind style (edge_behind before) place pieces ++ end_at is_apart n ∷ []) ≡ all_numbered seen ss

says_more : (style : Style) → QuotesNames style → (before : Option Word) (p : Piece) (ws : List Word) (front rest : List Sign) → Fits p → Tells before p front → Spoken style (Some (word style p)) ws rest → Spoken style before (word style p ∷ ws) (front ++ rest)
says_more style q before p ws front rest fits tells r = record {
  pieces = p ∷ r.pieces;
  fit = (fits, r.fit);
  are = ap (λ l. word style p ∷ l) r.are;
  says = λ quotes all place seen is_apart n e.
      let first : ℕ = first_byte (word style p).text in
      let begin : ℕ = place + spaces (touches (edge_behind before) first) in
      let stop : ℕ = begin + length (word style p).text in
      let here : List Token = tokens_at begin (parts p) in
      let there : List Token = tokens_behind style (edge_of (word style p)) stop r.pieces in
      let end : Token = end_at is_apart n in
      let values_here : List (List ℕ) = map (λ part. part.value) (parts p) in
      let split : map (value_of all) (here ++ there) ≡ values_here ++ values r.pieces = e ∙ map-append (λ part. part.value) (parts p) (flat_map parts r.pieces) in
      let with_end : map (value_of all) (here ++ (there ++ end ∷ [])) ≡ values_here ++ (values r.pieces ++ value_of all end ∷ []) =
      ap (map (value_of all)) (sym (append_assoc here there (end ∷ []))) ∙ map-append (value_of all) (here ++ there) (end ∷ [])
      ∙ ap (λ l. l ++ value_of all end ∷ []) split ∙ append_assoc values_here (values r.pieces) (value_of all end ∷ []) in
      let read = word_read style q p fits in
      let says = word_says quotes all style before p front tells in
      let ends : parts_end quotes all (last_of before place) begin (parts p) ≡ Some stop =
      some_parts_end quotes all (parts p) (last_of before place) begin read.some ∙ ap (λ l. Some (begin + length l)) (sym read.is) in
      ap (signs_behind quotes all seen (last_of before place)) (append_assoc here there (end ∷ []))
      ∙ parts_say quotes all (parts p) (last_of before place) begin seen (there ++ end ∷ []) _ with_end
      ∙ ap (λ b. parts_signs quotes all seen b (parts p) ++ signs_behind quotes all (parts_seen quotes all seen (parts p)) (parts_end quotes all (last_of before place) begin (parts p)) (there ++ end ∷ [])) (joined_is before place first)
      ∙ ap (λ l. l ++ signs_behind quotes all (parts_seen quotes all seen (parts p)) (parts_end quotes all (last_of before place) begin (parts p)) (there ++ end ∷ [])) (says.signs seen)
      ∙ ap (λ l. all_numbered seen front ++ signs_behind quotes all l (parts_end quotes all (last_of before place) begin (parts p)) (there ++ end ∷ [])) (says.then seen)
      ∙ ap (λ o. all_numbered seen front ++ signs_behind quotes all (all_seen seen front) o (there ++ end ∷ [])) ends
      ∙ ap (λ l. all_numbered seen front ++ l) (r.says quotes all stop (all_seen seen front) is_apart n (others_values quotes all (parts p) begin there (values r.pieces) split))
      ∙ sym (numbered-append seen front rest);
}

pub spoken : (style : Style) → QuotesNames style → {before : Option Word} {ws : List Word} {ss : List Sign} → Tell style before ws ss → Spoken style before ws ss
spoken style q no_word = record { pieces = []; fit = tt; are = refl; says = λ quotes all place seen is_apart n e. refl }
spoken style q (one_word {before} {p} {ws} {front} {rest} fits tells h) = says_more style q before p ws front rest fits tells (spoken style q h)
