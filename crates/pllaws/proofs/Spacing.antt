-- The text of words, with the writer's spaces, is read as the words' tokens.
use Rattle.std.proofs.Common.{◌≡◌, ℕ, ◌<◌, ◌+◌, Bool, true, false, ◌||◌, ◌==◌, List, [], ◌∷◌, ◌++◌, length, map, drop, refl, sym, ap, subst, ◌∙◌, arith, append_assoc, append-nil, length-append}
use Rattle.std.specs.List.{flat_map}
use Rattle.std.proofs.lemmas.Bool.{cond-true, and_left, and_right, or_from, false_from_ne_true}
use Rattle.std.proofs.lemmas.Bool.Decides.{nat_tests}
use Rattle.std.proofs.lemmas.List.{map-append}
use Rattle.plterm.specs.Characters.{is_symbol}
use Rattle.pllex.specs.declared.token.Base.TheVariants.{Decimal}
use Rattle.pllex.specs.declared.token.Class.TheVariants.{Digit}
use Rattle.pllex.specs.declared.token.Token.{Token}
use Rattle.pllex.specs.declared.token.Kind.TheVariants as kinds
use Rattle.pllex.specs.declared.token.Scanned.TheVariants as items
use Rattle.pllex.specs.Classes.{is_layout, is_digit}
use Rattle.pllex.specs.Named.{value_of}
use Rattle.pllex.specs.Tokens.{begins_in, ends_here, token, item_of, next_item}
use Rattle.plwrite.specs.declared.style.Style.{Style}
use Rattle.plwrite.specs.declared.text.Edge.{Edge}
use Rattle.plwrite.specs.declared.text.Role.{Role}
use Rattle.plwrite.specs.declared.text.Role.TheVariants.{Other, PrefixOperator, PrefixMinus}
use Rattle.plwrite.specs.Words.{Word, first_byte, last_byte, edge_of, is_letter, is_held_off, touches, spaced, start, text_behind}
use Rattle.pllaws.specs.Pieces.{Piece, Part, word, parts, QuotesNames, Fits, AllFit}
use Rattle.pllaws.specs.Tokens.{tokens_at, spaces, tokens_behind, words_of, text, tokens, values, ending, end_at}
use Rattle.pllaws.specs.Read.{Clear, StandsWord, Stands, Told, Reads}
use Rattle.pllaws.proofs.Items.{next_here, next_behind_space, past}
use Rattle.pllaws.proofs.Parts.{IsToken, AreTokens, text_of_parts, placed, behind, last_or, last_is, last_or-append}
use Rattle.pllaws.proofs.Words.{Front, word_read}

-- ---- the tokens of parts

-- before tokens, those of a part
part_told : (whole : List ℕ) (from place : ℕ) (part : Part) (rest : List ℕ) (ts : List Token) (stop : ℕ) (vs : List (List ℕ)) → IsToken part rest → next_item whole from ≡ next_item whole place → drop place whole ≡ part.text ++ rest →
    Told whole (place + length part.text) ts stop vs → Told whole from (placed part place ∷ ts) stop (part.value ∷ vs)
part_told whole from place part rest ts stop vs h l e t = record {
  run = (l ∙ h.next whole place e, h.inner, t.run);
  are = ap (λ v. v ∷ map (value_of whole) ts) (h.tells whole place e) ∙ ap (λ l. part.value ∷ l) t.are;
}

parts_told : (whole : List ℕ) (place : ℕ) (ps : List Part) (rest : List ℕ) (ts : List Token) (stop : ℕ) (vs : List (List ℕ)) → AreTokens ps rest → drop place whole ≡ text_of_parts ps ++ rest →
    Told whole (place + length (text_of_parts ps)) ts stop vs → Told whole place (tokens_at place ps ++ ts) stop (map (λ part. part.value) ps ++ vs)
parts_told whole place [] rest ts stop vs h e t = subst (λ p. Told whole p ts stop vs) (omega arith) t
parts_told whole place (part ∷ ps) rest ts stop vs h e t =
    let here : drop place whole ≡ part.text ++ (text_of_parts ps ++ rest) = e ∙ append_assoc part.text (text_of_parts ps) rest in
    let more = past whole place part.text (text_of_parts ps ++ rest) here in
    let n : place + length (part.text ++ text_of_parts ps) ≡ (place + length part.text) + length (text_of_parts ps) = omega (arith, length-append part.text (text_of_parts ps)) in
    part_told whole place place part (text_of_parts ps ++ rest) (tokens_at (place + length part.text) ps ++ ts) stop (map (λ p. p.value) ps ++ vs) h.0 refl here
    (parts_told whole (place + length part.text) ps rest ts stop vs h.1 more (subst (λ p. Told whole p ts stop vs) n t))

-- the same from the end of the token before them
earlier : (whole : List ℕ) (from place : ℕ) (ps : List Part) (ts : List Token) (stop : ℕ) (vs : List (List ℕ)) → 0 < length ps → next_item whole from ≡ next_item whole place → Told whole place (tokens_at place ps ++ ts) stop vs → Told whole from (tokens_at place ps ++ ts) stop vs
earlier whole from place [] ts stop vs h l t = absurd (omega arith)
earlier whole from place (part ∷ ps) ts stop vs h l t = record { run = (l ∙ t.run.0, t.run.1, t.run.2); are = t.are }

no_tokens : (whole : List ℕ) (place stop : ℕ) → place ≡ stop → Told whole place [] stop []
no_tokens whole place stop e = record { run = e; are = refl }

-- A word is its tokens, where what stands behind it may stand there.
pub word_told : (style : Style) → QuotesNames style → (p : Piece) → Fits p → (whole : List ℕ) (from : ℕ) (rest : List ℕ) → StandsWord style p whole from rest →
    Told whole from (tokens_at from (parts p)) (from + length (word style p).text) (map (λ part. part.value) (parts p))
word_told style q p h whole from rest s =
    let t = (word style p).text in
    let read = word_read style q p h in
    let stop : from + length (text_of_parts (parts p)) ≡ from + length t = ap (λ l. from + length l) (sym read.is) in
    let told = parts_told whole from (parts p) rest [] (from + length t) [] (read.tokens rest (behind (edge_of (word style p)) rest s.clear)) (s.here ∙ ap (λ l. l ++ rest) read.is)
    (no_tokens whole (from + length (text_of_parts (parts p))) (from + length t) stop) in
    subst (λ ts. Told whole from ts (from + length t) (map (λ part. part.value) (parts p))) (append-nil (tokens_at from (parts p)))
    (subst (Told whole from (tokens_at from (parts p) ++ []) (from + length t)) (append-nil (map (λ part. part.value) (parts p))) told)

-- ---- spaces

-- behind a space, or directly, the next token is the same
lead : (whole : List ℕ) (place : ℕ) (b : Bool) (bytes : List ℕ) → drop place whole ≡ spaced b bytes → (next_item whole place ≡ next_item whole (place + spaces b)) × (drop (place + spaces b) whole ≡ bytes)
lead whole place true bytes e = let f : drop (place + 1) whole ≡ bytes = past whole place (32 ∷ []) bytes e in (next_behind_space whole place bytes e f, f)
lead whole place false bytes e = let z : place ≡ place + 0 = omega arith in (ap (next_item whole) z, ap (λ n. drop n whole) (sym z) ∙ e)

spaced-append : (b : Bool) (xs ys : List ℕ) → spaced b xs ++ ys ≡ spaced b (xs ++ ys)
spaced-append true xs ys = refl
spaced-append false xs ys = refl

length-spaced : (b : Bool) (xs : List ℕ) → length (spaced b xs) ≡ spaces b + length xs
length-spaced true xs = omega arith
length-spaced false xs = omega arith

-- a space touches nothing
held_space : (role : Role) → is_held_off role 32 ≡ false
held_space Other = refl
held_space PrefixOperator = refl
held_space PrefixMinus = refl

space_apart : (edge : Edge) → touches edge 32 ≡ false
space_apart edge =
    or_from _ _ (and_right (is_letter edge.last) _ refl)
    (or_from _ _ (and_right (is_symbol edge.last) _ refl) (or_from _ _ (and_right (is_letter edge.last || (edge.last == 39)) _ refl) (held_space edge.role)))

clear_space : (edge : Edge) (bytes : List ℕ) → Clear edge (32 ∷ bytes)
clear_space edge bytes = record { apart = space_apart edge; fraction = refl }

-- a word's bytes are clear of the edge before it, behind a space where they would touch it
clear_word : (edge : Edge) (b : Bool) (bytes rest : List ℕ) → Front bytes → touches edge (first_byte bytes) ≡ b → Clear edge (spaced b (bytes ++ rest))
clear_word edge true bytes rest f e = clear_space edge (bytes ++ rest)
clear_word edge false bytes rest f e = record { apart = ap (touches edge) (first f) ∙ e; fraction = f.whole rest } where
  first : Front bytes → first_byte (bytes ++ rest) ≡ first_byte bytes
  first f = ap (λ l. first_byte (l ++ rest)) f.is ∙ sym (ap first_byte f.is)

-- ---- words

-- the edge of the last word
last_edge : Edge → List Word → Edge
last_edge edge [] = edge
last_edge edge (w ∷ ws) = last_edge (edge_of w) ws

clear_words : (style : Style) → QuotesNames style → (edge : Edge) (ps : List Piece) → AllFit ps → (rest : List ℕ) → Clear (last_edge edge (words_of style ps)) rest → Clear edge (text_behind edge (words_of style ps) ++ rest)
unfolding last_edge
clear_words style q edge [] h rest c = c
clear_words style q edge (p ∷ ps) h rest c =
    let t = (word style p).text in
    let b = touches edge (first_byte t) in
    let more = text_behind (edge_of (word style p)) (words_of style ps) in
    subst (Clear edge) (sym (spaced-append b (t ++ more) rest ∙ ap (spaced b) (append_assoc t more rest))) (clear_word edge b t (more ++ rest) (word_read style q p h.0).front refl)

words_told : (style : Style) → QuotesNames style → (edge : Edge) (ps : List Piece) → AllFit ps → (whole : List ℕ) (from : ℕ) (rest : List ℕ) → Clear (last_edge edge (words_of style ps)) rest → drop from whole ≡ text_behind edge (words_of style ps) ++ rest →
    Told whole from (tokens_behind style edge from ps) (from + length (text_behind edge (words_of style ps))) (values ps)
unfolding last_edge
words_told style q edge [] h whole from rest c e = record { run = omega arith; are = refl }
words_told style q edge (p ∷ ps) h whole from rest c e =
    let t = (word style p).text in
    let b = touches edge (first_byte t) in
    let next = edge_of (word style p) in
    let more = text_behind next (words_of style ps) in
    let begin = from + spaces b in
    let read = word_read style q p h.0 in
    let apart : drop from whole ≡ spaced b (t ++ (more ++ rest)) = e ∙ spaced-append b (t ++ more) rest ∙ ap (spaced b) (append_assoc t more rest) in
    let l = lead whole from b (t ++ (more ++ rest)) apart in
    let tokens = read.tokens (more ++ rest) (behind next (more ++ rest) (clear_words style q next ps h.1 rest c)) in
    let inner = words_told style q next ps h.1 whole (begin + length t) rest c (past whole begin t (more ++ rest) l.1) in
    let n : begin + length t + length more ≡ from + length (spaced b (t ++ more)) = omega (arith, length-spaced b (t ++ more), length-append t more) in
    let moved = subst (λ k. Told whole (begin + length t) (tokens_behind style next (begin + length t) ps) k (values ps)) n inner in
    let placed = subst (λ x. Told whole (begin + length x) (tokens_behind style next (begin + length t) ps) (from + length (spaced b (t ++ more))) (values ps)) read.is moved in
    let all = parts_told whole begin (parts p) (more ++ rest) (tokens_behind style next (begin + length t) ps) (from + length (spaced b (t ++ more))) (values ps) tokens (l.1 ∙ ap (λ x. x ++ (more ++ rest)) read.is) placed in
    let told = earlier whole from begin (parts p) (tokens_behind style next (begin + length t) ps) (from + length (spaced b (t ++ more))) _ read.some l.0 all in
    subst (Told whole from _ _) (sym (map-append (λ part. part.value) (parts p) (flat_map parts ps))) told

-- ---- the end of a clause

last_byte-is : (bytes : List ℕ) → last_byte bytes ≡ last_or 32 bytes
unfolding last_or
last_byte-is [] = refl
last_byte-is (b ∷ bytes) = last_is 32 b bytes

last_behind : (d : ℕ) (bytes more : List ℕ) → Front bytes → last_or d (bytes ++ more) ≡ last_or (last_byte bytes) more
unfolding last_or
last_behind d bytes more f = last_or-append d bytes more ∙ ap (λ k. last_or k more) (ap (last_or d) f.is ∙ sym (ap last_byte f.is ∙ last_is 32 f.first f.others))

last_spaced : (d : ℕ) (b : Bool) (bytes more : List ℕ) → Front bytes → last_or d (spaced b (bytes ++ more)) ≡ last_or (last_byte bytes) more
unfolding last_or
last_spaced d true bytes more f = last_behind 32 bytes more f
last_spaced d false bytes more f = last_behind d bytes more f

-- the text ends as its last word does
last_words : (style : Style) → QuotesNames style → (edge : Edge) (ps : List Piece) → AllFit ps → last_or edge.last (text_behind edge (words_of style ps)) ≡ (last_edge edge (words_of style ps)).last
unfolding last_or last_edge
last_words style q edge [] h = refl
last_words style q edge (p ∷ ps) h =
    let t = (word style p).text in
    last_spaced edge.last (touches edge (first_byte t)) t (text_behind (edge_of (word style p)) (words_of style ps)) (word_read style q p h.0).front ∙ last_words style q (edge_of (word style p)) ps h.1

held_stop : (role : Role) → is_held_off role 46 ≡ false
held_stop Other = refl
held_stop PrefixOperator = refl
held_stop PrefixMinus = refl

layout_no_digit : (b : ℕ) → (is_layout b || (b == 37)) ≡ true → is_digit Decimal b ≡ false
layout_no_digit b e = grind (arith, nat_tests)

no_fraction : (rest : List ℕ) → ends_here rest ≡ true → begins_in (Digit Decimal) rest ≡ false
no_fraction [] e = refl
no_fraction (b ∷ rest) e = layout_no_digit b e

clear_stop : (edge : Edge) (rest : List ℕ) → is_symbol edge.last ≡ false → ends_here rest ≡ true → Clear edge (46 ∷ rest)
clear_stop edge rest e o = record {
  apart = or_from _ _ (and_right (is_letter edge.last) _ refl) (or_from _ _ (and_left (is_symbol edge.last) _ e) (or_from _ _ (and_right (is_letter edge.last || (edge.last == 39)) _ refl) (held_stop edge.role)));
  fraction = no_fraction rest o;
}

clear_end : (edge : Edge) (is_apart : Bool) (rest : List ℕ) → (is_symbol edge.last ≡ true → is_apart ≡ true) → ends_here rest ≡ true → Clear edge (ending is_apart rest)
clear_end edge true rest e o = clear_space edge (46 ∷ rest)
clear_end edge false rest e o = clear_stop edge rest (false_from_ne_true (is_symbol edge.last) (λ t. absurd (let wrong : false ≡ true = e t in cc))) o

item_stop : (whole : List ℕ) (place : ℕ) (rest : List ℕ) → ends_here rest ≡ true → item_of whole place 46 rest ≡ token kinds.End place (place + 1)
unfolding item_of
item_stop whole place rest e = cond-true (ends_here rest) _ _ e

end_next : (whole : List ℕ) (place : ℕ) (is_apart : Bool) (rest : List ℕ) → ends_here rest ≡ true → drop place whole ≡ ending is_apart rest → next_item whole place ≡ items.Token (end_at is_apart place)
end_next whole place is_apart rest o e =
    let l = lead whole place is_apart (46 ∷ rest) e in
    l.0 ∙ next_here whole (place + spaces is_apart) 46 rest l.1 (omega arith) refl ∙ item_stop whole (place + spaces is_apart) rest o

-- The text of words with a full stop is a clause of the words' tokens.
pub clause_read : (style : Style) → QuotesNames style → (ps : List Piece) → AllFit ps → (whole : List ℕ) (from : ℕ) (is_apart : Bool) (rest : List ℕ) → Stands style ps whole from is_apart rest →
    Reads whole from (tokens style from ps) (end_at is_apart (from + length (text style ps))) (values ps)
clause_read style q ps h whole from is_apart rest s =
    let last : last_byte (text style ps) ≡ (last_edge start (words_of style ps)).last = last_byte-is (text style ps) ∙ last_words style q start ps h in
    let clear = clear_end (last_edge start (words_of style ps)) is_apart rest (λ e. s.apart (ap is_symbol last ∙ e)) s.over in
    let told = words_told style q start ps h whole from (ending is_apart rest) clear s.here in
    let stop = past whole from (text style ps) (ending is_apart rest) s.here in
    record {
      clause = (tokens style from ps, end_at is_apart (from + length (text style ps)), from + length (text style ps), told.run, end_next whole (from + length (text style ps)) is_apart rest s.over stop, refl, refl, refl);
      are = told.are;
    }
