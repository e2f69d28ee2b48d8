-- The words that a term is written with are those of pieces that fit.
use Rattle.std.proofs.Common.{◌≡◌, ◌<◌, ◌+◌, ◌^◌, ℕ, ℤ, pos, negsuc, List, [], ◌∷◌, ◌++◌, length, Bool, true, false, Option, Some, None, refl, sym, ap, subst, ◌∙◌, ◌&&◌, ◌≤◌, drop, append_assoc, arith}
use Rattle.std.specs.Prelude.{codes}
use Rattle.std.specs.Str.{bytes_eq}
use Rattle.std.proofs.lemmas.Bool.{cond_both}
use Rattle.plterm.specs.Variables.{place, variables, renamed, all_renamed, copied, AllBelow, EachBelow}
use Rattle.plterm.proofs.Belows.{AllBelow-copied}
use Rattle.plterm.specs.Tree.{Tree, var, int, atom, compound, Trees, none, more}
use Rattle.plterm.specs.Characters.{is_symbol}
use Rattle.plops.specs.declared.operator.Operator.TheVariants as operators
use Rattle.plops.specs.declared.operator.Prefix.{Prefix as PrefixEntry}
use Rattle.plops.specs.declared.operator.Postfix.{Postfix as PostfixEntry}
use Rattle.plops.specs.declared.table.Entry.{Entry}
use Rattle.plwrite.specs.declared.style.Style.{Style}
use Rattle.plwrite.specs.declared.style.Style.TheVariants.{Listed}
use Rattle.plwrite.specs.declared.place.Position.{Position}
use Rattle.plwrite.specs.declared.place.Position.TheVariants.{At, Tail}
use Rattle.plwrite.specs.declared.text.Sign.TheVariants as signs
use Rattle.plwrite.specs.declared.form.Alone.{Alone}
use Rattle.plwrite.specs.declared.form.Alone.TheVariants as alone
use Rattle.plwrite.specs.declared.form.Pair.{Pair}
use Rattle.plwrite.specs.declared.form.Pair.TheVariants as pair
use Rattle.plwrite.specs.Places.{whole, argument, right_of_prefix, left_of, right_of, left_of_postfix, needs_brackets, is_bracketed_atom, place_of}
use Rattle.plwrite.specs.Words.{Word, last_byte, text_of, is_minus}
use Rattle.plwrite.specs.Styles.{has_letters}
use Rattle.plwrite.specs.Writing.{words, others, int_of, alone_form, as_operator, operated, numbered, pair_form, ends_list, behind_bar, bracketed, called, atom_words, alone_words, list_words, pair_words, written, end_text, clause_text}
use Rattle.pllex.specs.Tokens.{ends_here}
use Rattle.pllaws.specs.Pieces.{Piece, Variable, Letter, Integer, Name, Functor, Prefix, Operator, Punctuation, word, QuotesNames, Fits, IsName}
use Rattle.pllaws.specs.Tokens.{text, tokens, values, ending, end_at}
use Rattle.pllaws.specs.Read.{Stands, Reads}
use Rattle.pllaws.specs.Terms.{IsFit, AreFit, ArePieces, term_words, StandsTerm, ReadsTerm}
use Rattle.pllaws.proofs.Spacing.{clause_read}

record Made (style : Style) (ws : List Word) : Type 0 where
  pieces : List Piece
  are : ArePieces style ws pieces

adds : {style : Style} {ws : List Word} (p : Piece) → Fits p → Made style ws → Made style (word style p ∷ ws)
adds {style} p h m = record { pieces = p ∷ m.pieces; are = record { fit = (h, m.are.fit); are = ap (λ l. word style p ∷ l) m.are.are } }

bar : (style : Style) (position : Position) (ws : List Word) → Made style ws → Made style (behind_bar position ws)
bar style (At place) ws m = m
bar style Tail ws m = adds (Punctuation signs.Bar) tt m

brackets : (style : Style) (b : Bool) (body : List Word → List Word) (ws : List Word) → ((vs : List Word) → Made style vs → Made style (body vs)) → Made style ws → Made style (bracketed b body ws)
brackets style true body ws f m = adds (Punctuation signs.Open) tt (f _ (adds (Punctuation signs.Close) tt m))
brackets style false body ws f m = f ws m

call : (style : Style) (position : Position) (s : List ℕ) (ws : List Word) → IsName s → Made style ws → Made style (called style position s ws)
call style position s ws n m = bar style position _ (adds (Functor s) n (adds (Punctuation signs.Open) tt m))

atom_made : (ops : List Entry) (style : Style) (position : Position) (b : Bool) (s : List ℕ) (ws : List Word) → IsName s → Made style ws → Made style (atom_words ops style position b s ws)
atom_made ops style position true s ws n m = m
atom_made ops style position false s ws n m = bar style position _ (brackets style (is_bracketed_atom ops style (place_of position) s) (λ vs. word style (Name s) ∷ vs) ws (λ vs k. adds (Name s) n k) m)

-- a part's words before any others
abbrev Makes : Style → (Position → List Word → List Word) → Type 0
Makes style a = (position : Position) (ws : List Word) → Made style ws → Made style (a position ws)

alone_made : (style : Style) (position : Position) (s : List ℕ) (f : Alone) (a : Position → List Word → List Word) (ws : List Word) → IsName s → ((n : ℕ) → f ≡ alone.Letter n → n < 2 ^ 64) → Makes style a → Made style ws →
    Made style (alone_words style position s f a ws)
alone_made style position s (alone.Letter n) a ws k l m h = bar style position _ (adds (Letter n) (l n refl) h)
alone_made style position s alone.Curly a ws k l m h = bar style position _ (adds (Punctuation signs.OpenCurly) tt (m (At whole) _ (adds (Punctuation signs.CloseCurly) tt h)))
alone_made style position s (alone.Before op) a ws k l m h =
    bar style position _ (brackets style (needs_brackets (place_of position) (operators.Before op)) (λ vs. word style (Prefix s) ∷ a (At (right_of_prefix op)) vs) ws (λ vs i. adds (Prefix s) k (m _ vs i)) h)
alone_made style position s (alone.Behind op) a ws k l m h =
    bar style position _ (brackets style (needs_brackets (place_of position) (operators.Behind op)) (λ vs. a (At (left_of_postfix op)) (word style (Operator s) ∷ vs)) ws (λ vs i. m _ _ (adds (Operator s) k i)) h)
alone_made style position s alone.Functional a ws k l m h = call style position s _ k (m (At argument) _ (adds (Punctuation signs.Close) tt h))

list_made : (style : Style) (position : Position) (a b : Position → List Word → List Word) (ws : List Word) → Makes style a → Makes style b → Made style ws → Made style (list_words position a b ws)
list_made style (At place) a b ws m k h = adds (Punctuation signs.OpenSquare) tt (m (At argument) _ (k Tail _ (adds (Punctuation signs.CloseSquare) tt h)))
list_made style Tail a b ws m k h = adds (Punctuation signs.Comma) tt (m (At argument) _ (k Tail _ h))

pair_made : (style : Style) (position : Position) (s : List ℕ) (f : Pair) (a b : Position → List Word → List Word) (ws : List Word) → IsName s → Makes style a → Makes style b → Made style ws → Made style (pair_words style position s f a b ws)
pair_made style position s pair.List a b ws n m k h = list_made style position a b ws m k h
pair_made style position s (pair.Between op) a b ws n m k h =
    bar style position _ (brackets style (needs_brackets (place_of position) (operators.Between op)) (λ vs. a (At (left_of op)) (word style (Operator s) ∷ b (At (right_of op)) vs)) ws (λ vs i. m _ _ (adds (Operator s) n (k _ vs i))) h)
pair_made style position s pair.Functional a b ws n m k h = call style position s _ n (m (At argument) _ (adds (Punctuation signs.Comma) tt (k (At argument) _ (adds (Punctuation signs.Close) tt h))))

-- a letter's number is an integer of the term
no_letter : (before : Option PrefixEntry) (behind : Option PostfixEntry) (b : Bool) (n : ℕ) → operated before behind b ≡ alone.Letter n → ⊥
no_letter (Some op) behind true n e = cc
no_letter (Some op) behind false n e = cc
no_letter None (Some op) b n e = cc
no_letter None None b n e = cc

numbered_fits : (ops : List Entry) (style : Style) (s : List ℕ) (a : Tree) (n : ℕ) → IsFit a → numbered ops style s (int_of a) ≡ alone.Letter n → n < 2 ^ 64
unfolding IsFit
numbered_fits ops style s (var m) n h e = absurd (no_letter _ _ _ n e)
numbered_fits ops style s (int (pos m)) n h e =
    cond_both (has_letters style && bytes_eq s (codes "$VAR")) (alone.Letter m) (as_operator ops style s (is_minus s)) (λ f. f ≡ alone.Letter n → n < 2 ^ 64) (λ t g. let same : m ≡ n = cc in omega arith) (λ f g. absurd (no_letter _ _ _ n g)) e
numbered_fits ops style s (int (negsuc m)) n h e = absurd (no_letter _ _ _ n e)
numbered_fits ops style s (atom z) n h e = absurd (no_letter _ _ _ n e)
numbered_fits ops style s (compound z args) n h e = absurd (no_letter _ _ _ n e)

letter_fits : (ops : List Entry) (style : Style) (s : List ℕ) (a : Tree) (n : ℕ) → IsFit a → alone_form ops style s (int_of a) ≡ alone.Letter n → n < 2 ^ 64
letter_fits ops style s a n h =
    cond_both (bytes_eq s (codes "{}")) alone.Curly (numbered ops style s (int_of a)) (λ f. f ≡ alone.Letter n → n < 2 ^ 64) (λ t e. absurd cc) (λ f e. numbered_fits ops style s a n h e)

module _ (ops : List Entry) (style : Style) where
  abbrev Told : Tree → Type 0
  Told t = Makes style (λ position ws. words ops style position t ws)

  abbrev AllTold : Trees → Type 0
  AllTold args = (ws : List Word) → Made style ws → Made style (others ops style args ws)

  var_made : (n : ℕ) → n < 2 ^ 64 → Told (var n)
  unfolding words
  var_made n h position ws m = bar style position _ (adds (Variable n) h m)

  int_made : (i : ℤ) → Fits (Integer i) → Told (int i)
  unfolding words
  int_made i h position ws m = bar style position _ (adds (Integer i) h m)

  name_made : (s : List ℕ) → IsName s → Told (atom s)
  unfolding words
  name_made s n position ws m = atom_made ops style position (ends_list position s) s ws n m

  none_made : (s : List ℕ) → IsName s → Told (compound s none)
  unfolding words
  none_made s n position ws m = call style position s _ n (adds (Punctuation signs.Close) tt m)

  one_made : (s : List ℕ) (a : Tree) → IsName s → IsFit a → Told a → Told (compound s (more a none))
  unfolding words
  one_made s a n h law position ws m = alone_made style position s (alone_form ops style s (int_of a)) (λ p vs. words ops style p a vs) ws n (λ k e. letter_fits ops style s a k h e) law m

  two_made : (s : List ℕ) (a b : Tree) → IsName s → Told a → Told b → Told (compound s (more a (more b none)))
  unfolding words
  two_made s a b n law other position ws m = pair_made style position s (pair_form ops style s) (λ p vs. words ops style p a vs) (λ p vs. words ops style p b vs) ws n law other m

  many_made : (s : List ℕ) (a b c : Tree) (args : Trees) → IsName s → Told a → Told b → AllTold (more c args) → Told (compound s (more a (more b (more c args))))
  unfolding words
  many_made s a b c args n law other rest position ws m =
      call style position s _ n (law (At argument) _ (adds (Punctuation signs.Comma) tt (other (At argument) _ (rest ws m))))

  no_others : AllTold none
  unfolding others
  no_others ws m = adds (Punctuation signs.Close) tt m

  more_others : (a : Tree) (args : Trees) → Told a → AllTold args → AllTold (more a args)
  unfolding others
  more_others a args law rest ws m = adds (Punctuation signs.Comma) tt (law (At argument) _ (rest ws m))

  mutual
    unfolding IsFit

    made : (t : Tree) → IsFit t → AllBelow (2 ^ 64) t → Told t
    made (var n) h b = var_made n b
    made (int i) h b = int_made i h
    made (atom s) h b = name_made s h
    made (compound s none) h b = none_made s h.0
    made (compound s (more a none)) h b = one_made s a h.0 h.1.0 (made a h.1.0 b.0)
    made (compound s (more a (more c none))) h b = two_made s a c h.0 (made a h.1.0 b.0) (made c h.1.1.0 b.1.0)
    made (compound s (more a (more c (more d args)))) h b = many_made s a c d args h.0 (made a h.1.0 b.0) (made c h.1.1.0 b.1.0) (all_made (more d args) h.1.1.1 b.1.1)

    all_made : (args : Trees) → AreFit args → EachBelow (2 ^ 64) args → AllTold args
    all_made none h b = no_others
    all_made (more a args) h b = more_others a args (made a h.0 b.0) (all_made args h.1 b.1)

-- The text of a term with a full stop is a clause of the tokens of its words.
pub term_read : (ops : List Entry) (style : Style) → QuotesNames style → (t : Tree) → IsFit t → AllBelow (2 ^ 64) t → (all : List ℕ) (from : ℕ) (is_apart : Bool) (rest : List ℕ) → StandsTerm ops style t all from is_apart rest → ReadsTerm ops style t all from is_apart
term_read ops style q t h b all from is_apart rest s =
    let m = made ops style t h b (At whole) [] (record { pieces = []; are = record { fit = tt; are = refl } }) in
    let e : text_of (term_words ops style t) ≡ text style m.pieces = ap text_of m.are.are in
    let stands : Stands style m.pieces all from is_apart rest = record { here = s.here ∙ ap (λ l. l ++ ending is_apart rest) e; apart = λ k. s.apart (ap (λ l. is_symbol (last_byte l)) e ∙ k); over = s.over } in
    record {
      pieces = m.pieces;
      are_pieces = m.are;
      reads = subst (λ l. Reads all from (tokens style from m.pieces) (end_at is_apart (from + length l)) (values m.pieces)) (sym e) (clause_read style q m.pieces m.are.fit all from is_apart rest stands);
    }

-- ---- a term with the variables of a written one

mutual
  unfolding IsFit

  pub fit_renamed : (f : ℕ → ℕ) (t : Tree) → IsFit t → IsFit (renamed f t)
  fit_renamed f (var n) h = tt
  fit_renamed f (int i) h = h
  fit_renamed f (atom s) h = h
  fit_renamed f (compound s args) h = (h.0, fit_all_renamed f args h.1)

  fit_all_renamed : (f : ℕ → ℕ) (args : Trees) → AreFit args → AreFit (all_renamed f args)
  fit_all_renamed f none h = tt
  fit_all_renamed f (more t args) h = (fit_renamed f t h.0, fit_all_renamed f args h.1)

mutual
  pub below_more : (m n : ℕ) (t : Tree) → m ≤ n → AllBelow m t → AllBelow n t
  below_more m n (var v) h b = omega arith
  below_more m n (int i) h b = tt
  below_more m n (atom s) h b = tt
  below_more m n (compound s args) h b = each_below_more m n args h b

  each_below_more : (m n : ℕ) (args : Trees) → m ≤ n → EachBelow m args → EachBelow n args
  each_below_more m n none h b = tt
  each_below_more m n (more t args) h b = (below_more m n t h b.0, each_below_more m n args h b.1)

written_read : (ops : List Entry) (style : Style) → QuotesNames style → (t : Tree) → IsFit t → length (variables t) < 2 ^ 64 → (all : List ℕ) (from : ℕ) (is_apart : Bool) (rest : List ℕ) → StandsTerm ops style (copied 1 t) all from is_apart rest → ReadsTerm ops style (copied 1 t) all from is_apart
written_read ops style q t h b all from is_apart rest s =
    term_read ops style q (copied 1 t) (fit_renamed (λ v. 1 + place v (variables t)) t h) (below_more (1 + length (variables t)) (2 ^ 64) (copied 1 t) (omega arith) (AllBelow-copied 1 t)) all from is_apart rest s

-- Behind a space the full stop is apart from any text.
pub apart_read : (ops : List Entry) (style : Style) → QuotesNames style → (t : Tree) → IsFit t → length (variables t) < 2 ^ 64 → (all : List ℕ) (from : ℕ) (rest : List ℕ) → ends_here rest ≡ true → drop from all ≡ written ops style t ++ (codes " ." ++ rest) → ReadsTerm ops style (copied 1 t) all from true
apart_read ops style q t h b all from rest o e = written_read ops style q t h b all from true rest (record { here = e; apart = λ k. refl; over = o })

pub line_end : (b : Bool) (text rest : List ℕ) → (text ++ end_text b) ++ rest ≡ text ++ ending b (10 ∷ rest)
line_end true text rest = append_assoc text (end_text true) rest
line_end false text rest = append_assoc text (end_text false) rest

-- A listed clause puts the space where it has to stand.
pub listed_read : (ops : List Entry) (t : Tree) → IsFit t → length (variables t) < 2 ^ 64 → (all : List ℕ) (from : ℕ) (rest : List ℕ) → drop from all ≡ clause_text ops t ++ rest → ReadsTerm ops Listed (copied 1 t) all from (is_symbol (last_byte (written ops Listed t)))
listed_read ops t h b all from rest e =
    let is_apart = is_symbol (last_byte (written ops Listed t)) in
    written_read ops Listed tt t h b all from is_apart (10 ∷ rest) (record { here = e ∙ line_end is_apart (written ops Listed t) rest; apart = λ k. k; over = refl })
