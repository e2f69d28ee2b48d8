-- The words of a term tell its signs.
use Rattle.std.proofs.Common.{◌≡◌, ◌<◌, ◌^◌, ◌==◌, ◌&&◌, ◌||◌, not, ℕ, ℤ, pos, negsuc, List, [], ◌∷◌, ◌++◌, Bool, true, false, cond, Option, Some, None, refl, sym, ◌∙◌, subst}
use Rattle.std.proofs.lemmas.Bool.{false≢true}
use Rattle.std.specs.Str.{bytes_eq}
use Rattle.plterm.specs.Tree.{Tree, Trees, var, int, atom, compound, none, more}
use Rattle.plterm.specs.Variables.{AllBelow, EachBelow}
use Rattle.plterm.specs.Characters.{is_symbol}
use Rattle.plops.specs.declared.operator.Operator.TheVariants as operators
use Rattle.plops.specs.declared.table.OpTable.{OpTable}
use Rattle.plops.specs.Tables.{prefix_of, infix_of, postfix_of}
use Rattle.plops.specs.Sane.{is_reserved, IsSane}
use Rattle.plread.specs.Signs.{Sign}
use Rattle.plread.specs.Signs as tok
use Rattle.plread.specs.Texts.{nil, curly}
use Rattle.plwrite.specs.declared.style.Style.{Style}
use Rattle.plwrite.specs.declared.text.Sign.TheVariants as marks
use Rattle.plwrite.specs.declared.place.Position.{Position}
use Rattle.plwrite.specs.declared.place.Position.TheVariants.{At, Tail}
use Rattle.plwrite.specs.declared.form.Alone.{Alone}
use Rattle.plwrite.specs.declared.form.Alone.TheVariants as alone
use Rattle.plwrite.specs.declared.form.Pair.{Pair}
use Rattle.plwrite.specs.declared.form.Pair.TheVariants as pair
use Rattle.plwrite.specs.Places.{whole, argument, right_of_prefix, left_of, right_of, left_of_postfix, needs_brackets, is_bracketed_atom, place_of}
use Rattle.plwrite.specs.Styles.{has_letters}
use Rattle.plwrite.specs.Words as text
use Rattle.plwrite.specs.Words.{Word, last_byte, is_letter}
use Rattle.plwrite.specs.Writing as writing
use Rattle.plwrite.specs.Writing.{int_of, alone_form, pair_form, ends_list, words, others}
use Rattle.pllaws.specs.Pieces.{Integer, Fits, IsName}
use Rattle.pllaws.specs.Terms.{IsFit, AreFit}
use Rattle.pllaws.specs.Written.{is_direct, after, paren, name_sign, operator_sign, atom_signs, integer_signs, bracketed, behind_bar, position_signs, called_signs, alone_signs, pair_signs, signs, other_signs, clause_signs}
use Rattle.pllaws.specs.Told.{tells_variable, tells_integer, tells_atom, tells_functor, tells_prefix, tells_operator, tells_open, tells_close, tells_open_square, tells_close_square, tells_open_curly, tells_close_curly, tells_comma, tells_bar, Tell, no_word, one_word}
use Rattle.pllaws.proofs.Forms.{AloneIs, PairIs, alone_is, pair_is}

-- the word before what is written in a position, but for what is left of a list: that begins with punctuation
abbrev kept : Position → Option Word → Option Word
kept (At place) before = before
kept Tail before = None

-- a bracket stands directly behind a functor
is_called : (x y z : Bool) → not ((x && false) || ((y && false) || ((z && false) || false))) ≡ true
is_called true true true = refl
is_called true true false = refl
is_called true false true = refl
is_called true false false = refl
is_called false true true = refl
is_called false true false = refl
is_called false false true = refl
is_called false false false = refl

functor_direct : (style : Style) (s : List ℕ) → is_direct (Some (text.functor style s)) 40 ≡ true
functor_direct style s =
    let last : ℕ = last_byte (text.functor style s).text in
    is_called (is_letter last) (is_symbol last) (is_letter last || (last == 39))

-- a name that is an operator is not reserved
free : {A : Type 0} (b : Bool) (o : Option A) (op : A) → (b ≡ true → o ≡ None) → o ≡ Some op → b ≡ false
free true o op h e = let n : o ≡ None = h refl in absurd cc
free false o op h e = refl

atom_front : (a b : Bool) (s : List ℕ) (rest : List Sign) → cond a (tok.OpenSquare ∷ tok.CloseSquare ∷ []) (cond b (tok.OpenCurly ∷ tok.CloseCurly ∷ []) (name_sign s ∷ [])) ++ rest ≡ cond a (tok.OpenSquare ∷ tok.CloseSquare ∷ rest) (cond b (tok.OpenCurly ∷ tok.CloseCurly ∷ rest) (name_sign s ∷ rest))
atom_front true b s rest = refl
atom_front false true s rest = refl
atom_front false false s rest = refl

module _ (style : Style) where
  -- words tell signs behind every word
  abbrev Behind : List Word → List Sign → Type 0
  Behind ws rest = (before : Option Word) → Tell style before ws rest

  tell_integer : (i : ℤ) → Fits (Integer i) → (b : Option Word) (ws : List Word) (rest : List Sign) → Behind ws rest → Tell style b (text.integer i ∷ ws) (integer_signs i b rest)
  tell_integer (pos n) fits b ws rest h = one_word fits (tells_integer (pos n)) (h _)
  tell_integer (negsuc n) fits b ws rest h = one_word fits (tells_integer (negsuc n)) (h _)

  tell_atom : (s : List ℕ) → IsName s → (b : Option Word) (ws : List Word) (rest : List Sign) → Behind ws rest → Tell style b (text.name style s ∷ ws) (atom_signs s rest)
  tell_atom s name b ws rest h = subst (λ l. Tell style b (text.name style s ∷ ws) l) (atom_front (bytes_eq s nil) (bytes_eq s curly) s rest) (one_word name (tells_atom s) (h _))

  tell_bar : (position : Position) (ws : List Word) (body : Option Word → List Sign) (b : Option Word) → ((p : Option Word) → Tell style p ws (body p)) → Tell style b (writing.behind_bar position ws) (behind_bar position body (kept position b))
  tell_bar (At place) ws body b h = h b
  tell_bar Tail ws body b h = one_word tt tells_bar (h (after marks.Bar))

  tell_brackets : (needed : Bool) (front : List Word → List Word) (body : Option Word → List Sign → List Sign) (b : Option Word) (ws : List Word) (rest : List Sign) → ((p : Option Word) (vs : List Word) (behind : List Sign) → Behind vs behind → Tell style p (front vs) (body p behind)) → Behind ws rest → Tell style b (writing.bracketed needed front ws) (bracketed needed body b rest)
  tell_brackets true front body b ws rest h k = one_word tt tells_open (h (after marks.Open) _ _ (λ q. one_word tt tells_close (k _)))
  tell_brackets false front body b ws rest h k = h b ws rest k

  tell_open : (s : List ℕ) (ws : List Word) (inside : List Sign) → Tell style (after marks.Open) ws inside → Tell style (Some (text.functor style s)) (text.sign marks.Open ∷ ws) (tok.OpenCall ∷ inside)
  tell_open s ws inside h = subst (λ d. Tell style (Some (text.functor style s)) (text.sign marks.Open ∷ ws) (paren d ∷ inside)) (functor_direct style s) (one_word tt tells_open h)

  tell_called : (position : Position) (s : List ℕ) → IsName s → (ws : List Word) (inside : List Sign) (b : Option Word) → Tell style (after marks.Open) ws inside → Tell style b (writing.called style position s ws) (called_signs position s inside (kept position b))
  tell_called position s name ws inside b h = tell_bar position _ _ b (λ p. one_word name (tells_functor s) (tell_open s ws inside h))

module _ (ops : OpTable) (style : Style) where
  abbrev Told : Tree → Type 0
  Told t = (position : Position) (b : Option Word) (ws : List Word) (rest : List Sign) → Behind style ws rest → Tell style b (words ops style position t ws) (signs ops style position t (kept position b) rest)

  tell_position : (e : Bool) (s : List ℕ) → IsName s → (position : Position) (b : Option Word) (ws : List Word) (rest : List Sign) → Behind style ws rest → Tell style b (writing.atom_words ops style position e s ws) (position_signs ops style position e s (kept position b) rest)
  tell_position true s name position b ws rest h = h b
  tell_position false s name position b ws rest h =
      tell_bar style position _ _ b (λ p. tell_brackets style (is_bracketed_atom ops style (place_of position) s) (λ vs. text.name style s ∷ vs) (λ q behind. atom_signs s behind) p ws rest (λ q vs behind k. tell_atom style s name q vs behind k) h)

  tell_alone : IsSane ops → has_letters style ≡ false → (s : List ℕ) → IsName s → (a : Tree) → Told a → (f : Alone) → AloneIs ops style s f → (position : Position) (b : Option Word) (ws : List Word) (rest : List Sign) → Behind style ws rest → Tell style b (writing.alone_words style position s f (λ p vs. words ops style p a vs) ws) (alone_signs style position s f (λ p q vs. signs ops style p a q vs) (kept position b) rest)
  tell_alone w plain s name a law (alone.Letter n) is position b ws rest h = absurd (false≢true (sym plain ∙ is))
  tell_alone w plain s name a law alone.Curly is position b ws rest h =
      tell_bar style position _ _ b (λ p. one_word tt tells_open_curly (law (At whole) (after marks.OpenCurly) _ _ (λ q. one_word tt tells_close_curly (h _))))
  tell_alone w plain s name a law (alone.Before op) is position b ws rest h =
      tell_bar style position _ _ b (λ p. tell_brackets style (needs_brackets (place_of position) (operators.Before op)) (λ vs. text.prefix style s ∷ words ops style (At (right_of_prefix op)) a vs) (λ q vs. name_sign s ∷ signs ops style (At (right_of_prefix op)) a (Some (text.prefix style s)) vs) p ws rest
      (λ q vs behind k. one_word name (tells_prefix s (free (is_reserved s) (prefix_of ops s) op (w.pre_reserved s) is.1)) (law (At (right_of_prefix op)) (Some (text.prefix style s)) vs behind k)) h)
  tell_alone w plain s name a law (alone.Behind op) is position b ws rest h =
      tell_bar style position _ _ b (λ p. tell_brackets style (needs_brackets (place_of position) (operators.Behind op)) (λ vs. words ops style (At (left_of_postfix op)) a (text.operator style s ∷ vs)) (λ q vs. signs ops style (At (left_of_postfix op)) a q (operator_sign s ∷ vs)) p ws rest
      (λ q vs behind k. law (At (left_of_postfix op)) q _ _ (λ r. one_word name (tells_operator s (free (is_reserved s) (postfix_of ops s) op (w.post_reserved s) is.1)) (k _))) h)
  tell_alone w plain s name a law alone.Functional is position b ws rest h = tell_called style position s name _ _ b (law (At argument) (after marks.Open) _ _ (λ q. one_word tt tells_close (h _)))

  tell_list : (s : List ℕ) (a c : Tree) → Told a → Told c → (position : Position) (b : Option Word) (ws : List Word) (rest : List Sign) → Behind style ws rest → Tell style b (writing.pair_words style position s pair.List (λ p vs. words ops style p a vs) (λ p vs. words ops style p c vs) ws) (pair_signs style position s pair.List (λ p q vs. signs ops style p a q vs) (λ p q vs. signs ops style p c q vs) (kept position b) rest)
  tell_list s a c law other (At place) b ws rest h = one_word tt tells_open_square (law (At argument) (after marks.OpenSquare) _ _ (λ q. other Tail q _ _ (λ r. one_word tt tells_close_square (h _))))
  tell_list s a c law other Tail b ws rest h = one_word tt tells_comma (law (At argument) (after marks.Comma) _ _ (λ q. other Tail q _ _ h))

  tell_pair : IsSane ops → (s : List ℕ) → IsName s → (a c : Tree) → Told a → Told c → (f : Pair) → PairIs ops style s f → (position : Position) (b : Option Word) (ws : List Word) (rest : List Sign) → Behind style ws rest → Tell style b (writing.pair_words style position s f (λ p vs. words ops style p a vs) (λ p vs. words ops style p c vs) ws) (pair_signs style position s f (λ p q vs. signs ops style p a q vs) (λ p q vs. signs ops style p c q vs) (kept position b) rest)
  tell_pair w s name a c law other pair.List is position b ws rest h = tell_list s a c law other position b ws rest h
  tell_pair w s name a c law other (pair.Between op) is position b ws rest h =
      tell_bar style position _ _ b (λ p. tell_brackets style (needs_brackets (place_of position) (operators.Between op)) (λ vs. words ops style (At (left_of op)) a (text.operator style s ∷ words ops style (At (right_of op)) c vs)) (λ q vs. signs ops style (At (left_of op)) a q (operator_sign s ∷ signs ops style (At (right_of op)) c (Some (text.operator style s)) vs)) p ws rest
      (λ q vs behind k. law (At (left_of op)) q _ _ (λ r. one_word name (tells_operator s (free (is_reserved s) (infix_of ops s) op (w.in_reserved s) is.1)) (other (At (right_of op)) (Some (text.operator style s)) _ _ k))) h)
  tell_pair w s name a c law other pair.Functional is position b ws rest h =
      tell_called style position s name _ _ b (law (At argument) (after marks.Open) _ _ (λ q. one_word tt tells_comma (other (At argument) (after marks.Comma) _ _ (λ r. one_word tt tells_close (h _)))))

  abbrev AllTold : Trees → Type 0
  AllTold args = (ws : List Word) (rest : List Sign) → Behind style ws rest → Behind style (others ops style args ws) (other_signs ops style args rest)

  tell_none : AllTold none
  unfolding others other_signs
  tell_none ws rest h b = one_word tt tells_close (h _)

  tell_more : (a : Tree) (args : Trees) → Told a → AllTold args → AllTold (more a args)
  unfolding others other_signs
  tell_more a args law rests ws rest h b = one_word tt tells_comma (law (At argument) (after marks.Comma) _ _ (rests ws rest h))

  tell_var : (n : ℕ) → n < 2 ^ 64 → Told (var n)
  unfolding words signs
  tell_var n fits position b ws rest h = tell_bar style position _ _ b (λ p. one_word fits (tells_variable n) (h _))

  tell_int : (i : ℤ) → Fits (Integer i) → Told (int i)
  unfolding words signs
  tell_int i fits position b ws rest h = tell_bar style position _ _ b (λ p. tell_integer style i fits p ws rest h)

  tell_name : (s : List ℕ) → IsName s → Told (atom s)
  unfolding words signs
  tell_name s name position b ws rest h = tell_position (ends_list position s) s name position b ws rest h

  tell_no_args : (s : List ℕ) → IsName s → Told (compound s none)
  unfolding words signs
  tell_no_args s name position b ws rest h = tell_called style position s name _ _ b (one_word tt tells_close (h _))

  tell_one : IsSane ops → has_letters style ≡ false → (s : List ℕ) → IsName s → (a : Tree) → Told a → Told (compound s (more a none))
  unfolding words signs
  tell_one w plain s name a law position b ws rest h = tell_alone w plain s name a law (alone_form ops style s (int_of a)) (alone_is ops style s (int_of a)) position b ws rest h

  tell_two : IsSane ops → (s : List ℕ) → IsName s → (a c : Tree) → Told a → Told c → Told (compound s (more a (more c none)))
  unfolding words signs
  tell_two w s name a c law other position b ws rest h = tell_pair w s name a c law other (pair_form ops style s) (pair_is ops style s) position b ws rest h

  tell_many : (s : List ℕ) → IsName s → (a c d : Tree) (args : Trees) → Told a → Told c → AllTold (more d args) → Told (compound s (more a (more c (more d args))))
  unfolding words signs
  tell_many s name a c d args law other rests position b ws rest h =
      tell_called style position s name _ _ b (law (At argument) (after marks.Open) _ _ (λ q. one_word tt tells_comma (other (At argument) (after marks.Comma) _ _ (rests ws rest h))))

  mutual
    unfolding IsFit

    told : IsSane ops → has_letters style ≡ false → (t : Tree) → IsFit t → AllBelow (2 ^ 64) t → Told t
    told w plain (var n) h b = tell_var n b
    told w plain (int i) h b = tell_int i h
    told w plain (atom s) h b = tell_name s h
    told w plain (compound s none) h b = tell_no_args s h.0
    told w plain (compound s (more a none)) h b = tell_one w plain s h.0 a (told w plain a h.1.0 b.0)
    told w plain (compound s (more a (more c none))) h b = tell_two w s h.0 a c (told w plain a h.1.0 b.0) (told w plain c h.1.1.0 b.1.0)
    told w plain (compound s (more a (more c (more d args)))) h b = tell_many s h.0 a c d args (told w plain a h.1.0 b.0) (told w plain c h.1.1.0 b.1.0) (all_told w plain (more d args) h.1.1.1 b.1.1)

    all_told : IsSane ops → has_letters style ≡ false → (args : Trees) → AreFit args → EachBelow (2 ^ 64) args → AllTold args
    all_told w plain none h b = tell_none
    all_told w plain (more a args) h b = tell_more a args (told w plain a h.0 b.0) (all_told w plain args h.1 b.1)

  pub clause_told : IsSane ops → has_letters style ≡ false → (t : Tree) → IsFit t → AllBelow (2 ^ 64) t → Tell style None (words ops style (At whole) t []) (clause_signs ops style t)
  clause_told w plain t h b = told w plain t h b (At whole) None [] (tok.End ∷ []) (λ p. no_word)
