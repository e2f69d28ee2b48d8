-- Terms that differ in their variables alone are written with signs that differ in their variables alone.
use Rattle.std.proofs.Common.{◌≡◌, ◌+◌, ℕ, ℤ, pos, negsuc, List, [], ◌∷◌, Bool, true, false, cond, Option, Some, None, refl, sym, subst}
use Rattle.std.specs.Str.{bytes_eq}
use Rattle.plterm.specs.Tree.{Tree, Trees, var, int, atom, compound, none, more}
use Rattle.plterm.specs.Variables.{renamed, all_renamed}
use Rattle.plops.specs.declared.operator.Operator.TheVariants as operators
use Rattle.plops.specs.declared.table.OpTable.{OpTable}
use Rattle.plops.specs.Sane.{comma}
use Rattle.plread.specs.Signs.{Sign}
use Rattle.plread.specs.Signs as tok
use Rattle.plread.specs.Texts.{nil, curly}
use Rattle.plwrite.specs.declared.style.Style.{Style}
use Rattle.plwrite.specs.declared.text.Sign.TheVariants as marks
use Rattle.plwrite.specs.declared.place.Position.{Position}
use Rattle.plwrite.specs.declared.place.Position.TheVariants.{At, Tail}
use Rattle.plwrite.specs.declared.form.Alone.{Alone}
use Rattle.plwrite.specs.declared.form.Alone.TheVariants as alone
use Rattle.plwrite.specs.declared.form.Pair.{Pair}
use Rattle.plwrite.specs.declared.form.Pair.TheVariants as pair
use Rattle.plwrite.specs.Places.{whole, argument, right_of_prefix, left_of, right_of, left_of_postfix, needs_brackets, is_bracketed_atom, place_of}
use Rattle.plwrite.specs.Words.{Word, prefix, operator}
use Rattle.plwrite.specs.Writing.{int_of, alone_form, pair_form, ends_list}
use Rattle.pllaws.specs.Written.{is_direct, after, paren, name_sign, operator_sign, atom_signs, integer_signs, bracketed, behind_bar, position_signs, called_signs, alone_signs, list_signs, pair_signs, signs, other_signs, clause_signs}

abbrev pub IsNoVariable : Sign → Type 0
IsNoVariable (tok.Variable n) = ⊥
IsNoVariable s = Unit {0}

-- the same signs, but that the variables on the left have these numbers and one more, and those on the right these
pub data Alike : List Sign → List Sign → List ℕ → Type 0 where
  alike_end : Alike [] [] []
  alike_sign : {xs ys : List Sign} {ps : List ℕ} (s : Sign) → IsNoVariable s → Alike xs ys ps → Alike (s ∷ xs) (s ∷ ys) ps
  alike_variable : {xs ys : List Sign} {ps : List ℕ} (p : ℕ) → Alike xs ys ps → Alike (tok.Variable (1 + p) ∷ xs) (tok.Variable (0 + p) ∷ ys) (p ∷ ps)

alike_paren : (d : Bool) → IsNoVariable (paren d)
alike_paren true = tt
alike_paren false = tt

alike_operator : (b : Bool) (s : List ℕ) → IsNoVariable (cond b tok.Comma (name_sign s))
alike_operator true s = tt
alike_operator false s = tt

alike_integer : (i : ℤ) (b : Option Word) (xs ys : List Sign) (ps : List ℕ) → Alike xs ys ps → Alike (integer_signs i b xs) (integer_signs i b ys) ps
alike_integer (pos n) b xs ys ps h = alike_sign _ tt h
alike_integer (negsuc n) b xs ys ps h = alike_sign _ tt (alike_sign _ tt h)

alike_atom : (a b : Bool) (s : List ℕ) (xs ys : List Sign) (ps : List ℕ) → Alike xs ys ps →
    Alike (cond a (tok.OpenSquare ∷ tok.CloseSquare ∷ xs) (cond b (tok.OpenCurly ∷ tok.CloseCurly ∷ xs) (name_sign s ∷ xs))) (cond a (tok.OpenSquare ∷ tok.CloseSquare ∷ ys) (cond b (tok.OpenCurly ∷ tok.CloseCurly ∷ ys) (name_sign s ∷ ys))) ps
alike_atom true b s xs ys ps h = alike_sign _ tt (alike_sign _ tt h)
alike_atom false true s xs ys ps h = alike_sign _ tt (alike_sign _ tt h)
alike_atom false false s xs ys ps h = alike_sign _ tt h

-- signs before others, with these variables more
abbrev Both : (List Sign → List Sign) → (List Sign → List Sign) → (List ℕ → List ℕ) → Type 0
Both body other add = (xs ys : List Sign) (ps : List ℕ) → Alike xs ys ps → Alike (body xs) (other ys) (add ps)

alike_bar : (position : Position) (b : Option Word) (x y : Option Word → List Sign) (ps : List ℕ) → ((o : Option Word) → Alike (x o) (y o) ps) → Alike (behind_bar position x b) (behind_bar position y b) ps
alike_bar (At place) b x y ps h = h b
alike_bar Tail b x y ps h = alike_sign _ tt (h _)

alike_bracketed : (needed : Bool) (b : Option Word) (x y : Option Word → List Sign → List Sign) (add : List ℕ → List ℕ) → ((o : Option Word) → Both (x o) (y o) add) → Both (bracketed needed x b) (bracketed needed y b) add
alike_bracketed true b x y add h xs ys ps k = alike_sign _ (alike_paren (is_direct b 40)) (h _ _ _ _ (alike_sign tok.Close tt k))
alike_bracketed false b x y add h xs ys ps k = h b xs ys ps k

alike_called : (position : Position) (s : List ℕ) (b : Option Word) (x y : List Sign) (ps : List ℕ) → Alike x y ps → Alike (called_signs position s x b) (called_signs position s y b) ps
alike_called position s b x y ps h = alike_bar position b _ _ ps (λ o. alike_sign _ tt (alike_sign _ tt h))

pub int_of-renamed : (f : ℕ → ℕ) (t : Tree) → int_of (renamed f t) ≡ int_of t
int_of-renamed f (var n) = refl
int_of-renamed f (int i) = refl
int_of-renamed f (atom s) = refl
int_of-renamed f (compound s ts) = refl

-- the numbers of a tree's variables, from the left to the right, before others
abbrev mutual
  pub numbers : (ℕ → ℕ) → Tree → List ℕ → List ℕ
  numbers number (var v) ps = number v ∷ ps
  numbers number (int i) ps = ps
  numbers number (atom s) ps = ps
  numbers number (compound s ts) ps = all_numbers number ts ps

  pub all_numbers : (ℕ → ℕ) → Trees → List ℕ → List ℕ
  all_numbers number none ps = ps
  all_numbers number (more t ts) ps = numbers number t (all_numbers number ts ps)

module _ (ops : OpTable) (style : Style) (number : ℕ → ℕ) where
  abbrev left : Tree → Tree
  left t = renamed (λ v. 1 + number v) t

  abbrev right : Tree → Tree
  right t = renamed (λ v. 0 + number v) t

  abbrev AlikeAt : Tree → Type 0
  AlikeAt t = (position : Position) (b : Option Word) → Both (signs ops style position (left t) b) (signs ops style position (right t) b) (numbers number t)

  alike_position : (e : Bool) (s : List ℕ) (position : Position) (b : Option Word) → Both (position_signs ops style position e s b) (position_signs ops style position e s b) (λ ps. ps)
  alike_position true s position b xs ys ps h = h
  alike_position false s position b xs ys ps h =
      alike_bar position b _ _ ps (λ o. alike_bracketed (is_bracketed_atom ops style (place_of position) s) o (λ p ws. atom_signs s ws) (λ p ws. atom_signs s ws) (λ qs. qs) (λ p. alike_atom (bytes_eq s nil) (bytes_eq s curly) s) xs ys ps h)

  alike_alone : (s : List ℕ) (a : Tree) → AlikeAt a → (f : Alone) (position : Position) (b : Option Word) → Both (alone_signs style position s f (λ p q ws. signs ops style p (left a) q ws) b) (alone_signs style position s f (λ p q ws. signs ops style p (right a) q ws) b) (numbers number a)
  alike_alone s a law (alone.Letter n) position b xs ys ps h = alike_called position s b _ _ _ (law (At argument) (after marks.Open) _ _ _ (alike_sign tok.Close tt h))
  alike_alone s a law alone.Curly position b xs ys ps h = alike_bar position b _ _ _ (λ o. alike_sign _ tt (law (At whole) (after marks.OpenCurly) _ _ _ (alike_sign tok.CloseCurly tt h)))
  alike_alone s a law (alone.Before op) position b xs ys ps h =
      alike_bar position b _ _ _ (λ o. alike_bracketed (needs_brackets (place_of position) (operators.Before op)) o (λ q ws. name_sign s ∷ signs ops style (At (right_of_prefix op)) (left a) (Some (prefix style s)) ws) (λ q ws. name_sign s ∷ signs ops style (At (right_of_prefix op)) (right a) (Some (prefix style s)) ws) (numbers number a)
      (λ q us vs qs k. alike_sign _ tt (law (At (right_of_prefix op)) (Some (prefix style s)) us vs qs k)) xs ys ps h)
  alike_alone s a law (alone.Behind op) position b xs ys ps h =
      alike_bar position b _ _ _ (λ o. alike_bracketed (needs_brackets (place_of position) (operators.Behind op)) o (λ q ws. signs ops style (At (left_of_postfix op)) (left a) q (operator_sign s ∷ ws)) (λ q ws. signs ops style (At (left_of_postfix op)) (right a) q (operator_sign s ∷ ws)) (numbers number a)
      (λ q us vs qs k. law (At (left_of_postfix op)) q _ _ qs (alike_sign (operator_sign s) (alike_operator (bytes_eq s comma) s) k)) xs ys ps h)
  alike_alone s a law alone.Functional position b xs ys ps h = alike_called position s b _ _ _ (law (At argument) (after marks.Open) _ _ _ (alike_sign tok.Close tt h))

  abbrev two_numbers : Tree → Tree → List ℕ → List ℕ
  two_numbers a c ps = numbers number a (numbers number c ps)

  alike_list : (a c : Tree) → AlikeAt a → AlikeAt c → (position : Position) → Both (list_signs position (λ p q ws. signs ops style p (left a) q ws) (λ p q ws. signs ops style p (left c) q ws)) (list_signs position (λ p q ws. signs ops style p (right a) q ws) (λ p q ws. signs ops style p (right c) q ws)) (two_numbers a c)
  alike_list a c law other (At place) xs ys ps h = alike_sign _ tt (law (At argument) (after marks.OpenSquare) _ _ _ (other Tail None _ _ _ (alike_sign tok.CloseSquare tt h)))
  alike_list a c law other Tail xs ys ps h = alike_sign _ tt (law (At argument) (after marks.Comma) _ _ _ (other Tail None _ _ _ h))

  alike_pair : (s : List ℕ) (a c : Tree) → AlikeAt a → AlikeAt c → (f : Pair) (position : Position) (b : Option Word) → Both (pair_signs style position s f (λ p q ws. signs ops style p (left a) q ws) (λ p q ws. signs ops style p (left c) q ws) b) (pair_signs style position s f (λ p q ws. signs ops style p (right a) q ws) (λ p q ws. signs ops style p (right c) q ws) b) (two_numbers a c)
  alike_pair s a c law other pair.List position b xs ys ps h = alike_list a c law other position xs ys ps h
  alike_pair s a c law other (pair.Between op) position b xs ys ps h =
      alike_bar position b _ _ _ (λ o. alike_bracketed (needs_brackets (place_of position) (operators.Between op)) o (λ q ws. signs ops style (At (left_of op)) (left a) q (operator_sign s ∷ signs ops style (At (right_of op)) (left c) (Some (operator style s)) ws)) (λ q ws. signs ops style (At (left_of op)) (right a) q (operator_sign s ∷ signs ops style (At (right_of op)) (right c) (Some (operator style s)) ws)) (two_numbers a c)
      (λ q us vs qs k. law (At (left_of op)) q _ _ _ (alike_sign (operator_sign s) (alike_operator (bytes_eq s comma) s) (other (At (right_of op)) (Some (operator style s)) _ _ qs k))) xs ys ps h)
  alike_pair s a c law other pair.Functional position b xs ys ps h =
      alike_called position s b _ _ _ (law (At argument) (after marks.Open) _ _ _ (alike_sign tok.Comma tt (other (At argument) (after marks.Comma) _ _ _ (alike_sign tok.Close tt h))))

  abbrev AllAlike : Trees → Type 0
  AllAlike ts = Both (other_signs ops style (all_renamed (λ v. 1 + number v) ts)) (other_signs ops style (all_renamed (λ v. 0 + number v) ts)) (all_numbers number ts)

  alike_none : AllAlike none
  unfolding other_signs
  alike_none xs ys ps h = alike_sign tok.Close tt h

  alike_more : (a : Tree) (ts : Trees) → AlikeAt a → AllAlike ts → AllAlike (more a ts)
  unfolding other_signs
  alike_more a ts law rests xs ys ps h = alike_sign tok.Comma tt (law (At argument) (after marks.Comma) _ _ _ (rests xs ys ps h))

  alike_var : (n : ℕ) → AlikeAt (var n)
  unfolding signs
  alike_var n position b xs ys ps h = alike_bar position b _ _ _ (λ o. alike_variable (number n) h)

  alike_int : (i : ℤ) → AlikeAt (int i)
  unfolding signs
  alike_int i position b xs ys ps h = alike_bar position b _ _ _ (λ o. alike_integer i o xs ys ps h)

  alike_name : (s : List ℕ) → AlikeAt (atom s)
  unfolding signs
  alike_name s position b xs ys ps h = alike_position (ends_list position s) s position b xs ys ps h

  alike_no_args : (s : List ℕ) → AlikeAt (compound s none)
  unfolding signs
  alike_no_args s position b xs ys ps h = alike_called position s b _ _ ps (alike_sign tok.Close tt h)

  alike_one : (s : List ℕ) (a : Tree) → AlikeAt a → AlikeAt (compound s (more a none))
  unfolding signs
  alike_one s a law position b xs ys ps h =
      let form : Option ℤ → Alone = λ v. alone_form ops style s v in
      let same : Alike (alone_signs style position s (form (int_of a)) (λ p q ws. signs ops style p (left a) q ws) b xs) (alone_signs style position s (form (int_of a)) (λ p q ws. signs ops style p (right a) q ws) b ys) (numbers number a ps) =
      alike_alone s a law (form (int_of a)) position b xs ys ps h in
      subst (λ v. Alike (alone_signs style position s (form v) (λ p q ws. signs ops style p (left a) q ws) b xs) (alone_signs style position s (form (int_of (right a))) (λ p q ws. signs ops style p (right a) q ws) b ys) (numbers number a ps)) (sym (int_of-renamed (λ v. 1 + number v) a))
      (subst (λ v. Alike (alone_signs style position s (form (int_of a)) (λ p q ws. signs ops style p (left a) q ws) b xs) (alone_signs style position s (form v) (λ p q ws. signs ops style p (right a) q ws) b ys) (numbers number a ps)) (sym (int_of-renamed (λ v. 0 + number v) a)) same)

  alike_two : (s : List ℕ) (a c : Tree) → AlikeAt a → AlikeAt c → AlikeAt (compound s (more a (more c none)))
  unfolding signs
  alike_two s a c law other position b xs ys ps h = alike_pair s a c law other (pair_form ops style s) position b xs ys ps h

  alike_many : (s : List ℕ) (a c d : Tree) (ts : Trees) → AlikeAt a → AlikeAt c → AllAlike (more d ts) → AlikeAt (compound s (more a (more c (more d ts))))
  unfolding signs
  alike_many s a c d ts law other rests position b xs ys ps h =
      alike_called position s b _ _ _ (law (At argument) (after marks.Open) _ _ _ (alike_sign tok.Comma tt (other (At argument) (after marks.Comma) _ _ _ (rests xs ys ps h))))

  mutual
    alike : (t : Tree) → AlikeAt t
    alike (var n) = alike_var n
    alike (int i) = alike_int i
    alike (atom s) = alike_name s
    alike (compound s none) = alike_no_args s
    alike (compound s (more a none)) = alike_one s a (alike a)
    alike (compound s (more a (more c none))) = alike_two s a c (alike a) (alike c)
    alike (compound s (more a (more c (more d ts)))) = alike_many s a c d ts (alike a) (alike c) (all_alike (more d ts))

    all_alike : (ts : Trees) → AllAlike ts
    all_alike none = alike_none
    all_alike (more a ts) = alike_more a ts (alike a) (all_alike ts)

  pub clause_alike : (t : Tree) → Alike (clause_signs ops style (left t)) (clause_signs ops style (right t)) (numbers number t [])
  clause_alike t = alike t (At whole) None _ _ _ (alike_sign tok.End tt alike_end)
