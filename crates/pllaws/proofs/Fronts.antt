-- What the first sign decides.
use Rattle.std.proofs.Common.{sym, ◌≡◌, ◌≤◌, ◌<◌, ◌⊎◌, inl, inr, ◌&&◌, ◌||◌, not, ◌==◌, decimal, nat_lt, nat_le, Bool, true, false, cond, arith, ℕ, suc, pos, negsuc, ℤ, List, ◌∷◌, Option, Some, None, refl, ap, ◌∙◌}
use Rattle.std.specs.Str.{bytes_eq}
use Rattle.std.proofs.lemmas.Bool.{leb-true, le-leb, lt-leb, lt-ltb, false≢true}
use Rattle.std.proofs.lemmas.Bool.Decides.{nat_tests}
use Rattle.plterm.specs.Tree.{var, int, atom}
use Rattle.plterm.specs.Characters.{is_symbol}
use Rattle.plops.specs.declared.operator.Prefix.{Prefix}
use Rattle.plops.specs.declared.operator.Infix.{Infix}
use Rattle.plops.specs.declared.operator.Postfix.{Postfix}
use Rattle.plops.specs.declared.operator.Operator.{Operator}
use Rattle.plops.specs.declared.operator.Operator.TheVariants as operators
use Rattle.plops.specs.declared.table.OpTable.{OpTable}
use Rattle.plops.specs.Tables.{prefix_of, infix_of, postfix_of}
use Rattle.plops.specs.Sane.{comma, comma_op, IsSane}
use Rattle.plops.proofs.Names.{named_itself}
use Rattle.plread.specs.Signs.{Sign}
use Rattle.plread.specs.Signs as tok
use Rattle.plread.specs.Texts.{nil, curly, minus}
use Rattle.plread.specs.Reading.{Stands, Opens, Calls, Before, NoStart, Next, Between, Behind, Stop, called, joined, signed, begins, before, uncalled, name_start, word_start, fits, between, behind, start_of, next_of}
use Rattle.plwrite.specs.declared.style.Style.{Style}
use Rattle.plwrite.specs.declared.text.Edge.{Edge}
use Rattle.plwrite.specs.declared.text.Role.TheVariants.{PrefixOperator, PrefixMinus}
use Rattle.plwrite.specs.Names.{is_bare}
use Rattle.plwrite.specs.Words.{Word, first_byte, edge_of, is_letter, is_held_off, touches, prefix}
use Rattle.plwrite.specs.declared.place.TermPlace.{TermPlace}
use Rattle.plwrite.specs.Places.{needs_brackets, left_of, left_of_postfix, priority}
use Rattle.pllaws.proofs.Digits.{first_digit}
use Rattle.pllaws.specs.Written.{is_direct, paren, operator_sign, name_sign, integer_signs, atom_signs, Fits}

pub start_paren : (ops : OpTable) (max : ℕ) (o : Bool) (ts : List Sign) → start_of ops max (paren o ∷ ts) ≡ Opens ts
unfolding start_of
start_paren ops max true ts = refl
start_paren ops max false ts = refl

pub start_variable : (ops : OpTable) (max n : ℕ) (ts : List Sign) → start_of ops max (tok.Variable n ∷ ts) ≡ Stands (var n) ts
unfolding start_of
start_variable ops max n ts = refl

pub start_integer : (ops : OpTable) (max : ℕ) (i : ℤ) (o : Option Word) (ts : List Sign) → Fits i → start_of ops max (integer_signs i o ts) ≡ Stands (int i) ts
unfolding start_of
start_integer ops max (pos n) o ts h = ap (λ b. cond b (Stands (int (pos n)) ts) NoStart) (lt-ltb n 9223372036854775808 h)
start_integer ops max (negsuc n) o ts h = ap (λ b. cond b (Stands (int (negsuc n)) ts) NoStart) (le-leb (suc n) 9223372036854775808 (omega arith))

pub no_sign : (n : List ℕ) (bare : Bool) (ts : List Sign) → joined ts ≡ None → signed n bare ts ≡ None
no_sign n bare ts e = chosen (bare && bytes_eq n minus) (joined ts) e where
  chosen : (b : Bool) (o : Option (ℕ × List Sign)) → o ≡ None → cond b o None ≡ None
  chosen true o h = h
  chosen false o h = refl

pub start_call : (ops : OpTable) (max : ℕ) (n : List ℕ) (bare : Bool) (ts : List Sign) → start_of ops max (tok.Name n bare ∷ tok.OpenCall ∷ ts) ≡ Calls n ts
unfolding start_of
start_call ops max n bare ts = ap (word_start ops max n (tok.OpenCall ∷ ts)) (no_sign n bare (tok.OpenCall ∷ ts) refl)

start_name : (ops : OpTable) (max : ℕ) (n : List ℕ) (bare : Bool) (ts : List Sign) → called ts ≡ None → signed n bare ts ≡ None → start_of ops max (tok.Name n bare ∷ ts) ≡ uncalled ops max n ts (prefix_of ops n)
unfolding start_of
start_name ops max n bare ts c j = ap (word_start ops max n ts) j ∙ ap (name_start ops max n ts) c

pub start_before : (ops : OpTable) (max : ℕ) (n : List ℕ) (bare : Bool) (op : Prefix) (ts : List Sign) → called ts ≡ None → signed n bare ts ≡ None → prefix_of ops n ≡ Some op → begins ops ts ≡ true → op.priority ≤ max → start_of ops max (tok.Name n bare ∷ ts) ≡ Before n op ts
start_before ops max n bare op ts c j p b h =
    start_name ops max n bare ts c j ∙ ap (uncalled ops max n ts) p ∙ ap (λ x. cond x (before max op n ts) (Stands (atom n) ts)) b
    ∙ ap (λ x. cond x (Before n op ts) NoStart) (le-leb op.priority max h)

quiet_atom : (ops : OpTable) (max : ℕ) (n : List ℕ) (ts : List Sign) (o : Option Prefix) → (o ≡ None) ⊎ (begins ops ts ≡ false) → uncalled ops max n ts o ≡ Stands (atom n) ts
quiet_atom ops max n ts None h = refl
quiet_atom ops max n ts (Some op) (inl e) = absurd cc
quiet_atom ops max n ts (Some op) (inr b) = ap (λ x. cond x (before max op n ts) (Stands (atom n) ts)) b

start_of_name : (ops : OpTable) (max : ℕ) (n : List ℕ) (bare : Bool) (ts : List Sign) → called ts ≡ None → joined ts ≡ None → (prefix_of ops n ≡ None) ⊎ (begins ops ts ≡ false) → start_of ops max (tok.Name n bare ∷ ts) ≡ Stands (atom n) ts
start_of_name ops max n bare ts c j h = start_name ops max n bare ts c (no_sign n bare ts j) ∙ quiet_atom ops max n ts (prefix_of ops n) h

pub start_atom : (ops : OpTable) (max : ℕ) (n : List ℕ) (ts : List Sign) → called ts ≡ None → joined ts ≡ None → (prefix_of ops n ≡ None) ⊎ (begins ops ts ≡ false) → start_of ops max (atom_signs n ts) ≡ Stands (atom n) ts
unfolding start_of
start_atom ops max n ts c j h = first (bytes_eq n nil) (named_itself n nil) (bytes_eq n curly) (named_itself n curly) where
  empty : (m : List ℕ) → n ≡ m → Stands (atom m) ts ≡ Stands (atom n) ts
  empty m e = ap (λ k. Stands (atom k) ts) (sym e)

  at_nil : start_of ops max (tok.OpenSquare ∷ tok.CloseSquare ∷ ts) ≡ Stands (atom nil) ts
  at_nil = refl

  at_curly : start_of ops max (tok.OpenCurly ∷ tok.CloseCurly ∷ ts) ≡ Stands (atom curly) ts
  at_curly = refl

  first : (a : Bool) → (a ≡ true → n ≡ nil) → (b : Bool) → (b ≡ true → n ≡ curly) → start_of ops max (cond a (tok.OpenSquare ∷ tok.CloseSquare ∷ ts) (cond b (tok.OpenCurly ∷ tok.CloseCurly ∷ ts) (name_sign n ∷ ts))) ≡ Stands (atom n) ts
  first true e b f = at_nil ∙ empty nil (e refl)
  first false e true f = at_curly ∙ empty curly (f refl)
  first false e false f = start_of_name ops max n _ ts c j h

fits_true : (p left max given : ℕ) → p ≤ max → given ≤ left → fits p left max given ≡ true
fits_true p left max given h k = ap (λ x. x && nat_le given left) (le-leb p max h) ∙ le-leb given left k

fits_false : (p left max given : ℕ) → max < p → fits p left max given ≡ false
fits_false p left max given h = ap (λ x. x && nat_le given left) (lt-leb p max h)

-- the sign of an operator is read by the operator's name
op_reads : (ops : OpTable) (max p : ℕ) (n : List ℕ) (ts : List Sign) → next_of ops max p (operator_sign n ∷ ts) ≡ between (infix_of ops n) (postfix_of ops n) max p n ts
unfolding next_of
op_reads ops max p n ts = chosen (bytes_eq n comma) (named_itself n comma) where
  chosen : (b : Bool) → (b ≡ true → n ≡ comma) → next_of ops max p (cond b tok.Comma (name_sign n) ∷ ts) ≡ between (infix_of ops n) (postfix_of ops n) max p n ts
  chosen true e = ap (λ m. between (infix_of ops m) (postfix_of ops m) max p m ts) (sym (e refl))
  chosen false e = refl

pub next_in : (ops : OpTable) (max p : ℕ) (n : List ℕ) (op : Infix) (ts : List Sign) → infix_of ops n ≡ Some op → op.priority ≤ max → p ≤ op.left → next_of ops max p (operator_sign n ∷ ts) ≡ Between n op ts
next_in ops max p n op ts e h k =
    op_reads ops max p n ts ∙ ap (λ o. between o (postfix_of ops n) max p n ts) e ∙ ap (λ x. cond x (Between n op ts) (behind (postfix_of ops n) max p n ts)) (fits_true op.priority op.left max p h k)

pub next_post : (ops : OpTable) (max p : ℕ) (n : List ℕ) (op : Postfix) (ts : List Sign) → infix_of ops n ≡ None → postfix_of ops n ≡ Some op → op.priority ≤ max → p ≤ op.left → next_of ops max p (operator_sign n ∷ ts) ≡ Behind n op ts
next_post ops max p n op ts i e h k =
    op_reads ops max p n ts ∙ ap (λ o. between o (postfix_of ops n) max p n ts) i ∙ ap (λ o. behind o max p n ts) e ∙ ap (λ x. cond x (Behind n op ts) Stop) (fits_true op.priority op.left max p h k)

pub next_not : (ops : OpTable) (max p : ℕ) (n : List ℕ) (op : Infix) (ts : List Sign) → infix_of ops n ≡ Some op → postfix_of ops n ≡ None → max < op.priority → next_of ops max p (operator_sign n ∷ ts) ≡ Stop
next_not ops max p n op ts e f h =
    op_reads ops max p n ts ∙ ap (λ o. between o (postfix_of ops n) max p n ts) e ∙ ap (λ x. cond x (Between n op ts) (behind (postfix_of ops n) max p n ts)) (fits_false op.priority op.left max p h)
    ∙ ap (λ o. behind o max p n ts) f

pub next_post_not : (ops : OpTable) (max p : ℕ) (n : List ℕ) (op : Postfix) (ts : List Sign) → infix_of ops n ≡ None → postfix_of ops n ≡ Some op → max < op.priority → next_of ops max p (operator_sign n ∷ ts) ≡ Stop
next_post_not ops max p n op ts i e h =
    op_reads ops max p n ts ∙ ap (λ o. between o (postfix_of ops n) max p n ts) i ∙ ap (λ o. behind o max p n ts) e ∙ ap (λ x. cond x (Behind n op ts) Stop) (fits_false op.priority op.left max p h)

-- what a postfix operator's name is besides
pub post_alone : (ops : OpTable) (n : List ℕ) (op : Postfix) → IsSane ops → postfix_of ops n ≡ Some op → infix_of ops n ≡ None
post_alone ops n op s e = other (infix_of ops n) refl where
  other : (o : Option Infix) → infix_of ops n ≡ o → o ≡ None
  other None h = refl
  other (Some x) h = let no : None ≡ Some op = sym (s.in_alone n x h) ∙ e in absurd cc

-- no bracket and no integer is directly behind what stands before an operator
pub called_op : (n : List ℕ) (ts : List Sign) → called (operator_sign n ∷ ts) ≡ None
called_op n ts = chosen (bytes_eq n comma) where
  chosen : (b : Bool) → called (cond b tok.Comma (name_sign n) ∷ ts) ≡ None
  chosen true = refl
  chosen false = refl

pub joined_op : (n : List ℕ) (ts : List Sign) → joined (operator_sign n ∷ ts) ≡ None
joined_op n ts = chosen (bytes_eq n comma) where
  chosen : (b : Bool) → joined (cond b tok.Comma (name_sign n) ∷ ts) ≡ None
  chosen true = refl
  chosen false = refl

-- a sign that ends whatever stands before it
abbrev pub Ends : Sign → Type 0
Ends tok.Close = Unit {0}
Ends tok.CloseSquare = Unit {0}
Ends tok.CloseCurly = Unit {0}
Ends tok.Bar = Unit {0}
Ends tok.End = Unit {0}
Ends s = ⊥

pub next_end : (ops : OpTable) (max p : ℕ) (s : Sign) (ts : List Sign) → Ends s → next_of ops max p (s ∷ ts) ≡ Stop
unfolding next_of
next_end ops max p tok.Close ts h = refl
next_end ops max p tok.CloseSquare ts h = refl
next_end ops max p tok.CloseCurly ts h = refl
next_end ops max p tok.Bar ts h = refl
next_end ops max p tok.End ts h = refl
next_end ops max p s ts h = absurd h

pub begins_end : (ops : OpTable) (s : Sign) (ts : List Sign) → Ends s → (called (s ∷ ts) ≡ None) × (joined (s ∷ ts) ≡ None) × (begins ops (s ∷ ts) ≡ false)
begins_end ops tok.Close ts h = (refl, refl, refl)
begins_end ops tok.CloseSquare ts h = (refl, refl, refl)
begins_end ops tok.CloseCurly ts h = (refl, refl, refl)
begins_end ops tok.Bar ts h = (refl, refl, refl)
begins_end ops tok.End ts h = (refl, refl, refl)
begins_end ops s ts h = absurd h

comma_reads : (ops : OpTable) (max p : ℕ) (ts : List Sign) → next_of ops max p (tok.Comma ∷ ts) ≡ between (infix_of ops comma) (postfix_of ops comma) max p comma ts
unfolding next_of
comma_reads ops max p ts = refl

pub next_comma : (ops : OpTable) → IsSane ops → (max p : ℕ) (ts : List Sign) → max < 1000 → next_of ops max p (tok.Comma ∷ ts) ≡ Stop
next_comma ops s max p ts h =
    comma_reads ops max p ts ∙ ap (λ o. between o (postfix_of ops comma) max p comma ts) s.in_comma ∙ ap (λ x. cond x (Between comma comma_op ts) (behind (postfix_of ops comma) max p comma ts)) (fits_false 1000 999 max p h)
    ∙ ap (λ o. behind o max p comma ts) (s.in_alone comma comma_op s.in_comma)

-- ---- behind a prefix operator

or_right : (a b : Bool) → b ≡ true → (a || b) ≡ true
or_right true b h = refl
or_right false b h = h

held_off : (edge : Edge) (next : ℕ) → is_held_off edge.role next ≡ true → touches edge next ≡ true
held_off edge next h =
    or_right (is_letter edge.last && is_letter next) _ (or_right (is_symbol edge.last && is_symbol next) _ (or_right ((is_letter edge.last || (edge.last == 39)) && (next == 39)) _ h))

no_bracket : (minus_first : Bool) → is_held_off (cond minus_first PrefixMinus PrefixOperator) 40 ≡ true
no_bracket true = refl
no_bracket false = refl

-- no bracket stands directly behind it
pub bracket_apart : (style : Style) (n : List ℕ) → is_direct (Some (prefix style n)) 40 ≡ false
bracket_apart style n = ap not (held_off (edge_of (prefix style n)) 40 (no_bracket (bytes_eq n minus)))

no_digit : (b : Bool) (k : ℕ) → b ≡ true → is_held_off (cond b PrefixMinus PrefixOperator) (first_byte (decimal k)) ≡ true
no_digit true k h = or_right (first_byte (decimal k) == 40) _ (first_digit k)
no_digit false k h = absurd (false≢true h)

abbrev pub no_integer : Option (ℕ × List Sign)
no_integer = None

neither : (b : Bool) → cond b no_integer no_integer ≡ no_integer
neither true = refl
neither false = refl

no_minus : (b : Bool) (o : Option (ℕ × List Sign)) → cond (b && false) o None ≡ None
no_minus true o = refl
no_minus false o = refl

pub unsigned : (n : List ℕ) → cond (is_bare n && bytes_eq n minus) no_integer no_integer ≡ no_integer
unsigned n = neither (is_bare n && bytes_eq n minus)

abbrev digit_direct : Style → List ℕ → ℕ → Bool
digit_direct style n k = is_direct (Some (prefix style n)) (first_byte (decimal k))

digit_apart : (style : Style) (n : List ℕ) (k : ℕ) → bytes_eq n minus ≡ true → digit_direct style n k ≡ false
digit_apart style n k e = ap not (held_off (edge_of (prefix style n)) (first_byte (decimal k)) (no_digit (bytes_eq n minus) k e))

chosen : (style : Style) (n : List ℕ) (k : ℕ) (rest : List Sign) (b : Bool) → bytes_eq n minus ≡ b → cond (is_bare n && b) (joined (tok.Integer k (digit_direct style n k) ∷ rest)) None ≡ None
chosen style n k rest true e = ap (λ d. cond (is_bare n && true) (joined (tok.Integer k d ∷ rest)) None) (digit_apart style n k e) ∙ neither (is_bare n && true)
chosen style n k rest false e = no_minus (is_bare n) _

-- nor an integer behind a sign
pub integer_apart : (style : Style) (n : List ℕ) (k : ℕ) (rest : List Sign) → signed n (is_bare n) (tok.Integer k (is_direct (Some (prefix style n)) (first_byte (decimal k))) ∷ rest) ≡ None
integer_apart style n k rest = chosen style n k rest (bytes_eq n minus) refl

-- what stops an operand stops it where less fits
lower_choice : (b c : Bool) (x y z : Next) → (b ≡ true → c ≡ true) → (x ≡ Stop → ⊥) → (y ≡ Stop → z ≡ Stop) → cond c x y ≡ Stop → cond b x z ≡ Stop
lower_choice true true x y z m n k h = absurd (n h)
lower_choice true false x y z m n k h = absurd (false≢true (m refl))
lower_choice false true x y z m n k h = absurd (n h)
lower_choice false false x y z m n k h = k h

lower_and : (a b c : Bool) → (a ≡ true → b ≡ true) → (a && c) ≡ true → (b && c) ≡ true
lower_and true b c m h = ap (λ x. x && c) (m refl) ∙ h
lower_and false b c m h = absurd (false≢true h)

lower_fits : (p left low max given : ℕ) → low ≤ max → fits p left low given ≡ true → fits p left max given ≡ true
lower_fits p left low max given h e = lower_and (nat_le p low) (nat_le p max) (nat_le given left) (λ t. le-leb p max (omega (arith, leb-true p low t))) e

behind_lower : (o : Option Postfix) (low max p : ℕ) (n : List ℕ) (ts : List Sign) → low ≤ max → behind o max p n ts ≡ Stop → behind o low p n ts ≡ Stop
behind_lower None low max p n ts h e = refl
behind_lower (Some op) low max p n ts h e = lower_choice (fits op.priority op.left low p) (fits op.priority op.left max p) (Behind n op ts) Stop Stop (lower_fits op.priority op.left low max p h) (λ x. cc) (λ x. x) e

between_lower : (o : Option Infix) (q : Option Postfix) (low max p : ℕ) (n : List ℕ) (ts : List Sign) → low ≤ max → between o q max p n ts ≡ Stop → between o q low p n ts ≡ Stop
between_lower None q low max p n ts h e = behind_lower q low max p n ts h e
between_lower (Some op) q low max p n ts h e =
    lower_choice (fits op.priority op.left low p) (fits op.priority op.left max p) (Between n op ts) (behind q max p n ts) (behind q low p n ts) (lower_fits op.priority op.left low max p h) (λ x. cc) (behind_lower q low max p n ts h) e

pub next_lower : (ops : OpTable) (low max p : ℕ) (ts : List Sign) → low ≤ max → next_of ops max p ts ≡ Stop → next_of ops low p ts ≡ Stop
unfolding next_of
next_lower ops low max p (tok.Name n bare ∷ ts) h e = between_lower (infix_of ops n) (postfix_of ops n) low max p n ts h e
next_lower ops low max p (tok.Comma ∷ ts) h e = between_lower (infix_of ops comma) (postfix_of ops comma) low max p comma ts h e
next_lower ops low max p ts h e = refl

-- no operator before these signs is taken by an operand of at most this priority
abbrev pub Stops : OpTable → ℕ → List Sign → Type 0
Stops ops max rest = (p : ℕ) → p ≤ max → next_of ops max p rest ≡ Stop

pub Stops-lower : (ops : OpTable) (low max : ℕ) (rest : List Sign) → low ≤ max → Stops ops max rest → Stops ops low rest
Stops-lower ops low max rest h s p k = next_lower ops low max p rest h (s p (omega arith))

-- the operator that a compound is written with, if it is
abbrev pub OpStops : OpTable → Option Operator → List Sign → Type 0
OpStops ops None rest = Unit {0}
OpStops ops (Some (operators.Before op)) rest = Stops ops op.right rest
OpStops ops (Some (operators.Between op)) rest = Stops ops op.right rest
OpStops ops (Some (operators.Behind op)) rest = Unit {0}

abbrev pub op_priority : Option Operator → ℕ
op_priority None = 0
op_priority (Some op) = priority op

abbrev pub op_needs : TermPlace → Option Operator → Bool
op_needs place None = false
op_needs place (Some op) = needs_brackets place op

abbrev pub SaneOp : Option Operator → Type 0
SaneOp None = Unit {0}
SaneOp (Some (operators.Before op)) = (op.right ≤ op.priority) × (op.priority ≤ 1200)
SaneOp (Some (operators.Between op)) = (op.right ≤ op.priority) × (op.priority ≤ 1200)
SaneOp (Some (operators.Behind op)) = (op.left ≤ op.priority) × (op.priority ≤ 1200)

pub below_top : (o : Option Operator) → SaneOp o → op_priority o ≤ 1200
below_top None s = omega arith
below_top (Some (operators.Before op)) s = s.1
below_top (Some (operators.Between op)) s = s.1
below_top (Some (operators.Behind op)) s = s.1

or_left : (p max : ℕ) (x : Bool) → (nat_lt max p || x) ≡ false → p ≤ max
or_left p max x h = grind (arith, nat_tests)

pub below_max : (place : TermPlace) (o : Option Operator) → op_needs place o ≡ false → op_priority o ≤ place.most
below_max place None e = omega arith
below_max place (Some op) e = or_left (priority op) place.most _ e

reach : (top left p right : ℕ) → right ≤ p → left ≤ top → (nat_lt left p || ((left == top) && ((right == p) && (p == left)))) ≡ false → right < top
reach top left p right h k e = grind (arith, nat_tests)

-- an operator is not taken by the right end of its left operand
pub left_stops : (ops : OpTable) (n : List ℕ) (op : Infix) (o : Option Operator) (ts : List Sign) → IsSane ops → infix_of ops n ≡ Some op → SaneOp o → op_needs (left_of op) o ≡ false → OpStops ops o (operator_sign n ∷ ts)
left_stops ops n op None ts s e f b = tt
left_stops ops n op (Some (operators.Before own)) ts s e f b = λ p h. next_not ops own.right p n op ts e (s.in_alone n op e) (reach op.priority op.left own.priority own.right f.0 (s.in_left n op e) b)
left_stops ops n op (Some (operators.Between own)) ts s e f b = λ p h. next_not ops own.right p n op ts e (s.in_alone n op e) (reach op.priority op.left own.priority own.right f.0 (s.in_left n op e) b)
left_stops ops n op (Some (operators.Behind own)) ts s e f b = tt

pub post_stops : (ops : OpTable) (n : List ℕ) (op : Postfix) (o : Option Operator) (ts : List Sign) → IsSane ops → postfix_of ops n ≡ Some op → SaneOp o → op_needs (left_of_postfix op) o ≡ false → OpStops ops o (operator_sign n ∷ ts)
post_stops ops n op None ts s e f b = tt
post_stops ops n op (Some (operators.Before own)) ts s e f b = λ p h. next_post_not ops own.right p n op ts (post_alone ops n op s e) e (reach op.priority op.left own.priority own.right f.0 (s.post_left n op e) b)
post_stops ops n op (Some (operators.Between own)) ts s e f b = λ p h. next_post_not ops own.right p n op ts (post_alone ops n op s e) e (reach op.priority op.left own.priority own.right f.0 (s.post_left n op e) b)
post_stops ops n op (Some (operators.Behind own)) ts s e f b = tt

pub end_stops : (ops : OpTable) (o : Option Operator) (x : Sign) (ts : List Sign) → Ends x → OpStops ops o (x ∷ ts)
end_stops ops None x ts h = tt
end_stops ops (Some (operators.Before op)) x ts h = λ p k. next_end ops op.right p x ts h
end_stops ops (Some (operators.Between op)) x ts h = λ p k. next_end ops op.right p x ts h
end_stops ops (Some (operators.Behind op)) x ts h = tt

pub comma_stops : (ops : OpTable) → IsSane ops → (o : Option Operator) (ts : List Sign) → SaneOp o → op_priority o ≤ 999 → OpStops ops o (tok.Comma ∷ ts)
comma_stops ops w None ts s h = tt
comma_stops ops w (Some (operators.Before op)) ts s h = λ p k. next_comma ops w op.right p ts (omega arith)
comma_stops ops w (Some (operators.Between op)) ts s h = λ p k. next_comma ops w op.right p ts (omega arith)
comma_stops ops w (Some (operators.Behind op)) ts s h = tt

pub lower_stops : (ops : OpTable) (o : Option Operator) (max : ℕ) (rest : List Sign) → SaneOp o → op_priority o ≤ max → Stops ops max rest → OpStops ops o rest
lower_stops ops None max rest s h k = tt
lower_stops ops (Some (operators.Before op)) max rest s h k = Stops-lower ops op.right max rest (omega arith) k
lower_stops ops (Some (operators.Between op)) max rest s h k = Stops-lower ops op.right max rest (omega arith) k
lower_stops ops (Some (operators.Behind op)) max rest s h k = tt
