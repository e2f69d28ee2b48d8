-- The operator that a compound is written with.
use Rattle.std.proofs.Common.{◌≡◌, ℕ, ℤ, pos, negsuc, List, Bool, true, false, cond, ◌&&◌, ◌||◌, is_some, Option, Some, None, refl, codes}
use Rattle.std.specs.Str.{bytes_eq}
use Rattle.std.proofs.lemmas.Bool.{and_parts}
use Rattle.plterm.specs.Tree.{Trees, none, more}
use Rattle.plops.specs.declared.operator.Prefix.{Prefix}
use Rattle.plops.specs.declared.operator.Infix.{Infix}
use Rattle.plops.specs.declared.operator.Postfix.{Postfix}
use Rattle.plops.specs.declared.operator.Operator.{Operator}
use Rattle.plops.specs.declared.operator.Operator.TheVariants as operators
use Rattle.plops.specs.declared.table.OpTable.{OpTable}
use Rattle.plops.specs.Tables.{prefix_of, infix_of, postfix_of}
use Rattle.plops.specs.Sane.{IsSane}
use Rattle.plops.proofs.Names.{named_itself}
use Rattle.plread.specs.Texts.{curly, dot}
use Rattle.plwrite.specs.declared.style.Style.{Style}
use Rattle.plwrite.specs.declared.style.Style.TheVariants as styles
use Rattle.plwrite.specs.declared.form.Alone.{Alone}
use Rattle.plwrite.specs.declared.form.Alone.TheVariants as alone
use Rattle.plwrite.specs.declared.form.Pair.{Pair}
use Rattle.plwrite.specs.declared.form.Pair.TheVariants as pair
use Rattle.plwrite.specs.Styles.{used, has_letters}
use Rattle.plwrite.specs.Places.{is_operator}
use Rattle.plwrite.specs.Words.{is_minus}
use Rattle.plwrite.specs.Writing.{int_of, operated, numbered, alone_form, infix_form, pair_form}
use Rattle.pllaws.proofs.Fronts.{SaneOp}

abbrev pub alone_op : Alone → Option Operator
alone_op (alone.Letter n) = None
alone_op alone.Curly = None
alone_op (alone.Before op) = Some (operators.Before op)
alone_op (alone.Behind op) = Some (operators.Behind op)
alone_op alone.Functional = None

abbrev pub pair_op : Pair → Option Operator
pair_op pair.List = None
pair_op (pair.Between op) = Some (operators.Between op)
pair_op pair.Functional = None

abbrev pub op_of : OpTable → Style → List ℕ → Trees → Option Operator
op_of ops style s none = None
op_of ops style s (more a none) = alone_op (alone_form ops style s (int_of a))
op_of ops style s (more a (more b none)) = pair_op (pair_form ops style s)
op_of ops style s (more a (more b (more c args))) = None

-- a style that uses operators
abbrev pub Uses : Style → Type 0
Uses styles.Plain = Unit {0}
Uses styles.Quoted = Unit {0}
Uses styles.Canonical = ⊥
Uses styles.Listed = Unit {0}

used_some : {A : Type 0} (style : Style) (o : Option A) (op : A) → used style o ≡ Some op → Uses style × (o ≡ Some op)
used_some styles.Plain o op e = (tt, e)
used_some styles.Quoted o op e = (tt, e)
used_some styles.Canonical o op e = absurd cc
used_some styles.Listed o op e = (tt, e)

-- an operator by any of its kinds
pub plain_operator : (ops : OpTable) (style : Style) → Uses style → (s : List ℕ) → is_operator ops style s ≡ (is_some (prefix_of ops s) || (is_some (infix_of ops s) || is_some (postfix_of ops s)))
plain_operator ops styles.Plain u s = refl
plain_operator ops styles.Quoted u s = refl
plain_operator ops styles.Canonical u s = absurd u
plain_operator ops styles.Listed u s = refl

-- what a form says of the name
abbrev pub AloneIs : OpTable → Style → List ℕ → Alone → Type 0
AloneIs ops style s (alone.Letter n) = has_letters style ≡ true
AloneIs ops style s alone.Curly = s ≡ curly
AloneIs ops style s (alone.Before op) = Uses style × (prefix_of ops s ≡ Some op)
AloneIs ops style s (alone.Behind op) = Uses style × (postfix_of ops s ≡ Some op)
AloneIs ops style s alone.Functional = Unit {0}

abbrev pub PairIs : OpTable → Style → List ℕ → Pair → Type 0
PairIs ops style s pair.List = s ≡ dot
PairIs ops style s (pair.Between op) = Uses style × (infix_of ops s ≡ Some op)
PairIs ops style s pair.Functional = Unit {0}

operated_is : (ops : OpTable) (style : Style) (s : List ℕ) (p : Option Prefix) (q : Option Postfix) (b : Bool) → used style (prefix_of ops s) ≡ p → used style (postfix_of ops s) ≡ q → AloneIs ops style s (operated p q b)
operated_is ops style s (Some op) q true e f = tt
operated_is ops style s (Some op) q false e f = used_some style (prefix_of ops s) op e
operated_is ops style s None (Some op) b e f = used_some style (postfix_of ops s) op f
operated_is ops style s None None b e f = tt

alone_choice : (ops : OpTable) (style : Style) (s : List ℕ) (b : Bool) (x y : Alone) → (b ≡ true → AloneIs ops style s x) → AloneIs ops style s y → AloneIs ops style s (cond b x y)
alone_choice ops style s true x y h k = h refl
alone_choice ops style s false x y h k = k

numbered_is : (ops : OpTable) (style : Style) (s : List ℕ) (v : Option ℤ) → AloneIs ops style s (numbered ops style s v)
numbered_is ops style s (Some (pos n)) = alone_choice ops style s (has_letters style && bytes_eq s (codes "$VAR")) (alone.Letter n) _ (λ t. (and_parts (has_letters style) (bytes_eq s (codes "$VAR")) t).0) (operated_is ops style s (used style (prefix_of ops s)) (used style (postfix_of ops s)) (is_minus s) refl refl)
numbered_is ops style s (Some (negsuc n)) = operated_is ops style s (used style (prefix_of ops s)) (used style (postfix_of ops s)) (is_minus s) refl refl
numbered_is ops style s None = operated_is ops style s (used style (prefix_of ops s)) (used style (postfix_of ops s)) false refl refl

pub alone_is : (ops : OpTable) (style : Style) (s : List ℕ) (v : Option ℤ) → AloneIs ops style s (alone_form ops style s v)
alone_is ops style s v = alone_choice ops style s (bytes_eq s curly) alone.Curly (numbered ops style s v) (named_itself s curly) (numbered_is ops style s v)

infix_is : (ops : OpTable) (style : Style) (s : List ℕ) (o : Option Infix) → used style (infix_of ops s) ≡ o → PairIs ops style s (infix_form o)
infix_is ops style s None e = tt
infix_is ops style s (Some op) e = used_some style (infix_of ops s) op e

pair_choice : (ops : OpTable) (style : Style) (s : List ℕ) (b : Bool) (y : Pair) → (b ≡ true → s ≡ dot) → PairIs ops style s y → PairIs ops style s (cond b pair.List y)
pair_choice ops style s true y h k = h refl
pair_choice ops style s false y h k = k

pub pair_is : (ops : OpTable) (style : Style) (s : List ℕ) → PairIs ops style s (pair_form ops style s)
pair_is ops style s = pair_choice ops style s (bytes_eq s dot) (infix_form (used style (infix_of ops s))) (named_itself s dot) (infix_is ops style s (used style (infix_of ops s)) refl)

sane_alone : (ops : OpTable) (style : Style) (s : List ℕ) → IsSane ops → (f : Alone) → AloneIs ops style s f → SaneOp (alone_op f)
sane_alone ops style s w (alone.Letter n) h = tt
sane_alone ops style s w alone.Curly h = tt
sane_alone ops style s w (alone.Before op) h = (w.pre_right s op h.1, w.pre_top s op h.1)
sane_alone ops style s w (alone.Behind op) h = (w.post_left s op h.1, w.post_top s op h.1)
sane_alone ops style s w alone.Functional h = tt

sane_pair : (ops : OpTable) (style : Style) (s : List ℕ) → IsSane ops → (f : Pair) → PairIs ops style s f → SaneOp (pair_op f)
sane_pair ops style s w pair.List h = tt
sane_pair ops style s w (pair.Between op) h = (w.in_right s op h.1, w.in_top s op h.1)
sane_pair ops style s w pair.Functional h = tt

pub sane_op : (ops : OpTable) (style : Style) (s : List ℕ) (args : Trees) → IsSane ops → SaneOp (op_of ops style s args)
sane_op ops style s none w = tt
sane_op ops style s (more a none) w = sane_alone ops style s w (alone_form ops style s (int_of a)) (alone_is ops style s (int_of a))
sane_op ops style s (more a (more b none)) w = sane_pair ops style s w (pair_form ops style s) (pair_is ops style s)
sane_op ops style s (more a (more b (more c args))) w = tt
