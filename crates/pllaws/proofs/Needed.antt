-- What is written is read only where as many levels may be open as it needs: what reads a term from before its signs
-- extends it from behind them.
use Rattle.std.proofs.Common.{◌≡◌, ◌≤◌, max, Bool, true, false, cond, arith, ℕ, ℤ, suc, List, [], ◌∷◌, Option, Some, None, refl, sym, ap, ◌∙◌, subst}
use Rattle.std.specs.Str.{bytes_eq}
use Rattle.plterm.specs.Tree.{Tree, Trees, var, int, atom, compound, none, more}
use Rattle.plops.specs.declared.operator.Prefix.{Prefix}
use Rattle.plops.specs.declared.operator.Infix.{Infix}
use Rattle.plops.specs.declared.operator.Postfix.{Postfix}
use Rattle.plops.specs.declared.operator.Operator.TheVariants as operators
use Rattle.plops.specs.declared.table.OpTable.{OpTable}
use Rattle.plops.specs.Tables.{prefix_of, infix_of, postfix_of}
use Rattle.plops.specs.Sane.{IsSane}
use Rattle.plops.proofs.Names.{named_itself}
use Rattle.plread.specs.Signs.{Sign}
use Rattle.plread.specs.Signs as tok
use Rattle.plread.specs.Texts.{nil, curly, dot, list_term}
use Rattle.plread.specs.Reading.{Start, Stands, Opens, OpensList, OpensCurly, Calls, Before, Between, Behind, Stop, called, joined, start_of, next_of, Reads, reads, Begins, leaf, bracket, list, braces, call, before_op, Extends, stop, between_op, behind_op, Arguments, last, another, Elements, closed, tailed, element, Spells}
use Rattle.plwrite.specs.declared.style.Style.{Style}
use Rattle.plwrite.specs.declared.text.Sign.TheVariants as marks
use Rattle.plwrite.specs.declared.place.TermPlace.{TermPlace}
use Rattle.plwrite.specs.declared.place.Position.TheVariants.{At, Tail}
use Rattle.plwrite.specs.declared.form.Alone.{Alone}
use Rattle.plwrite.specs.declared.form.Alone.TheVariants as alone
use Rattle.plwrite.specs.declared.form.Pair.{Pair}
use Rattle.plwrite.specs.declared.form.Pair.TheVariants as pair
use Rattle.plwrite.specs.Words.{Word, prefix, operator}
use Rattle.plwrite.specs.Places.{whole, argument, right_of_prefix, left_of, right_of, left_of_postfix, needs_brackets, is_bracketed_atom}
use Rattle.plwrite.specs.Writing.{int_of, alone_form, pair_form}
use Rattle.pllaws.specs.Levels.{bracketed_levels, atom_levels, alone_levels, pair_levels, levels_of, other_levels}
use Rattle.pllaws.specs.Written.{is_direct, after, name_sign, functor_sign, operator_sign, integer_signs, atom_signs, position_signs, bracketed, alone_signs, pair_signs, signs, other_signs, clause_signs, Fits, IsWhole, AreWhole}
use Rattle.pllaws.proofs.Fronts.{start_paren, start_variable, start_integer, start_call, start_before, start_atom, next_in, next_post, post_alone, called_op, joined_op, Ends, next_end, next_comma, Stops, op_priority, op_needs, SaneOp, below_max}
use Rattle.pllaws.proofs.Forms.{Uses, alone_op, pair_op, AloneIs, PairIs, alone_is, pair_is, sane_op}
use Rattle.pllaws.proofs.Back.{Quiet, OpQuiet, priority_of, needs, Followed, quiet_end, op_quiet_close, calm_comma, under, start_curly, start_square, opens, fronts, calm_operand, calm_left, calm_post, placed_priority, followed, calm_followed, op_quiet_square, many_levels}

-- ---- what a reading is made of

-- what begins a term, where the first signs have told it, and what extends it
record Begun (ops : OpTable) (room most : ℕ) (start : Start) (u : Tree) (q : ℕ) (left : List Sign) : Type 0 where
  t : Tree
  p : ℕ
  mid : List Sign
  first : Begins ops room start t p mid
  onward : Extends ops room most (next_of ops most p mid) t p mid u q left

begun : {ops : OpTable} {room most : ℕ} {ts left : List Sign} {u : Tree} {q : ℕ} (start : Start) → start_of ops most ts ≡ start → Reads ops room most ts u q left → Begun ops room most start u q left
begun {ops} {room} start e (reads {mid} {t} {p} b x) = record { t = t; p = p; mid = mid; first = subst (λ s. Begins ops room s t p mid) e b; onward = x }

from_leaf : {ops : OpTable} {room most : ℕ} {t : Tree} {ts left : List Sign} {u : Tree} {q : ℕ} (v : Tree) (p : ℕ) (mid : List Sign) → Begins ops room (Stands t ts) v p mid → Extends ops room most (next_of ops most p mid) v p mid u q left → Extends ops room most (next_of ops most 0 ts) t 0 ts u q left
from_leaf v p mid leaf x = x

from_bracket : {ops : OpTable} {room p : ℕ} {ts mid : List Sign} {v : Tree} → Begins ops room (Opens ts) v p mid → (r : ℕ) × (s : ℕ) × (room ≡ suc r) × (p ≡ 0) × Reads ops r 1200 ts v s (tok.Close ∷ mid)
from_bracket (bracket {room} {p} h) = (room, p, refl, refl, h)

from_list : {ops : OpTable} {room p : ℕ} {ts mid : List Sign} {v : Tree} → Begins ops room (OpensList ts) v p mid → (r : ℕ) × (items : Trees) × (tail : Tree) × (room ≡ suc r) × (p ≡ 0) × (v ≡ list_term items tail) × Elements ops r ts items tail mid
from_list (list {room} {items} {tail} h) = (room, items, tail, refl, refl, refl, h)

from_braces : {ops : OpTable} {room p : ℕ} {ts mid : List Sign} {v : Tree} → Begins ops room (OpensCurly ts) v p mid → (r : ℕ) × (s : ℕ) × (t : Tree) × (room ≡ suc r) × (p ≡ 0) × (v ≡ compound curly (more t none)) × Reads ops r 1200 ts t s (tok.CloseCurly ∷ mid)
from_braces (braces {room} {p} {t} h) = (room, p, t, refl, refl, refl, h)

from_call : {ops : OpTable} {room p : ℕ} {name : List ℕ} {ts mid : List Sign} {v : Tree} → Begins ops room (Calls name ts) v p mid → (r : ℕ) × (args : Trees) × (room ≡ suc r) × (p ≡ 0) × (v ≡ compound name args) × Arguments ops r ts args mid
from_call (call {room} {args} h few) = (room, args, refl, refl, refl, h)

from_before : {ops : OpTable} {room p : ℕ} {name : List ℕ} {op : Prefix} {ts mid : List Sign} {v : Tree} → Begins ops room (Before name op ts) v p mid → (r : ℕ) × (s : ℕ) × (t : Tree) × (room ≡ suc r) × (p ≡ op.priority) × (v ≡ compound name (more t none)) × Reads ops r op.right ts t s mid
from_before (before_op {room} {p} {t} h) = (room, p, t, refl, refl, refl, h)

from_behind : {ops : OpTable} {room max p w : ℕ} {name : List ℕ} {op : Postfix} {mid ts rest : List Sign} {t v : Tree} → Extends ops room max (Behind name op mid) t p ts v w rest → Extends ops room max (next_of ops max op.priority mid) (compound name (more t none)) op.priority mid v w rest
from_behind (behind_op x) = x

from_between : {ops : OpTable} {room max p w : ℕ} {name : List ℕ} {op : Infix} {inside ts rest : List Sign} {t v : Tree} → Extends ops room max (Between name op inside) t p ts v w rest →
    (r : ℕ) × (s : ℕ) × (u : Tree) × (mid : List Sign) × (room ≡ suc r) × Reads ops r op.right inside u s mid × Extends ops room max (next_of ops max op.priority mid) (compound name (more t (more u none))) op.priority mid v w rest
from_between (between_op {room} {q} {mid} {u} h x) = (room, q, u, mid, refl, h, x)

from_stop : {ops : OpTable} {room max p q : ℕ} {ts rest : List Sign} {t u : Tree} → Extends ops room max Stop t p ts u q rest → (u ≡ t) × (rest ≡ ts)
from_stop stop = (refl, refl)

first_element : {ops : OpTable} {room : ℕ} {ts left : List Sign} {items : Trees} {tail : Tree} → Elements ops room ts items tail left → (y : Tree) × (p : ℕ) × (mid : List Sign) × Reads ops room 999 ts y p mid
first_element (closed {p} {rest} {t} r) = (t, p, tok.CloseSquare ∷ rest, r)
first_element (tailed {p} {mid} {t} r s) = (t, p, tok.Bar ∷ mid, r)
first_element (element {p} {mid} {t} r h) = (t, p, tok.Comma ∷ mid, r)

-- ---- what is told of a reading

-- the term, where so many levels may be open, as many as are needed, and what extends it
record Onward (ops : OpTable) (room need most : ℕ) (t : Tree) (p : ℕ) (rest : List Sign) (u : Tree) (q : ℕ) (left : List Sign) : Type 0 where
  enough : need ≤ room
  onward : Extends ops room most (next_of ops most p rest) t p rest u q left

-- the term and nothing behind it
record Exactly (room need : ℕ) (t : Tree) (rest : List Sign) (u : Tree) (left : List Sign) : Type 0 where
  enough : need ≤ room
  term : u ≡ t
  there : left ≡ rest

-- and of arguments
record ExactlyAll (room need : ℕ) (args : Trees) (rest : List Sign) (found : Trees) (left : List Sign) : Type 0 where
  enough : need ≤ room
  terms : found ≡ args
  there : left ≡ rest

exactly : {ops : OpTable} {room need most p q : ℕ} {t u : Tree} {rest left : List Sign} → next_of ops most p rest ≡ Stop → Onward ops room need most t p rest u q left → Exactly room need t rest u left
exactly {ops} {room} {need} {most} {p} {q} {t} {u} {rest} {left} e k =
    let s = from_stop (subst (λ n. Extends ops room most n t p rest u q left) e k.onward) in
    record { enough = k.enough; term = s.0; there = s.1 }

moved : {ops : OpTable} {room most p r q : ℕ} {t s u : Tree} {mid rest left : List Sign} → t ≡ s → p ≡ r → mid ≡ rest → Extends ops room most (next_of ops most p mid) t p mid u q left → Extends ops room most (next_of ops most r rest) s r rest u q left
moved {ops} {room} {most} {p} {r} {q} {t} {s} {u} {mid} {rest} {left} a b c x =
    subst (λ z. Extends ops room most (next_of ops most r z) s r z u q left) c
    (subst (λ z. Extends ops room most (next_of ops most z mid) s z mid u q left) b (subst (λ z. Extends ops room most (next_of ops most p mid) z p mid u q left) a x))

behind_sign : {s r : Sign} {ts us : List Sign} → s ∷ ts ≡ r ∷ us → ts ≡ us
behind_sign e = cc

module _ (ops : OpTable) (style : Style) where
  abbrev Held : Tree → ℕ → Bool → (List Sign → Type 0) → (Option Word → List Sign → List Sign) → ℕ → ℕ → Type 0
  Held t p b Still body need m =
      ((o : Option Word) (room most : ℕ) (rest : List Sign) (u : Tree) (q : ℕ) (left : List Sign) →
      m ≤ most → (b ≡ false → Still rest) →
      Reads ops room most (body o rest) u q left →
      Onward ops room need most t (cond b 0 p) rest u q left)

  abbrev InnerHeld : Tree → ℕ → (List Sign → Type 0) → (Option Word → List Sign → List Sign) → ℕ → Type 0
  InnerHeld t p Still body need =
      ((o : Option Word) (room most : ℕ) (rest : List Sign) (u : Tree) (q : ℕ) (left : List Sign) →
      p ≤ most → Still rest →
      Reads ops room most (body o rest) u q left →
      Onward ops room need most t p rest u q left)

  abbrev AtHeld : Tree → Type 0
  AtHeld t = (place : TermPlace) → Held t (priority_of ops style t) (needs ops style place t) (Quiet ops style t) (λ o rest. signs ops style (At place) t o rest) (levels_of ops style (At place) t) place.most

  -- every reading of these signs is the one of this element
  abbrev ReadsOnly : ℕ → List Sign → Tree → List Sign → Type 0
  ReadsOnly room ts x behind = (y : Tree) (p : ℕ) (mid : List Sign) → Reads ops room 999 ts y p mid → (y ≡ x) × (mid ≡ behind)

  -- what a body makes of the signs behind an element is a list's tail
  abbrev TailHeldBy : (List Sign → List Sign) → Tree → ℕ → Type 0
  TailHeldBy body b need =
      ((room : ℕ) (rest ts : List Sign) (x : Tree) (items : Trees) (tail : Tree) (left : List Sign) → ReadsOnly room ts x (body (tok.CloseSquare ∷ rest)) → Elements ops room ts items tail left →
      Exactly room need (compound dot (more x (more b none))) rest (list_term items tail) left)

  abbrev TailHeld : Tree → Type 0
  TailHeld b = TailHeldBy (λ ws. signs ops style Tail b None ws) b (levels_of ops style Tail b)

  -- brackets, where they are needed
  bracket_held : (t : Tree) (p : ℕ) (b : Bool) (Still : List Sign → Type 0) (body : Option Word → List Sign → List Sign) (d m : ℕ) → p ≤ 1200 → (b ≡ false → p ≤ m) → ((rest : List Sign) → Still (tok.Close ∷ rest)) → InnerHeld t p Still body d → Held t p b Still (bracketed b body) (bracketed_levels b d) m
  bracket_held t p false Still body d m top below quiet law = λ o room most rest u q left h still r. law o room most rest u q left (through (below refl) h) (still refl) r where
    through : {a c e : ℕ} → a ≤ c → c ≤ e → a ≤ e
    through h k = omega arith
  bracket_held t p true Still body d m top below quiet law = λ o room most rest u q left h still r.
      let g = begun (Opens _) (start_paren ops most (is_direct o 40) _) r in
      let i = from_bracket g.first in
      let k = exactly (next_end ops 1200 p tok.Close rest tt) (law (after marks.Open) i.0 1200 (tok.Close ∷ rest) g.t i.1 (tok.Close ∷ g.mid) top (quiet rest) i.4) in
      record { enough = omega (arith, k.enough, i.2); onward = moved k.term i.3 (behind_sign k.there) g.onward }

  -- a term in its place before a sign that ends it, and as an argument before a comma
  place_end : (place : TermPlace) (t : Tree) → AtHeld t → (o : Option Word) (room : ℕ) (s : Sign) (rest : List Sign) → Ends s → (u : Tree) (q : ℕ) (left : List Sign) → Reads ops room place.most (signs ops style (At place) t o (s ∷ rest)) u q left → Exactly room (levels_of ops style (At place) t) t (s ∷ rest) u left
  place_end place t law o room s rest h u q left r =
      exactly (next_end ops place.most (cond (needs ops style place t) 0 (priority_of ops style t)) s rest h) (law place o room place.most (s ∷ rest) u q left (omega arith) (λ e. quiet_end ops style t s rest h) r)

  argument_comma : IsSane ops → (t : Tree) → AtHeld t → (o : Option Word) (room : ℕ) (rest : List Sign) (u : Tree) (q : ℕ) (left : List Sign) → Reads ops room 999 (signs ops style (At argument) t o (tok.Comma ∷ rest)) u q left → Exactly room (levels_of ops style (At argument) t) t (tok.Comma ∷ rest) u left
  argument_comma s t law o room rest u q left r =
      exactly (next_comma ops s 999 (cond (needs ops style argument t) 0 (priority_of ops style t)) rest (omega arith))
      (law argument o room 999 (tok.Comma ∷ rest) u q left (omega arith) (λ e. (refl, refl, calm_comma ops style s t rest (under ops style argument t e))) r)

  abbrev AllHeld : Trees → Type 0
  AllHeld none = Unit {0}
  AllHeld (more t ts) = AtHeld t × AllHeld ts

  last_argument : (a : Tree) → AtHeld a → (o : Option Word) (room : ℕ) (rest : List Sign) (found : Trees) (left : List Sign) → Arguments ops room (signs ops style (At argument) a o (tok.Close ∷ rest)) found left → ExactlyAll room (levels_of ops style (At argument) a) (more a none) rest found left
  last_argument a law o room rest found left (last {p} {rest = behind} {t} r) =
      let k = place_end argument a law o room tok.Close rest tt t p (tok.Close ∷ behind) r in
      record { enough = k.enough; terms = ap (λ v. more v none) k.term; there = behind_sign k.there }
  last_argument a law o room rest found left (another {p} {mid} {t} r h) =
      let k = place_end argument a law o room tok.Close rest tt t p (tok.Comma ∷ mid) r in
      let e = k.there in absurd cc

  comma_argument : IsSane ops → (a : Tree) → AtHeld a → (args : Trees) (need : ℕ) (o : Option Word) (room : ℕ) (ts rest : List Sign) →
      ((found : Trees) (left : List Sign) → Arguments ops room ts found left → ExactlyAll room need args rest found left) →
      (found : Trees) (left : List Sign) → Arguments ops room (signs ops style (At argument) a o (tok.Comma ∷ ts)) found left → ExactlyAll room (max (levels_of ops style (At argument) a) need) (more a args) rest found left
  comma_argument s a law args need o room ts rest next found left (last {p} {rest = behind} {t} r) =
      let k = argument_comma s a law o room ts t p (tok.Close ∷ behind) r in
      let e = k.there in absurd cc
  comma_argument s a law args need o room ts rest next found left (another {p} {mid} {t} {args = others} r h) =
      let k = argument_comma s a law o room ts t p (tok.Comma ∷ mid) r in
      let l = next others left (subst (λ x. Arguments ops room x others left) (behind_sign k.there) h) in
      record { enough = omega (arith, k.enough, l.enough); terms = ap (λ v. more v others) k.term ∙ ap (more a) l.terms; there = l.there }

  arguments_held : IsSane ops → (a : Tree) (args : Trees) → AtHeld a → AllHeld args → (o : Option Word) (room : ℕ) (rest : List Sign) (found : Trees) (left : List Sign) → Arguments ops room (signs ops style (At argument) a o (other_signs ops style args rest)) found left → ExactlyAll room (max (levels_of ops style (At argument) a) (other_levels ops style args)) (more a args) rest found left
  unfolding other_signs other_levels
  arguments_held s a none law others o room rest found left h =
      let k = last_argument a law o room rest found left h in
      record { enough = omega (arith, k.enough); terms = k.terms; there = k.there }
  arguments_held s a (more b args) law others o room rest found left h =
      comma_argument s a law (more b args) (max (levels_of ops style (At argument) b) (other_levels ops style args)) o room (signs ops style (At argument) b (after marks.Comma) (other_signs ops style args rest)) rest
      (λ f l k. arguments_held s b args others.0 others.1 (after marks.Comma) room rest f l k) found left h

  call_held : (s : List ℕ) (bare : Bool) (args : Trees) (inside : List Sign → List Sign) (d m : ℕ) (Still : List Sign → Type 0) →
      ((room : ℕ) (rest : List Sign) (found : Trees) (left : List Sign) → Arguments ops room (inside rest) found left → ExactlyAll room d args rest found left) →
      Held (compound s args) 0 false Still (λ o rest. tok.Name s bare ∷ tok.OpenCall ∷ inside rest) (suc d) m
  call_held s bare args inside d m Still law = λ o room most rest u q left h still r.
      let g = begun (Calls s (inside rest)) (start_call ops most s bare _) r in
      let i = from_call g.first in
      let k = law i.0 rest i.1 g.mid i.5 in
      record { enough = omega (arith, k.enough, i.2); onward = moved (i.4 ∙ ap (compound s) k.terms) i.3 k.there g.onward }

  -- ---- a compound of one argument

  -- the right operand of an operator, before signs that the operator does not take
  operand_held : IsSane ops → Uses style → (place : TermPlace) → place.is_operand ≡ true → (t : Tree) → AtHeld t → (o : Option Word) (room : ℕ) (rest : List Sign) → called rest ≡ None → joined rest ≡ None → Stops ops place.most rest → (u : Tree) (q : ℕ) (left : List Sign) → Reads ops room place.most (signs ops style (At place) t o rest) u q left → Exactly room (levels_of ops style (At place) t) t rest u left
  operand_held s uses place e t law o room rest c j k u q left r =
      exactly (k (cond (needs ops style place t) 0 (priority_of ops style t)) (placed_priority ops style place t (needs ops style place t) (under ops style place t)))
      (law place o room place.most rest u q left (omega arith) (λ h. (c, j, calm_operand ops style s uses place e t h rest k)) r)

  before_held : IsSane ops → Uses style → (s : List ℕ) (a : Tree) → AtHeld a → (op : Prefix) → prefix_of ops s ≡ Some op → InnerHeld (compound s (more a none)) op.priority (OpQuiet ops style (Some (operators.Before op))) (λ q ws. name_sign s ∷ signs ops style (At (right_of_prefix op)) a (Some (prefix style s)) ws) (suc (levels_of ops style (At (right_of_prefix op)) a))
  before_held w uses s a law op e = λ o room most rest u q left h quiet r.
      let front = fronts ops style uses a (right_of_prefix op) refl s rest in
      let g = begun (Before s op _) (start_before ops most s _ op _ front.0 front.1 e front.2 h) r in
      let i = from_before g.first in
      let k = operand_held w uses (right_of_prefix op) refl a law (Some (prefix style s)) i.0 rest quiet.0 quiet.1 quiet.2 i.2 i.1 g.mid i.6 in
      record { enough = omega (arith, k.enough, i.3); onward = moved (i.5 ∙ ap (λ t. compound s (more t none)) k.term) i.4 k.there g.onward }

  behind_held : IsSane ops → Uses style → (s : List ℕ) (a : Tree) → AtHeld a → (op : Postfix) → postfix_of ops s ≡ Some op → InnerHeld (compound s (more a none)) op.priority (OpQuiet ops style (Some (operators.Behind op))) (λ q ws. signs ops style (At (left_of_postfix op)) a q (operator_sign s ∷ ws)) (levels_of ops style (At (left_of_postfix op)) a)
  behind_held w uses s a law op e = λ o room most rest u q left h quiet r.
      let p : ℕ = cond (needs ops style (left_of_postfix op) a) 0 (priority_of ops style a) in
      let taken = next_post ops most p s op rest (post_alone ops s op w e) e h (placed_priority ops style (left_of_postfix op) a (needs ops style (left_of_postfix op) a) (under ops style (left_of_postfix op) a)) in
      let k = law (left_of_postfix op) o room most (operator_sign s ∷ rest) u q left (omega (arith, w.post_left s op e)) (λ n. (called_op s rest, joined_op s rest, calm_post ops style w uses s op e a n rest)) r in
      record { enough = k.enough; onward = from_behind (subst (λ next. Extends ops room most next a p (operator_sign s ∷ rest) u q left) taken k.onward) }

  curly_held : (s : List ℕ) (a : Tree) (m : ℕ) (Still : List Sign → Type 0) → AtHeld a → s ≡ curly → Held (compound s (more a none)) 0 false Still (λ o rest. tok.OpenCurly ∷ signs ops style (At whole) a (after marks.OpenCurly) (tok.CloseCurly ∷ rest)) (suc (levels_of ops style (At whole) a)) m
  curly_held s a m Still law e = λ o room most rest u q left h still r.
      let g = begun (OpensCurly _) (start_curly ops style most _ (opens ops style a whole (after marks.OpenCurly) (tok.CloseCurly ∷ rest)).1) r in
      let i = from_braces g.first in
      let k = place_end whole a law (after marks.OpenCurly) i.0 tok.CloseCurly rest tt i.2 i.1 (tok.CloseCurly ∷ g.mid) i.6 in
      record { enough = omega (arith, k.enough, i.3); onward = moved (i.5 ∙ ap (λ t. compound curly (more t none)) k.term ∙ ap (λ n. compound n (more a none)) (sym e)) i.4 (behind_sign k.there) g.onward }

  one_argument : (a : Tree) → AtHeld a → (room : ℕ) (rest : List Sign) (found : Trees) (left : List Sign) → Arguments ops room (signs ops style (At argument) a (after marks.Open) (tok.Close ∷ rest)) found left → ExactlyAll room (levels_of ops style (At argument) a) (more a none) rest found left
  one_argument a law room rest found left h = last_argument a law (after marks.Open) room rest found left h

  alone_held : IsSane ops → (s : List ℕ) (a : Tree) → AtHeld a → (f : Alone) → AloneIs ops style s f → SaneOp (alone_op f) → (place : TermPlace) → Held (compound s (more a none)) (op_priority (alone_op f)) (op_needs place (alone_op f)) (OpQuiet ops style (alone_op f)) (λ o rest. alone_signs style (At place) s f (λ p q ws. signs ops style p a q ws) o rest) (alone_levels (At place) f (λ p. levels_of ops style p a)) place.most
  alone_held w s a law (alone.Letter n) h k place = call_held s _ (more a none) (λ rest. signs ops style (At argument) a (after marks.Open) (tok.Close ∷ rest)) (levels_of ops style (At argument) a) place.most _ (one_argument a law)
  alone_held w s a law alone.Functional h k place = call_held s _ (more a none) (λ rest. signs ops style (At argument) a (after marks.Open) (tok.Close ∷ rest)) (levels_of ops style (At argument) a) place.most _ (one_argument a law)
  alone_held w s a law alone.Curly h k place = curly_held s a place.most _ law h
  alone_held w s a law (alone.Before op) h k place =
      bracket_held (compound s (more a none)) op.priority (needs_brackets place (operators.Before op)) (OpQuiet ops style (Some (operators.Before op))) (λ q ws. name_sign s ∷ signs ops style (At (right_of_prefix op)) a (Some (prefix style s)) ws) (suc (levels_of ops style (At (right_of_prefix op)) a)) place.most
      k.1 (below_max place (Some (operators.Before op))) (op_quiet_close ops style (Some (operators.Before op))) (before_held w h.0 s a law op h.1)
  alone_held w s a law (alone.Behind op) h k place =
      bracket_held (compound s (more a none)) op.priority (needs_brackets place (operators.Behind op)) (OpQuiet ops style (Some (operators.Behind op))) (λ q ws. signs ops style (At (left_of_postfix op)) a q (operator_sign s ∷ ws)) (levels_of ops style (At (left_of_postfix op)) a) place.most
      k.1 (below_max place (Some (operators.Behind op))) (op_quiet_close ops style (Some (operators.Behind op))) (behind_held w h.0 s a law op h.1)

  -- ---- a compound of two arguments

  between_held : IsSane ops → Uses style → (s : List ℕ) (a b : Tree) → AtHeld a → AtHeld b → (op : Infix) → infix_of ops s ≡ Some op → InnerHeld (compound s (more a (more b none))) op.priority (OpQuiet ops style (Some (operators.Between op))) (λ q ws. signs ops style (At (left_of op)) a q (operator_sign s ∷ signs ops style (At (right_of op)) b (Some (operator style s)) ws)) (max (levels_of ops style (At (left_of op)) a) (suc (levels_of ops style (At (right_of op)) b)))
  between_held w uses s a b law other op e = λ o room most rest u q left h quiet r.
      let inside = signs ops style (At (right_of op)) b (Some (operator style s)) rest in
      let p : ℕ = cond (needs ops style (left_of op) a) 0 (priority_of ops style a) in
      let taken = next_in ops most p s op inside e h (placed_priority ops style (left_of op) a (needs ops style (left_of op) a) (under ops style (left_of op) a)) in
      let k = law (left_of op) o room most (operator_sign s ∷ inside) u q left (omega (arith, w.in_left s op e)) (λ n. (called_op s inside, joined_op s inside, calm_left ops style w uses s op e a n inside)) r in
      let i = from_between (subst (λ next. Extends ops room most next a p (operator_sign s ∷ inside) u q left) taken k.onward) in
      let l = operand_held w uses (right_of op) refl b other (Some (operator style s)) i.0 rest quiet.0 quiet.1 quiet.2 i.2 i.1 i.3 i.5 in
      record { enough = omega (arith, k.enough, l.enough, i.4); onward = moved (ap (λ t. compound s (more a (more t none))) l.term) refl l.there i.6 }

  element_held : IsSane ops → (t : Tree) → AtHeld t → (o : Option Word) (room : ℕ) (ts : List Sign) → Followed ops style ts → (u : Tree) (q : ℕ) (left : List Sign) → Reads ops room 999 (signs ops style (At argument) t o ts) u q left → Exactly room (levels_of ops style (At argument) t) t ts u left
  element_held w t law o room ts f u q left r =
      exactly (f.3 (cond (needs ops style argument t) 0 (priority_of ops style t)) (placed_priority ops style argument t (needs ops style argument t) (under ops style argument t)))
      (law argument o room 999 ts u q left (omega arith) (λ e. (f.0, f.1, calm_followed ops style w t ts f (under ops style argument t e))) r)

  -- ---- lists

  barred : (t : Tree) (p : ℕ) (b : Bool) (Still : List Sign → Type 0) (body : Option Word → List Sign → List Sign) (d : ℕ) → Held t p b Still body d 999 → ((rest : List Sign) → Still (tok.CloseSquare ∷ rest)) → TailHeldBy (λ ws. tok.Bar ∷ body (after marks.Bar) ws) t d
  barred t p b Still body d law still = held where
    held : TailHeldBy (λ ws. tok.Bar ∷ body (after marks.Bar) ws) t d
    held room rest ts x items tail left only (closed {p = s} {rest = behind} {t = y} r) = let k = only y s (tok.CloseSquare ∷ behind) r in let e = k.1 in absurd cc
    held room rest ts x items tail left only (tailed {p = s} {q} {mid} {t = y} r n) =
        let k = only y s (tok.Bar ∷ mid) r in
        let f = law (after marks.Bar) room 999 (tok.CloseSquare ∷ rest) tail q (tok.CloseSquare ∷ left) (omega arith) (λ e. still rest) (subst (λ l. Reads ops room 999 l tail q (tok.CloseSquare ∷ left)) (behind_sign k.1) n) in
        let l = exactly (next_end ops 999 (cond b 0 p) tok.CloseSquare rest tt) f in
        record { enough = l.enough; term = ap (λ v. compound dot (more v (more tail none))) k.0 ∙ ap (λ v. compound dot (more x (more v none))) l.term; there = behind_sign l.there }
    held room rest ts x items tail left only (element {p = s} {mid} {t = y} r h) = let k = only y s (tok.Comma ∷ mid) r in let e = k.1 in absurd cc

  alone_tail : IsSane ops → (s : List ℕ) (a : Tree) → AtHeld a → (f : Alone) → AloneIs ops style s f → SaneOp (alone_op f) → TailHeldBy (λ ws. alone_signs style Tail s f (λ p q vs. signs ops style p a q vs) None ws) (compound s (more a none)) (alone_levels Tail f (λ p. levels_of ops style p a))
  alone_tail w s a law (alone.Letter n) h k = barred (compound s (more a none)) 0 false (OpQuiet ops style None) (λ o ws. alone_signs style (At argument) s (alone.Letter n) (λ p q vs. signs ops style p a q vs) o ws) (alone_levels (At argument) (alone.Letter n) (λ p. levels_of ops style p a)) (alone_held w s a law (alone.Letter n) h k argument) (op_quiet_square ops style None)
  alone_tail w s a law alone.Functional h k = barred (compound s (more a none)) 0 false (OpQuiet ops style None) (λ o ws. alone_signs style (At argument) s alone.Functional (λ p q vs. signs ops style p a q vs) o ws) (alone_levels (At argument) alone.Functional (λ p. levels_of ops style p a)) (alone_held w s a law alone.Functional h k argument) (op_quiet_square ops style None)
  alone_tail w s a law alone.Curly h k = barred (compound s (more a none)) 0 false (OpQuiet ops style None) (λ o ws. alone_signs style (At argument) s alone.Curly (λ p q vs. signs ops style p a q vs) o ws) (alone_levels (At argument) alone.Curly (λ p. levels_of ops style p a)) (alone_held w s a law alone.Curly h k argument) (op_quiet_square ops style None)
  alone_tail w s a law (alone.Before op) h k =
      barred (compound s (more a none)) op.priority (needs_brackets argument (operators.Before op)) (OpQuiet ops style (Some (operators.Before op))) (λ o ws. alone_signs style (At argument) s (alone.Before op) (λ p q vs. signs ops style p a q vs) o ws) (alone_levels (At argument) (alone.Before op) (λ p. levels_of ops style p a)) (alone_held w s a law (alone.Before op) h k argument) (op_quiet_square ops style (Some (operators.Before op)))
  alone_tail w s a law (alone.Behind op) h k =
      barred (compound s (more a none)) op.priority (needs_brackets argument (operators.Behind op)) (OpQuiet ops style (Some (operators.Behind op))) (λ o ws. alone_signs style (At argument) s (alone.Behind op) (λ p q vs. signs ops style p a q vs) o ws) (alone_levels (At argument) (alone.Behind op) (λ p. levels_of ops style p a)) (alone_held w s a law (alone.Behind op) h k argument) (op_quiet_square ops style (Some (operators.Behind op)))

  -- the elements behind the first sign of a list or behind a comma
  elements_held : IsSane ops → (a b : Tree) → AtHeld a → TailHeld b → (o : Option Word) (room : ℕ) (rest : List Sign) (items : Trees) (tail : Tree) (left : List Sign) → Elements ops room (signs ops style (At argument) a o (signs ops style Tail b None (tok.CloseSquare ∷ rest))) items tail left →
      Exactly room (max (levels_of ops style (At argument) a) (levels_of ops style Tail b)) (compound dot (more a (more b none))) rest (list_term items tail) left
  elements_held w a b law other o room rest items tail left h =
      let behind = signs ops style Tail b None (tok.CloseSquare ∷ rest) in
      let only : (u : Tree) (q : ℕ) (mid : List Sign) → Reads ops room 999 (signs ops style (At argument) a o behind) u q mid → Exactly room (levels_of ops style (At argument) a) a behind u mid =
      λ u q mid r. element_held w a law o room behind (followed ops style w b rest) u q mid r in
      let f = first_element h in
      let k = only f.0 f.1 f.2 f.3 in
      let l = other room rest (signs ops style (At argument) a o behind) a items tail left (λ u q mid r. let e = only u q mid r in (e.term, e.there)) h in
      record { enough = omega (arith, k.enough, l.enough); term = l.term; there = l.there }

  list_held : IsSane ops → (s : List ℕ) (a b : Tree) (m : ℕ) (Still : List Sign → Type 0) → AtHeld a → TailHeld b → s ≡ dot → Held (compound s (more a (more b none))) 0 false Still (λ o rest. tok.OpenSquare ∷ signs ops style (At argument) a (after marks.OpenSquare) (signs ops style Tail b None (tok.CloseSquare ∷ rest))) (suc (max (levels_of ops style (At argument) a) (levels_of ops style Tail b))) m
  list_held w s a b m Still law tail e = λ o room most rest u q left h still r.
      let g = begun (OpensList _) (start_square ops style most _ (opens ops style a argument (after marks.OpenSquare) (signs ops style Tail b None (tok.CloseSquare ∷ rest))).0) r in
      let i = from_list g.first in
      let k = elements_held w a b law tail (after marks.OpenSquare) i.0 rest i.1 i.2 g.mid i.6 in
      record { enough = omega (arith, k.enough, i.3); onward = moved (i.5 ∙ k.term ∙ ap (λ n. compound n (more a (more b none))) (sym e)) i.4 k.there g.onward }

  two_arguments : IsSane ops → (a b : Tree) → AtHeld a → AtHeld b → (room : ℕ) (rest : List Sign) (found : Trees) (left : List Sign) → Arguments ops room (signs ops style (At argument) a (after marks.Open) (tok.Comma ∷ signs ops style (At argument) b (after marks.Comma) (tok.Close ∷ rest))) found left → ExactlyAll room (max (levels_of ops style (At argument) a) (levels_of ops style (At argument) b)) (more a (more b none)) rest found left
  two_arguments w a b law other room rest found left h =
      comma_argument w a law (more b none) (levels_of ops style (At argument) b) (after marks.Open) room (signs ops style (At argument) b (after marks.Comma) (tok.Close ∷ rest)) rest (λ f l k. last_argument b other (after marks.Comma) room rest f l k) found left h

  pair_held : IsSane ops → (s : List ℕ) (a b : Tree) → AtHeld a → AtHeld b → TailHeld b → (f : Pair) → PairIs ops style s f → SaneOp (pair_op f) → (place : TermPlace) → Held (compound s (more a (more b none))) (op_priority (pair_op f)) (op_needs place (pair_op f)) (OpQuiet ops style (pair_op f)) (λ o rest. pair_signs style (At place) s f (λ p q ws. signs ops style p a q ws) (λ p q ws. signs ops style p b q ws) o rest) (pair_levels (At place) f (λ p. levels_of ops style p a) (λ p. levels_of ops style p b)) place.most
  pair_held w s a b law other tail pair.List h k place = list_held w s a b place.most (OpQuiet ops style None) law tail h
  pair_held w s a b law other tail pair.Functional h k place =
      call_held s _ (more a (more b none)) (λ rest. signs ops style (At argument) a (after marks.Open) (tok.Comma ∷ signs ops style (At argument) b (after marks.Comma) (tok.Close ∷ rest))) (max (levels_of ops style (At argument) a) (levels_of ops style (At argument) b)) place.most (OpQuiet ops style None) (two_arguments w a b law other)
  pair_held w s a b law other tail (pair.Between op) h k place =
      bracket_held (compound s (more a (more b none))) op.priority (needs_brackets place (operators.Between op)) (OpQuiet ops style (Some (operators.Between op))) (λ q ws. signs ops style (At (left_of op)) a q (operator_sign s ∷ signs ops style (At (right_of op)) b (Some (operator style s)) ws)) (max (levels_of ops style (At (left_of op)) a) (suc (levels_of ops style (At (right_of op)) b))) place.most
      k.1 (below_max place (Some (operators.Between op))) (op_quiet_close ops style (Some (operators.Between op))) (between_held w h.0 s a b law other op h.1)

  -- a list's tail that is a list with these elements
  more_elements : IsSane ops → (a b : Tree) → AtHeld a → TailHeld b → TailHeldBy (λ ws. tok.Comma ∷ signs ops style (At argument) a (after marks.Comma) (signs ops style Tail b None ws)) (compound dot (more a (more b none))) (max (levels_of ops style (At argument) a) (levels_of ops style Tail b))
  more_elements w a b law tail room rest ts x items end left only (closed {p} {rest = behind} {t} r) = let k = only t p (tok.CloseSquare ∷ behind) r in let e = k.1 in absurd cc
  more_elements w a b law tail room rest ts x items end left only (tailed {p} {mid} {t} r n) = let k = only t p (tok.Bar ∷ mid) r in let e = k.1 in absurd cc
  more_elements w a b law tail room rest ts x items end left only (element {p} {mid} {t} {items = others} r h) =
      let k = only t p (tok.Comma ∷ mid) r in
      let l = elements_held w a b law tail (after marks.Comma) room rest others end left (subst (λ z. Elements ops room z others end left) (behind_sign k.1) h) in
      record { enough = l.enough; term = ap (λ v. compound dot (more v (more (list_term others end) none))) k.0 ∙ ap (λ v. compound dot (more x (more v none))) l.term; there = l.there }

  pair_tail : IsSane ops → (s : List ℕ) (a b : Tree) → AtHeld a → AtHeld b → TailHeld b → (f : Pair) → PairIs ops style s f → SaneOp (pair_op f) → TailHeldBy (λ ws. pair_signs style Tail s f (λ p q vs. signs ops style p a q vs) (λ p q vs. signs ops style p b q vs) None ws) (compound s (more a (more b none))) (pair_levels Tail f (λ p. levels_of ops style p a) (λ p. levels_of ops style p b))
  pair_tail w s a b law other tail pair.List h k =
      subst (λ n. TailHeldBy (λ ws. tok.Comma ∷ signs ops style (At argument) a (after marks.Comma) (signs ops style Tail b None ws)) (compound n (more a (more b none))) (max (levels_of ops style (At argument) a) (levels_of ops style Tail b))) (sym h) (more_elements w a b law tail)
  pair_tail w s a b law other tail pair.Functional h k =
      barred (compound s (more a (more b none))) 0 false (OpQuiet ops style None) (λ o ws. pair_signs style (At argument) s pair.Functional (λ p q vs. signs ops style p a q vs) (λ p q vs. signs ops style p b q vs) o ws) (pair_levels (At argument) pair.Functional (λ p. levels_of ops style p a) (λ p. levels_of ops style p b)) (pair_held w s a b law other tail pair.Functional h k argument) (op_quiet_square ops style None)
  pair_tail w s a b law other tail (pair.Between op) h k =
      barred (compound s (more a (more b none))) op.priority (needs_brackets argument (operators.Between op)) (OpQuiet ops style (Some (operators.Between op))) (λ o ws. pair_signs style (At argument) s (pair.Between op) (λ p q vs. signs ops style p a q vs) (λ p q vs. signs ops style p b q vs) o ws) (pair_levels (At argument) (pair.Between op) (λ p. levels_of ops style p a) (λ p. levels_of ops style p b)) (pair_held w s a b law other tail (pair.Between op) h k argument) (op_quiet_square ops style (Some (operators.Between op)))

  -- ---- every term

  var_held : (n : ℕ) → AtHeld (var n)
  unfolding signs levels_of
  var_held n = λ place o room most rest u q left h still r. let g = begun (Stands (var n) rest) (start_variable ops most n rest) r in record { enough = omega arith; onward = from_leaf g.t g.p g.mid g.first g.onward }

  int_held : (i : ℤ) → Fits i → AtHeld (int i)
  unfolding signs levels_of
  int_held i fits = λ place o room most rest u q left h still r. let g = begun (Stands (int i) rest) (start_integer ops most i o rest fits) r in record { enough = omega arith; onward = from_leaf g.t g.p g.mid g.first g.onward }

  atom_inner : (s : List ℕ) → InnerHeld (atom s) 0 (Quiet ops style (atom s)) (λ p ws. atom_signs s ws) 0
  atom_inner s = λ o room most rest u q left h quiet r. let g = begun (Stands (atom s) rest) (start_atom ops most s rest quiet.0 quiet.1 quiet.2) r in record { enough = omega arith; onward = from_leaf g.t g.p g.mid g.first g.onward }

  atom_placed : (s : List ℕ) (place : TermPlace) → Held (atom s) 0 (is_bracketed_atom ops style place s) (Quiet ops style (atom s)) (bracketed (is_bracketed_atom ops style place s) (λ p ws. atom_signs s ws)) (bracketed_levels (is_bracketed_atom ops style place s) 0) place.most
  atom_placed s place = bracket_held (atom s) 0 (is_bracketed_atom ops style place s) (Quiet ops style (atom s)) (λ p ws. atom_signs s ws) 0 place.most (omega arith) (λ e. omega arith) (λ rest. quiet_end ops style (atom s) tok.Close rest tt) (atom_inner s)

  atom_held : (s : List ℕ) → AtHeld (atom s)
  unfolding signs levels_of
  atom_held s = atom_placed s

  var_tail : (n : ℕ) → TailHeld (var n)
  unfolding signs levels_of
  var_tail n = barred (var n) 0 false (Quiet ops style (var n)) (λ o ws. tok.Variable n ∷ ws) 0 (var_held n argument) (λ rest. quiet_end ops style (var n) tok.CloseSquare rest tt)

  int_tail : (i : ℤ) → Fits i → TailHeld (int i)
  unfolding signs levels_of
  int_tail i fits = barred (int i) 0 false (Quiet ops style (int i)) (λ o ws. integer_signs i o ws) 0 (int_held i fits argument) (λ rest. quiet_end ops style (int i) tok.CloseSquare rest tt)

  -- the empty list ends a list with nothing behind its last element
  nil_tail : (s : List ℕ) → s ≡ nil → TailHeldBy (λ ws. ws) (atom s) 0
  nil_tail s e room rest ts x items tail left only (closed {p} {rest = behind} {t} r) =
      let k = only t p (tok.CloseSquare ∷ behind) r in
      record { enough = omega arith; term = ap (λ v. compound dot (more v (more (atom nil) none))) k.0 ∙ ap (λ n. compound dot (more x (more (atom n) none))) (sym e); there = behind_sign k.1 }
  nil_tail s e room rest ts x items tail left only (tailed {p} {mid} {t} r n) = let k = only t p (tok.Bar ∷ mid) r in let f = k.1 in absurd cc
  nil_tail s e room rest ts x items tail left only (element {p} {mid} {t} r h) = let k = only t p (tok.Comma ∷ mid) r in let f = k.1 in absurd cc

  atom_form : (s : List ℕ) (e : Bool) → (e ≡ true → s ≡ nil) → TailHeldBy (λ ws. position_signs ops style Tail e s None ws) (atom s) (atom_levels e (is_bracketed_atom ops style argument s))
  atom_form s true e = nil_tail s (e refl)
  atom_form s false e =
      barred (atom s) 0 (is_bracketed_atom ops style argument s) (Quiet ops style (atom s)) (λ o ws. bracketed (is_bracketed_atom ops style argument s) (λ p vs. atom_signs s vs) o ws) (bracketed_levels (is_bracketed_atom ops style argument s) 0)
      (atom_placed s argument) (λ rest. quiet_end ops style (atom s) tok.CloseSquare rest tt)

  atom_tail : (s : List ℕ) → TailHeld (atom s)
  unfolding signs levels_of
  atom_tail s = atom_form s (bytes_eq s nil) (named_itself s nil)

  -- a term in any position
  abbrev Is : Tree → Type 0
  Is t = AtHeld t × TailHeld t

  one_held : IsSane ops → (s : List ℕ) (a : Tree) → AtHeld a → Is (compound s (more a none))
  unfolding signs levels_of
  one_held w s a law =
      let sane = sane_op ops style s (more a none) w in
      (alone_held w s a law (alone_form ops style s (int_of a)) (alone_is ops style s (int_of a)) sane, alone_tail w s a law (alone_form ops style s (int_of a)) (alone_is ops style s (int_of a)) sane)

  two_held : IsSane ops → (s : List ℕ) (a b : Tree) → AtHeld a → Is b → Is (compound s (more a (more b none)))
  unfolding signs levels_of
  two_held w s a b law other =
      let sane = sane_op ops style s (more a (more b none)) w in
      (pair_held w s a b law other.0 other.1 (pair_form ops style s) (pair_is ops style s) sane, pair_tail w s a b law other.0 other.1 (pair_form ops style s) (pair_is ops style s) sane)

  many_arguments : IsSane ops → (a b c : Tree) (args : Trees) → AtHeld a → AtHeld b → AllHeld (more c args) → (room : ℕ) (rest : List Sign) (found : Trees) (left : List Sign) → Arguments ops room (signs ops style (At argument) a (after marks.Open) (tok.Comma ∷ signs ops style (At argument) b (after marks.Comma) (other_signs ops style (more c args) rest))) found left → ExactlyAll room (many_levels ops style a b (more c args)) (more a (more b (more c args))) rest found left
  many_arguments w a b c args law other others room rest found left h =
      comma_argument w a law (more b (more c args)) (max (levels_of ops style (At argument) b) (other_levels ops style (more c args))) (after marks.Open) room (signs ops style (At argument) b (after marks.Comma) (other_signs ops style (more c args) rest)) rest
      (λ f l k. arguments_held w b (more c args) other others (after marks.Comma) room rest f l k) found left h

  many_held : IsSane ops → (s : List ℕ) (a b c : Tree) (args : Trees) → AtHeld a → AtHeld b → AllHeld (more c args) → Is (compound s (more a (more b (more c args))))
  unfolding signs levels_of
  many_held w s a b c args law other others = (
    λ place. call_held s _ (more a (more b (more c args))) (λ rest. signs ops style (At argument) a (after marks.Open) (tok.Comma ∷ signs ops style (At argument) b (after marks.Comma) (other_signs ops style (more c args) rest))) (many_levels ops style a b (more c args)) place.most _ (many_arguments w a b c args law other others),
    barred (compound s (more a (more b (more c args)))) 0 false (OpQuiet ops style None) (λ o ws. functor_sign s ∷ tok.OpenCall ∷ signs ops style (At argument) a (after marks.Open) (tok.Comma ∷ signs ops style (At argument) b (after marks.Comma) (other_signs ops style (more c args) ws))) (suc (many_levels ops style a b (more c args)))
        (call_held s _ (more a (more b (more c args))) (λ rest. signs ops style (At argument) a (after marks.Open) (tok.Comma ∷ signs ops style (At argument) b (after marks.Comma) (other_signs ops style (more c args) rest))) (many_levels ops style a b (more c args)) 999 (OpQuiet ops style None) (many_arguments w a b c args law other others)) (op_quiet_square ops style None),
  )

  mutual
    unfolding IsWhole

    held : IsSane ops → (t : Tree) → IsWhole t → Is t
    held w (var n) h = (var_held n, var_tail n)
    held w (int i) h = (int_held i h, int_tail i h)
    held w (atom s) h = (atom_held s, atom_tail s)
    held w (compound s none) h = absurd (omega (arith, h.0))
    held w (compound s (more a none)) h = one_held w s a (held w a h.2.0).0
    held w (compound s (more a (more b none))) h = two_held w s a b (held w a h.2.0).0 (held w b h.2.1.0)
    held w (compound s (more a (more b (more c args)))) h = many_held w s a b c args (held w a h.2.0).0 (held w b h.2.1.0).0 (all_held w (more c args) h.2.1.1)

    all_held : IsSane ops → (ts : Trees) → AreWhole ts → AllHeld ts
    all_held w none h = tt
    all_held w (more t ts) h = ((held w t h.0).0, all_held w ts h.1)

  -- what the signs of a clause spell, they spell where as many levels may be open as it needs
  pub clause_needs : IsSane ops → (t : Tree) → IsWhole t → (levels : ℕ) (u : Tree) → Spells ops levels (clause_signs ops style t) u → levels_of ops style (At whole) t ≤ levels
  clause_needs w t h levels u spelled = (place_end whole t (held w t h).0 None levels tok.End [] tt u spelled.0 (tok.End ∷ []) spelled.1).enough
