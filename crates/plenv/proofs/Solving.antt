-- Equations that are put and solved.
use Rattle.std.proofs.Common.{◌≡◌, ℕ, ◌+◌, ◌-◌, ◌<◌, ◌≤◌, List, [], ◌∷◌, ◌++◌, length, length-append, refl, sym, ap, ap₂, ◌∙◌, arith, inl, inr, None}
use Rattle.std.proofs.lemmas.Bool.{cases_lt, cond_below, cond_above}
use Rattle.std.proofs.lemmas.List.{get_or_append_left, get_or-append_right}
use Rattle.plterm.specs.Tree.{Tree, var}
use Rattle.plterm.specs.Variables.{AllBelow}
use Rattle.plsubst.specs.Subst.{bind}
use Rattle.plsubst.specs.Unify.{unify}
use Rattle.platoms.proofs.Extending.{Extends-refl}
use Rattle.plcells.specs.declared.cell.Cell.{Cell}
use Rattle.plcells.specs.declared.cell.Cell.TheVariants.{Atom}
use Rattle.plcells.specs.declared.equation.Equation.{Equation}
use Rattle.plcells.specs.Store.{Store, at, AreValues, value, bounded_by}
use Rattle.plcells.specs.Equations.{filled, left_of, right_of, IsEquation}
use Rattle.plcells.specs.Putting.{standing}
use Rattle.plcells.proofs.Given.{value-in}
use Rattle.plcells.proofs.Nodes.{bind-agree}
use Rattle.plcells.proofs.Committing.{value-noted}
use Rattle.plenv.specs.declared.slot.Mark.{Mark}
use Rattle.plenv.specs.Env.{Env, IsEnv, IsSlot, IsWithin, slot_at, cut}
use Rattle.plcells.specs.Store.{cut as cut_heap}
use Rattle.plenv.specs.declared.slot.Slot.{Slot}
use Rattle.plenv.specs.declared.slot.Slot.TheVariants.{Free, Set}
use Rattle.plenv.specs.Changes.{bounded, Extends, Keeps, Puts, PutsVariables, Unifies}
use Rattle.plenv.specs.Solving.{counted, Solves}
use Rattle.plenv.proofs.Bounding.{variable-bounded}
use Rattle.plenv.proofs.Keeping.{Keeps-trans}
use Rattle.plenv.proofs.Marking.{keeps_under}
use Rattle.plenv.proofs.Putting.{Extends-trans}
use Rattle.plenv.proofs.Terms.{all_still}

-- ---- with more variables in use
within_counted : (m : Mark) (e : Env) (k : ℕ) → IsWithin m e → IsWithin m (counted k e)
within_counted m e k w = record { heap = w.heap; old = w.old; noted = w.noted }

within_before : (m : Mark) (e : Env) (k : ℕ) → IsWithin m (counted k e) → IsWithin m e
within_before m e k w = record { heap = w.heap; old = w.old; noted = w.noted }

pub keeps-counted : (e new : Env) (k : ℕ) → Keeps e new → Keeps (counted k e) new
unfolding cut cut_heap
keeps-counted e new k x = record { within = λ m w. x.within m (within_before m e k w); kept = λ m w. x.kept m (within_before m e k w); names = x.names }

keeps-before : (e new : Env) (k : ℕ) → Keeps (counted k e) new → Keeps e new
unfolding cut cut_heap
keeps-before e new k x = record { within = λ m w. x.within m (within_counted m e k w); kept = λ m w. x.kept m (within_counted m e k w); names = x.names }

pub all-joined : (h : Store) (vs ws : List Cell) → AreValues h vs → AreValues h ws → AreValues h (vs ++ ws)
all-joined h [] ws a b = b
all-joined h (v ∷ vs) ws a b = (a.0, all-joined h vs ws a.1 b)

-- ---- the values and the new variables of an equation
module _ (old mid : Env) (vs ws : List Cell) (k : ℕ) (has : PutsVariables old mid ws k) (are : AreValues old.heap vs) where
  pub all-there : AreValues mid.heap (vs ++ ws)
  all-there = all-joined mid.heap vs ws (all_still old.heap mid.heap vs (λ v f. (has.extends.values v f).0) are) has.fit

  pub how-many : length (vs ++ ws) ≡ length vs + k
  how-many = omega (arith, length-append vs ws, has.many)

  stands : (x : ℕ) → x < length vs + k → standing mid.heap (vs ++ ws) x ≡ filled old.heap vs old.count x
  stands x lt = elim (cases_lt x (length vs)) [
    | inl low ↦
        ap (value mid.heap) (get_or_append_left vs ws (Atom 0) x low)
        ∙ (has.extends.values (at vs x) (value-in old.heap vs x (Atom 0) (at vs x) are low refl)).1
        ∙ cond_below x (length vs) (value old.heap (at vs x)) (var (old.count + (x - length vs))) low
    | inr high ↦
        cond_above x (length vs) (value old.heap (at vs x)) (var (old.count + (x - length vs))) (standing mid.heap (vs ++ ws) x) high
        (ap (value mid.heap) (get_or-append_right vs ws (length vs) x (Atom 0) refl high) ∙ has.are (x - length vs) (omega (arith, lt, high)))
  ]

  pub side : (t : Tree) → AllBelow (length vs + k) t → bind (standing mid.heap (vs ++ ws)) t ≡ bind (filled old.heap vs old.count) t
  side t below = bind-agree (length vs + k) (standing mid.heap (vs ++ ws)) (filled old.heap vs old.count) stands t below

-- ---- both terms were put, and unified
module _ (old mid one two new : Env) (q : Equation) (ws : List Cell) (a b : Cell) (is : IsEquation old.heap q) (has : PutsVariables old mid ws q.new)
    (left : Puts mid one a (bind (standing mid.heap (q.values.items ++ ws)) q.left)) (right : Puts one two b (bind (standing one.heap (q.values.items ++ ws)) q.right)) where
  left_is : value two.heap a ≡ left_of old.heap old.count q
  left_is = (right.extends.values a left.fits).1 ∙ left.is ∙ side old mid q.values.items ws q.new has is.values q.left is.left

  same : (x : ℕ) → x < length q.values.items + q.new → standing one.heap (q.values.items ++ ws) x ≡ standing mid.heap (q.values.items ++ ws) x
  same x lt =
      let in_all : x < length (q.values.items ++ ws) = omega (arith, lt, how-many old mid q.values.items ws q.new has is.values) in
      (left.extends.values (at (q.values.items ++ ws) x) (value-in mid.heap (q.values.items ++ ws) x (Atom 0) (at (q.values.items ++ ws) x) (all-there old mid q.values.items ws q.new has is.values) in_all refl)).1

  right_is : value two.heap b ≡ right_of old.heap old.count q
  right_is =
      right.is
      ∙ bind-agree (length q.values.items + q.new) (standing one.heap (q.values.items ++ ws)) (standing mid.heap (q.values.items ++ ws)) same q.right is.right
      ∙ side old mid q.values.items ws q.new has is.values q.right is.right

  put : Extends old two
  put = Extends-trans old mid two has.extends (Extends-trans mid one two left.extends right.extends)

  put_count : two.count ≡ old.count + q.new
  put_count = right.count ∙ left.count ∙ has.count

  pub unified : Unifies two new (value two.heap a) (value two.heap b) → Solves old new (left_of old.heap old.count q) (right_of old.heap old.count q) q.new
  unfolding cut cut_heap
  unified u = record {
    unifier = u.unifier;
    is = ap₂ unify (sym left_is) (sym right_is) ∙ u.is;
    made = record {
      values = λ v f. let p = put.values v f in let r = u.made.values v p.0 in (r.0, r.1 ∙ ap (bind u.unifier) p.1);
      slots = u.made.slots ∙ right.slots ∙ left.slots ∙ has.slots;
      variables = λ i lt. u.made.variables i (omega (arith, lt, put.slots)) ∙ ap (bind u.unifier) (put.variables i lt);
      count = u.made.count ∙ put_count;
      keeps = keeps-counted old new q.new (Keeps-trans old two new put.keeps u.made.keeps);
    };
  }

  pub ununified : unify (value two.heap a) (value two.heap b) ≡ None → unify (left_of old.heap old.count q) (right_of old.heap old.count q) ≡ None
  ununified none = ap₂ unify (sym left_is) (sym right_is) ∙ none

-- ---- more is old
module _ (h : Store) (cells n : ℕ) (q : Equation) (is : IsEquation h q) where
  noted_same : (x : ℕ) → x < length q.values.items + q.new → filled (bounded_by h cells) q.values.items n x ≡ filled h q.values.items n x
  noted_same x lt = elim (cases_lt x (length q.values.items)) [
    | inl low ↦
        sym (cond_below x (length q.values.items) (value (bounded_by h cells) (at q.values.items x)) (var (n + (x - length q.values.items))) low)
        ∙ (value-noted h h.trail cells (at q.values.items x) (value-in h q.values.items x (Atom 0) (at q.values.items x) is.values low refl)).1
        ∙ cond_below x (length q.values.items) (value h (at q.values.items x)) (var (n + (x - length q.values.items))) low
    | inr high ↦
        sym (cond_above x (length q.values.items) (value (bounded_by h cells) (at q.values.items x)) (var (n + (x - length q.values.items))) (var (n + (x - length q.values.items))) high refl)
        ∙ cond_above x (length q.values.items) (value h (at q.values.items x)) (var (n + (x - length q.values.items))) (var (n + (x - length q.values.items))) high refl
  ]

  pub left-noted : left_of (bounded_by h cells) n q ≡ left_of h n q
  left-noted = bind-agree (length q.values.items + q.new) (filled (bounded_by h cells) q.values.items n) (filled h q.values.items n) noted_same q.left is.left

  pub right-noted : right_of (bounded_by h cells) n q ≡ right_of h n q
  right-noted = bind-agree (length q.values.items + q.new) (filled (bounded_by h cells) q.values.items n) (filled h q.values.items n) noted_same q.right is.right

  pub equation-noted : IsEquation (bounded_by h cells) q
  equation-noted = record { values = all_still h (bounded_by h cells) q.values.items (λ v f. (value-noted h h.trail cells v f).0) is.values; left = is.left; right = is.right }

module _ (e new : Env) (cells slots : ℕ) (more_cells : e.heap.boundary ≤ cells) (more_slots : e.boundary ≤ slots) (q : Equation) (is : IsEquation e.heap q) (at_first : IsEnv e) (after : IsEnv new) where
  abbrev pub SolvesIn : Env → Env → Type 0
  SolvesIn x y = Solves x y (left_of x.heap x.count q) (right_of x.heap x.count q) q.new

  pub solves-under : SolvesIn (bounded cells slots e) new → SolvesIn e (bounded e.heap.boundary e.boundary new)
  unfolding cut cut_heap
  solves-under s = record {
    unifier = s.unifier;
    is = ap₂ unify (sym (left-noted e.heap cells e.count q is)) (sym (right-noted e.heap cells e.count q is)) ∙ s.is;
    made = record {
      values = λ v f.
          let up = value-noted e.heap e.heap.trail cells v f in
          let r = s.made.values v up.0 in
          let down = value-noted new.heap new.heap.trail e.heap.boundary v r.0 in
          (down.0, down.1 ∙ r.1 ∙ ap (bind s.unifier) up.1);
      slots = s.made.slots;
      variables = λ i lt.
          variable-bounded new after e.heap.boundary e.boundary i (rw s.made.slots lt) ∙ s.made.variables i lt ∙ ap (bind s.unifier) (variable-bounded e at_first cells slots i lt);
      count = s.made.count;
      keeps = keeps-counted e (bounded e.heap.boundary e.boundary new) q.new (keeps_under e new cells slots more_cells more_slots (keeps-before (bounded cells slots e) new q.new s.made.keeps));
    };
  }

  pub unsolved-under : unify (left_of (bounded cells slots e).heap e.count q) (right_of (bounded cells slots e).heap e.count q) ≡ None → unify (left_of e.heap e.count q) (right_of e.heap e.count q) ≡ None
  unsolved-under none = ap₂ unify (sym (left-noted e.heap cells e.count q is)) (sym (right-noted e.heap cells e.count q is)) ∙ none

slot_counted : (e : Env) (k : ℕ) (s : Slot) → IsSlot e s → IsSlot (counted k e) s
slot_counted e k (Free n) f = (f.0, omega (arith, f.1))
slot_counted e k (Set v) f = f

pub env-counted : (e : Env) (k : ℕ) → IsEnv e → IsEnv (counted k e)
env-counted e k is = record {
  heap = is.heap;
  slots = record {
    fit = λ i lt. slot_counted e k (slot_at e.slots i) (is.slots.fit i lt);
    once = is.slots.once;
    low = λ n le. is.slots.low n (omega (arith, le));
    bounded = is.slots.bounded;
    few = is.slots.few;
  };
}

pub extends-counted : (e : Env) (k : ℕ) → Extends e (counted k e)
unfolding cut cut_heap
extends-counted e k = record {
  values = λ v f. (f, refl);
  slots = omega arith;
  variables = λ i lt. refl;
  count = omega arith;
  keeps = record { within = λ m w. within_counted m e k w; kept = λ m w. refl; names = Extends-refl e.heap.names };
}
