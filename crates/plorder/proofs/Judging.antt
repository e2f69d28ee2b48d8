-- What two values come to.
use Rattle.std.proofs.Common.{◌≡◌, ℕ, zero, suc, ◌<◌, List, length, refl, sym, ap, ap₂, ◌∙◌, subst, arith}
use Rattle.std.specs.declared.cmp.Ordering.{Ordering}
use Rattle.std.specs.declared.cmp.Ordering.TheVariants.{Less, Equal, Greater}
use Rattle.std.specs.Ordering.{nat_cmp, ordering_then}
use Rattle.std.proofs.lemmas.Cmp.{nat_cmp_total, nat_list_cmp_total, tied_itself}
use Rattle.std.proofs.lemmas.Map.Lookups.{exact_unsigned}
use Rattle.plterm.specs.Tree.{Tree, var, int, atom, compound, trees, list_of}
use Rattle.plterm.specs.Order.{name_order, functor_order, order, arguments_order}
use Rattle.plterm.proofs.Orders.{order-same}
use Rattle.platoms.specs.Names.{IsTable, atom_at, functor_name}
use Rattle.plcells.specs.Store.{Store, term, terms, IsBlock}
use Rattle.plcells.specs.Walking.{weight}
use Rattle.plorder.specs.declared.shape.Block.{Block}
use Rattle.plorder.specs.declared.shape.Shape.{Shape}
use Rattle.plorder.specs.declared.shape.Shape.TheVariants.{Variable, Integer, Atom, Compound}
use Rattle.plorder.specs.declared.compare.Pair.{Pair}
use Rattle.plorder.specs.declared.compare.Pair.TheVariants.{Variables, Integers, Atoms, Compounds, Apart}
use Rattle.plorder.specs.declared.compare.SpanPair.{SpanPair}
use Rattle.plorder.specs.Shapes.{IsOfShape, pair_of}
use Rattle.plorder.specs.Runs.{HasSpanPair}

-- two blocks at their places, of a heap whose names are a table
pub record AreCompounds (h : Store) (s t : Tree) (a b : Block) : Type 0 where
  pub names : IsTable h.names
  pub left : IsBlock h a.place a.functor a.arity
  pub right : IsBlock h b.place b.functor b.arity
  pub left_is : s ≡ term h a.place
  pub right_is : t ≡ term h b.place

pub record AreAtoms (h : Store) (s t : Tree) (a b : ℕ) : Type 0 where
  pub left : a < length h.names.atoms
  pub right : b < length h.names.atoms
  pub left_is : s ≡ atom (atom_at h.names a)
  pub right_is : t ≡ atom (atom_at h.names b)

-- what a pair says of two terms
unfoldable pub PairSays : Store → Tree → Tree → Pair → Type 0
PairSays h s t (Variables m n) = (s ≡ var m) × (t ≡ var n)
PairSays h s t (Integers i j) = (s ≡ int i) × (t ≡ int j)
PairSays h s t (Atoms a b) = AreAtoms h s t a b
PairSays h s t (Compounds a b) = AreCompounds h s t a b
PairSays h s t (Apart o) = o ≡ order s t

module _ (h : Store) (s t : Tree) where
  apart : (a b : Tree) (o : Ordering) → s ≡ a → t ≡ b → o ≡ order a b → o ≡ order s t
  apart a b o p q e = e ∙ sym (ap₂ order p q)

  pub pair-says : (x y : Shape) → IsOfShape h s x → IsOfShape h t y → PairSays h s t (pair_of x y)
  unfolding PairSays order
  pair-says (Variable m) (Variable n) p q = (p, q)
  pair-says (Variable m) (Integer j) p q = apart (var m) (int j) Less p q refl
  pair-says (Variable m) (Atom b) p q = apart (var m) (atom (atom_at h.names b)) Less p q.2 refl
  pair-says (Variable m) (Compound b) p q = apart (var m) (compound (functor_name h.names b.functor) (trees (terms h (suc b.place) b.arity))) Less p (q.2 ∙ q.1.is) refl
  pair-says (Integer i) (Variable n) p q = apart (int i) (var n) Greater p q refl
  pair-says (Integer i) (Integer j) p q = (p, q)
  pair-says (Integer i) (Atom b) p q = apart (int i) (atom (atom_at h.names b)) Less p q.2 refl
  pair-says (Integer i) (Compound b) p q = apart (int i) (compound (functor_name h.names b.functor) (trees (terms h (suc b.place) b.arity))) Less p (q.2 ∙ q.1.is) refl
  pair-says (Atom a) (Variable n) p q = apart (atom (atom_at h.names a)) (var n) Greater p.2 q refl
  pair-says (Atom a) (Integer j) p q = apart (atom (atom_at h.names a)) (int j) Greater p.2 q refl
  pair-says (Atom a) (Atom b) p q = record { left = p.1; right = q.1; left_is = p.2; right_is = q.2 }
  pair-says (Atom a) (Compound b) p q = apart (atom (atom_at h.names a)) (compound (functor_name h.names b.functor) (trees (terms h (suc b.place) b.arity))) Less p.2 (q.2 ∙ q.1.is) refl
  pair-says (Compound a) (Variable n) p q = apart (compound (functor_name h.names a.functor) (trees (terms h (suc a.place) a.arity))) (var n) Greater (p.2 ∙ p.1.is) q refl
  pair-says (Compound a) (Integer j) p q = apart (compound (functor_name h.names a.functor) (trees (terms h (suc a.place) a.arity))) (int j) Greater (p.2 ∙ p.1.is) q refl
  pair-says (Compound a) (Atom b) p q = apart (compound (functor_name h.names a.functor) (trees (terms h (suc a.place) a.arity))) (atom (atom_at h.names b)) Greater (p.2 ∙ p.1.is) q.2 refl
  pair-says (Compound a) (Compound b) p q = record { names = p.0; left = p.1; right = q.1; left_is = p.2; right_is = q.2 }

pub atoms-order : (h : Store) (s t : Tree) (a b : ℕ) (o : Ordering) → AreAtoms h s t a b → o ≡ name_order (atom_at h.names a) (atom_at h.names b) → o ≡ order s t
unfolding order
atoms-order h s t a b o are e = e ∙ sym (ap₂ order are.left_is are.right_is)

pub name_order-same : (s r : List ℕ) → s ≡ r → Equal ≡ name_order s r
name_order-same s r e = sym (tied_itself nat_list_cmp_total s) ∙ ap (name_order s) e

pub functor_order-same : (s r : List ℕ) (m n : ℕ) → s ≡ r → m ≡ n → Equal ≡ functor_order s m r n
functor_order-same s r m n e f = name_order-same s r e ∙ ap (λ (o : Ordering). ordering_then o (name_order s r)) (sym (tied_itself nat_cmp_total m) ∙ ap (nat_cmp m) f)

pub term-same : (h : Store) (a b : ℕ) → a ≡ b → Equal ≡ order (term h a) (term h b)
term-same h a b e = sym (order-same (term h a)) ∙ ap (λ (d : ℕ). order (term h a) (term h d)) e

terms-length : (h : Store) (a k : ℕ) → length (list_of (trees (terms h a k))) ≡ k
terms-length h a zero = refl
terms-length h a (suc k) = ap suc (terms-length h (suc a) k)

decided : (o p : Ordering) → (o ≡ Equal → ⊥) → o ≡ ordering_then o p
decided Less p ne = refl
decided Equal p ne = absurd (ne refl)
decided Greater p ne = refl

first : (o p : Ordering) → Equal ≡ ordering_then o p → o ≡ Equal
first Less p h = cc
first Equal p h = refl
first Greater p h = cc

module _ (h : Store) (a b : Block) (left : IsBlock h a.place a.functor a.arity) (right : IsBlock h b.place b.functor b.arity) where
  blocks_functors : Ordering
  blocks_functors = functor_order (functor_name h.names a.functor) a.arity (functor_name h.names b.functor) b.arity

  blocks_order : order (term h a.place) (term h b.place)
      ≡ ordering_then (functor_order (functor_name h.names a.functor) a.arity (functor_name h.names b.functor) b.arity)
      (arguments_order (trees (terms h (suc a.place) a.arity)) (trees (terms h (suc b.place) b.arity)))
  unfolding order
  blocks_order =
      ap₂ order left.is right.is
      ∙ ap₂ (λ (m n : ℕ). ordering_then (functor_order (functor_name h.names a.functor) m (functor_name h.names b.functor) n) (arguments_order (trees (terms h (suc a.place) a.arity)) (trees (terms h (suc b.place) b.arity))))
      (terms-length h (suc a.place) a.arity) (terms-length h (suc b.place) b.arity)

  pub blocks-decided : (o : Ordering) → o ≡ functor_order (functor_name h.names a.functor) a.arity (functor_name h.names b.functor) b.arity → (o ≡ Equal → ⊥) → o ≡ order (term h a.place) (term h b.place)
  blocks-decided o e ne =
      decided o (arguments_order (trees (terms h (suc a.place) a.arity)) (trees (terms h (suc b.place) b.arity))) ne
      ∙ ap (λ (q : Ordering). ordering_then q (arguments_order (trees (terms h (suc a.place) a.arity)) (trees (terms h (suc b.place) b.arity)))) e
      ∙ sym blocks_order

  pub blocks-run : (r : SpanPair) → IsTable h.names → r.left ≡ suc a.place → r.right ≡ suc b.place → r.count ≡ a.arity
      → Equal ≡ functor_order (functor_name h.names a.functor) a.arity (functor_name h.names b.functor) b.arity → HasSpanPair h (term h a.place) (term h b.place) r
  unfolding weight
  blocks-run r names el er ec same =
      let arity : a.arity ≡ b.arity = exact_unsigned a.arity b.arity (first (nat_cmp a.arity b.arity) (name_order (functor_name h.names a.functor) (functor_name h.names b.functor)) same) in
      let some : 0 < a.arity = subst (λ k. 0 < k) left.arity ((names.functors a.functor left.functor).some) in
      record {
        run = record {
          some = subst (λ k. 0 < k) (sym ec) some;
          left = omega (arith, left.within);
          right = omega (arith, right.within, arity);
          left_plain = λ d le lt. left.plain d (omega arith) (omega arith);
          right_plain = λ d le lt. right.plain d (omega arith) (omega (arith, arity));
          few = left.few;
        };
        is =
            blocks_order
            ∙ ap (λ (q : Ordering). ordering_then q (arguments_order (trees (terms h (suc a.place) a.arity)) (trees (terms h (suc b.place) b.arity)))) (sym same)
            ∙ ap₂ (λ ts us. arguments_order (trees ts) (trees us))
            (ap₂ (terms h) (sym el) (sym ec))
            (ap₂ (terms h) (sym er) (sym (ec ∙ arity)));
        lighter = ap weight left.is ∙ ap₂ (λ c k. weight (compound (functor_name h.names a.functor) (trees (terms h c k)))) (sym el) (sym ec);
      }
