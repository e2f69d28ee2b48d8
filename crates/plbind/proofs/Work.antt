-- The list of pairs, step by step.
use Rattle.std.proofs.Common.{◌≡◌, ℕ, zero, suc, ◌+◌, ◌<◌, ◌≤◌, List, [], ◌∷◌, ◌++◌, refl, sym, ap, ap₂, ◌∙◌, subst, arith, append_assoc}
use Rattle.plterm.specs.Tree.{Tree, more, trees}
use Rattle.plsubst.specs.Subst.{bind, bind_all}
use Rattle.plsubst.proofs.Unify.{more-head, more-tail}
use Rattle.plcells.specs.declared.cell.Cell.{Cell}
use Rattle.plcells.specs.Store.{Store, term, terms}
use Rattle.plcells.specs.Walking.{weight, weights}
use Rattle.plcells.proofs.Searching.{weight-some}
use Rattle.plbind.specs.Unifying.{Equates, Unifies, IsPlain, IsInside, pairs, HasArgs, HasNear, HasLeft, Stands}

abbrev pub weigh_pairs : Store → List (ℕ × ℕ) → ℕ
weigh_pairs h [] = 0
weigh_pairs h (p ∷ ps) = weight (term h p.0) + weigh_pairs h ps

-- the same unifiers are left
pub record Equal (h : Store) (old new : List (ℕ × ℕ)) : Type 0 where
  pub to : (τ : ℕ → Tree) → Unifies τ h old → Unifies τ h new
  pub back : (τ : ℕ → Tree) → Unifies τ h new → Unifies τ h old

pub unifies-left : (τ : ℕ → Tree) (h : Store) (xs ys : List (ℕ × ℕ)) → Unifies τ h (xs ++ ys) → Unifies τ h xs
unifies-left τ h [] ys u = tt
unifies-left τ h (x ∷ xs) ys u = (u.0, unifies-left τ h xs ys u.1)

pub unifies-right : (τ : ℕ → Tree) (h : Store) (xs ys : List (ℕ × ℕ)) → Unifies τ h (xs ++ ys) → Unifies τ h ys
unifies-right τ h [] ys u = u
unifies-right τ h (x ∷ xs) ys u = unifies-right τ h xs ys u.1

pub unifies-both : (τ : ℕ → Tree) (h : Store) (xs ys : List (ℕ × ℕ)) → Unifies τ h xs → Unifies τ h ys → Unifies τ h (xs ++ ys)
unifies-both τ h [] ys u v = v
unifies-both τ h (x ∷ xs) ys u v = (u.0, unifies-both τ h xs ys u.1 v)

inside-left : (h : Store) (xs ys : List (ℕ × ℕ)) → IsInside h (xs ++ ys) → IsInside h xs
inside-left h [] ys u = tt
inside-left h (x ∷ xs) ys u = (u.0, u.1, inside-left h xs ys u.2)

inside-right : (h : Store) (xs ys : List (ℕ × ℕ)) → IsInside h (xs ++ ys) → IsInside h ys
inside-right h [] ys u = u
inside-right h (x ∷ xs) ys u = inside-right h xs ys u.2

inside-both : (h : Store) (xs ys : List (ℕ × ℕ)) → IsInside h xs → IsInside h ys → IsInside h (xs ++ ys)
inside-both h [] ys u v = v
inside-both h (x ∷ xs) ys u v = (u.0, u.1, inside-both h xs ys u.2 v)

weigh-append : (h : Store) (xs ys : List (ℕ × ℕ)) → weigh_pairs h (xs ++ ys) ≡ weigh_pairs h xs + weigh_pairs h ys
weigh-append h [] ys = omega arith
weigh-append h (x ∷ xs) ys = omega (arith, weigh-append h xs ys)

unifies-pairs : (τ : ℕ → Tree) (h : Store) (k a b : ℕ) → bind_all τ (trees (terms h a k)) ≡ bind_all τ (trees (terms h b k)) → Unifies τ h (pairs a b k)
unfolding bind
unifies-pairs τ h zero a b e = tt
unifies-pairs τ h (suc k) a b e = unifies-both τ h (pairs (suc a) (suc b) k) ((a, b) ∷ []) (unifies-pairs τ h k (suc a) (suc b) (more-tail e)) (more-head e, tt)

pairs-unify : (τ : ℕ → Tree) (h : Store) (k a b : ℕ) → Unifies τ h (pairs a b k) → bind_all τ (trees (terms h a k)) ≡ bind_all τ (trees (terms h b k))
unfolding bind
pairs-unify τ h zero a b u = refl
pairs-unify τ h (suc k) a b u =
    ap₂ more (unifies-right τ h (pairs (suc a) (suc b) k) ((a, b) ∷ []) u).0 (pairs-unify τ h k (suc a) (suc b) (unifies-left τ h (pairs (suc a) (suc b) k) ((a, b) ∷ []) u))

weigh-pairs : (h : Store) (k a b : ℕ) → weigh_pairs h (pairs a b k) ≡ weights (trees (terms h a k))
unfolding weight
weigh-pairs h zero a b = refl
weigh-pairs h (suc k) a b = omega (arith, weigh-append h (pairs (suc a) (suc b) k) ((a, b) ∷ []), weigh-pairs h k (suc a) (suc b))

pub inside-pairs : (h : Store) (k a b : ℕ) → ((d : ℕ) → a ≤ d → d < a + k → IsPlain h d) → ((d : ℕ) → b ≤ d → d < b + k → IsPlain h d) → IsInside h (pairs a b k)
inside-pairs h zero a b la lb = tt
inside-pairs h (suc k) a b la lb =
    inside-both h (pairs (suc a) (suc b) k) ((a, b) ∷ [])
    (inside-pairs h k (suc a) (suc b) (λ d le lt. la d (omega arith) (omega arith)) (λ d le lt. lb d (omega arith) (omega arith)))
    (la a (omega arith) (omega arith), lb b (omega arith) (omega arith), tt)

pub args-inside : (h : Store) (s t : Tree) (p q k pa qa : ℕ) → HasArgs h s t p q k → pa ≡ suc p → qa ≡ suc q → IsInside h (pairs pa qa k)
args-inside h s t p q k pa qa args ep eq = inside-pairs h k pa qa
    (λ d le lt. (omega (arith, args.left, ep, lt), args.left_plain d (omega (arith, ep, le)) (omega (arith, ep, lt))))
    (λ d le lt. (omega (arith, args.right, eq, lt), args.right_plain d (omega (arith, eq, le)) (omega (arith, eq, lt))))

-- the arguments of two compounds stand for them
pub args-stand : (h : Store) (s t : Tree) (p q k pa qa : ℕ) → HasArgs h s t p q k → pa ≡ suc p → qa ≡ suc q → Stands h (pairs pa qa k) s t
args-stand h s t p q k pa qa args ep eq = record {
  to = λ τ u. unifies-pairs τ h k pa qa (ap (λ d. bind_all τ (trees (terms h d k))) ep ∙ args.to τ u ∙ ap (λ d. bind_all τ (trees (terms h d k))) (sym eq));
  back = λ τ u. args.back τ (ap (λ d. bind_all τ (trees (terms h d k))) (sym ep) ∙ pairs-unify τ h k pa qa u ∙ ap (λ d. bind_all τ (trees (terms h d k))) eq);
}

-- one more pair, from the last on
pub pairs-more : (items old : List (ℕ × ℕ)) (a b i k : ℕ) → items ≡ old ++ pairs (a + suc i) (b + suc i) k → items ++ (a + i, b + i) ∷ [] ≡ old ++ pairs (a + i) (b + i) (suc k)
pairs-more items old a b i k e =
    ap (λ xs. xs ++ (a + i, b + i) ∷ []) e
    ∙ append_assoc old (pairs (a + suc i) (b + suc i) k) ((a + i, b + i) ∷ [])
    ∙ ap₂ (λ m n. old ++ (pairs m n k ++ (a + i, b + i) ∷ [])) (omega arith) (omega arith)

-- a pair was taken off
module _ (h : Store) (old work rest : List (ℕ × ℕ)) (a b : ℕ) (e : work ≡ rest ++ (a, b) ∷ []) where
  pub taken_inside : IsInside h work → IsInside h rest
  taken_inside i = inside-left h rest ((a, b) ∷ []) (subst (IsInside h) e i)

  pub taken_left : IsInside h work → IsPlain h a
  taken_left i = (inside-right h rest ((a, b) ∷ []) (subst (IsInside h) e i)).0

  pub taken_right : IsInside h work → IsPlain h b
  taken_right i = (inside-right h rest ((a, b) ∷ []) (subst (IsInside h) e i)).1

  apart : (τ : ℕ → Tree) → Unifies τ h work → Unifies τ h rest × Equates τ h a b
  apart τ u = let v = subst (Unifies τ h) e u in (unifies-left τ h rest ((a, b) ∷ []) v, (unifies-right τ h rest ((a, b) ∷ []) v).0)

  join : (τ : ℕ → Tree) → Unifies τ h rest → Equates τ h a b → Unifies τ h work
  join τ u q = subst (Unifies τ h) (sym e) (unifies-both τ h rest ((a, b) ∷ []) u (q, tt))

  work_weight : weigh_pairs h work ≡ weigh_pairs h rest + weight (term h a)
  work_weight = ap (weigh_pairs h) e ∙ weigh-append h rest ((a, b) ∷ []) ∙ omega arith

  pub taken_lighter : weigh_pairs h rest < weigh_pairs h work
  taken_lighter = omega (arith, work_weight, weight-some (term h a))

  -- the two are one term
  pub equal_same : ((τ : ℕ → Tree) → Equates τ h a b) → Equal h old work → Equal h old rest
  equal_same same q = record {
    to = λ τ u. (apart τ (q.to τ u)).0;
    back = λ τ u. q.back τ (join τ u (same τ));
  }

  -- their arguments are left
  module _ (p q k pa qa : ℕ) (args : HasArgs h (term h a) (term h b) p q k) (ep : pa ≡ suc p) (eq : qa ≡ suc q) where
    shifted : (τ : ℕ → Tree) → bind τ (term h a) ≡ bind τ (term h b) → bind_all τ (trees (terms h pa k)) ≡ bind_all τ (trees (terms h qa k))
    shifted τ u = ap (λ d. bind_all τ (trees (terms h d k))) ep ∙ args.to τ u ∙ ap (λ d. bind_all τ (trees (terms h d k))) (sym eq)

    shifted_back : (τ : ℕ → Tree) → bind_all τ (trees (terms h pa k)) ≡ bind_all τ (trees (terms h qa k)) → bind τ (term h a) ≡ bind τ (term h b)
    shifted_back τ u = args.back τ (ap (λ d. bind_all τ (trees (terms h d k))) (sym ep) ∙ u ∙ ap (λ d. bind_all τ (trees (terms h d k))) eq)

    pub equal_args : Equal h old work → Equal h old (rest ++ pairs pa qa k)
    equal_args same = record {
      to = λ τ u.
          let v = apart τ (same.to τ u) in
          unifies-both τ h rest (pairs pa qa k) v.0 (unifies-pairs τ h k pa qa (shifted τ v.1));
      back = λ τ u.
          same.back τ (join τ (unifies-left τ h rest (pairs pa qa k) u)
          (shifted_back τ (pairs-unify τ h k pa qa (unifies-right τ h rest (pairs pa qa k) u))));
    }

    pub inside_args : IsInside h work → IsInside h (rest ++ pairs pa qa k)
    inside_args i = inside-both h rest (pairs pa qa k) (taken_inside i) (args-inside h (term h a) (term h b) p q k pa qa args ep eq)

    pub lighter_args : weigh_pairs h (rest ++ pairs pa qa k) < weigh_pairs h work
    lighter_args = omega (arith, work_weight, weigh-append h rest (pairs pa qa k), weigh-pairs h k pa qa, args.heavier, ap (λ d. weights (trees (terms h d k))) ep)

  -- a verdict that ends the walk
  pub leaves_clash : Equal h old work → ((τ : ℕ → Tree) → Equates τ h a b → ⊥) → (τ : ℕ → Tree) → Unifies τ h old → ⊥
  leaves_clash eq never τ u = never τ (apart τ (eq.to τ u)).1

  pub leaves_near : (x : ℕ) (v : Cell) → Equal h old work → HasNear h (term h a) (term h b) x v → HasLeft h old rest x v
  leaves_near x v eq n = record {
    number = n.number;
    near = n.near;
    to = λ τ u. n.to τ (apart τ (eq.to τ u)).1;
    rest = λ τ u. (apart τ (eq.to τ u)).0;
    back = λ τ at u. eq.back τ (join τ u (n.back τ at));
  }

pub equal_start : (h : Store) (old : List (ℕ × ℕ)) → Equal h old old
equal_start h old = record { to = λ τ u. u; back = λ τ u. u }

pub leaves_none : (h : Store) (old : List (ℕ × ℕ)) → Equal h old [] → (τ : ℕ → Tree) → Unifies τ h old
leaves_none h old eq τ = eq.back τ tt
