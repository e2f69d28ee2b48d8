-- How environments change one after the other, and what it is to set a free slot.
use Rattle.std.proofs.Common.{◌≡◌, ℕ, ◌≤◌, Bool, true, false, length, refl, sym, ap, ◌∙◌, subst, arith, le_refl, Some, None, Result, Ok, Err, nat_eq, eqb-true}
use Rattle.std.specs.Prelude.{IfOk}
use Rattle.plterm.specs.Tree.{Tree, var}
use Rattle.plsubst.specs.Subst.{bind, put, put_if, occurs}
use Rattle.plsubst.specs.Unify.{unify}
use Rattle.plsubst.proofs.Unify.{bind-bind, bind-var, put-unifies}
use Rattle.plsubst.proofs.UnifyUnique.{unify-is, var-variable}
use Rattle.platoms.proofs.Extending.{Extends-refl, Extends-trans}
use Rattle.plcells.specs.declared.cell.Cell.{Cell}
use Rattle.plcells.specs.declared.cell.Cell.TheVariants.{Free, Lone, Ref, Int, Wide, Atom, Str, Fun, Ground}
use Rattle.plcells.specs.Store.{Store, value, cut as cut_heap, IsFresh, IsHeap, IsValue}
use Rattle.plcells.proofs.Absence.{bind_put-same, occurs-none}
use Rattle.plenv.specs.Env.{Env, cut, renamed}
use Rattle.plenv.specs.Changes.{Extends, Keeps, Puts, Substitutes, Unifies}

pub keeps-refl : (e : Env) → Keeps e e
unfolding cut cut_heap
keeps-refl e = record { within = λ m w. w; kept = λ m w. refl; names = Extends-refl e.heap.names }

pub keeps-trans : (a b c : Env) → Keeps a b → Keeps b c → Keeps a c
keeps-trans a b c k l = record {
  within = λ m w. l.within m (k.within m w);
  kept = λ m w. l.kept m (k.within m w) ∙ ap (λ e. renamed e c.heap.names) (k.kept m w);
  names = Extends-trans a.heap.names b.heap.names c.heap.names k.names l.names;
}

pub keeps-same : (a b : Env) → b ≡ a → Keeps a b
keeps-same a b e = subst (Keeps a) (sym e) (keeps-refl a)

pub substitutes-none : (e : Env) → Substitutes e e var
substitutes-none e = record {
  values = λ v f. (f, sym (bind-var (value e.heap v)));
  slots = refl;
  variables = λ i lt. sym (bind-var _);
  count = refl;
  keeps = keeps-refl e;
}

pub substitutes-trans : (a b c : Env) (σ ρ : ℕ → Tree) → Substitutes a b σ → Substitutes b c ρ → Substitutes a c (λ y. bind ρ (σ y))
substitutes-trans a b c σ ρ s r = record {
  values = λ v f.
      let first = s.values v f in
      let second = r.values v first.0 in
      (second.0, second.1 ∙ ap (bind ρ) first.1 ∙ bind-bind ρ σ (value a.heap v));
  slots = r.slots ∙ s.slots;
  variables = λ i lt. r.variables i (omega (arith, lt, s.slots)) ∙ ap (bind ρ) (s.variables i lt) ∙ bind-bind ρ σ _;
  count = r.count ∙ s.count;
  keeps = keeps-trans a b c s.keeps r.keeps;
}

module _ (old mid new : Env) (extends : Extends old mid) (slots : length mid.slots ≡ length old.slots) (count : mid.count ≡ old.count) where
  -- a unifier is put after the environment has grown
  pub unifies-grown : (a b : Tree) → Unifies mid new a b → Unifies old new a b
  unifies-grown a b u = record {
    unifier = u.unifier;
    is = u.is;
    made = record {
      values = λ v f.
          let first = extends.values v f in
          let second = u.made.values v first.0 in
          (second.0, second.1 ∙ ap (bind u.unifier) first.1);
      slots = u.made.slots ∙ slots;
      variables = λ i lt. u.made.variables i (omega (arith, lt, slots)) ∙ ap (bind u.unifier) (extends.variables i lt);
      count = u.made.count ∙ count;
      keeps = keeps-trans old mid new extends.keeps u.made.keeps;
    };
  }

module _ (old mid new : Env) (w v : Cell) (t : Tree) (puts : Puts old mid w t) (fits : IsValue old.heap v) where
  pub put-yes : {E : Type 0} (r : Result Bool E) → IfOk r (λ b. b ≡ true → Unifies mid new (value mid.heap w) (value mid.heap v)) → IfOk r (λ b. b ≡ true → Unifies old new t (value old.heap v))
  put-yes (Ok b) f = λ e.
      let made : Unifies mid new t (value old.heap v) = subst (λ x. Unifies mid new t x) (puts.extends.values v fits).1 (subst (λ x. Unifies mid new x (value mid.heap v)) puts.is (f e)) in
      unifies-grown old mid new puts.extends puts.slots puts.count t (value old.heap v) made
  put-yes (Err x) f = tt

  pub put-no : {E : Type 0} (r : Result Bool E) → IfOk r (λ b. b ≡ false → unify (value mid.heap w) (value mid.heap v) ≡ None) → IfOk r (λ b. b ≡ false → unify t (value old.heap v) ≡ None)
  put-no (Ok b) f = λ e.
      subst (λ x. unify t x ≡ None) (puts.extends.values v fits).1 (subst (λ x. unify x (value mid.heap v) ≡ None) puts.is (f e))
  put-no (Err x) f = tt

-- a number that no cell has is in no term of the heap
pub fresh-absent : (h : Store) → IsHeap h → (n : ℕ) → IsFresh h n → (v : Cell) → IsValue h v → occurs n (value h v) ≡ false
unfolding occurs
fresh-absent h is n fresh (Free p) f = absurd f
fresh-absent h is n fresh (Lone p) f = absurd f
fresh-absent h is n fresh (Ref j) f = occurs-none h is n (λ c. Unit {0}) (λ i d lt p r. tt) (λ i p lt in_p e q. fresh i p lt e q) j f.0 tt
fresh-absent h is n fresh (Int i) f = refl
fresh-absent h is n fresh (Wide p) f = refl
fresh-absent h is n fresh (Atom a) f = refl
fresh-absent h is n fresh (Str p) f = occurs-none h is n (λ c. Unit {0}) (λ i d lt q r. tt) (λ i q lt in_p e s. fresh i q lt e s) p f.0 tt
fresh-absent h is n fresh (Fun g) f = absurd f
fresh-absent h is n fresh (Ground g) f = absurd f

-- a variable stands for a term in which it does not occur, unless that is a younger variable
pub put-is : (n : ℕ) (t : Tree) → occurs n t ≡ false → ((u : ℕ) → t ≡ var u → u ≤ n) → unify (var n) t ≡ Some (put n t)
unfolding bind
put-is n t apart older = unify-is (var n) t (put n t) (equal, λ τ e y. put-unifies τ n t (var y) e) (λ w z e. younger (nat_eq n w) w z refl e)
  where
    self : (k : ℕ) → nat_eq k k ≡ true
    self k = grind arith

    equal : put n t n ≡ bind (put n t) t
    equal = ap (λ q. put_if q n t) (self n) ∙ sym (bind_put-same n t t apart)

    younger : (q : Bool) (w z : ℕ) → nat_eq n w ≡ q → put_if q w t ≡ var z → z ≤ w
    younger true w z is e = let same : n ≡ w = eqb-true n w is in subst (λ k. z ≤ k) same (older z e)
    younger false w z is e = subst (λ k. k ≤ w) (var-variable e) (le_refl w)
