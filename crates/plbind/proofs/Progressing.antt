-- How a unification comes on.
use Rattle.std.proofs.Common.{◌≡◌, ℕ, ◌≤◌, Bool, true, false, List, [], ◌∷◌, refl, sym, ap, ◌∙◌, subst, arith, le_refl, le_trans, None, Ok, Err, Result, nat_eq, eqb-true}
use Rattle.std.specs.Prelude.{IfOk, OnErr}
use Rattle.plterm.specs.Tree.{Tree, var, int, atom, compound}
use Rattle.plsubst.specs.Subst.{bind, put, put_if, occurs}
use Rattle.plsubst.specs.Unify.{unify, IsMostGeneral, BindsYounger}
use Rattle.plsubst.proofs.Unify.{bind-bind, bind-var, put-unifies}
use Rattle.plsubst.proofs.UnifyFinds.{holds_itself}
use Rattle.plsubst.proofs.UnifyUnique.{unify-is, unify-none, var-variable, int≢var, atom≢var, compound≢var}
use Rattle.plcells.specs.declared.cell.Cell.{Cell}
use Rattle.plcells.specs.Store.{Store, term, value, IsFresh, Binds}
use Rattle.plcells.proofs.Absence.{bind_put-same}
use Rattle.plcells.proofs.Kept.{Keeps-refl, Keeps-trans}
use Rattle.plbind.specs.Unifying.{Unifies, IsInside, IsPlain, HasLeft, HasNear, IsNear, Stands, Substitutes, Unified, Bindings, Answers, KeepsAll}

-- how far the unification of s and t has come: what has been put for variables, and the pairs that are left
pub record Progress (old new : Store) (s t : Tree) (work : List (ℕ × ℕ)) : Type 0 where
  pub put_for : ℕ → Tree
  pub made : Substitutes old new put_for
  pub forced : (τ : ℕ → Tree) → bind τ s ≡ bind τ t → (y : ℕ) → bind τ (put_for y) ≡ τ y
  pub left : (τ : ℕ → Tree) → bind τ s ≡ bind τ t → Unifies τ new work
  pub enough : (τ : ℕ → Tree) → Unifies τ new work → bind τ (bind put_for s) ≡ bind τ (bind put_for t)
  pub younger : BindsYounger put_for

younger-var : BindsYounger var
younger-var w z e = subst (λ v. v ≤ w) (var-variable e) (le_refl w)

substitutes-var : (h : Store) → Substitutes h h var
substitutes-var h = record {
  terms = λ c lt. sym (bind-var (term h c));
  values = λ v f. (f, sym (bind-var (value h v)));
  fresh = λ m f. f;
  apart = λ m f. refl;
  keeps = Keeps-refl h;
  length = refl;
  names = refl;
}

pub started : (h : Store) (s t : Tree) (work : List (ℕ × ℕ)) → Stands h work s t → Progress h h s t work
started h s t work stands = record {
  put_for = var;
  made = substitutes-var h;
  forced = λ τ e y. forced τ y;
  left = stands.to;
  enough = λ τ u. ap (bind τ) (bind-var s) ∙ stands.back τ u ∙ ap (bind τ) (sym (bind-var t));
  younger = younger-var;
}
  where
    forced : (τ : ℕ → Tree) (y : ℕ) → bind τ (var y) ≡ τ y
    forced τ y = unfold bind in refl

-- the younger stays bound to the older
put_younger : (n : ℕ) (t : Tree) → ((u : ℕ) → t ≡ var u → u ≤ n) → (s : Tree) (w z : ℕ) → ((v : ℕ) → s ≡ var v → v ≤ w) → bind (put n t) s ≡ var z → z ≤ w
unfolding bind
put_younger n t y (int i) w z sy e = int≢var e
put_younger n t y (atom f) w z sy e = atom≢var e
put_younger n t y (compound f ts) w z sy e = compound≢var e
put_younger n t y (var v) w z sy e = go (nat_eq n v) refl e
  where
    go : (q : Bool) → nat_eq n v ≡ q → put_if q v t ≡ var z → z ≤ w
    go true is e = let same : n ≡ v = eqb-true n v is in le_trans (subst (λ k. z ≤ k) same (y z e)) (sy v refl)
    go false is e = sy z e

-- a binding does nothing to a variable that is not on the heap
put-apart : (h new : Store) (n : ℕ) (t : Tree) → Binds h new n t → (m : ℕ) → IsFresh h m → bind (put n t) (var m) ≡ var m
unfolding bind
put-apart h new n t bound m fresh = ap (λ b. put_if b m t) (other n m (λ e. bound.stood (subst (IsFresh h) (sym e) fresh)))
  where
    other : (a b : ℕ) → (a ≡ b → ⊥) → nat_eq a b ≡ false
    other a b ne = grind (arith, ne)

module _ (h new : Store) (x n : ℕ) (v : Cell) (bound : Binds h new n (value h v)) where
  inside_still : (ps : List (ℕ × ℕ)) → IsInside h ps → IsInside new ps
  inside_still [] i = tt
  inside_still (q ∷ qs) i = (still q.0 i.0, still q.1 i.1, inside_still qs i.2)
    where
      still : (d : ℕ) → IsPlain h d → IsPlain new d
      still d p = (omega (arith, p.0, bound.length), bound.plain d p.1)

  pub inside-bound : (ps : List (ℕ × ℕ)) → IsInside h ps → IsInside new ps
  inside-bound = inside_still

module _ (old h new : Store) (s t : Tree) (work rest : List (ℕ × ℕ)) (x : ℕ) (v : Cell) (p : Progress old h s t work) (l : HasLeft h work rest x v)
    (inside : IsInside h rest)
    (apart : occurs l.number (value h v) ≡ false) (bound : Binds h new l.number (value h v)) where
  after_put : (τ : ℕ → Tree) → Unifies τ new rest → Unifies (λ y. bind τ (put l.number (value h v) y)) h work
  unfolding bind
  after_put τ u = l.back (λ y. bind τ (put l.number (value h v) y)) at (pairs_back rest inside u)
    where
      same : bind τ (put l.number (value h v) l.number) ≡ bind τ (value h v)
      same = ap (λ q. bind τ (put_if q l.number (value h v))) self
        where
          self : nat_eq l.number l.number ≡ true
          self = grind arith

      at : bind τ (put l.number (value h v) l.number) ≡ bind (λ y. bind τ (put l.number (value h v) y)) (value h v)
      at = same ∙ ap (bind τ) (sym (bind_put-same l.number (value h v) (value h v) apart)) ∙ bind-bind τ (put l.number (value h v)) (value h v)

      one : (d : ℕ) → IsPlain h d → bind τ (term new d) ≡ bind (λ y. bind τ (put l.number (value h v) y)) (term h d)
      one d lt = ap (bind τ) (bound.terms d lt.0) ∙ bind-bind τ (put l.number (value h v)) (term h d)

      pairs_back : (ps : List (ℕ × ℕ)) → IsInside h ps → Unifies τ new ps → Unifies (λ y. bind τ (put l.number (value h v) y)) h ps
      pairs_back [] i u = tt
      pairs_back (q ∷ qs) i u = (sym (one q.0 i.0) ∙ u.0 ∙ one q.1 i.1, pairs_back qs i.2 u.1)

  pairs_on : (τ : ℕ → Tree) → τ l.number ≡ bind τ (value h v) → (ps : List (ℕ × ℕ)) → IsInside h ps → Unifies τ h ps → Unifies τ new ps
  pairs_on τ e [] i u = tt
  pairs_on τ e (q ∷ qs) i u = (on q.0 i.0 ∙ u.0 ∙ sym (on q.1 i.1), pairs_on τ e qs i.2 u.1)
    where
      on : (d : ℕ) → IsPlain h d → bind τ (term new d) ≡ bind τ (term h d)
      on d lt = ap (bind τ) (bound.terms d lt.0) ∙ put-unifies τ l.number (value h v) (term h d) e

  made_on : Substitutes old new (λ y. bind (put l.number (value h v)) (p.put_for y))
  made_on = record {
    terms = λ d lt. bound.terms d (omega (arith, lt, p.made.length)) ∙ ap (bind (put l.number (value h v))) (p.made.terms d lt) ∙ bind-bind (put l.number (value h v)) p.put_for (term old d);
    values = λ w f.
        let first = p.made.values w f in
        let second = bound.values w first.0 in
        (second.0, second.1 ∙ ap (bind (put l.number (value h v))) first.1 ∙ bind-bind (put l.number (value h v)) p.put_for (value old w));
    fresh = λ m f. bound.fresh m (p.made.fresh m f);
    apart = λ m f. ap (bind (put l.number (value h v))) (p.made.apart m f) ∙ put-apart h new l.number (value h v) bound m (p.made.fresh m f);
    keeps = Keeps-trans old h new p.made.keeps bound.keeps;
    length = bound.length ∙ p.made.length;
    names = bound.names ∙ p.made.names;
  }

  pub came_on : Progress old new s t rest
  came_on = record {
    put_for = λ y. bind (put l.number (value h v)) (p.put_for y);
    made = made_on;
    forced = λ τ e y. put-unifies τ l.number (value h v) (p.put_for y) (l.to τ (p.left τ e)) ∙ p.forced τ e y;
    left = λ τ e. pairs_on τ (l.to τ (p.left τ e)) rest inside (l.rest τ (p.left τ e));
    enough = λ τ u.
        let q = p.enough (λ y. bind τ (put l.number (value h v) y)) (after_put τ u) in
        side τ s ∙ q ∙ sym (side τ t);
    younger = λ w z e. put_younger l.number (value h v) l.near.younger (p.put_for w) w z (p.younger w) e;
  }
    where
      side : (τ : ℕ → Tree) (u : Tree) → bind τ (bind (λ y. bind (put l.number (value h v)) (p.put_for y)) u) ≡ bind (λ y. bind τ (put l.number (value h v) y)) (bind p.put_for u)
      side τ u = ap (bind τ) (sym (bind-bind (put l.number (value h v)) p.put_for u)) ∙ bind-bind τ (put l.number (value h v)) (bind p.put_for u)

pub unified : (old h : Store) (s t : Tree) (work : List (ℕ × ℕ)) → Progress old h s t work → ((τ : ℕ → Tree) → Unifies τ h work) → Unified old h s t
unified old h s t work p done =
    let equal : bind p.put_for s ≡ bind p.put_for t = sym (bind-var (bind p.put_for s)) ∙ p.enough var (done var) ∙ bind-var (bind p.put_for t) in
    let general : IsMostGeneral s t p.put_for = (equal, p.forced) in
    record {
      unifier = p.put_for;
      is = unify-is s t p.put_for general p.younger;
      made = p.made;
    }

pub never-unified : (old h : Store) (s t : Tree) (work : List (ℕ × ℕ)) → Progress old h s t work → ((τ : ℕ → Tree) → Unifies τ h work → ⊥) → unify s t ≡ None
never-unified old h s t work p never = unify-none s t (λ τ e. never τ (p.left τ e))

pub circular : (h : Store) (work rest : List (ℕ × ℕ)) (x : ℕ) (v : Cell) → (l : HasLeft h work rest x v) → occurs l.number (value h v) ≡ true → (τ : ℕ → Tree) → Unifies τ h work → ⊥
circular h work rest x v l is τ u = holds_itself τ l.number (value h v) l.near.apart is (l.to τ u)

-- two terms as they are, and a variable that stands for one of them
pub same-unified : (h : Store) (s t : Tree) → ((τ : ℕ → Tree) → bind τ s ≡ bind τ t) → Unified h h s t
same-unified h s t same = unified h h s t [] (started h s t [] (record { to = λ τ e. tt; back = λ τ u. same τ })) (λ τ. tt)

pub clash-never : (s t : Tree) → ((τ : ℕ → Tree) → bind τ s ≡ bind τ t → ⊥) → unify s t ≡ None
clash-never s t never = unify-none s t never

-- the first pair alone
pub near-left : (h : Store) (s t : Tree) (x : ℕ) (v : Cell) (a b : ℕ) → HasNear h s t x v → term h a ≡ s → term h b ≡ t → HasLeft h ((a, b) ∷ []) [] x v
near-left h s t x v a b n ea eb = record {
  number = n.number;
  near = n.near;
  to = λ τ u. n.to τ (sym (ap (bind τ) ea) ∙ u.0 ∙ ap (bind τ) eb);
  rest = λ τ u. tt;
  back = λ τ at u. (ap (bind τ) ea ∙ n.back τ at ∙ sym (ap (bind τ) eb), tt);
}

pub near-circular : (h : Store) (s t : Tree) (x : ℕ) (v : Cell) → (n : HasNear h s t x v) → occurs n.number (value h v) ≡ true → unify s t ≡ None
near-circular h s t x v n is = unify-none s t (λ τ e. holds_itself τ n.number (value h v) n.near.apart is (n.to τ e))

pub near-unified : (h new : Store) (s t : Tree) (x : ℕ) (v : Cell) → (n : HasNear h s t x v) → occurs n.number (value h v) ≡ false → Binds h new n.number (value h v) → Unified h new s t
near-unified h new s t x v n apart bound = record {
  unifier = put n.number (value h v);
  is = unify-is s t (put n.number (value h v)) (equal, λ τ e y. put_var τ (n.to τ e) y) younger;
  made = record {
    terms = bound.terms;
    values = bound.values;
    fresh = bound.fresh;
    apart = λ m f. sym (bind-at m) ∙ put-apart h new n.number (value h v) bound m f;
    keeps = bound.keeps;
    length = bound.length;
    names = bound.names;
  };
}
  where
    unfolding_put : put n.number (value h v) n.number ≡ value h v
    unfolding_put = ap (λ q. put_if q n.number (value h v)) (self n.number)
      where
        self : (k : ℕ) → nat_eq k k ≡ true
        self k = grind arith

    equal : bind (put n.number (value h v)) s ≡ bind (put n.number (value h v)) t
    equal = n.back (put n.number (value h v)) (unfolding_put ∙ sym (bind_put-same n.number (value h v) (value h v) apart))

    bind-at : (m : ℕ) → bind (put n.number (value h v)) (var m) ≡ put n.number (value h v) m
    bind-at m = unfold bind in refl

    put_var : (τ : ℕ → Tree) → τ n.number ≡ bind τ (value h v) → (y : ℕ) → bind τ (put n.number (value h v) y) ≡ τ y
    put_var τ e y = unfold bind in put-unifies τ n.number (value h v) (var y) e

    younger : BindsYounger (put n.number (value h v))
    younger w z e = put_younger n.number (value h v) n.near.younger (var w) w z (λ u f. le_of w u f) (unfold bind in e)
      where
        le_of : (w u : ℕ) → var w ≡ var u → u ≤ w
        le_of w u f = let same : w ≡ u = var-variable f in omega (arith, same)

pub KeepsAll-refl : (h : Store) → KeepsAll h h
KeepsAll-refl h = record { keeps = Keeps-refl h; values = λ v f. f; fresh = λ m f. f; names = refl }

pub KeepsAll-bound : (old h new : Store) (n : ℕ) (t : Tree) → KeepsAll old h → Binds h new n t → KeepsAll old new
KeepsAll-bound old h new n t k bound = record {
  keeps = Keeps-trans old h new k.keeps bound.keeps;
  values = λ v f. (bound.values v (k.values v f)).0;
  fresh = λ m f. bound.fresh m (k.fresh m f);
  names = bound.names ∙ k.names;
}

pub if-ok : {E : Type 0} (P Q : Bool → Type 0) (r : Result Bool E) → ((b : Bool) → P b → Q b) → IfOk r P → IfOk r Q
if-ok P Q (Ok b) f p = f b p
if-ok P Q (Err e) f p = tt

-- a variable was bound, or not
unified_by : (h new : Store) (s t : Tree) (x : ℕ) (v : Cell) → (n : HasNear h s t x v) → (b : Bool) → Bindings h new v n.number b → b ≡ true → Unified h new s t
unfolding Bindings
unified_by h new s t x v n true r e = near-unified h new s t x v n r.0 r.1
unified_by h new s t x v n false r e = absurd (grind (arith, e))

never_by : (h new : Store) (s t : Tree) (x : ℕ) (v : Cell) → (n : HasNear h s t x v) → (b : Bool) → Bindings h new v n.number b → b ≡ false → unify s t ≡ None
unfolding Bindings
never_by h new s t x v n true r e = absurd (grind (arith, e))
never_by h new s t x v n false r e = near-circular h s t x v n r.0

kept_by : (h new : Store) (v : Cell) (n : ℕ) (b : Bool) → Bindings h new v n b → KeepsAll h new
unfolding Bindings
kept_by h new v n true r = KeepsAll-bound h h new n (value h v) (KeepsAll-refl h) r.1
kept_by h new v n false r = subst (KeepsAll h) (sym r.1) (KeepsAll-refl h)

module _ {E : Type 0} (h new : Store) (s t : Tree) (x : ℕ) (v : Cell) (near : HasNear h s t x v) where
  pub bound-yes : (r : Result Bool E) → IfOk r (λ b. (n : ℕ) → IsNear h x v n → Bindings h new v n b) → IfOk r (λ b. b ≡ true → Unified h new s t)
  bound-yes (Ok b) f = unified_by h new s t x v near b (f near.number near.near)
  bound-yes (Err e) f = tt

  pub bound-no : (r : Result Bool E) → IfOk r (λ b. (n : ℕ) → IsNear h x v n → Bindings h new v n b) → IfOk r (λ b. b ≡ false → unify s t ≡ None)
  bound-no (Ok b) f = never_by h new s t x v near b (f near.number near.near)
  bound-no (Err e) f = tt

  pub bound-keeps : (r : Result Bool E) → IfOk r (λ b. (n : ℕ) → IsNear h x v n → Bindings h new v n b) → OnErr r (new ≡ h) → KeepsAll h new
  bound-keeps (Ok b) f g = kept_by h new v near.number b (f near.number near.near)
  bound-keeps (Err e) f g = subst (KeepsAll h) (sym g) (KeepsAll-refl h)

module _ {E : Type 0} (h new : Store) (s t : Tree) where
  pub solved-yes : (r : Result Bool E) → IfOk r (λ b. Answers h new s t b) → IfOk r (λ b. b ≡ true → Unified h new s t)
  unfolding Answers
  solved-yes (Ok b) f = λ e. subst (Answers h new s t) e f
  solved-yes (Err e) f = tt

  pub solved-no : (r : Result Bool E) → IfOk r (λ b. Answers h new s t b) → IfOk r (λ b. b ≡ false → unify s t ≡ None)
  unfolding Answers
  solved-no (Ok b) f = λ e. subst (Answers h new s t) e f
  solved-no (Err e) f = tt
