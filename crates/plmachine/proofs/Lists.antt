-- Goal lists that a row puts together.
use Rattle.std.proofs.Common.{◌≡◌, ℕ, List, [], ◌∷◌, ◌++◌, length, map, refl, sym, ap, ap₂, ◌∙◌, subst, le_refl, arith}
use Rattle.std.specs.Prelude.{codes}
use Rattle.plterm.specs.Tree.{atom}
use Rattle.plsubst.specs.Subst.{bind}
use Rattle.plsearch.specs.Types.{Commit, Element, Goal, Marker}
use Rattle.plenv.specs.Rows.{AllBelowEach}
use Rattle.plcode.specs.Converted.{AreConverted}
use Rattle.plcode.specs.Steps.{FAIL, goals_from}
use Rattle.pllinks.specs.declared.item.Portion.{Portion}
use Rattle.pllinks.specs.declared.item.Portion.TheVariants as items
use Rattle.pllinks.specs.declared.item.MarkerKind.TheVariants as markers
use Rattle.pllinks.specs.declared.link.Continuation.{Continuation}
use Rattle.pllinks.specs.Lists.{goal_of, elements, IsItem}
use Rattle.plstack.specs.Basis.{Basis}
use Rattle.plstack.specs.State.{State, goals_in, goals_of, IsList, Extends, AddsList}
use Rattle.plstack.proofs.Growing.{extends_same}
pub use Rattle.plstack.proofs.Heads.{extends-trans}
use Rattle.plmachine.specs.Lists.{at_level, elements_of, failing, Grown, Holds, IsPart, Lengthened}

-- ---- stacks that grow

pub lengthened-same : (a : State) → Lengthened a a
lengthened-same a = record { extends = extends_same a; env = refl }

pub lengthened-by : (a b : State) → b ≡ a → Lengthened a b
lengthened-by a b e = subst (Lengthened a) (sym e) (lengthened-same a)

pub lengthened-trans : (a b c : State) → Lengthened a b → Lengthened b c → Lengthened a c
lengthened-trans a b c f g = record { extends = extends-trans a b c f.extends g.extends; env = g.env ∙ f.env }

pub lengthened-grown : (a b : State) → Lengthened a b → Grown a b
lengthened-grown a b f = record { extends = f.extends; count = ap (λ e. e.count) f.env }

pub grown-trans : (a b c : State) → Grown a b → Grown b c → Grown a c
grown-trans a b c f g = record { extends = extends-trans a b c f.extends g.extends; count = g.count ∙ f.count }

-- ---- lists that were added

pub adds-holds : (a b : State) (l : Continuation) (es : List Element) → AddsList a b l es → Holds b l es
adds-holds a b l es f = record { there = f.there; is = f.is }

pub adds-lengthened : (a b : State) (l : Continuation) (es : List Element) → AddsList a b l es → Lengthened a b
adds-lengthened a b l es f = record { extends = f.stays; env = f.env }

pub holds-list : (s : State) (l : Continuation) → IsList s l → Holds s l (goals_of s l)
holds-list s l i = record { there = i; is = refl }

pub holds-grown : (a b : State) (l : Continuation) (es : List Element) → Extends a b → Holds a l es → Holds b l es
holds-grown a b l es f h = let x = f.lists l h.there in record { there = x.0; is = x.1 ∙ h.is }

pub holds-same : (s : State) (l : Continuation) (es fs : List Element) → es ≡ fs → Holds s l es → Holds s l fs
holds-same s l es fs e h = record { there = h.there; is = h.is ∙ e }

-- ---- parts of lists

module _ (a b : State) (f : Lengthened a b) (x : Portion) where
  pub part-there : IsPart a x → IsPart b x
  part-there p = subst (λ e. IsItem (goals_in b) e.heap (length e.slots) x) (sym f.env) (subst (λ (c : Basis). IsItem (goals_from c.code.text) a.env.heap (length a.env.slots) x) (sym f.extends.basis) p)

  pub part-same : elements_of b x ≡ elements_of a x
  part-same = ap₂ (λ (c : Basis) e. elements (goals_from c.code.text) e x) f.extends.basis f.env

-- the level of a part
pub part-level : (s : State) (k : ℕ) (x : Portion) → IsPart s x → IsPart s (at_level k x)
part-level s k (items.Clause r) p = (record { width = p.0.width; below = p.0.below; within = p.0.within; converted = p.0.converted }, p.1)
part-level s k (items.Goal l v) p = p
part-level s k (items.Marker m l) p = p

-- a part before a list, by what they stood for before
pub before-then : (a b c : State) (x : Portion) (l m : Continuation) (es : List Element) → Lengthened a b → Holds b l es → Holds c m (elements_of b x ++ goals_of b l) → Holds c m (elements_of a x ++ es)
before-then a b c x l m es f h made = holds-same c m _ _ (ap₂ (λ xs ys. xs ++ ys) (part-same a b f x) h.is) made

-- ---- the goal fail/0

pub fail-there : (s : State) → goals_in s FAIL 0 ≡ atom (codes "fail") ∷ [] → (k : ℕ) → IsPart s (failing k)
fail-there s is k = (record { width = 0; below = subst (AllBelowEach 0) (sym is) (tt, tt); within = le_refl _; converted = subst AreConverted (sym is) (refl, tt) }, omega arith)

pub fail-is : (s : State) → goals_in s FAIL 0 ≡ atom (codes "fail") ∷ [] → (k : ℕ) → elements_of s (failing k) ≡ Goal k (atom (codes "fail")) ∷ []
unfolding bind
fail-is s is k = ap (map (goal_of s.env (record { position = FAIL; owed = 0; base = 0; «end» = 0; level = k }))) is

-- ---- a condition before what follows it

module _ (s a b : State) (condition then : Portion) (following list : Continuation) (es : List Element) (f : Lengthened s a) (behind : Holds a following (elements_of s then ++ es)) where
  pub then-list : (x : Portion) (k k' d d' : ℕ) → x ≡ at_level k condition → k ≡ k' → d ≡ d' → Holds b list (elements_of a x ++ (elements_of a (items.Marker markers.Commit d) ++ goals_of a following)) →
      Holds b list (elements_of s (at_level k' condition) ++ (Marker Commit d' ∷ (elements_of s then ++ es)))
  then-list x k k' d d' e ek ed made =
      let first : elements_of a x ≡ elements_of s (at_level k' condition) = ap (elements_of a) e ∙ part-same s a f (at_level k condition) ∙ ap (λ k. elements_of s (at_level k condition)) ek in
      let rest : ◌≡◌ {A = List Element} (Marker Commit d ∷ goals_of a following) (Marker Commit d' ∷ (elements_of s then ++ es)) = ap₂ (λ d gs. Marker Commit d ∷ gs) ed behind.is in
      holds-same b list _ _ (ap₂ (λ xs ys. xs ++ ys) first rest) made
