-- Steps of a put.
use Rattle.std.proofs.Common.{◌≡◌, ℕ, ◌-◌, ◌<◌, ◌≤◌, List, [], ◌∷◌, ◌++◌, length, length-append, length-drop, length-take-le, take, drop, map, reverse, refl, sym, ap, ap₂, ◌∙◌, subst, arith, le_trans}
use Rattle.std.proofs.lemmas.List.{reverse-append, length-reverse, take-append-drop, take_at, drop_at, take-map, drop-map, take-append-le, take-take, take_all, length-map}
use Rattle.plterm.specs.declared.node.Node.{Node}
use Rattle.plterm.specs.declared.node.Node.TheVariants.{Var, Int as IntNode, Atom as AtomNode, Compound}
use Rattle.plterm.specs.Tree.{Tree, compound, trees}
use Rattle.plterm.specs.Reading.{IsTerm, read, reading, tree_of}
use Rattle.plterm.proofs.Forests.{reading_term}
use Rattle.plsubst.specs.Subst.{bind}
use Rattle.platoms.specs.Names.{Table, Extends, HasAtom, HasFunctor, atom_at}
use Rattle.platoms.proofs.Extending.{atom_same}
use Rattle.plcells.specs.declared.cell.Cell.{Cell}
use Rattle.plcells.specs.declared.cell.Cell.TheVariants.{Str}
use Rattle.plcells.specs.declared.cell.Argument.{Argument}
use Rattle.plcells.specs.declared.cell.Argument.TheVariants.{Value, Variable}
use Rattle.plcells.specs.Store.{Store, at, value, IsValue, AreValues, Grows, Preserves, AddsValue, AddsBlock, renamed}
use Rattle.plcells.specs.Blocks.{stands_for}
use Rattle.plcells.specs.Putting.{IsFunctorNamed, standing, AreGiven, HasValue, laid, AddsNoVariable, PutsNode, PutsTerm}
use Rattle.plcells.proofs.Kept.{Keeps-refl, Keeps-trans}
use Rattle.plcells.proofs.Given.{given-stay, given-drop, value-in}
use Rattle.plcells.proofs.Nodes.{AreBelow, bind-trees}

pub Preserves-refl : (h : Store) → Preserves h h
Preserves-refl h = record { longer = omega arith; terms = λ c lt. refl; values = λ v f. (f, refl); keeps = Keeps-refl h }

pub Preserves-trans : (a b c : Store) → Preserves a b → Preserves b c → Preserves a c
Preserves-trans a b c p q = record {
  longer = omega (arith, p.longer, q.longer);
  terms = λ i lt. q.terms i (le_trans lt p.longer) ∙ p.terms i lt;
  values = λ v f. let r = p.values v f in let s = q.values v r.0 in (s.0, s.1 ∙ r.1);
  keeps = Keeps-trans a b c p.keeps q.keeps;
}

pub grows-preserves : (old new : Store) → Grows old new → Preserves old new
grows-preserves old new g = record { longer = g.longer; terms = g.terms; values = g.values; keeps = g.keeps }

pub functor-named : (s t : Table) (a f k : ℕ) (name : List ℕ) → HasAtom s a name → Extends s t → HasFunctor t f (record { name = a; arity = k }) → IsFunctorNamed t f name k
functor-named s t a f k name has more is = record {
  within = is.within;
  name = ap (λ x. atom_at t (x.name)) is.is ∙ atom_same s t more a has.within ∙ has.is;
  arity = ap (λ x. x.arity) is.is;
}

pub renamed-twice : (old mid new : Store) → mid ≡ renamed old mid.names → new ≡ renamed mid new.names → new ≡ renamed old new.names
renamed-twice old mid new e f = f ∙ ap (λ h. renamed h new.names) e

-- no variable is new
pub adds-none : (h : Store) → AddsNoVariable h h
adds-none h = record { preserves = Preserves-refl h; fresh = λ m f. f; frees = refl }

pub adds-both : (a b c : Store) → AddsNoVariable a b → AddsNoVariable b c → AddsNoVariable a c
adds-both a b c p q = record {
  preserves = Preserves-trans a b c p.preserves q.preserves;
  fresh = λ m f. q.fresh m (p.fresh m f);
  frees = q.frees ∙ p.frees;
}

pub adds-renamed : (old new : Store) → new ≡ renamed old new.names → Preserves old new → AddsNoVariable old new
adds-renamed old new same p = subst (AddsNoVariable old) (sym same) (record { preserves = subst (Preserves old) same p; fresh = λ m f. f; frees = refl })

pub adds-value : (old new : Store) (v : Cell) (t : Tree) → AddsValue old new v t → AddsNoVariable old new
adds-value old new v t a = record { preserves = grows-preserves old new a.grows; fresh = a.fresh; frees = a.frees }

pub adds-block : (old new : Store) (p : ℕ) (name : List ℕ) (ts : List Tree) → AddsBlock old new p name ts [] → AddsNoVariable old new
adds-block old new p name ts a = record { preserves = grows-preserves old new a.grows; fresh = λ m f. a.fresh m f (λ k lt. absurd (omega (arith, lt))); frees = omega (arith, a.frees) }

-- a value on top of those of a stack
pub puts-leaf : (old new : Store) (vs : List Cell) (n : Node) (before : List Argument) (v : Cell) → AddsNoVariable old new → AreGiven old (reverse before) → IsValue new v →
    ((ts : List Tree) → laid (standing old vs) n ts ≡ value new v ∷ ts) → PutsNode old new vs n before (before ++ Value v ∷ [])
puts-leaf old new vs n before v adds given fits is =
    let top : reverse (before ++ Value v ∷ []) ≡ Value v ∷ reverse before = reverse-append before (Value v ∷ []) in
    let stay = given-stay old new (reverse before) adds.preserves given in
    let all : AreGiven new (Value v ∷ reverse before) = (fits, stay.0) in
    record {
      given = subst (AreGiven new) (sym top) all;
      are = ap (map (stands_for new)) top ∙ ap (λ ts. value new v ∷ ts) stay.1 ∙ sym (is (map (stands_for old) (reverse before)));
      adds = adds;
    }

-- the topmost values, and those below
module _ (stack : List Argument) (k first : ℕ) (room : k ≤ length stack) (e : first ≡ length stack - k) where
  parts : reverse stack ≡ reverse (drop first stack) ++ reverse (take first stack)
  parts = ap reverse (sym (take-append-drop first stack)) ∙ reverse-append (take first stack) (drop first stack)

  pub top_length : length (drop first stack) ≡ k
  top_length = omega (arith, length-drop first stack, e, room)

  pub top-values : reverse (drop first stack) ≡ take k (reverse stack)
  top-values = sym (ap (take k) parts ∙ take_at (reverse (drop first stack)) (reverse (take first stack)) k (length-reverse (drop first stack) ∙ top_length))

  pub left-values : reverse (take first stack) ≡ drop k (reverse stack)
  left-values = sym (ap (drop k) parts ∙ drop_at (reverse (drop first stack)) (reverse (take first stack)) k (length-reverse (drop first stack) ∙ top_length))

-- a compound in the place of its arguments
pub puts-compound : (old new : Store) (s : List ℕ) (k first p : ℕ) (before after : List Argument) → k ≤ length before → first ≡ length before - k → AreGiven old (reverse before) →
    AddsBlock old new p s (map (stands_for old) (reverse (drop first before))) [] → after ≡ take first before ++ Value (Str p) ∷ [] → PutsNode old new [] (Compound s k) before after
puts-compound old new s k first p before after room e given adds pushed =
    let none = adds-block old new p s (map (stands_for old) (reverse (drop first before))) adds in
    let left : AreGiven old (reverse (take first before)) = subst (AreGiven old) (sym (left-values before k first room e)) (given-drop old k (reverse before) given) in
    let stay = given-stay old new (reverse (take first before)) none.preserves left in
    let top : reverse after ≡ Value (Str p) ∷ reverse (take first before) = ap reverse pushed ∙ reverse-append (take first before) (Value (Str p) ∷ []) in
    let all : AreGiven new (Value (Str p) ∷ reverse (take first before)) = (adds.fits, stay.0) in
    record {
      given = subst (AreGiven new) (sym top) all;
      are =
          ap (map (stands_for new)) top
          ∙ ap₂ (λ t ts. t ∷ ts)
          (adds.is ∙ ap (λ xs. compound s (trees xs)) (ap (map (stands_for old)) (top-values before k first room e) ∙ sym (take-map (stands_for old) k (reverse before))))
          (stay.1 ∙ ap (map (stands_for old)) (left-values before k first room e) ∙ sym (drop-map (stands_for old) k (reverse before)));
      adds = none;
    }

-- names that came before a compound
pub puts-renamed : (old mid new : Store) (vs : List Cell) (s : List ℕ) (k : ℕ) (before after : List Argument) → AddsNoVariable old mid → AreGiven old (reverse before) → PutsNode mid new [] (Compound s k) before after → PutsNode old new vs (Compound s k) before after
puts-renamed old mid new vs s k before after named given puts = record {
  given = puts.given;
  are = puts.are ∙ ap (λ ts. compound s (trees (take k ts)) ∷ drop k ts) (given-stay old mid (reverse before) named.preserves given).1;
  adds = adds-both old mid new named puts.adds;
}

-- of a stack read as a slice the topmost values, and what is left of it without them
pub top-part : (stack read : List Argument) (first : ℕ) → read ≡ stack → take (length read - first) (drop first read) ≡ drop first stack
top-part stack read first same = take_all (length read - first) (drop first read) (omega (arith, length-drop first read)) ∙ ap (drop first) same

pub left-part : (stack read moved behind rest : List Argument) (first l : ℕ) → read ≡ stack → first ≤ l → first ≤ length stack → take first (take l ((take first read ++ (moved ++ behind)) ++ rest)) ≡ take first stack
left-part stack read moved behind rest first l same all room =
    let len : length (take first read) ≡ first = length-take-le first read (omega (arith, room, ap length same)) in
    take-take first l ((take first read ++ (moved ++ behind)) ++ rest) all
    ∙ take-append-le first (take first read ++ (moved ++ behind)) rest (omega (arith, len, length-append (take first read) (moved ++ behind)))
    ∙ take-append-le first (take first read) (moved ++ behind) (omega (arith, len))
    ∙ take-take first first read (omega arith)
    ∙ ap (take first) same

-- so far the values on a stack stand for these trees
pub record IsPut (old h : Store) (vs : List Cell) (stack : List Argument) (ts : List Tree) : Type 0 where
  pub given : AreGiven h (reverse stack)
  pub are : map (stands_for h) (reverse stack) ≡ map (bind (standing old vs)) ts
  pub adds : AddsNoVariable old h

pub put-none : (h : Store) (vs : List Cell) → IsPut h h vs [] []
put-none h vs = record { given = tt; are = refl; adds = adds-none h }

pub put-length : (old h : Store) (vs : List Cell) (stack : List Argument) (ts : List Tree) → IsPut old h vs stack ts → length stack ≡ length ts
put-length old h vs stack ts p = sym (length-reverse stack) ∙ sym (length-map (reverse stack) (stands_for h)) ∙ ap length p.are ∙ length-map ts (bind (standing old vs))

pub values-stay : (old new : Store) (vs : List Cell) → Preserves old new → AreValues old vs → AreValues new vs
values-stay old new [] p are = tt
values-stay old new (v ∷ vs) p are = ((p.values v are.0).0, values-stay old new vs p are.1)

pub standing-same : (old h : Store) (vs : List Cell) (x : ℕ) → Preserves old h → AreValues old vs → x < length vs → standing h vs x ≡ standing old vs x
standing-same old h vs x p are lt = (p.values (at vs x) (value-in old vs x _ (at vs x) are lt refl)).1

pub has-value : (vs : List Cell) (n : Node) (ts : List Tree) → AreBelow (length vs) (read n ts) → HasValue vs n
has-value vs (Var x) ts b = b.0
has-value vs (IntNode i) ts b = tt
has-value vs (AtomNode s) ts b = tt
has-value vs (Compound s k) ts b = tt

laid-bind : (old h : Store) (vs : List Cell) (n : Node) (ts : List Tree) → Preserves old h → AreValues old vs → AreBelow (length vs) (read n ts) →
    laid (standing h vs) n (map (bind (standing old vs)) ts) ≡ map (bind (standing old vs)) (read n ts)
unfolding bind
laid-bind old h vs (Var x) ts p are b = ap (λ t. t ∷ map (bind (standing old vs)) ts) (standing-same old h vs x p are b.0)
laid-bind old h vs (IntNode i) ts p are b = refl
laid-bind old h vs (AtomNode s) ts p are b = refl
laid-bind old h vs (Compound s k) ts p are b =
    ap₂ (λ us ws. compound s us ∷ ws) (ap trees (take-map (bind (standing old vs)) k ts) ∙ sym (bind-trees (standing old vs) (take k ts))) (drop-map (bind (standing old vs)) k ts)

pub put-more : (old h new : Store) (vs : List Cell) (n : Node) (before after : List Argument) (ts : List Tree) → AreValues old vs → IsPut old h vs before ts → PutsNode h new vs n before after → AreBelow (length vs) (read n ts) →
    IsPut old new vs after (read n ts)
put-more old h new vs n before after ts are p q below = record {
  given = q.given;
  are = q.are ∙ ap (laid (standing h vs) n) p.are ∙ laid-bind old h vs n ts p.adds.preserves are below;
  adds = adds-both old h new p.adds q.adds;
}

same_first : (t u : Tree) (ts us : List Tree) → t ∷ ts ≡ u ∷ us → t ≡ u
same_first t u ts us e = cc

-- the one value that is left
pub put-last : (old h : Store) (vs : List Cell) (ns : List Node) (stack rest : List Argument) (v : Cell) → IsTerm ns → IsPut old h vs stack (reading ns) → stack ≡ rest ++ Value v ∷ [] → PutsTerm old h v (bind (standing old vs) (tree_of ns))
put-last old h vs ns stack rest v is p e =
    let top : reverse stack ≡ Value v ∷ reverse rest = ap reverse e ∙ reverse-append rest (Value v ∷ []) in
    let given : AreGiven h (Value v ∷ reverse rest) = subst (AreGiven h) top p.given in
    record {
      fits = given.0;
      is = same_first (value h v) (bind (standing old vs) (tree_of ns)) (map (stands_for h) (reverse rest)) []
          (ap (map (stands_for h)) (sym top) ∙ p.are ∙ ap (map (bind (standing old vs))) (reading_term ns is));
      adds = p.adds;
    }

pub last-value : (old h : Store) (vs : List Cell) (ts : List Tree) (stack rest : List Argument) (x : ℕ) → IsPut old h vs stack ts → stack ≡ rest ++ Variable x ∷ [] → ⊥
last-value old h vs ts stack rest x p e =
    let given : AreGiven h (Variable x ∷ reverse rest) = subst (AreGiven h) (ap reverse e ∙ reverse-append rest (Variable x ∷ [])) p.given in
    given
