-- Terms from outside, with new variables.
use Rattle.std.specs.Prelude.{Result as Outcomes, Ok, Err, IfOk, OnErr}
use Rattle.std.specs.declared.alloc.AllocError.{AllocError}
use Rattle.std.proofs.Common.{◌≡◌, ℕ, ◌+◌, ◌<◌, ◌≤◌, List, [], ◌∷◌, ◌++◌, length, length-append, refl, sym, ap, ◌∙◌, subst, arith, inl, inr}
use Rattle.std.proofs.lemmas.Bool.{cases_lt}
use Rattle.std.proofs.lemmas.List.{get_or_append_left, get_or_push}
use Rattle.plterm.specs.Tree.{Tree, var}
use Rattle.plterm.specs.Variables.{AllBelow}
use Rattle.plsubst.specs.Subst.{bind, shift}
use Rattle.plcells.specs.declared.cell.Cell.{Cell}
use Rattle.plcells.specs.declared.cell.Cell.TheVariants.{Ref, Atom}
use Rattle.plcells.specs.Store.{Store, at, AreValues, IsValue, IsFresh, value, bounded_by, renamed, AddsVariable, Preserves as PreservesHeap}
use Rattle.plcells.specs.Putting.{standing, PutsTerm as PutsGiven}
use Rattle.plcells.proofs.Given.{value-in}
use Rattle.plcells.proofs.Nodes.{bind-agree}
use Rattle.plcells.proofs.Putting.{Preserves-refl, Preserves-trans}
use Rattle.plcells.proofs.Committing.{value-noted}
use Rattle.plcells.proofs.Marking.{preserves-under}
use Rattle.plenv.specs.Env.{Env, AreSlots}
use Rattle.plenv.specs.Changes.{AddsVariables, Puts, PutsTerm, PutsVariables, Stays}
use Rattle.plenv.proofs.Changing.{slots-over}
use Rattle.plenv.proofs.Keeping.{over_heap}
use Rattle.plenv.proofs.Putting.{Extends-trans, Puts-stays, extends-grown, stays-grown}

pub no_variables : (h : Store) (n : ℕ) → AddsVariables h h [] n 0
no_variables h n = record { count = refl; fit = tt; are = λ x lt. absurd (omega arith); preserves = Preserves-refl h; names = refl; fresh = λ m f apart. f }

pub all_still : (old new : Store) (vs : List Cell) → ((v : Cell) → IsValue old v → IsValue new v) → AreValues old vs → AreValues new vs
all_still old new [] still are = tt
all_still old new (v ∷ vs) still are = (still v are.0, all_still old new vs still are.1)

all_pushed : (h : Store) (vs : List Cell) (v : Cell) → AreValues h vs → IsValue h v → AreValues h (vs ++ v ∷ [])
all_pushed h [] v are f = (f, tt)
all_pushed h (u ∷ vs) v are f = (are.0, all_pushed h vs v are.1 f)

-- one more of them
module _ (old h new : Store) (vs : List Cell) (n k c : ℕ) (has : AddsVariables old h vs n k) (adds : AddsVariable h new c (n + k)) where
  are_more : (x : ℕ) → x < k + 1 → value new (at (vs ++ Ref c ∷ []) x) ≡ var (n + x)
  are_more x lt = elim (cases_lt x k) [
    | inl low ↦
        let in_vs : x < length vs = omega (arith, low, has.count) in
        ap (value new) (get_or_append_left vs (Ref c ∷ []) (Atom 0) x in_vs)
        ∙ (adds.grows.values (at vs x) (value-in h vs x (Atom 0) (at vs x) has.fit in_vs refl)).1
        ∙ has.are x low
    | inr high ↦
        let last : x ≡ k = omega (arith, lt, high) in
        ap (value new) (get_or_push vs (Ref c) (Atom 0) x (omega (arith, last, has.count)))
        ∙ adds.is ∙ ap (λ j. var (n + j)) (sym last)
  ]

  pub more_variables : AddsVariables old new (vs ++ Ref c ∷ []) n (k + 1)
  more_variables = record {
    count = omega (arith, has.count, length-append vs (Ref c ∷ []));
    fit = all_pushed new vs (Ref c) (all_still h new vs (λ v f. (adds.grows.values v f).0) has.fit) adds.fits;
    are = are_more;
    preserves = Preserves-trans old h new has.preserves (record { longer = adds.grows.longer; terms = adds.grows.terms; values = adds.grows.values; keeps = adds.grows.keeps });
    names = adds.grows.names ∙ has.names;
    fresh = λ m f apart. adds.fresh m (has.fresh m f (λ le lt. apart le (omega (arith, lt)))) (λ same. apart (omega (arith, same)) (omega (arith, same)));
  }

-- with the heap's boundary as it was
pub variables-under : (h new : Store) (b : ℕ) (vs : List Cell) (n k : ℕ) → h.boundary ≤ b → AddsVariables (bounded_by h b) new vs n k → AddsVariables h (bounded_by new h.boundary) vs n k
variables-under h new b vs n k le adds = record {
  count = adds.count;
  fit = all_still new (bounded_by new h.boundary) vs (λ v f. (value-noted new new.trail h.boundary v f).0) adds.fit;
  are = λ x lt. (value-noted new new.trail h.boundary (at vs x) (value-in new vs x (Atom 0) (at vs x) adds.fit (omega (arith, lt, adds.count)) refl)).1 ∙ adds.are x lt;
  preserves = preserves-under h new b le adds.preserves;
  names = adds.names;
  fresh = adds.fresh;
}

-- ---- in an environment
pub puts-variables : (e : Env) (h : Store) (vs : List Cell) (k : ℕ) → AreSlots e → AddsVariables e.heap h vs e.count k → PutsVariables e (over_heap e h (e.count + k)) vs k
puts-variables e h vs k is adds = record {
  many = adds.count;
  fit = adds.fit;
  are = adds.are;
  extends = extends-grown e h (e.count + k) (omega arith) adds.preserves.values adds.preserves.keeps is;
  slots = refl;
  count = refl;
}

-- a term over values that are there
module _ (e : Env) (h : Store) (t : Tree) (is : AreSlots e) (preserves : PreservesHeap e.heap h) where
  pub puts-given : (v : Cell) → PutsGiven e.heap h v t → Puts e (over_heap e h e.count) v t
  puts-given v puts =
      let s = stays-grown e h preserves.values preserves.keeps is in
      record { fits = puts.fits; is = puts.is; extends = s.extends; slots = s.slots; count = s.count }

  pub slots-given : {A : Type 0} (cell : A → Cell) (r : Outcomes A AllocError) → IfOk r (λ a. PutsGiven e.heap h (cell a) t) → OnErr r (h ≡ renamed e.heap h.names) → AreSlots (over_heap e h e.count)
  slots-given cell (Ok a) ok err = slots-over e h (λ w f. (preserves.values w f).0) ok.adds.fresh is
  slots-given cell (Err x) ok err = slots-over e h (λ w f. (preserves.values w f).0) (λ n f. subst (λ s. IsFresh s n) (sym err) f) is

-- the term over new variables
pub puts-new : (old mid new : Env) (vs : List Cell) (k : ℕ) (v : Cell) (t : Tree) → PutsVariables old mid vs k → AllBelow k t → Puts mid new v (bind (standing mid.heap vs) t) → PutsTerm old new v (shift old.count t) k
puts-new old mid new vs k v t has below puts = record {
  fits = puts.fits;
  is = puts.is ∙ bind-agree k (standing mid.heap vs) (λ x. var (old.count + x)) has.are t below;
  extends = Extends-trans old mid new has.extends puts.extends;
  slots = puts.slots ∙ has.slots;
  count = puts.count ∙ has.count;
}

-- whatever came of it
pub put-stays : (old new : Env) (t : Tree) (r : Outcomes Cell AllocError) → IfOk r (λ v. Puts old new v t) → OnErr r (Stays old new) → Stays old new
put-stays old new t (Ok v) ok err = Puts-stays old new v t ok
put-stays old new t (Err x) ok err = err

-- new variables stay the same behind what is put after them
pub variables-stay : (old mid new : Env) (vs : List Cell) (k : ℕ) → PutsVariables old mid vs k → Stays mid new → PutsVariables old new vs k
variables-stay old mid new vs k has stays = record {
  many = has.many;
  fit = all_still mid.heap new.heap vs (λ v f. (stays.extends.values v f).0) has.fit;
  are = λ x lt. (stays.extends.values (at vs x) (value-in mid.heap vs x (Atom 0) (at vs x) has.fit (omega (arith, lt, has.many)) refl)).1 ∙ has.are x lt;
  extends = Extends-trans old mid new has.extends stays.extends;
  slots = stays.slots ∙ has.slots;
  count = stays.count ∙ has.count;
}
