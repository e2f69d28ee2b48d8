-- The clause that a search comes to.
use Rattle.std.proofs.Common.{◌≡◌, ℕ, zero, suc, ◌+◌, ◌<◌, ◌≤◌, List, [], ◌∷◌, length, take, drop, filter_map, refl, sym, ap, ◌∙◌, subst, arith, None, slice_index_or}
use Rattle.std.proofs.lemmas.List.{drop_all}
use Rattle.plsubst.specs.Subst.{shift}
use Rattle.plsubst.specs.Unify.{unify}
use Rattle.platoms.specs.Names.{Table, IsTable, Extends}
use Rattle.plclause.specs.Clause.{Clause}
use Rattle.plcells.specs.declared.cell.Cell.{Cell}
use Rattle.plcells.specs.Store.{cut as cut_heap}
use Rattle.plsearch.specs.Types.{Element}
use Rattle.plsearch.specs.Moves.{resolve}
use Rattle.plcode.specs.declared.clause.ClauseCode.{ClauseCode}
use Rattle.plcode.specs.declared.key.Key.{Key}
use Rattle.plcode.specs.declared.node.Node.{Node}
use Rattle.plcode.specs.Index.{NoneAdmitted}
use Rattle.plcode.specs.Steps.{Text}
use Rattle.plenv.specs.declared.slot.Mark.{Mark}
use Rattle.plenv.specs.Env.{Env, IsEnv, cut, renamed, IsMark}
use Rattle.plenv.specs.Changes.{Keeps}
use Rattle.plenv.proofs.Keeping.{Keeps-trans}
use Rattle.plstack.specs.Places.{called}
use Rattle.plstack.specs.Fits.{IsOwn, Fitted, Finds, FindsNone}
use Rattle.plstack.specs.Attempts.{IsAttempt, IsTried}
use Rattle.plstack.proofs.Searching.{Both, both-at, own-length, first-passed, up-to, tried-then, fitted-then, unfit-then, Sought}

-- more names keep every mark
pub renamed-kept : (e : Env) (t : Table) → Extends e.heap.names t → Keeps e (renamed e t)
unfolding cut cut_heap
renamed-kept e t more = record {
  within = λ p w. record { heap = record { old = w.heap.old; cells = w.heap.cells; trail = w.heap.trail; numbers = w.heap.numbers; wide = w.heap.wide }; old = w.old; noted = w.noted };
  kept = λ p w. refl;
  names = more;
}

-- the code at a place
pub index-at : (ks : List ClauseCode) (i : ℕ) (d k : ClauseCode) → take 1 (drop i ks) ≡ k ∷ [] → i < length ks → slice_index_or ks i d ≡ k
index-at [] i d k e lt = absurd (omega arith)
index-at (x ∷ ks) zero d k e lt = ap (λ ys. slice_index_or ys 0 x) e
index-at (x ∷ ks) (suc i) d k e lt = index-at ks i d k e (omega arith)

module _ (e now : Env) (vs : List Cell) (key : Key) (nodes : List Node) (ks : List ClauseCode) (start from place : ℕ) (s : Sought e now vs key nodes ks start from) (is : IsEnv e) (table : IsTable now.heap.names)
    (low : from ≤ place) (high : place < length ks) (none : NoneAdmitted key ks from place) (d : ClauseCode) where
  abbrev k : ClauseCode
  k = slice_index_or ks place d

  module _ (c : Text) (n : List ℕ) (xs : List Clause) (a : IsAttempt c e n vs key nodes ks xs) where
    pub found : Both c n ks xs place
    found = both-at c n ks xs place a.own high

    pub found-tried : IsTried c now n vs nodes k found.clause
    found-tried =
        subst (λ m. IsTried c m n vs nodes k found.clause) (sym s.back)
        (tried-then c e n vs key nodes ks xs a is now.heap.names table s.keeps.names k found.clause (subst (λ y. IsOwn c n y found.clause) (sym (index-at ks place d found.code found.code_at high)) found.own))

    -- all before it are passed over
    before : (l : ℕ) (es : List Element) → filter_map (resolve l e.count (called e.heap n vs) es) (drop start xs) ≡ filter_map (resolve l e.count (called e.heap n vs) es) (drop place xs)
    before l es = s.passed_by c n xs a l es ∙ up-to c e n vs key nodes ks xs a is from place none low (omega (arith, high)) l es

    pub found-fits : (new : Env) (base : ℕ) → Fitted now new (called now.heap n vs) base found.clause → Finds e new (called e.heap n vs) xs start (record { place = place; base = base })
    found-fits new base f = record {
      clause = found.clause;
      is = found.clause_at;
      within = omega (arith, high, own-length c n ks xs a.own);
      fitted = fitted-then c e n vs key nodes ks xs a is now.heap.names table s.keeps.names new base found.clause
          (subst (λ (m : Env). Fitted m new (called m.heap n vs) base found.clause) s.back f);
      before = before;
    }

    found-unfit : unify (called now.heap n vs) (shift now.count found.clause.head) ≡ None → unify (called e.heap n vs) (shift e.count found.clause.head) ≡ None
    found-unfit u = unfit-then c e n vs key nodes ks xs a is now.heap.names table s.keeps.names found.clause
        (subst (λ (m : Env). unify (called m.heap n vs) (shift m.count found.clause.head) ≡ None) s.back u)

    pub found-passed : unify (called now.heap n vs) (shift now.count found.clause.head) ≡ None → (l : ℕ) (es : List Element) →
        filter_map (resolve l e.count (called e.heap n vs) es) (drop start xs) ≡ filter_map (resolve l e.count (called e.heap n vs) es) (drop (place + 1) xs)
    found-passed u l es =
        let next : suc place ≡ place + 1 = omega arith in
        before l es
        ∙ first-passed l e.count (called e.heap n vs) es xs place (omega (arith, high, own-length c n ks xs a.own))
        (λ x at. subst (λ (y : Clause). unify (called e.heap n vs) (shift e.count y.head) ≡ None) (ap (λ ys. slice_index_or ys 0 x) (sym found.clause_at ∙ at)) (found-unfit u))
        ∙ ap (λ i. filter_map (resolve l e.count (called e.heap n vs) es) (drop i xs)) next

  -- after an undo to the mark of the call the search goes on
  module _ (mark : Mark) (after undone : Env) (marks : IsMark mark e) (at : cut mark e ≡ e) (kept : Keeps now after) (back : undone ≡ cut mark after) where
    all-kept : Keeps e after
    all-kept = Keeps-trans e now after s.keeps kept

    undone-is : undone ≡ renamed e after.heap.names
    undone-is = back ∙ all-kept.kept mark marks.within ∙ ap (λ m. renamed m after.heap.names) at

    pub sought-on : ((c : Text) (n : List ℕ) (x : Clause) → IsTried c now n vs nodes k x → unify (called now.heap n vs) (shift now.count x.head) ≡ None) → Sought e undone vs key nodes ks start (place + 1)
    sought-on unfit = record {
      back = undone-is ∙ ap (renamed e) (sym (ap (λ (m : Env). m.heap.names) undone-is));
      keeps = subst (Keeps e) (sym undone-is) (renamed-kept e after.heap.names all-kept.names);
      within = omega (arith, high);
      low = omega (arith, s.low, low);
      passed_by = λ c n xs a l es. found-passed c n xs a (unfit c n (found c n xs a).clause (found-tried c n xs a)) l es;
    }

-- no clause is left that could fit
pub found-none : (e now : Env) (vs : List Cell) (key : Key) (nodes : List Node) (ks : List ClauseCode) (start from : ℕ) → Sought e now vs key nodes ks start from → IsEnv e → NoneAdmitted key ks from (length ks) →
    (c : Text) (n : List ℕ) (xs : List Clause) → IsAttempt c e n vs key nodes ks xs → FindsNone e (called e.heap n vs) xs start
found-none e now vs key nodes ks start from s is none c n xs a l es =
    s.passed_by c n xs a l es
    ∙ up-to c e n vs key nodes ks xs a is from (length ks) none s.within (omega arith) l es
    ∙ ap (filter_map (resolve l e.count (called e.heap n vs) es)) (drop_all (length ks) xs (omega (arith, own-length c n ks xs a.own)))
