-- Copies that are put one after another, and their list.
use Rattle.std.specs.Prelude.{Result as Outcomes}
use Rattle.std.specs.declared.alloc.AllocError.{AllocError}
use Rattle.std.proofs.Common.{◌≡◌, ◌+◌, Bool, true, false, Ok, Err, IfOk, OnErr, None, List, [], ◌∷◌, ◌++◌, map, refl, sym, ap, ap₂, ◌∙◌, subst}
use Rattle.plterm.specs.Tree.{Tree}
use Rattle.plsubst.specs.Unify.{unify}
use Rattle.plcells.specs.declared.cell.Cell.{Cell}
use Rattle.plcells.specs.Store.{Store, value, IsValue, AreValues}
use Rattle.plread.specs.Texts.{listed}
use Rattle.plsearch.specs.Lists.{bind_goals}
use Rattle.plsearch.specs.Collecting.{count_new, renumbered}
use Rattle.plstack.specs.State.{State, Extends, Unifies}
use Rattle.plmachine.specs.Gathering.{Gathers}

pub values-kept : (old new : Store) → ((v : Cell) → IsValue old v → IsValue new v × (value new v ≡ value old v)) → (vs : List Cell) → AreValues old vs → AreValues new vs × (map (value new) vs ≡ map (value old) vs)
values-kept old new same [] a = (tt, refl)
values-kept old new same (v ∷ vs) a =
    let x = same v a.0 in
    let r = values-kept old new same vs a.1 in
    ((x.0, r.0), ap₂ (λ t ts. t ∷ ts) x.1 r.1)

pub values-pushed : (h : Store) (vs : List Cell) (v : Cell) → AreValues h vs → IsValue h v → AreValues h (vs ++ v ∷ []) × (map (value h) (vs ++ v ∷ []) ≡ map (value h) vs ++ value h v ∷ [])
values-pushed h [] v a i = ((i, tt), refl)
values-pushed h (w ∷ ws) v a i = let r = values-pushed h ws v a.1 i in ((a.0, r.0), ap (λ ts. value h w ∷ ts) r.1)

-- the list of some copies was put
pub record PutsList (old new : State) (ts : List Tree) (v : Cell) : Type 0 where
  pub fits : IsValue new.env.heap v
  pub is : value new.env.heap v ≡ listed (renumbered old.env.count ts)
  pub count : new.env.count ≡ old.env.count + count_new ts
  pub stays : Extends old new

module _ (old put new : State) (l v : Cell) (ts : List Tree) (fits : IsValue old.env.heap l) (p : PutsList old put ts v) where
  -- the two terms that are unified
  sides : unify (value old.env.heap l) (listed (renumbered old.env.count ts)) ≡ unify (value put.env.heap l) (value put.env.heap v)
  sides = ap₂ unify (sym (p.stays.values l fits).1) (sym p.is)

  gathers : Unifies put new l v → Gathers old new (value old.env.heap l) ts
  gathers u = record {
    unifier = u.unifier;
    is = sides ∙ u.is;
    lists = λ c i.
        let x = p.stays.lists c i in
        let y = u.lists c x.0 in
        (y.0, y.1 ∙ ap (bind_goals u.unifier) x.1);
    cases = λ db. u.cases db ∙ p.stays.cases db;
    frames = u.frames ∙ p.stays.frames;
    count = u.count ∙ p.count;
    basis = u.basis ∙ p.stays.basis;
  }

  pub gathers-yes : (r : Outcomes Bool AllocError) → IfOk r (λ so. so ≡ true → Unifies put new l v) → IfOk r (λ so. so ≡ true → Gathers old new (value old.env.heap l) ts)
  gathers-yes (Ok answer) unified = λ so. gathers (unified so)
  gathers-yes (Err x) unified = tt

  pub gathers-no : (r : Outcomes Bool AllocError) → IfOk r (λ so. so ≡ false → (unify (value put.env.heap l) (value put.env.heap v) ≡ None) × (new ≡ put)) →
      IfOk r (λ so. so ≡ false → unify (value old.env.heap l) (listed (renumbered old.env.count ts)) ≡ None)
  gathers-no (Ok answer) not = λ no. sides ∙ (not no).0
  gathers-no (Err x) not = tt

  pub gathers-same : (r : Outcomes Bool AllocError) → IfOk r (λ so. so ≡ false → (unify (value put.env.heap l) (value put.env.heap v) ≡ None) × (new ≡ put)) → IfOk r (λ so. so ≡ false → Extends old new)
  gathers-same (Ok answer) same = λ no. subst (Extends old) (sym (same no).1) p.stays
  gathers-same (Err x) same = tt

  pub gathers-err : (r : Outcomes Bool AllocError) → OnErr r (new ≡ put) → OnErr r (Extends old new)
  gathers-err (Ok answer) err = tt
  gathers-err (Err x) err = subst (Extends old) (sym err) p.stays
