-- A goal and the head of a clause.
use Rattle.std.proofs.Common.{◌≡◌, ◌∙◌, sym, ap, subst}
use Rattle.plenv.specs.declared.slot.Mark.{Mark}
use Rattle.plenv.specs.Env.{Env, cut, renamed, IsMark}
use Rattle.plenv.specs.Changes.{Keeps}
use Rattle.plstack.specs.State.{State, Extends}
use Rattle.plstack.proofs.Found.{renamed-kept}

-- after an undo to a mark of then there are more names
module _ (e after undone : Env) (mark : Mark) (marks : IsMark mark e) (now : cut mark e ≡ e) (kept : Keeps e after) (back : undone ≡ cut mark after) where
  undone-is : undone ≡ renamed e after.heap.names
  undone-is = back ∙ kept.kept mark marks.within ∙ ap (λ m. renamed m after.heap.names) now

  pub came-keeps : Keeps e undone
  came-keeps = subst (Keeps e) (sym undone-is) (renamed-kept e after.heap.names kept.names)

-- one growth behind another
pub extends-trans : (a b c : State) → Extends a b → Extends b c → Extends a c
extends-trans a b c x y = record {
  basis = y.basis ∙ x.basis;
  frames = y.frames ∙ x.frames;
  goals = y.goals ∙ x.goals;
  visited = y.visited ∙ x.visited;
  cases = λ db. y.cases db ∙ x.cases db;
  lists = λ l i. let p = x.lists l i in let q = y.lists l p.0 in (q.0, q.1 ∙ p.1);
  values = λ v f. let p = x.values v f in let q = y.values v p.0 in (q.0, q.1 ∙ p.1);
}
