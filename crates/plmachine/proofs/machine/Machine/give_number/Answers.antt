use Rattle.std.proofs.Common.{◌≡◌, ap, ap₂, sym, ◌∙◌, refl, w64}
use Rattle.std.proofs.lemmas.Int.{to_z-of_z}
use Rattle.plterm.specs.Tree.{int}
use Rattle.plcells.specs.Store.{value}
use Rattle.plsubst.specs.Unify.{unify}
use Rattle.plsearch.specs.Rows.{taken, solved}
use Rattle.plstack.specs.State.{goals_of}
use Rattle.plmachine.specs.declared.machine.Machine.{Machine as Reached}
use Rattle.plmachine.specs.Machine.{local_of}
use Rattle.plmachine.specs.Selected.{bound_at}
use Rattle.plmachine.proofs.Lists.{grown-trans}
use Rattle.plmachine.proofs.Moves.{moved-grown, grown-stays, stays-trans, on_err}
use Rattle.plmachine.proofs.Offers.{unifies, unsolved}
use Rattle.plmachine.proofs.Calculating.{off-heap-from}
use Rattle.plmachine.proofs.Levels.{fits-grown}
use Rattle.plstack.proofs.Fitted.{fits-unified}
use Rattle.plmachine.proofs.machine.Machine.give_number.Goals as goal

pub returns-in_err-v-clause-err : goal.returns-in_err-v-clause-err
returns-in_err-v-clause-err c = λ P. on_err _ (grown-stays P c.args.self.now c.integer.new.self c.integer.ensures.grown c.integer.ensures.frame)

pub unify_number-requires-clause-node : goal.unify_number-requires-clause-node
unify_number-requires-clause-node c = (c.requires.node.0, (c.integer.ensures.arguments c.args.run.now c.args.node c.requires.node.0 c.requires.node.1).0)

pub returns-in_err-unify_number-clause-err : goal.returns-in_err-unify_number-clause-err
returns-in_err-unify_number-clause-err c = λ P.
    let s = c.args.self.now in
    let t = c.integer.new.self in
    let u : Reached = record t { stack = c.unify_number.new.self } in
    let err = c.in_err-unify_number.ensures.err in
    on_err _ (stays-trans P s t u (grown-stays P s t c.integer.ensures.grown c.integer.ensures.frame) (grown-stays P t u (record { extends = err.0; count = err.1 }) refl))

pub go_on-requires-clause-list : goal.go_on-requires-clause-list
go_on-requires-clause-list c =
    let kept = c.integer.ensures.arguments c.args.run.now c.args.node c.requires.node.0 c.requires.node.1 in
    ((c.in_ok-unify_number.ensures.yes c.requires.node.0 kept.0 c.if-branch.true).lists c.args.rest (c.integer.ensures.grown.extends.lists c.args.rest c.requires.rest).0).0

pub returns-then-branch-clause-ok : goal.returns-then-branch-clause-ok
returns-then-branch-clause-ok c = λ P u is_one.
    let s = c.args.self.now in
    let t = c.integer.new.self in
    let r = c.args.run.now in
    let g = c.integer.ensures.grown in
    let frame = c.integer.ensures.frame in
    let kept = c.integer.ensures.arguments r c.args.node u is_one in
    let list = g.extends.lists c.args.rest c.requires.rest in
    let is = rw (to_z-of_z w64 c.args.number c.ranges.number) at c.in_ok-v.ensures.is in
    moved-grown P s t c.go_on.new.self _ _ g frame
    (ap₂ (λ gs n. taken (solved gs n (record { left = bound_at t.stack r u; right = value t.stack.env.heap c.in_ok-v.v; new = 0 })) (local_of t)) list.1 g.count
    ∙ ap₂ (λ a b. taken (solved (goals_of s.stack c.args.rest) s.stack.env.count (record { left = a; right = b; new = 0 })) (local_of t)) kept.1 is
    ∙ ap (λ x. taken (solved (goals_of s.stack c.args.rest) s.stack.env.count (record { left = bound_at s.stack r u; right = int c.args.number; new = 0 })) (local_of x)) frame)
    (unifies P t c.go_on.new.self c.unify_number.new.self (bound_at t.stack r u) (value t.stack.env.heap c.in_ok-v.v) c.args.rest list.0 (c.in_ok-unify_number.ensures.yes u kept.0 c.if-branch.true) c.go_on.ensures.is)

pub returns-clause-ok : goal.returns-clause-ok
returns-clause-ok c = λ P u is_one.
    let s = c.args.self.now in
    let t = c.integer.new.self in
    let v : Reached = record t { stack = c.unify_number.new.self } in
    let r = c.args.run.now in
    let kept = c.integer.ensures.arguments r c.args.node u is_one in
    let is = rw (to_z-of_z w64 c.args.number c.ranges.number) at c.in_ok-v.ensures.is in
    let same = c.in_ok-unify_number.ensures.same c.if-branch.false in
    let none = ap₂ unify (sym kept.1) (sym is) ∙ c.in_ok-unify_number.ensures.no u kept.0 c.if-branch.false in
    let frame : v ≡ record s { stack = v.stack } = ap (λ (x : Reached). record x { stack = v.stack }) c.integer.ensures.frame in
    unsolved P s v c.give.new.self (bound_at s.stack r u) (int c.args.number) 0 c.args.rest (grown-trans s.stack t.stack v.stack c.integer.ensures.grown (record { extends = same.0; count = same.1 })) frame none c.give.ensures

pub go_on-requires-clause-fits : goal.go_on-requires-clause-fits
go_on-requires-clause-fits c =
    let s = c.args.self.now.stack in
    let t = c.integer.new.self.stack in
    let g = c.integer.ensures.grown in
    let kept = c.integer.ensures.arguments c.args.run.now c.args.node c.requires.node.0 c.requires.node.1 in
    fits-unified t c.unify_number.new.self _ _ (c.in_ok-unify_number.ensures.yes c.requires.node.0 kept.0 c.if-branch.true) c.args.rest (g.extends.lists c.args.rest c.requires.rest).0 (fits-grown s t g c.args.rest c.requires.rest c.requires.fits)

pub returns-in_err-v-clause-heap : goal.returns-in_err-v-clause-heap
returns-in_err-v-clause-heap c = λ u is_one off small.
    let kept = rw (to_z-of_z w64 c.args.number c.ranges.number) at c.integer.ensures.small in
    ap (λ (x : Reached). x.stack.env.heap) (kept small)

pub returns-in_err-unify_number-clause-heap : goal.returns-in_err-unify_number-clause-heap
returns-in_err-unify_number-clause-heap c = λ u is_one off small.
    let s = c.args.self.now in
    let r = c.args.run.now in
    let kept = rw (to_z-of_z w64 c.args.number c.ranges.number) at c.integer.ensures.small in
    off-heap-from s c.integer.new.self c.unify_number.new.self r.base u (kept small) off (c.unify_number.ensures.heap u (c.integer.ensures.arguments r c.args.node u is_one).0)

pub returns-then-branch-clause-heap : goal.returns-then-branch-clause-heap
returns-then-branch-clause-heap c = λ u is_one off small.
    let s = c.args.self.now in
    let r = c.args.run.now in
    let kept = rw (to_z-of_z w64 c.args.number c.ranges.number) at c.integer.ensures.small in
    ap (λ (x : Reached). x.stack.env.heap) c.go_on.ensures.is
    ∙ off-heap-from s c.integer.new.self c.unify_number.new.self r.base u (kept small) off (c.unify_number.ensures.heap u (c.integer.ensures.arguments r c.args.node u is_one).0)

pub returns-clause-heap : goal.returns-clause-heap
returns-clause-heap c = λ u is_one off small.
    let s = c.args.self.now in
    let r = c.args.run.now in
    let kept = rw (to_z-of_z w64 c.args.number c.ranges.number) at c.integer.ensures.small in
    ap (λ (x : Reached). x.stack.env.heap) c.give.ensures
    ∙ off-heap-from s c.integer.new.self c.unify_number.new.self r.base u (kept small) off (c.unify_number.ensures.heap u (c.integer.ensures.arguments r c.args.node u is_one).0)
