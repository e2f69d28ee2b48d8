use Rattle.std.proofs.Common.{ap, ap₂, ◌∙◌, w64}
use Rattle.std.proofs.lemmas.Int.{to_z-of_z}
use Rattle.plterm.specs.Tree.{int}
use Rattle.plcells.specs.Store.{value}
use Rattle.plsearch.specs.Rows.{taken, solved}
use Rattle.plstack.specs.State.{goals_of}
use Rattle.plmachine.specs.Machine.{local_of}
use Rattle.plmachine.proofs.Moves.{moved-grown, grown-stays, stays-trans, on_err, on_err_map, on_ok_map}
use Rattle.plmachine.proofs.Levels.{fits-grown}
use Rattle.plmachine.proofs.machine.Machine.equal.Goals as goal

pub unify-requires-clause-first : goal.unify-requires-clause-first
unify-requires-clause-first c = (c.integer.ensures.grown.extends.values c.args.v c.requires.value).0

pub unify-requires-clause-rest : goal.unify-requires-clause-rest
unify-requires-clause-rest c = (c.integer.ensures.grown.extends.lists c.args.rest c.requires.rest).0

pub returns-in_err-w-clause-err : goal.returns-in_err-w-clause-err
returns-in_err-w-clause-err c P = on_err _ (grown-stays P c.args.self.now c.integer.new.self c.integer.ensures.grown c.integer.ensures.frame)

pub returns-clause-ok : goal.returns-clause-ok
returns-clause-ok c P =
    let s = c.args.self.now in
    let t = c.integer.new.self in
    let g = c.integer.ensures.grown in
    let frame = c.integer.ensures.frame in
    let list = (g.extends.lists c.args.rest c.requires.rest).1 in
    let is = rw (to_z-of_z w64 c.args.number c.ranges.number) at c.in_ok-w.ensures.is in
    let left = (g.extends.values c.args.v c.requires.value).1 in
    on_ok_map c.unify.result (moved-grown P s t c.unify.new.self _ _ g frame
    (ap₂ (λ gs n. taken (solved gs n (record { left = value t.stack.env.heap c.args.v; right = value t.stack.env.heap c.in_ok-w.w; new = 0 })) (local_of t)) list g.count
    ∙ ap₂ (λ a b. taken (solved (goals_of s.stack c.args.rest) s.stack.env.count (record { left = a; right = b; new = 0 })) (local_of t)) left is
    ∙ ap (λ x. taken (solved (goals_of s.stack c.args.rest) s.stack.env.count (record { left = value s.stack.env.heap c.args.v; right = int c.args.number; new = 0 })) (local_of x)) frame))
    (c.unify.ensures.ok P)

pub returns-clause-err : goal.returns-clause-err
returns-clause-err c P =
    let s = c.args.self.now in
    on_err_map c.unify.result (stays-trans P s c.integer.new.self c.unify.new.self (grown-stays P s c.integer.new.self c.integer.ensures.grown c.integer.ensures.frame)) (c.unify.ensures.err P)

pub unify-requires-clause-fits : goal.unify-requires-clause-fits
unify-requires-clause-fits c = fits-grown c.args.self.now.stack c.integer.new.self.stack c.integer.ensures.grown c.args.rest c.requires.rest c.requires.fits
