use Rattle.std.proofs.Common.{◌∙◌, sym, subst, refl}
use Rattle.plcells.specs.Store.{value, Binds}
use Rattle.plcells.proofs.Searching.{binding-of}
use Rattle.plbind.specs.Unifying.{Bindings}
use Rattle.plbind.proofs.unify.bind_apart.Goals as goal

pub returns-then-branch-clause-ok : goal.returns-then-branch-clause-ok
unfolding Bindings
returns-then-branch-clause-ok c = λ n near. (sym (c.in_ok-occurs.ensures.is n near.numbered) ∙ c.if-branch.true, refl)

pub bind-requires : goal.bind-requires
bind-requires c =
    let near = c.requires.1 in
    let b = binding-of c.args.heap.now c.in_ok-occurs.ensures.heap c.args.x c.requires.0 c.args.v near.end near.numbered near.fits (sym (c.in_ok-occurs.ensures.is c.requires.0 near.numbered) ∙ c.if-branch.false) in
    (b.0, b.1)

pub returns-clause-ok : goal.returns-clause-ok
unfolding Bindings
returns-clause-ok c = λ n near.
    let h = c.args.heap.now in
    let apart = sym (c.in_ok-occurs.ensures.is n near.numbered) ∙ c.if-branch.false in
    let b = binding-of h c.in_ok-occurs.ensures.heap c.args.x n c.args.v near.end near.numbered near.fits apart in
    (apart, subst (λ k. Binds h c.bind.new.self k (value h c.args.v)) b.2 (c.in_ok-bind.ensures.ok b.0 b.1))
