use Rattle.std.proofs.Common.{◌∙◌, ◌+◌, ◌++◌, ap, subst, sym, arith}
use Rattle.plterm.specs.Tree.{Tree}
use Rattle.plcells.specs.Store.{value}
use Rattle.plbind.specs.Unifying.{IsVerdict, IsInside, Stands, Answers, pairs}
use Rattle.plbind.proofs.Work.{args-inside, args-stand}
use Rattle.plbind.proofs.Progressing.{same-unified, clash-never, if-ok, bound-yes, bound-no, bound-keeps, solved-yes, solved-no, KeepsAll-refl}
use Rattle.plbind.proofs.unify.unify_in_choice.Goals as goal

pub bind_apart-requires : goal.bind_apart-requires
unfolding IsVerdict
bind_apart-requires c = let near = c.in-Binds.ensures in (near.number, near.near)

pub arg-requires : goal.arg-requires
unfolding IsVerdict
arg-requires c = omega (arith, c.in-Args.ensures.left, c.in-Args.ensures.few)

pub arg-requires-in-Args : goal.arg-requires-in-Args
unfolding IsVerdict
arg-requires-in-Args c = omega (arith, c.in-Args.ensures.right, c.in-Args.ensures.few)

pub push_pairs-requires-clause-left : goal.push_pairs-requires-clause-left
unfolding IsVerdict
push_pairs-requires-clause-left c = omega (arith, c.in-Args.ensures.left, c.in-Args.ensures.few)

pub push_pairs-requires-clause-right : goal.push_pairs-requires-clause-right
unfolding IsVerdict
push_pairs-requires-clause-right c = omega (arith, c.in-Args.ensures.right, c.in-Args.ensures.few)

pub returns-in_err-push_pairs-in-Args-clause-keeps : goal.returns-in_err-push_pairs-in-Args-clause-keeps
returns-in_err-push_pairs-in-Args-clause-keeps c = KeepsAll-refl c.args.heap.now

pub solve-requires : goal.solve-requires
unfolding IsVerdict
solve-requires c =
    let h = c.args.heap.now in
    let p = c.in-Args.p + 1 in
    let q = c.in-Args.q + 1 in
    let e = (rw (c.arg.ensures, c.arg-in-Args.ensures) at c.in_ok-push_pairs-in-Args.ensures) ∙ ap (λ xs. xs ++ pairs p q c.in-Args.k) c.clear.ensures.items in
    subst (IsInside h) (sym e) (args-inside h (value h c.args.a) (value h c.args.b) c.in-Args.p c.in-Args.q c.in-Args.k p q c.in-Args.ensures (omega arith) (omega arith))

pub returns-in-Same-clause-yes : goal.returns-in-Same-clause-yes
unfolding IsVerdict
returns-in-Same-clause-yes c = λ e. same-unified c.args.heap.now (value c.args.heap.now c.args.a) (value c.args.heap.now c.args.b) c.in-Same.ensures

pub returns-in-Same-clause-keeps : goal.returns-in-Same-clause-keeps
returns-in-Same-clause-keeps c = KeepsAll-refl c.args.heap.now

pub returns-in-Clash-clause-no : goal.returns-in-Clash-clause-no
unfolding IsVerdict
returns-in-Clash-clause-no c = λ e. clash-never (value c.args.heap.now c.args.a) (value c.args.heap.now c.args.b) c.in-Clash.ensures

pub returns-in-Clash-clause-keeps : goal.returns-in-Clash-clause-keeps
returns-in-Clash-clause-keeps c = KeepsAll-refl c.args.heap.now

pub returns-in-Binds-clause-yes : goal.returns-in-Binds-clause-yes
unfolding IsVerdict
returns-in-Binds-clause-yes c =
    let h = c.args.heap.now in
    bound-yes h c.bind_apart.new.heap (value h c.args.a) (value h c.args.b) c.in-Binds.x c.in-Binds.v c.in-Binds.ensures c.bind_apart.result c.bind_apart.ensures.ok

pub returns-in-Binds-clause-no : goal.returns-in-Binds-clause-no
unfolding IsVerdict
returns-in-Binds-clause-no c =
    let h = c.args.heap.now in
    bound-no h c.bind_apart.new.heap (value h c.args.a) (value h c.args.b) c.in-Binds.x c.in-Binds.v c.in-Binds.ensures c.bind_apart.result c.bind_apart.ensures.ok

pub returns-in-Binds-clause-keeps : goal.returns-in-Binds-clause-keeps
unfolding IsVerdict
returns-in-Binds-clause-keeps c =
    let h = c.args.heap.now in
    bound-keeps h c.bind_apart.new.heap (value h c.args.a) (value h c.args.b) c.in-Binds.x c.in-Binds.v c.in-Binds.ensures c.bind_apart.result c.bind_apart.ensures.ok c.bind_apart.ensures.err

pub returns-in_ok-push_pairs-in-Args-clause-yes : goal.returns-in_ok-push_pairs-in-Args-clause-yes
unfolding IsVerdict
returns-in_ok-push_pairs-in-Args-clause-yes c =
    let h = c.args.heap.now in
    let s = value h c.args.a in
    let t = value h c.args.b in
    let p = c.in-Args.p + 1 in
    let q = c.in-Args.q + 1 in
    let e = (rw (c.arg.ensures, c.arg-in-Args.ensures) at c.in_ok-push_pairs-in-Args.ensures) ∙ ap (λ xs. xs ++ pairs p q c.in-Args.k) c.clear.ensures.items in
    let stands = subst (λ w. Stands h w s t) (sym e) (args-stand h s t c.in-Args.p c.in-Args.q c.in-Args.k p q c.in-Args.ensures (omega arith) (omega arith)) in
    solved-yes h c.solve.new.heap s t c.solve.result
    (if-ok (λ r. (u w : Tree) → Stands h c.push_pairs.new.work.items u w → Answers h c.solve.new.heap u w r) (Answers h c.solve.new.heap s t) c.solve.result (λ b f. f s t stands) c.solve.ensures.answers)

pub returns-in_ok-push_pairs-in-Args-clause-no : goal.returns-in_ok-push_pairs-in-Args-clause-no
unfolding IsVerdict
returns-in_ok-push_pairs-in-Args-clause-no c =
    let h = c.args.heap.now in
    let s = value h c.args.a in
    let t = value h c.args.b in
    let p = c.in-Args.p + 1 in
    let q = c.in-Args.q + 1 in
    let e = (rw (c.arg.ensures, c.arg-in-Args.ensures) at c.in_ok-push_pairs-in-Args.ensures) ∙ ap (λ xs. xs ++ pairs p q c.in-Args.k) c.clear.ensures.items in
    let stands = subst (λ w. Stands h w s t) (sym e) (args-stand h s t c.in-Args.p c.in-Args.q c.in-Args.k p q c.in-Args.ensures (omega arith) (omega arith)) in
    solved-no h c.solve.new.heap s t c.solve.result
    (if-ok (λ r. (u w : Tree) → Stands h c.push_pairs.new.work.items u w → Answers h c.solve.new.heap u w r) (Answers h c.solve.new.heap s t) c.solve.result (λ b f. f s t stands) c.solve.ensures.answers)
