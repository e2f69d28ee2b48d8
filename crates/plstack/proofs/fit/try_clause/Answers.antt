use Rattle.std.proofs.Common.{◌≡◌, length, sym, subst, ◌∙◌}
use Rattle.plcells.specs.Store.{Store}
use Rattle.plcode.specs.Laying.{IsLaid}
use Rattle.plenv.proofs.Keeping.{Keeps-refl, Keeps-trans}
use Rattle.plstack.proofs.Fitting.{other-arity}
use Rattle.plstack.proofs.Trying.{laid, row-within, row-whole, covers, fitted, unfit}
use Rattle.plstack.proofs.fit.try_clause.Goals as goal

pub returns-then-from-call-clause-none : goal.returns-then-from-call-clause-none
returns-then-from-call-clause-none c = λ t n x tried. other-arity _ _ n x.head _ tried.own.code.sound.callable (λ e. c.if-from-call.true (c.from.ensures ∙ tried.own.code.arity ∙ e))

pub returns-then-from-call-clause-keeps : goal.returns-then-from-call-clause-keeps
returns-then-from-call-clause-keeps c = Keeps-refl _

pub returns-in_err-base-clause-keeps : goal.returns-in_err-base-clause-keeps
returns-in_err-base-clause-keeps c = rw c.in_err-base.ensures.err (Keeps-refl _)

pub fit-requires-clause-laid : goal.fit-requires-clause-laid
fit-requires-clause-laid c =
    let r = c.requires in
    subst (λ (h : Store). IsLaid h.names c.args.call.now.nodes.now) (sym c.in_ok-base.ensures.ok.heap) (laid r.0 _ r.1 _ _ _ r.2 r.3 (sym c.from.ensures ∙ c.if-from-call.false) c.heap.ensures.env.heap.names)

pub fit-requires-clause-packed : goal.fit-requires-clause-packed
fit-requires-clause-packed c =
    let r = c.requires in
    (laid r.0 _ r.1 _ _ _ r.2 r.3 (sym c.from.ensures ∙ c.if-from-call.false) c.heap.ensures.env.heap.names).packed

pub fit-requires-clause-row : goal.fit-requires-clause-row
fit-requires-clause-row c = let r = c.requires in let many : c.args.clause.arity ≡ length c.args.call.now.values.now = sym c.from.ensures ∙ c.if-from-call.false in rw many (row-within r.0 _ r.1 _ _ _ r.2 r.3 (sym c.from.ensures ∙ c.if-from-call.false) c.heap.ensures.env.heap.names)

pub fit-requires-clause-whole : goal.fit-requires-clause-whole
fit-requires-clause-whole c = let r = c.requires in let many : c.args.clause.arity ≡ length c.args.call.now.values.now = sym c.from.ensures ∙ c.if-from-call.false in rw many (row-whole r.0 _ r.1 _ _ _ r.2 r.3 (sym c.from.ensures ∙ c.if-from-call.false) c.heap.ensures.env.heap.names)

pub fit-requires-clause-covers : goal.fit-requires-clause-covers
fit-requires-clause-covers c = let r = c.requires in let many : c.args.clause.arity ≡ length c.args.call.now.values.now = sym c.from.ensures ∙ c.if-from-call.false in rw many (covers r.0 _ r.1 _ _ _ r.2 r.3 (sym c.from.ensures ∙ c.if-from-call.false) c.heap.ensures.env.heap.names _ _ c.in_ok-base.ensures.ok)

pub returns-in_err-fit-clause-keeps : goal.returns-in_err-fit-clause-keeps
returns-in_err-fit-clause-keeps c = Keeps-trans _ _ _ c.in_ok-base.ensures.ok.keeps c.fit.ensures.keeps

pub returns-then-branch-clause-some : goal.returns-then-branch-clause-some
returns-then-branch-clause-some c = λ t n x tried. fitted t _ n _ _ _ x tried (sym c.from.ensures ∙ c.if-from-call.false) c.heap.ensures.env.heap.names _ _ c.in_ok-base.ensures.ok _ (rw (sym c.from.ensures ∙ c.if-from-call.false) at (c.in_ok-fit.ensures.yes c.if-branch.true))

pub returns-then-branch-clause-keeps : goal.returns-then-branch-clause-keeps
returns-then-branch-clause-keeps c = Keeps-trans _ _ _ c.in_ok-base.ensures.ok.keeps c.fit.ensures.keeps

pub returns-else-branch-clause-none : goal.returns-else-branch-clause-none
returns-else-branch-clause-none c = λ t n x tried. unfit t _ n _ _ _ x tried (sym c.from.ensures ∙ c.if-from-call.false) c.heap.ensures.env.heap.names _ _ c.in_ok-base.ensures.ok c.fit.new.env (rw (sym c.from.ensures ∙ c.if-from-call.false) at (c.in_ok-fit.ensures.no c.if-branch.false))

pub returns-else-branch-clause-keeps : goal.returns-else-branch-clause-keeps
returns-else-branch-clause-keeps c = Keeps-trans _ _ _ c.in_ok-base.ensures.ok.keeps c.fit.ensures.keeps
