use Rattle.std.proofs.Common.{false}
use Rattle.plcode.specs.declared.clause.ClauseCode.{ClauseCode}
use Rattle.plcode.specs.declared.key.Key.TheVariants.{Any}
use Rattle.plenv.proofs.Keeping.{Keeps-trans}
use Rattle.plenv.proofs.Renaming.{IsMark-kept}
use Rattle.plstack.proofs.Searching.{sought-first}
use Rattle.plstack.proofs.Found.{found, found-tried, found-fits, sought-on, found-none}
use Rattle.plstack.proofs.fit.first_fit.Goals as goal

abbrev nothing : ClauseCode
nothing = record { head = 0; arity = 0; key = Any; body = 0; variables = 0; is_fact = false }

pub clauses-init : goal.clauses-init
clauses-init c = sought-first _ _ _ _ _ _ c.requires.within

pub try_clause-requires : goal.try_clause-requires
try_clause-requires c =
    let a = c.requires.attempt in
    let i = c.clauses.invariant in
    let n = c.in-Some.ensures in
    let there = found _ _ _ _ _ _ _ _ _ i c.heap.ensures.env c.heap-in-Some.ensures.env.heap.names n.0 n.1 n.2 nothing a.0 a.1 a.2 a.3 in
    (a.0, a.1, there.clause, rw c.clauses-in-Some.ensures (found-tried _ _ _ _ _ _ _ _ _ i c.heap.ensures.env c.heap-in-Some.ensures.env.heap.names n.0 n.1 n.2 nothing a.0 a.1 a.2 a.3))

pub returns-in_err-base-clause-keeps : goal.returns-in_err-base-clause-keeps
returns-in_err-base-clause-keeps c = Keeps-trans _ _ _ c.clauses.invariant.keeps (c.in_err-base.ensures.keeps)

pub returns-in-Some-2-clause-some : goal.returns-in-Some-2-clause-some
returns-in-Some-2-clause-some c = λ t n xs a.
    let i = c.clauses.invariant in
    let e = c.in-Some.ensures in
    let at = found _ _ _ _ _ _ _ _ _ i c.heap.ensures.env c.heap-in-Some.ensures.env.heap.names e.0 e.1 e.2 nothing t n xs a in
    let tried = found-tried _ _ _ _ _ _ _ _ _ i c.heap.ensures.env c.heap-in-Some.ensures.env.heap.names e.0 e.1 e.2 nothing t n xs a in
    found-fits _ _ _ _ _ _ _ _ _ i c.heap.ensures.env c.heap-in-Some.ensures.env.heap.names e.0 e.1 e.2 nothing t n xs a _ _
    ((rw (c.in-Some-2.is, c.clauses-in-Some.ensures) at c.in_ok-base.ensures.some) t n at.clause tried)

pub returns-in-Some-2-clause-keeps : goal.returns-in-Some-2-clause-keeps
returns-in-Some-2-clause-keeps c = Keeps-trans _ _ _ c.clauses.invariant.keeps c.in_ok-base.ensures.keeps

pub undo-requires : goal.undo-requires
undo-requires c = IsMark-kept _ _ _ (Keeps-trans _ _ _ c.clauses.invariant.keeps c.in_ok-base.ensures.keeps) c.heap-in-Some-2.ensures.env.heap.names c.requires.mark

pub clauses-preserved : goal.clauses-preserved
clauses-preserved c =
    let i = c.clauses.invariant in
    let e = c.in-Some.ensures in
    sought-on _ _ _ _ _ _ _ _ _ i c.heap.ensures.env c.heap-in-Some.ensures.env.heap.names e.0 e.1 e.2 nothing _ _ _ c.requires.mark c.requires.now c.in_ok-base.ensures.keeps c.undo.ensures
    (rw (c.in_default-2.is, c.clauses-in-Some.ensures) at c.in_ok-base.ensures.none)

pub returns-clause-none : goal.returns-clause-none
returns-clause-none c = found-none _ _ _ _ _ _ _ _ c.clauses.invariant c.heap.ensures.env (c.in_default.ensures)
