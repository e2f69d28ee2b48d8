use Rattle.std.proofs.Common.{rules, refl, sym, subst, ◌∙◌}
use Rattle.plcells.specs.Store.{value}
use Rattle.plclause.specs.Indicators.{indicator}
use Rattle.plstore.specs.declared.query.Query.{Query}
use Rattle.pltx.specs.declared.own.OwnCursor.TheVariants.{Start}
use Rattle.plmachine.specs.declared.machine.Find.TheVariants as finds
use Rattle.plmachine.proofs.Moves.{on_ok_map}
use Rattle.plsolver.specs.Asking.{FindAsked}
use Rattle.plsolver.specs.Solver.{KeepsRest}
use Rattle.plsolver.proofs.Asked.{all-begins, all-ends}
use Rattle.plsolver.proofs.Finding.{unnamed-exists}
use Rattle.plsolver.proofs.Sweeping.{all-declared, all-swept}
use Rattle.plsolver.proofs.progress.Progress.found_all.Goals as goal

pub returns-then-exists-clause-ok : goal.returns-then-exists-clause-ok
returns-then-exists-clause-ok c = λ P b v ordered none is.
    let s = c.args.self.now in
    let b = c.begin_sweep.ensures in
    subst (KeepsRest P v s) (sym b.1) (record {
      used = refl;
      limit = refl;
      rest = all-swept P v ordered s.machine c.args.head c.args.view c.requires.finds c.args.exists (is ∙ sym (unnamed-exists v s.machine.layer.own.updates c.args.view (indicator (value s.machine.stack.env.heap c.args.head)) none)) b.0 b.2 b.3 b.4 c.if-exists.true;
    })

pub returns-then-exists-clause-asked : goal.returns-then-exists-clause-asked
returns-then-exists-clause-asked c = λ v.
    let s = c.args.self.now in
    let b = c.begin_sweep.ensures in
    subst (λ x. FindAsked v (finds.All c.args.head c.args.view) s.machine x.machine (Query.Exists (indicator (value s.machine.stack.env.heap c.args.head)))) (sym b.1) (all-begins v c.args.head c.args.view s.machine b.0 Start b.2 b.3)

pub returns-clause-ok : goal.returns-clause-ok
returns-clause-ok c P b =
    let s = c.args.self.now.machine in
    let of = rw (c.heap.ensures.is, c.env.ensures) at c.in_ok-p.ensures in
    on_ok_map c.declare_one.result
    (λ moved v ordered none is. record {
      used = refl;
      limit = refl;
      rest = all-declared P v ordered s c.args.head c.args.view c.requires.finds c.args.exists (is ∙ sym (unnamed-exists v s.layer.own.updates c.args.view (indicator (value s.stack.env.heap c.args.head)) none)) c.declare_one.new.self c.in_ok-p.p of c.if-exists.false moved;
    })
    (c.declare_one.ensures.ok P)

pub returns-clause-asked : goal.returns-clause-asked
returns-clause-asked c = on_ok_map c.declare_one.result (λ m v. all-ends v c.args.head c.args.view c.args.self.now.machine c.declare_one.new.self m.plain m.moved.walks) (c.declare_one.ensures.ok c.requires.of.0)

pub returns-clause-of : goal.returns-clause-of
returns-clause-of c P b =
    let ok = c.declare_one.ensures.ok P in
    let err = c.declare_one.ensures.err P in
    search rules

pub returns-clause-latest : goal.returns-clause-latest
returns-clause-latest c =
    let ok = c.declare_one.ensures.ok c.requires.of.0 in
    let err = c.declare_one.ensures.err c.requires.of.0 in
    search rules

pub returns-clause-err : goal.returns-clause-err
returns-clause-err c P b =
    let ok = c.declare_one.ensures.ok P in
    let err = c.declare_one.ensures.err P in
    search rules
