use Rattle.std.proofs.Common.{ap, sym, subst, refl, ◌≡◌, ◌∙◌}
use Rattle.plclause.specs.Indicators.{indicator}
use Rattle.plprogram.specs.Program.{clauses_for, Program}
use Rattle.plsearch.specs.Rows.{row}
use Rattle.plgoals.specs.declared.form.Form.TheVariants as forms
use Rattle.plgoals.specs.declared.form.Procedure.TheVariants as procedures
use Rattle.plterm.specs.Tree.{Tree}
use Rattle.plstack.specs.Basis.{Basis}
use Rattle.plstack.specs.State.{goals_of, kinds_in}
use Rattle.std.specs.Prelude.{IfSome}
use Rattle.plmachine.specs.Calculating.{IsCalculation}
use Rattle.plmachine.specs.Machine.{below_in, depth_of, local_of, IsBegun}
use Rattle.plmachine.specs.Selected.{bound_at, IsCalledBy, IsSelected, StandsFor}
use Rattle.plmachine.specs.declared.machine.Mode.TheVariants as modes
use Rattle.plmachine.specs.declared.machine.Mode.{Mode}
use Rattle.plmachine.specs.declared.select.Source.{Source}
use Rattle.plmachine.specs.declared.select.Source.TheVariants.{Node}
use Rattle.plmachine.proofs.Calculating.{found-needs}
use Rattle.plmachine.proofs.Moves.{grown-with, moved-views, stays-trans, on_err, on_ok_map, on_err_map}
use Rattle.plmachine.proofs.Selecting.{row-with, selected, user-some}
use Rattle.plmachine.proofs.Terms.{numbered}
use Rattle.plmachine.proofs.Levels.{fits_behind, fits-grown}
use Rattle.plmachine.proofs.machine.Machine.solve.Goals as goal

pub returns-in_err-number-clause-err : goal.returns-in_err-number-clause-err
returns-in_err-number-clause-err c = on_err _ (grown-with c.args.program.now c.args.self.now c.number.new.self c.number.ensures.grown c.number.ensures.frame)

pub calculate-requires-clause-call : goal.calculate-requires-clause-call
calculate-requires-clause-call c = (c.requires.source.0, subst (λ o. IfSome o (λ k. IsCalculation c.args.self.now.stack k c.requires.source.0)) c.in-Some.is (c.calculation.ensures.some c.args.program.now c.requires.source.0 c.requires.begun c.requires.source.1))

pub returns-in-Some-clause-ok : goal.returns-in-Some-clause-ok
unfolding row
returns-in-Some-clause-ok c = λ u stands.
    let s = c.args.self.now in
    let P = c.args.program.now in
    let k = subst (λ o. IfSome o (λ k. IsCalculation s.stack k u)) c.in-Some.is (c.calculation.ensures.some P u c.requires.begun stands) in
    on_ok_map c.calculate.result (moved-views P s c.calculate.new.self _ _ (λ v. ap (λ f. row P (below_in v s) f c.args.level u (depth_of s) (goals_of s.stack c.args.rest) s.stack.env.count (local_of s)) (sym k.is))) ((c.calculate.ensures.ok c.args.program.now c.requires.begun) u k)

pub calculate-requires-clause-fits : goal.calculate-requires-clause-fits
calculate-requires-clause-fits c =
    let s = c.args.self.now.stack in fits_behind (kinds_in s) c.args.level (goals_of s c.args.rest) c.requires.level

pub resolve-requires-clause-fits : goal.resolve-requires-clause-fits
resolve-requires-clause-fits c =
    let s = c.args.self.now.stack in
    fits-grown s c.number.new.self.stack c.number.ensures.grown c.args.rest c.requires.rest (fits_behind (kinds_in s) c.args.level (goals_of s c.args.rest) c.requires.level)

pub returns-in-Some-static_by-clause-ok : goal.returns-in-Some-static_by-clause-ok
unfolding row
returns-in-Some-static_by-clause-ok c u stands =
    let s = c.args.self.now in
    let t = c.number.new.self in
    let P = c.args.program.now in
    let k = c.args.level in
    let number = c.in_ok-number.ensures in
    let grown = c.number.ensures.grown in
    let goals = (grown.extends.lists c.args.rest c.requires.rest).1 in
    let begun : IsBegun P t = subst (λ (b : Basis). IsBegun P (record t { stack = record t.stack { basis = b } })) (sym grown.extends.basis) c.requires.begun in
    let visits : ◌≡◌ {A = Mode} t.mode modes.Visit = ap (λ x. x.mode) c.number.ensures.frame ∙ c.requires.visits in
    let by = numbered s t c.args.source c.in_ok-number.number number.values number.few number.stands number.callable number.is number.none u stands in
    let sel = (subst (λ o. IfSome o (λ i. (P : Program) (source : Source) (v : Tree) → IsBegun P t → t.mode ≡ modes.Visit → IsCalledBy t c.in_ok-number.number source v → IsSelected P t (forms.Call (procedures.Static i)) source v)) c.in-Some-static_by.is c.static_by.ensures) P c.args.source u begun visits by in
    let i = sel.call in
    on_ok_map c.resolve.result
    (λ moved. row-with P s t c.resolve.new.self grown c.number.ensures.frame u k _ _ goals
    (selected P t c.resolve.new.self _ c.args.source u k (depth_of t) (goals_of t.stack c.args.rest) t.stack.env.count (local_of t) _ sel refl
    (moved-views P t c.resolve.new.self _ _ (λ v. user-some (below_in v t) (clauses_for P (indicator u)) (depth_of t) u (goals_of t.stack c.args.rest) t.stack.env.count (local_of t) i.static.some) moved)))
    ((c.resolve.ensures.ok P begun) (indicator u) u i)

pub returns-in-Some-static_by-clause-err : goal.returns-in-Some-static_by-clause-err
returns-in-Some-static_by-clause-err c =
    let s = c.args.self.now in
    let t = c.number.new.self in
    let begun : IsBegun c.args.program.now t = subst (λ (b : Basis). IsBegun c.args.program.now (record t { stack = record t.stack { basis = b } })) (sym c.number.ensures.grown.extends.basis) c.requires.begun in
    on_err_map c.resolve.result (stays-trans c.args.program.now s c.number.new.self c.resolve.new.self (grown-with c.args.program.now s c.number.new.self c.number.ensures.grown c.number.ensures.frame)) (c.resolve.ensures.err c.args.program.now begun)

pub returns-clause-ok : goal.returns-clause-ok
returns-clause-ok c u stands =
    let s = c.args.self.now in
    let t = c.number.new.self in
    let P = c.args.program.now in
    let number = c.in_ok-number.ensures in
    let grown = c.number.ensures.grown in
    let goals = (grown.extends.lists c.args.rest c.requires.rest).1 in
    let by = numbered s t c.args.source c.in_ok-number.number number.values number.few number.stands number.callable number.is number.none u stands in
    on_ok_map c.select_by.result (row-with P s t c.select_by.new.self grown c.number.ensures.frame u c.args.level _ _ goals) (c.select_by.ensures.ok u by)

pub returns-clause-err : goal.returns-clause-err
returns-clause-err c =
    let s = c.args.self.now in
    on_err_map c.select_by.result (stays-trans c.args.program.now s c.number.new.self c.select_by.new.self (grown-with c.args.program.now s c.number.new.self c.number.ensures.grown c.number.ensures.frame)) c.select_by.ensures.err

pub returns-in-Some-clause-heap : goal.returns-in-Some-clause-heap
returns-in-Some-clause-heap c = λ r node t a at there needs.
    let s = c.args.self.now in
    let u = bound_at s.stack r t in
    let stands : StandsFor s.stack c.args.source u = subst (λ src. StandsFor s.stack src u) (sym at) (t, there, refl) in
    let k = subst (λ o. IfSome o (λ k. IsCalculation s.stack k u)) c.in-Some.is (c.calculation.ensures.some c.args.program.now u c.requires.begun stands) in
    let from : c.args.source ≡ Node c.in-Some.call.run c.in-Some.call.node = subst (λ o. IfSome o (λ k. c.args.source ≡ Node k.run k.node)) c.in-Some.is c.calculation.ensures.source in
    c.calculate.ensures.heap u k (found-needs s.stack r node t c.in-Some.call k a (sym at ∙ from) there needs)

pub returns-in_err-number-clause-heap : goal.returns-in_err-number-clause-heap
returns-in_err-number-clause-heap c = λ r node t a at there needs. absurd (c.in_default.ensures.none c.args.program.now r node t c.requires.begun at there a)

pub returns-in-Some-static_by-clause-heap : goal.returns-in-Some-static_by-clause-heap
returns-in-Some-static_by-clause-heap c = λ r node t a at there needs. absurd (c.in_default.ensures.none c.args.program.now r node t c.requires.begun at there a)

pub returns-clause-heap : goal.returns-clause-heap
returns-clause-heap c = λ r node t a at there needs. absurd (c.in_default.ensures.none c.args.program.now r node t c.requires.begun at there a)
