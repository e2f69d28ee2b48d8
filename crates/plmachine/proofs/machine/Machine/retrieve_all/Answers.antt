use Rattle.std.proofs.Common.{refl, ◌∙◌, ap, eq-eqb, eqb-true, length, sym, true≢false}
use Rattle.plclause.specs.Indicators.{indicator}
use Rattle.plcells.specs.Store.{value}
use Rattle.plprogram.specs.Program.{clauses_for}
use Rattle.plsearch.specs.Moves.{choose}
use Rattle.plsearch.specs.Lookups.{clause_term}
use Rattle.plstack.specs.declared.frame.Use.TheVariants as uses
use Rattle.plstack.specs.State.{goals_of}
use Rattle.plmachine.specs.Machine.{below_in, depth_of, local_of}
use Rattle.plmachine.proofs.Clausal.{retrieving-none, retrieving-some, text-left, walks-moved}
use Rattle.plmachine.proofs.Moves.{moved-by-as, on_ok_map}
use Rattle.plstack.specs.declared.frame.Spot.TheVariants as spots
use Rattle.plmachine.proofs.machine.Machine.retrieve_all.Goals as goal

pub returns-clause-ok : goal.returns-clause-ok
returns-clause-ok c =
    let P = c.args.program.now in
    let s = c.args.self.now in
    let h = value s.stack.env.heap c.args.head in
    let b = value s.stack.env.heap c.args.body in
    let es = goals_of s.stack c.args.rest in
    let p = rw (c.heap.ensures.is, c.env.ensures) at c.in_ok-p.ensures in
    let cs = c.clauses_of.ensures ∙ ap (clauses_for P) p in
    on_ok_map c.tell.result
    (λ w. walks-moved P s c.tell.new.self _ _ (spots.Text 0) es _ w (λ x. refl) (λ v.
    ap (λ ps. choose ps (local_of s)) (text-left (depth_of s) s.stack.env (clause_term h b) es uses.Tell (clauses_for P (indicator h)))
    ∙ retrieving-some (below_in v s) (clauses_for P (indicator h)) (depth_of s) h b es s.stack.env.count (local_of s)
    (λ e. true≢false (sym (eq-eqb _ 0 (ap length cs ∙ e)) ∙ sym c.is_empty.ensures ∙ c.if-is_empty.false))))
    (c.tell.ensures.ok c.args.program.now)

pub returns-then-is_empty-clause-ok : goal.returns-then-is_empty-clause-ok
returns-then-is_empty-clause-ok c =
    let P = c.args.program.now in
    let s = c.args.self.now in
    let h = value s.stack.env.heap c.args.head in
    let b = value s.stack.env.heap c.args.body in
    let p = rw (c.heap.ensures.is, c.env.ensures) at c.in_ok-p.ensures in
    let cs = c.clauses_of.ensures ∙ ap (clauses_for P) p in
    on_ok_map c.seek.result
    (moved-by-as P s c.seek.new.self _ _ (λ v. retrieving-none (below_in v s) (clauses_for P (indicator h)) (depth_of s) h b (goals_of s.stack c.args.rest) s.stack.env.count (local_of s)
    (ap length (sym cs) ∙ eqb-true _ 0 (sym c.is_empty.ensures ∙ c.if-is_empty.true))))
    (c.seek.ensures.ok c.args.program.now)

pub returns-then-is_empty-clause-err : goal.returns-then-is_empty-clause-err
returns-then-is_empty-clause-err c = c.seek.ensures.err c.args.program.now

pub returns-clause-err : goal.returns-clause-err
returns-clause-err c = c.tell.ensures.err c.args.program.now
