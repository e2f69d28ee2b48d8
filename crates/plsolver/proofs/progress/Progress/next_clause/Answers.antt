use Rattle.std.proofs.Common.{inr}
use Rattle.plmachine.specs.declared.machine.Outcome.TheVariants as outcomes
use Rattle.plmachine.proofs.Moves.{on_err_map}
use Rattle.plsolver.specs.Solver.{PausesAt}
use Rattle.plsolver.proofs.Further.{further_same, further_trans}
use Rattle.plsolver.proofs.Keeping.{keeps_trans, stays_keeps}
use Rattle.plsolver.proofs.Quiets.{at_stack, stays-back}
use Rattle.plsolver.proofs.Runs.{stays_of}
use Rattle.plsolver.proofs.Trying.{if_none_map, if_some_map, quiet-from}
use Rattle.plsolver.proofs.progress.Progress.next_clause.Goals as goal

pub returns-then-asks-clause-due : goal.returns-then-asks-clause-due
unfolding PausesAt
returns-then-asks-clause-due c =
    let P = c.args.program.now in
    let s = c.args.self.now in
    let t = at_stack s c.rewind_walk-at.new.self in
    let stay = stays-back P s c.rewind_walk-at.new.self outcomes.Fail c.requires.fails c.rewind_walk-at.ensures.basis c.rewind_walk-at.ensures.walks c.rewind_walk-at.ensures.cases in
    let asks = c.asks.ensures c.if-asks.true in
    ((asks.0, asks.1, inr asks.2), stays_keeps P s t c.requires.of stay)

pub returns-then-asks-clause-walks : goal.returns-then-asks-clause-walks
returns-then-asks-clause-walks c = further_same c.args.self.now.machine.stack c.rewind_walk-at.new.self c.rewind_walk-at.ensures.walks

pub go_through-requires-clause-at : goal.go_through-requires-clause-at
go_through-requires-clause-at c = (c.rewind_walk-at.result.point, c.rewind_walk-at.result.walk, c.rewind_walk-at.ensures.at)

pub go_through-requires-clause-of : goal.go_through-requires-clause-of
go_through-requires-clause-of c =
    let P = c.args.program.now in
    let s = c.args.self.now in
    stays_of P s (at_stack s c.rewind_walk-at.new.self) c.requires.of (stays-back P s c.rewind_walk-at.new.self outcomes.Fail c.requires.fails c.rewind_walk-at.ensures.basis c.rewind_walk-at.ensures.walks c.rewind_walk-at.ensures.cases)

pub returns : goal.returns
returns c =
    let P = c.args.program.now in
    let s = c.args.self.now in
    let t = at_stack s c.rewind_walk-at.new.self in
    let stay = stays-back P s c.rewind_walk-at.new.self outcomes.Fail c.requires.fails c.rewind_walk-at.ensures.basis c.rewind_walk-at.ensures.walks c.rewind_walk-at.ensures.cases in
    let kept = stays_keeps P s t c.requires.of stay in
    record {
      on = if_none_map c.go_through.result c.go_through.ensures.on (λ quiet v ordered. quiet-from P v s t c.go_through.new.self c.requires.of stay (quiet v ordered));
      due = if_some_map c.go_through.result c.go_through.ensures.due (λ pause settled. (settled.0, keeps_trans P s t c.go_through.new.self kept settled.1));
      err = on_err_map c.go_through.result (λ keeps. keeps_trans P s t c.go_through.new.self kept keeps) c.go_through.ensures.err;
      walks = further_trans s.machine.stack t.machine.stack c.go_through.new.self.machine.stack (further_same s.machine.stack t.machine.stack c.rewind_walk-at.ensures.walks) c.go_through.ensures.walks;
    }
