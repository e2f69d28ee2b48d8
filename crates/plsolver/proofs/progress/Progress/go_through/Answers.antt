use Rattle.plmachine.proofs.Moves.{on_err, on_err_map}
use Rattle.plsolver.proofs.Further.{further_ends}
use Rattle.plsolver.proofs.Keeping.{stays_keeps}
use Rattle.plstack.proofs.Walking.{at-walking}
use Rattle.plsolver.proofs.Trying.{if_none_map, if_some_map}
use Rattle.plsolver.proofs.progress.Progress.go_through.Goals as goal

pub retry_text-requires-clause-at : goal.retry_text-requires-clause-at
retry_text-requires-clause-at c =
    let at = c.requires.at in
    at-walking c.args.self.now.machine.stack at.0 c.in-Some.at.point at.1 c.in-Some.at.walk at.2 (rw c.in-Some.is at c.walking-innermost.ensures.some)

pub walk_through-requires-clause-at : goal.walk_through-requires-clause-at
walk_through-requires-clause-at c =
    let at = c.requires.at in
    at-walking c.args.self.now.machine.stack at.0 c.in-Some.at.point at.1 c.in-Some.at.walk at.2 (rw c.in-Some.is at c.walking-innermost.ensures.some)

pub returns-in_err-retry_text-clause-err : goal.returns-in_err-retry_text-clause-err
returns-in_err-retry_text-clause-err c = on_err c.from_residual.result (stays_keeps c.args.program.now c.args.self.now c.retry_text.new.self c.requires.of c.in_err-retry_text.ensures.err)

pub returns-in_err-retry_text-clause-walks : goal.returns-in_err-retry_text-clause-walks
returns-in_err-retry_text-clause-walks c = further_ends c.args.self.now.machine.stack c.retry_text.new.self.machine.stack c.retry_text.ensures.walks

pub returns-in-Text-clause-walks : goal.returns-in-Text-clause-walks
returns-in-Text-clause-walks c = further_ends c.args.self.now.machine.stack c.retry_text.new.self.machine.stack c.retry_text.ensures.walks

pub returns : goal.returns
returns c =
    let P = c.args.program.now in
    record {
      on = if_none_map c.walk_through.result c.walk_through.ensures.on (λ quiet. quiet P);
      due = if_some_map c.walk_through.result c.walk_through.ensures.due (λ pause settled. settled P);
      err = on_err_map c.walk_through.result (λ keeps. keeps P) c.walk_through.ensures.err;
      walks = c.walk_through.ensures.walks;
    }
