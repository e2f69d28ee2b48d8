use Rattle.std.proofs.Common.{ap, ◌∙◌}
use Rattle.plmachine.specs.declared.machine.Mode.TheVariants as modes
use Rattle.plmachine.proofs.Moves.{on_err_map, on_ok_map}
use Rattle.plsolver.proofs.Asked.{walks-on}
use Rattle.plsolver.proofs.progress.Progress.fetched.Goals as goal

pub returns-in_default : goal.returns-in_default
returns-in_default c =
    let s = c.args.self.now.machine in
    let e = c.fetched_walk.ensures in
    record {
      ok = λ P b. on_ok_map c.fetched_walk.result (λ f v ordered g q fetches told. f P v ordered g q (walks-on s g q c.in_default.not-Find fetches) told) e.ok;
      of = e.of;
      latest = e.latest;
      frame = e.frame;
      err = λ P b. on_err_map c.fetched_walk.result (λ f. f P) e.err;
      asked = on_ok_map c.fetched_walk.result (λ f v ordered g q fetches told. f v ordered g q (walks-on s g q c.in_default.not-Find fetches) told) e.asked;
    }

pub fetched_sweep-requires-clause-sweeps : goal.fetched_sweep-requires-clause-sweeps
fetched_sweep-requires-clause-sweeps c = (c.in-Sweep.field-0, c.in-Sweep.field-1, c.in-Find.is ∙ ap modes.Find c.in-Sweep.is)
