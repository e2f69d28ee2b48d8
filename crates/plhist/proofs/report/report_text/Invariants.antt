use Rattle.std.proofs.Common.{◌≡◌, take}
use Rattle.std.specs.List.{flat_map}
use Rattle.plhist.specs.Report.{run_text}
use Rattle.plhist.proofs.report.report_text.Given as goal

abbrev pub invariant-loop-run : goal.invariant-loop-run
invariant-loop-run l = l.text.items ≡ flat_map (run_text l.ops l.fn.history.journal) (take l.run-index l.runs)
