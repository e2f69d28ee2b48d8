use Rattle.plrefusals.proofs.Values.{end-no-integer}
use Rattle.plrefusals.proofs.value.integer_in.Goals as goal

pub returns-in_default : goal.returns-in_default
returns-in_default c = record { some = tt; none = end-no-integer c.args.heap.now c.root-root.result _ c.root-root.ensures.heap c.root-root.ensures.fits c.root-root.ensures.end c.in_default.not-Int c.in_default.not-Wide c.root-root.ensures.same }
