use Rattle.std.proofs.Common.{subst, sym}
use Rattle.plenv.specs.Blocks.{AddsNoCell}
use Rattle.plenv.proofs.Gathering.{no-cell}
use Rattle.plenv.proofs.block.part.Goals as goal

pub returns-in_err-v-in-Int-clause-grows : goal.returns-in_err-v-in-Int-clause-grows
returns-in_err-v-in-Int-clause-grows c = subst (AddsNoCell c.args.heap.now) (sym c.in_err-v-in-Int.ensures.err) (no-cell c.args.heap.now)

pub returns-in-Var-clause-grows : goal.returns-in-Var-clause-grows
returns-in-Var-clause-grows c = no-cell c.args.heap.now

pub returns-in-Atom-clause-grows : goal.returns-in-Atom-clause-grows
returns-in-Atom-clause-grows c = no-cell c.args.heap.now

pub returns-in-Sub-clause-grows : goal.returns-in-Sub-clause-grows
returns-in-Sub-clause-grows c = no-cell c.args.heap.now
