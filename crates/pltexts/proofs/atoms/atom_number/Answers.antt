use Rattle.std.proofs.Common.{rules}
use Rattle.plcells.specs.Store.{value}
use Rattle.plbuiltin.specs.Solution.{unifies}
use Rattle.planswers.proofs.Forwarding.{forwarded}
use Rattle.plbuiltin.specs.Atoms.{atom_number}
use Rattle.pltexts.proofs.atoms.atom_number.Goals as goal

pub returns-in_ok-term-in-Variable-Integer-clause-is : goal.returns-in_ok-term-in-Variable-Integer-clause-is
returns-in_ok-term-in-Variable-Integer-clause-is c =
    let h = c.args.heap.now in
    let t = value h c.args.text in
    let n = value h c.args.number in
    forwarded c.is_term.result h (λ s i. unifies t c.in_ok-term-in-Variable-Integer.term s) (λ s i. atom_number t n s) (c.is_term.ensures.is h) (λ s i. search rules)

pub returns-in_ok-term-in-Variable-Integer-clause-there : goal.returns-in_ok-term-in-Variable-Integer-clause-there
returns-in_ok-term-in-Variable-Integer-clause-there c = c.is_term.ensures.there c.args.heap.now c.requires.text

pub returns-in-Atom-Variable-clause-there : goal.returns-in-Atom-Variable-clause-there
returns-in-Atom-Variable-clause-there c = c.number_or_none.ensures.there c.args.heap.now c.requires.number
