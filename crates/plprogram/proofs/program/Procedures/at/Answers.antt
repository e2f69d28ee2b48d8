use Rattle.std.proofs.Common.{sym, subst}
use Rattle.plprogram.specs.Program.{AreOf}
use Rattle.plprogram.proofs.Procedures.{own-there}
use Rattle.plprogram.proofs.program.Procedures.at.Goals as goal

pub returns-clause-own : goal.returns-clause-own
returns-clause-own c =
    subst (AreOf c.in-Some.indicator.now) (sym c.as_slice.ensures.value)
    (own-there c.self.inside.entries.entries c.args.index (c.in-Some.indicator.now, c.in-Some.clauses.now) (sym c.in-Some.ensures.entry) c.self.invariant)
