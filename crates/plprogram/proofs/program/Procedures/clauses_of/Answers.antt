use Rattle.std.proofs.Common.{◌∙◌, sym}
use Rattle.plprogram.proofs.Procedures.{clauses_found, clauses_none}
use Rattle.plprogram.proofs.program.Procedures.clauses_of.Goals as goal

pub returns-in-Some : goal.returns-in-Some
returns-in-Some c = c.as_slice.ensures.value ∙ rw (← c.self.view_is) (sym (clauses_found c.self.inside.entries.entries c.args.indicator.now c.in-Some.clauses.now (sym c.in-Some.ensures.value)))

pub returns-in-None : goal.returns-in-None
returns-in-None c = rw (← c.self.view_is) (sym (clauses_none c.self.inside.entries.entries c.args.indicator.now (sym c.in-None.ensures.value)))
