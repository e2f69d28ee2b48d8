use Rattle.plcode.proofs.program.ProgramCode.step.Goals as goal

pub returns-clause-is : goal.returns-clause-is
returns-clause-is c = rw (← c.self.view_is) (c.step.ensures.is c.self.inside.names)
