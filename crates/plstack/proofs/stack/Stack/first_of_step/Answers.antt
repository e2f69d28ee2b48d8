use Rattle.plstack.proofs.stack.Stack.first_of_step.Goals as goal

pub first_of_run-requires-clause-list : goal.first_of_run-requires-clause-list
first_of_run-requires-clause-list c = rw (← c.self.view_is) c.self.invariant.0.goals

pub first_of_run-requires-clause-fits : goal.first_of_run-requires-clause-fits
first_of_run-requires-clause-fits c = rw (← c.self.view_is) c.self.invariant.0.fits

pub first_of_run-requires-clause-step : goal.first_of_run-requires-clause-step
first_of_run-requires-clause-step c = rw (← c.self.view_is) (rw (← c.self.view_is) at c.requires)

pub returns : goal.returns
returns c = rw (← c.self.view_is) (rw (← c.self.view_is) at c.first_of_run.ensures)
