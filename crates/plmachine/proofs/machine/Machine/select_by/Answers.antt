use Rattle.plmachine.proofs.machine.Machine.select_by.Goals as goal

pub select-requires-clause-selected : goal.select-requires-clause-selected
select-requires-clause-selected c = (c.requires.called.0, c.form-form.ensures c.args.program.now c.args.source c.requires.called.0 c.requires.begun c.requires.visits c.requires.called.1)
