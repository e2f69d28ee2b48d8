use Rattle.plpredicates.proofs.built_in.answers.Goals as goal

pub returns-in-Terms-clause-there : goal.returns-in-Terms-clause-there
returns-in-Terms-clause-there c = c.terms_answer.ensures.there c.args.heap.now c.requires.args
