use Rattle.plsolver.proofs.Waiting.{asks-request, says-asked}
use Rattle.plsolver.proofs.progress.Progress.asked.Goals as goal

pub request_of-requires : goal.request_of-requires
request_of-requires c = (c.requires.waits.0, asks-request c.args.self.now c.requires.waits.0 c.in-Ask.question c.requires.waits.1 c.in-Ask.is)

pub returns-clause-says : goal.returns-clause-says
returns-clause-says c P = says-asked P c.args.self.now c.in_ok-request.request c.in-Ask.question c.requires.within c.requires.waits c.in-Ask.is c.in_ok-request.ensures
