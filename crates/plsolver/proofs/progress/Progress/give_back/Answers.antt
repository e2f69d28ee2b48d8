use Rattle.std.proofs.Common.{refl}
use Rattle.plmachine.proofs.Moves.{stays_put}
use Rattle.plsolver.proofs.Runs.{given-back}
use Rattle.plsolver.proofs.progress.Progress.give_back.Goals as goal

pub returns-in-Both : goal.returns-in-Both
returns-in-Both c = record { stays = λ P. record { used = refl; limit = refl; places = refl; there = stays_put P c.args.self.now.machine }; mode = refl }

pub returns-clause-stays : goal.returns-clause-stays
returns-clause-stays c = λ P. given-back P c.args.self.now c.give_back.new.self c.give_back.ensures.back
