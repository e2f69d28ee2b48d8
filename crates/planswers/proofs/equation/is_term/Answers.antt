use Rattle.std.proofs.Common.{[], ◌∷◌, arith}
use Rattle.plcells.specs.Equations.{filled}
use Rattle.plcells.specs.Store.{value}
use Rattle.plbuiltin.specs.Solution.{unifies}
use Rattle.planswers.proofs.Forwarding.{forwarded}
use Rattle.planswers.specs.Building.{solved_by}
use Rattle.planswers.proofs.Filling.{solved-as, bind-closed, below-more}
use Rattle.planswers.proofs.equation.is_term.Goals as goal

pub solves-requires : goal.solves-requires
solves-requires c = record { below = below-more 0 1 (omega arith) c.args.term c.requires }

pub returns-clause-is : goal.returns-clause-is
returns-clause-is c = λ h.
    let v = c.args.v in
    let t = c.args.term in
    forwarded c.solves.result h (λ s n. solved_by h s n v [] t 0) (λ s n. unifies (value h v) t s) (c.solves.ensures.is h) (λ s n. solved-as h s n v [] t t 0 (bind-closed (filled h (v ∷ []) n) t c.requires))

pub returns-clause-there : goal.returns-clause-there
returns-clause-there c = λ h fits. c.solves.ensures.there h fits tt
