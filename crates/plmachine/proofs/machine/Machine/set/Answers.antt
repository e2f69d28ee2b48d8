use Rattle.std.proofs.Common.{ap}
use Rattle.plmachine.specs.Machine.{local_of}
use Rattle.plmachine.proofs.Lists.{holds-list, lengthened-grown, lengthened-same}
use Rattle.plmachine.proofs.Moves.{visits}
use Rattle.plmachine.proofs.machine.Machine.set.Goals as goal

pub returns : goal.returns
returns c P =
    let s = c.args.self.now in
    visits P s c.go_on.new.self s.stack c.args.rest _ _ (lengthened-grown s.stack s.stack (lengthened-same s.stack)) (holds-list s.stack c.args.rest c.requires.rest)
    (ap (λ x. x.stack) c.go_on.ensures.is) (ap (λ x. x.layer) c.go_on.ensures.is) (ap (λ x. x.mode) c.go_on.ensures.is) (ap (λ x. local_of x) c.go_on.ensures.is)
