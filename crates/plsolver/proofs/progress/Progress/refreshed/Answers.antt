use Rattle.std.proofs.Common.{ap}
use Rattle.plevent.specs.Search.{Seen}
use Rattle.plsolver.proofs.Waiting.{takes}
use Rattle.plsolver.proofs.progress.Progress.refreshed.Goals as goal

pub returns-clause-ok : goal.returns-clause-ok
returns-clause-ok c = λ P b v.
    let s = c.args.self.now in
    let t = c.take_view.new.self in
    let frame = c.take_view.ensures.frame in
    let taken = c.in_ok-take_view.ensures.ok P b in
    takes P v s (record t { places = c.push.new.self }) (Seen c.args.g (v c.args.g)) (ap (λ x. x.used) frame) (ap (λ x. x.limit) frame) (taken.takes v)
