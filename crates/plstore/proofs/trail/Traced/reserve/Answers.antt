use Rattle.std.proofs.Common.{refl}
use Rattle.plstore.proofs.Tracing.{traced-same}
use Rattle.plstore.proofs.trail.Traced.reserve.Goals as goal

pub returns-in_err-reserve-clause-traced : goal.returns-in_err-reserve-clause-traced
returns-in_err-reserve-clause-traced c = traced-same c.args.self.now _ c.reserve.ensures.same refl c.requires.traced

pub returns-in_err-reserve-2-clause-traced : goal.returns-in_err-reserve-2-clause-traced
returns-in_err-reserve-2-clause-traced c = traced-same c.args.self.now _ c.reserve.ensures.same c.reserve-2.ensures.items c.requires.traced

pub returns-clause-traced : goal.returns-clause-traced
returns-clause-traced c = traced-same c.args.self.now _ c.reserve.ensures.same c.reserve-2.ensures.items c.requires.traced
