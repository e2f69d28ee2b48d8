use Rattle.std.proofs.Common.{inl, inr}
use Rattle.plsolver.proofs.Seeking.{walk-reach}
use Rattle.plsolver.proofs.progress.Progress.walk_query.Goals as goal

pub like-requires-clause-asks : goal.like-requires-clause-asks
like-requires-clause-asks c = walk-reach c.args.self.now.machine c.in-Some.at.point c.in-Some.at.walk c.in-Some.ensures.some c.in-Seek.field-0 c.in-Seek.reach (inl c.in-Seek.is) c.requires

pub like-requires-in-At-clause-asks : goal.like-requires-in-At-clause-asks
like-requires-in-At-clause-asks c = walk-reach c.args.self.now.machine c.in-Some.at.point c.in-Some.at.walk c.in-Some.ensures.some c.in-At.field-0 c.in-At.reach (inr (c.in-At.field-1, c.in-At.is)) c.requires
