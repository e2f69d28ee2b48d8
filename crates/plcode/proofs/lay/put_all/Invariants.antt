use Rattle.std.proofs.Common.{length, reverse}
use Rattle.plcode.proofs.Placing.{Placing}
use Rattle.plcode.proofs.lay.put_all.Given as goal

abbrev pub invariant-terms : goal.invariant-terms
invariant-terms l =
    Placing l.initial.names l.names l.initial.nodes.items l.nodes.items (reverse l.waiting.items) l.fn.terms.items l.terms.items

abbrev pub decreases-terms : goal.decreases-terms
decreases-terms l = length l.terms.items
