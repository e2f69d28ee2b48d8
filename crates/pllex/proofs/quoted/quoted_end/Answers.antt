use Rattle.std.proofs.Common.{arith, sym, ap, ◌∙◌}
use Rattle.pllex.specs.Quoted.{counted_turn}
use Rattle.pllex.proofs.Quotes.{quoted_ends}
use Rattle.pllex.proofs.quoted.quoted_end.Goals as goal

pub returns-in-Ends-clause-value : goal.returns-in-Ends-clause-value
returns-in-Ends-clause-value c =
    sym (quoted_ends c.args.quote c.args.start c.loop-place.mode c.in-Ends.end c.loop-place.count c.loop-place.place c.args.text.now (omega arith)
    (sym (c.in-Ends.ensures.value ∙ ap (counted_turn c.args.quote c.args.start c.loop-place.count c.loop-place.place) c.quoted_turn-turn.ensures.value)))
    ∙ c.loop-place.invariant.same
