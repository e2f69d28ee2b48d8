use Rattle.std.proofs.Common.{sym, Some}
use Rattle.plevent.proofs.standing.end_at.Goals as goal

pub returns-in-Some : goal.returns-in-Some
returns-in-Some c = rw c.end_row.ensures (sym (c.in-Some.ensures.changed (λ x. record x { ended = Some c.args.«end» }) c.index-rows-at.result))
