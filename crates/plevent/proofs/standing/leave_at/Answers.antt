use Rattle.std.proofs.Common.{sym, true}
use Rattle.plevent.proofs.standing.leave_at.Goals as goal

pub returns-in-Some : goal.returns-in-Some
returns-in-Some c = rw c.leave_row.ensures (sym (c.in-Some.ensures.changed (λ x. record x { left = true }) c.index-rows-at.result))
