use Rattle.std.proofs.Common.{sym, Some}
use Rattle.plevent.proofs.standing.start_at.Goals as goal

pub returns-in-Some : goal.returns-in-Some
returns-in-Some c = rw c.start_row.ensures (sym (c.in-Some.ensures.changed (λ x. record x { worker = Some c.args.worker }) c.index-rows-at.result))
