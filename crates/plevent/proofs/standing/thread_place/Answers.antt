use Rattle.plevent.specs.Reading.{is_thread}
use Rattle.plevent.proofs.Firsts.{placed}
use Rattle.plevent.proofs.standing.thread_place.Goals as goal

pub returns : goal.returns
returns c = placed (is_thread c.args.number) c.args.rows.now c.thread_index.result c.thread_index.ensures
