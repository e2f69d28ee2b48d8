use Rattle.plstack.proofs.cut.empty_frames.Goals as goal

pub returns : goal.returns
returns c = rw (← c.truncate.ensures.items) c.count_up.ensures.counts
