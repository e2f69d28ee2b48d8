use Rattle.plrunlaws.proofs.Standing.{follows-to-its-end, stands-somewhere, stands-once}
use Rattle.plrunlaws.proofs.stands_at_each_turn.Goals as goal

pub returns-clause-follows : goal.returns-clause-follows
returns-clause-follows c = follows-to-its-end

pub returns-clause-somewhere : goal.returns-clause-somewhere
returns-clause-somewhere c = stands-somewhere

pub returns-clause-once : goal.returns-clause-once
returns-clause-once c = stands-once
