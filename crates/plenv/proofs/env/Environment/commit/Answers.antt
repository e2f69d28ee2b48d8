use Rattle.plenv.specs.Env.{Env}
use Rattle.plenv.proofs.Committing.{commits}
use Rattle.plenv.proofs.env.Environment.commit.Goals as goal

pub returns : goal.returns
returns c =
    let old = rw (← c.self.view_is) at c.requires.mark in
    rw (← c.self.view_is) (
    let s = c.self.inside in
    let e : Env = record { heap = s.heap; slots = s.slots.items; noted = s.noted.items; boundary = s.boundary; count = s.count } in
    rw c.leave_older.ensures (commits e c.commit.new.self c.args.since c.args.cells c.args.slots c.self.invariant old c.commit.ensures))
