use Rattle.std.proofs.Common.{sym}
use Rattle.plsolver.proofs.Falling.{found-there, none-there}
use Rattle.plsolver.proofs.turns.has_level.Goals as goal

pub returns-in-Some : goal.returns-in-Some
returns-in-Some c =
    let there = c.in-Some.ensures.lookup.3 in
    sym (found-there c.args.levels.now c.requires.falls c.args.level c.place_of-place.result c.place_of-place.ensures.point c.in-Some.found.now there.0 there.1 c.eq.result (sym c.eq.ensures))

pub returns-in-None : goal.returns-in-None
returns-in-None c = sym (none-there c.args.levels.now c.requires.falls c.args.level c.place_of-place.result c.place_of-place.ensures.point c.in-None.ensures.lookup.3)
