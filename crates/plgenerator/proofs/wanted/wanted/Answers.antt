use Rattle.std.proofs.Common.{rules}
use Rattle.plcells.specs.Store.{value}
use Rattle.plgenerator.proofs.Known.{wanted-are}
use Rattle.plgenerator.proofs.wanted.wanted.Goals as goal

pub returns : goal.returns
returns c =
    let h = c.args.heap.now in
    let s = c.args.sought.now in
    wanted-are (value h s.before) (value h s.length) (value h s.after) (value h s.text) _ (search rules) (search rules) (search rules) (search rules) (search rules)
