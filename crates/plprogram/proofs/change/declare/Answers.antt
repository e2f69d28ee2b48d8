use Rattle.std.proofs.Common.{◌≡◌, ◌∙◌, take, rules}
use Rattle.plprogram.proofs.Operators.{made_so_far}
use Rattle.plprogram.proofs.change.declare.Goals as goal

pub returns-in-Err-NoMemory-clause-err : goal.returns-in-Err-NoMemory-clause-err
returns-in-Err-NoMemory-clause-err c =
    let same : c.add.new.self ≡ c.loop-name.operators = search rules in
    (c.loop-name.name-index, same ∙ made_so_far c.args.priority c.args.kind c.args.operators.now (take c.loop-name.name-index c.args.names.now) c.loop-name.operators c.loop-name.invariant.made)
