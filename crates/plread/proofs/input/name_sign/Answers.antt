use Rattle.plread.proofs.Inputs.{with_name}
use Rattle.plread.proofs.input.name_sign.Goals as goal

pub returns-clause-words : goal.returns-clause-words
returns-clause-words c = with_name c.args.words.now c.push.new.self _ c.in_ok-place.ensures.ok
