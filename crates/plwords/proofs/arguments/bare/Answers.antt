use Rattle.std.proofs.Common.{rules}
use Rattle.plwords.specs.Arguments.{bare_app}
use Rattle.plwords.proofs.arguments.bare.Goals as goal

pub returns : goal.returns
unfolding bare_app
returns c = search rules
