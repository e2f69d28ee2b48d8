use Rattle.std.proofs.lemmas.Result.{IfOk-weaker}
use Rattle.pllibrary.specs.Library.{HasLibrary}
use Rattle.pllibrary.proofs.library.with_library.Goals as goal

pub returns : goal.returns
returns c = IfOk-weaker c.with_library.result _ (HasLibrary c.args.program) (λ p is. (c.in_ok-library.library, c.in_ok-library.ensures, is)) c.with_library.ensures
