use Rattle.std.proofs.Common.{◌∙◌, ◌-◌, ap, arith}
use Rattle.std.proofs.lemmas.Result.{on_ok_weaker}
use Rattle.plwrite.specs.Words.{finished}
use Rattle.plwrite.specs.Tasks.{stack}
use Rattle.plwrite.proofs.Forms.{call_of_many}
use Rattle.plwrite.proofs.writer.Writer.write_many.Goals as goal

pub returns-clause-text : goal.returns-clause-text
returns-clause-text c =
    on_ok_weaker c.write_call.result (λ told ts room. told ts ∙ ap (finished c.args.self.now.text) (call_of_many _ _ c.args.position (stack c.args.self.now) c.args.name.now c.args.count (c.args.count - 1) ts (omega arith) (omega arith) (omega arith))) c.write_call.ensures.text
