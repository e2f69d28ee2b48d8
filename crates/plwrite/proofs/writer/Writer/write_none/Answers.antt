use Rattle.std.proofs.Common.{◌∙◌, ◌∷◌, ap, sym}
use Rattle.std.proofs.lemmas.Result.{on_ok_weaker}
use Rattle.plwrite.specs.declared.text.Sign.TheVariants as signs
use Rattle.plwrite.specs.Words.{finished, sign}
use Rattle.plwrite.specs.Writing.{called}
use Rattle.plwrite.specs.Tasks.{stack, told}
use Rattle.plwrite.proofs.Forms.{none_told}
use Rattle.plwrite.proofs.writer.Writer.write_none.Goals as goal

pub returns-clause-text : goal.returns-clause-text
returns-clause-text c =
    let n = c.args.notation.now in
    let w = c.args.self.now in
    on_ok_weaker c.put_sign.result
    (λ put ts room. put _
    ∙ c.in_ok-put_call.ensures _
    ∙ ap (λ s. finished w.text (called n.style c.args.position s (sign signs.Close ∷ told n.ops.now n.style (stack w) ts))) c.as_str.ensures
    ∙ ap (finished w.text) (sym (none_told n.ops.now n.style c.args.position (stack w) c.args.name.now ts)))
    c.put_sign.ensures
