use Rattle.std.proofs.Common.{◌∙◌, ◌∷◌, ap, sym, w64}
use Rattle.std.proofs.lemmas.Result.{on_ok_weaker}
use Rattle.std.proofs.lemmas.Int.{to_z-of_z}
use Rattle.plwrite.specs.Words.{finished, integer}
use Rattle.plwrite.specs.Tasks.{stack, told}
use Rattle.plwrite.proofs.Forms.{int_told}
use Rattle.plwrite.proofs.writer.Writer.write_int.Goals as goal

pub returns-clause-text : goal.returns-clause-text
returns-clause-text c =
    let n = c.args.notation.now in
    let w = c.args.self.now in
    on_ok_weaker c.put_integer.result
    (λ put ts room. put _
    ∙ ap (λ i. finished c.put_bar.new.self (integer i ∷ told n.ops.now n.style (stack w) ts)) (to_z-of_z w64 c.args.value c.ranges.value)
    ∙ c.in_ok-put_bar.ensures _
    ∙ ap (finished w.text) (sym (int_told n.ops.now n.style c.args.position (stack w) c.args.value ts)))
    c.put_integer.ensures
