use Rattle.std.proofs.Common.{◌≡◌, ◌∙◌, ap, rules}
use Rattle.std.proofs.lemmas.Result.{on_ok_weaker}
use Rattle.plwrite.specs.declared.form.Pair.TheVariants as pair
use Rattle.plwrite.specs.Words.{finished}
use Rattle.plwrite.specs.Writing.{pair_form}
use Rattle.plwrite.specs.Tasks.{stack}
use Rattle.plwrite.proofs.Forms.{list_of_pair, between_of_pair, call_of_pair}
use Rattle.plwrite.proofs.writer.Writer.write_pair.Goals as goal

pub returns-in-List-clause-text : goal.returns-in-List-clause-text
returns-in-List-clause-text c =
    let is : pair_form c.args.notation.now.ops.now c.args.notation.now.style c.args.name.now ≡ pair.List = search rules in
    on_ok_weaker c.write_list.result (λ told ts room. told ts ∙ ap (finished c.args.self.now.text) (list_of_pair _ _ c.args.position (stack c.args.self.now) c.args.name.now ts room is)) c.write_list.ensures.text

pub returns-in-Between-clause-text : goal.returns-in-Between-clause-text
returns-in-Between-clause-text c =
    let is : pair_form c.args.notation.now.ops.now c.args.notation.now.style c.args.name.now ≡ pair.Between c.in-Between.op = search rules in
    on_ok_weaker c.write_between.result (λ told ts room. told ts ∙ ap (finished c.args.self.now.text) (between_of_pair _ _ c.args.position (stack c.args.self.now) c.args.name c.in-Between.op ts room is)) c.write_between.ensures.text

pub returns-in-Functional-clause-text : goal.returns-in-Functional-clause-text
returns-in-Functional-clause-text c =
    let is : pair_form c.args.notation.now.ops.now c.args.notation.now.style c.args.name.now ≡ pair.Functional = search rules in
    on_ok_weaker c.write_call.result (λ told ts room. told ts ∙ ap (finished c.args.self.now.text) (call_of_pair _ _ c.args.position (stack c.args.self.now) c.args.name.now ts room is)) c.write_call.ensures.text
