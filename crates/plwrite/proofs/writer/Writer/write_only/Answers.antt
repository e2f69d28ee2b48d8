use Rattle.std.proofs.Common.{◌≡◌, ◌∙◌, ap, rules}
use Rattle.std.proofs.lemmas.Result.{on_ok_weaker}
use Rattle.plwrite.specs.declared.form.Alone.TheVariants as alone
use Rattle.plwrite.specs.Nodes.{node_int}
use Rattle.plwrite.specs.Words.{finished}
use Rattle.plwrite.specs.Writing.{alone_form}
use Rattle.plwrite.specs.Tasks.{stack}
use Rattle.plwrite.proofs.Forms.{letter_of_only, curly_of_only, before_of_only, behind_of_only, functional_of_only}
use Rattle.plwrite.proofs.writer.Writer.write_only.Goals as goal

pub returns-in-Letter-clause-text : goal.returns-in-Letter-clause-text
returns-in-Letter-clause-text c =
    let is : alone_form c.args.notation.now.ops.now c.args.notation.now.style c.args.name.now (node_int c.args.node.now) ≡ alone.Letter c.in-Letter.number = search rules in
    on_ok_weaker c.write_letter.result
    (λ told ts room. told ts ∙ ap (finished c.args.self.now.text) (letter_of_only _ _ c.args.position (stack c.args.self.now) c.args.name c.args.node.now ts c.in-Letter.number is))
    c.write_letter.ensures.text

pub returns-in-Curly-clause-text : goal.returns-in-Curly-clause-text
returns-in-Curly-clause-text c =
    let is : alone_form c.args.notation.now.ops.now c.args.notation.now.style c.args.name.now (node_int c.args.node.now) ≡ alone.Curly = search rules in
    on_ok_weaker c.write_curly.result
    (λ told ts room. told ts room ∙ ap (finished c.args.self.now.text) (curly_of_only _ _ c.args.position (stack c.args.self.now) c.args.name c.args.node.now ts is))
    c.write_curly.ensures.text

pub returns-in-Before-clause-text : goal.returns-in-Before-clause-text
returns-in-Before-clause-text c =
    let is : alone_form c.args.notation.now.ops.now c.args.notation.now.style c.args.name.now (node_int c.args.node.now) ≡ alone.Before c.in-Before.op = search rules in
    on_ok_weaker c.write_before.result
    (λ told ts room. told ts room ∙ ap (finished c.args.self.now.text) (before_of_only _ _ c.args.position (stack c.args.self.now) c.args.name c.args.node.now ts c.in-Before.op is))
    c.write_before.ensures.text

pub returns-in-Behind-clause-text : goal.returns-in-Behind-clause-text
returns-in-Behind-clause-text c =
    let is : alone_form c.args.notation.now.ops.now c.args.notation.now.style c.args.name.now (node_int c.args.node.now) ≡ alone.Behind c.in-Behind.op = search rules in
    on_ok_weaker c.write_behind.result
    (λ told ts room. told ts room ∙ ap (finished c.args.self.now.text) (behind_of_only _ _ c.args.position (stack c.args.self.now) c.args.name c.args.node.now ts c.in-Behind.op is))
    c.write_behind.ensures.text

pub returns-in-Functional-clause-text : goal.returns-in-Functional-clause-text
returns-in-Functional-clause-text c =
    let is : alone_form c.args.notation.now.ops.now c.args.notation.now.style c.args.name.now (node_int c.args.node.now) ≡ alone.Functional = search rules in
    on_ok_weaker c.write_functional.result
    (λ told ts room. told ts room ∙ ap (finished c.args.self.now.text) (functional_of_only _ _ c.args.position (stack c.args.self.now) c.args.name c.args.node.now ts is))
    c.write_functional.ensures.text
