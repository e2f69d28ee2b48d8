use Rattle.std.proofs.Common.{◌∙◌, ap, sym}
use Rattle.std.proofs.lemmas.Result.{on_ok_weaker}
use Rattle.plwrite.specs.Words.{finished}
use Rattle.plwrite.specs.Tasks.{stack}
use Rattle.plwrite.proofs.Forms.{var_told, atom_told}
use Rattle.plwrite.proofs.writer.Writer.write_node.Goals as goal

pub returns-in_ok-put_bar-in-Var-clause-text : goal.returns-in_ok-put_bar-in-Var-clause-text
returns-in_ok-put_bar-in-Var-clause-text c =
    on_ok_weaker c.put_variable.result (λ put ts room. rw c.in-Var.is (put _ ∙ c.in_ok-put_bar-in-Var.ensures _ ∙ ap (finished c.args.self.now.text) (sym (var_told _ _ c.args.position (stack c.args.self.now) _ ts)))) c.put_variable.ensures

pub returns-in-Atom-clause-text : goal.returns-in-Atom-clause-text
returns-in-Atom-clause-text c =
    on_ok_weaker c.put_atom.result (λ put ts room. rw (c.in-Atom.is, ← c.as_str.ensures) (put _ ∙ ap (finished c.args.self.now.text) (sym (atom_told _ _ c.args.position (stack c.args.self.now) _ ts)))) c.put_atom.ensures
