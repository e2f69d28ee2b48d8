use Rattle.std.proofs.Common.{◌++◌, ◌∷◌, [], ap, ◌∙◌}
use Rattle.plwrite.specs.Writing.{written}
use Rattle.plwrite.specs.declared.style.Style.TheVariants.{Plain}
use Rattle.plbuiltin.specs.Solution.{writes}
use Rattle.pltexts.proofs.output.write_line.Goals as goal

pub returns-clause-is : goal.returns-clause-is
returns-clause-is c = λ n.
    let s = c.args.settings.now in
    ap (λ t. writes t s) (c.in_ok-push.ensures.items ∙ ap (λ t. t ++ 10 ∷ []) (c.in_ok-text.ensures ∙ ap (written s.operators Plain) c.in_ok-term.ensures))
