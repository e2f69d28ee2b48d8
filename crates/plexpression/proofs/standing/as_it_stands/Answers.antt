use Rattle.std.proofs.Common.{◌∙◌, sym, ap, w64, FitsSigned, rules, Ok}
use Rattle.std.proofs.lemmas.Int.{to_z-of_z}
use Rattle.plarith.specs.Evaluation.{eval}
use Rattle.plexpression.proofs.standing.as_it_stands.Goals as goal

pub returns-in-Some : goal.returns-in-Some
unfolding eval
returns-in-Some c =
    let fits : FitsSigned w64 c.in-Some.number = search rules in
    ap Ok (to_z-of_z w64 c.in-Some.number fits) ∙ sym (ap eval c.in-Some.ensures)
