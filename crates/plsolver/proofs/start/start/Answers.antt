use Rattle.std.proofs.Common.{ap, inr, refl, subst, sym, ◌∙◌}
use Rattle.plcode.specs.Callees.{IsProgramCode}
use Rattle.plstack.specs.Basis.{Basis}
use Rattle.plmachine.proofs.Moves.{begun-by}
use Rattle.plsolver.specs.Solver.{start_given}
use Rattle.plsolver.proofs.Starts.{is-start, starts-fit}
use Rattle.plsolver.proofs.start.start.Goals as goal

pub returns : goal.returns
returns c =
    let P = c.args.program.now in
    let empty = c.in_ok-stack.ensures.empty in
    let basis = c.first_goals.ensures.basis in
    let code = subst (IsProgramCode P) (sym (c.in_ok-stack.ensures.code ∙ c.code.ensures)) c.requires.code_of in
    is-start P (start_given P c.args.given) _ c.first_goals.new.stack c.open_plain.new.self c.in_ok-list.list (begun-by P _ _ basis code) (ap (λ (b : Basis). b.latest) basis ∙ empty.latest) (ap (λ (b : Basis). b.starts) basis ∙ empty.starts) (c.first_goals.ensures.frames ∙ empty.frames)
    c.in_ok-list.ensures.starts c.in_ok-open_plain.ensures.ok c.visit.ensures.is c.new.ensures refl c.new-2.ensures.items (c.in_ok-settings.ensures ∙ c.settings.ensures) c.new-3.ensures refl

pub visit-requires-clause-list : goal.visit-requires-clause-list
visit-requires-clause-list c = (c.in_ok-open_plain.ensures.ok.lists c.in_ok-list.list c.in_ok-list.ensures.starts.list_there).0

pub visit-requires-clause-fits : goal.visit-requires-clause-fits
visit-requires-clause-fits c = inr (starts-fit c.first_goals.new.stack c.open_plain.new.self c.in_ok-list.list _ (c.first_goals.ensures.frames ∙ c.in_ok-stack.ensures.empty.frames) c.in_ok-list.ensures.starts c.in_ok-open_plain.ensures.ok)
