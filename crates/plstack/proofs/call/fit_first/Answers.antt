use Rattle.std.proofs.Common.{sym, ap, subst, ◌∙◌}
use Rattle.plenv.specs.Env.{renamed}
use Rattle.plenv.specs.Changes.{Keeps}
use Rattle.plenv.proofs.Keeping.{Keeps-refl}
use Rattle.plenv.proofs.Renaming.{IsMark-kept}
use Rattle.plstack.proofs.Found.{renamed-kept}
use Rattle.plstack.proofs.call.fit_first.Goals as goal

pub returns-in_default-clause-keeps : goal.returns-in_default-clause-keeps
returns-in_default-clause-keeps c = Keeps-refl c.args.env.now

pub undo-requires : goal.undo-requires
undo-requires c = IsMark-kept c.args.mark c.args.env.now c.first_hit.new.env c.first_hit.ensures.keeps c.heap-in-Err.ensures.env.heap.names c.requires.mark

pub returns-in-Err-clause-keeps : goal.returns-in-Err-clause-keeps
returns-in-Err-clause-keeps c =
    let e = c.args.env.now in
    let names = c.first_hit.new.env.heap.names in
    let then = c.undo.ensures ∙ c.first_hit.ensures.keeps.kept c.args.mark c.requires.mark.within ∙ ap (λ x. renamed x names) c.requires.now in
    subst (Keeps e) (sym then) (renamed-kept e names c.first_hit.ensures.keeps.names)
