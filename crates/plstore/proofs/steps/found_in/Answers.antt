use Rattle.std.proofs.Common.{◌∙◌, sym, ap}
use Rattle.plrecords.specs.Links.{first_end}
use Rattle.plstore.proofs.Merging.{none-found}
use Rattle.plstore.proofs.steps.found_in.Goals as goal

pub returns-then-are_none : goal.returns-then-are_none
returns-then-are_none c =
    let f = c.args.part.front in
    let none = c.if-are_none.true in
    none-found c.args.tables.now c.args.sought.now c.args.merged.now c.args.part c.requires.chained c.requires.merged (ap (first_end f) (sym c.requires.own) ∙ c.are_none.ensures.own none) (ap (first_end f) (sym c.requires.any) ∙ c.are_none.ensures.any none) c.requires.within
