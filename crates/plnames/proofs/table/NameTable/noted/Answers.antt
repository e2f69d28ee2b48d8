use Rattle.std.proofs.Common.{◌∙◌, ap}
use Rattle.plnames.specs.Entries.{noted_in}
use Rattle.plnames.proofs.Entries.{kind_found}
use Rattle.plnames.proofs.table.NameTable.noted.Goals as goal

pub returns : goal.returns
returns c =
    c.copied.ensures ∙ c.get.ensures.value ∙ kind_found c.args.self.now.kinds.entries c.args.name c.args.arity
    ∙ ap (λ rs. noted_in rs c.args.name.now c.args.arity) c.args.self.now.whole
