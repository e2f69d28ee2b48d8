use Rattle.std.proofs.Common.{◌≡◌, ℕ, List, map, IfOk, sym, subst}
use Rattle.plcells.specs.declared.cell.Cell.{Cell}
use Rattle.plcells.specs.Store.{value}
use Rattle.plprogram.specs.declared.settings.Settings.{Settings}
use Rattle.plbuiltin.specs.Pieces.{sub_atom}
use Rattle.planswers.specs.Answers.{meant}
use Rattle.pltexts.proofs.Arguments.{list-five}
use Rattle.pltexts.proofs.pieces.sub_atom.Goals as goal

pub returns-clause-is : goal.returns-clause-is
returns-clause-is c =
    let h = c.args.heap.now in
    subst (λ (xs : List Cell). IfOk c.parts_in.result (λ answer. (s : Settings) (n : ℕ) → meant h s n answer ≡ sub_atom (map (value h) xs) s))
    (sym (list-five c.args.args.now c.text-item.result c.before-item.result c.length-item.result c.after-item.result c.part-item.result c.in-len5.len_at_least c.in-len5.len_below c.text-item.is c.before-item.is c.length-item.is c.after-item.is c.part-item.is))
    c.parts_in.ensures.is
