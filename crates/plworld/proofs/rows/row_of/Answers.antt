use Rattle.std.proofs.Common.{sym, ◌∙◌, ap}
use Rattle.plevent.specs.Rows.{row, erase_row}
use Rattle.plevent.specs.Reading.{reading}
use Rattle.plworld.proofs.Push.{alive-now}
use Rattle.plworld.proofs.rows.row_of.Goals as goal

pub returns-in-EraseOne : goal.returns-in-EraseOne
returns-in-EraseOne c =
    let s = c.args.standing.now in
    let k = c.args.store.now in
    let x = c.in-EraseOne.name in
    let t = c.args.thread in
    λ h w. c.erase_of.ensures ∙ ap (λ b. erase_row b x t) ((rw c.new.ensures at c.alive-is_alive.ensures) ∙ alive-now h s k x w) ∙ ap (λ q. row q t (reading h)) (sym c.in-EraseOne.is)
