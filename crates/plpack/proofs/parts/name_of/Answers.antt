use Rattle.plpack.proofs.Names.{no_length, name_cut_off, name_no_text, name_is_at}
use Rattle.plpack.proofs.parts.name_of.Goals as goal

pub returns-in_err-count : goal.returns-in_err-count
returns-in_err-count c = rw c.from_residual.ensures (no_length c.args.bytes.now c.in_err-count.ensures)

pub returns-in_err-front : goal.returns-in_err-front
returns-in_err-front c =
    rw c.from_residual-in_err-front.ensures
    (name_cut_off c.args.bytes.now c.in_ok-count.rest.now c.in_ok-count.count c.in_ok-count.ensures c.in_err-front.ensures.cases)

pub returns-in_default : goal.returns-in_default
returns-in_default c =
    name_no_text c.args.bytes.now c.in_ok-count.rest.now c.in_ok-count.count c.in_ok-count.ensures c.in_ok-front.front.now c.in_ok-front.ensures.cases.1 c.in_default.ensures.cases.0

pub returns : goal.returns
returns c =
    let p = c.in_ok-front.ensures.cases in
    name_is_at c.args.bytes.now c.in_ok-count.rest.now c.in_ok-count.count c.in_ok-count.ensures c.in_ok-front.front.now c.in_ok-front.after.now c.in-Ok.text.now p.0 p.1 p.2 c.in-Ok.ensures.cases.0 c.in-Ok.ensures.cases.1
