use Rattle.std.proofs.Common.{◌∙◌, ap}
use Rattle.plterm.specs.Reading.{first}
use Rattle.plgenerator.proofs.Tuples.{four-read, four-term}
use Rattle.plgenerator.proofs.equation.four.Goals as goal

pub from_prefix-requires : goal.from_prefix-requires
from_prefix-requires c =
    let a = c.args in
    let r = c.requires in
    rw (c.in_ok-nodes.ensures.items, c.in_ok-name.ensures) (four-term a.first a.second a.third a.fourth r.first r.second r.third r.fourth)

pub returns : goal.returns
returns c =
    let a = c.args in
    let r = c.requires in
    c.from_prefix.ensures ∙ rw (c.in_ok-nodes.ensures.items, c.in_ok-name.ensures) (ap first (four-read a.first a.second a.third a.fourth r.first r.second r.third r.fourth))
