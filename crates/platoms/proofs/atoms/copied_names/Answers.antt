use Rattle.std.proofs.Common.{◌∙◌, ap, get_or, length, bytes_eq, arith}
use Rattle.std.proofs.lemmas.Slice.Eq.{bytes_eq-Decides}
use Rattle.platoms.proofs.Copying.{put_more, put_all}
use Rattle.platoms.proofs.atoms.copied_names.Goals as goal

pub loop-name-preserved : goal.loop-name-preserved
loop-name-preserved c =
    let i = c.loop-name.name-index in
    let xs = c.args.names.now.keys in
    let d = c.name-item.result in
    let items = c.as_slice-name-items.ensures.keys in
    let name = c.in_ok-copied.ensures ∙ c.name-item.is ∙ ap (λ zs. get_or zs i d) items in
    c.in_ok-insert.ensures.keys ∙ put_more bytes_eq bytes_eq-Decides xs c.loop-name.copy.keys i d c.in_ok-copied.field-0 (omega (arith, ap length items)) name c.loop-name.invariant

pub returns : goal.returns
returns c =
    let items = c.as_slice-name-items.ensures in
    put_all bytes_eq bytes_eq-Decides c.args.names.now.keys c.loop-name.copy.keys c.loop-name.name-index (omega (arith, ap length items.keys)) items.unique c.loop-name.invariant
