use Rattle.std.proofs.Common.{take, reverse, arith, subst, List, length-take}
use Rattle.std.proofs.lemmas.List.{length-reverse}
use Rattle.plterm.specs.Tree.{Tree}
use Rattle.plcode.specs.Laying.{Waits}
use Rattle.plcode.proofs.Placing.{spelled_forest, spelled_reading, waits_length}
use Rattle.plcode.proofs.lay.stacked.Goals as goal

pub put_all-requires-clause-forest : goal.put_all-requires-clause-forest
put_all-requires-clause-forest c =
    let e = c.in_ok-copy_nodes.ensures in
    spelled_forest _ _ (take c.args.count c.args.terms.now) c.new-spelled.ensures.items e.nodes e.fits

pub returns-clause-waits : goal.returns-clause-waits
returns-clause-waits c =
    let P : List Tree → Type 0 = Waits c.put_all.new.names c.put_all.new.nodes.items (reverse c.put_all.new.waiting.items) in
    subst P (spelled_reading _ _ (take c.args.count c.args.terms.now) c.new-spelled.ensures.items c.in_ok-copy_nodes.ensures.nodes) c.in_ok-put_all.ensures.waits

pub returns-clause-count : goal.returns-clause-count
returns-clause-count c =
    let P : List Tree → Type 0 = Waits c.put_all.new.names c.put_all.new.nodes.items (reverse c.put_all.new.waiting.items) in
    let w = subst P (spelled_reading _ _ (take c.args.count c.args.terms.now) c.new-spelled.ensures.items c.in_ok-copy_nodes.ensures.nodes) c.in_ok-put_all.ensures.waits in
    omega (arith, waits_length _ _ _ _ w, length-reverse c.put_all.new.waiting.items, length-take c.args.count c.args.terms.now, c.requires.room)
