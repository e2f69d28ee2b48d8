use Rattle.std.proofs.Common.{ℕ, ◌∙◌, List, take, drop, ap, arith, subst}
use Rattle.std.proofs.lemmas.List.{length-reverse}
use Rattle.plterm.specs.Tree.{Tree}
use Rattle.plterm.specs.Reading.{read}
use Rattle.platoms.proofs.Extending.{Extends-trans}
use Rattle.plcode.specs.Laying.{IsRow}
use Rattle.plcode.proofs.Placing.{Grows-trans, read_some, read_taken, waits_length}
use Rattle.plcode.proofs.lay.lay_term.Goals as goal

pub put_read-requires-clause-room : goal.put_read-requires-clause-room
put_read-requires-clause-room c = omega (arith, c.in_ok-waiting.ensures.count, c.arity.ensures)

pub lay_row-requires : goal.lay_row-requires
lay_row-requires c =
    let us = take c.arity.result c.args.terms.now in
    omega (arith, waits_length _ _ _ _ (c.in_ok-put_read.ensures.waits us c.in_ok-waiting.ensures.waits), length-reverse c.put_read.new.waiting.items, read_some c.args.node us)

pub returns-clause-rest : goal.returns-clause-rest
returns-clause-rest c = c.in_ok-waiting.ensures.rest ∙ ap (λ (k : ℕ). drop k c.args.terms.now) c.arity.ensures

pub returns-clause-row : goal.returns-clause-row
returns-clause-row c =
    let ts = c.args.terms.now in
    let n = c.args.node in
    let us = take c.arity.result ts in
    let P : List Tree → Type 0 = IsRow c.put_read.new.names c.lay_row.new.nodes.items c.in_ok-at.at 1 in
    subst P (ap (λ (k : ℕ). take 1 (read n (take k ts))) c.arity.ensures ∙ read_taken n ts)
    (c.in_ok-at.ensures.row c.put_read.new.names (read n us) (c.in_ok-put_read.ensures.waits us c.in_ok-waiting.ensures.waits))

pub returns-clause-laid : goal.returns-clause-laid
returns-clause-laid c =
    let us = take c.arity.result c.args.terms.now in
    c.in_ok-at.ensures.laid c.put_read.new.names (read c.args.node us) (c.in_ok-put_read.ensures.waits us c.in_ok-waiting.ensures.waits)

pub returns-clause-grows : goal.returns-clause-grows
returns-clause-grows c =
    Grows-trans c.args.nodes.now.items c.put_read.new.nodes.items c.lay_row.new.nodes.items
    (Grows-trans c.args.nodes.now.items c.stacked.new.nodes.items c.put_read.new.nodes.items c.in_ok-waiting.ensures.grows c.in_ok-put_read.ensures.grows) c.in_ok-at.ensures.grows

pub returns-clause-names : goal.returns-clause-names
returns-clause-names c = Extends-trans c.args.names.now c.stacked.new.names c.put_read.new.names c.in_ok-waiting.ensures.names c.in_ok-put_read.ensures.names

pub put_read-requires-clause-fits : goal.put_read-requires-clause-fits
put_read-requires-clause-fits c = c.requires.fits

pub returns-in_err-waiting-clause-names : goal.returns-in_err-waiting-clause-names
returns-in_err-waiting-clause-names c = c.stacked.ensures.names

pub returns-in_err-put_read-clause-names : goal.returns-in_err-put_read-clause-names
returns-in_err-put_read-clause-names c = Extends-trans c.args.names.now c.stacked.new.names c.put_read.new.names c.in_ok-waiting.ensures.names c.put_read.ensures.names

pub returns-in_err-at-clause-names : goal.returns-in_err-at-clause-names
returns-in_err-at-clause-names c = Extends-trans c.args.names.now c.stacked.new.names c.put_read.new.names c.in_ok-waiting.ensures.names c.in_ok-put_read.ensures.names
