use Rattle.std.proofs.Common.{◌≡◌, drop, take, subst, sym}
use Rattle.plterm.specs.declared.node.Node.{Node}
use Rattle.plterm.specs.Reading.{arity, read}
use Rattle.plcode.specs.Laying.{IsRow}
use Rattle.plcode.specs.Steps.{text}
use Rattle.plcode.proofs.Goals.{split_two, split_laid, spelled_less}
use Rattle.plcode.proofs.Stays.{relaid_code, Extended-refl, relaid_extended}
use Rattle.plcode.proofs.goal.piece_of.Goals as goal

pub returns-in-Some-clause-splits : goal.returns-in-Some-clause-splits
returns-in-Some-clause-splits c = split_two (text c.args.code.now) c.in-Some.piece c.args.node.now c.args.goals.now c.requires.room (sym c.in-Some.ensures)

pub returns-in_ok-at-in-None-clause-splits : goal.returns-in_ok-at-in-None-clause-splits
returns-in_ok-at-in-None-clause-splits c =
    let d = text (record { names = c.lay_term.new.names; nodes = c.lay_term.new.nodes; steps = c.args.code.now.steps }) in
    let ts = c.args.goals.now in
    let new = c.lay_term.new.terms in
    let at = c.in_ok-at-in-None.at in
    let e = c.in_ok-at-in-None.ensures in
    let P : Node → Type 0 = λ n. (new ≡ drop (arity n) ts) × IsRow d.names d.nodes at 1 (take 1 (read n ts)) in
    let is = subst P c.in_ok-node-in-None.ensures (e.rest, e.row) in
    split_laid d at c.args.node.now ts new c.requires.room c.in-None.ensures is.0 is.1

pub returns-in_ok-at-in-None-clause-less : goal.returns-in_ok-at-in-None-clause-less
returns-in_ok-at-in-None-clause-less c = rw c.in_ok-at-in-None.ensures.rest (spelled_less (arity c.in_ok-node-in-None.node) c.args.goals.now)

pub returns-in_ok-at-in-None-clause-code : goal.returns-in_ok-at-in-None-clause-code
returns-in_ok-at-in-None-clause-code c =
    let e = c.in_ok-at-in-None.ensures in
    relaid_code (text c.args.code.now) c.lay_term.new.names c.lay_term.new.nodes.items e.names e.grows c.requires.code e.laid

pub returns-in-Some-clause-extended : goal.returns-in-Some-clause-extended
returns-in-Some-clause-extended c = Extended-refl (text c.args.code.now)

pub returns-in_ok-at-in-None-clause-extended : goal.returns-in_ok-at-in-None-clause-extended
returns-in_ok-at-in-None-clause-extended c =
    let e = c.in_ok-at-in-None.ensures in relaid_extended (text c.args.code.now) c.lay_term.new.names c.lay_term.new.nodes.items e.names e.grows
