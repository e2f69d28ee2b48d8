use Rattle.std.proofs.Common.{ap, ◌∙◌}
use Rattle.plcells.specs.Store.{value}
use Rattle.plstack.specs.State.{goals_of}
use Rattle.plmachine.specs.declared.machine.Mode.TheVariants as modes
use Rattle.plmachine.proofs.Offers.{differs, unified}
use Rattle.plmachine.proofs.machine.Machine.differ.Goals as goal

pub returns-then-branch-clause-ok : goal.returns-then-branch-clause-ok
returns-then-branch-clause-ok c P p =
    let s = c.args.self.now in
    unified P s c.give.new.self c.unify.new.self c.args.a c.args.b p (goals_of s.stack c.args.rest) s.stack.env.count (c.in_ok-unify.ensures.yes c.if-branch.true) c.give.ensures

pub returns-clause-ok : goal.returns-clause-ok
returns-clause-ok c P p =
    let s = c.args.self.now in
    let no = c.in_ok-unify.ensures.no c.if-branch.false in
    differs P s c.go_on.new.self (value s.stack.env.heap c.args.a) (value s.stack.env.heap c.args.b) p c.args.rest c.requires.rest no.0
    (c.go_on.ensures.is ∙ ap (λ st. record s { stack = record st { goals = c.args.rest }; mode = modes.Visit }) no.1)
