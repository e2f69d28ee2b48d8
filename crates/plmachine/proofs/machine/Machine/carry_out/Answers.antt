use Rattle.std.proofs.Common.{refl, sym, ap, map, ◌∙◌, rules, w64}
use Rattle.std.specs.Prelude.{FitsSigned}
use Rattle.std.proofs.lemmas.Int.{to_z-of_z}
use Rattle.plterm.specs.Tree.{int}
use Rattle.plcells.specs.Equations.{left_of, right_of}
use Rattle.plcells.specs.Store.{value}
use Rattle.plclause.specs.Indicators.{indicator}
use Rattle.plgenerator.specs.Answers.{left}
use Rattle.plbuiltin.specs.Solution.{against, writes}
use Rattle.planswers.specs.Answers.{meant}
use Rattle.plsearch.specs.Rows.{offer}
use Rattle.plstack.specs.State.{goals_of}
use Rattle.plmachine.specs.declared.machine.Outcome.TheVariants as outcomes
use Rattle.plmachine.specs.Machine.{local_of}
use Rattle.plmachine.proofs.Lists.{holds-list, lengthened-grown, lengthened-same}
use Rattle.plmachine.proofs.Moves.{went, gave, moved-as, on_ok_map}
use Rattle.plmachine.proofs.Offers.{offer-writes, offer-succeeds, offer-sets, offer-fails, offer-unifies, offer-solves, offer-many, many-map}
use Rattle.plmachine.proofs.machine.Machine.carry_out.Goals as goal

pub returns-in-Raises-clause-ok : goal.returns-in-Raises-clause-ok
returns-in-Raises-clause-ok c P b t stands =
    let s = c.args.self.now in
    let n = s.stack.env.count in
    let p = indicator t in
    let es = goals_of s.stack c.args.rest in
    let is = ap (meant s.stack.env.heap s.settings n) (sym c.in-Raises.is) in
    on_ok_map c.raise_of.result (moved-as P s c.raise_of.new.self _ _ (ap (λ x. offer x p es n (local_of s)) is)) ((c.raise_of.ensures.ok P b) t stands)

pub returns-in-Fails-clause-ok : goal.returns-in-Fails-clause-ok
returns-in-Fails-clause-ok c P b t stands =
    let s = c.args.self.now in
    let n = s.stack.env.count in
    let p = indicator t in
    let es = goals_of s.stack c.args.rest in
    let is = ap (meant s.stack.env.heap s.settings n) (sym c.in-Fails.is) in
    moved-as P s c.give.new.self _ _ (offer-fails s.settings p es n (local_of s) refl ∙ ap (λ x. offer x p es n (local_of s)) is) (gave P s c.give.new.self outcomes.Fail tt c.give.ensures)

pub returns-in-Succeeds-clause-ok : goal.returns-in-Succeeds-clause-ok
returns-in-Succeeds-clause-ok c P b t stands =
    let s = c.args.self.now in
    let n = s.stack.env.count in
    let p = indicator t in
    let es = goals_of s.stack c.args.rest in
    let is = ap (meant s.stack.env.heap s.settings n) (sym c.in-Succeeds.is) in
    moved-as P s c.go_on.new.self _ _ (offer-succeeds s.settings p es n (local_of s) refl ∙ ap (λ x. offer x p es n (local_of s)) is)
    (went P s c.go_on.new.self s.stack c.args.rest es (lengthened-grown s.stack s.stack (lengthened-same s.stack)) (holds-list s.stack c.args.rest c.requires.rest) c.go_on.ensures.is)

pub returns-in-Unifies-clause-ok : goal.returns-in-Unifies-clause-ok
returns-in-Unifies-clause-ok c P b t stands =
    let s = c.args.self.now in
    let n = s.stack.env.count in
    let p = indicator t in
    let es = goals_of s.stack c.args.rest in
    let is = ap (meant s.stack.env.heap s.settings n) (sym c.in-Unifies.is) in
    on_ok_map c.unify.result (moved-as P s c.unify.new.self _ _ (offer-unifies (value s.stack.env.heap c.in-Unifies.a) (value s.stack.env.heap c.in-Unifies.b) s.settings p es n (local_of s) refl ∙ ap (λ x. offer x p es n (local_of s)) is)) (c.unify.ensures.ok P)

pub returns-in-Equals-clause-ok : goal.returns-in-Equals-clause-ok
returns-in-Equals-clause-ok c P b t stands =
    let s = c.args.self.now in
    let n = s.stack.env.count in
    let p = indicator t in
    let es = goals_of s.stack c.args.rest in
    let is = ap (meant s.stack.env.heap s.settings n) (sym c.in-Equals.is) in
    let fits : FitsSigned w64 c.in-Equals.number = search rules in
    let moved = rw (to_z-of_z w64 c.in-Equals.number fits) at (c.equal.ensures.ok P) in
    on_ok_map c.equal.result (moved-as P s c.equal.new.self _ _ (offer-unifies (value s.stack.env.heap c.in-Equals.v) (int c.in-Equals.number) s.settings p es n (local_of s) refl ∙ ap (λ x. offer x p es n (local_of s)) is)) moved

pub returns-in-Differs-clause-ok : goal.returns-in-Differs-clause-ok
returns-in-Differs-clause-ok c P b t stands =
    let s = c.args.self.now in
    let n = s.stack.env.count in
    let p = indicator t in
    let es = goals_of s.stack c.args.rest in
    let is = ap (meant s.stack.env.heap s.settings n) (sym c.in-Differs.is) in
    on_ok_map c.differ.result (moved-as P s c.differ.new.self _ _ (ap (λ x. offer x p es n (local_of s)) is)) ((c.differ.ensures.ok P) p)

pub returns-in-Solves-clause-ok : goal.returns-in-Solves-clause-ok
returns-in-Solves-clause-ok c P b t stands =
    let s = c.args.self.now in
    let n = s.stack.env.count in
    let p = indicator t in
    let es = goals_of s.stack c.args.rest in
    let q = c.in-Solves.equation in
    let is = ap (meant s.stack.env.heap s.settings n) (sym c.in-Solves.is) in
    on_ok_map c.solve_equation.result (moved-as P s c.solve_equation.new.self _ _ (offer-solves (left_of s.stack.env.heap n q) (right_of s.stack.env.heap n q) q.new s.settings p es n (local_of s) refl ∙ ap (λ x. offer x p es n (local_of s)) is)) (c.solve_equation.ensures.ok P)

pub returns-in-Writes-clause-ok : goal.returns-in-Writes-clause-ok
returns-in-Writes-clause-ok c P b t stands =
    let s = c.args.self.now in
    let n = s.stack.env.count in
    let p = indicator t in
    let es = goals_of s.stack c.args.rest in
    let is = ap (λ bytes. writes bytes s.settings) c.deref-in-Writes.ensures.value ∙ ap (meant s.stack.env.heap s.settings n) (sym c.in-Writes.is) in
    on_ok_map c.write_bytes.result (moved-as P s c.write_bytes.new.self _ _ (offer-writes c.deref-in-Writes.result.now s.settings p es n (local_of s) ∙ ap (λ x. offer x p es n (local_of s)) is)) (c.write_bytes.ensures.ok P)

pub returns-in-Sets-clause-ok : goal.returns-in-Sets-clause-ok
returns-in-Sets-clause-ok c P b t stands =
    let s = c.args.self.now in
    let n = s.stack.env.count in
    let p = indicator t in
    let es = goals_of s.stack c.args.rest in
    let is = ap (meant s.stack.env.heap s.settings n) (sym c.in-Sets.is) in
    moved-as P s c.set.new.self _ _ (offer-sets c.in-Sets.settings p es n (local_of s) ∙ ap (λ x. offer x p es n (local_of s)) is) (c.set.ensures P)

pub several-requires-clause-values : goal.several-requires-clause-values
several-requires-clause-values c =
    let there = rw c.in-Several.is at c.requires.answer in
    rw c.deref.ensures.value there.values

pub several-requires-clause-few : goal.several-requires-clause-few
several-requires-clause-few c =
    let there = rw c.in-Several.is at c.requires.answer in
    rw c.deref.ensures.value there.few

pub several-requires-clause-turn : goal.several-requires-clause-turn
several-requires-clause-turn c =
    let there = rw c.in-Several.is at c.requires.answer in
    rw c.deref.ensures.value there.is_turn

pub returns-in-Several-clause-ok : goal.returns-in-Several-clause-ok
returns-in-Several-clause-ok c P b t stands =
    let s = c.args.self.now in
    let n = s.stack.env.count in
    let p = indicator t in
    let es = goals_of s.stack c.args.rest in
    let vs = c.in-Several.values.items in
    let turn = c.in-Several.turn in
    let there = rw c.in-Several.is at c.requires.answer in
    let is = ap (meant s.stack.env.heap s.settings n) (sym c.in-Several.is) in
    on_ok_map c.several.result (moved-as P s c.several.new.self _ _ (offer-many (left s.stack.env.heap vs turn) there.many s.settings p es n (local_of s) refl ∙ ap (λ x. offer x p es n (local_of s)) is))
    (rw c.deref.ensures.value at (c.several.ensures.ok P))

pub returns-in-Groups-clause-ok : goal.returns-in-Groups-clause-ok
returns-in-Groups-clause-ok c P b t stands =
    let s = c.args.self.now in
    let n = s.stack.env.count in
    let p = indicator t in
    let es = goals_of s.stack c.args.rest in
    let vs = c.in-Groups.values.items in
    let ts = c.in-Groups.groups.items in
    let there = rw c.in-Groups.is at c.requires.answer in
    let is = ap (meant s.stack.env.heap s.settings n) (sym c.in-Groups.is) in
    on_ok_map c.one_of.result (moved-as P s c.one_of.new.self _ _ (offer-many (map (against (map (value s.stack.env.heap) vs)) ts) (many-map _ ts there.many) s.settings p es n (local_of s) refl ∙ ap (λ x. offer x p es n (local_of s)) is))
    (rw c.deref-in-Groups.ensures.value at (c.one_of.ensures.ok P))
