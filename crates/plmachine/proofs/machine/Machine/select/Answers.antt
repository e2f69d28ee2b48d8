use Rattle.std.proofs.Common.{[], map, sym, ap, ◌∙◌, subst, le_refl}
use Rattle.std.proofs.lemmas.List.{length-map}
use Rattle.std.specs.Prelude.{codes}
use Rattle.plterm.specs.Tree.{atom}
use Rattle.plclause.specs.Indicators.{indicator}
use Rattle.plcells.specs.Store.{value}
use Rattle.plsearch.specs.Running.{called}
use Rattle.plsearch.specs.Moves.{run}
use Rattle.plsearch.specs.Rows.{row, call_with as call_n}
use Rattle.plgoals.specs.Forms.{shown_form, call_with, IsInside}
use Rattle.plstack.specs.State.{goals_of}
use Rattle.plmachine.specs.declared.machine.Outcome.TheVariants as outcomes
use Rattle.plmachine.specs.Machine.{below_in, depth_of, local_of}
use Rattle.plmachine.specs.Selected.{IsCall}
use Rattle.plmachine.proofs.Lists.{holds-list, lengthened-grown, lengthened-same}
use Rattle.plmachine.proofs.Moves.{went, gave, moved-as, moved-views, on_ok_map}
use Rattle.plmachine.proofs.Values.{some-first}
use Rattle.plmachine.proofs.Selecting.{selected, both-is, either-is, then-is, then-else-is}
use Rattle.plmachine.proofs.machine.Machine.select.Goals as goal

pub returns-in-True-clause-ok : goal.returns-in-True-clause-ok
unfolding row
returns-in-True-clause-ok c t sel =
    let s = c.args.self.now in
    let P = c.args.program.now in
    selected P s c.go_on.new.self c.args.form c.args.source t c.args.level (depth_of s) (goals_of s.stack c.args.rest) s.stack.env.count (local_of s) _ sel (ap (shown_form s.stack.env.heap (indicator t) s.args.items) c.in-True.is)
    (went P s c.go_on.new.self s.stack c.args.rest (goals_of s.stack c.args.rest) (lengthened-grown s.stack s.stack (lengthened-same s.stack)) (holds-list s.stack c.args.rest c.requires.rest) c.go_on.ensures.is).moved

pub returns-in-False-clause-ok : goal.returns-in-False-clause-ok
unfolding row
returns-in-False-clause-ok c t sel =
    let s = c.args.self.now in
    let P = c.args.program.now in
    selected P s c.give.new.self c.args.form c.args.source t c.args.level (depth_of s) (goals_of s.stack c.args.rest) s.stack.env.count (local_of s) _ sel (ap (shown_form s.stack.env.heap (indicator t) s.args.items) c.in-False.is) (gave P s c.give.new.self outcomes.Fail tt c.give.ensures).moved

pub returns-in-NoGoal-clause-ok : goal.returns-in-NoGoal-clause-ok
unfolding row
returns-in-NoGoal-clause-ok c t sel =
    let s = c.args.self.now in
    let P = c.args.program.now in
    selected P s c.give-in-NoGoal.new.self c.args.form c.args.source t c.args.level (depth_of s) (goals_of s.stack c.args.rest) s.stack.env.count (local_of s) _ sel (ap (shown_form s.stack.env.heap (indicator t) s.args.items) c.in-NoGoal.is) (gave P s c.give-in-NoGoal.new.self outcomes.Fail tt c.give-in-NoGoal.ensures).moved

pub returns-in-Halt-clause-ok : goal.returns-in-Halt-clause-ok
unfolding row
returns-in-Halt-clause-ok c t sel =
    let s = c.args.self.now in
    let P = c.args.program.now in
    selected P s c.halt.new.self c.args.form c.args.source t c.args.level (depth_of s) (goals_of s.stack c.args.rest) s.stack.env.count (local_of s) _ sel (ap (shown_form s.stack.env.heap (indicator t) s.args.items) c.in-Halt.is) (c.halt.ensures c.args.program.now).moved

pub returns-in-Both-clause-ok : goal.returns-in-Both-clause-ok
unfolding row
returns-in-Both-clause-ok c t sel =
    let s = c.args.self.now in
    let P = c.args.program.now in
    on_ok_map c.both.result
    (λ moved. selected P s c.both.new.self c.args.form c.args.source t c.args.level (depth_of s) (goals_of s.stack c.args.rest) s.stack.env.count (local_of s) _ sel (ap (shown_form s.stack.env.heap (indicator t) s.args.items) c.in-Both.is)
    (moved-views P s c.both.new.self _ _ (λ v. both-is P (below_in v s) c.args.level t (depth_of s) (goals_of s.stack c.args.rest) s.stack.env.count (local_of s) (value s.stack.env.heap c.in-Both.a) (value s.stack.env.heap c.in-Both.b)) moved))
    (c.both.ensures.ok c.args.program.now)

pub returns-in-Either-clause-ok : goal.returns-in-Either-clause-ok
unfolding row
returns-in-Either-clause-ok c t sel =
    let s = c.args.self.now in
    let P = c.args.program.now in
    on_ok_map c.either.result
    (λ moved. selected P s c.either.new.self c.args.form c.args.source t c.args.level (depth_of s) (goals_of s.stack c.args.rest) s.stack.env.count (local_of s) _ sel (ap (shown_form s.stack.env.heap (indicator t) s.args.items) c.in-Either.is)
    (moved-views P s c.either.new.self _ _ (λ v. either-is P (below_in v s) c.args.level t (depth_of s) (goals_of s.stack c.args.rest) s.stack.env.count (local_of s) (value s.stack.env.heap c.in-Either.a) (value s.stack.env.heap c.in-Either.b)) moved))
    (c.either.ensures.ok c.args.program.now)

pub returns-in-IfThen-clause-ok : goal.returns-in-IfThen-clause-ok
unfolding row
returns-in-IfThen-clause-ok c t sel =
    let s = c.args.self.now in
    let P = c.args.program.now in
    on_ok_map c.then.result
    (λ moved. selected P s c.then.new.self c.args.form c.args.source t c.args.level (depth_of s) (goals_of s.stack c.args.rest) s.stack.env.count (local_of s) _ sel (ap (shown_form s.stack.env.heap (indicator t) s.args.items) c.in-IfThen.is)
    (moved-views P s c.then.new.self _ _ (λ v. then-is P (below_in v s) c.args.level t (depth_of s) (goals_of s.stack c.args.rest) s.stack.env.count (local_of s) (value s.stack.env.heap c.in-IfThen.condition) (value s.stack.env.heap c.in-IfThen.then) (atom (codes "fail"))) moved))
    (c.then.ensures.ok c.args.program.now sel.begun)

pub returns-in-IfThenElse-clause-ok : goal.returns-in-IfThenElse-clause-ok
unfolding row
returns-in-IfThenElse-clause-ok c t sel =
    let s = c.args.self.now in
    let P = c.args.program.now in
    on_ok_map c.then_else.result
    (λ moved. selected P s c.then_else.new.self c.args.form c.args.source t c.args.level (depth_of s) (goals_of s.stack c.args.rest) s.stack.env.count (local_of s) _ sel (ap (shown_form s.stack.env.heap (indicator t) s.args.items) c.in-IfThenElse.is)
    (moved-views P s c.then_else.new.self _ _ (λ v. then-else-is P (below_in v s) c.args.level t (depth_of s) (goals_of s.stack c.args.rest) s.stack.env.count (local_of s) (value s.stack.env.heap c.in-IfThenElse.condition) (value s.stack.env.heap c.in-IfThenElse.then) (value s.stack.env.heap c.in-IfThenElse.other)) moved))
    (c.then_else.ensures.ok c.args.program.now)

pub returns-in-Not-clause-ok : goal.returns-in-Not-clause-ok
unfolding row
returns-in-Not-clause-ok c t sel =
    let s = c.args.self.now in
    let P = c.args.program.now in
    on_ok_map c.not.result (λ moved. selected P s c.not.new.self c.args.form c.args.source t c.args.level (depth_of s) (goals_of s.stack c.args.rest) s.stack.env.count (local_of s) _ sel (ap (shown_form s.stack.env.heap (indicator t) s.args.items) c.in-Not.is) moved.moved) (c.not.ensures.ok c.args.program.now)

pub returns-in-Once-clause-ok : goal.returns-in-Once-clause-ok
unfolding row
returns-in-Once-clause-ok c t sel =
    let s = c.args.self.now in
    let P = c.args.program.now in
    on_ok_map c.once.result (λ moved. selected P s c.once.new.self c.args.form c.args.source t c.args.level (depth_of s) (goals_of s.stack c.args.rest) s.stack.env.count (local_of s) _ sel (ap (shown_form s.stack.env.heap (indicator t) s.args.items) c.in-Once.is) moved.moved) (c.once.ensures.ok c.args.program.now)

pub returns-in-Catching-clause-ok : goal.returns-in-Catching-clause-ok
unfolding row
returns-in-Catching-clause-ok c t sel =
    let s = c.args.self.now in
    let P = c.args.program.now in
    on_ok_map c.catching.result (λ moved. selected P s c.catching.new.self c.args.form c.args.source t c.args.level (depth_of s) (goals_of s.stack c.args.rest) s.stack.env.count (local_of s) _ sel (ap (shown_form s.stack.env.heap (indicator t) s.args.items) c.in-Catching.is) moved.moved) (c.catching.ensures.ok c.args.program.now)

pub returns-in-FindAll-clause-ok : goal.returns-in-FindAll-clause-ok
unfolding row
returns-in-FindAll-clause-ok c t sel =
    let s = c.args.self.now in
    let P = c.args.program.now in
    on_ok_map c.find_all.result (λ moved. selected P s c.find_all.new.self c.args.form c.args.source t c.args.level (depth_of s) (goals_of s.stack c.args.rest) s.stack.env.count (local_of s) _ sel (ap (shown_form s.stack.env.heap (indicator t) s.args.items) c.in-FindAll.is) moved.moved) (c.find_all.ensures.ok c.args.program.now)

pub returns-in-Within-clause-ok : goal.returns-in-Within-clause-ok
unfolding row
returns-in-Within-clause-ok c t sel =
    let s = c.args.self.now in
    let P = c.args.program.now in
    on_ok_map c.within.result (λ moved. selected P s c.within.new.self c.args.form c.args.source t c.args.level (depth_of s) (goals_of s.stack c.args.rest) s.stack.env.count (local_of s) _ sel (ap (shown_form s.stack.env.heap (indicator t) s.args.items) c.in-Within.is) moved.moved) (c.within.ensures.ok c.args.program.now)

pub returns-in-Throwing-clause-ok : goal.returns-in-Throwing-clause-ok
unfolding row
returns-in-Throwing-clause-ok c t sel =
    let s = c.args.self.now in
    let P = c.args.program.now in
    on_ok_map c.throw.result (λ moved. selected P s c.throw.new.self c.args.form c.args.source t c.args.level (depth_of s) (goals_of s.stack c.args.rest) s.stack.env.count (local_of s) _ sel (ap (shown_form s.stack.env.heap (indicator t) s.args.items) c.in-Throwing.is) moved.moved) (c.throw.ensures.ok c.args.program.now)

pub returns-in-Cut-clause-ok : goal.returns-in-Cut-clause-ok
unfolding row
returns-in-Cut-clause-ok c t sel =
    let s = c.args.self.now in
    let P = c.args.program.now in
    on_ok_map c.cut.result (λ moved. selected P s c.cut.new.self c.args.form c.args.source t c.args.level (depth_of s) (goals_of s.stack c.args.rest) s.stack.env.count (local_of s) _ sel (ap (shown_form s.stack.env.heap (indicator t) s.args.items) c.in-Cut.is) moved.moved) (c.cut.ensures.ok c.args.program.now)

pub returns-in-Adding-clause-ok : goal.returns-in-Adding-clause-ok
unfolding row
returns-in-Adding-clause-ok c t sel =
    let s = c.args.self.now in
    let P = c.args.program.now in
    on_ok_map c.add.result (λ moved. selected P s c.add.new.self c.args.form c.args.source t c.args.level (depth_of s) (goals_of s.stack c.args.rest) s.stack.env.count (local_of s) _ sel (ap (shown_form s.stack.env.heap (indicator t) s.args.items) c.in-Adding.is) moved.moved) (c.add.ensures.ok t sel.stands)

pub returns-in-Retrieving-clause-ok : goal.returns-in-Retrieving-clause-ok
unfolding row
returns-in-Retrieving-clause-ok c t sel =
    let s = c.args.self.now in
    let P = c.args.program.now in
    on_ok_map c.retrieve.result (selected P s c.retrieve.new.self c.args.form c.args.source t c.args.level (depth_of s) (goals_of s.stack c.args.rest) s.stack.env.count (local_of s) _ sel (ap (shown_form s.stack.env.heap (indicator t) s.args.items) c.in-Retrieving.is)) (c.retrieve.ensures.ok t sel.stands)

pub returns-in-Retracting-clause-ok : goal.returns-in-Retracting-clause-ok
unfolding row
returns-in-Retracting-clause-ok c t sel =
    let s = c.args.self.now in
    let P = c.args.program.now in
    on_ok_map c.retract.result (selected P s c.retract.new.self c.args.form c.args.source t c.args.level (depth_of s) (goals_of s.stack c.args.rest) s.stack.env.count (local_of s) _ sel (ap (shown_form s.stack.env.heap (indicator t) s.args.items) c.in-Retracting.is)) (c.retract.ensures.ok t sel.stands)

pub returns-in-RetractingAll-clause-ok : goal.returns-in-RetractingAll-clause-ok
unfolding row
returns-in-RetractingAll-clause-ok c t sel =
    let s = c.args.self.now in
    let P = c.args.program.now in
    on_ok_map c.retract_all.result (selected P s c.retract_all.new.self c.args.form c.args.source t c.args.level (depth_of s) (goals_of s.stack c.args.rest) s.stack.env.count (local_of s) _ sel (ap (shown_form s.stack.env.heap (indicator t) s.args.items) c.in-RetractingAll.is)) (c.retract_all.ensures.ok t sel.stands)

pub returns-in-Declaring-clause-ok : goal.returns-in-Declaring-clause-ok
unfolding row
returns-in-Declaring-clause-ok c t sel =
    let s = c.args.self.now in
    let P = c.args.program.now in
    on_ok_map c.declare.result (λ moved. selected P s c.declare.new.self c.args.form c.args.source t c.args.level (depth_of s) (goals_of s.stack c.args.rest) s.stack.env.count (local_of s) _ sel (ap (shown_form s.stack.env.heap (indicator t) s.args.items) c.in-Declaring.is) moved.moved) (c.declare.ensures.ok t sel.stands)

pub returns-in-HaltWith-clause-ok : goal.returns-in-HaltWith-clause-ok
unfolding row
returns-in-HaltWith-clause-ok c t sel =
    let s = c.args.self.now in
    let P = c.args.program.now in
    on_ok_map c.halt_with.result (λ moved. selected P s c.halt_with.new.self c.args.form c.args.source t c.args.level (depth_of s) (goals_of s.stack c.args.rest) s.stack.env.count (local_of s) _ sel (ap (shown_form s.stack.env.heap (indicator t) s.args.items) c.in-HaltWith.is) moved.moved) (c.halt_with.ensures.ok c.args.program.now)

pub returns-in-BuiltIn-clause-ok : goal.returns-in-BuiltIn-clause-ok
unfolding row
returns-in-BuiltIn-clause-ok c t sel =
    let s = c.args.self.now in
    let P = c.args.program.now in
    on_ok_map c.built_in.result (λ moved. selected P s c.built_in.new.self c.args.form c.args.source t c.args.level (depth_of s) (goals_of s.stack c.args.rest) s.stack.env.count (local_of s) _ sel (ap (shown_form s.stack.env.heap (indicator t) s.args.items) c.in-BuiltIn.is) moved.moved) ((c.built_in.ensures.ok c.args.program.now sel.begun) t sel.stands)

pub returns-in-Call-clause-ok : goal.returns-in-Call-clause-ok
unfolding row
returns-in-Call-clause-ok c t sel =
    let s = c.args.self.now in
    let P = c.args.program.now in
    on_ok_map c.call.result (selected P s c.call.new.self c.args.form c.args.source t c.args.level (depth_of s) (goals_of s.stack c.args.rest) s.stack.env.count (local_of s) _ sel (ap (shown_form s.stack.env.heap (indicator t) s.args.items) c.in-Call.is)) ((c.call.ensures.ok c.args.program.now sel.begun) _ t sel.stands (subst (λ f. IsCall P s f t) c.in-Call.is sel.call))

pub returns-in-CallWith-clause-ok : goal.returns-in-CallWith-clause-ok
unfolding row
returns-in-CallWith-clause-ok c t sel =
    let s = c.args.self.now in
    let P = c.args.program.now in
    let h = s.stack.env.heap in
    let x = some-first s.args.items (subst (IsInside h s.args.items) c.in-CallWith.is sel.inside) in
    on_ok_map c.call_with.result
    (λ moved. selected P s c.call_with.new.self c.args.form c.args.source t c.args.level (depth_of s) (goals_of s.stack c.args.rest) s.stack.env.count (local_of s) _ sel
    (ap (shown_form h (indicator t) s.args.items) c.in-CallWith.is ∙ ap (λ xs. call_with (map (value h) xs)) x.2)
    (moved-as P s c.call_with.new.self _ _ (ap (λ k. run (called (value h x.0) (map (value h) x.1)) (call_n k) [] (depth_of s) (goals_of s.stack c.args.rest) s.stack.env.count (local_of s)) (sym (length-map x.1 (value h)))) moved).moved)
    ((c.call_with.ensures.ok c.args.program.now) x.0 x.1 x.2)

pub both-requires-clause-first : goal.both-requires-clause-first
both-requires-clause-first c = (subst (IsInside c.args.self.now.stack.env.heap c.args.self.now.args.items) c.in-Both.is c.requires.selected.1.inside).0

pub both-requires-clause-second : goal.both-requires-clause-second
both-requires-clause-second c = (subst (IsInside c.args.self.now.stack.env.heap c.args.self.now.args.items) c.in-Both.is c.requires.selected.1.inside).1

pub either-requires-clause-first : goal.either-requires-clause-first
either-requires-clause-first c = (subst (IsInside c.args.self.now.stack.env.heap c.args.self.now.args.items) c.in-Either.is c.requires.selected.1.inside).0

pub either-requires-clause-second : goal.either-requires-clause-second
either-requires-clause-second c = (subst (IsInside c.args.self.now.stack.env.heap c.args.self.now.args.items) c.in-Either.is c.requires.selected.1.inside).1

pub then-requires-clause-condition : goal.then-requires-clause-condition
then-requires-clause-condition c = (subst (IsInside c.args.self.now.stack.env.heap c.args.self.now.args.items) c.in-IfThen.is c.requires.selected.1.inside).0

pub then-requires-clause-then : goal.then-requires-clause-then
then-requires-clause-then c = (subst (IsInside c.args.self.now.stack.env.heap c.args.self.now.args.items) c.in-IfThen.is c.requires.selected.1.inside).1

pub then_else-requires-clause-condition : goal.then_else-requires-clause-condition
then_else-requires-clause-condition c = (subst (IsInside c.args.self.now.stack.env.heap c.args.self.now.args.items) c.in-IfThenElse.is c.requires.selected.1.inside).0

pub then_else-requires-clause-then : goal.then_else-requires-clause-then
then_else-requires-clause-then c = (subst (IsInside c.args.self.now.stack.env.heap c.args.self.now.args.items) c.in-IfThenElse.is c.requires.selected.1.inside).1

pub then_else-requires-clause-other : goal.then_else-requires-clause-other
then_else-requires-clause-other c = (subst (IsInside c.args.self.now.stack.env.heap c.args.self.now.args.items) c.in-IfThenElse.is c.requires.selected.1.inside).2

pub not-requires-clause-goal : goal.not-requires-clause-goal
not-requires-clause-goal c = (subst (IsInside c.args.self.now.stack.env.heap c.args.self.now.args.items) c.in-Not.is c.requires.selected.1.inside)

pub once-requires-clause-goal : goal.once-requires-clause-goal
once-requires-clause-goal c = (subst (IsInside c.args.self.now.stack.env.heap c.args.self.now.args.items) c.in-Once.is c.requires.selected.1.inside)

pub catching-requires-clause-goal : goal.catching-requires-clause-goal
catching-requires-clause-goal c = (subst (IsInside c.args.self.now.stack.env.heap c.args.self.now.args.items) c.in-Catching.is c.requires.selected.1.inside).0

pub catching-requires-clause-catcher : goal.catching-requires-clause-catcher
catching-requires-clause-catcher c = (subst (IsInside c.args.self.now.stack.env.heap c.args.self.now.args.items) c.in-Catching.is c.requires.selected.1.inside).1

pub catching-requires-clause-recovery : goal.catching-requires-clause-recovery
catching-requires-clause-recovery c = (subst (IsInside c.args.self.now.stack.env.heap c.args.self.now.args.items) c.in-Catching.is c.requires.selected.1.inside).2

pub find_all-requires-clause-template : goal.find_all-requires-clause-template
find_all-requires-clause-template c = (subst (IsInside c.args.self.now.stack.env.heap c.args.self.now.args.items) c.in-FindAll.is c.requires.selected.1.inside).0

pub find_all-requires-clause-goal : goal.find_all-requires-clause-goal
find_all-requires-clause-goal c = (subst (IsInside c.args.self.now.stack.env.heap c.args.self.now.args.items) c.in-FindAll.is c.requires.selected.1.inside).1

pub find_all-requires-clause-whole : goal.find_all-requires-clause-whole
find_all-requires-clause-whole c = (subst (IsInside c.args.self.now.stack.env.heap c.args.self.now.args.items) c.in-FindAll.is c.requires.selected.1.inside).2

pub within-requires-clause-goal : goal.within-requires-clause-goal
within-requires-clause-goal c = (subst (IsInside c.args.self.now.stack.env.heap c.args.self.now.args.items) c.in-Within.is c.requires.selected.1.inside)

pub throw-requires-clause-ball : goal.throw-requires-clause-ball
throw-requires-clause-ball c = (subst (IsInside c.args.self.now.stack.env.heap c.args.self.now.args.items) c.in-Throwing.is c.requires.selected.1.inside)

pub add-requires-clause-clause : goal.add-requires-clause-clause
add-requires-clause-clause c = (subst (IsInside c.args.self.now.stack.env.heap c.args.self.now.args.items) c.in-Adding.is c.requires.selected.1.inside)

pub retrieve-requires-clause-head : goal.retrieve-requires-clause-head
retrieve-requires-clause-head c = (subst (IsInside c.args.self.now.stack.env.heap c.args.self.now.args.items) c.in-Retrieving.is c.requires.selected.1.inside).0

pub retrieve-requires-clause-body : goal.retrieve-requires-clause-body
retrieve-requires-clause-body c = (subst (IsInside c.args.self.now.stack.env.heap c.args.self.now.args.items) c.in-Retrieving.is c.requires.selected.1.inside).1

pub retract-requires-clause-clause : goal.retract-requires-clause-clause
retract-requires-clause-clause c = (subst (IsInside c.args.self.now.stack.env.heap c.args.self.now.args.items) c.in-Retracting.is c.requires.selected.1.inside)

pub retract_all-requires-clause-head : goal.retract_all-requires-clause-head
retract_all-requires-clause-head c = (subst (IsInside c.args.self.now.stack.env.heap c.args.self.now.args.items) c.in-RetractingAll.is c.requires.selected.1.inside)

pub declare-requires-clause-names : goal.declare-requires-clause-names
declare-requires-clause-names c = (subst (IsInside c.args.self.now.stack.env.heap c.args.self.now.args.items) c.in-Declaring.is c.requires.selected.1.inside)

pub halt_with-requires-clause-number : goal.halt_with-requires-clause-number
halt_with-requires-clause-number c = (subst (IsInside c.args.self.now.stack.env.heap c.args.self.now.args.items) c.in-HaltWith.is c.requires.selected.1.inside)

pub call_with-requires-clause-some : goal.call_with-requires-clause-some
call_with-requires-clause-some c = (subst (IsInside c.args.self.now.stack.env.heap c.args.self.now.args.items) c.in-CallWith.is c.requires.selected.1.inside)

pub both-requires-clause-fits : goal.both-requires-clause-fits
both-requires-clause-fits c = let p = c.requires.level in ((p.0.0, p.0.1, (le_refl _, p.0.1, p.0.2)), p.1)
