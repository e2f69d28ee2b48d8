use Rattle.plread.specs.Views.{state_view}
use Rattle.plread.proofs.Runs.{at_start, at_next, smaller, at_done, none_fails, is_goes, is_done, is_failure}
use Rattle.plread.proofs.clause.term_of.Goals as goal

pub steps-init : goal.steps-init
steps-init c = at_start _ _ _ c.args.words.now _ _ c.new.ensures.items c.new-2.ensures

pub steps-smaller : goal.steps-smaller
steps-smaller c = smaller _ _ _ (state_view c.args.words.now c.steps.reader) _ c.steps.invariant (is_goes _ _ _ c.in-Ok-Goes.ensures c.in-Ok-Goes.field-0-is)

pub steps-preserved : goal.steps-preserved
steps-preserved c = at_next _ _ _ (state_view c.args.words.now c.steps.reader) _ c.steps.invariant (is_goes _ _ _ c.in-Ok-Goes.ensures c.in-Ok-Goes.field-0-is)

pub returns-in-Ok-Done : goal.returns-in-Ok-Done
returns-in-Ok-Done c =
    at_done _ _ _ (state_view c.args.words.now c.steps.reader) _ _ c.steps.invariant (is_done _ _ _ c.in-Ok-Done.ensures c.in-Ok-Done.field-0-is) c.in_ok-term-in-Ok-Done.ensures

pub returns-in-Ok-Fails : goal.returns-in-Ok-Fails
returns-in-Ok-Fails c = none_fails _ _ _ (state_view c.args.words.now c.steps.reader) c.steps.invariant (is_failure _ _ _ c.in-Ok-Fails.ensures c.in-Ok-Fails.field-0-is)
