use Rattle.std.proofs.Common.{arith}
use Rattle.std.proofs.lemmas.List.{nil_from_length}
use Rattle.plenv.specs.Rows.{tree_at}
use Rattle.plhead.specs.Fitting.{Answers}
use Rattle.plhead.proofs.Slots.{keeps-refl, keeps-trans}
use Rattle.plhead.proofs.Solving.{solved}
use Rattle.plhead.proofs.Steps.{lighter, never, onward, sound-now, top}
use Rattle.plhead.proofs.head.solve.Goals as goal

pub loop-equation-init : goal.loop-equation-init
loop-equation-init c = record {
  on = record { equations = c.requires.equations; progress = λ start s t come. come };
  keeps = keeps-refl c.args.env.now;
}

pub reduce-requires-clause-sound : goal.reduce-requires-clause-sound
reduce-requires-clause-sound c = sound-now c.args.env.now c.loop-equation.env c.args.nodes.now c.requires.laid c.loop-equation.invariant.keeps

pub reduce-requires-clause-is : goal.reduce-requires-clause-is
reduce-requires-clause-is c =
    top c.args.env.now c.loop-equation.env c.args.base c.args.nodes.now c.requires.laid c.loop-equation.invariant.keeps c.args.work.now.items c.loop-equation.work.items c.pop.new.self.items c.in-Some.equation c.in-Some.ensures.items c.loop-equation.invariant.on

pub returns-in_err-reduce-clause-keeps : goal.returns-in_err-reduce-clause-keeps
returns-in_err-reduce-clause-keeps c = keeps-trans c.args.env.now c.loop-equation.env c.reduce.new.env c.loop-equation.invariant.keeps c.reduce.ensures.keeps

pub returns-then-not-branch-clause-answers : goal.returns-then-not-branch-clause-answers
returns-then-not-branch-clause-answers c =
    never c.args.env.now c.loop-equation.env c.args.base c.args.nodes.now c.requires.laid c.loop-equation.invariant.keeps c.args.work.now.items c.loop-equation.work.items c.pop.new.self.items c.in-Some.equation c.in-Some.ensures.items c.loop-equation.invariant.on
    c.reduce.new.env (c.in_ok-reduce.ensures.no c.if-not-branch.true)

pub returns-then-not-branch-clause-keeps : goal.returns-then-not-branch-clause-keeps
returns-then-not-branch-clause-keeps c = keeps-trans c.args.env.now c.loop-equation.env c.reduce.new.env c.loop-equation.invariant.keeps c.reduce.ensures.keeps

pub loop-equation-smaller : goal.loop-equation-smaller
loop-equation-smaller c =
    lighter c.args.env.now c.loop-equation.env c.args.base c.args.nodes.now c.requires.laid c.loop-equation.invariant.keeps c.args.work.now.items c.loop-equation.work.items c.pop.new.self.items c.in-Some.equation c.in-Some.ensures.items c.loop-equation.invariant.on
    c.reduce.new.env c.reduce.new.work.items (c.in_ok-reduce.ensures.yes c.if-not-branch.false)

pub loop-equation-preserved : goal.loop-equation-preserved
loop-equation-preserved c = record {
  on = onward c.args.env.now c.loop-equation.env c.args.base c.args.nodes.now c.requires.laid c.loop-equation.invariant.keeps c.args.work.now.items c.loop-equation.work.items c.pop.new.self.items c.in-Some.equation c.in-Some.ensures.items c.loop-equation.invariant.on
      c.reduce.new.env c.reduce.new.work.items (c.in_ok-reduce.ensures.yes c.if-not-branch.false);
  keeps = keeps-trans c.args.env.now c.loop-equation.env c.reduce.new.env c.loop-equation.invariant.keeps c.reduce.ensures.keeps;
}

pub returns-clause-answers : goal.returns-clause-answers
unfolding Answers
returns-clause-answers c = λ start s t come.
    let done = nil_from_length c.loop-equation.work.items (omega (arith, c.in_default.ensures.cases, c.loop-equation.work.ok.0)) in
    solved start c.loop-equation.env c.args.base (tree_at c.args.env.now.heap.names c.args.nodes.now) s t c.loop-equation.work.items (c.loop-equation.invariant.on.progress start s t come) done
