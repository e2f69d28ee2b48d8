use Rattle.std.proofs.Common.{◌<◌, sym, subst, arith}
use Rattle.plcells.specs.Store.{frees, value}
use Rattle.plbind.specs.Unifying.{Answers, Leaves, Bindings, HasLeft, KeepsAll}
use Rattle.plbind.proofs.Progressing.{started, came_on, unified, never-unified, circular, inside-bound, KeepsAll-refl, KeepsAll-bound}
use Rattle.plbind.proofs.unify.solve.Goals as goal

pub loop-x-init : goal.loop-x-init
loop-x-init c = record {
  inside = c.requires;
  progress = λ s t stands. started c.args.heap.now s t c.args.scratch.now.work.items stands;
  keeps = KeepsAll-refl c.args.heap.now;
}

pub returns-in-Same-clause-answers : goal.returns-in-Same-clause-answers
unfolding Answers Leaves
returns-in-Same-clause-answers c = λ s t stands.
    let l = c.loop-x in
    let done = subst (Leaves l.heap l.scratch.work.items c.descend.new.work.items) c.in-Same.is c.in_ok-descend.ensures.leaves in
    unified c.args.heap.now l.heap s t l.scratch.work.items (l.invariant.progress s t stands) done

pub bind_apart-requires : goal.bind_apart-requires
unfolding Leaves
bind_apart-requires c =
    let l = c.loop-x in
    let left = subst (Leaves l.heap l.scratch.work.items c.descend.new.work.items) c.in-Binds.is c.in_ok-descend.ensures.leaves in
    (left.number, left.near)

pub returns-then-not-branch-clause-answers : goal.returns-then-not-branch-clause-answers
unfolding Answers Leaves Bindings
returns-then-not-branch-clause-answers c = λ s t stands.
    let l = c.loop-x in
    let left : HasLeft l.heap l.scratch.work.items c.descend.new.work.items c.in-Binds.x c.in-Binds.v = subst (Leaves l.heap l.scratch.work.items c.descend.new.work.items) c.in-Binds.is c.in_ok-descend.ensures.leaves in
    let said = subst (Bindings l.heap c.bind_apart.new.heap c.in-Binds.v left.number) c.if-not-branch.true (c.in_ok-bind_apart-in-Binds.ensures.ok left.number left.near) in
    never-unified c.args.heap.now l.heap s t l.scratch.work.items (l.invariant.progress s t stands)
    (circular l.heap l.scratch.work.items c.descend.new.work.items c.in-Binds.x c.in-Binds.v left said.0)

pub returns-then-not-branch-clause-keeps : goal.returns-then-not-branch-clause-keeps
unfolding Leaves Bindings
returns-then-not-branch-clause-keeps c =
    let l = c.loop-x in
    let left : HasLeft l.heap l.scratch.work.items c.descend.new.work.items c.in-Binds.x c.in-Binds.v = subst (Leaves l.heap l.scratch.work.items c.descend.new.work.items) c.in-Binds.is c.in_ok-descend.ensures.leaves in
    let said = subst (Bindings l.heap c.bind_apart.new.heap c.in-Binds.v left.number) c.if-not-branch.true (c.in_ok-bind_apart-in-Binds.ensures.ok left.number left.near) in
    subst (KeepsAll c.args.heap.now) (sym said.1) l.invariant.keeps

pub loop-x-smaller : goal.loop-x-smaller
unfolding Leaves Bindings
loop-x-smaller c =
    let l = c.loop-x in
    let left : HasLeft l.heap l.scratch.work.items c.descend.new.work.items c.in-Binds.x c.in-Binds.v = subst (Leaves l.heap l.scratch.work.items c.descend.new.work.items) c.in-Binds.is c.in_ok-descend.ensures.leaves in
    let said = subst (Bindings l.heap c.bind_apart.new.heap c.in-Binds.v left.number) c.if-not-branch.false (c.in_ok-bind_apart-in-Binds.ensures.ok left.number left.near) in
    let less : frees c.bind_apart.new.heap.cells < frees l.heap.cells = omega (arith, said.1.fewer) in
    less

pub loop-x-preserved : goal.loop-x-preserved
unfolding Leaves Bindings
loop-x-preserved c =
    let l = c.loop-x in
    let left : HasLeft l.heap l.scratch.work.items c.descend.new.work.items c.in-Binds.x c.in-Binds.v = subst (Leaves l.heap l.scratch.work.items c.descend.new.work.items) c.in-Binds.is c.in_ok-descend.ensures.leaves in
    let said = subst (Bindings l.heap c.bind_apart.new.heap c.in-Binds.v left.number) c.if-not-branch.false (c.in_ok-bind_apart-in-Binds.ensures.ok left.number left.near) in
    record {
      inside = inside-bound l.heap c.bind_apart.new.heap c.in-Binds.x left.number c.in-Binds.v said.1 c.descend.new.work.items c.in_ok-descend.ensures.inside;
      progress = λ s t stands. came_on c.args.heap.now l.heap c.bind_apart.new.heap s t l.scratch.work.items c.descend.new.work.items c.in-Binds.x c.in-Binds.v (l.invariant.progress s t stands) left c.in_ok-descend.ensures.inside said.0 said.1;
      keeps = KeepsAll-bound c.args.heap.now l.heap c.bind_apart.new.heap left.number (value l.heap c.in-Binds.v) l.invariant.keeps said.1;
    }

pub returns-in-Clash-clause-answers : goal.returns-in-Clash-clause-answers
unfolding Answers Leaves
returns-in-Clash-clause-answers c = λ s t stands.
    let l = c.loop-x in
    let never = subst (Leaves l.heap l.scratch.work.items c.descend.new.work.items) c.in-Clash.is c.in_ok-descend.ensures.leaves in
    never-unified c.args.heap.now l.heap s t l.scratch.work.items (l.invariant.progress s t stands) never

pub unreachable-requires : goal.unreachable-requires
unfolding Leaves
unreachable-requires c =
    let l = c.loop-x in
    subst (Leaves l.heap l.scratch.work.items c.descend.new.work.items) c.in-Args.is c.in_ok-descend.ensures.leaves
