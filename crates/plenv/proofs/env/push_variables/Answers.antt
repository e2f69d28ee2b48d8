use Rattle.std.proofs.Common.{◌+◌, subst}
use Rattle.plcells.specs.Store.{AddsVariable}
use Rattle.plcells.proofs.Kept.{Keeps-trans}
use Rattle.plenv.proofs.Terms.{no_variables, more_variables}
use Rattle.plenv.proofs.env.push_variables.Goals as goal

pub loop-x-init : goal.loop-x-init
loop-x-init c = rw c.requires.none (no_variables c.args.heap.now c.args.number)

pub returns-in_err-push-clause-keeps : goal.returns-in_err-push-clause-keeps
returns-in_err-push-clause-keeps c =
    let l = c.loop-x in
    Keeps-trans c.args.heap.now l.heap c.variable.new.self l.invariant.preserves.keeps c.in_ok-c.ensures.ok.grows.keeps

pub loop-x-preserved : goal.loop-x-preserved
loop-x-preserved c =
    let l = c.loop-x in
    let adds = subst (λ k. AddsVariable l.heap c.variable.new.self c.in_ok-c.c (c.args.number + k)) c.from.ensures c.in_ok-c.ensures.ok in
    rw c.in_ok-push.ensures.items (more_variables c.args.heap.now l.heap c.variable.new.self l.values.items c.args.number l.x c.in_ok-c.c l.invariant adds)
