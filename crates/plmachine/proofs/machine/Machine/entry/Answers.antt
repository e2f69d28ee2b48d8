use Rattle.std.proofs.Common.{◌≡◌, suc, ◌∷◌, ◌∙◌, ap, ap₂, sym, subst, arith}
use Rattle.plterm.specs.Variables.{copied}
use Rattle.plcells.specs.Store.{value}
use Rattle.plsearch.specs.Types.{Goal, Marker, Raise, Transact}
use Rattle.plerror.specs.Errors.{error_term}
use Rattle.plsearch.specs.Lists.{levels}
use Rattle.plsearch.specs.Moves.{beginner, first_of}
use Rattle.plstack.specs.Levels.{kinds, FitsIn}
use Rattle.plstack.specs.State.{goals_of}
use Rattle.plmachine.specs.Machine.{depth_of}
use Rattle.plmachine.specs.Running.{ready_as}
use Rattle.plmachine.proofs.machine.Machine.entry.Goals as goal

pub returns-in_ok-list-in-Runs-clause-ok : goal.returns-in_ok-list-in-Runs-clause-ok
returns-in_ok-list-in-Runs-clause-ok c =
    let s = c.args.self.now in
    let t = c.ready_before.new.self in
    let d = depth_of s in
    let depth = c.depth-depth.ensures.is in
    let next : c.in-Some.level ≡ suc c.depth-depth.result = omega (arith, c.in-Some.ensures.some) in
    let after : c.in-Some-up.inner ≡ suc (suc c.depth-depth.result) = omega (arith, c.in-Some-up.ensures.some) in
    let adds = c.in_ok-list-in-Runs.ensures.ok in
    let list = c.in_ok-ready.ensures.list.is ∙ ap₂ (λ d l. Marker (Transact d) l ∷ goals_of s.stack c.args.rest.now) depth (next ∙ ap suc depth) in (
      value t.stack.env.heap c.in-Runs.goal,
      ap (λ r. first_of r (beginner c.args.kind) (suc (suc d))) (c.in_ok-ready.ensures.ready.is ∙ ap (ready_as t.stack) c.in-Runs.is),
      record { there = adds.there; is = adds.is ∙ ap₂ (λ k gs. Goal k (value t.stack.env.heap c.in-Runs.goal) ∷ gs) (after ∙ ap (λ d. suc (suc d)) depth) list },
    )

pub returns-in_ok-levels-in-Raises-clause-ok : goal.returns-in_ok-levels-in-Raises-clause-ok
returns-in_ok-levels-in-Raises-clause-ok c =
    let s = c.args.self.now in
    let t = c.ready_before.new.self in
    let d = depth_of s in
    let depth = c.depth-depth.ensures.is in
    let next : c.in-Some.level ≡ suc c.depth-depth.result = omega (arith, c.in-Some.ensures.some) in
    let list = c.in_ok-ready.ensures.list.is ∙ ap₂ (λ d l. Marker (Transact d) l ∷ goals_of s.stack c.args.rest.now) depth (next ∙ ap suc depth) in (
      ap (λ r. first_of r (beginner c.args.kind) (suc (suc d))) (c.in_ok-ready.ensures.ready.is ∙ ap (ready_as t.stack) c.in-Raises.is)
          ∙ ap Raise (sym (c.in_ok-ball-in-Raises.ensures ∙ ap (λ p. copied 0 (error_term c.in-Raises.error p)) (c.in_ok-p-in-Raises.ensures ∙ c.beginner.ensures.is))),
      c.in_ok-levels-in-Raises.ensures.is ∙ ap levels list,
      λ cs f. c.in_ok-levels-in-Raises.ensures.named cs (subst (FitsIn (kinds cs)) (sym list) f),
    )
