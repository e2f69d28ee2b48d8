use Rattle.std.proofs.Common.{◌≡◌, arith, le_trans, subst, sym}
use Rattle.plsearch.specs.Lists.{levels}
use Rattle.plstack.specs.State.{goals_in, goals_of}
use Rattle.plstack.specs.Levels.{AreNamed}
use Rattle.plstack.proofs.Undoing.{fits-named}
use Rattle.plstack.proofs.Stacks.{inside}
use Rattle.plstack.proofs.Marking.{next-there, found-next, found-all, levels-start}
use Rattle.plstack.proofs.stack.Stack.levels.Goals as goal

pub loop-link-init : goal.loop-link-init
loop-link-init c =
    let s = inside c.self.inside in
    let list = rw (← c.self.view_is) at c.requires in
    rw (← c.self.view_is) (record { there = list.there; so_far = levels-start (goals_in s) s.env s.links c.args.list c.new-found.result.items c.new-found.ensures.items })

pub loop-link-preserved : goal.loop-link-preserved
loop-link-preserved c =
    let s = inside c.self.inside in
    let l = c.in-Some.link.now in
    let there = rw (← c.self.view_is) at c.loop-link.invariant.there in
    let first = rw c.deref.ensures.value at c.in-Some.ensures.some in
    let some : c.loop-link.at ≡ 0 → ⊥ = λ none. omega (arith, none, first.0) in
    let so_far = rw (← c.self.view_is) at c.loop-link.invariant.so_far in
    rw (← c.self.view_is) (record {
      there = le_trans (next-there (goals_in s) s.env s.links c.self.invariant.0.chain c.loop-link.at l some there first.1) (omega (arith, there));
      so_far = found-next (goals_in s) s.env s.links c.self.invariant.0.chain c.loop-link.at l some there first.1 c.loop-link.found.items c.push_level.new.found.items (levels (goals_of s c.args.list)) c.in_ok-push_level.ensures so_far;
    })

pub returns-clause-is : goal.returns-clause-is
returns-clause-is c =
    let s = inside c.self.inside in
    let so_far = rw (← c.self.view_is) at c.loop-link.invariant.so_far in
    rw (← c.self.view_is) (found-all (goals_in s) s.env s.links c.loop-link.found.items (levels (goals_of s c.args.list)) c.loop-link.at c.in_default.ensures.none so_far)

pub returns-clause-named : goal.returns-clause-named
returns-clause-named c = λ cs fits.
    let s = inside c.self.inside in
    let so_far = rw (← c.self.view_is) at c.loop-link.invariant.so_far in
    let all : c.loop-link.found.items ≡ levels (goals_of s c.args.list) = found-all (goals_in s) s.env s.links c.loop-link.found.items (levels (goals_of s c.args.list)) c.loop-link.at c.in_default.ensures.none so_far in
    subst (λ ls. AreNamed ls cs) (sym all) (fits-named cs (goals_of s c.args.list) (rw (← c.self.view_is) at fits))
