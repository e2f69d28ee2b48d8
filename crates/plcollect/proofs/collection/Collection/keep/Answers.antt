use Rattle.std.proofs.Common.{[], ◌∷◌, ◌++◌, ◌∙◌, ap, arith}
use Rattle.std.specs.Prelude.{nat_le}
use Rattle.std.specs.List.{filter}
use Rattle.plcells.specs.Store.{value}
use Rattle.plcollect.specs.declared.collection.Held.{Held}
use Rattle.plcollect.proofs.Holding.{kept-more, copies-more}
use Rattle.plcollect.proofs.collection.Collection.keep.Goals as goal

pub invariant_of-self-2 : goal.invariant_of-self-2
invariant_of-self-2 c =
    let s = c.self.inside in
    let made = c.copy.new.self.nodes in
    let one : Held = record { level = c.args.level; from = c.len-from.result; count = c.len-count.result; variables = c.in_ok-variables.variables } in
    let held = c.hold.ensures ∙ ap (λ hs. filter (λ (h : Held). nat_le h.level c.args.level) hs ++ one ∷ []) c.in_ok-reserve.ensures.items in
    rw (c.in_ok-append.ensures.items, held)
    (copies-more s.nodes.items made.items s.held.items one (value c.args.heap.now c.args.v) c.self.invariant c.in_ok-variables.ensures (omega (arith, c.len-from.ensures, s.nodes.ok.0)) (omega (arith, c.len-count.ensures, made.ok.0)))

pub returns-clause-ok : goal.returns-clause-ok
returns-clause-ok c =
    let s = c.self.inside in
    let made = c.copy.new.self.nodes in
    let one : Held = record { level = c.args.level; from = c.len-from.result; count = c.len-count.result; variables = c.in_ok-variables.variables } in
    let held = c.hold.ensures ∙ ap (λ hs. filter (λ (h : Held). nat_le h.level c.args.level) hs ++ one ∷ []) c.in_ok-reserve.ensures.items in
    rw (← c.self.view_is)
    (rw (c.in_ok-append.ensures.items, held)
    (kept-more s.nodes.items made.items s.held.items one (value c.args.heap.now c.args.v) c.self.invariant c.in_ok-variables.ensures (omega (arith, c.len-from.ensures, s.nodes.ok.0)) (omega (arith, c.len-count.ensures, made.ok.0))))
