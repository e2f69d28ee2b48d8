use Rattle.std.proofs.Common.{◌≡◌, ◌∙◌, ◌++◌, List, append-nil, sym, ap, subst, arith}
use Rattle.std.proofs.lemmas.List.{nil_from_length}
use Rattle.std.specs.List.{flat_map}
use Rattle.plterm.specs.Tree.{Tree}
use Rattle.plterm.specs.Reading.{spelling, AllFit}
use Rattle.plcells.specs.Store.{value}
use Rattle.plcells.specs.Walking.{AreArguments, IsTaken}
use Rattle.plcells.proofs.Taking.{left_terms, left-popped, weigh-popped, arguments-pop, nodes-taken, fit-taken, arguments-taken, weigh-taken}
use Rattle.plcells.proofs.heap.Heap.take_nodes.Goals as goal

pub loop-c-init : goal.loop-c-init
loop-c-init c =
    let h = c.args.self.now in
    let t = rw c.clear.ensures.items at c.in_ok-take_value.ensures in
    let alone = append-nil (spelling (value h c.args.v)) in
    record {
      arguments = arguments-taken h _ _ _ _ _ t tt;
      nodes = nodes-taken h _ _ _ _ _ t ∙ ap (λ ns. c.args.nodes.now.items ++ ns) alone;
      fit = λ f. subst AllFit alone (fit-taken h _ _ _ _ _ t f);
    }

pub argument-requires-clause-within : goal.argument-requires-clause-within
argument-requires-clause-within c =
    let h = c.args.self.now in
    (arguments-pop h c.pop.new.self.items c.in-Some.c (subst (AreArguments h) c.in-Some.ensures.items c.loop-c.invariant.arguments)).1.0

pub argument-requires-clause-plain : goal.argument-requires-clause-plain
argument-requires-clause-plain c =
    let h = c.args.self.now in
    (arguments-pop h c.pop.new.self.items c.in-Some.c (subst (AreArguments h) c.in-Some.ensures.items c.loop-c.invariant.arguments)).1.1

pub loop-c-smaller : goal.loop-c-smaller
loop-c-smaller c =
    let h = c.args.self.now in
    let t = subst (IsTaken h _ _ _ _) c.argument.ensures.same c.in_ok-take_value-2.ensures in
    omega (arith, weigh-taken h _ _ _ _ _ t, weigh-popped h c.loop-c.stack.items c.pop.new.self.items c.in-Some.c c.in-Some.ensures.items)

pub loop-c-preserved : goal.loop-c-preserved
loop-c-preserved c =
    let h = c.args.self.now in
    let l = c.loop-c in
    let e = c.in-Some.ensures.items in
    let rest = c.pop.new.self.items in
    let t = subst (IsTaken h _ _ _ _) c.argument.ensures.same c.in_ok-take_value-2.ensures in
    let popped = left-popped h l.stack.items rest c.in-Some.c e in
    record {
      arguments = arguments-taken h _ _ _ _ _ t (arguments-pop h rest c.in-Some.c (subst (AreArguments h) e l.invariant.arguments)).0;
      nodes = nodes-taken h _ _ _ _ _ t ∙ subst (λ (ts : List Tree). l.nodes.items ++ flat_map spelling ts ≡ c.args.nodes.now.items ++ spelling (value h c.args.v)) popped l.invariant.nodes;
      fit = λ f. subst (λ (ts : List Tree). AllFit (flat_map spelling ts) → AllFit (spelling (value h c.args.v))) popped l.invariant.fit (fit-taken h _ _ _ _ _ t f);
    }

pub returns-clause-nodes : goal.returns-clause-nodes
returns-clause-nodes c =
    let h = c.args.self.now in
    let l = c.loop-c in
    let none = nil_from_length l.stack.items (omega (arith, c.in_default.ensures.cases, l.stack.ok.0)) in
    sym (append-nil l.nodes.items) ∙ subst (λ s. l.nodes.items ++ flat_map spelling (left_terms h s) ≡ c.args.nodes.now.items ++ spelling (value h c.args.v)) none l.invariant.nodes

pub returns-clause-fit : goal.returns-clause-fit
returns-clause-fit c =
    let h = c.args.self.now in
    let l = c.loop-c in
    let none = nil_from_length l.stack.items (omega (arith, c.in_default.ensures.cases, l.stack.ok.0)) in
    subst (λ s. AllFit (flat_map spelling (left_terms h s)) → AllFit (spelling (value h c.args.v))) none l.invariant.fit tt
