use Rattle.std.proofs.Common.{[], refl, subst, arith}
use Rattle.std.proofs.lemmas.List.{nil_from_length}
use Rattle.plpack.proofs.Numberings.{Packs, packs_end, packs_limits}
use Rattle.plcells.specs.Store.{value}
use Rattle.plcells.specs.Walking.{AreArguments}
use Rattle.plcells.proofs.Taking.{left_terms, left-popped, weigh-popped, arguments-pop, arguments-taken, weigh-taken}
use Rattle.plpacked.specs.Taking.{IsWritten}
use Rattle.plpacked.proofs.Writing.{packs-none, packs-written}
use Rattle.plpacked.proofs.taking.bytes_of.Goals as goal

pub loop-c-init : goal.loop-c-init
loop-c-init c =
    let h = c.args.heap.now in
    let t = value h c.args.v in
    let w = rw (c.new-out.ensures.items, c.new-seen.ensures, c.new-stack.ensures.items) at c.in_ok-write_value.ensures in
    record {
      arguments = arguments-taken h _ _ _ _ _ w.taken tt;
      packs = packs-written h t t _ _ _ _ _ _ w (packs-none t);
    }

pub argument-requires-clause-within : goal.argument-requires-clause-within
argument-requires-clause-within c =
    let h = c.args.heap.now in
    (arguments-pop h c.pop.new.self.items c.in-Some.c (subst (AreArguments h) c.in-Some.ensures.items c.loop-c.invariant.arguments)).1.0

pub argument-requires-clause-plain : goal.argument-requires-clause-plain
argument-requires-clause-plain c =
    let h = c.args.heap.now in
    (arguments-pop h c.pop.new.self.items c.in-Some.c (subst (AreArguments h) c.in-Some.ensures.items c.loop-c.invariant.arguments)).1.1

pub loop-c-smaller : goal.loop-c-smaller
loop-c-smaller c =
    let h = c.args.heap.now in
    let w = subst (IsWritten h _ _ _ _ _ _) c.argument.ensures.same c.in_ok-write_value-2.ensures in
    omega (arith, weigh-taken h _ _ _ _ _ w.taken, weigh-popped h c.loop-c.stack.items c.pop.new.self.items c.in-Some.c c.in-Some.ensures.items)

pub loop-c-preserved : goal.loop-c-preserved
loop-c-preserved c =
    let h = c.args.heap.now in
    let l = c.loop-c in
    let e = c.in-Some.ensures.items in
    let rest = c.pop.new.self.items in
    let w = subst (IsWritten h _ _ _ _ _ _) c.argument.ensures.same c.in_ok-write_value-2.ensures in
    let popped = left-popped h l.stack.items rest c.in-Some.c e in
    record {
      arguments = arguments-taken h _ _ _ _ _ w.taken (arguments-pop h rest c.in-Some.c (subst (AreArguments h) e l.invariant.arguments)).0;
      packs = packs-written h (value h c.args.v) _ _ _ _ _ _ _ w (subst (Packs (value h c.args.v) l.out.items l.seen) popped l.invariant.packs);
    }

pub returns-clause-bytes : goal.returns-clause-bytes
returns-clause-bytes c =
    let h = c.args.heap.now in
    let l = c.loop-c in
    let none = nil_from_length l.stack.items (omega (arith, c.in_default.ensures.cases, l.stack.ok.0)) in
    packs_end (value h c.args.v) l.out.items l.seen [] (subst (λ s. Packs (value h c.args.v) l.out.items l.seen (left_terms h s)) none l.invariant.packs) refl

pub returns-clause-limits : goal.returns-clause-limits
returns-clause-limits c =
    let h = c.args.heap.now in
    let l = c.loop-c in
    let none = nil_from_length l.stack.items (omega (arith, c.in_default.ensures.cases, l.stack.ok.0)) in
    packs_limits (value h c.args.v) l.out.items l.seen [] (subst (λ s. Packs (value h c.args.v) l.out.items l.seen (left_terms h s)) none l.invariant.packs) refl (omega (arith, l.out.ok.0))
