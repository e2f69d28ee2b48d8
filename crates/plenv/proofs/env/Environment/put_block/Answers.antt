use Rattle.std.proofs.Common.{◌≡◌, ◌+◌, ◌∙◌, [], suc, length, map, take, drop, refl, ap, subst, sym, arith}
use Rattle.platoms.specs.Names.{functor_name}
use Rattle.plcells.specs.declared.cell.Argument.TheVariants.{Variable}
use Rattle.plcells.specs.Store.{AddsBlock}
use Rattle.plcells.specs.Blocks.{numbers_of, stands_for}
use Rattle.plcode.specs.declared.node.Node.TheVariants.{Fun, Var}
use Rattle.plcode.specs.Packed.{node_at}
use Rattle.plenv.specs.declared.block.Gathered.TheVariants.{Whole, One, Several}
use Rattle.plenv.specs.Env.{Env}
use Rattle.plenv.specs.Blocks.{AreReady, HasFree, IsPart, PutsBlock}
use Rattle.plenv.proofs.Keeping.{over_heap}
use Rattle.plenv.proofs.Gathering.{ready-all, part-of-node, variable-node, free-slot, one-other}
use Rattle.plenv.proofs.Putting.{stays-grown, stays-noted, Stays-trans}
use Rattle.plenv.proofs.Parts.{ready-row, good-parts, parts-length, row-length}
use Rattle.plenv.proofs.Building.{row-slice, block-here, puts-block, stays-built, slots-built, slots-one, stays-one, one-fits, one-is, gathered-here, has-free-block, functor-of}
use Rattle.plenv.proofs.env.Environment.put_block.Goals as goal

pub gather-requires : goal.gather-requires
gather-requires c =
    let laid = rw (← c.self.view_is) at c.requires.laid in
    let built = rw (← c.self.view_is) at c.requires.built in
    let s = c.self.inside in
    let e : Env = record { heap = s.heap; slots = s.slots.items; noted = s.noted.items; boundary = s.boundary; count = s.count } in
    let nodes = c.args.nodes.now in
    let r = c.args.run.now in
    let row = take c.in-Fun.arity (drop (suc c.args.place) nodes) in
    let b = block-here nodes r.from c.args.place c.requires.block.0 c.requires.block.1.0 c.in-Fun.f c.in-Fun.arity c.requires.block.1.1 c.in-Fun.is in
    let w = b.within in
    let ready = ready-row s.heap s.heap.names refl c.known.ensures.few nodes laid r c.args.place built (omega (arith, w)) (suc c.args.place) c.in-Fun.arity (omega (arith, w)) (λ j lo hi. b.arguments j (omega (arith, lo)) (omega (arith, hi))) in
    subst (AreReady s.heap r) (sym (row-slice nodes c.args.place c.in-Fun.arity)) ready

pub returns-in_err-gather-clause-stays : goal.returns-in_err-gather-clause-stays
returns-in_err-gather-clause-stays c =
    rw (← c.self.view_is) (
    let s = c.self.inside in
    let e : Env = record { heap = s.heap; slots = s.slots.items; noted = s.noted.items; boundary = s.boundary; count = s.count } in
    stays-grown e c.gather.new.heap c.in_err-gather.ensures.grows.grows.values c.in_err-gather.ensures.grows.grows.keeps c.self.invariant)

pub build-requires-clause-functor : goal.build-requires-clause-functor
build-requires-clause-functor c =
    let laid = rw (← c.self.view_is) at c.requires.laid in
    let built = rw (← c.self.view_is) at c.requires.built in
    let s = c.self.inside in
    let e : Env = record { heap = s.heap; slots = s.slots.items; noted = s.noted.items; boundary = s.boundary; count = s.count } in
    let nodes = c.args.nodes.now in
    let r = c.args.run.now in
    let row = take c.in-Fun.arity (drop (suc c.args.place) nodes) in
    let b = block-here nodes r.from c.args.place c.requires.block.0 c.requires.block.1.0 c.in-Fun.f c.in-Fun.arity c.requires.block.1.1 c.in-Fun.is in
    let w = b.within in
    let h = c.gather.new.heap in
    let xs = c.gather.new.block.items in
    let adds = c.in_ok-gather.ensures.grows in
    let got = gathered-here h s.slots.items c.deref.result.now r nodes c.args.place c.in-Fun.arity xs c.in_ok-gather.field-0 Whole c.deref.ensures.value c.in-Whole.is c.in_ok-gather.ensures.ok in
    let many : length c.deref-in-Whole.result.now ≡ c.in-Fun.arity = omega (arith, ap length c.deref-in-Whole.ensures.value, parts-length h s.slots.items r row xs got.0, row-length nodes (suc c.args.place) c.in-Fun.arity (omega (arith, w))) in
    functor-of nodes s.heap.names h.names r.from c.args.place c.in-Fun.f c.in-Fun.arity (length c.deref-in-Whole.result.now) laid b adds.grows.names many

pub build-requires-clause-parts : goal.build-requires-clause-parts
build-requires-clause-parts c =
    let laid = rw (← c.self.view_is) at c.requires.laid in
    let built = rw (← c.self.view_is) at c.requires.built in
    let s = c.self.inside in
    let e : Env = record { heap = s.heap; slots = s.slots.items; noted = s.noted.items; boundary = s.boundary; count = s.count } in
    let nodes = c.args.nodes.now in
    let r = c.args.run.now in
    let row = take c.in-Fun.arity (drop (suc c.args.place) nodes) in
    let b = block-here nodes r.from c.args.place c.requires.block.0 c.requires.block.1.0 c.in-Fun.f c.in-Fun.arity c.requires.block.1.1 c.in-Fun.is in
    let w = b.within in
    let ready = ready-row s.heap s.heap.names refl c.known.ensures.few nodes laid r c.args.place built (omega (arith, w)) (suc c.args.place) c.in-Fun.arity (omega (arith, w)) (λ j lo hi. b.arguments j (omega (arith, lo)) (omega (arith, hi))) in
    let h = c.gather.new.heap in
    let xs = c.gather.new.block.items in
    let adds = c.in_ok-gather.ensures.grows in
    let got = gathered-here h s.slots.items c.deref.result.now r nodes c.args.place c.in-Fun.arity xs c.in_ok-gather.field-0 Whole c.deref.ensures.value c.in-Whole.is c.in_ok-gather.ensures.ok in
    rw c.deref-in-Whole.ensures.value (good-parts e h adds c.self.invariant r row xs (ready-all s.heap h adds r row ready) got.0)

pub build-requires-in-One-clause-functor : goal.build-requires-in-One-clause-functor
build-requires-in-One-clause-functor c =
    let laid = rw (← c.self.view_is) at c.requires.laid in
    let built = rw (← c.self.view_is) at c.requires.built in
    let s = c.self.inside in
    let e : Env = record { heap = s.heap; slots = s.slots.items; noted = s.noted.items; boundary = s.boundary; count = s.count } in
    let nodes = c.args.nodes.now in
    let r = c.args.run.now in
    let row = take c.in-Fun.arity (drop (suc c.args.place) nodes) in
    let b = block-here nodes r.from c.args.place c.requires.block.0 c.requires.block.1.0 c.in-Fun.f c.in-Fun.arity c.requires.block.1.1 c.in-Fun.is in
    let w = b.within in
    let h = c.gather.new.heap in
    let xs = c.gather.new.block.items in
    let adds = c.in_ok-gather.ensures.grows in
    let got = gathered-here h s.slots.items c.deref.result.now r nodes c.args.place c.in-Fun.arity xs c.in_ok-gather.field-0 (One c.in-One.at c.in-One.number) c.deref.ensures.value c.in-One.is c.in_ok-gather.ensures.ok in
    let many : length c.deref-in-One.result.now ≡ c.in-Fun.arity = omega (arith, ap length c.deref-in-One.ensures.value, parts-length h s.slots.items r row xs got.0, row-length nodes (suc c.args.place) c.in-Fun.arity (omega (arith, w))) in
    functor-of nodes s.heap.names h.names r.from c.args.place c.in-Fun.f c.in-Fun.arity (length c.deref-in-One.result.now) laid b adds.grows.names many

pub build-requires-in-One-clause-parts : goal.build-requires-in-One-clause-parts
build-requires-in-One-clause-parts c =
    let laid = rw (← c.self.view_is) at c.requires.laid in
    let built = rw (← c.self.view_is) at c.requires.built in
    let s = c.self.inside in
    let e : Env = record { heap = s.heap; slots = s.slots.items; noted = s.noted.items; boundary = s.boundary; count = s.count } in
    let nodes = c.args.nodes.now in
    let r = c.args.run.now in
    let row = take c.in-Fun.arity (drop (suc c.args.place) nodes) in
    let b = block-here nodes r.from c.args.place c.requires.block.0 c.requires.block.1.0 c.in-Fun.f c.in-Fun.arity c.requires.block.1.1 c.in-Fun.is in
    let w = b.within in
    let ready = ready-row s.heap s.heap.names refl c.known.ensures.few nodes laid r c.args.place built (omega (arith, w)) (suc c.args.place) c.in-Fun.arity (omega (arith, w)) (λ j lo hi. b.arguments j (omega (arith, lo)) (omega (arith, hi))) in
    let h = c.gather.new.heap in
    let xs = c.gather.new.block.items in
    let adds = c.in_ok-gather.ensures.grows in
    let got = gathered-here h s.slots.items c.deref.result.now r nodes c.args.place c.in-Fun.arity xs c.in_ok-gather.field-0 (One c.in-One.at c.in-One.number) c.deref.ensures.value c.in-One.is c.in_ok-gather.ensures.ok in
    rw c.deref-in-One.ensures.value (good-parts e h adds c.self.invariant r row xs (ready-all s.heap h adds r row ready) got.0)

pub returns-in_err-build-in-Whole-clause-stays : goal.returns-in_err-build-in-Whole-clause-stays
returns-in_err-build-in-Whole-clause-stays c =
    rw (← c.self.view_is) (
    let s = c.self.inside in
    let e : Env = record { heap = s.heap; slots = s.slots.items; noted = s.noted.items; boundary = s.boundary; count = s.count } in
    rw c.in_err-build-in-Whole.ensures.err (stays-grown e c.gather.new.heap c.in_ok-gather.ensures.grows.grows.values c.in_ok-gather.ensures.grows.grows.keeps c.self.invariant))

pub invariant_of-self-in-Whole : goal.invariant_of-self-in-Whole
invariant_of-self-in-Whole c =
    let s = c.self.inside in
    let e : Env = record { heap = s.heap; slots = s.slots.items; noted = s.noted.items; boundary = s.boundary; count = s.count } in
    let nodes = c.args.nodes.now in
    let r = c.args.run.now in
    let row = take c.in-Fun.arity (drop (suc c.args.place) nodes) in
    let b = block-here nodes r.from c.args.place c.requires.block.0 c.requires.block.1.0 c.in-Fun.f c.in-Fun.arity c.requires.block.1.1 c.in-Fun.is in
    let w = b.within in
    let h = c.gather.new.heap in
    let xs = c.gather.new.block.items in
    let adds = c.in_ok-gather.ensures.grows in
    let got = gathered-here h s.slots.items c.deref.result.now r nodes c.args.place c.in-Fun.arity xs c.in_ok-gather.field-0 Whole c.deref.ensures.value c.in-Whole.is c.in_ok-gather.ensures.ok in
    let none : numbers_of c.deref-in-Whole.result.now ≡ [] = ap numbers_of c.deref-in-Whole.ensures.value ∙ got.1 in
    let made = c.in_ok-build-in-Whole.ensures.ok in
    slots-built e h c.build.new.self adds made.grows c.self.invariant (λ m f. made.fresh m f (λ j lt at. absurd (omega (arith, lt, ap length none))))

pub returns-in_ok-build-in-Whole-clause-stays : goal.returns-in_ok-build-in-Whole-clause-stays
returns-in_ok-build-in-Whole-clause-stays c =
    rw (← c.self.view_is) (
    let s = c.self.inside in
    let e : Env = record { heap = s.heap; slots = s.slots.items; noted = s.noted.items; boundary = s.boundary; count = s.count } in
    stays-built e c.gather.new.heap c.build.new.self c.in_ok-gather.ensures.grows c.in_ok-build-in-Whole.ensures.ok.grows c.self.invariant)

pub returns-in_ok-build-in-Whole-clause-some : goal.returns-in_ok-build-in-Whole-clause-some
returns-in_ok-build-in-Whole-clause-some c =
    let laid = rw (← c.self.view_is) at c.requires.laid in
    let built = rw (← c.self.view_is) at c.requires.built in
    rw (← c.self.view_is) (λ k some.
    let s = c.self.inside in
    let e : Env = record { heap = s.heap; slots = s.slots.items; noted = s.noted.items; boundary = s.boundary; count = s.count } in
    let nodes = c.args.nodes.now in
    let r = c.args.run.now in
    let row = take c.in-Fun.arity (drop (suc c.args.place) nodes) in
    let b = block-here nodes r.from c.args.place c.requires.block.0 c.requires.block.1.0 c.in-Fun.f c.in-Fun.arity c.requires.block.1.1 c.in-Fun.is in
    let w = b.within in
    let h = c.gather.new.heap in
    let xs = c.gather.new.block.items in
    let adds = c.in_ok-gather.ensures.grows in
    let got = gathered-here h s.slots.items c.deref.result.now r nodes c.args.place c.in-Fun.arity xs c.in_ok-gather.field-0 Whole c.deref.ensures.value c.in-Whole.is c.in_ok-gather.ensures.ok in
    let same : c.in-Fun.arity ≡ k = (cc) in
    let made = subst (λ ys. AddsBlock h c.build.new.self c.in_ok-build-in-Whole.field-0 (functor_name h.names c.in-Fun.f) (map (stands_for h) ys) (numbers_of ys)) c.deref-in-Whole.ensures.value c.in_ok-build-in-Whole.ensures.ok in
    subst (PutsBlock e (over_heap e c.build.new.self e.count) nodes r c.args.place) same
    (puts-block e h c.build.new.self adds c.self.invariant nodes laid r c.args.place c.in-Fun.f c.in-Fun.arity b built xs got.0 c.in_ok-build-in-Whole.field-0 made))

pub offset_bounds-row-at : goal.offset_bounds-row-at
offset_bounds-row-at c =
    let s = c.self.inside in
    let e : Env = record { heap = s.heap; slots = s.slots.items; noted = s.noted.items; boundary = s.boundary; count = s.count } in
    let nodes = c.args.nodes.now in
    let r = c.args.run.now in
    let row = take c.in-Fun.arity (drop (suc c.args.place) nodes) in
    let b = block-here nodes r.from c.args.place c.requires.block.0 c.requires.block.1.0 c.in-Fun.f c.in-Fun.arity c.requires.block.1.1 c.in-Fun.is in
    let w = b.within in
    let h = c.gather.new.heap in
    let xs = c.gather.new.block.items in
    let adds = c.in_ok-gather.ensures.grows in
    let got = gathered-here h s.slots.items c.deref.result.now r nodes c.args.place c.in-Fun.arity xs c.in_ok-gather.field-0 (One c.in-One.at c.in-One.number) c.deref.ensures.value c.in-One.is c.in_ok-gather.ensures.ok in
    let many = parts-length h s.slots.items r row xs got.0 in
    let all = row-length nodes (suc c.args.place) c.in-Fun.arity (omega (arith, w)) in
    omega (arith, got.1.1, many, all, c.type_inv.arity)

pub bounds-in-One : goal.bounds-in-One
bounds-in-One c =
    let s = c.self.inside in
    let e : Env = record { heap = s.heap; slots = s.slots.items; noted = s.noted.items; boundary = s.boundary; count = s.count } in
    let nodes = c.args.nodes.now in
    let r = c.args.run.now in
    let row = take c.in-Fun.arity (drop (suc c.args.place) nodes) in
    let b = block-here nodes r.from c.args.place c.requires.block.0 c.requires.block.1.0 c.in-Fun.f c.in-Fun.arity c.requires.block.1.1 c.in-Fun.is in
    let w = b.within in
    let h = c.gather.new.heap in
    let xs = c.gather.new.block.items in
    let adds = c.in_ok-gather.ensures.grows in
    let got = gathered-here h s.slots.items c.deref.result.now r nodes c.args.place c.in-Fun.arity xs c.in_ok-gather.field-0 (One c.in-One.at c.in-One.number) c.deref.ensures.value c.in-One.is c.in_ok-gather.ensures.ok in
    let many = parts-length h s.slots.items r row xs got.0 in
    let all = row-length nodes (suc c.args.place) c.in-Fun.arity (omega (arith, w)) in
    omega (arith, got.1.1, many, ap length (row-slice nodes c.args.place c.in-Fun.arity))

pub bounds-row-at : goal.bounds-row-at
bounds-row-at c =
    let s = c.self.inside in
    let e : Env = record { heap = s.heap; slots = s.slots.items; noted = s.noted.items; boundary = s.boundary; count = s.count } in
    let nodes = c.args.nodes.now in
    let r = c.args.run.now in
    let row = take c.in-Fun.arity (drop (suc c.args.place) nodes) in
    let b = block-here nodes r.from c.args.place c.requires.block.0 c.requires.block.1.0 c.in-Fun.f c.in-Fun.arity c.requires.block.1.1 c.in-Fun.is in
    let w = b.within in
    let h = c.gather.new.heap in
    let xs = c.gather.new.block.items in
    let adds = c.in_ok-gather.ensures.grows in
    let got = gathered-here h s.slots.items c.deref.result.now r nodes c.args.place c.in-Fun.arity xs c.in_ok-gather.field-0 (One c.in-One.at c.in-One.number) c.deref.ensures.value c.in-One.is c.in_ok-gather.ensures.ok in
    let many = parts-length h s.slots.items r row xs got.0 in
    let all = row-length nodes (suc c.args.place) c.in-Fun.arity (omega (arith, w)) in
    omega (arith, got.1.1, many, ap length (row-slice nodes c.args.place c.in-Fun.arity))

pub unreachable-requires-in_default-row : goal.unreachable-requires-in_default-row
unreachable-requires-in_default-row c =
    let s = c.self.inside in
    let e : Env = record { heap = s.heap; slots = s.slots.items; noted = s.noted.items; boundary = s.boundary; count = s.count } in
    let nodes = c.args.nodes.now in
    let r = c.args.run.now in
    let row = take c.in-Fun.arity (drop (suc c.args.place) nodes) in
    let b = block-here nodes r.from c.args.place c.requires.block.0 c.requires.block.1.0 c.in-Fun.f c.in-Fun.arity c.requires.block.1.1 c.in-Fun.is in
    let w = b.within in
    let h = c.gather.new.heap in
    let xs = c.gather.new.block.items in
    let adds = c.in_ok-gather.ensures.grows in
    let got = gathered-here h s.slots.items c.deref.result.now r nodes c.args.place c.in-Fun.arity xs c.in_ok-gather.field-0 (One c.in-One.at c.in-One.number) c.deref.ensures.value c.in-One.is c.in_ok-gather.ensures.ok in
    let part = subst (IsPart h s.slots.items r (node_at row c.in-One.at)) got.1.2 (part-of-node h s.slots.items r row xs c.in-One.at _ got.0 got.1.1) in
    let v = variable-node h s.slots.items r (node_at row c.in-One.at) c.in-One.number part in
    c.in_default-row.not-Var v.0 (ap (λ ns. node_at ns c.in-One.at) (row-slice nodes c.args.place c.in-Fun.arity) ∙ v.1)

pub overflow_cast-slot_number : goal.overflow_cast-slot_number
overflow_cast-slot_number c =
    let s = c.self.inside in
    let e : Env = record { heap = s.heap; slots = s.slots.items; noted = s.noted.items; boundary = s.boundary; count = s.count } in
    let nodes = c.args.nodes.now in
    let r = c.args.run.now in
    let row = take c.in-Fun.arity (drop (suc c.args.place) nodes) in
    let b = block-here nodes r.from c.args.place c.requires.block.0 c.requires.block.1.0 c.in-Fun.f c.in-Fun.arity c.requires.block.1.1 c.in-Fun.is in
    let w = b.within in
    let h = c.gather.new.heap in
    let xs = c.gather.new.block.items in
    let adds = c.in_ok-gather.ensures.grows in
    let got = gathered-here h s.slots.items c.deref.result.now r nodes c.args.place c.in-Fun.arity xs c.in_ok-gather.field-0 (One c.in-One.at c.in-One.number) c.deref.ensures.value c.in-One.is c.in_ok-gather.ensures.ok in
    let slice = ap (λ ns. node_at ns c.in-One.at) (row-slice nodes c.args.place c.in-Fun.arity) in
    let node : node_at row c.in-One.at ≡ Var c.in-Var.s = sym slice ∙ c.in-Var.is in
    let part = subst (λ n. IsPart h s.slots.items r n (Variable c.in-One.number)) node (subst (IsPart h s.slots.items r (node_at row c.in-One.at)) got.1.2 (part-of-node h s.slots.items r row xs c.in-One.at _ got.0 got.1.1)) in
    let slot = free-slot s.slots.items (r.base + c.in-Var.s) c.in-One.number (sym part) in
    omega (arith, slot.0, c.self.invariant.few)

pub index_mut-requires : goal.index_mut-requires
index_mut-requires c =
    let s = c.self.inside in
    let e : Env = record { heap = s.heap; slots = s.slots.items; noted = s.noted.items; boundary = s.boundary; count = s.count } in
    let nodes = c.args.nodes.now in
    let r = c.args.run.now in
    let row = take c.in-Fun.arity (drop (suc c.args.place) nodes) in
    let b = block-here nodes r.from c.args.place c.requires.block.0 c.requires.block.1.0 c.in-Fun.f c.in-Fun.arity c.requires.block.1.1 c.in-Fun.is in
    let w = b.within in
    let h = c.gather.new.heap in
    let xs = c.gather.new.block.items in
    let adds = c.in_ok-gather.ensures.grows in
    let got = gathered-here h s.slots.items c.deref.result.now r nodes c.args.place c.in-Fun.arity xs c.in_ok-gather.field-0 (One c.in-One.at c.in-One.number) c.deref.ensures.value c.in-One.is c.in_ok-gather.ensures.ok in
    let slice = ap (λ ns. node_at ns c.in-One.at) (row-slice nodes c.args.place c.in-Fun.arity) in
    let node : node_at row c.in-One.at ≡ Var c.in-Var.s = sym slice ∙ c.in-Var.is in
    let part = subst (λ n. IsPart h s.slots.items r n (Variable c.in-One.number)) node (subst (IsPart h s.slots.items r (node_at row c.in-One.at)) got.1.2 (part-of-node h s.slots.items r row xs c.in-One.at _ got.0 got.1.1)) in
    let slot = free-slot s.slots.items (r.base + c.in-Var.s) c.in-One.number (sym part) in
    omega (arith, slot.0, s.slots.ok.0)

pub returns-in_err-note-in-One-clause-stays : goal.returns-in_err-note-in-One-clause-stays
returns-in_err-note-in-One-clause-stays c =
    rw (← c.self.view_is) (
    let s = c.self.inside in
    let e : Env = record { heap = s.heap; slots = s.slots.items; noted = s.noted.items; boundary = s.boundary; count = s.count } in
    rw c.in_err-note-in-One.ensures.err (stays-grown e c.gather.new.heap c.in_ok-gather.ensures.grows.grows.values c.in_ok-gather.ensures.grows.grows.keeps c.self.invariant))

pub returns-in_err-p-in-One-clause-stays : goal.returns-in_err-p-in-One-clause-stays
returns-in_err-p-in-One-clause-stays c =
    rw (← c.self.view_is) (
    let s = c.self.inside in
    let e : Env = record { heap = s.heap; slots = s.slots.items; noted = s.noted.items; boundary = s.boundary; count = s.count } in
    let nodes = c.args.nodes.now in
    let r = c.args.run.now in
    let row = take c.in-Fun.arity (drop (suc c.args.place) nodes) in
    let b = block-here nodes r.from c.args.place c.requires.block.0 c.requires.block.1.0 c.in-Fun.f c.in-Fun.arity c.requires.block.1.1 c.in-Fun.is in
    let w = b.within in
    let h = c.gather.new.heap in
    let xs = c.gather.new.block.items in
    let adds = c.in_ok-gather.ensures.grows in
    let got = gathered-here h s.slots.items c.deref.result.now r nodes c.args.place c.in-Fun.arity xs c.in_ok-gather.field-0 (One c.in-One.at c.in-One.number) c.deref.ensures.value c.in-One.is c.in_ok-gather.ensures.ok in
    let slice = ap (λ ns. node_at ns c.in-One.at) (row-slice nodes c.args.place c.in-Fun.arity) in
    let node : node_at row c.in-One.at ≡ Var c.in-Var.s = sym slice ∙ c.in-Var.is in
    let part = subst (λ n. IsPart h s.slots.items r n (Variable c.in-One.number)) node (subst (IsPart h s.slots.items r (node_at row c.in-One.at)) got.1.2 (part-of-node h s.slots.items r row xs c.in-One.at _ got.0 got.1.1)) in
    let slot = free-slot s.slots.items (r.base + c.in-Var.s) c.in-One.number (sym part) in
    rw (c.in_ok-note-in-One.ensures.ok, c.in_err-p-in-One.ensures.err) (Stays-trans e (over_heap e h e.count) _ (stays-grown e h adds.grows.values adds.grows.keeps c.self.invariant) (stays-noted (over_heap e h e.count) (r.base + c.in-Var.s) c.in-One.number slot.1)))

pub invariant_of-self-in-One : goal.invariant_of-self-in-One
invariant_of-self-in-One c =
    let s = c.self.inside in
    let e : Env = record { heap = s.heap; slots = s.slots.items; noted = s.noted.items; boundary = s.boundary; count = s.count } in
    let nodes = c.args.nodes.now in
    let r = c.args.run.now in
    let row = take c.in-Fun.arity (drop (suc c.args.place) nodes) in
    let b = block-here nodes r.from c.args.place c.requires.block.0 c.requires.block.1.0 c.in-Fun.f c.in-Fun.arity c.requires.block.1.1 c.in-Fun.is in
    let w = b.within in
    let h = c.gather.new.heap in
    let xs = c.gather.new.block.items in
    let adds = c.in_ok-gather.ensures.grows in
    let got = gathered-here h s.slots.items c.deref.result.now r nodes c.args.place c.in-Fun.arity xs c.in_ok-gather.field-0 (One c.in-One.at c.in-One.number) c.deref.ensures.value c.in-One.is c.in_ok-gather.ensures.ok in
    let slice = ap (λ ns. node_at ns c.in-One.at) (row-slice nodes c.args.place c.in-Fun.arity) in
    let node : node_at row c.in-One.at ≡ Var c.in-Var.s = sym slice ∙ c.in-Var.is in
    let part = subst (λ n. IsPart h s.slots.items r n (Variable c.in-One.number)) node (subst (IsPart h s.slots.items r (node_at row c.in-One.at)) got.1.2 (part-of-node h s.slots.items r row xs c.in-One.at _ got.0 got.1.1)) in
    let slot = free-slot s.slots.items (r.base + c.in-Var.s) c.in-One.number (sym part) in
    let new = c.build-in-One.new.self in
    let p = c.in_ok-p-in-One.p in
    let cell = c.arg.result in
    let made = subst (λ ys. AddsBlock h new p (functor_name h.names c.in-Fun.f) (map (stands_for h) ys) (numbers_of ys)) c.deref-in-One.ensures.value c.in_ok-p-in-One.ensures.ok in
    let fits = one-fits h new p (functor_name h.names c.in-Fun.f) xs made c.in-One.at c.in-One.number cell got.1.1 got.1.2 (omega (arith, c.arg.ensures)) in
    let is = one-is h new p (functor_name h.names c.in-Fun.f) xs made c.in-One.at c.in-One.number cell got.1.1 got.1.2 (omega (arith, c.arg.ensures)) in
    rw c.in_ok-note-in-One.ensures.ok (slots-one e h new adds c.self.invariant (r.base + c.in-Var.s) c.in-One.number cell slot.0 slot.1 made.grows fits is (λ m f ne. made.fresh m f (one-other (numbers_of xs) c.in-One.number m got.1.0 ne)))

pub returns-in_ok-p-in-One-clause-stays : goal.returns-in_ok-p-in-One-clause-stays
returns-in_ok-p-in-One-clause-stays c =
    rw (← c.self.view_is) (
    let s = c.self.inside in
    let e : Env = record { heap = s.heap; slots = s.slots.items; noted = s.noted.items; boundary = s.boundary; count = s.count } in
    let nodes = c.args.nodes.now in
    let r = c.args.run.now in
    let row = take c.in-Fun.arity (drop (suc c.args.place) nodes) in
    let b = block-here nodes r.from c.args.place c.requires.block.0 c.requires.block.1.0 c.in-Fun.f c.in-Fun.arity c.requires.block.1.1 c.in-Fun.is in
    let w = b.within in
    let h = c.gather.new.heap in
    let xs = c.gather.new.block.items in
    let adds = c.in_ok-gather.ensures.grows in
    let got = gathered-here h s.slots.items c.deref.result.now r nodes c.args.place c.in-Fun.arity xs c.in_ok-gather.field-0 (One c.in-One.at c.in-One.number) c.deref.ensures.value c.in-One.is c.in_ok-gather.ensures.ok in
    let slice = ap (λ ns. node_at ns c.in-One.at) (row-slice nodes c.args.place c.in-Fun.arity) in
    let node : node_at row c.in-One.at ≡ Var c.in-Var.s = sym slice ∙ c.in-Var.is in
    let part = subst (λ n. IsPart h s.slots.items r n (Variable c.in-One.number)) node (subst (IsPart h s.slots.items r (node_at row c.in-One.at)) got.1.2 (part-of-node h s.slots.items r row xs c.in-One.at _ got.0 got.1.1)) in
    let slot = free-slot s.slots.items (r.base + c.in-Var.s) c.in-One.number (sym part) in
    let new = c.build-in-One.new.self in
    let p = c.in_ok-p-in-One.p in
    let cell = c.arg.result in
    let made = subst (λ ys. AddsBlock h new p (functor_name h.names c.in-Fun.f) (map (stands_for h) ys) (numbers_of ys)) c.deref-in-One.ensures.value c.in_ok-p-in-One.ensures.ok in
    let fits = one-fits h new p (functor_name h.names c.in-Fun.f) xs made c.in-One.at c.in-One.number cell got.1.1 got.1.2 (omega (arith, c.arg.ensures)) in
    let is = one-is h new p (functor_name h.names c.in-Fun.f) xs made c.in-One.at c.in-One.number cell got.1.1 got.1.2 (omega (arith, c.arg.ensures)) in
    rw c.in_ok-note-in-One.ensures.ok (stays-one e h new adds c.self.invariant (r.base + c.in-Var.s) c.in-One.number cell slot.0 slot.1 made.grows fits is))

pub returns-in_ok-p-in-One-clause-some : goal.returns-in_ok-p-in-One-clause-some
returns-in_ok-p-in-One-clause-some c =
    let laid = rw (← c.self.view_is) at c.requires.laid in
    let built = rw (← c.self.view_is) at c.requires.built in
    rw (← c.self.view_is) (λ k some.
    let s = c.self.inside in
    let e : Env = record { heap = s.heap; slots = s.slots.items; noted = s.noted.items; boundary = s.boundary; count = s.count } in
    let nodes = c.args.nodes.now in
    let r = c.args.run.now in
    let row = take c.in-Fun.arity (drop (suc c.args.place) nodes) in
    let b = block-here nodes r.from c.args.place c.requires.block.0 c.requires.block.1.0 c.in-Fun.f c.in-Fun.arity c.requires.block.1.1 c.in-Fun.is in
    let w = b.within in
    let h = c.gather.new.heap in
    let xs = c.gather.new.block.items in
    let adds = c.in_ok-gather.ensures.grows in
    let got = gathered-here h s.slots.items c.deref.result.now r nodes c.args.place c.in-Fun.arity xs c.in_ok-gather.field-0 (One c.in-One.at c.in-One.number) c.deref.ensures.value c.in-One.is c.in_ok-gather.ensures.ok in
    let new = c.build-in-One.new.self in
    let p = c.in_ok-p-in-One.p in
    let cell = c.arg.result in
    let made = subst (λ ys. AddsBlock h new p (functor_name h.names c.in-Fun.f) (map (stands_for h) ys) (numbers_of ys)) c.deref-in-One.ensures.value c.in_ok-p-in-One.ensures.ok in
    let fits = one-fits h new p (functor_name h.names c.in-Fun.f) xs made c.in-One.at c.in-One.number cell got.1.1 got.1.2 (omega (arith, c.arg.ensures)) in
    let is = one-is h new p (functor_name h.names c.in-Fun.f) xs made c.in-One.at c.in-One.number cell got.1.1 got.1.2 (omega (arith, c.arg.ensures)) in
    let same : c.in-Fun.arity ≡ k = (cc) in
    let x = subst (PutsBlock e (over_heap e new e.count) nodes r c.args.place) same
    (puts-block e h new adds c.self.invariant nodes laid r c.args.place c.in-Fun.f c.in-Fun.arity b built xs got.0 p made) in
    record { functor = x.functor; head = x.head; built = x.built; stand = x.stand })

pub returns-in-Several-clause-stays : goal.returns-in-Several-clause-stays
returns-in-Several-clause-stays c =
    rw (← c.self.view_is) (
    let s = c.self.inside in
    let e : Env = record { heap = s.heap; slots = s.slots.items; noted = s.noted.items; boundary = s.boundary; count = s.count } in
    stays-grown e c.gather.new.heap c.in_ok-gather.ensures.grows.grows.values c.in_ok-gather.ensures.grows.grows.keeps c.self.invariant)

pub returns-in-Several-clause-none : goal.returns-in-Several-clause-none
returns-in-Several-clause-none c = λ none f k given.
    rw (← c.self.view_is) (
    let s = c.self.inside in
    let e : Env = record { heap = s.heap; slots = s.slots.items; noted = s.noted.items; boundary = s.boundary; count = s.count } in
    let nodes = c.args.nodes.now in
    let r = c.args.run.now in
    let w = given.within in
    let h = c.gather.new.heap in
    let xs = c.gather.new.block.items in
    let heads : Fun f k ≡ Fun c.in-Fun.f c.in-Fun.arity = sym given.head ∙ c.in-Fun.is in
    let many : c.in-Fun.arity ≡ k = (cc) in
    let free = gathered-here h s.slots.items c.deref.result.now r nodes c.args.place c.in-Fun.arity xs c.in_ok-gather.field-0 Several c.deref.ensures.value c.in-Several.is c.in_ok-gather.ensures.ok in
    has-free-block s.slots.items r.base nodes c.args.place k (omega (arith, w)) (subst (λ i. HasFree s.slots.items r.base (take i (drop (suc c.args.place) nodes)) 0 (length (take i (drop (suc c.args.place) nodes)))) many free))
