use Rattle.std.proofs.Common.{◌≡◌, ◌∙◌, ◌+◌, suc, ap, subst, arith}
use Rattle.plsubst.specs.Subst.{bind}
use Rattle.plenv.specs.Env.{Env, over}
use Rattle.plenv.specs.Changes.{Puts}
use Rattle.plenv.specs.Blocks.{block_at, HasFree}
use Rattle.plenv.proofs.Putting.{Stays-trans, Puts-after}
use Rattle.plenv.proofs.Packing.{packed-root, packed-most, arity-same, free-in-row, over-after}
use Rattle.plenv.proofs.env.Environment.put_compound.Goals as goal

pub bounds : goal.bounds
bounds c =
    let b = packed-root c.args.nodes.now c.args.from c.args.root c.args.from c.requires.packed in
    let w = b.1.1.within in
    omega (arith, w)

pub unreachable-requires : goal.unreachable-requires
unreachable-requires c =
    let b = packed-root c.args.nodes.now c.args.from c.args.root c.args.from c.requires.packed in
    c.in_default-nodes.not-Fun b.0 b.1.0 b.1.1.head

pub returns-in_err-put_variables-clause-stays : goal.returns-in_err-put_variables-clause-stays
returns-in_err-put_variables-clause-stays c = Stays-trans c.args.self.now c.put_blocks.new.self c.put_variables.new.self c.in_ok-v.ensures.stays c.in_err-put_variables.ensures.stays

pub slice_bounds-row-count : goal.slice_bounds-row-count
slice_bounds-row-count c = let le = packed-most c.args.nodes.now c.args.from c.args.root c.args.from c.requires.packed in omega (arith, le)

pub slice_bounds-row-start : goal.slice_bounds-row-start
slice_bounds-row-start c = let le = packed-most c.args.nodes.now c.args.from c.args.root c.args.from c.requires.packed in omega (arith, le)

pub slice_bounds-row-end : goal.slice_bounds-row-end
slice_bounds-row-end c =
    let nodes = c.args.nodes.now in
    let b = packed-root nodes c.args.from c.args.root c.args.from c.requires.packed in
    let w = b.1.1.within in
    let many = arity-same nodes c.args.from c.args.root b.0 b.1.0 c.in-Fun.field-0 c.in-Fun.arity b.1.1 c.in-Fun.is in
    omega (arith, w, many)

pub returns-in_err-v-2-clause-stays : goal.returns-in_err-v-2-clause-stays
returns-in_err-v-2-clause-stays c =
    Stays-trans c.args.self.now c.put_blocks.new.self c.put_blocks-2.new.self c.in_ok-v.ensures.stays (Stays-trans c.put_blocks.new.self c.put_variables.new.self c.put_blocks-2.new.self c.in_ok-put_variables.ensures.stays c.in_err-v-2.ensures.stays)

pub unreachable-requires-in_default-2 : goal.unreachable-requires-in_default-2
unreachable-requires-in_default-2 c =
    let nodes = c.args.nodes.now in
    let mid : Env = c.put_variables.new.self in
    let b = packed-root nodes c.args.from c.args.root c.args.from c.requires.packed in
    let w = b.1.1.within in
    let many = arity-same nodes c.args.from c.args.root b.0 b.1.0 c.in-Fun.field-0 c.in-Fun.arity b.1.1 c.in-Fun.is in
    let le = packed-most nodes c.args.from c.args.root c.args.from c.requires.packed in
    let end : suc (c.args.root + c.in-Fun.arity) ≡ c.args.root + 1 + c.in-Fun.arity = omega arith in
    let free = subst (λ j. HasFree mid.slots c.args.base nodes c.args.from j) end (c.in_ok-v-2.ensures.none c.in_default-2.is c.in-Fun.field-0 c.in-Fun.arity c.in-Fun.is) in
    c.in_ok-put_variables.ensures.set (free-in-row mid.slots c.args.base nodes c.args.from (c.args.root + 1 + c.in-Fun.arity) (omega (arith, w, many)) (omega (arith, le)) free)

pub returns-clause-stays : goal.returns-clause-stays
returns-clause-stays c =
    Stays-trans c.args.self.now c.put_blocks.new.self c.put_blocks-2.new.self c.in_ok-v.ensures.stays (Stays-trans c.put_blocks.new.self c.put_variables.new.self c.put_blocks-2.new.self c.in_ok-put_variables.ensures.stays c.in_ok-v-2.ensures.stays)

pub returns-clause-ok : goal.returns-clause-ok
returns-clause-ok c =
    let now : Env = c.args.self.now in
    let mid : Env = c.put_variables.new.self in
    let new : Env = c.put_blocks-2.new.self in
    let nodes = c.args.nodes.now in
    let before = Stays-trans now c.put_blocks.new.self mid c.in_ok-v.ensures.stays c.in_ok-put_variables.ensures.stays in
    let names : mid.heap.names ≡ now.heap.names = c.in_ok-put_variables.ensures.names ∙ c.in_ok-v.ensures.names in
    let same = ap (λ t. bind (over mid c.args.base) (block_at t nodes c.args.root)) names ∙ over-after now mid c.args.base (block_at now.heap.names nodes c.args.root) before c.requires.covers in
    subst (Puts now new c.in-Some-2.v) same
    (Puts-after now mid new c.in-Some-2.v (bind (over mid c.args.base) (block_at mid.heap.names nodes c.args.root)) before (c.in_ok-v-2.ensures.some c.in-Some-2.v c.in-Some-2.is))
