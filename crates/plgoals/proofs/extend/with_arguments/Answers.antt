use Rattle.std.proofs.Common.{◌≡◌, suc, ◌∙◌, sym, ap, arith}
use Rattle.plterm.specs.Tree.{compound, trees}
use Rattle.platoms.specs.Names.{atom_at, functor_at, functor_name}
use Rattle.plcells.specs.Store.{terms}
use Rattle.plcells.proofs.Putting.{Preserves-refl, adds-none}
use Rattle.plgoals.proofs.Shapes.{end-variable}
use Rattle.plgoals.proofs.Joining.{arguments-length, extends-compound, extends-long, extends-variable}
use Rattle.plgoals.proofs.extend.with_arguments.Goals as goal

pub returns-then-count-further-gt-ARITY-clause-is : goal.returns-then-count-further-gt-ARITY-clause-is
returns-then-count-further-gt-ARITY-clause-is c =
    let h = c.args.heap.now in
    let is = sym c.in-Str.ensures.same ∙ c.block-f.ensures.block.is in
    extends-long h h c.args.v _ c.in-Str.p c.block-f.result.1 c.args.further.now is (omega (arith, c.if-count-further-gt-ARITY.true))

pub returns-then-count-further-gt-ARITY-clause-adds : goal.returns-then-count-further-gt-ARITY-clause-adds
returns-then-count-further-gt-ARITY-clause-adds c = adds-none c.args.heap.now

pub returns-then-count-further-gt-ARITY-clause-preserves : goal.returns-then-count-further-gt-ARITY-clause-preserves
returns-then-count-further-gt-ARITY-clause-preserves c = Preserves-refl c.args.heap.now

pub returns-in_err-own-in-Str-clause-preserves : goal.returns-in_err-own-in-Str-clause-preserves
returns-in_err-own-in-Str-clause-preserves c = Preserves-refl c.args.heap.now

pub returns-in-Ref-clause-adds : goal.returns-in-Ref-clause-adds
returns-in-Ref-clause-adds c = adds-none c.args.heap.now

pub returns-in-Ref-clause-preserves : goal.returns-in-Ref-clause-preserves
returns-in-Ref-clause-preserves c = Preserves-refl c.args.heap.now

pub returns-in-Int-clause-adds : goal.returns-in-Int-clause-adds
returns-in-Int-clause-adds c = adds-none c.args.heap.now

pub returns-in-Int-clause-preserves : goal.returns-in-Int-clause-preserves
returns-in-Int-clause-preserves c = Preserves-refl c.args.heap.now

pub returns-in-Ref-clause-is : goal.returns-in-Ref-clause-is
returns-in-Ref-clause-is c =
    let h = c.args.heap.now in
    let e = c.in-Ref.ensures in
    let x = end-variable h c.in-Ref.field-0 e.heap e.end in
    extends-variable h c.args.v c.args.further.now x.0 (sym e.same ∙ x.1)

pub join-requires-in-Str-clause-few : goal.join-requires-in-Str-clause-few
join-requires-in-Str-clause-few c =
    let h = c.args.heap.now in
    omega (arith, arguments-length h c.in-Str.p c.block-f.result.1 c.in_ok-own-in-Str.own.items c.in_ok-own-in-Str.ensures, c.if-count-further-gt-ARITY.false)

pub returns-in_ok-made-in-Str-clause-is : goal.returns-in_ok-made-in-Str-clause-is
returns-in_ok-made-in-Str-clause-is c =
    let h = c.args.heap.now in
    let f = c.block-f.result.0 in
    let k = c.block-f.result.1 in
    let p = c.in-Str.p in
    let named : atom_at h.names c.functor_of-name.result.name ≡ functor_name h.names f = ap (λ x. atom_at h.names x.name) (c.functor_of-name.ensures.is ∙ ap (λ t. functor_at t f) c.names.ensures) in
    let is = sym c.in-Str.ensures.same ∙ c.block-f.ensures.block.is ∙ ap (λ s. compound s (trees (terms h (suc p) k))) (sym named) in
    extends-compound h c.join-in-Str.new.heap c.args.v _ p k c.args.further.now is c.in_ok-made-in-Str.made c.in_ok-own-in-Str.own.items c.in_ok-own-in-Str.ensures (omega (arith, c.if-count-further-gt-ARITY.false)) c.in_ok-made-in-Str.ensures.ok
