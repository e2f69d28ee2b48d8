use Rattle.std.proofs.Common.{◌++◌, ◌∙◌, IfOk, sym, subst, map}
use Rattle.plterm.specs.Tree.{compound, trees}
use Rattle.platoms.specs.Names.{functor_name, atom_at}
use Rattle.plcells.specs.Store.{AreValues, AddsValue, value}
use Rattle.plcells.specs.Putting.{PutsTerm}
use Rattle.plcells.proofs.Putting.{Preserves-refl, values-stay}
use Rattle.plgoals.proofs.Walking.{values-append}
use Rattle.plgoals.proofs.Joining.{joined, if_ok}
use Rattle.plgoals.proofs.extend.join.Goals as goal

pub returns-in_err-extend_from_slice-clause-preserves : goal.returns-in_err-extend_from_slice-clause-preserves
returns-in_err-extend_from_slice-clause-preserves c = Preserves-refl c.args.heap.now

pub compound-requires-clause-values : goal.compound-requires-clause-values
compound-requires-clause-values c =
    let h = c.args.heap.now in
    let vs = c.args.own.items ++ c.args.further.now in
    let e = c.deref.ensures.value ∙ c.in_ok-extend_from_slice.ensures.items in
    subst (AreValues c.functor.new.self) (sym e) (values-stay h c.functor.new.self vs c.in_ok-f.ensures.preserves (values-append h c.args.own.items c.args.further.now c.requires.own c.requires.further))

pub returns-clause-ok : goal.returns-clause-ok
returns-clause-ok c =
    let h = c.args.heap.now in
    let mid = c.functor.new.self in
    let new = c.compound.new.self in
    let f = c.in_ok-f.f in
    let vs = c.args.own.items ++ c.args.further.now in
    let e = c.deref.ensures.value ∙ c.in_ok-extend_from_slice.ensures.items in
    let are = values-append h c.args.own.items c.args.further.now c.requires.own c.requires.further in
    let made = subst (λ ws. IfOk c.compound.result (λ v. AddsValue mid new v (compound (functor_name mid.names f) (trees (map (value mid) ws))))) e c.compound.ensures.ok in
    if_ok (λ v. AddsValue mid new v (compound (functor_name mid.names f) (trees (map (value mid) vs)))) (λ v. PutsTerm h new v (compound (atom_at h.names c.args.atom) (trees (map (value h) vs)))) c.compound.result
    (λ v adds. joined h mid new c.args.atom _ f v vs c.requires.atom c.in_ok-f.ensures.is c.in_ok-f.ensures.same c.in_ok-f.ensures.preserves are adds) made
