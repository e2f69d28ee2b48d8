use Rattle.std.proofs.Common.{◌≡◌, IfOk, map, length, subst, ap, arith}
use Rattle.platoms.specs.Names.{functor_name}
use Rattle.plcells.specs.Store.{AddsBlock}
use Rattle.plcells.specs.Blocks.{numbers_of, stands_for}
use Rattle.plcells.proofs.Given.{given-parts, given-numbers}
use Rattle.plcells.proofs.heap.Heap.put_block.Goals as goal

pub build-requires-clause-parts : goal.build-requires-clause-parts
build-requires-clause-parts c = given-parts c.args.self.now c.args.values.now c.requires.given

pub build-requires-clause-numbers : goal.build-requires-clause-numbers
build-requires-clause-numbers c =
    let none : length (numbers_of c.args.values.now) ≡ 0 = ap length (given-numbers c.args.self.now c.args.values.now c.requires.given) in
    λ j k jl kl e. absurd (omega (arith, jl, none))

pub returns-clause-ok : goal.returns-clause-ok
returns-clause-ok c =
    let h = c.args.self.now in
    let xs = c.args.values.now in
    subst (λ ns. IfOk c.build.result (λ p. AddsBlock h c.build.new.self p (functor_name h.names c.args.f) (map (stands_for h) xs) ns)) (given-numbers h xs c.requires.given) c.build.ensures.ok
