use Rattle.std.proofs.Common.{◌≡◌, ◌<◌, ◌^◌, ◌≤◌, ◌∙◌, ◌∷◌, ◌++◌, ℕ, List, length, take, drop, reverse, subst, ap, arith}
use Rattle.std.proofs.lemmas.List.{length-reverse}
use Rattle.plterm.specs.Tree.{compound, trees}
use Rattle.platoms.specs.Names.{atom_at, functor_name}
use Rattle.platoms.proofs.Extending.{atom_same}
use Rattle.plcode.specs.declared.node.Node.{Node}
use Rattle.plcode.specs.declared.node.Node.TheVariants.{Fun, Sub}
use Rattle.plcode.specs.Laying.{lowest, Waits}
use Rattle.plcode.proofs.Waiting.{Waits-names, Waits-block}
use Rattle.plcode.proofs.lay.put_compound.Goals as goal

pub returns-clause-waits : goal.returns-clause-waits
returns-clause-waits c ts h =
    let named = c.in_ok-name.ensures.is in
    let is = c.in_ok-functor.ensures.is in
    let s = c.atom.new.self in
    let t = c.functor.new.self in
    let old = c.args.nodes.now.items in
    let w = reverse c.args.waiting.now.items in
    let f = c.in_ok-functor.functor in
    let k = c.args.arity in
    let from = lowest (length old) (take k w) in
    let name : functor_name t f ≡ c.args.name.now =
    ap (λ g. atom_at t g.name) is.is ∙ atom_same s t c.functor.ensures.extends c.in_ok-name.name named.within ∙ named.is in
    let room : k ≤ length w = omega (arith, c.requires.room, length-reverse c.args.waiting.now.items) in
    let Few : List Node → Type 0 = λ ns. length ns < 2 ^ 32 in
    let few = subst Few c.in_ok-put_block.ensures.nodes c.in_ok-put_block.ensures.few in
    let P : List ℕ → Type 0 = λ name. Waits t (old ++ Fun f k ∷ take k w) (Sub from (length old) ∷ drop k w) (compound name (trees (take k ts)) ∷ drop k ts) in
    rw (c.in_ok-put_block.ensures.nodes, c.in_ok-put_block.ensures.waiting)
    (subst P name
    (Waits-block t old w ts f k
    (Waits-names s t old w ts c.functor.ensures.extends c.functor.ensures.table
    (Waits-names c.args.names.now s old w ts c.atom.ensures.extends c.atom.ensures.table h)) room (is.within, ap (λ g. g.arity) is.is) few))
