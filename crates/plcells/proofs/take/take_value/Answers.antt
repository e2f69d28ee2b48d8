use Rattle.std.proofs.Common.{◌∙◌, ◌∷◌, ◌<◌, length, refl, sym, ap, subst, arith, rules, w64}
use Rattle.std.proofs.lemmas.Int.{to_z-of_z}
use Rattle.plterm.specs.Tree.{atom, int}
use Rattle.plterm.specs.declared.node.Node.TheVariants.{Var, Atom}
use Rattle.plterm.specs.Reading.{IsName}
use Rattle.platoms.specs.Names.{atom_at, functor_at}
use Rattle.plcells.specs.Store.{IsValue, value}
use Rattle.plcells.specs.Walking.{IsTaken}
use Rattle.plcells.proofs.Taking.{taken-leaf, taken-block}
use Rattle.plcells.proofs.take.take_value.Goals as goal

pub returns-in_ok-push-in-Ref : goal.returns-in_ok-push-in-Ref
returns-in_ok-push-in-Ref c =
    let h = c.args.heap.now in
    let t = sym c.number.ensures.is ∙ ap (value h) (sym c.in-Ref.is) ∙ c.root.ensures.same in
    taken-leaf h _ _ _ _ (Var c.number.result) c.in_ok-push-in-Ref.ensures.items tt refl (λ ts. ap (λ u. u ∷ ts) t)

pub returns-in_ok-push-in-Atom : goal.returns-in_ok-push-in-Atom
returns-in_ok-push-in-Atom c =
    let h = c.args.heap.now in
    let name = c.in_ok-name-in-Atom.name in
    let a = c.in-Atom.a in
    let e = c.in_ok-name-in-Atom.ensures ∙ c.atom_name.ensures.is ∙ ap (λ t. atom_at t a) c.names.ensures in
    let within : a < length h.names.atoms = subst (IsValue h) c.in-Atom.is c.root.ensures.fits in
    let t = ap atom e ∙ ap (value h) (sym c.in-Atom.is) ∙ c.root.ensures.same in
    taken-leaf h _ _ _ _ (Atom name) c.in_ok-push-in-Atom.ensures.items (subst IsName (sym e) (c.root.ensures.heap.names.atoms a within)) refl (λ ts. ap (λ u. u ∷ ts) t)

pub returns-in_ok-push_run-in-Str : goal.returns-in_ok-push_run-in-Str
returns-in_ok-push_run-in-Str c =
    let h = c.args.heap.now in
    let f = c.block-f.result.0 in
    let name = c.in_ok-name-in-Str.name in
    let e =
    c.in_ok-name-in-Str.ensures ∙ c.atom_name-in-Str.ensures.is ∙ ap (λ t. atom_at t c.functor_of-functor.result.name) c.names-in-Str-2.ensures
    ∙ ap (λ k. atom_at h.names k.name) (c.functor_of-functor.ensures.is ∙ ap (λ t. functor_at t f) c.names-in-Str.ensures) in
    subst (IsTaken h _ _ _ _) (ap (value h) (sym c.in-Str.is) ∙ c.root.ensures.same)
    (taken-block h _ _ _ _ name c.in-Str.p f c.block-f.result.1 _ c.root.ensures.heap c.block-f.ensures.block e (omega arith) c.in_ok-push-in-Str.ensures.items c.in_ok-push_run-in-Str.ensures)

pub returns-in_ok-push-in_default : goal.returns-in_ok-push-in_default
returns-in_ok-push-in_default c =
    let h = c.args.heap.now in
    taken-leaf h _ _ _ _ _ c.in_ok-push-in_default.ensures.items (search rules) refl (λ ts. ap (λ u. u ∷ ts) (ap int (to_z-of_z w64 c.integer_of.result (search rules)) ∙ sym c.integer_of.ensures ∙ c.root.ensures.same))
