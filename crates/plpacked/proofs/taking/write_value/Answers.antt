use Rattle.std.proofs.Common.{◌∙◌, ◌∷◌, [], ◌<◌, length, refl, sym, ap, subst, arith, rules, w64, to_z, of_z}
use Rattle.std.proofs.lemmas.Int.{to_z-of_z}
use Rattle.plterm.specs.Tree.{atom, int}
use Rattle.plterm.specs.declared.node.Node.TheVariants.{Var, Int, Atom, Compound}
use Rattle.plterm.specs.Reading.{IsName}
use Rattle.platoms.specs.Names.{atom_at, functor_at}
use Rattle.plcells.specs.Store.{IsValue, value}
use Rattle.plcells.specs.Walking.{IsTaken}
use Rattle.plcells.proofs.Taking.{taken-block}
use Rattle.plpacked.proofs.Writing.{written-leaf}
use Rattle.plpacked.proofs.taking.write_value.Goals as goal

pub returns-in_ok-put_variable-in-Ref : goal.returns-in_ok-put_variable-in-Ref
returns-in_ok-put_variable-in-Ref c =
    let h = c.args.heap.now in
    let t = sym c.number.ensures.is ∙ ap (value h) (sym c.in-Ref.is) ∙ c.root.ensures.same in
    written-leaf h _ _ _ _ _ _ (Var c.number.result) tt refl (λ ts. ap (λ u. u ∷ ts) t) c.in_ok-put_variable-in-Ref.ensures.bytes c.in_ok-put_variable-in-Ref.ensures.seen

pub returns-in_ok-put_atom-in-Atom : goal.returns-in_ok-put_atom-in-Atom
returns-in_ok-put_atom-in-Atom c =
    let h = c.args.heap.now in
    let a = c.in-Atom.a in
    let e = c.as_str.ensures ∙ c.atom_name.ensures.is ∙ ap (λ t. atom_at t a) c.names.ensures in
    let within : a < length h.names.atoms = subst (IsValue h) c.in-Atom.is c.root.ensures.fits in
    let t = ap atom e ∙ ap (value h) (sym c.in-Atom.is) ∙ c.root.ensures.same in
    written-leaf h _ _ _ _ _ _ (Atom c.as_str.result.now) (subst IsName (sym e) (c.root.ensures.heap.names.atoms a within)) refl (λ ts. ap (λ u. u ∷ ts) t) c.in_ok-put_atom-in-Atom.ensures refl

pub returns-in_ok-push_run-in-Str : goal.returns-in_ok-push_run-in-Str
returns-in_ok-push_run-in-Str c =
    let h = c.args.heap.now in
    let f = c.block-f.result.0 in
    let k = c.block-f.result.1 in
    let name = c.as_str-in-Str.result.now in
    let e =
    c.as_str-in-Str.ensures ∙ c.atom_name-in-Str.ensures.is ∙ ap (λ t. atom_at t c.functor_of-functor.result.name) c.names-in-Str-2.ensures
    ∙ ap (λ g. atom_at h.names g.name) (c.functor_of-functor.ensures.is ∙ ap (λ t. functor_at t f) c.names-in-Str.ensures) in
    record {
      node = Compound name k;
      taken = subst (IsTaken h _ _ _ _) (ap (value h) (sym c.in-Str.is) ∙ c.root.ensures.same)
          (taken-block h [] (Compound name k ∷ []) _ _ name c.in-Str.p f k _ c.root.ensures.heap c.block-f.ensures.block e (omega arith) refl c.in_ok-push_run-in-Str.ensures);
      bytes = c.in_ok-put_compound-in-Str.ensures;
      variables = refl;
    }

pub returns-in_ok-put_integer-in_default : goal.returns-in_ok-put_integer-in_default
returns-in_ok-put_integer-in_default c =
    let h = c.args.heap.now in
    let same = to_z-of_z w64 c.integer_of.result (search rules) in
    written-leaf h _ _ _ _ _ _ (Int (to_z w64 (of_z w64 c.integer_of.result))) (search rules) refl (λ ts. ap (λ u. u ∷ ts) (ap int same ∙ sym c.integer_of.ensures ∙ c.root.ensures.same)) c.in_ok-put_integer-in_default.ensures refl
