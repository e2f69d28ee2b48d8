use Rattle.std.proofs.Common.{◌≡◌, ◌∷◌, [], true, List, map, sym, ap, ◌∙◌, subst}
use Rattle.std.specs.List.{list_all}
use Rattle.plterm.specs.Tree.{Tree}
use Rattle.plterm.specs.Ground.{is_ground}
use Rattle.plcells.specs.Store.{value, AreValues}
use Rattle.plops.specs.Listing.{current_ops}
use Rattle.plbuiltin.specs.Current.{operator_terms, priority_error, specifier_error}
use Rattle.plbuiltin.specs.Errors.{atom_error, first_error}
use Rattle.plbuiltin.specs.Solution.{together}
use Rattle.pltexts.proofs.Groups.{ground-operators, means-one_of}
use Rattle.pltexts.proofs.current.current_op.Goals as goal

pub one_of-requires-clause-ground : goal.one_of-requires-clause-ground
one_of-requires-clause-ground c = subst (λ (ts : List Tree). list_all is_ground ts ≡ true) (sym c.in_ok-groups-in-None.ensures) (ground-operators c.deref.result.now)

pub returns-in_ok-vec-in-None-clause-is : goal.returns-in_ok-vec-in-None-clause-is
returns-in_ok-vec-in-None-clause-is c =
    let h = c.args.heap.now in
    let s = c.args.settings.now in
    let p = value h c.args.op.priority in
    let t = value h c.args.op.kind in
    let n = value h c.args.op.name in
    let ops : c.deref.result.now ≡ current_ops s.operators = c.deref.ensures.value ∙ c.in_ok-ops-in-None.ensures.told in
    means-one_of c.one_of.result h s c.in_ok-vec-in-None.field-0.items (p ∷ t ∷ n ∷ []) c.in_ok-groups-in-None.groups.items (map operator_terms (current_ops s.operators))
    (first_error (priority_error p ∷ specifier_error t ∷ atom_error n ∷ []))
    (c.one_of.ensures.is h)
    (ap (map (value h)) c.in_ok-vec-in-None.ensures.items)
    (c.in_ok-groups-in-None.ensures ∙ ap (λ os. map together (map operator_terms os)) ops)
    (sym c.in_ok-error.ensures ∙ c.in-None.is)

pub returns-in_ok-vec-in-None-clause-there : goal.returns-in_ok-vec-in-None-clause-there
returns-in_ok-vec-in-None-clause-there c =
    let h = c.args.heap.now in
    c.one_of.ensures.there h (subst (AreValues h) (sym c.in_ok-vec-in-None.ensures.items) (c.requires.priority, (c.requires.kind, (c.requires.name, tt))))
