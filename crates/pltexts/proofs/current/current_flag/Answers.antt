use Rattle.std.proofs.Common.{◌≡◌, ◌∷◌, [], true, List, map, sym, ap, ◌∙◌, subst}
use Rattle.std.specs.List.{list_all}
use Rattle.plterm.specs.Tree.{Tree}
use Rattle.plterm.specs.Ground.{is_ground}
use Rattle.plcells.specs.Store.{value, AreValues}
use Rattle.plbuiltin.specs.Current.{current_flags, flag_error}
use Rattle.pltexts.proofs.Groups.{ground-flags, means-one_of}
use Rattle.pltexts.proofs.current.current_flag.Goals as goal

pub one_of-requires-clause-ground : goal.one_of-requires-clause-ground
one_of-requires-clause-ground c = subst (λ (ts : List Tree). list_all is_ground ts ≡ true) (sym c.in_ok-groups-in-None.ensures) (ground-flags c.args.settings.now)

pub returns-in_ok-vec-in-None-clause-is : goal.returns-in_ok-vec-in-None-clause-is
returns-in_ok-vec-in-None-clause-is c =
    let h = c.args.heap.now in
    let s = c.args.settings.now in
    let flag = value h c.args.flag in
    means-one_of c.one_of.result h s c.in_ok-vec-in-None.field-0.items (flag ∷ value h c.args.v ∷ []) c.in_ok-groups-in-None.groups.items (current_flags s) (flag_error flag)
    (c.one_of.ensures.is h)
    (ap (map (value h)) c.in_ok-vec-in-None.ensures.items)
    c.in_ok-groups-in-None.ensures
    (sym c.in_ok-error.ensures ∙ c.in-None.is)

pub returns-in_ok-vec-in-None-clause-there : goal.returns-in_ok-vec-in-None-clause-there
returns-in_ok-vec-in-None-clause-there c =
    let h = c.args.heap.now in
    c.one_of.ensures.there h (subst (AreValues h) (sym c.in_ok-vec-in-None.ensures.items) (c.requires.flag, (c.requires.value, tt)))
