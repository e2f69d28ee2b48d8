use Rattle.std.proofs.Common.{◌≡◌, ◌∷◌, ◌++◌, ◌+◌, [], Ok, Err, map, drop, sym, ap, ◌∙◌, rules, subst}
use Rattle.std.proofs.lemmas.List.{drop_all}
use Rattle.plcells.specs.Store.{AreValues, value}
use Rattle.platoms.specs.Names.{atom_at}
use Rattle.plbuiltin.specs.Flags.{name_of, names_of}
use Rattle.pltexts.proofs.Items.{from_item}
use Rattle.pltexts.proofs.Named.{all_before, all_named, no_name, none_named, one_named}
use Rattle.pltexts.proofs.flags.names_of.Goals as goal

pub loop-v-preserved : goal.loop-v-preserved
loop-v-preserved c =
    let h = c.args.heap.now in
    let xs = c.args.items.now in
    let i = c.loop-v.v-index in
    let v = c.v-item.result in
    let rest = drop (i + 1) xs in
    let names = c.loop-v.names.items in
    let name = atom_at h.names c.in-Atom.name in
    let left : drop i xs ≡ v ∷ rest = from_item xs i v v c.loop-v-test.true (sym c.v-item.is) in
    let found : name_of (value h v) ≡ Ok name = search rules in
    let copied : name ≡ c.in_ok-copied-in-Atom.field-0 = search rules in
    record {
      items = (subst (AreValues h) left c.loop-v.invariant.items).1;
      so_far =
          one_named (names_of (map (value h) xs)) names (value h v) (map (value h) rest)
          (c.loop-v.invariant.so_far ∙ ap (λ ys. all_before names (names_of (map (value h) ys))) left)
          name found
          ∙ ap (λ ns. all_before ns (names_of (map (value h) rest))) (ap (λ n. names ++ n ∷ []) copied ∙ sym c.in_ok-push-in-Atom.ensures.items);
    }

pub returns-in_default : goal.returns-in_default
returns-in_default c =
    let h = c.args.heap.now in
    let xs = c.args.items.now in
    let i = c.loop-v.v-index in
    let v = c.v-item.result in
    let rest = drop (i + 1) xs in
    let names = c.loop-v.names.items in
    let left : drop i xs ≡ v ∷ rest = from_item xs i v v c.loop-v-test.true (sym c.v-item.is) in
    sym (none_named (names_of (map (value h) xs)) names (value h v) (map (value h) rest)
    (c.loop-v.invariant.so_far ∙ ap (λ ys. all_before names (names_of (map (value h) ys))) left)
    c.in_ok-type_error-in_default.field-0
    (no_name h (value h v) c.shape_of.result c.shape_of.ensures c.in_default.not-Atom ∙ ap Err (sym c.in_ok-type_error-in_default.ensures)))

pub returns : goal.returns
returns c =
    let h = c.args.heap.now in
    let xs = c.args.items.now in
    let names = c.loop-v.names.items in
    let none : drop c.loop-v.v-index xs ≡ [] = drop_all c.loop-v.v-index xs c.loop-v-test.false in
    sym (all_named (names_of (map (value h) xs)) names (c.loop-v.invariant.so_far ∙ ap (λ ys. all_before names (names_of (map (value h) ys))) none))
