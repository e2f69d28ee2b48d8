use Rattle.std.proofs.Common.{◌≡◌, ◌∷◌, [], Option, Some, None, List, map, sym, ap, ◌∙◌}
use Rattle.plterm.specs.Tree.{Tree}
use Rattle.plcells.specs.declared.cell.Cell.{Cell}
use Rattle.plcells.specs.Store.{value}
use Rattle.plbuiltin.specs.Errors.{first_error}
use Rattle.plbuiltin.specs.Pieces.{atom_concat, atomic_error, concatenated, lacks, text_of}
use Rattle.plbuiltin.specs.Solution.{unless}
use Rattle.planswers.proofs.Forwarding.{forwarded}
use Rattle.pltexts.proofs.Arguments.{list-three}
use Rattle.pltexts.proofs.pieces.atom_concat.Goals as goal

pub returns-in-Some-clause-is : goal.returns-in-Some-clause-is
returns-in-Some-clause-is c = λ s n.
    let h = c.args.heap.now in
    let f = value h c.front-item.result in
    let b = value h c.back-item.result in
    let w = value h c.whole-item.result in
    let args = list-three c.args.args.now c.front-item.result c.back-item.result c.whole-item.result c.in-len3.len_at_least c.in-len3.len_below c.front-item.is c.back-item.is c.whole-item.is in
    let raised : first_error (lacks f b w ∷ atomic_error f ∷ atomic_error b ∷ atomic_error w ∷ []) ≡ Some c.in-Some.error = sym c.in_ok-error.ensures ∙ c.in-Some.is in
    sym (ap (λ (xs : List Cell). atom_concat (map (value h) xs) s) args ∙ ap (λ (e : Option Tree). unless e (concatenated (text_of f) (text_of b) f b w s)) raised)

pub returns-in-None-clause-is : goal.returns-in-None-clause-is
returns-in-None-clause-is c =
    let h = c.args.heap.now in
    let f = value h c.front-item.result in
    let b = value h c.back-item.result in
    let w = value h c.whole-item.result in
    let args = list-three c.args.args.now c.front-item.result c.back-item.result c.whole-item.result c.in-len3.len_at_least c.in-len3.len_below c.front-item.is c.back-item.is c.whole-item.is in
    let none : first_error (lacks f b w ∷ atomic_error f ∷ atomic_error b ∷ atomic_error w ∷ []) ≡ None = sym c.in_ok-error.ensures ∙ c.in-None.is in
    forwarded c.concatenated.result h (λ s n. concatenated (text_of f) (text_of b) f b w s) (λ s n. atom_concat (map (value h) c.args.args.now) s) c.concatenated.ensures.is
    (λ s n. sym (ap (λ (xs : List Cell). atom_concat (map (value h) xs) s) args ∙ ap (λ (e : Option Tree). unless e (concatenated (text_of f) (text_of b) f b w s)) none))

pub returns-in-None-clause-there : goal.returns-in-None-clause-there
returns-in-None-clause-there c = c.concatenated.ensures.there
