use Rattle.std.proofs.Common.{◌≡◌, List, ◌++◌, ap, ap₂, map, filter_map, length, refl, sym, ◌∙◌, rules}
use Rattle.std.proofs.lemmas.List.{length-map}
use Rattle.plterm.specs.Tree.{Tree}
use Rattle.plcells.specs.Store.{value}
use Rattle.plgenerator.specs.Answers.{left}
use Rattle.plgenerator.specs.declared.turn.Remaining.TheVariants.{Groups}
use Rattle.plsearch.specs.Moves.{choose}
use Rattle.plsearch.specs.Rows.{solved}
use Rattle.plstack.specs.State.{goals_of}
use Rattle.plmachine.specs.declared.machine.Machine.{Machine as Reached}
use Rattle.plmachine.specs.Machine.{local_of}
use Rattle.plmachine.proofs.Joining.{groups-left}
use Rattle.plmachine.proofs.Moves.{moved-grown, grown-stays, stays-trans, on_err, on_err_map, on_ok_map}
use Rattle.plmachine.proofs.Levels.{fits-grown}
use Rattle.plmachine.proofs.machine.Machine.one_of.Goals as goal

pub returns-in_err-values-clause-err : goal.returns-in_err-values-clause-err
returns-in_err-values-clause-err c P =
    let s = c.args.self.now in
    on_err _ (grown-stays P s (record s { stack = c.put_terms.new.stack }) c.put_terms.ensures.grown refl)

pub returns-clause-ok : goal.returns-clause-ok
returns-clause-ok c P =
    let s = c.args.self.now in
    let t : Reached = record s { stack = c.put_terms.new.stack } in
    let g = c.put_terms.ensures.grown in
    let h = t.stack.env.heap in
    let us : List Tree = map (value h) c.deref.result.now in
    let xs : List Tree = map (value s.stack.env.heap) c.args.values.items in
    let are : us ≡ xs ++ c.args.groups.now = ap (map (value h)) c.deref.ensures.value ∙ c.in_ok-values.ensures.are in
    let count : c.len-arguments.result ≡ length c.args.values.items = search rules in
    let many : c.len-arguments.result ≡ length xs = count ∙ sym (length-map c.args.values.items (value s.stack.env.heap)) in
    let groups = groups-left us xs c.args.groups.now c.len-arguments.result are many in
    on_ok_map c.several.result (moved-grown P s t c.several.new.self _ _ g refl
    (ap₂ (λ gs n. choose (filter_map (solved gs n) (left h c.deref.result.now (Groups (record { arguments = c.len-arguments.result; passed = 0 })))) (local_of t)) (g.extends.lists c.args.rest c.requires.rest).1 g.count
    ∙ ap (λ ss. choose (filter_map (solved (goals_of s.stack c.args.rest) s.stack.env.count) ss) (local_of t)) groups))
    (c.several.ensures.ok P)

pub returns-clause-err : goal.returns-clause-err
returns-clause-err c P =
    let s = c.args.self.now in
    let t : Reached = record s { stack = c.put_terms.new.stack } in
    on_err_map c.several.result (stays-trans P s t c.several.new.self (grown-stays P s t c.put_terms.ensures.grown refl)) (c.several.ensures.err P)

pub several-requires-clause-fits : goal.several-requires-clause-fits
several-requires-clause-fits c = fits-grown c.args.self.now.stack c.put_terms.new.stack c.put_terms.ensures.grown c.args.rest c.requires.rest c.requires.fits
