use Rattle.std.proofs.Common.{refl, ap₂, ◌∷◌, []}
use Rattle.plsearch.specs.Rows.{branch}
use Rattle.plmachine.proofs.Lists.{lengthened-grown}
use Rattle.plmachine.proofs.Moves.{grown-stays, moved-grown, go-same, stays-trans, on_err, on_ok_map, on_err_map}
use Rattle.plmachine.proofs.Levels.{holds-fits}
use Rattle.plmachine.proofs.machine.Machine.either.Goals as goal

pub returns-in_err-list-clause-err : goal.returns-in_err-list-clause-err
returns-in_err-list-clause-err c P =
    let s = c.args.self.now in
    on_err _ (grown-stays P s _ (lengthened-grown s.stack c.two_before.new.stack c.two_before.ensures.grows) refl)

pub returns-clause-ok : goal.returns-clause-ok
returns-clause-ok c P =
    let s = c.args.self.now in
    let g = lengthened-grown s.stack c.two_before.new.stack c.two_before.ensures.grows in
    on_ok_map c.enter_branch.result (moved-grown P s _ c.enter_branch.new.self _ _ g refl
    (go-same _ _ _ _ _ _ _ _ (ap₂ (λ gs n. branch gs n ∷ []) c.in_ok-list.ensures.second.is g.count) c.in_ok-list.ensures.first.is g.count refl)) (c.enter_branch.ensures.ok P)

pub returns-clause-err : goal.returns-clause-err
returns-clause-err c P =
    let s = c.args.self.now in
    let g = lengthened-grown s.stack c.two_before.new.stack c.two_before.ensures.grows in
    on_err_map c.enter_branch.result (stays-trans P s _ c.enter_branch.new.self (grown-stays P s _ g refl)) (c.enter_branch.ensures.err P)

pub enter_branch-requires-clause-list_fits : goal.enter_branch-requires-clause-list_fits
enter_branch-requires-clause-list_fits c =
    holds-fits c.args.self.now.stack c.two_before.new.stack c.in_ok-list.list _ c.two_before.ensures.grows.extends c.in_ok-list.ensures.first c.requires.first_fits

pub enter_branch-requires-clause-other_fits : goal.enter_branch-requires-clause-other_fits
enter_branch-requires-clause-other_fits c =
    holds-fits c.args.self.now.stack c.two_before.new.stack c.in_ok-list.other _ c.two_before.ensures.grows.extends c.in_ok-list.ensures.second c.requires.second_fits
