use Rattle.std.proofs.Common.{refl, ap, ◌∷◌, [], sym, subst, ◌++◌}
use Rattle.plsearch.specs.Types.{Choice}
use Rattle.plmachine.proofs.Lists.{adds-lengthened, lengthened-grown}
use Rattle.plmachine.proofs.Moves.{grown-stays, moved-grown, go-same, stays-trans, on_ok_map, on_err_map}
use Rattle.plmachine.proofs.Arounds.{around-grown}
use Rattle.plmachine.proofs.Levels.{same-kinds}
use Rattle.plstack.specs.Levels.{kinds, FitsIn}
use Rattle.plstack.specs.Opening.{around_cases}
use Rattle.plstack.specs.State.{kinds_in, goals_of}
use Rattle.plmachine.proofs.machine.Machine.enter_goal.Goals as goal

pub enter-requires-clause-around : goal.enter-requires-clause-around
enter-requires-clause-around c =
    let s = c.args.self.now in
    (around-grown s.stack c.link.new.self c.args.around (lengthened-grown s.stack c.link.new.self (adds-lengthened s.stack c.link.new.self _ _ c.in_ok-list.ensures.ok)) c.requires.around).1

pub returns-clause-ok : goal.returns-clause-ok
returns-clause-ok c P =
    let s = c.args.self.now in
    let g = lengthened-grown s.stack c.link.new.self (adds-lengthened s.stack c.link.new.self _ _ c.in_ok-list.ensures.ok) in
    on_ok_map c.enter.result (moved-grown P s _ c.enter.new.self _ _ g refl
    (go-same _ _ _ _ _ _ _ _ (ap (λ cs. Choice [] ∷ cs) (around-grown s.stack c.link.new.self c.args.around g c.requires.around).0) c.in_ok-list.ensures.ok.is g.count refl)) (c.enter.ensures.ok P)

pub returns-clause-err : goal.returns-clause-err
returns-clause-err c P =
    let s = c.args.self.now in
    let g = lengthened-grown s.stack c.link.new.self (adds-lengthened s.stack c.link.new.self _ _ c.in_ok-list.ensures.ok) in
    on_err_map c.enter.result (stays-trans P s _ c.enter.new.self (grown-stays P s _ g refl)) (c.enter.ensures.err P)

pub enter-requires-clause-fits : goal.enter-requires-clause-fits
enter-requires-clause-fits c =
    let s = c.args.self.now.stack in
    let t = c.link.new.self in
    let adds = c.in_ok-list.ensures.ok in
    let g = lengthened-grown s t (adds-lengthened s t _ _ adds) in
    let around = (around-grown s t c.args.around g c.requires.around).0 in
    subst (λ cs. FitsIn (kinds (Choice [] ∷ cs) ++ kinds_in t) (goals_of t c.in_ok-list.list)) (sym around)
    (subst (λ ks. FitsIn (kinds (Choice [] ∷ around_cases s c.args.around) ++ ks) (goals_of t c.in_ok-list.list)) (sym (same-kinds s t adds.stays))
    (subst (FitsIn (kinds (Choice [] ∷ around_cases s c.args.around) ++ kinds_in s)) (sym adds.is) c.requires.level))
