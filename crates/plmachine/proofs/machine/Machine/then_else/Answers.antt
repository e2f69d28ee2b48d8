use Rattle.std.proofs.Common.{◌≡◌, refl, suc, sym, ap, ap₂, ◌∙◌, ◌∷◌, [], subst, arith, ◌++◌}
use Rattle.plsearch.specs.Types.{Choice}
use Rattle.plsearch.specs.Rows.{branch}
use Rattle.plstack.specs.State.{goals_of, kinds_in}
use Rattle.plmachine.specs.Lists.{IsPart, elements_of}
use Rattle.plmachine.specs.Machine.{depth_of}
use Rattle.plmachine.proofs.Lists.{lengthened-grown, lengthened-trans, part-level, part-there, then-list}
use Rattle.plmachine.proofs.Moves.{grown-stays, moved-grown, go-same, stays-trans, on_err, on_ok_map, on_err_map}
use Rattle.plmachine.proofs.Levels.{holds-fits, same-kinds, condition-fits, depth-kinds}
use Rattle.plstack.proofs.Fitted.{fits-extends}
use Rattle.plstack.specs.Levels.{Choosing, FitsIn}
use Rattle.plmachine.proofs.machine.Machine.then_else.Goals as goal

pub returns-in_err-following-clause-err : goal.returns-in_err-following-clause-err
returns-in_err-following-clause-err c P =
    let s = c.args.self.now in
    on_err _ (grown-stays P s _ (lengthened-grown s.stack c.two_before.new.stack c.two_before.ensures.grows) refl)

pub two_in_turn-requires-clause-first : goal.two_in_turn-requires-clause-first
two_in_turn-requires-clause-first c =
    let s = c.args.self.now in
    subst (IsPart c.two_before.new.stack) (sym c.at_level.ensures) (part-level c.two_before.new.stack c.in-Some.inner c.args.condition (part-there s.stack c.two_before.new.stack c.two_before.ensures.grows c.args.condition c.requires.condition))

pub returns-in_err-list-clause-err : goal.returns-in_err-list-clause-err
returns-in_err-list-clause-err c P =
    let s = c.args.self.now in
    let f = lengthened-trans s.stack c.two_before.new.stack c.two_in_turn.new.stack c.two_before.ensures.grows c.two_in_turn.ensures.grows in
    on_err _ (grown-stays P s _ (lengthened-grown s.stack c.two_in_turn.new.stack f) refl)

pub returns-clause-ok : goal.returns-clause-ok
returns-clause-ok c P =
    let s = c.args.self.now in
    let a = c.two_before.new.stack in
    let b = c.two_in_turn.new.stack in
    let f = lengthened-trans s.stack a b c.two_before.ensures.grows c.two_in_turn.ensures.grows in
    let g = lengthened-grown s.stack b f in
    let depth = c.depth-depth.ensures.is in
    let next : c.in-Some.inner ≡ suc c.depth-depth.result = omega (arith, c.in-Some.ensures.some) in
    let failing = c.two_in_turn.ensures.grows.extends.lists c.in_ok-following.failing c.in_ok-following.ensures.second.there in
    let list = then-list s.stack a b c.args.condition c.args.then c.in_ok-following.following c.in_ok-list.list (goals_of s.stack c.args.rest) c.two_before.ensures.grows c.in_ok-following.ensures.first
    c.at_level.result c.in-Some.inner (suc (depth_of s)) c.depth-depth.result (depth_of s) c.at_level.ensures (next ∙ ap suc depth) depth c.in_ok-list.ensures.ok in
    on_ok_map c.enter.result (moved-grown P s _ c.enter.new.self _ _ g refl
    (go-same _ _ _ _ _ _ _ _
    (ap₂ (λ gs n. Choice [] ∷ branch gs n ∷ []) (failing.1 ∙ c.in_ok-following.ensures.second.is) g.count)
    list.is
    g.count refl)) (c.enter.ensures.ok P)

pub returns-clause-err : goal.returns-clause-err
returns-clause-err c P =
    let s = c.args.self.now in
    let f = lengthened-trans s.stack c.two_before.new.stack c.two_in_turn.new.stack c.two_before.ensures.grows c.two_in_turn.ensures.grows in
    on_err_map c.enter.result (stays-trans P s _ c.enter.new.self (grown-stays P s _ (lengthened-grown s.stack c.two_in_turn.new.stack f) refl)) (c.enter.ensures.err P)

pub enter-requires-clause-around : goal.enter-requires-clause-around
enter-requires-clause-around c =
    let s = c.args.self.now.stack in
    let a = c.two_before.new.stack in
    let b = c.two_in_turn.new.stack in
    let x = c.two_in_turn.ensures.grows.extends in
    let second = c.in_ok-following.ensures.second in
    let there = x.lists c.in_ok-following.failing second.there in
    (there.0, fits-extends a b x c.in_ok-following.failing second.there (holds-fits s a c.in_ok-following.failing _ c.two_before.ensures.grows.extends second c.requires.other_fits))

pub enter-requires-clause-fits : goal.enter-requires-clause-fits
enter-requires-clause-fits c =
    let s = c.args.self.now in
    let a = c.two_before.new.stack in
    let b = c.two_in_turn.new.stack in
    let f = lengthened-trans s.stack a b c.two_before.ensures.grows c.two_in_turn.ensures.grows in
    let depth = c.depth-depth.ensures.is in
    let next : c.in-Some.inner ≡ suc c.depth-depth.result = omega (arith, c.in-Some.ensures.some) in
    let list = then-list s.stack a b c.args.condition c.args.then c.in_ok-following.following c.in_ok-list.list (goals_of s.stack c.args.rest) c.two_before.ensures.grows c.in_ok-following.ensures.first
    c.at_level.result c.in-Some.inner (suc (depth_of s)) c.depth-depth.result (depth_of s) c.at_level.ensures (next ∙ ap suc depth) depth c.in_ok-list.ensures.ok in
    subst (λ ks. FitsIn (Choosing ∷ Choosing ∷ ks) (goals_of b c.in_ok-list.list)) (sym (same-kinds s.stack b f.extends))
    (subst (FitsIn (Choosing ∷ Choosing ∷ kinds_in s.stack)) (sym list.is)
    (condition-fits s.stack (kinds_in s.stack) (depth_of s) (sym (depth-kinds s.stack)) c.args.condition c.requires.goals (elements_of s.stack c.args.then ++ goals_of s.stack c.args.rest) c.requires.then_fits))
