use Rattle.std.proofs.Common.{◌≡◌, ◌-◌, refl, ap, sym, length, arith, ◌∷◌, [], ◌∙◌}
use Rattle.plsearch.specs.Rows.{call_with}
use Rattle.plmachine.specs.Machine.{local_of}
use Rattle.plmachine.proofs.Moves.{grown-stays, moved-grown, stays-trans, on_err, on_ok_map, on_err_map}
use Rattle.plmachine.proofs.Arounds.{run-same}
use Rattle.plmachine.proofs.Values.{some-first}
use Rattle.plmachine.proofs.Levels.{run-level, depth-kinds}
use Rattle.plstack.proofs.Naming.{new-precedes}
use Rattle.plstack.specs.Levels.{Choosing}
use Rattle.plstack.specs.State.{kinds_in, goals_of}
use Rattle.plmachine.proofs.machine.Machine.call_with.Goals as goal

pub run-requires-clause-ready : goal.run-requires-clause-ready
run-requires-clause-ready c =
    let x = some-first c.args.self.now.args.items c.requires.some in
    (c.in_ok-ready.ensures.ok x.0 x.1 x.2).there

pub returns-in_err-ready-clause-err : goal.returns-in_err-ready-clause-err
returns-in_err-ready-clause-err c P = on_err _ (grown-stays P c.args.self.now c.ready_with.new.self c.ready_with.ensures.grown c.ready_with.ensures.frame)

pub returns-clause-ok : goal.returns-clause-ok
returns-clause-ok c P v vs is =
    let s = c.args.self.now in
    let t = c.ready_with.new.self in
    let g = c.ready_with.ensures.grown in
    let depth = c.depth-level.ensures.is in
    let ready = c.in_ok-ready.ensures.ok v vs is in
    let further : c.len.result - 1 ≡ length vs = omega (arith, c.len.ensures, ap length is) in
    let list = g.extends.lists c.args.rest c.requires.rest in
    on_ok_map c.run.result (moved-grown P s t c.run.new.self _ _ g c.ready_with.ensures.frame
    (run-same _ (call_with (length vs)) (ap call_with further) _ _ _ _ _ _ _ _ _ _ _ _ (sym ready.is) refl depth list.1 g.count (ap (λ x. local_of x) c.ready_with.ensures.frame))) (c.run.ensures.ok P)

pub returns-clause-err : goal.returns-clause-err
returns-clause-err c P =
    let s = c.args.self.now in
    on_err_map c.run.result (stays-trans P s c.ready_with.new.self c.run.new.self (grown-stays P s c.ready_with.new.self c.ready_with.ensures.grown c.ready_with.ensures.frame)) (c.run.ensures.err P)

pub run-requires-clause-how : goal.run-requires-clause-how
run-requires-clause-how c =
    let s = c.args.self.now.stack in
    let t = c.ready_with.new.self.stack in
    let g = c.ready_with.ensures.grown in
    let there = g.extends.lists c.args.rest c.requires.rest in
    record {
      few = omega (arith, c.len.ensures, c.requires.few, c.args.self.now.args.ok.0);
      around = tt;
      list = there.0;
      level = run-level s t g.extends (Choosing ∷ []) c.depth-level.result c.args.rest (goals_of s c.args.rest) (record { there = there.0; is = there.1 }) (new-precedes (kinds_in s) c.depth-level.result (goals_of s c.args.rest) (c.depth-level.ensures.is ∙ sym (depth-kinds s)) c.requires.fits);
    }
