use Rattle.std.proofs.Common.{◌≡◌, refl, ap, sym, ◌∙◌, ◌∷◌, suc, arith, []}
use Rattle.plsearch.specs.Types.{Collect, Marker}
use Rattle.plsearch.specs.Rows.{findall_3}
use Rattle.plcells.specs.Store.{value}
use Rattle.plstack.specs.Levels.{Choosing, Guarding}
use Rattle.plstack.specs.State.{goals_of, kinds_in}
use Rattle.plstack.specs.declared.frame.Around.TheVariants as arounds
use Rattle.plstack.specs.declared.frame.Handler.TheVariants as handlers
use Rattle.plmachine.specs.Machine.{local_of}
use Rattle.plmachine.proofs.Moves.{grown-stays, moved-grown, stays-trans, on_err, on_ok_map, on_err_map}
use Rattle.plmachine.proofs.Arounds.{around-grown, run-same}
use Rattle.plmachine.proofs.Levels.{run-level, inner-precedes, depth-kinds}
use Rattle.plmachine.proofs.machine.Machine.collecting.Goals as goal

pub returns-in_err-ready-clause-err : goal.returns-in_err-ready-clause-err
returns-in_err-ready-clause-err c P = on_err _ (grown-stays P c.args.self.now c.ready_before.new.self c.ready_before.ensures.grown c.ready_before.ensures.frame)

pub run-requires-clause-how : goal.run-requires-clause-how
run-requires-clause-how c =
    let s = c.args.self.now.stack in
    let next : c.in-Some.level ≡ suc c.depth-depth.result = omega (arith, c.in-Some.ensures.some) in
    record {
      few = tt;
      around = (around-grown s c.ready_before.new.self.stack (arounds.Handle (record { handler = handlers.Gather c.args.finding.whole; list = c.args.rest })) c.ready_before.ensures.grown (record { guards = tt; handler = c.requires.whole; list = c.requires.rest; fits = c.requires.fits })).1;
      list = c.in_ok-ready.ensures.list.there;
      level = run-level s c.ready_before.new.self.stack c.ready_before.ensures.grown.extends (Choosing ∷ Guarding ∷ []) c.in-Some.level c.in_ok-ready.list _ c.in_ok-ready.ensures.list
          (inner-precedes (kinds_in s) Guarding c.depth-depth.result (c.depth-depth.ensures.is ∙ sym (depth-kinds s)) refl (goals_of s c.args.rest) c.requires.fits (Collect (value s.env.heap c.args.finding.template)) c.in-Some.level next tt refl);
    }

pub returns-clause-ok : goal.returns-clause-ok
returns-clause-ok c P =
    let s = c.args.self.now in
    let t = c.ready_before.new.self in
    let g = c.ready_before.ensures.grown in
    let depth = c.depth-depth.ensures.is in
    let next : c.in-Some.level ≡ suc c.depth-depth.result = omega (arith, c.in-Some.ensures.some) in
    let goals = c.in_ok-ready.ensures.list.is ∙ ap (λ d. Marker (Collect (value s.stack.env.heap c.args.finding.template)) d ∷ goals_of s.stack c.args.rest) depth in
    on_ok_map c.run.result (moved-grown P s t c.run.new.self _ _ g c.ready_before.ensures.frame
    (run-same findall_3 findall_3 refl _ _ _ _ _ _ _ _ _ _ _ _ (sym c.in_ok-ready.ensures.ready.is) (around-grown s.stack t.stack (arounds.Handle (record { handler = handlers.Gather c.args.finding.whole; list = c.args.rest })) g (record { guards = tt; handler = c.requires.whole; list = c.requires.rest; fits = c.requires.fits })).0 (next ∙ ap suc depth) goals g.count (ap (λ x. local_of x) c.ready_before.ensures.frame))) (c.run.ensures.ok P)

pub returns-clause-err : goal.returns-clause-err
returns-clause-err c P =
    let s = c.args.self.now in
    on_err_map c.run.result (stays-trans P s c.ready_before.new.self c.run.new.self (grown-stays P s c.ready_before.new.self c.ready_before.ensures.grown c.ready_before.ensures.frame)) (c.run.ensures.err P)
