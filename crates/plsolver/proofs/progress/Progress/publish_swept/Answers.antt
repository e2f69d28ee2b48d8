use Rattle.std.proofs.Common.{rules, refl, subst, ◌≡◌}
use Rattle.std.specs.Prelude.{OnOk}
use Rattle.plcells.specs.declared.cell.Cell.{Cell}
use Rattle.plsearch.specs.Moves.{publish}
use Rattle.plstack.specs.State.{goals_of}
use Rattle.plmachine.specs.declared.machine.Find.TheVariants as finds
use Rattle.plmachine.specs.declared.machine.Mode.TheVariants as modes
use Rattle.plmachine.specs.declared.machine.Sweep.{Sweep}
use Rattle.plmachine.specs.Machine.{local_of, Moved}
use Rattle.plmachine.proofs.Moves.{on_ok_map}
use Rattle.plprogram.specs.Program.{Program}
use Rattle.plsolver.proofs.Sweeping.{swept-done}
use Rattle.plsolver.proofs.progress.Progress.publish_swept.Goals as goal

pub returns-clause-ok : goal.returns-clause-ok
returns-clause-ok c P b =
    let s = c.args.self.now.machine in
    on_ok_map c.publish_swept.result
    (λ moved head w at. (
      (moved head w at).plain,
      λ v ordered all. record {
        used = refl;
        limit = refl;
        rest = swept-done P v s head w at ordered c.publish_swept.new.self w.updates.items all (moved head w at);
      },
    ))
    (subst (λ l. OnOk c.publish_swept.result ((head : Cell) (w : Sweep) → s.mode ≡ modes.Find (finds.Sweep head w) → Moved P s c.publish_swept.new.self (publish w.updates.items (goals_of s.stack l) s.stack.env.count (local_of s)))) c.visited-rest.ensures.is (c.publish_swept.ensures.ok P))

made : (c : goal.After-publish_swept) (P : Program) → OnOk c.publish_swept.result (Moved P c.args.self.now.machine c.publish_swept.new.self (publish c.requires.sweeps.1.updates.items (goals_of c.args.self.now.machine.stack c.visited-rest.result) c.args.self.now.machine.stack.env.count (local_of c.args.self.now.machine)))
made c P = on_ok_map c.publish_swept.result (λ moved. moved c.requires.sweeps.0 c.requires.sweeps.1 c.requires.sweeps.2) (c.publish_swept.ensures.ok P)

pub returns-clause-of : goal.returns-clause-of
returns-clause-of c P b =
    let ok = made c P in
    let err = c.publish_swept.ensures.err P in
    search rules

pub returns-clause-latest : goal.returns-clause-latest
returns-clause-latest c =
    let ok = made c c.requires.of.0 in
    let err = c.publish_swept.ensures.err c.requires.of.0 in
    search rules

pub returns-clause-err : goal.returns-clause-err
returns-clause-err c P b =
    let ok = made c P in
    let err = c.publish_swept.ensures.err P in
    search rules

pub returns-clause-walks : goal.returns-clause-walks
returns-clause-walks c =
    let ok = made c c.requires.of.0 in
    let err = c.publish_swept.ensures.err c.requires.of.0 in
    search rules
