use Rattle.std.proofs.Common.{[], refl, sym, ap, ◌∙◌}
use Rattle.plcells.specs.Store.{value}
use Rattle.plclause.specs.Indicators.{indicator}
use Rattle.plmachine.specs.declared.machine.Outcome.TheVariants as outcomes
use Rattle.plmachine.specs.declared.machine.Mode.TheVariants as modes
use Rattle.plmachine.specs.declared.machine.Find.TheVariants as finds
use Rattle.plmachine.proofs.Moves.{on_ok_map}
use Rattle.plsolver.proofs.Asked.{exists-asked}
use Rattle.plsolver.proofs.Finding.{not-there, there-fails, unnamed-exists}
use Rattle.plsolver.proofs.progress.Progress.found_exists.Goals as goal

pub returns-then-exists-clause-ok : goal.returns-then-exists-clause-ok
returns-then-exists-clause-ok c = λ P b v ordered none is.
    let s = c.args.self.now.machine in
    record {
      used = refl;
      limit = refl;
      rest = there-fails P v s c.args.goal c.args.view c.requires.finds c.args.exists (is ∙ sym (unnamed-exists v s.layer.own.updates c.args.view (indicator (value s.stack.env.heap c.args.goal)) none)) c.if-exists.true;
    }

pub returns-then-exists-clause-asked : goal.returns-then-exists-clause-asked
returns-then-exists-clause-asked c = λ v. exists-asked v c.args.goal c.args.view c.args.self.now.machine (record c.args.self.now.machine { mode = modes.Back outcomes.Fail }) tt ([], refl)

pub missing-requires-clause-seeks : goal.missing-requires-clause-seeks
missing-requires-clause-seeks c = (finds.Exists c.args.goal c.args.view, c.requires.finds)

pub returns-clause-ok : goal.returns-clause-ok
returns-clause-ok c P b =
    let s = c.args.self.now.machine in
    let of = rw (c.heap.ensures.is, c.env.ensures) at c.in_ok-p.ensures in
    on_ok_map c.missing.result
    (λ moved v ordered none is. record {
      used = ap (λ x. x.used) c.missing.ensures.frame;
      limit = ap (λ x. x.limit) c.missing.ensures.frame;
      rest = not-there P v s c.args.goal c.args.view c.requires.finds c.args.exists (is ∙ sym (unnamed-exists v s.layer.own.updates c.args.view (indicator (value s.stack.env.heap c.args.goal)) none)) ordered c.missing.new.self.machine c.if-exists.false
          (moved (value s.stack.env.heap c.args.goal) of);
    })
    (c.missing.ensures.ok P b)

pub returns-clause-asked : goal.returns-clause-asked
returns-clause-asked c =
    let s = c.args.self.now.machine in
    let of = rw (c.heap.ensures.is, c.env.ensures) at c.in_ok-p.ensures in
    on_ok_map c.missing.result (λ moved v. let m = moved (value s.stack.env.heap c.args.goal) of in exists-asked v c.args.goal c.args.view s c.missing.new.self.machine m.plain m.moved.walks) (c.missing.ensures.ok c.requires.of.0 c.requires.of.1)
