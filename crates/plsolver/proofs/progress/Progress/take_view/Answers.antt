use Rattle.std.proofs.Common.{rules, ap, ◌∙◌}
use Rattle.plmachine.specs.declared.machine.Mode.TheVariants as modes
use Rattle.plmachine.proofs.Moves.{on_ok_map, seeks-none}
use Rattle.plsolver.proofs.Taking.{begins-on}
use Rattle.plsolver.proofs.progress.Progress.take_view.Goals as goal

pub returns-in-Begin-clause-ok : goal.returns-in-Begin-clause-ok
returns-in-Begin-clause-ok c P b =
    let s = c.args.self.now in
    on_ok_map c.begin_at.result (begins-on P s (record s { machine = c.begin_at.new.self }) c.in-Begin.kind c.in-Begin.goal c.args.g (c.in-Ask.is ∙ ap modes.Ask c.in-Begin.is)) (c.begin_at.ensures.ok P)

pub returns-in-Begin-clause-seeks : goal.returns-in-Begin-clause-seeks
returns-in-Begin-clause-seeks c = on_ok_map c.begin_at.result (λ begins. seeks-none c.begin_at.new.self.mode begins.plain) (c.begin_at.ensures.ok c.requires.of.0)

pub returns-in-Begin-clause-of : goal.returns-in-Begin-clause-of
returns-in-Begin-clause-of c P b =
    let ok = c.begin_at.ensures.ok P in
    let err = c.begin_at.ensures.err P in
    search rules

pub returns-in-Begin-clause-err : goal.returns-in-Begin-clause-err
returns-in-Begin-clause-err c P b =
    let ok = c.begin_at.ensures.ok P in
    let err = c.begin_at.ensures.err P in
    search rules

pub returns-in-Begin-clause-walks : goal.returns-in-Begin-clause-walks
returns-in-Begin-clause-walks c =
    let ok = c.begin_at.ensures.ok c.requires.of.0 in
    let err = c.begin_at.ensures.err c.requires.of.0 in
    search rules
