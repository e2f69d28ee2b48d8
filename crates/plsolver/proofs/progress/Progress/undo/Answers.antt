use Rattle.std.proofs.Common.{sym, subst}
use Rattle.plsolver.proofs.Quiets.{are, none_are}
use Rattle.plsolver.proofs.Transacting.{closed-undo, open-before, quiet-undo, quiet-undo-last}
use Rattle.plsolver.specs.Solver.{QuietIn}
use Rattle.plsolver.proofs.progress.Progress.undo.Goals as goal

pub end-requires : goal.end-requires
end-requires c =
    let s = c.args.self.now.machine in
    let k = c.close.ensures in
    let u = closed-undo s.stack c.close.new.self c.close.result k.some k.none k.basis k.undo k.own c.requires.undo in
    open-before s c.close.new.self.basis (c.requires.sound.tied (none_are c.is_last-is_last.result c.is_last-is_last.ensures c.if-not-is_last.true)) u.ends

pub returns-then-not-is_last-clause-quiet : goal.returns-then-not-is_last-clause-quiet
returns-then-not-is_last-clause-quiet c = λ P v ordered.
    let s = c.args.self.now in
    let st = c.close.new.self in
    let k = c.close.ensures in
    let u = closed-undo s.machine.stack st c.close.result k.some k.none k.basis k.undo k.own c.requires.undo in
    subst (λ x. QuietIn P v s (record s { machine = record s.machine { stack = st; layer = x } })) (sym c.end.ensures.ended)
    (quiet-undo P v s st c.requires.back c.requires.sound u.place u.was u.ends (none_are c.is_last-is_last.result c.is_last-is_last.ensures c.if-not-is_last.true) u.sees)

pub returns-else-not-is_last-clause-quiet : goal.returns-else-not-is_last-clause-quiet
returns-else-not-is_last-clause-quiet c = λ P v ordered.
    let s = c.args.self.now in
    let st = c.close.new.self in
    let k = c.close.ensures in
    let u = closed-undo s.machine.stack st c.close.result k.some k.none k.basis k.undo k.own c.requires.undo in
    quiet-undo-last P v s st c.requires.back c.requires.sound u.place u.was u.ends (are c.is_last-is_last.result c.is_last-is_last.ensures c.if-not-is_last.false)
