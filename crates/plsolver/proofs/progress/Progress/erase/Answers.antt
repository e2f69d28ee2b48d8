use Rattle.std.proofs.Common.{rules, subst}
use Rattle.std.specs.Prelude.{OnOk}
use Rattle.plstack.specs.State.{goals_of}
use Rattle.pltx.specs.Own.{any_open}
use Rattle.plmachine.specs.Seeking.{ErasesBefore}
use Rattle.plsolver.proofs.Transacting.{erased-ok}
use Rattle.plsolver.proofs.Ending.{ends_refl, ends_same}
use Rattle.plsolver.proofs.progress.Progress.erase.Goals as goal

pub returns-clause-ok : goal.returns-clause-ok
returns-clause-ok c P b =
    let s = c.args.self.now in
    let t = c.erase.new.self in
    erased-ok P s t c.args.name _ c.erase.result c.requires.erases.0 c.requires.erases.1 (c.erase.ensures.ok P)
    (subst (λ l. OnOk c.erase.result (ErasesBefore P (any_open s.machine.layer.own) s.machine t c.args.name (goals_of s.machine.stack l))) c.visited-rest.ensures.is (c.erase.ensures.becomes P))

pub returns-clause-err : goal.returns-clause-err
returns-clause-err c P b = let err = c.erase.ensures.err P in search rules

pub returns-clause-walks : goal.returns-clause-walks
returns-clause-walks c =
    let ok = c.erase.ensures.ok c.requires.of.0 in
    let err = c.erase.ensures.err c.requires.of.0 in
    search (rules, ends_same, ends_refl)
