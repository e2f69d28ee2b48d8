use Rattle.std.proofs.Common.{◌++◌, ap, refl, ◌∙◌}
use Rattle.plmachine.specs.declared.machine.Find.TheVariants as finds
use Rattle.plmachine.specs.declared.machine.Mode.TheVariants as modes
use Rattle.plmachine.specs.declared.machine.SweepSpot.TheVariants as sweeps
use Rattle.plmachine.proofs.Moves.{on_err}
use Rattle.plprogram.specs.Program.{Program}
use Rattle.plstack.specs.State.{walks_in}
use Rattle.plsolver.specs.declared.progress.Progress.{Progress}
use Rattle.plsolver.specs.Fetching.{erased_if}
use Rattle.plsolver.specs.Solver.{latest_view, Stays}
use Rattle.plsolver.proofs.Catches.{stays-after}
use Rattle.plsolver.proofs.Runs.{stays_latest, stays_of}
use Rattle.plsolver.proofs.Sweeping.{at-clause, goes-past, past-of, still-stays, sweeps-of}
use Rattle.plsolver.proofs.progress.Progress.sweep_past.Goals as goal

-- ---- the clause's head could not be copied

pub returns-in_err-has-clause-of : goal.returns-in_err-has-clause-of
returns-in_err-has-clause-of c = λ P of. stays_of P c.args.self.now c.has_head.new.self of (c.has_head.ensures.stays P)

pub returns-in_err-has-clause-latest : goal.returns-in_err-has-clause-latest
returns-in_err-has-clause-latest c = stays_latest c.requires.of.0 c.args.self.now c.has_head.new.self (c.has_head.ensures.stays c.requires.of.0)

pub returns-in_err-has-clause-walks : goal.returns-in_err-has-clause-walks
returns-in_err-has-clause-walks c = (c.has_head.ensures.stays c.requires.of.0).there.walks

-- ---- its erasure could not be kept

pub sweep_erases-requires : goal.sweep_erases-requires
sweep_erases-requires c =
    let at = c.sweeping-at.ensures in
    (c.sweeping-at.result.head, at.0, ap (λ (n : Progress). n.machine.mode) c.has_head.ensures.frame ∙ at.1)

pub returns-in_err-sweep_erases-clause-of : goal.returns-in_err-sweep_erases-clause-of
returns-in_err-sweep_erases-clause-of c = λ P of.
    let t = c.has_head.new.self in
    let head = c.sweeping-at.result.head in
    let at = c.sweeping-at.ensures in
    let there = ap (λ (n : Progress). n.machine.mode) c.has_head.ensures.frame ∙ at.1 in
    let e = c.in_err-sweep_erases.ensures.err head at.0 there in
    sweeps-of t.machine c.sweep_erases.new.self.machine head at.0 e.0 there (ap (λ (n : Progress). n.machine) e.1) e.2 P (stays_of P c.args.self.now t of (c.has_head.ensures.stays P))

pub returns-in_err-sweep_erases-clause-latest : goal.returns-in_err-sweep_erases-clause-latest
returns-in_err-sweep_erases-clause-latest c =
    let at = c.sweeping-at.ensures in
    let there = ap (λ (n : Progress). n.machine.mode) c.has_head.ensures.frame ∙ at.1 in
    let e = c.in_err-sweep_erases.ensures.err c.sweeping-at.result.head at.0 there in
    ap latest_view e.1 ∙ stays_latest c.requires.of.0 c.args.self.now c.has_head.new.self (c.has_head.ensures.stays c.requires.of.0)

pub returns-in_err-sweep_erases-clause-err : goal.returns-in_err-sweep_erases-clause-err
returns-in_err-sweep_erases-clause-err c =
    let t = c.has_head.new.self in
    let head = c.sweeping-at.result.head in
    let at = c.sweeping-at.ensures in
    let there = ap (λ (n : Progress). n.machine.mode) c.has_head.ensures.frame ∙ at.1 in
    let e = c.in_err-sweep_erases.ensures.err head at.0 there in
    let stay : (P : Program) → Stays P c.args.self.now c.sweep_erases.new.self = λ P. stays-after P c.args.self.now t c.sweep_erases.new.self (c.has_head.ensures.stays P) (still-stays t c.sweep_erases.new.self head at.0 e.0 there e.1 e.2 e.3 e.4 P) in
    on_err _ stay

pub returns-in_err-sweep_erases-clause-walks : goal.returns-in_err-sweep_erases-clause-walks
returns-in_err-sweep_erases-clause-walks c =
    let at = c.sweeping-at.ensures in
    let there = ap (λ (n : Progress). n.machine.mode) c.has_head.ensures.frame ∙ at.1 in
    let e = c.in_err-sweep_erases.ensures.err c.sweeping-at.result.head at.0 there in
    ap (λ (n : Progress). walks_in n.machine.stack) e.1 ∙ (c.has_head.ensures.stays c.requires.of.0).there.walks

-- ---- it was looked at

pub sweep_at-requires : goal.sweep_at-requires
sweep_at-requires c =
    let head = c.sweeping-at.result.head in
    let at = c.sweeping-at.ensures in
    let there = ap (λ (n : Progress). n.machine.mode) c.has_head.ensures.frame ∙ at.1 in
    let e = c.in_ok-sweep_erases.ensures.ok head at.0 there in
    (head, e.0, ap (λ (n : Progress). n.machine.mode) e.1)

pub returns-clause-ok : goal.returns-clause-ok
returns-clause-ok c =
    let s = c.args.self.now in
    let t = c.has_head.new.self in
    let head = c.sweeping-at.result.head in
    let at = c.sweeping-at.ensures in
    let there = ap (λ (n : Progress). n.machine.mode) c.has_head.ensures.frame ∙ at.1 in
    let e = c.in_ok-sweep_erases.ensures.ok head at.0 there in
    let to = record e.0 { spot = sweeps.Seek c.args.reach } in
    let is = c.sweep_at.ensures head e.0 (ap (λ (n : Progress). n.machine.mode) e.1) ∙ ap (λ (n : Progress). record n { machine = record n.machine { mode = modes.Find (finds.Sweep head to) } }) e.1 in
    goes-past s t c.sweep_at.new.self head at.0 to c.args.name c.args.reach c.args.clause.now at.1 (at.3 ∙ at-clause c.args.self.now head c.sweeping-at.result.view c.sweeping-at.result.spot c.args.name c.args.reach at c.requires.sweeps) c.has_head.ensures.stays c.has_head.ensures.frame c.has_head.ensures.head is e.2 refl c.requires.of.1.sound.askable
    (e.4 ∙ ap (λ b. at.0.updates.items ++ erased_if b c.args.name) c.in_ok-has.ensures.is)

pub returns-clause-of : goal.returns-clause-of
returns-clause-of c =
    let s = c.args.self.now in
    let t = c.has_head.new.self in
    let head = c.sweeping-at.result.head in
    let at = c.sweeping-at.ensures in
    let there = ap (λ (n : Progress). n.machine.mode) c.has_head.ensures.frame ∙ at.1 in
    let e = c.in_ok-sweep_erases.ensures.ok head at.0 there in
    let to = record e.0 { spot = sweeps.Seek c.args.reach } in
    let is = c.sweep_at.ensures head e.0 (ap (λ (n : Progress). n.machine.mode) e.1) ∙ ap (λ (n : Progress). record n { machine = record n.machine { mode = modes.Find (finds.Sweep head to) } }) e.1 in
    past-of s t c.sweep_at.new.self head at.0 to c.args.name c.args.reach c.args.clause.now at.1 (at.3 ∙ at-clause c.args.self.now head c.sweeping-at.result.view c.sweeping-at.result.spot c.args.name c.args.reach at c.requires.sweeps) c.has_head.ensures.stays c.has_head.ensures.frame c.has_head.ensures.head is e.2 refl

pub returns-clause-latest : goal.returns-clause-latest
returns-clause-latest c =
    let s = c.args.self.now in
    let t = c.has_head.new.self in
    let head = c.sweeping-at.result.head in
    let at = c.sweeping-at.ensures in
    let there = ap (λ (n : Progress). n.machine.mode) c.has_head.ensures.frame ∙ at.1 in
    let e = c.in_ok-sweep_erases.ensures.ok head at.0 there in
    let to = record e.0 { spot = sweeps.Seek c.args.reach } in
    let is = c.sweep_at.ensures head e.0 (ap (λ (n : Progress). n.machine.mode) e.1) ∙ ap (λ (n : Progress). record n { machine = record n.machine { mode = modes.Find (finds.Sweep head to) } }) e.1 in
    ap latest_view is ∙ stays_latest c.requires.of.0 s t (c.has_head.ensures.stays c.requires.of.0)

pub returns-clause-walks : goal.returns-clause-walks
returns-clause-walks c =
    let s = c.args.self.now in
    let t = c.has_head.new.self in
    let head = c.sweeping-at.result.head in
    let at = c.sweeping-at.ensures in
    let there = ap (λ (n : Progress). n.machine.mode) c.has_head.ensures.frame ∙ at.1 in
    let e = c.in_ok-sweep_erases.ensures.ok head at.0 there in
    let to = record e.0 { spot = sweeps.Seek c.args.reach } in
    let is = c.sweep_at.ensures head e.0 (ap (λ (n : Progress). n.machine.mode) e.1) ∙ ap (λ (n : Progress). record n { machine = record n.machine { mode = modes.Find (finds.Sweep head to) } }) e.1 in
    ap (λ (n : Progress). walks_in n.machine.stack) is ∙ (c.has_head.ensures.stays c.requires.of.0).there.walks
