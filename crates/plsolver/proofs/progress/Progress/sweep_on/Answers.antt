use Rattle.std.proofs.Common.{◌≡◌, ◌∙◌, sym, ap, subst, Some}
use Rattle.plstore.specs.Looking.{clause_alive}
use Rattle.plstack.specs.declared.walk.Candidate.{Candidate}
use Rattle.plviews.specs.Views.{seen_in, IsUntouched}
use Rattle.plsolver.proofs.Asked.{seeks-same}
use Rattle.plsolver.proofs.Keeping.{stays_keeps_by}
use Rattle.plsolver.proofs.Sweeping.{as-sweep, past-fewer, past-keeps, past-on, spot-asks}
use Rattle.plsolver.proofs.progress.Progress.sweep_on.Goals as goal

pub sweep_behind-requires-clause-step : goal.sweep_behind-requires-clause-step
sweep_behind-requires-clause-step c =
    let t = c.sweeping-head.ensures in
    (c.sweeping-head.result.head, c.sweeping-head.result.view, c.in-Seek.reach, (t.0, t.1, t.2, t.3 ∙ c.in-Seek.is), c.in_ok-step-in-Seek.ensures)

pub sweep_past-requires-clause-sweeps : goal.sweep_past-requires-clause-sweeps
sweep_past-requires-clause-sweeps c = let t = c.sweeping-head.ensures in (c.sweeping-head.result.head, c.sweeping-head.result.view, (t.0, t.1, t.2, t.3 ∙ c.in-At.is))

pub returns-in_err-sweep_past-in-Is-clause-keeps : goal.returns-in_err-sweep_past-in-Is-clause-keeps
returns-in_err-sweep_past-in-Is-clause-keeps c = λ P. stays_keeps_by P c.args.self.now c.sweep_past.new.self c.requires.of.1.sound.askable (c.in_err-sweep_past-in-Is.ensures.err P)

pub returns-in_ok-sweep_past-in-Is-clause-ok : goal.returns-in_ok-sweep_past-in-Is-clause-ok
returns-in_ok-sweep_past-in-Is-clause-ok c =
    let p = c.in_ok-sweep_past-in-Is.ensures.ok in
    ((p.head, p.now, p.mode_now), past-fewer c.args.self.now c.sweep_past.new.self c.in-At.name c.in-At.reach _ p)

pub returns-in_ok-sweep_past-in-Is-clause-keeps : goal.returns-in_ok-sweep_past-in-Is-clause-keeps
returns-in_ok-sweep_past-in-Is-clause-keeps c = λ P.
    let s = c.args.self.now in
    let p = c.in_ok-sweep_past-in-Is.ensures.ok in
    let t = c.sweeping-head.ensures in
    let k = rw c.in-Is.is at c.in_ok-next-in-At.ensures in
    let view = as-sweep (λ b y. y.view ≡ c.sweeping-head.result.view) c.sweeping-head.result.head p.head t.0 p.was (sym t.1 ∙ p.mode_was) t.2 in
    past-keeps s c.sweep_past.new.self c.in-At.name c.in-At.reach _ p P c.sweep_past.ensures.frame c.sweep_past.ensures.latest (c.sweep_past.ensures.of P)
    (λ v ordered. ap (λ (n : Candidate). Some n.clause) k.1 ∙ sym (k.2 (v c.sweeping-head.result.view.place) (ordered.ordered c.sweeping-head.result.view.place) (ordered.under c.sweeping-head.result.view.place)) ∙ ap (λ g. clause_alive c.in-At.name (seen_in v s.machine.layer.own.updates g)) (sym view))

pub sweep_past-requires-in-Gone-clause-sweeps : goal.sweep_past-requires-in-Gone-clause-sweeps
sweep_past-requires-in-Gone-clause-sweeps c = let t = c.sweeping-head.ensures in (c.sweeping-head.result.head, c.sweeping-head.result.view, (t.0, t.1, t.2, t.3 ∙ c.in-At.is))

pub returns-in_err-sweep_past-in-Gone-clause-keeps : goal.returns-in_err-sweep_past-in-Gone-clause-keeps
returns-in_err-sweep_past-in-Gone-clause-keeps c = λ P. stays_keeps_by P c.args.self.now c.sweep_past-in-Gone.new.self c.requires.of.1.sound.askable (c.in_err-sweep_past-in-Gone.ensures.err P)

pub returns-in_ok-sweep_past-in-Gone-clause-ok : goal.returns-in_ok-sweep_past-in-Gone-clause-ok
returns-in_ok-sweep_past-in-Gone-clause-ok c =
    let p = c.in_ok-sweep_past-in-Gone.ensures.ok in
    ((p.head, p.now, p.mode_now), past-fewer c.args.self.now c.sweep_past-in-Gone.new.self c.in-At.name c.in-At.reach _ p)

pub returns-in_ok-sweep_past-in-Gone-clause-keeps : goal.returns-in_ok-sweep_past-in-Gone-clause-keeps
returns-in_ok-sweep_past-in-Gone-clause-keeps c = λ P.
    let s = c.args.self.now in
    let p = c.in_ok-sweep_past-in-Gone.ensures.ok in
    let t = c.sweeping-head.ensures in
    let k = rw c.in-Gone.is at c.in_ok-next-in-At.ensures in
    let view = as-sweep (λ b y. y.view ≡ c.sweeping-head.result.view) c.sweeping-head.result.head p.head t.0 p.was (sym t.1 ∙ p.mode_was) t.2 in
    past-keeps s c.sweep_past-in-Gone.new.self c.in-At.name c.in-At.reach _ p P c.sweep_past-in-Gone.ensures.frame c.sweep_past-in-Gone.ensures.latest (c.sweep_past-in-Gone.ensures.of P)
    (λ v ordered. sym (k (v c.sweeping-head.result.view.place) (ordered.ordered c.sweeping-head.result.view.place) (ordered.under c.sweeping-head.result.view.place)) ∙ ap (λ g. clause_alive c.in-At.name (seen_in v s.machine.layer.own.updates g)) (sym view))

pub returns-in-Asks-clause-ok : goal.returns-in-Asks-clause-ok
returns-in-Asks-clause-ok c =
    let s = c.args.self.now in
    let t = c.sweeping-head.ensures in
    spot-asks s c.sweeping-head.result.head t.0 c.in-At.name c.in-At.reach t.1 (t.3 ∙ c.in-At.is) (subst (λ g. IsUntouched s.machine.layer.own.updates g c.in-At.name) (sym t.2) (rw c.in-Asks.is at c.in_ok-next-in-At.ensures))

pub returns-in_ok-sweep_past-in-Is-clause-sought : goal.returns-in_ok-sweep_past-in-Is-clause-sought
returns-in_ok-sweep_past-in-Is-clause-sought c = past-on c.args.self.now c.sweep_past.new.self c.in-At.name c.in-At.reach _ c.in_ok-sweep_past-in-Is.ensures.ok

pub returns-in_ok-sweep_past-in-Gone-clause-sought : goal.returns-in_ok-sweep_past-in-Gone-clause-sought
returns-in_ok-sweep_past-in-Gone-clause-sought c = past-on c.args.self.now c.sweep_past-in-Gone.new.self c.in-At.name c.in-At.reach _ c.in_ok-sweep_past-in-Gone.ensures.ok

pub returns-in-Asks-clause-sought : goal.returns-in-Asks-clause-sought
returns-in-Asks-clause-sought c = seeks-same c.args.self.now.machine
