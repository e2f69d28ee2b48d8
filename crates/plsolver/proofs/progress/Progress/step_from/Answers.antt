use Rattle.std.specs.Prelude.{Result as Outcomes, Ok, Err}
use Rattle.std.proofs.Common.{IfOk, sym, subst}
use Rattle.plcells.specs.Store.{value}
use Rattle.plsolver.specs.Knowing.{StepsFound}
use Rattle.plsolver.proofs.Apart.{found-none}
use Rattle.plsolver.proofs.progress.Progress.step_from.Goals as goal

if_ok_map : {T E : Type 0} {A B : T → Type 0} (r : Outcomes T E) → IfOk r A → ((x : T) → A x → B x) → IfOk r B
if_ok_map (Ok x) a f = f x a
if_ok_map (Err e) a f = tt

pub returns-in-None : goal.returns-in-None
returns-in-None c =
    let own = c.args.self.now.machine.layer.own.updates in
    let h = value c.args.self.now.machine.stack.env.heap c.args.head in
    if_ok_map c.step_at.result c.step_at.ensures (λ step back. subst (λ o. StepsFound own h c.args.view o step) (sym c.in-None.is) (found-none own h c.args.view step back))
