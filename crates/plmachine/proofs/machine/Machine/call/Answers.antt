use Rattle.std.proofs.Common.{sym, ap, subst}
use Rattle.plsearch.specs.Rows.{user}
use Rattle.plprogram.specs.Program.{clauses_for}
use Rattle.plstack.specs.State.{goals_of}
use Rattle.plmachine.specs.Machine.{below_in, depth_of, local_of}
use Rattle.plmachine.specs.Selected.{IsCallOf}
use Rattle.plmachine.proofs.Moves.{moved-by-as, moved-views, on_ok_map}
use Rattle.plmachine.proofs.Selecting.{user-some}
use Rattle.plmachine.proofs.machine.Machine.call.Goals as goal

pub returns-in-Static-clause-ok : goal.returns-in-Static-clause-ok
returns-in-Static-clause-ok c P b p t stands is =
    let s = c.args.self.now in
    let i = subst (λ q. IsCallOf P s p q t) c.in-Static.is is in
    on_ok_map c.resolve.result (moved-views P s c.resolve.new.self _ _ (λ v. user-some (below_in v s) (clauses_for P p) (depth_of s) t (goals_of s.stack c.args.rest) s.stack.env.count (local_of s) i.static.some)) ((c.resolve.ensures.ok P b) p t i)

pub returns-in-Unknown-clause-ok : goal.returns-in-Unknown-clause-ok
returns-in-Unknown-clause-ok c P b p t stands is =
    let s = c.args.self.now in
    let none = subst (λ q. IsCallOf P s p q t) c.in-Unknown.is is in
    on_ok_map c.look.result (moved-by-as P s c.look.new.self _ _ (λ v. ap (λ cs. user (below_in v s) cs (depth_of s) t (goals_of s.stack c.args.rest) s.stack.env.count (local_of s)) (sym none))) ((c.look.ensures.ok P) t stands)
