use Rattle.std.proofs.Common.{◌≡◌, Ok, Err, ap, sym, ◌∙◌, refl, rules, subst, w32, w64}
use Rattle.std.specs.Prelude.{FitsSigned}
use Rattle.std.proofs.lemmas.Int.{to_z-of_z}
use Rattle.plterm.specs.Tree.{int}
use Rattle.plclause.specs.Indicators.{indicator}
use Rattle.plbuiltin.specs.Arithmetic.{equals}
use Rattle.plsearch.specs.Rows.{offer}
use Rattle.plstack.specs.State.{goals_of}
use Rattle.plmachine.specs.Machine.{local_of}
use Rattle.plmachine.specs.Selected.{bound_at}
use Rattle.plmachine.proofs.Moves.{moved-as, on_ok_map}
use Rattle.plmachine.proofs.Offers.{offer-unifies}
use Rattle.plmachine.proofs.machine.Machine.evaluate.Goals as goal

pub returns-in-Ok-clause-ok : goal.returns-in-Ok-clause-ok
returns-in-Ok-clause-ok c = λ P b t k.
    let s = c.args.self.now in
    let n = s.stack.env.count in
    let p = indicator t in
    let es = goals_of s.stack c.args.rest in
    let term = bound_at s.stack c.args.call.run k.left in
    let found = c.in_ok-number.ensures k.right k.right_there in
    let is = ap (λ x. equals term x s.settings) (sym c.in-Ok.is ∙ found) in
    let fits : FitsSigned w64 c.in-Ok.number = search rules in
    let moved = rw (to_z-of_z w64 c.in-Ok.number fits) at (c.give_number.ensures.ok P k.left k.left_there) in
    on_ok_map c.give_number.result (moved-as P s c.give_number.new.self _ _ (offer-unifies term (int c.in-Ok.number) s.settings p es n (local_of s) refl ∙ ap (λ x. offer x p es n (local_of s)) is)) moved

pub returns-in-Err-clause-ok : goal.returns-in-Err-clause-ok
returns-in-Err-clause-ok c = λ P b t k.
    let s = c.args.self.now in
    let found = c.in_ok-number.ensures k.right k.right_there in
    let is = ap (λ x. offer (equals (bound_at s.stack c.args.call.run k.left) x s.settings) (indicator t) (goals_of s.stack c.args.rest) s.stack.env.count (local_of s)) (sym c.in-Err.is ∙ found) in
    on_ok_map c.raise_for.result (moved-as P s c.raise_for.new.self _ _ is) ((c.raise_for.ensures.ok P b) t k)

pub returns-in-Ok-clause-err : goal.returns-in-Ok-clause-err
returns-in-Ok-clause-err c P b = c.give_number.ensures.err P

pub returns-in-Ok-clause-heap : goal.returns-in-Ok-clause-heap
returns-in-Ok-clause-heap c = λ t k off small.
    let found : Ok c.in-Ok.number ≡ Ok small.0 = sym c.in-Ok.is ∙ c.in_ok-number.ensures k.right k.right_there ∙ small.1 in
    let same : c.in-Ok.number ≡ small.0 = cc in
    let fits : FitsSigned w64 c.in-Ok.number = search rules in
    let kept = rw (to_z-of_z w64 c.in-Ok.number fits) at (c.give_number.ensures.heap k.left k.left_there off) in
    kept (subst (FitsSigned w32) (sym same) small.2)

pub returns-in-Err-clause-heap : goal.returns-in-Err-clause-heap
returns-in-Err-clause-heap c = λ t k off small.
    let found : Err c.in-Err.error ≡ Ok small.0 = sym c.in-Err.is ∙ c.in_ok-number.ensures k.right k.right_there ∙ small.1 in
    absurd (cc)
