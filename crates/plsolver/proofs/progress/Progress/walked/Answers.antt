use Rattle.std.proofs.Common.{ap, sym, subst, refl, ◌∙◌}
use Rattle.plcells.specs.Store.{value}
use Rattle.plstack.specs.StaticCalls.{database_of}
use Rattle.plstack.specs.Walks.{Finds, GoesOn, Moves}
use Rattle.plstack.proofs.Walking.{each-walk}
use Rattle.plstore.specs.declared.query.Query.{Query}
use Rattle.plmachine.specs.declared.machine.Outcome.TheVariants as outcomes
use Rattle.plmachine.specs.Machine.{now, IsPlain}
use Rattle.plmachine.proofs.Clausal.{plain-by}
use Rattle.plmachine.proofs.Moves.{on_err}
use Rattle.plsolver.specs.Asking.{WalkAsked}
use Rattle.plsolver.proofs.Asked.{walk-tries}
use Rattle.plsolver.proofs.Behind.{clause-found, gone-left}
use Rattle.plsolver.proofs.Quiets.{stays-back}
use Rattle.plsolver.proofs.Trying.{same-cases, same-known, sought-known, went-into, went-on}
use Rattle.plsolver.proofs.Walking.{ahead-viewed, known-viewed}
use Rattle.plsolver.proofs.progress.Progress.walked.Goals as goal

pub returns-in_default-clause-clause-ok : goal.returns-in_default-clause-clause-ok
returns-in_default-clause-clause-ok c = λ P v g x y.
    each-walk _ c.args.self.now.machine.stack c.in-Some.at.point c.in-Some.at.walk c.in-Some.ensures.some
    (λ there ordered at untouched is.
    let s = c.args.self.now.machine in
    let st = c.go_on_walk.new.self in
    let q = c.in-Some.at.point in
    let w = c.in-Some.at.walk in
    let k = c.in-Known in
    let db = database_of P v s.layer.own.updates in
    let none = sought-known v s.layer.own.updates g k.view x k.name y k.ahead c.args.clause (sym at ∙ k.is) untouched is ∙ c.in_default-clause.is in
    record {
      used = refl;
      limit = refl;
      rest = went-on P v s st c.requires.fails
          (same-cases db s.stack st q w _ there
          (subst (GoesOn db s.stack st q w) c.spot_ahead-rest.ensures (c.go_on_walk.ensures.goes q w there.walking db))
          (gone-left db w.uses (value s.stack.env.heap w.goal) k.view w.spot k.name k.ahead k.is none));
    })

pub returns-in_err-entered-clause-err : goal.returns-in_err-entered-clause-err
returns-in_err-entered-clause-err c =
    on_err c.from_residual.result (λ P. stays-back P c.args.self.now c.try_walk.new.self outcomes.Fail c.requires.fails c.try_walk.ensures.basis c.in_err-entered.ensures.err_walks c.in_err-entered.ensures.err)

pub returns-in_default-2-clause-ok : goal.returns-in_default-2-clause-ok
returns-in_default-2-clause-ok c = λ P v g x y.
    each-walk _ c.args.self.now.machine.stack c.in-Some.at.point c.in-Some.at.walk c.in-Some.ensures.some
    (λ there ordered at untouched is.
    let s = c.args.self.now.machine in
    let q = c.in-Some.at.point in
    let w = c.in-Some.at.walk in
    let k = c.in-Known in
    let db = database_of P v s.layer.own.updates in
    let some = sought-known v s.layer.own.updates g k.view x k.name y k.ahead c.args.clause (sym at ∙ k.is) untouched is ∙ c.in-Some-clause.is in
    let finds = clause-found db w (value s.stack.env.heap w.goal) k.view k.name k.ahead c.in-Some-clause.clause c.of_name-next.result k.is some c.of_name-next.ensures in
    record {
      used = refl;
      limit = refl;
      rest = went-on P v s c.try_walk.new.self c.requires.fails
          ((rw c.in_default-2.is at c.in_ok-entered.ensures.none) q w there db (subst (Finds db w (value s.stack.env.heap w.goal) c.of_name-next.result) (sym c.spot_ahead-rest.ensures) finds));
    })

pub returns-clause-ok : goal.returns-clause-ok
returns-clause-ok c = λ P v g x y.
    each-walk _ c.args.self.now.machine.stack c.in-Some.at.point c.in-Some.at.walk c.in-Some.ensures.some
    (λ there ordered at untouched is.
    let s = c.args.self.now.machine in
    let st = c.try_walk.new.self in
    let q = c.in-Some.at.point in
    let w = c.in-Some.at.walk in
    let k = c.in-Known in
    let db = database_of P v s.layer.own.updates in
    let some = sought-known v s.layer.own.updates g k.view x k.name y k.ahead c.args.clause (sym at ∙ k.is) untouched is ∙ c.in-Some-clause.is in
    let finds = clause-found db w (value s.stack.env.heap w.goal) k.view k.name k.ahead c.in-Some-clause.clause c.of_name-next.result k.is some c.of_name-next.ensures in
    record {
      used = refl;
      limit = refl;
      rest = λ most left answers.
          went-into P v c.args.self.now st c.in-Some-2.entered.erased c.requires.fails c.try_walk.ensures.basis
          ((rw c.in-Some-2.is at c.in_ok-entered.ensures.some) q w there db (subst (Finds db w (value s.stack.env.heap w.goal) c.of_name-next.result) (sym c.spot_ahead-rest.ensures) finds)) most left answers
          ∙ ap (λ m. now P v (record s { stack = st; mode = m }) most left answers) (sym c.mode_of.ensures);
    })

pub returns-in_default-clause-clause-asked : goal.returns-in_default-clause-clause-asked
returns-in_default-clause-clause-asked c = λ v g x y.
    each-walk _ c.args.self.now.machine.stack c.in-Some.at.point c.in-Some.at.walk c.in-Some.ensures.some
    (λ there at untouched.
    let s = c.args.self.now.machine in
    let q = c.in-Some.at.point in
    let w = c.in-Some.at.walk in
    let k = c.in-Known in
    let same = same-known g k.view x k.name y k.ahead (sym at ∙ k.is) in
    let new = record s { stack = c.go_on_walk.new.self } in
    subst (λ z. WalkAsked v w s new (Query.Clause z)) (sym same.1)
    (walk-tries v w s new (subst IsPlain (sym c.requires.fails) tt) (known-viewed w.spot k.view k.name k.ahead k.is) k.view k.name k.ahead k.is (λ e. untouched.0 (ap (λ z. z.place) same.1 ∙ e ∙ ap (λ z. z.place) (sym same.0))) (ahead-viewed k.view k.ahead)
    (subst (Moves s.stack new.stack w) c.spot_ahead-rest.ensures (c.go_on_walk.ensures.moves q w there.walking))))

pub returns-in_default-2-clause-asked : goal.returns-in_default-2-clause-asked
returns-in_default-2-clause-asked c = λ v g x y.
    each-walk _ c.args.self.now.machine.stack c.in-Some.at.point c.in-Some.at.walk c.in-Some.ensures.some
    (λ there at untouched.
    let s = c.args.self.now.machine in
    let q = c.in-Some.at.point in
    let w = c.in-Some.at.walk in
    let k = c.in-Known in
    let same = same-known g k.view x k.name y k.ahead (sym at ∙ k.is) in
    let new = record s { stack = c.try_walk.new.self } in
    subst (λ z. WalkAsked v w s new (Query.Clause z)) (sym same.1)
    (walk-tries v w s new (subst IsPlain (sym c.requires.fails) tt) (known-viewed w.spot k.view k.name k.ahead k.is) k.view k.name k.ahead k.is (λ e. untouched.0 (ap (λ z. z.place) same.1 ∙ e ∙ ap (λ z. z.place) (sym same.0))) (ahead-viewed k.view k.ahead)
    (subst (Moves s.stack new.stack w) c.spot_ahead-rest.ensures (c.in_ok-entered.ensures.moves q w there))))

pub returns-clause-asked : goal.returns-clause-asked
returns-clause-asked c = λ v g x y.
    each-walk _ c.args.self.now.machine.stack c.in-Some.at.point c.in-Some.at.walk c.in-Some.ensures.some
    (λ there at untouched.
    let s = c.args.self.now.machine in
    let q = c.in-Some.at.point in
    let w = c.in-Some.at.walk in
    let k = c.in-Known in
    let same = same-known g k.view x k.name y k.ahead (sym at ∙ k.is) in
    let new = record s { stack = c.try_walk.new.self; mode = c.mode_of.result } in
    subst (λ z. WalkAsked v w s new (Query.Clause z)) (sym same.1)
    (walk-tries v w s new (subst IsPlain (sym c.mode_of.ensures) (plain-by c.in-Some-2.entered.erased)) (known-viewed w.spot k.view k.name k.ahead k.is) k.view k.name k.ahead k.is (λ e. untouched.0 (ap (λ z. z.place) same.1 ∙ e ∙ ap (λ z. z.place) (sym same.0))) (ahead-viewed k.view k.ahead)
    (subst (Moves s.stack new.stack w) c.spot_ahead-rest.ensures (c.in_ok-entered.ensures.moves q w there))))
