use Rattle.std.proofs.Common.{subst, sym}
use Rattle.std.proofs.lemmas.Result.{IfOk-weaker}
use Rattle.plsubst.specs.Subst.{bind}
use Rattle.plcells.specs.Putting.{standing}
use Rattle.plenv.specs.Env.{Env}
use Rattle.plenv.specs.Changes.{Puts, PutsVariables}
use Rattle.plenv.proofs.Keeping.{Keeps-refl, Keeps-trans}
use Rattle.plenv.proofs.Terms.{puts-new, put-stays}
use Rattle.plenv.proofs.env.Environment.put_new.Goals as goal

pub returns-in_err-values-clause-keeps : goal.returns-in_err-values-clause-keeps
returns-in_err-values-clause-keeps c = rw c.in_err-values.ensures.err (Keeps-refl c.args.self.now)

pub put_over-requires-clause-below : goal.put_over-requires-clause-below
put_over-requires-clause-below c = rw (c.deref.ensures.value, c.in_ok-values.ensures.ok.many) c.requires

pub returns-clause-ok : goal.returns-clause-ok
returns-clause-ok c =
    let old : Env = c.args.self.now in
    let mid : Env = c.new_values.new.self in
    let new : Env = c.put_over.new.self in
    let vs = c.deref.result.now in
    let has = subst (λ xs. PutsVariables old mid xs c.args.count) (sym c.deref.ensures.value) c.in_ok-values.ensures.ok in
    IfOk-weaker c.put_over.result (λ v. Puts mid new v (bind (standing mid.heap vs) c.args.term.now)) _
    (λ v p. puts-new old mid new vs c.args.count v c.args.term.now has c.requires p) c.put_over.ensures.ok

pub returns-clause-keeps : goal.returns-clause-keeps
returns-clause-keeps c =
    let old : Env = c.args.self.now in
    let mid : Env = c.new_values.new.self in
    let new : Env = c.put_over.new.self in
    Keeps-trans old mid new c.in_ok-values.ensures.ok.extends.keeps (put-stays mid new _ c.put_over.result c.put_over.ensures.ok c.put_over.ensures.err).extends.keeps
