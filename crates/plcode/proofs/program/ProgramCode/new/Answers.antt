use Rattle.std.proofs.Common.{◌≡◌, ◌∙◌, ap, subst, sym}
use Rattle.platoms.specs.Names.{Table}
use Rattle.plcode.specs.Steps.{Text, text_of}
use Rattle.plcode.specs.Bodies.{IsCode}
use Rattle.plcode.specs.Callees.{IsProgramCode}
use Rattle.plcode.proofs.Programs.{goals-end}
use Rattle.plcode.proofs.program.ProgramCode.new.Goals as goal

pub invariant_of-result : goal.invariant_of-result
invariant_of-result c =
    let e = c.in_ok-procedures.ensures in
    let whole = ap (λ (t : Table). text_of t c.of-code.result.0) c.in_ok-names.ensures.is ∙ c.of-code.ensures in
    subst IsCode (sym whole) e.code

pub returns-clause-code : goal.returns-clause-code
returns-clause-code c =
    let P : Text → Type 0 = λ t. IsProgramCode c.args.program.now (record { text = t; procedures = c.in_ok-procedures.procedures.items; callees = c.in_ok-procedures.callees }) in
    let whole = ap (λ (t : Table). text_of t c.of-code.result.0) c.in_ok-names.ensures.is ∙ c.of-code.ensures in
    subst P (sym whole) c.in_ok-procedures.ensures

pub returns-clause-end : goal.returns-clause-end
returns-clause-end c = goals-end (text_of c.in_ok-names.names c.of-code.result.0) (invariant_of-result c)
