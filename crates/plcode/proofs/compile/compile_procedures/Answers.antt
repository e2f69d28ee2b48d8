use Rattle.std.proofs.Common.{◌≡◌, ◌∙◌, ◌+◌, List, [], ◌∷◌, ◌++◌, take, sym, ap, subst, arith}
use Rattle.std.proofs.lemmas.List.{take_all, take_more}
use Rattle.std.proofs.lemmas.Option.{slice_get_within, get_or_from_slice_get}
use Rattle.plterm.specs.declared.indicator.Indicator.{Indicator}
use Rattle.plclause.specs.Clause.{Clause}
use Rattle.plprogram.specs.Program.{AreOwn}
use Rattle.plcode.specs.declared.clause.ClauseCode.{ClauseCode}
use Rattle.plcode.specs.Steps.{text}
use Rattle.plcode.specs.Clauses.{AreCodeOf, AreProcedures}
use Rattle.plcode.proofs.Stays.{Extended-refl, Extended-trans}
use Rattle.plcode.proofs.Clauses.{AreProcedures-more, AreProcedures-put, AreOwn-put}
use Rattle.plcode.proofs.compile.compile_procedures.Goals as goal

pub loop-index-preserved : goal.loop-index-preserved
loop-index-preserved c =
    let before = text c.loop-index.code in
    let after = text c.compile_clauses.new.code in
    let invariant = c.loop-index.invariant in
    let e = c.in_ok-compiled.ensures in
    let es = c.args.program.now.procedures in
    let i = c.loop-index.index in
    let entry : Indicator × List Clause = (c.procedure_at.result.0.now, c.procedure_at.result.1.now) in
    let made = c.loop-index.made.items in
    let ks = c.in_ok-procedure.procedure in
    let here = c.procedure_at.ensures.is in
    let taken = take_more es i entry (slice_get_within es i entry here) ∙ ap (λ y. take i es ++ y ∷ []) (get_or_from_slice_get es i entry entry here) in
    let Codes : List (List ClauseCode) → Type 0 = λ kss. AreProcedures after kss (take (i + 1) es) in
    let One : List ClauseCode → Type 0 = λ js. AreCodeOf after js entry.1 in
    record {
      code = e.code;
      extended = Extended-trans (text c.args.code.now) before after invariant.extended e.extended;
      procedures = subst Codes (sym c.in_ok-push.ensures.items)
          (subst (AreProcedures after (made ++ ks ∷ [])) (sym taken)
          (AreProcedures-put after made (take i es) ks entry (AreProcedures-more before after invariant.code e.extended made (take i es) invariant.procedures)
          (subst One (sym c.in_ok-procedure.ensures) e.clauses)));
      own = subst AreOwn (sym taken) (AreOwn-put (take i es) entry invariant.own c.procedure_at.ensures.own);
    }

pub loop-index-init : goal.loop-index-init
loop-index-init c =
    let d = text c.args.code.now in
    let P : List (List ClauseCode) → Type 0 = λ kss. AreProcedures d kss [] in
    record { code = c.requires.code; extended = Extended-refl d; procedures = subst P (sym c.new-made.ensures.items) tt; own = tt }

-- the procedures are all gone over
gone : (c : goal.After-loop-index) → take c.loop-index.index c.args.program.now.procedures ≡ c.args.program.now.procedures
gone c = take_all c.loop-index.index c.args.program.now.procedures (omega (arith, c.loop-index-test.false, c.procedure_count-index-end.ensures))

pub returns-clause-extended : goal.returns-clause-extended
returns-clause-extended c = c.loop-index.invariant.extended

pub returns-clause-procedures : goal.returns-clause-procedures
returns-clause-procedures c = subst (AreProcedures (text c.loop-index.code) c.loop-index.made.items) (gone c) c.loop-index.invariant.procedures

pub returns-clause-own : goal.returns-clause-own
returns-clause-own c = subst AreOwn (gone c) c.loop-index.invariant.own
