use Rattle.std.proofs.Common.{◌≤◌, ◌++◌, List, length, append-nil, arith, refl, subst, sym}
use Rattle.std.proofs.lemmas.List.{take_all}
use Rattle.plterm.specs.declared.indicator.Indicator.{Indicator}
use Rattle.plclause.specs.Clause.{Clause}
use Rattle.platoms.proofs.Extending.{Extends-refl, Extends-trans}
use Rattle.plcode.specs.declared.callee.Callee.{Callee}
use Rattle.plcode.specs.Callees.{statics, AreEntries}
use Rattle.plcode.proofs.Programs.{procedure_more}
use Rattle.plcode.proofs.program.add_procedures.Goals as goal

pub loop-index-init : goal.loop-index-init
loop-index-init c = record {
  table = c.requires;
  extends = Extends-refl c.args.names.now;
  entries = λ ws h. let P : List (Indicator × Callee) → Type 0 = λ v. AreEntries c.args.names.now v c.args.entries.now.items in subst P (sym (append-nil ws)) h;
}

pub loop-index-preserved : goal.loop-index-preserved
loop-index-preserved c =
    let s = c.loop-index.names in
    let t = c.number_of.new.names in
    let i = c.loop-index.invariant in
    let e = c.in_ok-number.ensures in
    let entry : Indicator × List Clause = (c.procedure_at.result.0.now, c.procedure_at.result.1.now) in
    record {
      table = e.table;
      extends = Extends-trans c.args.names.now s t i.extends e.extends;
      entries = λ ws h.
          procedure_more s t e.extends i.table c.loop-index.entries.items c.push.new.self.items _ c.procedure_at.result.0.now.name c.in_ok-push.ensures.items c.args.program.now.procedures
          c.loop-index.index c.in-Ok.place entry ws c.procedure_at.ensures.is c.in-Ok.ensures.1 (i.entries ws h) refl e.number c.procedure_callee.ensures;
    }

pub returns-clause-entries : goal.returns-clause-entries
returns-clause-entries c = λ ws h.
    let all = c.args.program.now.procedures in
    let P : List (Indicator × List Clause) → Type 0 = λ v. AreEntries c.loop-index.names (ws ++ statics 0 v) c.loop-index.entries.items in
    let le : length all ≤ c.loop-index.index = omega (arith, c.procedure_count-index-end.ensures) in
    subst P (take_all c.loop-index.index all le) (c.loop-index.invariant.entries ws h)
