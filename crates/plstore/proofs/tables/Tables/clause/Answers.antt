use Rattle.std.proofs.Common.{◌∙◌, sym, ap, subst, Some}
use Rattle.std.specs.Option.{option_map}
use Rattle.plrecords.specs.declared.record.Record.{Record}
use Rattle.plrecords.specs.Rising.{NoneIs, OneIs}
use Rattle.plstore.proofs.Look.{find-none, find-one}
use Rattle.plstore.proofs.tables.Tables.clause.Goals as goal

pub returns-in-None : goal.returns-in-None
returns-in-None c = (sym (ap (option_map (λ (r : Record). r.clause)) (find-none c.args.name c.args.self.now.records.items (subst (NoneIs c.args.name) c.deref.ensures.value c.in-None.ensures))))

pub returns-in-Some : goal.returns-in-Some
returns-in-Some c =
    let rs = c.args.self.now.records.items in
    (ap (λ (r : Record). Some r.clause) c.index.ensures
    ∙ sym (ap (option_map (λ (r : Record). r.clause)) (find-one c.args.name rs c.in-Some.index c.index.result.now (subst (λ l. OneIs c.args.name l c.in-Some.index) c.deref.ensures.value c.in-Some.ensures))))
