use Rattle.std.proofs.Common.{◌∙◌, sym, ap, ap₂, subst, Some, None}
use Rattle.std.specs.Option.{option_map}
use Rattle.plevent.specs.Alive.{change_if}
use Rattle.plrecords.specs.declared.record.Record.{Record}
use Rattle.plrecords.specs.Kept.{clause_of, seen}
use Rattle.plrecords.specs.Rising.{NoneIs, OneIs}
use Rattle.plstore.specs.Tables.{kept_in}
use Rattle.plstore.proofs.Look.{find-one, here-none, here-one}
use Rattle.plstore.proofs.tables.Tables.clause_seen.Goals as goal

pub returns-in-None : goal.returns-in-None
returns-in-None c =
    let k = kept_in c.args.self.now in
    ap (λ b. change_if b (clause_of c.args.name k) None) (here-none c.args.g c.args.name k.records (subst (NoneIs c.args.name) c.deref.ensures.value c.in-None.ensures))

pub returns-in-Some : goal.returns-in-Some
returns-in-Some c =
    let k = kept_in c.args.self.now in
    let r = c.index.result.now in
    let one = subst (λ l. OneIs c.args.name l c.in-Some.index) c.deref.ensures.value c.in-Some.ensures in
    c.clause_at.ensures
    ∙ ap₂ (λ b o. change_if b o None) (ap (seen c.args.g) c.index.ensures ∙ here-one c.args.g c.args.name k.records c.in-Some.index r one)
    (ap (λ (r : Record). Some r.clause) c.index.ensures ∙ sym (ap (option_map (λ (r : Record). r.clause)) (find-one c.args.name k.records c.in-Some.index r one)))
