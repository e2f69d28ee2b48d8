use Rattle.std.proofs.Common.{◌∙◌, ap, subst}
use Rattle.plrecords.specs.Kept.{seen}
use Rattle.plrecords.specs.Rising.{NoneIs, OneIs}
use Rattle.plstore.proofs.Look.{here-none, here-one}
use Rattle.plstore.proofs.tables.Tables.alive.Goals as goal

pub returns-in-None : goal.returns-in-None
returns-in-None c = (here-none c.args.g c.args.name c.args.self.now.records.items (subst (NoneIs c.args.name) c.deref.ensures.value c.in-None.ensures))

pub returns-in-Some : goal.returns-in-Some
returns-in-Some c =
    let rs = c.args.self.now.records.items in
    (c.is_seen.ensures ∙ ap (seen c.args.g) c.index.ensures
    ∙ here-one c.args.g c.args.name rs c.in-Some.index c.index.result.now (subst (λ l. OneIs c.args.name l c.in-Some.index) c.deref.ensures.value c.in-Some.ensures))
