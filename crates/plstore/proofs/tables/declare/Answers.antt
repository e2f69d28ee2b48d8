use Rattle.std.proofs.Common.{◌∙◌, refl, sym, ap}
use Rattle.plterm.specs.Indicators.{same_indicator}
use Rattle.plevent.specs.declared.update.Update.TheVariants.{Declare}
use Rattle.plevent.specs.Alive.{is_of, named}
use Rattle.plrecords.specs.declared.ends.Ends.{Ends}
use Rattle.plrecords.specs.Links.{earlier, ends_in}
use Rattle.plstore.specs.Tables.{kept_in}
use Rattle.plrecords.proofs.Backward.{at-set, earlier-some}
use Rattle.plstore.proofs.Classes.{chain-noted, links-alike}
use Rattle.plstore.proofs.Same.{indicator-self, same-is}
use Rattle.plstore.proofs.Since.{since-kept}
use Rattle.plstore.proofs.tables.declare.Goals as goal

pub returns-clause-chained : goal.returns-clause-chained
returns-clause-chained c =
    let t = c.args.tables.now in
    let k = c.args.key in
    let E = ends_in same_indicator t.index in
    let law = c.set_ends.ensures.set in
    let since = c.earlier-ends.ensures ∙ ap (λ (e : Ends). earlier e.since c.args.place) c.ends_of-was.ensures in
    record {
      procedures = λ p. chain-noted same_indicator same-is k (is_of p) p t.records.items t.by_procedure E (ends_in same_indicator c.set_ends.new.index) _ (law p) c.ends_of-was.result c.ends_of-was.ensures refl refl refl (c.requires.chained.procedures p);
      slots = c.requires.chained.slots;
      since = since-kept k (kept_in t) _ (record { at = named c.args.place 0; update = Declare c.args.pred }) _ E _ c.requires.chained.since law since
          (λ p. ap (λ q. same_indicator q p) (sym c.requires.key)) (ap (λ ds. record { records = t.records.items; declared = ds }) c.in-Ok.ensures.items);
      keyed = c.requires.chained.keyed;
    }

pub returns-clause-was : goal.returns-clause-was
returns-clause-was c =
    let t = c.args.tables.now in
    let k = c.args.key in
    record {
      last = record { pred = c.args.pred; place = c.args.place };
      records = refl;
      declared = c.in-Ok.ensures.items;
      by_procedure = links-alike t.by_procedure t.by_procedure refl refl;
      index = at-set same_indicator same-is k (indicator-self k) c.ends_of-was.result (record c.ends_of-was.result { since = c.earlier-ends.result }) (ends_in same_indicator t.index) (ends_in same_indicator c.set_ends.new.index)
          c.ends_of-was.ensures c.set_ends.ensures.set (λ h. earlier-some c.ends_of-was.result.since c.args.place (sym c.earlier-ends.ensures ∙ h));
      by_slot = links-alike t.by_slot t.by_slot refl refl;
      slots = λ n. refl;
      unkeyed = λ e. e;
    }
