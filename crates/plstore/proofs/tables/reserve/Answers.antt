use Rattle.std.proofs.Common.{refl, ap, unwrap_or}
use Rattle.plrecords.specs.Links.{no_ends}
use Rattle.plstore.proofs.Classes.{chained-same, links-alike}
use Rattle.plstore.proofs.tables.reserve.Goals as goal

pub returns-in_err-reserve-4-clause-same : goal.returns-in_err-reserve-4-clause-same
returns-in_err-reserve-4-clause-same c = record {
  records = c.reserve.ensures.items;
  declared = c.reserve-2.ensures.items;
  by_procedure = links-alike c.args.tables.now.by_procedure c.reserve-4.new.self c.reserve-4.ensures.next c.reserve-4.ensures.places;
  index = λ p. ap (λ o. unwrap_or o no_ends) (c.reserve-3.ensures.entries.2 p);
  by_slot = links-alike c.args.tables.now.by_slot c.args.tables.now.by_slot refl refl;
  slots = λ n. refl;
  unkeyed = λ e. e;
}

pub returns-in_err-reserve-5-clause-same : goal.returns-in_err-reserve-5-clause-same
returns-in_err-reserve-5-clause-same c = record {
  records = c.reserve.ensures.items;
  declared = c.reserve-2.ensures.items;
  by_procedure = links-alike c.args.tables.now.by_procedure c.reserve-4.new.self c.reserve-4.ensures.next c.reserve-4.ensures.places;
  index = λ p. ap (λ o. unwrap_or o no_ends) (c.reserve-3.ensures.entries.2 p);
  by_slot = links-alike c.args.tables.now.by_slot c.args.tables.now.by_slot refl refl;
  slots = λ n. ap (λ o. unwrap_or o no_ends) (c.reserve-5.ensures.entries.2 n);
  unkeyed = λ e. e;
}

pub returns-in_err-reserve-6-clause-same : goal.returns-in_err-reserve-6-clause-same
returns-in_err-reserve-6-clause-same c = record {
  records = c.reserve.ensures.items;
  declared = c.reserve-2.ensures.items;
  by_procedure = links-alike c.args.tables.now.by_procedure c.reserve-4.new.self c.reserve-4.ensures.next c.reserve-4.ensures.places;
  index = λ p. ap (λ o. unwrap_or o no_ends) (c.reserve-3.ensures.entries.2 p);
  by_slot = links-alike c.args.tables.now.by_slot c.reserve-6.new.self c.reserve-6.ensures.next c.reserve-6.ensures.places;
  slots = λ n. ap (λ o. unwrap_or o no_ends) (c.reserve-5.ensures.entries.2 n);
  unkeyed = λ e. e;
}

pub returns-clause-same : goal.returns-clause-same
returns-clause-same c = record {
  records = c.reserve.ensures.items;
  declared = c.reserve-2.ensures.items;
  by_procedure = links-alike c.args.tables.now.by_procedure c.reserve-4.new.self c.reserve-4.ensures.next c.reserve-4.ensures.places;
  index = λ p. ap (λ o. unwrap_or o no_ends) (c.reserve-3.ensures.entries.2 p);
  by_slot = links-alike c.args.tables.now.by_slot c.reserve-6.new.self c.reserve-6.ensures.next c.reserve-6.ensures.places;
  slots = λ n. ap (λ o. unwrap_or o no_ends) (c.reserve-5.ensures.entries.2 n);
  unkeyed = λ e. e;
}

pub returns-in_err-reserve-4-clause-chained : goal.returns-in_err-reserve-4-clause-chained
returns-in_err-reserve-4-clause-chained c = chained-same c.args.tables.now _ (returns-in_err-reserve-4-clause-same c) c.requires.chained

pub returns-in_err-reserve-5-clause-chained : goal.returns-in_err-reserve-5-clause-chained
returns-in_err-reserve-5-clause-chained c = chained-same c.args.tables.now _ (returns-in_err-reserve-5-clause-same c) c.requires.chained

pub returns-in_err-reserve-6-clause-chained : goal.returns-in_err-reserve-6-clause-chained
returns-in_err-reserve-6-clause-chained c = chained-same c.args.tables.now _ (returns-in_err-reserve-6-clause-same c) c.requires.chained

pub returns-clause-chained : goal.returns-clause-chained
returns-clause-chained c = chained-same c.args.tables.now _ (returns-clause-same c) c.requires.chained
