use Rattle.std.proofs.Common.{◌∙◌, refl, sym, ap, subst, arith, get_or}
use Rattle.std.specs.Prelude.{nat_eq}
use Rattle.plterm.specs.Indicators.{same_indicator}
use Rattle.plevent.specs.Alive.{is_of}
use Rattle.plrecords.specs.declared.record.Record.{Record}
use Rattle.plrecords.specs.Links.{ends_in}
use Rattle.plrecords.specs.Runs.{IsGone}
use Rattle.plrecords.specs.Slots.{in_slot}
use Rattle.plstore.specs.Chains.{IsChain}
use Rattle.plstore.specs.Tables.{AreKeyed}
use Rattle.plstore.proofs.Classes.{chain-erased, chain-kept, links-alike}
use Rattle.plstore.proofs.Slotted.{keyed-erased}
use Rattle.plstore.proofs.Since.{since-erased}
use Rattle.plstore.proofs.tables.erase.Goals as goal

pub returns-in-Some-clause-chained : goal.returns-in-Some-clause-chained
returns-in-Some-clause-chained c =
    let t = c.args.tables.now in
    let e = c.in-Some.ensures.erased in
    let gone = subst (λ rs. (d : Record) → IsGone c.args.place (get_or rs c.in-Some.number d).erased) e c.in-Some.ensures.gone in
    record {
      procedures = λ p. subst (λ rs. IsChain (is_of p) rs c.bury-by_procedure.new.self (ends_in same_indicator t.index p)) (sym e)
          (chain-erased (is_of p) c.args.of c.args.place c.in-Some.number t.records.items t.by_procedure c.bury-by_procedure.new.self _ (c.requires.chained.procedures p) gone c.bury-by_procedure.ensures.next c.bury-by_procedure.ensures.runs);
      slots = λ n. subst (λ rs. IsChain (in_slot n) rs c.bury-by_slot.new.self (ends_in nat_eq t.slots n)) (sym e)
          (chain-erased (in_slot n) c.args.of c.args.place c.in-Some.number t.records.items t.by_slot c.bury-by_slot.new.self _ (c.requires.chained.slots n) gone c.bury-by_slot.ensures.next c.bury-by_slot.ensures.runs);
      since = λ p g. c.requires.chained.since p g ∙ since-erased p g c.args.of c.args.place t.records.items c.erase_record.new.records.items t.declared.items e;
      keyed = λ k. subst AreKeyed (sym e) (keyed-erased c.args.of c.args.place t.records.items (c.requires.chained.keyed k));
    }

pub returns-in-None-clause-chained : goal.returns-in-None-clause-chained
returns-in-None-clause-chained c =
    let t = c.args.tables.now in
    let e = c.in-None.ensures.erased in
    record {
      procedures = λ p. subst (λ rs. IsChain (is_of p) rs t.by_procedure (ends_in same_indicator t.index p)) (sym e) (chain-kept (is_of p) c.args.of c.args.place t.records.items t.by_procedure _ (c.requires.chained.procedures p));
      slots = λ n. subst (λ rs. IsChain (in_slot n) rs t.by_slot (ends_in nat_eq t.slots n)) (sym e) (chain-kept (in_slot n) c.args.of c.args.place t.records.items t.by_slot _ (c.requires.chained.slots n));
      since = λ p g. c.requires.chained.since p g ∙ since-erased p g c.args.of c.args.place t.records.items c.erase_record.new.records.items t.declared.items e;
      keyed = λ k. subst AreKeyed (sym e) (keyed-erased c.args.of c.args.place t.records.items (c.requires.chained.keyed k));
    }

pub returns-in-Some-clause-room : goal.returns-in-Some-clause-room
returns-in-Some-clause-room c = λ n room. record {
  numbers = omega (arith, room.numbers, c.in-Some.ensures.len);
  records = omega (arith, room.records, c.in-Some.ensures.room, c.in-Some.ensures.len);
  declared = omega (arith, room.declared);
  index = omega (arith, room.index);
  by_procedure = c.bury-by_procedure.ensures.room n (record { next = omega (arith, room.by_procedure.next); places = omega (arith, room.by_procedure.places) });
  slots = omega (arith, room.slots);
  by_slot = c.bury-by_slot.ensures.room n (record { next = omega (arith, room.by_slot.next); places = omega (arith, room.by_slot.places) });
}

pub returns-in-Some-clause-was : goal.returns-in-Some-clause-was
returns-in-Some-clause-was c = record {
  records = c.in-Some.ensures.was;
  declared = refl;
  by_procedure = record { next = ap (λ v. v.items) c.bury-by_procedure.ensures.next; runs = c.bury-by_procedure.ensures.noted };
  index = λ p. refl;
  by_slot = record { next = ap (λ v. v.items) c.bury-by_slot.ensures.next; runs = c.bury-by_slot.ensures.noted };
  slots = λ n. refl;
  unkeyed = λ e. e;
}

pub returns-in-None-clause-was : goal.returns-in-None-clause-was
returns-in-None-clause-was c =
    let t = c.args.tables.now in
    record {
      records = c.in-None.ensures.was;
      declared = refl;
      by_procedure = links-alike t.by_procedure t.by_procedure refl refl;
      index = λ p. refl;
      by_slot = links-alike t.by_slot t.by_slot refl refl;
      slots = λ n. refl;
      unkeyed = λ e. e;
    }
