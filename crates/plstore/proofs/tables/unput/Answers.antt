use Rattle.std.proofs.Common.{◌≡◌, ◌+◌, ◌-◌, ◌<◌, ◌∙◌, sym, ap, subst, arith, length, get_or, Some, unwrap_or}
use Rattle.std.proofs.lemmas.List.{get_or_at}
use Rattle.plrecords.specs.declared.record.Record.{Record}
use Rattle.plrecords.specs.Links.{no_ends}
use Rattle.plrecords.specs.Undone.{IsLonger}
use Rattle.plrecords.proofs.Backward.{take-back}
use Rattle.plrecords.proofs.Bits.{length-push}
use Rattle.plstore.proofs.tables.unput.Goals as goal

pub restore_ends-requires : goal.restore_ends-requires
restore_ends-requires c = λ e. c.requires.index (ap (λ o. (unwrap_or o no_ends).since) e)

pub restore_ends-requires-2 : goal.restore_ends-requires-2
restore_ends-requires-2 c = λ e. c.requires.slots (ap (λ o. (unwrap_or o no_ends).since) e)

pub returns-in-None : goal.returns-in-None
returns-in-None c = record { back = λ was h. absurd (omega (arith, ap length h.records, length-push was.records.items h.last, c.in-None.ensures.cases.0, c.args.tables.now.records.ok.0)) }

pub returns-in-Some : goal.returns-in-Some
returns-in-Some c = record {
  back = λ was h.
      let rs = c.args.tables.now.records in
      let n = ap (λ k. k - 1) rs.ok.0 in
      let size : length rs.items ≡ length was.records.items + 1 = omega (arith, ap length h.records, length-push was.records.items h.last) in
      let some : 0 < rs.len = omega (arith, size, rs.ok.0) in
      let at : length was.records.items ≡ rs.len - 1 = omega (arith, size, rs.ok.0) in
      let last : c.in-Some.last ≡ h.last = some-same (sym c.in-Some.is ∙ c.pop.ensures.value h.last some) ∙ ap (λ l. get_or l (rs.len - 1) h.last) h.records ∙ get_or_at was.records.items h.last _ h.last (rs.len - 1) at in
      record {
        records = c.pop.ensures.rest ∙ take-back was.records.items h.last rs.items _ h.records n;
        declared = h.declared;
        by_procedure = c.drop_last.ensures was.by_procedure (subst (λ (r : Record). IsLonger r.front c.args.linked.now.by_procedure was.by_procedure c.args.tables.now.by_procedure) (sym last) h.by_procedure);
        index = λ p. c.restore_ends.ensures.set p ∙ sym (h.index.each p);
        by_slot = c.drop_last-in-Some.ensures was.by_slot (subst (λ (r : Record). IsLonger r.front c.args.linked.now.by_slot was.by_slot c.args.tables.now.by_slot) (sym last) h.by_slot);
        slots = λ n. c.restore_ends-2.ensures.set n ∙ sym (h.slots.each n);
        unkeyed = h.unkeyed;
      };
}
  where
    some-same : {a b : Record} → Some a ≡ Some b → a ≡ b
    some-same e = cc
