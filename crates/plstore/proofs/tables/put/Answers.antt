use Rattle.std.proofs.Common.{◌∙◌, refl, sym, ap, subst, arith}
use Rattle.std.specs.Prelude.{nat_eq}
use Rattle.plterm.specs.Indicators.{same_indicator}
use Rattle.plclause.specs.Clause.{Clause}
use Rattle.plclause.specs.Indicators.{indicator}
use Rattle.plevent.specs.Alive.{is_of}
use Rattle.plrecords.specs.Links.{ends_in}
use Rattle.plstore.specs.Plan.{put_update}
use Rattle.plrecords.specs.Slots.{in_slot, slot_of}
use Rattle.plstore.specs.Tables.{kept_in, AreKeyed}
use Rattle.plrecords.specs.Kept.{made}
use Rattle.plrecords.specs.Links.{ends_after, links_after}
use Rattle.plrecords.proofs.Backward.{at-set, earlier-some, newest-end}
use Rattle.plstore.proofs.Classes.{chains-put}
use Rattle.plrecords.proofs.Index.{newest-within}
use Rattle.plstore.proofs.Same.{indicator-self, nat-same, nat-self, same-is}
use Rattle.plstore.proofs.Since.{since-grown, since-kept, put-kept, put-names}
use Rattle.plstore.proofs.Slotted.{keyed-put, own-key, slot-is}
use Rattle.plstore.proofs.tables.put.Goals as goal

pub add-by_procedure-requires-clause-last : goal.add-by_procedure-requires-clause-last
add-by_procedure-requires-clause-last c = λ j h.
    let t = c.args.tables.now in
    newest-within (is_of c.args.pred) t.records.items t.by_procedure.next.items (ends_in same_indicator t.index c.args.pred) j (c.requires.chained.procedures c.args.pred).indexed h

pub add-by_slot-requires-clause-last : goal.add-by_slot-requires-clause-last
add-by_slot-requires-clause-last c = λ j h.
    let t = c.args.tables.now in
    let n = c.of_head-slot.result in
    newest-within (in_slot n) t.records.items t.by_slot.next.items (ends_in nat_eq t.slots n) j (c.requires.chained.slots n).indexed h

pub returns-clause-chained : goal.returns-clause-chained
returns-clause-chained c =
    let t = c.args.tables.now in
    let x = c.args.name in
    let clause = c.args.clause in
    let f = c.args.front in
    let n = c.len-number.result in
    let count = c.len-number.ensures ∙ t.records.ok.0 in
    let E = ends_in same_indicator t.index in
    let is_slot = slot-is c.new-slots.result.hasher c.args.pred clause c.of_head-slot.result c.new-slots.ensures c.requires.pred _ (c.root.ensures ∙ c.head.ensures.value) c.of_head-slot.ensures in
    record {
      procedures = chains-put same_indicator same-is (λ (c : Clause). indicator c.head) f x clause t.records.items t.by_procedure c.add-by_procedure.new.links E (ends_in same_indicator c.add-by_procedure.new.index) n c.args.pred
          c.requires.chained.procedures c.requires.pred count c.add-by_procedure.ensures.next c.add-by_procedure.ensures.ends c.add-by_procedure.ensures.runs c.push.new.self.items c.in-Ok.ensures.items;
      slots = chains-put nat_eq nat-same slot_of f x clause t.records.items t.by_slot c.add-by_slot.new.links (ends_in nat_eq t.slots) (ends_in nat_eq c.add-by_slot.new.index) n c.of_head-slot.result
          c.requires.chained.slots is_slot count c.add-by_slot.ensures.next c.add-by_slot.ensures.ends c.add-by_slot.ensures.runs c.push.new.self.items c.in-Ok.ensures.items;
      since = since-kept c.args.pred (kept_in t) _ (record { at = x; update = put_update f clause }) _ E _ c.requires.chained.since c.add-by_procedure.ensures.ends (since-grown f n x.place (E c.args.pred))
          (λ p. put-names f clause p ∙ ap (λ q. same_indicator q p) (sym c.requires.pred)) (put-kept f x clause t.records.items t.declared.items c.push.new.self.items c.in-Ok.ensures.items);
      keyed = λ k. subst AreKeyed (sym c.in-Ok.ensures.items)
          (keyed-put x clause f t.records.items (c.requires.chained.keyed (c.unkeyed_with-tables.ensures.before k)) (own-key c.new-slots.result.hasher clause _ _ (c.root.ensures ∙ c.head.ensures.value) c.of_head-slot.ensures (c.unkeyed_with-tables.ensures.this k)));
    }

pub returns-clause-room : goal.returns-clause-room
returns-clause-room c = λ n room. record {
  numbers = omega (arith, room.numbers, c.in-Ok.ensures.len);
  records = omega (arith, room.records, c.in-Ok.ensures.len, c.in-Ok.ensures.capacity);
  declared = omega (arith, room.declared);
  index = omega (arith, room.index, c.add-by_procedure.ensures.spare);
  by_procedure = c.add-by_procedure.ensures.room n room.by_procedure;
  slots = omega (arith, room.slots, c.add-by_slot.ensures.spare);
  by_slot = c.add-by_slot.ensures.room n room.by_slot;
}

pub returns-clause-was : goal.returns-clause-was
returns-clause-was c =
    let t = c.args.tables.now in
    let f = c.args.front in
    let n = c.len-number.result in
    let b = c.args.name.place in
    let p = c.args.pred in
    let s = c.of_head-slot.result in
    let E = ends_in same_indicator t.index in
    let F = ends_in nat_eq t.slots in
    let d = c.add-by_procedure.ensures.was in
    let e = c.add-by_slot.ensures.was in
    record {
      last = made c.args.name c.args.clause f;
      records = c.in-Ok.ensures.items;
      declared = refl;
      by_procedure = record {
        next = (n, c.add-by_procedure.ensures.next ∙ ap (λ e. links_after f n e t.by_procedure.next.items) (sym d));
        last = newest-end (is_of p) t.records.items t.by_procedure.next.items (E p) c.add-by_procedure.result.newest_back (ap (λ e. e.newest_back) d) (c.requires.chained.procedures p).indexed;
        runs = c.add-by_procedure.ensures.more;
      };
      index = at-set same_indicator same-is p (indicator-self p) c.add-by_procedure.result (ends_after f n b (E p)) E (ends_in same_indicator c.add-by_procedure.new.index) d c.add-by_procedure.ensures.ends
          (λ h. earlier-some (E p).since b (sym (since-grown f n b (E p)) ∙ h));
      by_slot = record {
        next = (n, c.add-by_slot.ensures.next ∙ ap (λ e. links_after f n e t.by_slot.next.items) (sym e));
        last = newest-end (in_slot s) t.records.items t.by_slot.next.items (F s) c.add-by_slot.result.newest_back (ap (λ e. e.newest_back) e) (c.requires.chained.slots s).indexed;
        runs = c.add-by_slot.ensures.more;
      };
      slots = at-set nat_eq nat-same s (nat-self s) c.add-by_slot.result (ends_after f n b (F s)) F (ends_in nat_eq c.add-by_slot.new.index) e c.add-by_slot.ensures.ends
          (λ h. earlier-some (F s).since b (sym (since-grown f n b (F s)) ∙ h));
      unkeyed = c.unkeyed_with-tables.ensures.before;
    }
