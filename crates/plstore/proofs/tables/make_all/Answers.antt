use Rattle.std.proofs.Common.{◌≡◌, ◌+◌, suc, [], ◌∷◌, ◌++◌, length, fold, sym, ◌∙◌, ap, subst, arith, append_assoc, length-append}
use Rattle.plevent.specs.Alive.{stamped, named}
use Rattle.plrecords.specs.Kept.{keep}
use Rattle.plstore.specs.Plan.{update_of, updates_of, AllPlanned}
use Rattle.plrecords.specs.Rising.{InOrder}
use Rattle.plstore.specs.Room.{HasRoom}
use Rattle.plstore.specs.Tables.{kept_in}
use Rattle.plstore.proofs.Plans.{updates-append, updates-length}
use Rattle.plstore.proofs.Search.{kept-more, order-keep}
use Rattle.plstore.proofs.tables.make_all.Goals as goal

pub loop-planned-preserved : goal.loop-planned-preserved
loop-planned-preserved c =
    let i = c.loop-planned.invariant.2 in
    let s = c.in-Some.ensures.steps in
    let p = c.args.place in
    let x = c.in-Some.planned in
    let u = update_of x in
    let n = c.loop-planned.number in
    let us = updates_of c.loop-planned.yielded in
    let l : length (c.loop-planned.yielded ++ x ∷ []) ≡ length c.loop-planned.yielded + 1 = length-append c.loop-planned.yielded (x ∷ []) in
    let r : length c.loop-planned.planned-iterator.rest.items ≡ suc (length c.next.new.self.rest.items) = ap length s.0 in
    let rest : AllPlanned (x ∷ c.next.new.self.rest.items) = subst AllPlanned s.0 i.planned in
    let e : n ≡ length us = i.count ∙ sym (updates-length c.loop-planned.yielded) in (
      tt,
      tt,
      record {
        all_of = append_assoc c.loop-planned.yielded (x ∷ []) c.next.new.self.rest.items ∙ ap (λ l. c.loop-planned.yielded ++ l) (sym s.0) ∙ i.all_of;
        count = omega (arith, l, i.count);
        made = c.make.ensures.made ∙ ap (λ k. keep k (record { at = named p n; update = u })) i.made
            ∙ ap (λ n. keep (fold keep (kept_in c.args.tables.now) (stamped p 0 us)) (record { at = named p n; update = u })) e
            ∙ sym (kept-more p us u (kept_in c.args.tables.now))
            ∙ ap (λ us. fold keep (kept_in c.args.tables.now) (stamped p 0 us)) (sym (updates-append c.loop-planned.yielded (x ∷ [])));
        order = subst (λ n. InOrder (named p n) c.make.new.tables.records.items) (omega arith)
            (subst (InOrder (named p (suc n))) (sym (ap (λ k. k.records) c.make.ensures.made)) (order-keep p n u c.loop-planned.tables.records.items i.order));
        chained = c.make.ensures.chained;
        planned = rest.1;
        room = c.make.ensures.room (length c.next.new.self.rest.items) (subst (λ n. HasRoom n c.loop-planned.tables) (omega (arith, r)) i.room);
      },
    )
