use Rattle.std.proofs.Common.{sym, ap, subst}
use Rattle.plevent.specs.declared.update.Update.TheVariants.{Erase}
use Rattle.plevent.specs.Alive.{named}
use Rattle.plrecords.specs.Kept.{Kept}
use Rattle.plstore.specs.Plan.{update_of}
use Rattle.plrecords.specs.Rising.{AllBelowPlace, InOrder, IsRising}
use Rattle.plstore.proofs.Search.{order-keep, order-start}
use Rattle.plstore.proofs.store.Store.make_one.Goals as goal

pub invariant_of-self : goal.invariant_of-self
invariant_of-self c =
    let p = c.args.place in
    let t = c.self.inside.tables in
    let below = subst (λ (k : Kept). AllBelowPlace p k.records) (sym c.self.view_is) c.requires in
    record {
      rising = subst IsRising (sym c.erase.ensures.erased) (order-keep p 0 (Erase c.in-Erase.name) t.records.items (order-start p t.records.items c.self.invariant.rising below)).rising;
      chained = c.erase.ensures.chained;
    }

pub invariant_of-self-2 : goal.invariant_of-self-2
invariant_of-self-2 c =
    let p = c.args.place in
    let t = c.self.inside.tables in
    let below = subst (λ (k : Kept). AllBelowPlace p k.records) (sym c.self.view_is) c.requires in
    let order = subst (InOrder (named p 0)) (sym (ap (λ k. k.records) c.in_ok-reserve.ensures.kept)) (order-start p t.records.items c.self.invariant.rising below) in
    record {
      rising = subst IsRising (sym (ap (λ k. k.records) c.make.ensures.made)) (order-keep p 0 (update_of c.in_ok-planned.planned) c.reserve.new.tables.records.items order).rising;
      chained = c.make.ensures.chained;
    }
