use Rattle.std.proofs.Common.{◌∙◌, refl, ap}
use Rattle.plevent.specs.declared.key.Key.TheVariants.{Any}
use Rattle.plrecords.specs.Slots.{slot_behind}
use Rattle.plstore.proofs.Slotted.{keyed-cover, slots-cover}
use Rattle.plstore.proofs.chain.merge_keyed.Goals as goal

pub returns-then-not-tables : goal.returns-then-not-tables
returns-then-not-tables c =
    let q = c.args.sought.now in
    record {
      links = λ t. refl;
      covers = keyed-cover q.pred.now q.key.now c.args.tables.now.records.items c.of_key.result (c.requires.chained.keyed c.if-not-tables.true) c.requires.key (c.of_key.ensures ∙ ap (λ h. slot_behind h q.key.now) c.new-slots.ensures);
    }

pub returns : goal.returns
returns c =
    let q = c.args.sought.now in
    let slots = c.new-slots.ensures in
    record {
      links = λ t. refl;
      covers = slots-cover q.pred.now q.key.now c.args.tables.now.records.items c.any.result c.of_key.result c.requires.key
          (c.any.ensures ∙ ap (λ h. slot_behind h Any) slots) (c.of_key.ensures ∙ ap (λ h. slot_behind h q.key.now) slots);
    }
