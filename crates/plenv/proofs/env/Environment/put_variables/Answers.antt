use Rattle.std.proofs.Common.{◌≡◌, ◌∙◌, ◌+◌, refl, ap, sym, arith}
use Rattle.plcode.specs.declared.node.Node.TheVariants.{Var}
use Rattle.plenv.specs.Env.{slot_at}
use Rattle.plenv.specs.Changes.{Stays}
use Rattle.plenv.proofs.Packing.{free-step, free-wider}
use Rattle.plenv.proofs.Putting.{Stays-refl, Stays-trans, Puts-stays}
use Rattle.plenv.proofs.env.Environment.put_variables.Goals.{in-Var+then-slot-slot_count+in_ok-put_slot, in-Var+else-slot-slot_count, in_default}
use Rattle.plenv.proofs.env.Environment.put_variables.Goals as goal

pub loop-node-init : goal.loop-node-init
loop-node-init c = record { set = λ f. let b = f.before in omega (arith, b); stays = Stays-refl c.args.self.now; names = refl; freed = λ i n lt e. e }

pub returns-in_err-put_slot-clause-stays : goal.returns-in_err-put_slot-clause-stays
returns-in_err-put_slot-clause-stays c =
    let l = c.loop-node in
    Stays-trans c.args.self.now l.self c.put_slot.new.self l.invariant.stays c.in_err-put_slot.ensures.err

pub loop-node-preserved : goal.loop-node-preserved
loop-node-preserved c =
    let l = c.loop-node in
    let old = c.args.self.now in
    elim c.match-node.branch [
      | in-Var+then-slot-slot_count+in_ok-put_slot w ↦
          let new = w.put_slot.new.self in
          let p = w.in_ok-put_slot.ensures.variable in
          let kept : Stays l.self new = Puts-stays _ _ _ _ p in
          rw w.self-is (record {
            set = free-step new.slots c.args.base c.args.row.now l.node-index
                (λ f. l.invariant.set (free-wider l.self new c.args.base c.args.row.now 0 l.node-index 0 l.node-index kept w.in_ok-put_slot.ensures.freer (omega arith) (omega arith) f))
                (λ s n is within at. let both : Var s ≡ Var w.in-Var.s = sym is ∙ w.in-Var.is in let same : s ≡ w.in-Var.s = (cc) in w.in_ok-put_slot.ensures.set n (ap (λ i. slot_at new.slots (c.args.base + i)) (sym same) ∙ at));
            stays = Stays-trans old l.self new l.invariant.stays kept;
            names = w.in_ok-put_slot.ensures.names ∙ l.invariant.names;
            freed = λ i n lt at. l.invariant.freed i n (omega (arith, lt, kept.slots)) (w.in_ok-put_slot.ensures.freer i n lt at);
          })
      | in-Var+else-slot-slot_count w ↦ rw w.self-is (record {
        set = free-step l.self.slots c.args.base c.args.row.now l.node-index l.invariant.set
            (λ s n is within at. let both : Var s ≡ Var w.in-Var.s = sym is ∙ w.in-Var.is in let same : s ≡ w.in-Var.s = (cc) in omega (arith, within, same, w.if-slot-slot_count.false, w.slot_count.ensures));
        stays = l.invariant.stays;
        names = l.invariant.names;
        freed = l.invariant.freed;
      })
      | in_default w ↦ rw w.self-is (record {
        set = free-step l.self.slots c.args.base c.args.row.now l.node-index l.invariant.set (λ s n is within at. w.in_default.not-Var s is);
        stays = l.invariant.stays;
        names = l.invariant.names;
        freed = l.invariant.freed;
      })
    ]
