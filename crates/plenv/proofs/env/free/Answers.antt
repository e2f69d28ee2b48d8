use Rattle.std.proofs.Common.{◌≡◌, ◌∙◌, ◌<◌, ◌≤◌, true, false, length, drop, ap, sym, arith}
use Rattle.std.proofs.lemmas.List.{set_past}
use Rattle.plenv.specs.declared.slot.Slot.TheVariants.{Free}
use Rattle.plenv.specs.Env.{freed}
use Rattle.plenv.proofs.Freeing.{free-step, free-notes}
use Rattle.plenv.proofs.env.free.Goals as goal

pub loop-noted-preserved-in-Some-get_mut : goal.loop-noted-preserved-in-Some-get_mut
loop-noted-preserved-in-Some-get_mut c =
    let l = c.loop-noted in
    let rest = c.pop.new.self.items in
    let e = c.in-Some.ensures.items in
    let room : c.args.keep ≤ length rest = omega (arith, c.loop-noted-test.true, c.len.ensures, c.pop.new.self.ok.0, c.in-Some.ensures.cases) in
    record {
      room = room;
      slots = free-step l.slots.items l.noted.items rest c.in-Some.set c.args.keep e room ∙ l.invariant.slots;
      noted = free-notes l.noted.items rest c.in-Some.set c.args.keep e room ∙ l.invariant.noted;
    }

pub loop-noted-preserved : goal.loop-noted-preserved
loop-noted-preserved c =
    let l = c.loop-noted in
    let rest = c.pop.new.self.items in
    let e = c.in-Some.ensures.items in
    let n = c.in-Some.set in
    let room : c.args.keep ≤ length rest = omega (arith, c.loop-noted-test.true, c.len.ensures, c.pop.new.self.ok.0, c.in-Some.ensures.cases) in
    let past : length l.slots.items ≤ n.slot = let none : n.slot < length l.slots.items → ⊥ = λ lt. let e : false ≡ true = c.in_default-get_mut.ensures.variant.1 (omega (arith, lt, l.slots.ok.0)) in (cc) in omega (arith, none) in
    record {
      room = room;
      slots = ap (λ xs. freed xs (drop c.args.keep rest)) (sym (set_past l.slots.items n.slot (Free n.number) past)) ∙ free-step l.slots.items l.noted.items rest n c.args.keep e room ∙ l.invariant.slots;
      noted = free-notes l.noted.items rest n c.args.keep e room ∙ l.invariant.noted;
    }
