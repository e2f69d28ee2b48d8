use Rattle.std.proofs.Common.{◌≡◌, ◌+◌, ◌<◌, ◌∙◌, ℕ, length, get_or, sym, ap, subst, arith}
use Rattle.std.proofs.lemmas.List.{get_or_default}
use Rattle.plcells.specs.declared.cell.Cell.TheVariants.{Ref}
use Rattle.plcells.specs.Store.{AddsVariable, Keeps}
use Rattle.plcells.proofs.Kept.{Keeps-refl}
use Rattle.plpacked.specs.Unfinished.{PutsVariable}
use Rattle.plpacked.proofs.Adding.{seen-variable, new-variable}
use Rattle.plpacked.proofs.unfinished.variable_value.Goals as goal

pub returns-in-Some-clause-ok : goal.returns-in-Some-clause-ok
returns-in-Some-clause-ok c =
    let cs = c.args.variables.now.items in
    let l = c.in-Some.ensures.lookup in
    let lt : c.args.x < length cs = grind (arith, l.0, ap length c.deref.ensures.value) in
    let e = l.1 ∙ ap (λ xs. get_or xs c.args.x c.in-Some.c.now) c.deref.ensures.value ∙ get_or_default cs c.args.x _ 0 lt in
    seen-variable c.args.heap.now c.args.number c.args.x c.in-Some.c.now cs c.requires.are lt (sym e)

pub returns-in-Some-clause-keeps : goal.returns-in-Some-clause-keeps
returns-in-Some-clause-keeps c = Keeps-refl c.args.heap.now

pub returns-in_default-checked_add-clause-keeps : goal.returns-in_default-checked_add-clause-keeps
returns-in_default-checked_add-clause-keeps c = Keeps-refl c.args.heap.now

pub returns-in_err-note_closed-clause-keeps : goal.returns-in_err-note_closed-clause-keeps
returns-in_err-note_closed-clause-keeps c = subst (Keeps c.args.heap.now) (sym c.note_closed.ensures) (Keeps-refl c.args.heap.now)

pub returns-in_err-c-clause-keeps : goal.returns-in_err-c-clause-keeps
returns-in_err-c-clause-keeps c = subst (Keeps c.args.heap.now) (sym (c.in_err-c.ensures.err ∙ c.note_closed.ensures)) (Keeps-refl c.args.heap.now)

pub returns-clause-ok : goal.returns-clause-ok
returns-clause-ok c =
    let h = c.args.heap.now in
    let cs = c.args.variables.now.items in
    let n = c.args.number in
    let after = c.push.new.self.items in
    let v = Ref c.in_ok-c.c in
    let none = c.in_default.ensures.lookup in
    let x : length cs ≡ c.args.x = omega (arith, none.2, ap length c.deref.ensures.value, c.requires.seen) in
    let at = c.in-Some-checked_add.ensures.1 ∙ ap (λ (k : ℕ). n + k) (sym x) in
    let adds = subst (λ s. AddsVariable s c.variable.new.self c.in_ok-c.c (n + length cs)) c.note_closed.ensures (subst (λ k. AddsVariable c.note_closed.new.self c.variable.new.self c.in_ok-c.c k) at c.in_ok-c.ensures.ok) in
    subst (λ y. PutsVariable h c.variable.new.self n y v cs after) x (new-variable h c.variable.new.self n c.in_ok-c.c cs after c.requires.are adds c.in_ok-push.ensures.items)
