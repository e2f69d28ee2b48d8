use Rattle.std.proofs.Common.{◌≡◌, ◌∙◌, sym, ap, subst}
use Rattle.std.proofs.lemmas.List.{get_or_read, get_or-set_same}
use Rattle.std.proofs.lemmas.Result.{err_from_is_err_and}
use Rattle.plterm.specs.Tree.{var}
use Rattle.plcells.specs.declared.cell.Cell.TheVariants.{Ref}
use Rattle.plenv.specs.declared.slot.Slot.TheVariants.{Free, Set}
use Rattle.plenv.specs.Env.{Env, slot_at, slot_term, IsSlot}
use Rattle.plenv.specs.Changes.{Puts}
use Rattle.plenv.proofs.Keeping.{with_slot}
use Rattle.plenv.proofs.Changing.{was-free}
use Rattle.plenv.proofs.Putting.{Puts-there, Stays-refl, stays-noted, slots-variable, puts-variable}
use Rattle.plenv.proofs.env.Environment.put_slot.Goals as goal

pub returns-in-Set-clause-variable : goal.returns-in-Set-clause-variable
returns-in-Set-clause-variable c =
    let within = rw (← c.self.view_is) at c.requires.within in
    rw (← c.self.view_is) (
    let s = c.self.inside in
    let e : Env = record { heap = s.heap; slots = s.slots.items; noted = s.noted.items; boundary = s.boundary; count = s.count } in
    let read = get_or_read s.slots.items c.args.slot c.index.result.now within c.index.ensures (Free 0) in
    let is : slot_at s.slots.items c.args.slot ≡ Set c.in-Set.v = sym read ∙ c.in-Set.is in
    let fits : IsSlot e (Set c.in-Set.v) = subst (IsSlot e) is (c.self.invariant.fit c.args.slot within) in
    subst (Puts e e c.in-Set.v) (sym (ap (slot_term s.heap) is)) (Puts-there e c.in-Set.v fits))

pub returns-in_err-note-clause-err : goal.returns-in_err-note-clause-err
returns-in_err-note-clause-err c = rw (← c.self.view_is) (
    let s = c.self.inside in
    let e : Env = record { heap = s.heap; slots = s.slots.items; noted = s.noted.items; boundary = s.boundary; count = s.count } in
    let p = err_from_is_err_and c.from_residual.result c.from_residual.ensures.1 in
    rw p.1 (rw (c.in_err-note.ensures.err) (Stays-refl e)))

pub returns-in_err-c-clause-err : goal.returns-in_err-c-clause-err
returns-in_err-c-clause-err c =
    let within = rw (← c.self.view_is) at c.requires.within in
    rw (← c.self.view_is) (
    let s = c.self.inside in
    let e : Env = record { heap = s.heap; slots = s.slots.items; noted = s.noted.items; boundary = s.boundary; count = s.count } in
    let read = get_or_read s.slots.items c.args.slot c.index.result.now within c.index.ensures (Free 0) in
    let is : slot_at s.slots.items c.args.slot ≡ Free c.in-Free.number = sym read ∙ c.in-Free.is in
    let p = err_from_is_err_and c.from_residual-in_err-c.result c.from_residual-in_err-c.ensures.1 in
    rw p.1 (rw (c.in_ok-note.ensures.ok, c.in_err-c.ensures.err) (stays-noted e c.args.slot c.in-Free.number is)))

pub invariant_of-self-2 : goal.invariant_of-self-2
invariant_of-self-2 c =
    let within = rw (← c.self.view_is) at c.requires.within in
    let s = c.self.inside in
    let e : Env = record { heap = s.heap; slots = s.slots.items; noted = s.noted.items; boundary = s.boundary; count = s.count } in
    let read = get_or_read s.slots.items c.args.slot c.index.result.now within c.index.ensures (Free 0) in
    let is : slot_at s.slots.items c.args.slot ≡ Free c.in-Free.number = sym read ∙ c.in-Free.is in
    rw (c.in_ok-note.ensures.ok) (slots-variable e c.add_variable.new.heap c.args.slot c.in-Free.number c.in_ok-c.c c.self.invariant within is c.in_ok-c.ensures.ok)

pub returns-clause-ok : goal.returns-clause-ok
returns-clause-ok c =
    let within = rw (← c.self.view_is) at c.requires.within in
    rw (← c.self.view_is) (λ n free.
    let s = c.self.inside in
    let e : Env = record { heap = s.heap; slots = s.slots.items; noted = s.noted.items; boundary = s.boundary; count = s.count } in
    let read = get_or_read s.slots.items c.args.slot c.index.result.now within c.index.ensures (Free 0) in
    let is : slot_at s.slots.items c.args.slot ≡ Free c.in-Free.number = sym read ∙ c.in-Free.is in
    let here : Free c.in-Free.number ≡ Free n = sym is ∙ free in
    let same : c.in-Free.number ≡ n = (cc) in
    rw (c.in_ok-note.ensures.ok) (subst (λ k. Puts e (with_slot e c.add_variable.new.heap c.args.slot c.in-Free.number (Set (Ref c.in_ok-c.c))) (Ref c.in_ok-c.c) (var k)) same
    (puts-variable e c.add_variable.new.heap c.args.slot c.in-Free.number c.in_ok-c.c c.self.invariant within is c.in_ok-c.ensures.ok)))

pub returns-clause-variable : goal.returns-clause-variable
returns-clause-variable c =
    let within = rw (← c.self.view_is) at c.requires.within in
    rw (← c.self.view_is) (
    let s = c.self.inside in
    let e : Env = record { heap = s.heap; slots = s.slots.items; noted = s.noted.items; boundary = s.boundary; count = s.count } in
    let read = get_or_read s.slots.items c.args.slot c.index.result.now within c.index.ensures (Free 0) in
    let is : slot_at s.slots.items c.args.slot ≡ Free c.in-Free.number = sym read ∙ c.in-Free.is in
    rw (c.in_ok-note.ensures.ok) (subst (Puts e (with_slot e c.add_variable.new.heap c.args.slot c.in-Free.number (Set (Ref c.in_ok-c.c))) (Ref c.in_ok-c.c)) (sym (ap (slot_term s.heap) is))
    (puts-variable e c.add_variable.new.heap c.args.slot c.in-Free.number c.in_ok-c.c c.self.invariant within is c.in_ok-c.ensures.ok)))

pub returns-clause-set : goal.returns-clause-set
returns-clause-set c =
    let within = rw (← c.self.view_is) at c.requires.within in
    λ n at. (
    let s = c.self.inside in
    let here = get_or-set_same s.slots.items c.args.slot (Set (Ref c.in_ok-c.c)) (Free 0) within in
    let no : Set (Ref c.in_ok-c.c) ≡ Free n = sym here ∙ at in (cc))

pub returns-clause-freer : goal.returns-clause-freer
returns-clause-freer c =
    let within = rw (← c.self.view_is) at c.requires.within in
    rw (← c.self.view_is) (λ i n lt at.
    let s = c.self.inside in
    let e : Env = record { heap = s.heap; slots = s.slots.items; noted = s.noted.items; boundary = s.boundary; count = s.count } in
    let read = get_or_read s.slots.items c.args.slot c.index.result.now within c.index.ensures (Free 0) in
    let is : slot_at s.slots.items c.args.slot ≡ Free c.in-Free.number = sym read ∙ c.in-Free.is in
    was-free e s.heap c.args.slot c.in-Free.number (Ref c.in_ok-c.c) c.self.invariant within is i n at)
