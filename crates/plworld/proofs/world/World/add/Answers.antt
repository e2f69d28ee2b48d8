use Rattle.std.proofs.Common.{◌++◌, [], ◌∷◌, List, sym, ◌∙◌, ap, subst}
use Rattle.plevent.specs.declared.act.Entry.{Entry}
use Rattle.plworld.specs.Worlds.{IsWorld}
use Rattle.plworld.proofs.Push.{IsWorld-push}
use Rattle.plworld.proofs.world.World.add.Goals as goal

pub invariant_of-self-in-Ok : goal.invariant_of-self-in-Ok
invariant_of-self-in-Ok c =
    let e : Entry = record { worker = c.args.worker; thread = c.args.thread; act = c.args.act } in
    let P : List Entry → Type 0 = λ h. IsWorld h c.change.new.standing c.change.new.store in
    subst P (sym (c.in-Ok.ensures.items ∙ ap (λ l. l ++ e ∷ []) c.reserve.ensures.items))
    (IsWorld-push c.self.inside.journal.items _ _ e _ _ c.self.invariant c.in_ok-change.ensures.standing c.in_ok-change.ensures.store)
