use Rattle.std.proofs.Common.{◌∙◌, sym, ap, Some, None}
use Rattle.std.specs.Option.{option_map}
use Rattle.plevent.specs.Alive.{change_if, named}
use Rattle.pltx.specs.Walks.{cursor_at}
use Rattle.pltx.proofs.Putting.{found-front}
use Rattle.pltx.proofs.overlay.Overlay.next_front.Goals as goal

pub returns-in-None : goal.returns-in-None
returns-in-None c = λ b h.
    let us = c.args.self.now.updates.items in
    found-front us b c.args.m c.args.pred.now c.args.key.now (cursor_at b c.args.cursor) None (ap (option_map (named b)) (sym c.in-None.is) ∙ c.next_own.ensures b h)

pub returns-then-is_front : goal.returns-then-is_front
returns-then-is_front c = λ b h.
    let us = c.args.self.now.updates.items in
    let x = named b c.in-Some.number in
    sym (ap (λ v. change_if v (Some x) None) (sym c.is_front.ensures ∙ c.if-is_front.true))
    ∙ found-front us b c.args.m c.args.pred.now c.args.key.now (cursor_at b c.args.cursor) (Some x) (ap (option_map (named b)) (sym c.in-Some.is) ∙ c.next_own.ensures b h)

pub returns-else-is_front : goal.returns-else-is_front
returns-else-is_front c = λ b h.
    let us = c.args.self.now.updates.items in
    let x = named b c.in-Some.number in
    sym (ap (λ v. change_if v (Some x) None) (sym c.is_front.ensures ∙ c.if-is_front.false))
    ∙ found-front us b c.args.m c.args.pred.now c.args.key.now (cursor_at b c.args.cursor) (Some x) (ap (option_map (named b)) (sym c.in-Some.is) ∙ c.next_own.ensures b h)
