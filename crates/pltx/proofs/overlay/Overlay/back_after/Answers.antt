use Rattle.std.proofs.Common.{◌∙◌, sym}
use Rattle.std.specs.Option.{option_map}
use Rattle.plevent.specs.Alive.{named}
use Rattle.pltx.proofs.Putting.{found-behind, none-behind}
use Rattle.pltx.proofs.overlay.Overlay.back_after.Goals as goal

pub returns-then-is_front : goal.returns-then-is_front
returns-then-is_front c = λ b h.
    none-behind c.args.self.now.updates.items b c.args.m c.args.pred.now c.args.key.now (named b c.args.number) (sym c.is_front.ensures ∙ c.if-is_front.true)

pub returns : goal.returns
returns c = λ b h.
    found-behind c.args.self.now.updates.items b c.args.m c.args.pred.now c.args.key.now (named b c.args.number) (option_map (named b) c.next_own.result) (sym c.is_front.ensures ∙ c.if-is_front.false) (c.next_own.ensures b h)
