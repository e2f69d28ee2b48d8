use Rattle.std.proofs.Common.{◌∙◌, ap₂, sym}
use Rattle.clap.specs.Words.{with_rule}
use Rattle.plwords.proofs.App.{app_is}
use Rattle.plwords.proofs.arguments.command.Goals as goal

pub returns : goal.returns
returns c =
    let one = c.in_ok-arg.ensures.shape c.steps.ensures.local ∙ ap₂ with_rule c.bare.ensures c.steps.ensures.rule in
    let two = c.in_ok-arg-2.ensures.shape c.goal.ensures.local ∙ ap₂ with_rule one c.goal.ensures.rule in
    let three = c.in_ok-arg-3.ensures.shape c.new.ensures.optional.1 ∙ ap₂ with_rule two c.new.ensures.rule in
    c.in_ok-command.ensures.shape c.new-2.ensures.optional.1 ∙ ap₂ with_rule three c.new-2.ensures.rule ∙ sym app_is
