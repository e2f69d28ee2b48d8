use Rattle.std.proofs.Common.{◌∙◌}
use Rattle.plgenerator.proofs.Offsets.{back-is, boundary}
use Rattle.plgenerator.proofs.text.behind.Goals as goal

pub split_at-requires : goal.split_at-requires
split_at-requires c = boundary c.args.text.now c.args.offset.characters c.args.offset.bytes c.utf8.text c.requires.bytes

pub returns : goal.returns
returns c = c.split_at.ensures.back ∙ back-is c.args.text.now c.args.offset.characters c.args.offset.bytes c.utf8.text c.requires.bytes
