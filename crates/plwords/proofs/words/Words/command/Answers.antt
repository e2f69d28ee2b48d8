use Rattle.std.proofs.Common.{◌∙◌, ap, map, string_bytes}
use Rattle.plwords.proofs.Answered.{reads, refuses}
use Rattle.plwords.proofs.words.Words.command.Goals as goal

pub returns-clause-read : goal.returns-clause-read
returns-clause-read c =
    let same = ap (map string_bytes) c.deref.ensures.value ∙ c.self.view_is in
    reads (map string_bytes c.deref.result.now) c.args.self.now same c.read.result c.read.ensures.taken c.read.ensures.command

pub returns-clause-usage : goal.returns-clause-usage
returns-clause-usage c =
    let same = ap (map string_bytes) c.deref.ensures.value ∙ c.self.view_is in
    refuses (map string_bytes c.deref.result.now) c.args.self.now same c.read.result c.read.ensures.refused
