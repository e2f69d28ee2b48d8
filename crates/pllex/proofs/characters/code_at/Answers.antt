use Rattle.std.proofs.Common.{◌+◌, take, sym, ap, subst, ◌∙◌}
use Rattle.std.specs.Str.{IsUtf8}
use Rattle.std.proofs.lemmas.Str.{IsUtf8-from_is_utf8}
use Rattle.pllex.proofs.characters.code_at.Goals as goal

pub returns-in-Err-clause-value : goal.returns-in-Err-clause-value
returns-in-Err-clause-value c =
    let bytes = c.split_at-2.ensures.front ∙ ap (take (c.args.rest + 1)) c.split_at.ensures.back in
    absurd (c.in-Err.ensures.cases.0 (subst IsUtf8 (sym bytes) (IsUtf8-from_is_utf8 _ c.requires.utf8)))
