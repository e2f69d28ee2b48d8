use Rattle.std.proofs.Common.{subst}
use Rattle.std.specs.Prelude.{IsOk}
use Rattle.std.proofs.lemmas.Bool.{false≢true}
use Rattle.std.proofs.lemmas.Str.{IsUtf8-from_is_utf8}
use Rattle.pllex.proofs.value.as_text.Goals as goal

pub returns : goal.returns
returns c = let ok = c.from_utf8.ensures.succeeds (IsUtf8-from_is_utf8 c.args.bytes.items c.requires) in absurd (false≢true (subst IsOk c.in-Err.is ok))
