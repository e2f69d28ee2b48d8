use Rattle.std.proofs.Common.{◌≡◌, ◌≤◌, length, rules, arith, ap, ◌∙◌, w32, pos}
use Rattle.std.specs.Str.{chars}
use Rattle.std.proofs.lemmas.Int.{to_z_pos}
use Rattle.std.proofs.lemmas.Str.{chars_from_encodes, IsUtf8-from_is_utf8}
use Rattle.plgenerator.proofs.Offsets.{chars-le}
use Rattle.pltexts.proofs.atoms.characters.Goals as goal

pub returns : goal.returns
returns c =
    let is : c.count.result ≡ length (chars c.args.name.now) = search (rules, chars_from_encodes) in
    let few : length (chars c.args.name.now) ≤ length c.args.name.now = chars-le c.args.name.now (IsUtf8-from_is_utf8 _ c.requires.1) in
    to_z_pos w32 c.count.result (omega (arith, is, few, c.requires.0)) ∙ ap pos is
