use Rattle.std.proofs.Common.{rules}
use Rattle.plcells.specs.Store.{value}
use Rattle.plbuiltin.specs.Solution.{unifies}
use Rattle.planswers.proofs.Forwarding.{forwarded}
use Rattle.plread.specs.Texts.{char_tree}
use Rattle.plbuiltin.specs.Atoms.{char_code}
use Rattle.pltexts.proofs.atoms.char_code.Goals as goal

pub returns-in-Ok-clause-is : goal.returns-in-Ok-clause-is
returns-in-Ok-clause-is c =
    let h = c.args.heap.now in
    let v = value h c.args.c in
    forwarded c.is_character.result h (λ s n. unifies v (char_tree c.in-Ok.found) s) (λ s n. char_code v (value h c.args.code) s) (c.is_character.ensures.is h) (λ s n. search rules)

pub returns-in-Ok-clause-there : goal.returns-in-Ok-clause-there
returns-in-Ok-clause-there c = c.is_character.ensures.there c.args.heap.now c.requires.character
