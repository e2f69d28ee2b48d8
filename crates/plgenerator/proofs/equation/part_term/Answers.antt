use Rattle.std.proofs.Common.{◌≡◌, ℤ, pos, [], ◌∷◌, take, drop, ap, ◌∙◌, rules, w64, FitsSigned}
use Rattle.std.proofs.lemmas.Int.{to_z-of_z}
use Rattle.std.specs.Str.{chars}
use Rattle.std.proofs.lemmas.Result.{IfOk-weaker}
use Rattle.plterm.specs.Tree.{int, atom}
use Rattle.plbuiltin.specs.Solution.{together}
use Rattle.plbuiltin.specs.Pieces.{atom_spelled}
use Rattle.plgenerator.proofs.Equations.{told}
use Rattle.plgenerator.proofs.equation.part_term.Goals as goal

pub returns : goal.returns
returns c =
    let text = c.args.text.now in
    let p = c.args.part in
    let k = p.offset.characters in
    let name : atom c.in_ok-name.name ≡ atom_spelled (take p.length (drop k (chars text))) = ap atom c.in_ok-name.ensures.is in
    let x : FitsSigned w64 c.into.result = search rules in
    let y : FitsSigned w64 c.into-2.result = search rules in
    let z : FitsSigned w64 c.into-3.result = search rules in
    let ints : (x y z : ℤ) → x ≡ pos k → y ≡ pos p.length → z ≡ pos p.after → together (int x ∷ int y ∷ int z ∷ atom c.in_ok-name.name ∷ []) ≡ told (chars text) k p.length p.after =
    λ x y z e f g. cc (e, f, g, name) in
    IfOk-weaker c.four.result _ (λ t. t ≡ told (chars text) k p.length p.after) (λ t is. is ∙ ints _ _ _ (to_z-of_z w64 c.into.result x ∙ c.into.ensures) (to_z-of_z w64 c.into-2.result y ∙ c.into-2.ensures) (to_z-of_z w64 c.into-3.result z ∙ c.into-3.ensures)) c.four.ensures
