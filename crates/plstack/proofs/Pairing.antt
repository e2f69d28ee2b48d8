-- The name of a head and a body as one term, and the atom true over values.
use Rattle.std.proofs.Common.{◌≡◌, ◌∙◌, zero, suc, true, List, codes, refl, ap, arith, lit<}
use Rattle.std.proofs.lemmas.Slice.Eq.{bytes_eq-Decides}
use Rattle.std.specs.Str.{IsAscii}
use Rattle.std.proofs.lemmas.Str.{is_utf8-from_IsUtf8, IsUtf8-from_ascii}
use Rattle.plterm.specs.Tree.{Tree, var, int, atom, compound}
use Rattle.plterm.specs.Reading.{IsName}
use Rattle.plsubst.specs.Subst.{bind}
use Rattle.plcells.specs.declared.cell.Cell.{Cell}
use Rattle.plcells.specs.Store.{Store}
use Rattle.plcells.specs.Putting.{standing}
use Rattle.plsearch.specs.Moves.{is_true}

neck_ascii : IsAscii (codes ":-")
neck_ascii zero = lit< tt
neck_ascii (suc zero) = lit< tt
neck_ascii (suc (suc zero)) = lit< tt
neck_ascii (suc (suc (suc i))) = lit< tt

pub neck_name : IsName (codes ":-")
neck_name = (omega arith, is_utf8-from_IsUtf8 (codes ":-") (IsUtf8-from_ascii (codes ":-") neck_ascii))

true-is : (t : Tree) → is_true t ≡ true → t ≡ atom (codes "true")
true-is (var v) e = cc
true-is (int i) e = cc
true-is (atom f) e = ap atom ((bytes_eq-Decides f (codes "true")).0 e)
true-is (compound f ts) e = cc

bind-true : (h : Store) (vs : List Cell) → bind (standing h vs) (atom (codes "true")) ≡ atom (codes "true")
unfolding bind
bind-true h vs = refl

-- the atom true over values
pub true_over : (h : Store) (vs : List Cell) (t : Tree) → is_true t ≡ true → bind (standing h vs) t ≡ atom (codes "true")
true_over h vs t e = ap (bind (standing h vs)) (true-is t e) ∙ bind-true h vs
