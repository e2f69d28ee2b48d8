-- Texts that are read as numbers.
use Rattle.std.proofs.Common.{◌≡◌, ℕ, List, Ok, refl, sym, ap, ◌∙◌}
use Rattle.plterm.specs.Tree.{Tree}
use Rattle.plcells.specs.Store.{Store}
use Rattle.plorder.specs.Shapes.{IsOfShape}
use Rattle.plorder.specs.declared.shape.Block.{Block}
use Rattle.plorder.specs.declared.shape.Shape.{Shape}
use Rattle.plorder.specs.declared.shape.Shape.TheVariants.{Variable, Integer, Atom, Compound}
use Rattle.plprogram.specs.declared.settings.Settings.{Settings}
use Rattle.plbuiltin.specs.Atoms.{is_number, number_spelled}
use Rattle.plnames.specs.declared.kind.Spelling.{Spelling}
use Rattle.plnumber.specs.Numbers.{number_of}

-- a text is read as a number in place of a variable or an integer
pub number_spelled-text : (h : Store) (k : Spelling) (t l : Tree) (text : List ℕ) (s : Settings) (shape : Shape) → IsOfShape h t shape → ((x : ℕ) → shape ≡ Atom x → ⊥) → ((b : Block) → shape ≡ Compound b → ⊥) →
    number_spelled k t l (Ok text) s ≡ is_number t (number_of text) s
number_spelled-text h k t l text s (Variable x) is no_atom no_compound = ap (λ u. number_spelled k u l (Ok text) s) is ∙ sym (ap (λ u. is_number u (number_of text) s) is)
number_spelled-text h k t l text s (Integer i) is no_atom no_compound = ap (λ u. number_spelled k u l (Ok text) s) is ∙ sym (ap (λ u. is_number u (number_of text) s) is)
number_spelled-text h k t l text s (Atom x) is no_atom no_compound = absurd (no_atom x refl)
number_spelled-text h k t l text s (Compound b) is no_atom no_compound = absurd (no_compound b refl)
