-- Terms that nothing makes equal which is put for their variables, be they those of one or of both.
use Rattle.std.specs.Prelude.{◌≡◌, ℕ, List}
use Rattle.plterm.specs.Tree.{Tree, trees}
use Rattle.plsubst.specs.Subst.{bind, bind_all}

abbrev pub AreApart : Tree → Tree → Type 0
AreApart a b = (σ τ : ℕ → Tree) → bind σ a ≡ bind τ b → ⊥

-- terms one after another
abbrev pub ListsApart : List Tree → List Tree → Type 0
ListsApart ts us = (σ τ : ℕ → Tree) → bind_all σ (trees ts) ≡ bind_all τ (trees us) → ⊥
