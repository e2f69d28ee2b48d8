-- Whether a pattern and a message have a unifier.
use Rattle.std.specs.Prelude.{◌≡◌, ℕ, Bool, length, is_some}
use Rattle.plterm.specs.Tree.{Tree}
use Rattle.plterm.specs.Variables.{variables}
use Rattle.plsubst.specs.Subst.{bind, shift}
use Rattle.plsubst.specs.Unify.{unify}

-- each has variables of its own, numbered from 0: those of the message are set apart
abbrev pub fits : Tree → Tree → Bool
fits p m = is_some (unify p (shift (length (variables p)) m))

-- what is put for the variables of each makes them one term
pub record HaveInstance (p m : Tree) : Type 0 where
  pub left : ℕ → Tree
  pub right : ℕ → Tree
  pub same : bind left p ≡ bind right m
