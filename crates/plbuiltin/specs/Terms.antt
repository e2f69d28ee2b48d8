-- Built-in predicates on terms (ISO/IEC 13211-1 8.2).
use Rattle.std.specs.Prelude.{Bool, true, false, List, [], ◌∷◌, Option, Some, None, ℕ}
use Rattle.plterm.specs.Tree.{Tree}
use Rattle.plsubst.specs.Unify.{unify}
use Rattle.plnames.specs.declared.kind.Terms.{Terms}
use Rattle.plnames.specs.declared.kind.Terms.TheVariants.{Unify, Differ}
use Rattle.plprogram.specs.declared.settings.Settings.{Settings}
use Rattle.plbuiltin.specs.Solution.{Solved, fails, unifies, decides}

-- there is no unifier
abbrev pub is_none : Option (ℕ → Tree) → Bool
is_none None = true
is_none (Some σ) = false

abbrev pub on_terms : Terms → List Tree → Settings → Solved
on_terms Unify (a ∷ b ∷ []) settings = unifies a b settings
on_terms Differ (a ∷ b ∷ []) settings = decides (is_none (unify a b)) settings
on_terms b us settings = fails settings
