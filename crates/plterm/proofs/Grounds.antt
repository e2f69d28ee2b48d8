-- Terms without variables, by their nodes.
use Rattle.std.proofs.Common.{◌≡◌, ℕ, Bool, true, false, not, ◌&&◌, ◌||◌, List, [], ◌∷◌, ◌++◌, map, reverse, refl, sym, ap, ap₂, ◌∙◌, append_assoc}
use Rattle.std.specs.List.{list_any}
use Rattle.std.proofs.lemmas.List.{reverse-append}
use Rattle.std.proofs.lemmas.List.Folds.{list_any-append}
use Rattle.plterm.specs.declared.node.Node.{Node}
use Rattle.plterm.specs.declared.node.Node.TheVariants.{Var, Int, Atom, Compound}
use Rattle.plterm.specs.Tree.{Tree, var, int, atom, compound, Trees, none, more}
use Rattle.plterm.specs.Reading.{spelling, spellings, tree_of, IsTerm}
use Rattle.plterm.proofs.Spellings.{spelling-tree_of}
use Rattle.plterm.specs.Variables.{renamed, all_renamed, seen_after, variables}
use Rattle.plterm.specs.Ground.{is_ground, are_ground, is_var}

both : (p q : Bool) → not (p || q) ≡ (not p && not q)
both true q = refl
both false q = refl

mutual
  unfolding is_ground

  pub ground-nodes : (t : Tree) → not (list_any is_var (spelling t)) ≡ is_ground t
  ground-nodes (var v) = refl
  ground-nodes (int i) = refl
  ground-nodes (atom s) = refl
  ground-nodes (compound s ts) = grounds-nodes ts

  pub grounds-nodes : (ts : Trees) → not (list_any is_var (spellings ts)) ≡ are_ground ts
  grounds-nodes none = refl
  grounds-nodes (more t ts) =
      ap not (list_any-append is_var (spelling t) (spellings ts))
      ∙ both (list_any is_var (spelling t)) (list_any is_var (spellings ts))
      ∙ ap₂ (λ p q. p && q) (ground-nodes t) (grounds-nodes ts)

either : (p q : Bool) → (p || (q || false)) ≡ (q || p)
either true true = refl
either true false = refl
either false true = refl
either false false = refl

-- from whichever end
pub any-reverse : (ns : List Node) → list_any is_var (reverse ns) ≡ list_any is_var ns
any-reverse [] = refl
any-reverse (n ∷ ns) =
    ap (list_any is_var) (reverse-append (n ∷ []) ns)
    ∙ list_any-append is_var (reverse ns) (n ∷ [])
    ∙ either (list_any is_var (reverse ns)) (is_var n)
    ∙ ap (λ q. is_var n || q) (any-reverse ns)

-- no variable among the nodes of a term
pub ground-is : (ns : List Node) → IsTerm (reverse ns) → not (list_any is_var ns) ≡ is_ground (tree_of (reverse ns))
ground-is ns whole =
    ap not (sym (any-reverse ns) ∙ ap (list_any is_var) (sym (spelling-tree_of (reverse ns) whole)))
    ∙ ground-nodes (tree_of (reverse ns))
