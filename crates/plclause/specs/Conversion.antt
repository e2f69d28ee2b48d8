-- Terms converted to bodies, as ISO/IEC 13211-1 7.6.2 has it.
use Rattle.std.specs.Prelude.{◌==◌, ◌&&◌, ◌||◌, ℕ, Bool, if◌then◌else◌, List, length, codes, Option, Some, None, option_map, option_and_then}
use Rattle.std.specs.Str.{bytes_eq}
use Rattle.plterm.specs.Tree.{Tree, var, int, atom, compound, Trees, none, more, list_of}

-- `,`, `;` and `->` of two arguments, whose arguments are goals
abbrev pub is_control : List ℕ → ℕ → Bool
is_control name arity = (arity == 2) && (bytes_eq name (codes ",") || bytes_eq name (codes ";") || bytes_eq name (codes "->"))

-- the goal that a term stands for: a variable is called, a number is none, and control constructs hold goals
abbrev mutual
  pub converted : Tree → Option Tree
  converted (var v) = Some (compound (codes "call") (more (var v) none))
  converted (int i) = None
  converted (atom s) = Some (atom s)
  converted (compound s ts) = if is_control s (length (list_of ts)) then option_map (compound s) (all_converted ts) else Some (compound s ts)

  -- each of the terms, if each is convertible
  pub all_converted : Trees → Option Trees
  all_converted none = Some none
  all_converted (more t ts) = option_and_then (λ u. option_map (more u) (all_converted ts)) (converted t)
