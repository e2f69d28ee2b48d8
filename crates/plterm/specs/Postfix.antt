-- Nodes each behind its arguments, and how they come to stand before them.
use Rattle.std.specs.Prelude.{◌≡◌, ℕ, zero, suc, ◌≤◌, List, [], ◌∷◌, length, drop}
use Rattle.plterm.specs.declared.node.Node.{Node}
use Rattle.plterm.specs.declared.postfix.Open.{Open}
use Rattle.plterm.specs.Tree.{Tree}
use Rattle.plterm.specs.Reading.{arity, read, Fits}
use Rattle.plterm.specs.Building.{with_node}

-- behind these trees each node fits, and finds its arguments
abbrev pub IsPostfixBehind : List Tree → List Node → Type 0
IsPostfixBehind trees [] = Unit {0}
IsPostfixBehind trees (n ∷ ns) = Fits n × (arity n ≤ length trees) × IsPostfixBehind (with_node n trees) ns

abbrev pub IsPostfix : List Node → Type 0
IsPostfix ns = IsPostfixBehind [] ns

-- the first n trees, moved one after another to the front of those behind
abbrev pub moved : ℕ → List Tree → List Tree → List Tree
moved zero trees behind = behind
moved (suc n) [] behind = behind
moved (suc n) (t ∷ trees) behind = moved n trees (t ∷ behind)

-- all trees, moved so
abbrev pub all_moved : List Tree → List Tree → List Tree
all_moved [] behind = behind
all_moved (t ∷ trees) behind = all_moved trees (t ∷ behind)

-- What is behind at the end: each open node, the innermost first, waits for so many of the trees, and then takes its arguments.
abbrev pub closed : List Open → List Tree → List Tree → List Tree
closed [] trees behind = all_moved trees behind
closed (o ∷ rest) trees behind = closed rest (drop o.left trees) (read o.node (moved o.left trees behind))

-- each open node fits, and will find its arguments
abbrev pub IsReady : List Open → List Tree → List Tree → Type 0
IsReady [] trees behind = Unit {0}
IsReady (o ∷ rest) trees behind =
    Fits o.node × (o.left ≤ length trees) × (arity o.node ≤ length (moved o.left trees behind)) × IsReady rest (drop o.left trees) (read o.node (moved o.left trees behind))

-- the same where the next tree is not counted any more
abbrev pub awaited : List Open → List Tree → List Tree → List Tree
awaited waiting [] behind = behind
awaited waiting (t ∷ trees) behind = closed waiting trees (t ∷ behind)

abbrev pub IsAwaiting : List Open → List Tree → List Tree → Type 0
IsAwaiting waiting [] behind = waiting ≡ []
IsAwaiting waiting (t ∷ trees) behind = IsReady waiting trees (t ∷ behind)
