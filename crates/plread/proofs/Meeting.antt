-- The meaning of a stack. The operand that the innermost level waited for is complete and extended as far as
-- it goes: with the trees so far and the signs that are left, the whole spells a tree.
use Rattle.std.specs.Prelude.{◌≡◌, ◌≤◌, ◌+◌, ℕ, suc, List, [], ◌∷◌, drop, Option, Some, None, ◌⊎◌}
use Rattle.plterm.specs.declared.node.Node.TheVariants as nodes
use Rattle.plterm.specs.Tree.{Tree, Trees, atom, compound, none}
use Rattle.plterm.specs.Building.{gather, with_node}
use Rattle.plops.specs.declared.table.OpTable.{OpTable}
use Rattle.plread.specs.Signs.{Sign}
use Rattle.plread.specs.Signs as tok
use Rattle.plread.specs.Levels.{Level}
use Rattle.plread.specs.Levels as frames
use Rattle.plread.specs.Texts.{nil, curly, list_term}
use Rattle.plread.specs.Reading.{next_of, Reads, Extends, Arguments, Elements, count}
use Rattle.plread.specs.Machine.{State, After, Goes, Done, Fails, max_of, with_tail}

-- the latest tree is an operand of this priority, which is extended as far as it goes, and then meets what is asked
abbrev pub Extended : OpTable → ℕ → ℕ → List Tree → ℕ → List Sign → (List Tree → ℕ → List Sign → Type 0) → Type 0
Extended ops room max [] p ts Asked = ⊥
Extended ops room max (t ∷ trees) p ts Asked =
    (u : Tree) × (q : ℕ) × (rest : List Sign) × Extends ops room max (next_of ops max p ts) t p ts u q rest × Asked (u ∷ trees) q rest

-- the functor with its arguments: the latest k trees, and those that are still to come
abbrev pub with_args : List ℕ → ℕ → Trees → List Tree → List Tree
with_args n k args trees = compound n (gather k trees args) ∷ drop k trees

-- behind an argument: the closing bracket, or a comma and further arguments
abbrev pub Follow : OpTable → ℕ → List Sign → Trees → List Sign → Type 0
Follow ops room ts args rest =
    ((ts ≡ tok.Close ∷ rest) × (args ≡ none)) ⊎ ((mid : List Sign) × (ts ≡ tok.Comma ∷ mid) × Arguments ops room mid args rest)

-- the elements, those to come too, and the tail
abbrev pub with_list : ℕ → Trees → Tree → List Tree → List Tree
with_list k items tail trees = list_term (gather k trees items) tail ∷ drop k trees

-- behind an element: the closing bracket, a bar and the tail, or a comma and further elements
abbrev pub FollowList : OpTable → ℕ → List Sign → Trees → Tree → List Sign → Type 0
FollowList ops room ts items tail rest =
    ((ts ≡ tok.CloseSquare ∷ rest) × (items ≡ none) × (tail ≡ atom nil))
    ⊎ (((mid : List Sign) × (q : ℕ) × (ts ≡ tok.Bar ∷ mid) × (items ≡ none) × Reads ops room 999 mid tail q (tok.CloseSquare ∷ rest))
    ⊎ ((mid : List Sign) × (ts ≡ tok.Comma ∷ mid) × Elements ops room mid items tail rest))

-- where an operand is complete inside the open levels
abbrev pub Completes : OpTable → ℕ → List Level → Tree → List Tree → ℕ → List Sign → Type 0
Completes ops room [] whole trees p ts = (ts ≡ tok.End ∷ []) × (trees ≡ whole ∷ [])
Completes ops room (frames.Bracket ∷ stack) whole trees p ts =
    (rest : List Sign) × (ts ≡ tok.Close ∷ rest) × Extended ops (suc room) (max_of stack) trees 0 rest (Completes ops (suc room) stack whole)
Completes ops room (frames.Curly ∷ stack) whole trees p ts =
    (rest : List Sign) × (ts ≡ tok.CloseCurly ∷ rest)
    × Extended ops (suc room) (max_of stack) (with_node (nodes.Compound curly 1) trees) 0 rest (Completes ops (suc room) stack whole)
Completes ops room (frames.Elements k ∷ stack) whole trees p ts =
    (items : Trees) × (tail : Tree) × (rest : List Sign) × FollowList ops room ts items tail rest
    × Extended ops (suc room) (max_of stack) (with_list (suc k) items tail trees) 0 rest (Completes ops (suc room) stack whole)
Completes ops room (frames.Tail k ∷ stack) whole trees p ts =
    (rest : List Sign) × (ts ≡ tok.CloseSquare ∷ rest)
    × Extended ops (suc room) (max_of stack) (with_tail k trees) 0 rest (Completes ops (suc room) stack whole)
Completes ops room (frames.Call n k ∷ stack) whole trees p ts =
    (args : Trees) × (rest : List Sign) × Follow ops room ts args rest × (suc k + count args ≤ 1024)
    × Extended ops (suc room) (max_of stack) (with_args n (suc k) args trees) 0 rest (Completes ops (suc room) stack whole)
Completes ops room (frames.Before n op ∷ stack) whole trees p ts =
    Extended ops (suc room) (max_of stack) (with_node (nodes.Compound n 1) trees) op.priority ts (Completes ops (suc room) stack whole)
Completes ops room (frames.Between n op ∷ stack) whole trees p ts =
    Extended ops (suc room) (max_of stack) (with_node (nodes.Compound n 2) trees) op.priority ts (Completes ops (suc room) stack whole)

-- where an operand is wanted
abbrev pub Wanted : OpTable → ℕ → List Level → Tree → List Tree → List Sign → Type 0
Wanted ops room stack whole trees ts =
    (t : Tree) × (p : ℕ) × (rest : List Sign) × Reads ops room (max_of stack) ts t p rest × Completes ops room stack whole (t ∷ trees) p rest

abbrev pub Given : OpTable → ℕ → List Level → Tree → List Tree → ℕ → List Sign → Type 0
Given ops room stack whole trees p ts = Extended ops room (max_of stack) trees p ts (Completes ops room stack whole)

abbrev pub Meets_at : OpTable → ℕ → List Level → Tree → List Tree → Option ℕ → List Sign → Type 0
Meets_at ops room stack whole trees None ts = Wanted ops room stack whole trees ts
Meets_at ops room stack whole trees (Some p) ts = Given ops room stack whole trees p ts

-- from the state on the whole spells this tree
abbrev pub Meets : OpTable → State → Tree → Type 0
Meets ops s whole = Meets_at ops s.room s.stack whole s.trees s.given s.left

-- the same of what a step gives
abbrev pub MeetsAfter : OpTable → After → Tree → Type 0
MeetsAfter ops (Goes s) whole = Meets ops s whole
MeetsAfter ops (Done trees) whole = trees ≡ whole ∷ []
MeetsAfter ops Fails whole = ⊥
