-- The machine with a stack of open levels, and what each of its states still has to meet.
use Rattle.std.specs.Prelude.{◌+◌, nat_lt, if◌then◌else◌, ℕ, zero, suc, List, [], ◌∷◌, drop, Option, Some, None}
use Rattle.plterm.specs.declared.node.Node.TheVariants as nodes
use Rattle.plterm.specs.Tree.{Tree, atom, none}
use Rattle.plterm.specs.Building.{gather, with_node}
use Rattle.plops.specs.declared.table.OpTable.{OpTable}
use Rattle.plread.specs.Signs.{Sign}
use Rattle.plread.specs.Signs as tok
use Rattle.plread.specs.Levels.{Level}
use Rattle.plread.specs.Levels as frames
use Rattle.plread.specs.Texts.{nil, curly, list_term}
use Rattle.plread.specs.Reading.{Start, Stands, Opens, OpensList, OpensCurly, Calls, Before, NoStart, Next, Between, Behind, Stop, start_of, next_of}

-- the greatest priority of the operand that the innermost open level waits for
abbrev pub max_of : List Level → ℕ
max_of [] = 1200
max_of (frames.Bracket ∷ stack) = 1200
max_of (frames.Curly ∷ stack) = 1200
max_of (frames.Elements k ∷ stack) = 999
max_of (frames.Tail k ∷ stack) = 999
max_of (frames.Call n k ∷ stack) = 999
max_of (frames.Before n op ∷ stack) = op.right
max_of (frames.Between n op ∷ stack) = op.right

-- the open levels, the innermost first; the trees of complete operands, the latest first; the priority of
-- the latest, unless an operand is wanted; and the signs that are left
pub record State : Type 0 where
  pub room : ℕ
  pub stack : List Level
  pub trees : List Tree
  pub given : Option ℕ
  pub left : List Sign

pub data After : Type 0 where
  Goes : State → After
  Done : List Tree → After
  Fails : After

-- one more open level, where there is room
abbrev pub opened : ℕ → List Level → List Tree → List Sign → After
opened zero stack trees ts = Fails
opened (suc room) stack trees ts = Goes (record { room = room; stack = stack; trees = trees; given = None; left = ts })

abbrev pub complete : ℕ → List Level → List Tree → ℕ → List Sign → After
complete room stack trees p ts = Goes (record { room = room; stack = stack; trees = trees; given = Some p; left = ts })

-- an operand is wanted
abbrev pub wants : ℕ → List Level → List Tree → Start → After
wants room stack trees (Stands t ts) = complete room stack (t ∷ trees) 0 ts
wants room stack trees (Opens ts) = opened room (frames.Bracket ∷ stack) trees ts
wants room stack trees (OpensList ts) = opened room (frames.Elements 0 ∷ stack) trees ts
wants room stack trees (OpensCurly ts) = opened room (frames.Curly ∷ stack) trees ts
wants room stack trees (Calls n ts) = opened room (frames.Call n 0 ∷ stack) trees ts
wants room stack trees (Before n op ts) = opened room (frames.Before n op ∷ stack) trees ts
wants room stack trees NoStart = Fails

-- the innermost bracket is closed
abbrev pub closes : ℕ → List Level → List Tree → List Sign → After
closes room stack trees (tok.Close ∷ ts) = complete (suc room) stack trees 0 ts
closes room stack trees ts = Fails

-- the braces are closed
abbrev pub curls : ℕ → List Level → List Tree → List Sign → After
curls room stack trees (tok.CloseCurly ∷ ts) = complete (suc room) stack (with_node (nodes.Compound curly 1) trees) 0 ts
curls room stack trees ts = Fails

-- an operand is wanted inside a level that takes the place of one that was open
abbrev pub goes_in : ℕ → List Level → List Tree → List Sign → After
goes_in room stack trees ts = Goes (record { room = room; stack = stack; trees = trees; given = None; left = ts })

-- an argument is complete, behind k others
abbrev pub argues : List ℕ → ℕ → ℕ → List Level → List Tree → List Sign → After
argues n k room stack trees (tok.Close ∷ ts) = if nat_lt k 1024 then complete (suc room) stack (with_node (nodes.Compound n (suc k)) trees) 0 ts else Fails
argues n k room stack trees (tok.Comma ∷ ts) = if nat_lt k 1023 then goes_in room (frames.Call n (suc k) ∷ stack) trees ts else Fails
argues n k room stack trees ts = Fails

-- the latest tree is the tail of a list of the k before it
abbrev pub with_tail : ℕ → List Tree → List Tree
with_tail k [] = []
with_tail k (tail ∷ trees) = list_term (gather k trees none) tail ∷ drop k trees

-- an element is complete, behind k others
abbrev pub lists : ℕ → ℕ → List Level → List Tree → List Sign → After
lists k room stack trees (tok.CloseSquare ∷ ts) = complete (suc room) stack (with_tail (suc k) (atom nil ∷ trees)) 0 ts
lists k room stack trees (tok.Comma ∷ ts) = goes_in room (frames.Elements (suc k) ∷ stack) trees ts
lists k room stack trees (tok.Bar ∷ ts) = goes_in room (frames.Tail (suc k) ∷ stack) trees ts
lists k room stack trees ts = Fails

-- the tail is complete, behind k elements
abbrev pub tails : ℕ → ℕ → List Level → List Tree → List Sign → After
tails k room stack trees (tok.CloseSquare ∷ ts) = complete (suc room) stack (with_tail k trees) 0 ts
tails k room stack trees ts = Fails

abbrev pub ends : List Tree → List Sign → After
ends trees (tok.End ∷ []) = Done trees
ends trees ts = Fails

-- an operand is complete, and no operator extends it
abbrev pub stops : ℕ → List Level → List Tree → List Sign → After
stops room [] trees ts = ends trees ts
stops room (frames.Bracket ∷ stack) trees ts = closes room stack trees ts
stops room (frames.Curly ∷ stack) trees ts = curls room stack trees ts
stops room (frames.Elements k ∷ stack) trees ts = lists k room stack trees ts
stops room (frames.Tail k ∷ stack) trees ts = tails k room stack trees ts
stops room (frames.Call n k ∷ stack) trees ts = argues n k room stack trees ts
stops room (frames.Before n op ∷ stack) trees ts = complete (suc room) stack (with_node (nodes.Compound n 1) trees) op.priority ts
stops room (frames.Between n op ∷ stack) trees ts = complete (suc room) stack (with_node (nodes.Compound n 2) trees) op.priority ts

abbrev pub goes_on : ℕ → List Level → List Tree → List Sign → Next → After
goes_on room stack trees ts (Between n op inside) = opened room (frames.Between n op ∷ stack) trees inside
goes_on room stack trees ts (Behind n op behind) = complete room stack (with_node (nodes.Compound n 1) trees) op.priority behind
goes_on room stack trees ts Stop = stops room stack trees ts

abbrev pub step_at : OpTable → ℕ → List Level → List Tree → Option ℕ → List Sign → After
step_at ops room stack trees None ts = wants room stack trees (start_of ops (max_of stack) ts)
step_at ops room stack trees (Some p) ts = goes_on room stack trees ts (next_of ops (max_of stack) p ts)

abbrev pub step : OpTable → State → After
step ops s = step_at ops s.room s.stack s.trees s.given s.left

-- how many complete operands the open levels hold, and whether the latest is given
abbrev pub held : List Level → ℕ
held [] = 0
held (frames.Bracket ∷ stack) = held stack
held (frames.Curly ∷ stack) = held stack
held (frames.Elements k ∷ stack) = k + held stack
held (frames.Tail k ∷ stack) = k + held stack
held (frames.Call n k ∷ stack) = k + held stack
held (frames.Before n op ∷ stack) = held stack
held (frames.Between n op ∷ stack) = suc (held stack)

abbrev pub one_if : Option ℕ → ℕ
one_if None = 0
one_if (Some p) = 1
